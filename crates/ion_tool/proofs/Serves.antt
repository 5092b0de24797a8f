-- What a run over an input whose lines may be counted is for the input itself.
use Rattle.std.proofs.Common.{arith, ◌≡◌, inl, inr, ◌↔◌, ℕ, ◌+◌, ◌<◌, ◌≤◌, Bool, true, false, List, [], Result, Err, refl, sym, ap, subst, ◌∙◌, append-nil}
use Rattle.std.specs.Prelude.{◌≢◌, max}
use Rattle.ion_meter.specs.Counts.{Counts}
use Rattle.ion_meter.proofs.ReadOn.{reads-seen}
use Rattle.ion_meter.specs.Devices.{AfterReads, unread, read_on, IsReadOn}
use Rattle.ion_meter.specs.declared.device.Input.{Ghosts as InputOf}
use Rattle.ion_meter.specs.declared.device.Output.{Ghosts as OutputOf}
use Rattle.ion_meter.specs.declared.fault.Fault.{Fault}
use Rattle.ion_meter.specs.declared.fault.Fault.TheVariants.{Memory, ReadFault, WriteFault}
use Rattle.ion_meter.specs.declared.limits.Limits.{Limits}
use Rattle.ion_value.specs.Shares.{Charges}
use Rattle.ion_symbols.specs.Table.{Shared}
use Rattle.ion_transcode.specs.Forms.{form_of}
use Rattle.ion_transcode.specs.declared.to.Form.{Form}
use Rattle.ion_transcode.specs.declared.to.Form.TheVariants as form
use Rattle.ion_transcode.specs.declared.to.Summary.{Summary}
use Rattle.ion_tool.specs.Counting.{counter_input, Counting}
use Rattle.ion_tool.specs.Serving.{marks_cost, run_bound, served_bound, HasSuffix, IsAnswered, IsSuffix, IsWanted, Keeps}
use Rattle.ion_tool.specs.declared.words.Task.{Task}
use Rattle.ion_tool.proofs.Placing.{Comes}

-- whether bytes are observable is as before reads
reads-unseen : {I : Type 0} (device : InputOf I) (first last : I) (bytes : List ℕ) → AfterReads device first bytes last → device.observable last → device.observable first
reads-unseen device first last bytes unread o = o
reads-unseen device first last bytes (read_on earlier more before after done yields seen gave) o = reads-unseen device first before earlier done (seen.0 o)

-- an answer that blames the input in the place of a refusal agrees with the bytes too
pub answered : {I : Type 0} (input : InputOf I) (middle last : I) (label : List ℕ) (catalog : List Shared) (asked : Task) (limits : Limits) (bytes before after : List ℕ) (answer result : Result Summary Fault)
    → Comes input middle last answer result → IsAnswered label catalog asked limits bytes before after answer → IsAnswered label catalog asked limits bytes before after result
answered input middle last label catalog asked limits bytes before after answer result (inl (same, steady)) is =
    subst (λ (a : Result Summary Fault). IsAnswered label catalog asked limits bytes before after a) (sym same) is
answered input middle last label catalog asked limits bytes before after answer result (inr (r, p, refused, fault, count)) is =
    subst (λ (a : Result Summary Fault). IsAnswered label catalog asked limits bytes before after a) (sym fault) (record { says = tt; prefix = is.prefix })

wanted : (lines : Bool) (old new : Counts) → old.refused < new.refused → IsWanted lines old new
wanted false old new more = more
wanted true old new more = inl more

-- what a run keeps, with what was held for the lines before it, and given back after
module _ {I O : Type 0} (input : InputOf I) (output : OutputOf O) (asked : Task) (limits : Limits) (answer result : Result Summary Fault) (old begun ran new : Counts)
    (first middle last : Counting I) (device : I) (out_old out_new : O) (is_first : first.device ≡ device) (begins : Charges old begun 0 (marks_cost asked.lines) (marks_cost asked.lines))
    (begins_refused : begun.refused ≡ old.refused) (run : Keeps (counter_input input) output false (run_bound asked limits) answer begun ran first middle out_old out_new)
    (held : new.held + marks_cost asked.lines ≡ ran.held) (peak : new.peak ≡ ran.peak) (refused : new.refused ≡ ran.refused) (onward : IsReadOn (counter_input input) middle last) where
  -- the most that is held
  most : (f : Form) → ran.peak ≤ max begun.peak (begun.held + run_bound asked limits f) → new.peak ≤ max old.peak (old.held + served_bound asked limits f)
  most f least = omega (arith, begins.peak, begins.held)

  same_first : input.failure_count first.device ≡ input.failure_count device
  same_first = ap input.failure_count is_first

  seen : input.observable last.device ↔ input.observable device
  seen = (
    λ o. subst (λ (d : I). input.observable d) is_first (run.input_still_observable.0 (reads-unseen (counter_input input) middle last onward.bytes onward.reads o)),
    λ o. reads-seen (counter_input input) middle last onward.bytes onward.reads (run.input_still_observable.1 (subst (λ (d : I). input.observable d) (sym is_first) o)),
  )

  pub kept-same : input.failure_count last.device ≡ input.failure_count middle.device
      → Keeps input output asked.lines (served_bound asked limits) answer old new device last.device out_old out_new
  kept-same steady = record {
    memory = λ e. wanted asked.lines old new (omega (arith, run.memory e, begins_refused, refused));
    counted = λ other. refused ∙ (run.counted other ∙ begins_refused);
    read = λ e. omega (arith, run.read e, same_first);
    reads_steady = λ other. omega (arith, run.reads_steady other, same_first);
    write = run.write;
    steady = run.steady;
    grown = run.grown;
    input_still_observable = seen;
    still_observable = run.still_observable;
    held = omega (arith, run.held, begins.held);
    peak = most form.Text run.peak;
    peak_of_form = λ s e. most s.form (run.peak_of_form s e);
    peak_of_binary = λ o is. most form.Binary (run.peak_of_binary (subst (λ (d : I). input.observable d) (sym is_first) o) (ap (λ (d : I). form_of (input.rest d)) is_first ∙ is));
  }

  pub kept-failed : (answer ≢ Err Memory) → (answer ≢ Err ReadFault) → (answer ≢ Err WriteFault) → input.failure_count last.device ≡ input.failure_count middle.device + 1
      → Keeps input output asked.lines (served_bound asked limits) (Err ReadFault) old new device last.device out_old out_new
  kept-failed no_memory no_read no_write count = record {
    memory = λ e. absurd (cc e);
    counted = λ other. refused ∙ (run.counted no_memory ∙ begins_refused);
    read = λ e. omega (arith, run.reads_steady no_read, same_first);
    reads_steady = λ other. absurd (other refl);
    write = λ e. absurd (cc e);
    steady = λ other. run.steady no_write;
    grown = run.grown;
    input_still_observable = seen;
    still_observable = run.still_observable;
    held = omega (arith, run.held, begins.held);
    peak = most form.Text run.peak;
    peak_of_form = λ s e. absurd (cc e);
    peak_of_binary = λ o is. most form.Binary (run.peak_of_binary (subst (λ (d : I). input.observable d) (sym is_first) o) (ap (λ (d : I). form_of (input.rest d)) is_first ∙ is));
  }

  pub kept : Comes input middle.device last.device answer result → Keeps input output asked.lines (served_bound asked limits) result old new device last.device out_old out_new
  kept (inl (same, steady)) =
      subst (λ (a : Result Summary Fault). Keeps input output asked.lines (served_bound asked limits) a old new device last.device out_old out_new) (sym same) (kept-same steady)
  kept (inr (r, p, refused, fault, count)) =
      subst (λ (a : Result Summary Fault). Keeps input output asked.lines (served_bound asked limits) a old new device last.device out_old out_new) (sym fault)
      (kept-failed (λ e. cc (sym refused ∙ e)) (λ e. cc (sym refused ∙ e)) (λ e. cc (sym refused ∙ e)) count)

-- there was no memory to count lines, and nothing was done
pub none-kept : {I O : Type 0} (input : InputOf I) (output : OutputOf O) (asked : Task) (limits : Limits) (old new : Counts) (device given : I) (out : O) → given ≡ device
    → Charges old new 0 0 (marks_cost asked.lines) → IsWanted asked.lines old new → Keeps input output asked.lines (served_bound asked limits) (Err Memory) old new device given out out
none-kept {I} input output asked limits old new device given out same charges wants =
    subst (λ (d : I). Keeps input output asked.lines (served_bound asked limits) (Err Memory) old new device d out out) (sym same) (record {
      memory = λ e. wants;
      counted = λ other. absurd (other refl);
      read = λ e. absurd (cc e);
      reads_steady = λ other. refl;
      write = λ e. absurd (cc e);
      steady = λ other. refl;
      grown = λ o. ([], sym (append-nil (output.written out)));
      input_still_observable = (λ o. o, λ o. o);
      still_observable = (λ o. o, λ o. o);
      held = omega (arith, charges.held);
      peak = omega (arith, charges.peak);
      peak_of_form = λ s e. absurd (cc e);
      peak_of_binary = λ o is. omega (arith, charges.peak);
    })

pub none-answered : (label : List ℕ) (catalog : List Shared) (asked : Task) (limits : Limits) (bytes before : List ℕ) → IsAnswered label catalog asked limits bytes before before (Err Memory)
none-answered label catalog asked limits bytes before = record { says = tt; prefix = λ verdict output outcome. (output, refl) }

pub none-suffixed : {I : Type 0} (input : InputOf I) (lines : Bool) (device given : I) → given ≡ device → HasSuffix input lines device given (Err Memory) []
none-suffixed {I} input lines device given same =
    subst (λ (d : I). HasSuffix input lines device d (Err Memory) []) (sym same)
    (record { bytes = input.rest device; read = []; of_input = λ o. refl; reads = unread; prefix = (input.rest device, refl); is = by_lines lines })
  where
    by_lines : (lines : Bool) → IsSuffix lines (input.rest device) [] (Err Memory) []
    by_lines false = refl
    by_lines true = refl
