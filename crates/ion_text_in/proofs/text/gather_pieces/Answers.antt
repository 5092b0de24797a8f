use Rattle.std.proofs.Common.{◌≡◌, ◌<◌, ◌≤◌, ◌++◌, ◌∙◌, List, ℕ, length, Ok, Err, ap, arith}
use Rattle.std.proofs.lemmas.Grind.{common_steps}
use Rattle.std.proofs.lemmas.List.{length-append}
use Rattle.ion_meter.specs.Counts.{Counts}
use Rattle.ion_meter.specs.declared.device.Input.{Ghosts as InputOf}
use Rattle.ion_meter.specs.declared.fault.Reason.TheVariants.{BadLob, BadText, Truncated}
use Rattle.ion_meter.specs.declared.profile.Rules.{Rules}
use Rattle.ion_meter.specs.Sources.{cursor}
use Rattle.ion_meter.specs.Windows.{Incoming}
use Rattle.ion_value.specs.Calls.{Reads}
use Rattle.ion_text_in.specs.Pieces.{bytes_of}
use Rattle.ion_text_in.specs.Quotes.{quote_of}
use Rattle.ion_text_in.specs.Gathered.{Gathers, Puts, onward}
use Rattle.ion_text_in.proofs.Gathering.{meant-few, continues-err, continues-puts}
use Rattle.ion_text_in.proofs.GatherCalls.{gathers-then, gathers-over, gathers-put, gathers-refused, gathers-as, gathers-fault}
use Rattle.ion_text_in.proofs.Holding.{handed-on}
use Rattle.ion_text_in.proofs.text.gather_pieces.Goals as goal

pub returns-in_err-put_meant-in-Text-clause-gives : goal.returns-in_err-put_meant-in-Text-clause-gives
returns-in_err-put_meant-in-Text-clause-gives g c = λ h.
    let f = c.in_err-put_meant-in-Text.field-0.0 in
    let limit = c.args.limits.scalar in
    let d = cursor g.I.Input c.next_piece.new.source in
    let hs = c.pieces.invariant.gathers.reads.moves.still_observable.1 h in
    let ht = c.in_ok-take_plain.ensures.gathers.reads.moves.still_observable.1 hs in
    let same = c.pieces.invariant.same h ∙ c.in_ok-take_plain.ensures.gives hs ∙ rw c.in-Text.is at (c.in_ok-meant.ensures.gives ht limit c.take_plain.new.text) in
    rw (handed-on c.from_residual-in_err-put_meant-in-Text.result f c.from_residual-in_err-put_meant-in-Text.ensures) (continues-err _ _ f c.args.place (λ e k. same ∙ k)
    (continues-puts {T = Unit {0}} (Err f) c.take_plain.new.text c.put_meant.new.text (bytes_of c.in-Text.meant) limit c.args.place (λ (l : List ℕ). onward (quote_of c.args.quote) limit l d) c.in_err-put_meant-in-Text.ensures.puts))

-- a piece was passed over, and a few bytes put after the text
put-then : {I T : Type 0} (device : InputOf I) (limits : Rules) (s t u : Incoming I) (a b c : Counts) (k l n bytes : List ℕ) (place : ℕ) (x : T) → length k ≤ a.held
    → Gathers {T = Unit {0}} device limits s t a b k l (Ok tt) → Reads device t u (Ok x) → t.place < u.place → length bytes ≤ 4 → Puts {T = Unit {0}} limits b c l n bytes place (Ok tt)
    → Gathers {T = Unit {0}} device limits s u a c k n (Ok tt)
put-then device limits s t u a b c k l n bytes place x holds one y some few z = record { reads = grind (arith, common_steps); goes = grind (arith, common_steps) }

grown-longer : (first old new bytes : List ℕ) → new ≡ old ++ bytes → length first ≤ length old → length first ≤ length new
grown-longer first old new bytes e le = omega (arith, length-append old bytes, ap (λ (l : List ℕ). length l) e, le)

pub pieces-preserved : goal.pieces-preserved
pieces-preserved g c =
    let limit = c.args.limits.scalar in
    let puts = c.in_ok-put_meant-in-Text.ensures.puts in
    let few = meant-few c.in-Text.meant in
    let earlier = c.pieces.invariant.gathers in
    let plain = c.in_ok-take_plain.ensures.gathers in
    let holds = c.requires.can_gather.grows.holds in
    record {
      gathers = put-then g.I.Input c.args.limits c.args.source.now c.take_plain.new.source c.next_piece.new.source c.args.meter.now c.take_plain.new.meter c.put_meant.new.meter c.args.text.now
          c.take_plain.new.text c.put_meant.new.text (bytes_of c.in-Text.meant) c.args.place c.in_ok-meant.field-0 holds
          (gathers-then g.I.Input c.args.limits c.args.source.now c.pieces.source c.args.meter.now c.pieces.meter c.args.text.now c.pieces.text c.take_plain.new.source c.take_plain.new.meter c.take_plain.new.text tt
          (Ok c.in_ok-take_plain.field-0) holds earlier plain)
          c.in_ok-meant.ensures.reads
          (rw c.in-Text.is at c.in_ok-meant.ensures.further) few c.in_ok-put_meant-in-Text.ensures;
      longer = grown-longer c.args.text.now c.take_plain.new.text c.put_meant.new.text (bytes_of c.in-Text.meant) puts.0 (omega (arith, c.pieces.invariant.longer, c.in_ok-take_plain.ensures.longer));
      same = λ h.
          let hs = c.pieces.invariant.gathers.reads.moves.still_observable.1 h in
          let ht = c.in_ok-take_plain.ensures.gathers.reads.moves.still_observable.1 hs in
          c.pieces.invariant.same h ∙ c.in_ok-take_plain.ensures.gives hs ∙ (rw c.in-Text.is at (c.in_ok-meant.ensures.gives ht limit c.take_plain.new.text))
          ∙ continues-puts (Ok c.in_ok-put_meant-in-Text.field-0) c.take_plain.new.text c.put_meant.new.text (bytes_of c.in-Text.meant) limit c.args.place
          (λ (l : List ℕ). onward (quote_of c.args.quote) limit l (cursor g.I.Input c.next_piece.new.source)) puts;
    }

-- the pieces that were passed over, and then plain bytes
pub returns-in_err-take_plain-clause-gathers : goal.returns-in_err-take_plain-clause-gathers
returns-in_err-take_plain-clause-gathers g c =
    let f = c.in_err-take_plain.field-0.0 in
    rw (handed-on c.from_residual.result f c.from_residual.ensures)
    (gathers-then g.I.Input c.args.limits c.args.source.now c.pieces.source c.args.meter.now c.pieces.meter c.args.text.now c.pieces.text c.take_plain.new.source c.take_plain.new.meter c.take_plain.new.text
    tt (Err f) c.requires.can_gather.grows.holds c.pieces.invariant.gathers c.in_err-take_plain.ensures.gathers)

pub returns-in_err-meant-clause-gathers : goal.returns-in_err-meant-clause-gathers
returns-in_err-meant-clause-gathers g c =
    let s = c.args.source.now in
    let m = c.args.meter.now in
    let n = c.take_plain.new.meter in
    let k = c.args.text.now in
    let l = c.take_plain.new.text in
    let v = c.next_piece.new.source in
    let f = c.in_err-meant.field-0.0 in
    rw (handed-on c.from_residual-in_err-meant.result f c.from_residual-in_err-meant.ensures)
    (gathers-fault g.I.Input c.args.limits s v m n k l f (gathers-over g.I.Input c.args.limits s c.pieces.source m c.pieces.meter k c.pieces.text c.take_plain.new.source v n l tt c.in_ok-take_plain.field-0 (Err f) c.requires.can_gather.grows.holds
    c.pieces.invariant.gathers c.in_ok-take_plain.ensures.gathers c.in_err-meant.ensures.reads))

pub returns-in_err-put_meant-in-Text-clause-gathers : goal.returns-in_err-put_meant-in-Text-clause-gathers
returns-in_err-put_meant-in-Text-clause-gathers g c =
    let s = c.args.source.now in
    let m = c.args.meter.now in
    let n = c.take_plain.new.meter in
    let k = c.args.text.now in
    let l = c.take_plain.new.text in
    let v = c.next_piece.new.source in
    let x = c.in_ok-meant.field-0 in
    let over = gathers-over g.I.Input c.args.limits s c.pieces.source m c.pieces.meter k c.pieces.text c.take_plain.new.source v n l tt c.in_ok-take_plain.field-0 (Ok x) c.requires.can_gather.grows.holds
    c.pieces.invariant.gathers c.in_ok-take_plain.ensures.gathers c.in_ok-meant.ensures.reads in
    let f = c.in_err-put_meant-in-Text.field-0.0 in
    rw (handed-on c.from_residual-in_err-put_meant-in-Text.result f c.from_residual-in_err-put_meant-in-Text.ensures)
    (gathers-put g.I.Input c.args.limits s v m n k l c.put_meant.new.meter c.put_meant.new.text (bytes_of c.in-Text.meant) c.args.place x f c.requires.can_gather.grows.holds over c.in_err-put_meant-in-Text.ensures)

pub returns-in-Illegal-clause-gathers : goal.returns-in-Illegal-clause-gathers
returns-in-Illegal-clause-gathers g c =
    let s = c.args.source.now in
    let m = c.args.meter.now in
    let n = c.take_plain.new.meter in
    let k = c.args.text.now in
    let l = c.take_plain.new.text in
    let v = c.next_piece.new.source in
    let x = c.in_ok-meant.field-0 in
    let over = gathers-over g.I.Input c.args.limits s c.pieces.source m c.pieces.meter k c.pieces.text c.take_plain.new.source v n l tt c.in_ok-take_plain.field-0 (Ok x) c.requires.can_gather.grows.holds
    c.pieces.invariant.gathers c.in_ok-take_plain.ensures.gathers c.in_ok-meant.ensures.reads in
    gathers-refused g.I.Input c.args.limits s v m n k l x BadLob c.args.place over

pub returns-in-Illegal-2-clause-gathers : goal.returns-in-Illegal-2-clause-gathers
returns-in-Illegal-2-clause-gathers g c =
    let s = c.args.source.now in
    let m = c.args.meter.now in
    let n = c.take_plain.new.meter in
    let k = c.args.text.now in
    let l = c.take_plain.new.text in
    let v = c.next_piece.new.source in
    let x = c.in_ok-meant.field-0 in
    let over = gathers-over g.I.Input c.args.limits s c.pieces.source m c.pieces.meter k c.pieces.text c.take_plain.new.source v n l tt c.in_ok-take_plain.field-0 (Ok x) c.requires.can_gather.grows.holds
    c.pieces.invariant.gathers c.in_ok-take_plain.ensures.gathers c.in_ok-meant.ensures.reads in
    gathers-refused g.I.Input c.args.limits s v m n k l x BadText c.args.place over

pub returns-in-Cut-clause-gathers : goal.returns-in-Cut-clause-gathers
returns-in-Cut-clause-gathers g c =
    let s = c.args.source.now in
    let m = c.args.meter.now in
    let n = c.take_plain.new.meter in
    let k = c.args.text.now in
    let l = c.take_plain.new.text in
    let v = c.next_piece.new.source in
    let x = c.in_ok-meant.field-0 in
    let over = gathers-over g.I.Input c.args.limits s c.pieces.source m c.pieces.meter k c.pieces.text c.take_plain.new.source v n l tt c.in_ok-take_plain.field-0 (Ok x) c.requires.can_gather.grows.holds
    c.pieces.invariant.gathers c.in_ok-take_plain.ensures.gathers c.in_ok-meant.ensures.reads in
    gathers-refused g.I.Input c.args.limits s v m n k l x Truncated c.args.place over

pub returns-in-Close-clause-gathers : goal.returns-in-Close-clause-gathers
returns-in-Close-clause-gathers g c =
    let s = c.args.source.now in
    let m = c.args.meter.now in
    let n = c.take_plain.new.meter in
    let k = c.args.text.now in
    let l = c.take_plain.new.text in
    let v = c.next_piece.new.source in
    let x = c.in_ok-meant.field-0 in
    let over = gathers-over g.I.Input c.args.limits s c.pieces.source m c.pieces.meter k c.pieces.text c.take_plain.new.source v n l tt c.in_ok-take_plain.field-0 (Ok x) c.requires.can_gather.grows.holds
    c.pieces.invariant.gathers c.in_ok-take_plain.ensures.gathers c.in_ok-meant.ensures.reads in
    gathers-as g.I.Input c.args.limits s v m n k l x tt over
