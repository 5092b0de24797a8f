-- Symbols that the reader takes as annotations.
use Rattle.std.proofs.Common.{◌≡◌, ℕ, ◌+◌, ◌*◌, ◌≤◌, max, Bool, false, List, [], ◌∷◌, ◌++◌, length, nat_lt, sum_by, Option, None, Ok, refl, sym, ap, subst, ◌∙◌, arith, length-append}
use Rattle.std.proofs.lemmas.Bool.{le-ltb}
use Rattle.ion_meter.specs.Counts.{Counts, Grows}
use Rattle.ion_meter.specs.declared.device.Input.{Ghosts as InputOf}
use Rattle.ion_meter.specs.declared.fault.Reason.TheVariants.{AnnotationLimit}
use Rattle.ion_meter.specs.Windows.{Incoming, lent, IsPassed}
use Rattle.ion_meter.specs.Sources.{Cursor, cursor, skip, Exceeds}
use Rattle.ion_meter.proofs.Extending.{extends-not}
use Rattle.ion_value.specs.declared.ion_type.Kind.{Kind}
use Rattle.ion_value.specs.declared.item.Annotation.{Annotation}
use Rattle.ion_value.specs.Parts.{part, refuse, ◌>>◌}
use Rattle.ion_value.specs.Shares.{ReadCauses}
use Rattle.ion_value.specs.Value.{SymbolAt}
use Rattle.ion_value.proofs.Passing.{IsPassed-cursor, Passed-lent}
use Rattle.ion_text_in.specs.declared.token.Symbol.{Symbol}
use Rattle.ion_text_in.specs.declared.token.Symbol.TheVariants as symbol
use Rattle.ion_text_in.specs.declared.token.FieldName.{FieldName}
use Rattle.ion_text_in.specs.declared.expected.Expected.{Expected}
use Rattle.ion_text_in.specs.declared.expected.Expected.TheVariants as expected
use Rattle.ion_text_in.specs.declared.reader.StepResult.TheVariants as step_result
use Rattle.ion_text_in.specs.declared.reader.TextReader.{TextReader}
use Rattle.ion_text_in.specs.Positions.{a_value, at}
use Rattle.ion_text_in.specs.Reading.{cost, onward_step}
use Rattle.ion_text_in.specs.Tokens.{as_symbol}
use Rattle.ion_text_in.specs.Symbols.{as_annotations, kept_text, AreKept, GrowsBy, IsKept}
use Rattle.ion_text_in.specs.Expecting.{wanted, MayExpect}
use Rattle.ion_text_in.specs.Steps.{annotations_in, comes, field_in, held_by, later, opened_in, share_of, with_colons, CanStep, StepsTo}
use Rattle.ion_text_in.proofs.Holding.{causes-none}
use Rattle.ion_text_in.proofs.ReaderAnnotations.{told-kept, costs-kept, kept-more}
use Rattle.ion_text_in.proofs.ReaderCalls.{stepped-by}

-- ---- what it costs

record GrowsTo (old new : Counts) (cost : ℕ) : Type 0 where
  held : new.held ≡ old.held + cost
  peak : new.peak ≤ max old.peak new.held
  rises : old.peak ≤ new.peak
  refused : new.refused ≡ old.refused

grown : (a b : Counts) (text : List ℕ) (s : Symbol) → GrowsBy a b text s → GrowsTo a b (length (kept_text text s))
grown a b text symbol.Text g = let held = g.held in let peak = g.peak in record { held = held; peak = omega (arith, peak); rises = omega (arith, peak); refused = g.refused }
grown a b text (symbol.Id id) e = record { held = ap (λ (m : Counts). m.held) e ∙ omega arith; peak = (let p = ap (λ (m : Counts). m.peak) e in omega (arith, p)); rises = (let p = ap (λ (m : Counts). m.peak) e in omega (arith, p)); refused = ap (λ (m : Counts). m.refused) e }

value-may : (e : Expected) (kinds : List Kind) (field : Option FieldName) (old new : List Annotation) → e ≡ expected.Value → MayExpect e kinds field old → MayExpect e kinds field new
value-may e kinds field old new is h = grind arith

module _ {I A : Type 0} (device : InputOf I) where
  -- the reader with one annotation more
  pub steps-annotated : (r : TextReader I A) (s : Symbol) (place : ℕ) (source : Incoming I) (texts : List ℕ) (annotations : List Annotation) (a : Annotation) (m n o : Counts)
      → CanStep r m → r.expected ≡ expected.Value → IsKept r.texts texts r.text s place a → annotations ≡ r.annotations ++ a ∷ []
      → 16 * length r.annotations + length r.texts + (16 + length (kept_text r.text s)) ≤ r.limits.scalar → 2 ≤ length (lent r.source) → IsPassed r.source source 2
      → GrowsBy m n r.text s → Grows n o 16
      → StepsTo device None (λ _. with_colons r s place (skip 2 (cursor device r.source))) (length (kept_text r.text s)) r (record r { source = source; texts = texts; annotations = annotations }) m o (Ok step_result.Passed)
  steps-annotated r s place source texts annotations a m n o can value one more fits there passed text push =
      let k = opened_in r in
      let f = field_in r in
      let x = at (as_symbol r.text s) place in
      let new = record r { source = source; texts = texts; annotations = annotations } in
      let inside = can.inside in
      let here = sym (IsPassed-cursor device r.source source 2 there passed) in
      let all : annotations_in r ++ x ∷ [] ≡ as_annotations texts annotations = sym (ap (λ (l : List Annotation). as_annotations texts l) more ∙ told-kept r.annotations r.texts texts r.text s place a inside.kept one) in
      let costs = costs-kept r.annotations r.texts r.text s place inside.kept in
      let within : nat_lt r.limits.scalar (sum_by cost (annotations_in r ++ x ∷ [])) ≡ false = le-ltb r.limits.scalar (sum_by cost (annotations_in r ++ x ∷ [])) (omega (arith, costs, fits)) in
      let longer : length texts ≡ length r.texts + length (kept_text r.text s) = ap (λ (l : List ℕ). length l) one.texts ∙ length-append r.texts (kept_text r.text s) in
      let count : length annotations ≡ length r.annotations + 1 = ap (λ (l : List Annotation). length l) more ∙ length-append r.annotations (a ∷ []) in
      let went = Passed-lent device r.source r.source source 2 inside.stands (extends-not device r.source) inside.stands.well there passed in
      let g = grown m n r.text s text in
      let gh = g.held in let gp = g.peak in let gr = g.rises in
      let ph = push.held in let pp = push.peak in
      let held = can.held in
      let few = can.sized.few in let name = can.sized.name in let own = can.sized.text in
      let share : held_by new ≤ share_of r = omega (arith, longer, count, few, name, own, fits) in
      record {
        gives = λ h d blank.
            ap (λ (q : Bool). comes r.limits (part place (refuse q AnnotationLimit >> Ok (onward_step k r.top (a_value f (annotations_in r ++ x ∷ [])) (skip 2 (cursor device r.source)))))) within
            ∙ (ap (λ (l : List SymbolAt). later r.limits (record { kinds = k; top = r.top; wants = a_value f l; cursor = skip 2 (cursor device r.source) })) all
            ∙ (ap (λ (c : Cursor). later r.limits (record { kinds = k; top = r.top; wants = a_value f (as_annotations texts annotations); cursor = c })) here
            ∙ ap (λ (e : Expected). later r.limits (record { kinds = k; top = r.top; wants = wanted e f (as_annotations texts annotations); cursor = cursor device source })) (sym value)));
        ready = record {
          stands = went.stands;
          expects = value-may r.expected (opened_in r) r.field r.annotations annotations value inside.expects;
          kept = subst (λ (l : List Annotation). AreKept l texts) (sym more) (kept-more r.annotations r.texts texts r.text s place a inside.kept one);
          finished = inside.finished;
        };
        stepped = stepped-by device _ _ r new m o (λ e. cc e) refl refl refl refl (record { checked = can.sized.checked; few = few; annotated = omega (arith, longer, count, fits); name = name; text = own }) went.moves
            (subst (λ (n : ℕ). ReadCauses None m o (device.failure_count r.source.device) n (Exceeds device r.source)) (sym (ap device.failure_count passed.device)) (causes-none m o _ _ (push.refused ∙ g.refused)))
            (record { held = omega (arith, gh, ph, longer, count); share = share; peak = omega (arith, gh, ph, gp, pp, longer, count, share, held); rises = omega (arith, gr, pp) });
        goes = record { own = omega (arith, longer, count, passed.place, passed.limit, went.stands.within); peak = omega (arith, gh, ph, gp, pp, passed.place, passed.limit, went.stands.within) };
      }
