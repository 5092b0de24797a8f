-- Narrower limits change nothing in what is read, or cut it short where they are passed; a reading stops at a limit there alone.
use Rattle.std.proofs.Common.{◌≡◌, ℕ, ◌⊎◌, inl, inr, List, sym, ap, subst, subst₂, ◌∙◌, arith}
use Rattle.ion_meter.specs.declared.fault.Reason.{Reason}
use Rattle.ion_meter.specs.declared.profile.Rules.{Rules}
use Rattle.ion_value.specs.Reading.{Reading, Finished, Stopped, Step, Ends, Stops, Gives, GoesOn, next_reading, reading_by, items_then}
use Rattle.ion_value.specs.ReadingLaws.{ending_of, AreWithin}
use Rattle.ion_value.specs.Path.{path_items}
use Rattle.ion_value.proofs.Faults.{Free}
use Rattle.ion_value.proofs.ReadingLaws.{ending_of-items_then}
use Rattle.ion_text_in.specs.Positions.{State}
use Rattle.ion_text_in.specs.Reading as reading
use Rattle.ion_text_in.specs.Reading.{step, size}
use Rattle.ion_text_in.specs.Laws.{Passes, IsCut, Narrow, ExactLimits}
use Rattle.ion_text_in.proofs.Falling.{StepCut, same_step, limit_step, step-Cut}
use Rattle.ion_text_in.proofs.Sound.{IsLast, Walked, walk, last-read}

module _ (limits wide : Rules) (within : AreWithin limits wide) (bytes : List ℕ) where
  -- the readings are the same, and no limit stops them
  record Same : Type 0 where
    equal : reading.reading limits bytes ≡ reading.reading wide bytes
    free : (why : Reason) (place : ℕ) → ending_of (reading.reading limits bytes) ≡ Stopped why place → Free why

  same-or-cut : Same ⊎ IsCut limits wide bytes
  same-or-cut =
      by (step limits w.state) (step wide w.state) (step-Cut limits wide within w.state) w.last (w.short ∙ ap (items_then (path_items w.path)) (last-read limits w.state))
      (w.long ∙ ap (items_then (path_items w.path)) (last-read wide w.state))
    where
      w : Walked limits wide bytes
      w = walk limits wide within bytes

      unlimited : (o : Reading) → ((why : Reason) (place : ℕ) → ending_of o ≡ Stopped why place → Free why) → reading.reading limits bytes ≡ items_then (path_items w.path) o
          → (why : Reason) (place : ℕ) → ending_of (reading.reading limits bytes) ≡ Stopped why place → Free why
      unlimited o h r why place e = h why place (sym (ending_of-items_then (path_items w.path) o) ∙ sym (ap ending_of r) ∙ e)

      by : (x y : Step State) → StepCut limits wide w.state x y → IsLast x → reading.reading limits bytes ≡ items_then (path_items w.path) (next_reading (reading_by (step limits) size) x)
          → reading.reading wide bytes ≡ items_then (path_items w.path) (next_reading (reading_by (step wide) size) y) → Same ⊎ IsCut limits wide bytes
      by _ _ (same_step Ends less) last r l = inl (record { equal = r ∙ sym l; free = unlimited Finished (λ why place e. absurd (cc e)) r })
      by _ _ (same_step (Stops why place) less) last r l =
          inl (record { equal = r ∙ sym l; free = unlimited (Stopped why place) (λ other found e. let is : why ≡ other = cc e in subst Free is less) r })
      by _ _ (same_step (Gives item after) less) last r l = absurd last
      by _ _ (same_step (GoesOn after) less) last r l = absurd last
      by _ _ (limit_step why place y passes) last r l =
          inr (record { path = w.path; state = w.state; stands = w.stands; reason = why; place = place; passes = passes.passes; wider = passes.wider; short = r; long = w.long })

pub narrow : Narrow
narrow limits wide bytes within = elim (same-or-cut limits wide within bytes) [ inl all ↦ inl all.equal | inr cut ↦ inr cut ]

pub exact_limits : ExactLimits
exact_limits limits bytes cause place e limited = elim (same-or-cut limits limits (record { depth = omega arith; scalar = omega arith; floats = λ on. on }) bytes) [
  | inl all ↦ absurd (all.free cause place e limited)
  | inr cut ↦
      let ends : Stopped cut.reason cut.place ≡ Stopped cause place = sym (ending_of-items_then (path_items cut.path) (Stopped cut.reason cut.place)) ∙ sym (ap ending_of cut.short) ∙ e in
      let same : cut.reason ≡ cause = cc ends in
      let there : cut.place ≡ place = cc ends in
      record {
        path = cut.path;
        state = cut.state;
        stands = cut.stands;
        passes = subst₂ (λ p why. Passes limits cut.state p why) there same cut.passes;
        read = cut.short ∙ ap (items_then (path_items cut.path)) ends;
      }
]
