-- Where a reading stops, and not at a limit, the bytes are no stream; a stream that passes no limit is read to its end.
use Rattle.std.proofs.Common.{◌≡◌, ℕ, ◌+◌, ◌*◌, ◌⊎◌, inl, inr, Bool, true, false, List, length, refl, sym, ap, ◌∙◌, arith, subst}
use Rattle.std.proofs.lemmas.Bool.{false≢true}
use Rattle.ion_meter.specs.declared.fault.Reason.{Reason}
use Rattle.ion_meter.specs.declared.fault.Reason.TheVariants as reason
use Rattle.ion_meter.specs.declared.profile.Rules.{Rules}
use Rattle.ion_meter.specs.Rules.{floats, rules, strictly}
use Rattle.ion_value.specs.Value.{top_items}
use Rattle.ion_value.specs.Reading.{Finished, Stopped}
use Rattle.ion_value.specs.Path.{path_items}
use Rattle.ion_text_in.specs.Positions.{State}
use Rattle.ion_value.specs.ReadingLaws.{ending_of, IsLimit}
use Rattle.ion_value.proofs.ReadingLaws.{ending_of-items_then}
use Rattle.ion_text_in.specs.Laws.{Passes, RightlyRefused, StrictIsReadAlike, WithinLimitsAreRead}
use Rattle.ion_text_in.proofs.Narrow.{narrow}
use Rattle.ion_text_in.proofs.Complete.{streams_are_read}
use Rattle.ion_value.proofs.Permitted.{all-permitted, permitted-alike}

-- what passes a limit is a limit's fault, or floats are not read
passes-limit : (limits : Rules) (s : State) (place : ℕ) (why : Reason) → Passes limits s place why → IsLimit why ⊎ ((why ≡ reason.Float) × (limits.floats ≡ false))
passes-limit limits s place _ (Passes.token is) = inl (inr (inl refl))
passes-limit limits s place _ (Passes.container k d tok full) = inl (inl refl)
passes-limit limits s place _ (Passes.annotations field annotations quoted symbol q d e are tok after more) = inl (inr (inr refl))
passes-limit limits s place _ (Passes.float field annotations number d are tok off) = inr (refl, off)

-- limits that these are within, and that allow what stands in these bytes
abbrev with_room : Rules → Bool → List ℕ → Rules
with_room limits b bytes = record { depth = limits.depth + length bytes; scalar = limits.scalar + 16 * length bytes; floats = b }

pub rightly_refused : RightlyRefused
rightly_refused limits bytes reason place tops stops no_limit permitted stream =
    let wide : Rules = with_room limits limits.floats bytes in
    let read = streams_are_read wide bytes tops (omega arith, omega arith) (permitted-alike limits wide refl (top_items tops) permitted) stream in
    elim (narrow limits wide bytes (record { depth = omega arith; scalar = omega arith; floats = λ on. on })) [
      | inl same ↦
          let ends : Stopped reason place ≡ Finished = sym stops ∙ ap ending_of (same ∙ read) ∙ ending_of-items_then (top_items tops) Finished in
          absurd (cc ends)
      | inr cut ↦
          let ends : Stopped cut.reason cut.place ≡ Stopped reason place = sym (ending_of-items_then (path_items cut.path) (Stopped cut.reason cut.place)) ∙ sym (ap ending_of cut.short) ∙ stops in
          let same : cut.reason ≡ reason = cc ends in
          elim (passes-limit limits cut.state cut.place cut.reason cut.passes) [
            | inl limited ↦ no_limit (subst IsLimit same limited)
            | inr off ↦ absurd (false≢true (sym off.1 ∙ cut.wider off.0))
          ]
    ]

-- a stream that passes no limit is read to its end
pub streams_within_limits : WithinLimitsAreRead
streams_within_limits limits bytes tops stream none =
    let wide : Rules = with_room limits true bytes in
    elim (narrow limits wide bytes (record { depth = omega arith; scalar = omega arith; floats = λ on. refl })) [
      | inl same ↦ same ∙ streams_are_read wide bytes tops (omega arith, omega arith) (all-permitted wide refl (top_items tops)) stream
      | inr cut ↦ absurd (none cut.path cut.state cut.reason cut.place cut.stands cut.passes)
    ]

-- what strict rules read to its end is read alike where floats are read
pub strict_is_read_alike : StrictIsReadAlike
strict_is_read_alike limits bytes finished =
    elim (narrow (strictly limits) (rules limits floats) bytes (record { depth = omega arith; scalar = omega arith; floats = λ on. refl })) [
      | inl same ↦ sym same
      | inr cut ↦
          let ends : Stopped cut.reason cut.place ≡ Finished = sym (ending_of-items_then (path_items cut.path) (Stopped cut.reason cut.place)) ∙ sym (ap ending_of cut.short) ∙ finished in
          absurd (cc ends)
    ]
