-- What is accepted where floats are not read is accepted where they are, with the same output.
use Rattle.std.proofs.Common.{◌≡◌, ℕ, List, [], ◌∷◌, Option, None, Some, inl, inr, refl, ap, sym, ◌∙◌, subst, subst₂, arith}
use Rattle.ion_meter.specs.declared.limits.Limits.{Limits}
use Rattle.ion_meter.specs.declared.profile.Rules.{Rules}
use Rattle.ion_meter.specs.Rules.{rules, strict, floats}
use Rattle.ion_value.specs.Outcome.{Accepted}
use Rattle.ion_value.specs.Path.{closed, path_items}
use Rattle.ion_value.specs.Reading.{Reading, Finished, items_then}
use Rattle.ion_value.specs.ReadingLaws.{AreWithin, ending_of}
use Rattle.ion_value.specs.Value.{PlacedItem}
use Rattle.ion_binary.specs.Laws.{IsCut, here, later, Narrow}
use Rattle.ion_text_in.specs.Laws.{StrictIsReadAlike}
use Rattle.ion_transcode.specs.declared.to.Form.{Form}
use Rattle.ion_transcode.specs.declared.to.Form.TheVariants as form
use Rattle.ion_transcode.specs.declared.to.Target.{Target}
use Rattle.ion_transcode.specs.Acceptance.{WhatIsReadIsAccepted, WhatIsAcceptedIsRead}
use Rattle.ion_transcode.specs.Forms.{form_of, reading_of}
use Rattle.ion_transcode.specs.Laws.{WhatStrictAcceptsIsAccepted}
use Rattle.ion_transcode.specs.Outputs.{resolved}
use Rattle.ion_transcode.specs.Verdict.{HasVerdictAs, HasVerdictWith}

-- ---- what is read to its end is read alike

ending-then : (items : List PlacedItem) → ending_of (items_then items Finished) ≡ Finished
ending-then [] = refl
ending-then (item ∷ items) = ending-then items

-- a reading that is cut does not finish
not-cut : (limits wide : Rules) (r s : Reading) → IsCut limits wide r s → ending_of r ≡ Finished → ⊥
not-cut limits wide _ _ (here reason place r why) e = absurd (cc e)
not-cut limits wide _ _ (later item r s cut) e = not-cut limits wide r s cut e

strict-within : (limits : Limits) → AreWithin (rules limits strict) (rules limits floats)
strict-within limits = record { depth = omega arith; scalar = omega arith; floats = λ e. refl }

module _ (narrow : Narrow) (alike : StrictIsReadAlike) where
  same-reading : (f : Form) (limits : Limits) (bytes : List ℕ) → ending_of (reading_of strict f limits bytes) ≡ Finished
      → reading_of floats f limits bytes ≡ reading_of strict f limits bytes
  same-reading form.Binary limits bytes e = elim (narrow (rules limits strict) (rules limits floats) bytes (strict-within limits)) [
    | inl same ↦ sym same
    | inr cut ↦ absurd (not-cut (rules limits strict) (rules limits floats) _ _ cut e)
  ]
  same-reading form.Text limits bytes e = alike limits bytes e

  -- ---- so it is accepted

  pub what-strict-accepts : WhatIsAcceptedIsRead → WhatIsReadIsAccepted → WhatStrictAcceptsIsAccepted
  what-strict-accepts is_read accepted catalog limits to bytes n out v = by (resolved (form_of bytes) to) refl
    where
      by : (r : Option Target) → resolved (form_of bytes) to ≡ r → HasVerdictWith floats catalog limits to bytes (Accepted n) out
      by None is =
          let none = subst (λ (r : Option Target). HasVerdictAs strict r (form_of bytes) catalog limits bytes (Accepted n) out) is v in
          absurd (cc none.0)
      by (Some t) is =
          let w = is_read strict catalog limits to bytes t n out is v in
          let ends = ap ending_of w.read ∙ ending-then (path_items (closed w.tops)) in
          let read = same-reading (form_of bytes) limits bytes ends ∙ w.read in
          subst₂ (λ (m : ℕ) (o : List ℕ). HasVerdictWith floats catalog limits to bytes (Accepted m) o) (sym w.count) (sym w.output)
          (accepted floats catalog limits to bytes t w.tops w.us is read w.resolved_are w.users_are w.taken)
