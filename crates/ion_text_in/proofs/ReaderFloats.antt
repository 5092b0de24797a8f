-- What a float that was read makes of the reader.
use Rattle.std.proofs.Common.{◌≡◌, Bool, true, false, not, ℕ, Option, Some, None, Ok, refl, ap, ◌∙◌}
use lib.Ieee.{Float}
use Rattle.ion_meter.specs.declared.fault.Reason.TheVariants as reasons
use Rattle.ion_meter.specs.Sources.{Cursor}
use Rattle.ion_value.specs.declared.float.Float64.{Float64}
use Rattle.ion_value.specs.Float.{value_of}
use Rattle.ion_value.specs.Parts.{part, refuse, ◌>>◌}
use Rattle.ion_value.specs.Reading.{Stopped}
use Rattle.ion_value.specs.Value as value
use Rattle.ion_text_in.specs.declared.expected.Expected.TheVariants as expected
use Rattle.ion_text_in.specs.declared.reader.ItemKind.TheVariants as kind
use Rattle.ion_text_in.specs.declared.reader.TextReader.{TextReader}
use Rattle.ion_text_in.specs.declared.token.Body.TheVariants as body
use Rattle.ion_text_in.specs.Reading.{scalar_step, take}
use Rattle.ion_text_in.specs.Steps.{annotations_in, comes, field_in, giving, opened_in, taking}
use Rattle.ion_text_in.specs.Token as tokens
use Rattle.ion_text_in.proofs.ReaderSteps.{taken-as}

module _ {I A : Type 0} where
  -- where floats are not read
  pub float-off : (r : TextReader I A) (number : Option Float) (place : ℕ) (d : Cursor) → r.expected ≡ expected.Value → r.limits.floats ≡ false
      → taking r place (tokens.float number) d ≡ Stopped reasons.Float place
  unfolding take
  float-off r number place d is off = rw (is, off) refl

  -- where its digits are past the greatest
  pub float-past : (r : TextReader I A) (place : ℕ) (d : Cursor) → r.expected ≡ expected.Value → r.limits.floats ≡ true → taking r place (tokens.float None) d ≡ Stopped reasons.Range place
  unfolding take
  float-past r place d is on = rw (is, on) refl

  -- as an item
  pub float-given : (r : TextReader I A) (x : Float64) (place : ℕ) (d : Cursor) → r.expected ≡ expected.Value → r.limits.floats ≡ true
      → taking r place (tokens.float (Some (value_of x))) d ≡ giving r (kind.Scalar (body.Float x)) place d
  unfolding take
  float-given r x place d is on =
      taken-as r expected.Value (tokens.float (Some (value_of x))) place d is
      ∙ ap (λ (b : Bool). comes r.limits (part place (refuse (not b) reasons.Float >> Ok (scalar_step (opened_in r) r.top (field_in r) (annotations_in r) place (value.float (value_of x)) d)))) on
