-- Floats that are read in one pass.
use Rattle.std.proofs.Common.{◌≡◌, ℕ, ℤ, pos, ◌-ℤ◌, Bool, true, Ok, Result, List, ◌∷◌, ◌++◌, take, get_or, refl, sym, ap, subst, ◌∙◌, arith}
use Rattle.std.proofs.lemmas.Bool.Decides.{nat_tests}
use lib.Ieee.{Float, binary64}
use Rattle.fast_float.specs.Rounding.{nearest_to_decimal}
use Rattle.ion_meter.specs.declared.fault.Reason.{Reason}
use Rattle.ion_value.specs.declared.float.Float64.{Float64}
use Rattle.ion_value.specs.Decimal.{Parts, parts_of, is_exponent_mark, is_power, power_value}
use Rattle.ion_value.specs.Digits.{has_minus, without_minus}
use Rattle.ion_value.specs.Float.{value_of}
use Rattle.ion_value.specs.FloatText.{finite, float_of_parts, float_of_text, is_float, is_float_mark}
use Rattle.ion_value.specs.Number.{signed}
use Rattle.ion_value.proofs.TextDecimals.{sign-read}
use Rattle.ion_float.proofs.TextReading.{text-is-read, IsRead}
use Rattle.ion_text_in.specs.declared.quick.Power.{Power}
use Rattle.ion_text_in.specs.declared.run.Run.TheVariants as run
use Rattle.ion_text_in.specs.Quick.{signed_text, AreSpelling, IsMantissa, IsPower, IsQuickFloat}
use Rattle.ion_text_in.specs.Runs.{stays}
use Rattle.ion_text_in.specs.Token.{run_token}
use Rattle.ion_text_in.proofs.Mantissas.{power-is, power-stay}
use Rattle.ion_text_in.proofs.QuickNumbers.{stop-ends}
use Rattle.ion_text_in.proofs.RunTokens.{float-means, no-word}

mark-stays : (c : ℕ) → is_float_mark c ≡ true → stays run.Number c ≡ true
mark-stays c e = grind (arith, nat_tests)

mark-exponent : (c : ℕ) → is_float_mark c ≡ true → is_exponent_mark c ≡ true
mark-exponent c e = grind (arith, nat_tests)

-- what parts spell with such a power is a float
float-shape : (p : Parts) (n places : ℕ) (power : List ℕ) → AreSpelling p n places power → is_power is_float_mark power ≡ true → is_float p ≡ true
float-shape p n places power so e = rw (so.exponent, so.mantissa, e) refl

float-spelled : (negative : Bool) (p : Parts) (n places : ℕ) (power : List ℕ) → AreSpelling p n places power → is_power is_float_mark power ≡ true
    → float_of_parts negative p ≡ finite (nearest_to_decimal binary64 negative n (power_value power -ℤ pos places))
float-spelled negative p n places power so e = rw (so.exponent, so.mantissa, e, so.digits, so.fraction) refl

-- a run with the shape of a float is read by its parts
shape-text : (run : List ℕ) → is_float (parts_of (without_minus run)) ≡ true → float_of_text run ≡ float_of_parts (has_minus run) (parts_of (without_minus run))
unfolding float_of_text
shape-text run shape = rw (no-word run shape) refl

pub quick-float : (negative : Bool) (bytes : List ℕ) (n places k : ℕ) (p : Power) (x : Float64) → IsMantissa bytes n places k → is_float_mark (get_or bytes k 0) ≡ true → IsPower bytes k p
    → Ok (value_of x) ≡ finite (nearest_to_decimal binary64 negative n (signed p.below p.magnitude -ℤ pos places)) → IsQuickFloat negative bytes x p.end
quick-float negative bytes n places k p x so mark is value =
    let power : List ℕ = get_or bytes k 0 ∷ signed_text p.below is.written in
    let all : List ℕ = take k bytes ++ power in
    let sign = sign-read negative all (so.plain power) in
    let exponent = power-is is_float_mark (get_or bytes k 0) p.below is.written mark is.some is.digits in
    let spelling = so.parts (get_or bytes k 0) (signed_text p.below is.written) (mark-exponent (get_or bytes k 0) mark) in
    let shape : is_float (parts_of (without_minus (signed_text negative all))) ≡ true
    = ap (λ (l : List ℕ). is_float (parts_of l)) sign.1 ∙ float-shape (parts_of all) n places power spelling exponent.0 in
    let e : power_value power ≡ signed p.below p.magnitude = exponent.1 ∙ ap (signed p.below) (sym is.number) in
    let read : float_of_text (signed_text negative all) ≡ Ok (value_of x)
    = shape-text (signed_text negative all) shape
    ∙ ap (λ (s : Bool). float_of_parts s (parts_of (without_minus (signed_text negative all)))) sign.0
    ∙ ap (λ (l : List ℕ). float_of_parts negative (parts_of l)) sign.1
    ∙ float-spelled negative (parts_of all) n places power spelling exponent.0
    ∙ ap (λ (z : ℤ). finite (nearest_to_decimal binary64 negative n (z -ℤ pos places))) e
    ∙ sym value in
    record {
      some = omega (arith, is.after);
      within = is.within;
      goes = power-stay bytes n places k p so (mark-stays (get_or bytes k 0) mark) is;
      ends = stop-ends bytes p.end is.within is.stop;
      gives = ap (λ (l : List ℕ). run_token (signed_text negative l)) is.text ∙ float-means (value_of x) (signed_text negative all) shape read;
      range = (subst (λ (r : Result Float Reason). IsRead r) read (text-is-read (signed_text negative all))).0;
    }
