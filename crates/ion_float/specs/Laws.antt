-- Laws of the definitions of this crate.
use Rattle.std.specs.Prelude.{◌≡◌, ◌≢◌, ◌≤◌, ◌<◌, ◌↔◌, ◌*◌, ◌^◌, ◌%◌, ℕ, true, List, length, Some, Ok, Err, from_bits}
use lib.Ieee.{Float, binary64}
use lib.Ieee.Positive.{num, den}
use Rattle.core.specs.Int.{abs_diff}
use Rattle.ion_meter.specs.declared.fault.Reason.TheVariants as reason
use Rattle.ion_value.specs.Digits.{without_minus}
use Rattle.ion_value.specs.Decimal.{parts_of, decimal_of_text}
use Rattle.ion_value.specs.Float.{IsFloat}
use Rattle.ion_value.specs.FloatOctets.{float_of_octets, float_octets}
use Rattle.ion_value.specs.FloatText.{is_float, float_text, float_of_text}
use Rattle.ion_value.specs.Shortest.{reads}

-- ---- the shortest decimal of a double

-- how far a decimal is from a double, times 10 ^ 342 * den x
abbrev pub distance : ℕ → ℕ → ℕ → ℕ
distance digits row bits = let x = from_bits binary64 bits in abs_diff (digits * 10 ^ row * den x) (num x * 10 ^ 342)

-- the first number has no more digits than the second
abbrev pub HasNoMoreDigits : ℕ → ℕ → Type 0
HasNoMoreDigits a b = (n : ℕ) → b < 10 ^ n → a < 10 ^ n

-- The words for it: it has the fewest digits that read as the double, and is the nearest of those that have no more, the even one of two.
pub record IsShortest (digits row bits : ℕ) : Type 0 where
  pub read : reads digits row bits
  pub fewest : (other power : ℕ) → reads other power bits → HasNoMoreDigits digits other
  pub nearest : (other power : ℕ) → reads other power bits → HasNoMoreDigits other digits
      → distance digits row bits ≤ distance other power bits
  pub even : (other : ℕ) → reads other row bits → HasNoMoreDigits other digits
      → other ≢ digits → distance other row bits ≡ distance digits row bits → digits % 2 ≡ 0

-- ---- floats in binary and in text

-- reading the octets of a float gives the float
abbrev pub FloatOctetsAreRead : Type 0
FloatOctetsAreRead = (x : Float) → IsFloat x → float_of_octets (float_octets x) ≡ Some x

-- no other octets that are read to the float are fewer
abbrev pub FloatOctetsAreFewest : Type 0
FloatOctetsAreFewest = (x : Float) (octets : List ℕ) → float_of_octets octets ≡ Some x → length (float_octets x) ≤ length octets

-- reading the text of a float gives the float
abbrev pub FloatTextIsRead : Type 0
FloatTextIsRead = (x : Float) → IsFloat x → float_of_text (float_text x) ≡ Ok x

-- floats with the same text are the same
abbrev pub FloatTextIsUnique : Type 0
FloatTextIsUnique = (x y : Float) → IsFloat x → IsFloat y → float_text x ≡ float_text y → x ≡ y

-- a run has the shape of a float exactly where a decimal is refused for it
abbrev pub FloatShapeIsRefused : Type 0
FloatShapeIsRefused = (run : List ℕ) → (decimal_of_text run ≡ Err reason.Float) ↔ (is_float (parts_of (without_minus run)) ≡ true)
