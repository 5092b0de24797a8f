-- Numbers as the octets of the binary encoding spell them.
use Rattle.std.specs.Prelude.{◌≡◌, ℕ, zero, suc, ◌+◌, ◌*◌, ◌/◌, ◌%◌, ◌^◌, ◌<◌, ◌≤◌, ℤ, pos, neg_ℤ, Bool, true, false, nat_le, nat_lt, if◌then◌else◌, List, [], ◌∷◌, ◌++◌, length, map, Option, Some, None, option_map}
use Rattle.ion_value.specs.declared.var.Signed.{Signed}

-- the number whose digits these are in a base, the first digit counting most: the sum of each digit times the base to the number of digits
-- after it
abbrev pub number : ℕ → List ℕ → ℕ
number base [] = 0
number base (d ∷ ds) = d * base ^ length ds + number base ds

-- the octets of one VarUInt or VarInt: the high bit is set on the last of them alone (binary encoding, "VarUInt and VarInt Fields")
abbrev pub IsVar : List ℕ → Type 0
IsVar [] = ⊥
IsVar (b ∷ []) = 128 ≤ b
IsVar (b ∷ c ∷ bs) = (b < 128) × IsVar (c ∷ bs)

-- the low seven bits of each octet
abbrev pub sevens : List ℕ → List ℕ
sevens b = map (λ x. x % 128) b

-- the number that the octets of a VarUInt spell, seven bits in each
abbrev pub var_uint : List ℕ → ℕ
var_uint b = number 128 (sevens b)

-- these octets are a VarUInt of at most nine octets, and spell this number
pub record VarUInt (n : ℕ) (b : List ℕ) : Type 0 where
  pub short : length b ≤ 9
  pub ends : IsVar b
  pub value : n ≡ var_uint b

-- whether the octets of a VarInt have a minus: bit 6 of the first of them (binary encoding, "VarUInt and VarInt Fields")
abbrev pub var_int_negative : List ℕ → Bool
var_int_negative [] = false
var_int_negative (first ∷ rest) = nat_le 64 (first % 128)

-- the magnitude that the octets of a VarInt spell: six bits in the first of them, and seven in each of the rest
abbrev pub var_int_magnitude : List ℕ → ℕ
var_int_magnitude [] = 0
var_int_magnitude (first ∷ rest) = number 128 (first % 64 ∷ sevens rest)

-- these octets are a VarInt of at most nine octets, and spell this sign and magnitude
pub record VarInt (z : Signed) (b : List ℕ) : Type 0 where
  pub short : length b ≤ 9
  pub ends : IsVar b
  pub sign : z.negative ≡ var_int_negative b
  pub magnitude : z.magnitude ≡ var_int_magnitude b

-- the number that the octets of a UInt spell, where no octets spell zero (binary encoding, "UInt and Int Fields")
abbrev pub uint : List ℕ → ℕ
uint b = number 256 b

-- whether the octets of an Int have a minus: the high bit of the first of them (binary encoding, "UInt and Int Fields")
abbrev pub int_negative : List ℕ → Bool
int_negative [] = false
int_negative (first ∷ rest) = nat_le 128 first

-- the magnitude that the octets of an Int spell: seven bits in the first of them, and eight in each of the rest
abbrev pub int_magnitude : List ℕ → ℕ
int_magnitude [] = 0
int_magnitude (first ∷ rest) = number 256 (first % 128 ∷ rest)

-- a sign and a magnitude as one number
abbrev pub signed : Bool → ℕ → ℤ
signed true n = neg_ℤ (pos n)
signed false n = pos n

-- ---- where a field ends

-- the octets of the VarUInt or VarInt at the front of a body, at most so many, and those after it
unfoldable pub var_cut : ℕ → List ℕ → Option (List ℕ × List ℕ)
var_cut zero body = None
var_cut (suc most) [] = None
var_cut (suc most) (b ∷ body) =
    if nat_lt b 128 then option_map (λ cut. (b ∷ cut.0, cut.1)) (var_cut most body) else Some (b ∷ [], body)

-- ---- the fewest octets

-- the digits of a number in a base, the one that counts most first, and none of zero; the first argument is how many there are at most
unfoldable pub digits_within : ℕ → ℕ → ℕ → List ℕ
digits_within zero base n = []
digits_within (suc most) base zero = []
digits_within (suc most) base (suc n) = digits_within most base (suc n / base) ++ (suc n % base) ∷ []

-- all digits of a number in a base of 2 or more, the one that counts most first, and none of zero
abbrev pub digits_in : ℕ → ℕ → List ℕ
digits_in base n = digits_within n base n

-- groups of seven bits as the octets of a VarUInt or VarInt: the high bit set on the last alone, and one octet where there is no group
abbrev pub marked : List ℕ → List ℕ
marked [] = 128 ∷ []
marked (d ∷ []) = (d + 128) ∷ []
marked (d ∷ e ∷ ds) = d ∷ marked (e ∷ ds)

-- digits with a sign in the high bit of the first, which stands before them where the first has that bit already
abbrev pub with_sign : ℕ → Bool → List ℕ → List ℕ
with_sign bit negative [] = (if negative then bit else 0) ∷ []
with_sign bit negative (d ∷ ds) =
    if nat_lt d bit then (if negative then d + bit else d) ∷ ds else (if negative then bit else 0) ∷ d ∷ ds

-- the shortest UInt of a number, which has no octets for zero
abbrev pub uint_octets : ℕ → List ℕ
uint_octets n = digits_in 256 n

-- the shortest VarUInt of a number
abbrev pub var_uint_octets : ℕ → List ℕ
var_uint_octets n = marked (digits_in 128 n)

-- the shortest VarInt of a sign (true for minus) and a magnitude
abbrev pub var_int_octets : Bool → ℕ → List ℕ
var_int_octets negative n = marked (with_sign 64 negative (digits_in 128 n))

-- the shortest Int of a coefficient, of which positive zero needs no octets
abbrev pub coefficient_octets : Bool → ℕ → List ℕ
coefficient_octets false zero = []
coefficient_octets false (suc n) = with_sign 128 false (digits_in 256 (suc n))
coefficient_octets true n = with_sign 128 true (digits_in 256 n)
