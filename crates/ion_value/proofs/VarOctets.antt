-- Laws of the fewest octets of a VarUInt and of a VarInt: they are one and spell its value, and no others as short do.
use Rattle.std.proofs.Common.{◌≡◌, ℕ, suc, ◌+◌, ◌*◌, ◌%◌, ◌^◌, ◌<◌, ◌≤◌, inl, inr, Bool, leb, List, [], ◌∷◌, length, refl, sym, ap, ◌∙◌, arith}
use Rattle.std.proofs.lemmas.Bool.{cases_lt}
use Rattle.std.proofs.lemmas.List.{length-map}
use Rattle.std.proofs.Math.Nat.{pow-le-pow_right}
use Rattle.ion_value.specs.declared.var.Signed.{Signed}
use Rattle.ion_value.specs.Number.{number, IsVar, sevens, VarUInt, var_int_negative, var_int_magnitude, VarInt, digits_in, marked, with_sign, var_uint_octets, var_int_octets}
use Rattle.ion_value.proofs.Numbers.{var_uint-lt, IsVar-pos}
use Rattle.ion_value.proofs.Octets.{Below, number-same, Digits, Digits-fewest, digits_in-Digits, low-same, Signing, with_sign-Signing, Signing-fewest}

-- groups of seven bits, the high bit set on the last of them
IsVar-marked : (ds : List ℕ) → Below 128 ds → IsVar (marked ds)
IsVar-marked [] h = omega arith
IsVar-marked (d ∷ []) h = omega arith
IsVar-marked (d ∷ e ∷ []) h = (h.0, omega arith)
IsVar-marked (d ∷ e ∷ f ∷ ds) h = (h.0, IsVar-marked (e ∷ f ∷ ds) h.1)

-- they are octets, and as many
pub Below-marked : (ds : List ℕ) → Below 128 ds → Below 256 (marked ds)
Below-marked [] h = (omega arith, tt)
Below-marked (d ∷ []) h = (omega (arith, h.0), tt)
Below-marked (d ∷ e ∷ ds) h = (omega (arith, h.0), Below-marked (e ∷ ds) h.1)

length-marked : (d : ℕ) (ds : List ℕ) → length (marked (d ∷ ds)) ≡ suc (length ds)
length-marked d [] = refl
length-marked d (e ∷ ds) = ap suc (length-marked e ds)

-- the groups stand in the octets
sevens-marked : (d : ℕ) (ds : List ℕ) → Below 128 (d ∷ ds) → sevens (marked (d ∷ ds)) ≡ d ∷ ds
sevens-marked d [] h = let e : (d + 128) % 128 ≡ d = omega (arith, h.0) in rw e refl
sevens-marked d (e ∷ ds) h = let same : d % 128 ≡ d = omega (arith, h.0) in rw (same, sevens-marked e ds h.1) refl

marked-sevens : (b : List ℕ) → IsVar b → Below 256 b → marked (sevens b) ≡ b
marked-sevens [] ends h = absurd ends
marked-sevens (x ∷ []) ends h = let e : x % 128 + 128 ≡ x = omega (arith, h.0, ends) in rw e refl
marked-sevens (x ∷ y ∷ b) ends h = let e : x % 128 ≡ x = omega (arith, ends.0) in rw (e, marked-sevens (y ∷ b) ends.1 h.1) refl

-- octets with the same groups are the same
sevens-same : (b c : List ℕ) → IsVar b → IsVar c → Below 256 b → Below 256 c → sevens b ≡ sevens c → b ≡ c
sevens-same b c hb hc lb lc e = sym (marked-sevens b hb lb) ∙ ap marked e ∙ marked-sevens c hc lc

-- the groups are below 128
Below-sevens : (b : List ℕ) → Below 128 (sevens b)
Below-sevens [] = tt
Below-sevens (x ∷ b) = (omega arith, Below-sevens b)

-- ---- VarUInts

-- as many octets that spell the same number are the same
pub VarUInt-same : (n : ℕ) (b c : List ℕ) → VarUInt n b → VarUInt n c → Below 256 b → Below 256 c → length b ≡ length c → b ≡ c
VarUInt-same n b c hb hc lb lc len =
    let long : length (sevens b) ≡ length (sevens c) = simp length-map len in
    sevens-same b c hb.ends hc.ends lb lc (number-same 128 (sevens b) (sevens c) long (Below-sevens b) (Below-sevens c) (sym hb.value ∙ hc.value))

-- the digits of a number below 2^63 in base 128 make a VarUInt
VarUInt-marked : (n : ℕ) (ds : List ℕ) → Digits 128 n ds → n < 2 ^ 63 → VarUInt n (marked ds)
VarUInt-marked n [] h small = record { short = omega arith; ends = omega arith; value = sym h.value }
VarUInt-marked n (d ∷ ds) h small = record {
  short = elim (cases_lt 9 (suc (length ds))) [
    | inl more ↦ absurd (omega (arith, h.least 9 more))
    | inr few ↦ rw length-marked few
  ];
  ends = IsVar-marked (d ∷ ds) h.below;
  value = sym h.value ∙ ap (number 128) (sym (sevens-marked d ds h.below));
}

-- the shortest octets of a number below 2^63 are a VarUInt and spell it
pub var_uint_octets-VarUInt : (n : ℕ) → n < 2 ^ 63 → VarUInt n (var_uint_octets n)
var_uint_octets-VarUInt n small = VarUInt-marked n (digits_in 128 n) (digits_in-Digits 128 n (omega arith)) small

-- no octets with room for the number are fewer
marked-fewest : (n : ℕ) (ds c : List ℕ) → Digits 128 n ds → 0 < length c → n < 128 ^ length c → length (marked ds) ≤ length c
marked-fewest n [] c h some small = some
marked-fewest n (d ∷ ds) c h some small = rw length-marked (Digits-fewest 128 n (d ∷ ds) c h small)

-- no VarUInt of the number has fewer
pub var_uint_octets-fewest : (n : ℕ) (c : List ℕ) → VarUInt n c → length (var_uint_octets n) ≤ length c
var_uint_octets-fewest n c h =
    let small : n < 128 ^ length c = omega (arith, h.value, var_uint-lt c) in
    marked-fewest n (digits_in 128 n) c (digits_in-Digits 128 n (omega arith)) (IsVar-pos c h.ends) small

-- octets that are a VarUInt of the number, and than which no other has fewer, are the shortest of the definition
pub var_uint-spelled : (n : ℕ) (b : List ℕ) → VarUInt n b → Below 256 b → ((c : List ℕ) → VarUInt n c → length b ≤ length c) → n < 2 ^ 63 → b ≡ var_uint_octets n
var_uint-spelled n b h octets shortest small =
    let digits = digits_in-Digits 128 n (omega arith) in
    let whole = var_uint_octets-VarUInt n small in
    let less = shortest (var_uint_octets n) whole in
    let more = var_uint_octets-fewest n b h in
    VarUInt-same n b (var_uint_octets n) h whole octets (Below-marked (digits_in 128 n) digits.below) (omega arith)

-- ---- VarInts

-- the sign and the magnitude in groups of seven bits
marked-negative : (d : ℕ) (ds : List ℕ) → d < 128 → var_int_negative (marked (d ∷ ds)) ≡ leb 64 d
marked-negative d [] small = let e : (d + 128) % 128 ≡ d = omega arith in rw e refl
marked-negative d (f ∷ ds) small = let e : d % 128 ≡ d = omega arith in rw e refl

marked-magnitude : (d : ℕ) (ds : List ℕ) → d < 128 → Below 128 ds → var_int_magnitude (marked (d ∷ ds)) ≡ number 128 (d % 64 ∷ ds)
marked-magnitude d [] small h = let e : (d + 128) % 64 ≡ d % 64 = omega arith in rw e refl
marked-magnitude d (f ∷ ds) small h = rw (sevens-marked f ds h) refl

-- digits in base 128 with a sign make a VarInt
VarInt-marked : (z : Signed) (s : List ℕ) → Signing 128 64 z.negative z.magnitude s → z.magnitude < 2 ^ 62 → VarInt z (marked s)
VarInt-marked z s h small =
    let few : length h.rest ≤ 8 = elim (cases_lt 8 (length h.rest)) [
      | inl more ↦
          let powers : 128 ^ 9 ≤ 128 ^ length h.rest = pow-le-pow_right {n = 128} (omega arith) more in
          absurd (omega (arith, h.least))
      | inr few ↦ few
    ] in
    rw h.is (record {
      short = rw length-marked (omega arith);
      ends = IsVar-marked (h.first ∷ h.rest) (h.below, h.rest_below);
      sign = sym (marked-negative h.first h.rest h.below ∙ h.sign);
      magnitude = sym (marked-magnitude h.first h.rest h.below h.rest_below ∙ h.magnitude);
    })

-- the shortest octets of a sign and a magnitude below 2^62 are a VarInt and spell them
pub var_int_octets-VarInt : (z : Signed) → z.magnitude < 2 ^ 62 → VarInt z (var_int_octets z.negative z.magnitude)
var_int_octets-VarInt z small =
    VarInt-marked z (with_sign 64 z.negative (digits_in 128 z.magnitude)) (with_sign-Signing 128 64 z.magnitude z.negative (digits_in 128 z.magnitude) (omega arith) refl (digits_in-Digits 128 z.magnitude (omega arith))) small

-- how many they are at most, and that they are octets
pub var_int_octets-short : (negative : Bool) (n k : ℕ) → 2 * n + 1 < 128 ^ k → length (var_int_octets negative n) ≤ k
var_int_octets-short negative n k small =
    let h = with_sign-Signing 128 64 n negative (digits_in 128 n) (omega arith) refl (digits_in-Digits 128 n (omega arith)) in
    let same : length (var_int_octets negative n) ≡ suc (length h.rest) = rw h.is (length-marked h.first h.rest) in
    elim (cases_lt (length h.rest) k) [
      | inl few ↦ omega arith
      | inr more ↦
          let powers : 128 ^ k ≤ 128 ^ length h.rest = pow-le-pow_right {n = 128} (omega arith) more in
          absurd (omega (arith, h.least))
    ]

pub var_int_octets-Below : (negative : Bool) (n : ℕ) → Below 256 (var_int_octets negative n)
var_int_octets-Below negative n =
    let h = with_sign-Signing 128 64 n negative (digits_in 128 n) (omega arith) refl (digits_in-Digits 128 n (omega arith)) in
    let below : Below 128 (with_sign 64 negative (digits_in 128 n)) = rw h.is (h.below, h.rest_below) in
    Below-marked (with_sign 64 negative (digits_in 128 n)) below

-- no VarInt of the magnitude has fewer, whatever its sign
pub var_int_octets-fewest : (negative : Bool) (z : Signed) (c : List ℕ) → VarInt z c → length (var_int_octets negative z.magnitude) ≤ length c
var_int_octets-fewest negative z [] h = absurd h.ends
var_int_octets-fewest negative z (x ∷ c) h =
    let s : List ℕ = with_sign 64 negative (digits_in 128 z.magnitude) in
    let whole = with_sign-Signing 128 64 z.magnitude negative (digits_in 128 z.magnitude) (omega arith) refl (digits_in-Digits 128 z.magnitude (omega arith)) in
    let long : length (sevens c) ≡ length c = simp length-map in
    let few : length s ≤ suc (length (sevens c)) = Signing-fewest 128 64 z.magnitude x negative s (sevens c) (omega arith) refl whole (Below-sevens c) (sym h.magnitude) in
    let same : length (marked s) ≡ length s = rw whole.is (length-marked whole.first whole.rest) in
    omega arith

-- as many octets that spell the same sign and magnitude are the same
pub VarInt-same : (z : Signed) (b c : List ℕ) → VarInt z b → VarInt z c → Below 256 b → Below 256 c → length b ≡ length c → b ≡ c
VarInt-same z [] c hb hc lb lc len = absurd hb.ends
VarInt-same z (x ∷ b) [] hb hc lb lc len = absurd hc.ends
VarInt-same z (x ∷ b) (y ∷ c) hb hc lb lc len =
    let long : suc (length (sevens b)) ≡ suc (length (sevens c)) = simp length-map len in
    let spelled : number 128 (x % 64 ∷ sevens b) ≡ number 128 (y % 64 ∷ sevens c) = sym hb.magnitude ∙ hc.magnitude in
    let parts : x % 64 ∷ sevens b ≡ y % 64 ∷ sevens c = number-same 128 (x % 64 ∷ sevens b) (y % 64 ∷ sevens c) long (omega arith, Below-sevens b) (omega arith, Below-sevens c) spelled in
    let bits : x % 64 ≡ y % 64 = cc in
    let low : x % 128 % 64 ≡ y % 128 % 64 = omega arith in
    let first : x % 128 ≡ y % 128 = low-same 64 (x % 128) (y % 128) (omega arith) (omega arith) low (sym hb.sign ∙ hc.sign) in
    let rest : sevens b ≡ sevens c = cc in
    sevens-same (x ∷ b) (y ∷ c) hb.ends hc.ends lb lc cc

-- octets that are a VarInt of the sign and magnitude, and than which no other has fewer, are the shortest of the definition
pub var_int-spelled : (z : Signed) (b : List ℕ) → VarInt z b → Below 256 b → ((c : List ℕ) → VarInt z c → length b ≤ length c) → z.magnitude < 2 ^ 62 → b ≡ var_int_octets z.negative z.magnitude
var_int-spelled z b h octets shortest small =
    let whole = var_int_octets-VarInt z small in
    let less = shortest (var_int_octets z.negative z.magnitude) whole in
    let more = var_int_octets-fewest z.negative z b h in
    VarInt-same z b (var_int_octets z.negative z.magnitude) h whole octets (var_int_octets-Below z.negative z.magnitude) (omega arith)
