-- Bytes that are compared with a shape all at once: which are below the least or above the most that may stand there.
use Rattle.std.proofs.Common.{inl, inr, ◌≡◌, ℕ, ◌+◌, ◌*◌, ◌%◌, ◌^◌, ◌≤◌, Bool, true, false, not, cond, ◌||◌, ◌==◌, nat_lt, if◌then◌else◌, List, [], ◌∷◌, map, length, refl, ap, ap₂, ◌∙◌, arith}
use Rattle.std.proofs.lemmas.Bool.{cases_Bool, eqb-true, ne_eqb}
use Rattle.std.proofs.lemmas.Bool.Decides.{nat_tests}
use Rattle.std.proofs.lemmas.Simd.{mask_l-mod}
use lib.Bits.{bit_or}
use lib.Lanes.{zip2, mask_l, top}
use Rattle.ion_value.specs.Digits.{is_digit}
use Rattle.ion_value.specs.Timestamp.{looks_like}

-- the most that may stand at a byte of a shape, where the least is that byte
abbrev pub most : ℕ → ℕ
most c = if c == 48 then 57 else c

-- what does not fit there
abbrev unfit : ℕ → ℕ → Bool
unfit c b = nat_lt b c || nat_lt (most c) b

abbrev fits : ℕ → ℕ → Bool
fits c b = if c == 48 then is_digit b else c == b

unfit-fits : (c b : ℕ) → unfit c b ≡ not (fits c b)
unfit-fits c b =
    elim (cases_Bool (c == 48)) [
      | inl e ↦ rw (eqb-true c 48 e) (grind (arith, nat_tests))
      | inr e ↦ rw e (grind (arith, nat_tests))
    ]

-- a lane that passes has all bits
abbrev lane : Bool → ℕ
lane b = cond b 255 0

either : (a b : Bool) → top 7 (bit_or (lane a) (lane b)) ≡ (a || b)
either true true = refl
either true false = refl
either false true = refl
either false false = refl

-- the lanes that do not fit
abbrev unfits : List ℕ → List ℕ → List Bool
unfits [] v = []
unfits (c ∷ cs) [] = []
unfits (c ∷ cs) (b ∷ v) = unfit c b ∷ unfits cs v

lanes-unfit : (cs v : List ℕ) → length v ≡ length cs
    → map (top 7) (zip2 bit_or (zip2 (λ a b. lane (nat_lt a b)) v cs) (zip2 (λ a b. lane (nat_lt a b)) (map most cs) v)) ≡ unfits cs v
lanes-unfit [] [] long = refl
lanes-unfit [] (b ∷ v) long = absurd (omega arith)
lanes-unfit (c ∷ cs) [] long = absurd (omega arith)
lanes-unfit (c ∷ cs) (b ∷ v) long = ap₂ (λ (x : Bool) (xs : List Bool). x ∷ xs) (either (nat_lt b c) (nat_lt (most c) b)) (lanes-unfit cs v (omega arith))

length-unfits : (cs v : List ℕ) → length (unfits cs v) ≤ length cs
length-unfits [] v = omega arith
length-unfits (c ∷ cs) [] = omega arith
length-unfits (c ∷ cs) (b ∷ v) = omega (arith, length-unfits cs v)

same_zero : (n : ℕ) → (0 + 2 * n == 0) ≡ (n == 0)
same_zero n = grind (arith, nat_tests)

-- there is none where the bytes look like the shape
none-unfit : (cs v : List ℕ) → length v ≡ length cs → (mask_l (unfits cs v) == 0) ≡ looks_like cs v
none-unfit [] [] long = refl
none-unfit [] (b ∷ v) long = absurd (omega arith)
none-unfit (c ∷ cs) [] long = absurd (omega arith)
none-unfit (c ∷ cs) (b ∷ v) long =
    let rest = none-unfit cs v (omega arith) in
    elim (cases_Bool (fits c b)) [
      | inl e ↦
          let head : unfit c b ≡ false = unfit-fits c b ∙ ap not e in
          rw (head, e) (same_zero (mask_l (unfits cs v)) ∙ rest)
      | inr e ↦
          let head : unfit c b ≡ true = unfit-fits c b ∙ ap not e in
          rw (head, e) (ne_eqb (1 + 2 * mask_l (unfits cs v)) 0 (λ p. absurd (omega arith)))
    ]

-- so the bits of the lanes that do not fit tell whether the bytes look like it
pub shape-mask : (cs v : List ℕ) → length v ≡ length cs → length cs ≤ 64
    → (mask_l (map (top 7) (zip2 bit_or (zip2 (λ a b. lane (nat_lt a b)) v cs) (zip2 (λ a b. lane (nat_lt a b)) (map most cs) v))) % 2 ^ 64 == 0) ≡ looks_like cs v
shape-mask cs v long few =
    rw (lanes-unfit cs v long, mask_l-mod (unfits cs v) 64 (omega (arith, length-unfits cs v))) (none-unfit cs v long)
