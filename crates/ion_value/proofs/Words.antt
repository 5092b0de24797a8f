-- Words among the texts of symbols.
use Rattle.std.proofs.Common.{◌≡◌, ◌≢◌, ℕ, suc, ◌+◌, ◌<◌, ◌≤◌, Bool, true, false, not, ◌&&◌, ◌==◌, List, [], ◌∷◌, length, take, drop, get_or, codes, is_none, refl, ap, sym, ◌∙◌, arith, inl, inr, length-drop}
use Rattle.std.proofs.lemmas.Bool.{and_parts, cases_Bool, eq-eqb, eqb-true, ne_eqb}
use Rattle.std.proofs.lemmas.List.{drop_more, nil_from_length, take_all}
use Rattle.std.specs.Str.{bytes_eq}
use Rattle.ion_value.specs.Digits.{all_are, cut_at}
use Rattle.ion_value.specs.Name.{begins_with, is_id, is_identifier, is_identifier_byte, is_plain, is_version, keyword}

-- ---- the bytes before the first that passes a test

-- what a list is cut into, by the number of the bytes before
cut_is : (test : ℕ → Bool) (bytes : List ℕ) → (take (length (cut_at test bytes).0) bytes, drop (length (cut_at test bytes).0) bytes) ≡ cut_at test bytes
unfolding cut_at
cut_is test [] = refl
cut_is test (b ∷ bytes) = elim (cases_Bool (test b)) [
  | inl e ↦ rw e refl
  | inr e ↦ rw e (ap (λ (p : List ℕ × List ℕ). (b ∷ p.0, p.1)) (cut_is test bytes))
]

-- no byte before this place passes
abbrev pub Before : (ℕ → Bool) → List ℕ → ℕ → Type 0
Before test bytes i = length (cut_at test bytes).0 ≡ i + length (cut_at test (drop i bytes)).0

-- nor this one
pub cut_more : (b : ℕ) (bytes : List ℕ) (i : ℕ) → i < length bytes → Before (λ c. c == b) bytes i → get_or bytes i 0 ≢ b → Before (λ c. c == b) bytes (i + 1)
unfolding cut_at
cut_more b bytes i within so_far other =
    let test = λ (c : ℕ). c == b in
    let fails : (get_or bytes i 0 == b) ≡ false = ne_eqb (get_or bytes i 0) b other in
    let one : length (cut_at test (get_or bytes i 0 ∷ drop (i + 1) bytes)).0 ≡ suc (length (cut_at test (drop (i + 1) bytes)).0) = rw fails refl in
    let here = rw (drop_more bytes i 0 within) at so_far in
    omega (arith, here, one)

-- but this one does
pub cut_found : (b : ℕ) (bytes : List ℕ) (i : ℕ) → i < length bytes → Before (λ c. c == b) bytes i → get_or bytes i 0 ≡ b → (take i bytes, drop i bytes) ≡ cut_at (λ c. c == b) bytes
unfolding cut_at
cut_found b bytes i within so_far same =
    let test = λ (c : ℕ). c == b in
    let passes : (get_or bytes i 0 == b) ≡ true = eq-eqb (get_or bytes i 0) b same in
    let none : length (cut_at test (get_or bytes i 0 ∷ drop (i + 1) bytes)).0 ≡ 0 = rw passes refl in
    let here = rw (drop_more bytes i 0 within) at so_far in
    let place : i ≡ length (cut_at test bytes).0 = omega (arith, here, none) in
    rw (← place) at (cut_is test bytes)

-- no byte does
pub cut_none : (b : ℕ) (bytes : List ℕ) (i : ℕ) → length bytes ≤ i → i ≤ length bytes → Before (λ c. c == b) bytes i → (bytes, []) ≡ cut_at (λ c. c == b) bytes
unfolding cut_at
cut_none b bytes i above below so_far =
    let test = λ (c : ℕ). c == b in
    let none : drop i bytes ≡ [] = nil_from_length (drop i bytes) (omega (arith, length-drop i bytes)) in
    let here : length (cut_at test bytes).0 ≡ i + length (cut_at test []).0 = rw none at so_far in
    let place : i ≡ length (cut_at test bytes).0 = omega (arith, here) in
    let all : take i bytes ≡ bytes = take_all i bytes above in
    rw (← place, all, none) at (cut_is test bytes)

-- ---- comparing

-- what bytes begin with passes the tests that they pass
begins_all : (test : ℕ → Bool) (cs bytes : List ℕ) → begins_with cs bytes ≡ true → all_are test bytes ≡ true → all_are test cs ≡ true
begins_all test [] bytes begins all = refl
begins_all test (c ∷ cs) [] begins all = absurd (cc begins)
begins_all test (c ∷ cs) (b ∷ bytes) begins all =
    let first = and_parts (c == b) (begins_with cs bytes) begins in
    let passes = and_parts (test b) (all_are test bytes) all in
    rw (eqb-true c b first.0, passes.0) (begins_all test cs bytes first.1 passes.1)

-- no identifier has a dot
no_dot : (bytes : List ℕ) → all_are is_identifier_byte bytes ≡ true → begins_with (codes "null.") bytes ≡ false
no_dot bytes all = elim (cases_Bool (begins_with (codes "null.") bytes)) [
  | inl e ↦ absurd (cc (begins_all is_identifier_byte (codes "null.") bytes e all))
  | inr e ↦ e
]

-- an identifier that is none of the first words is a keyword where it is the last
pub keyword_last : (word : List ℕ) (r : Bool) → all_are is_identifier_byte word ≡ true → bytes_eq (codes "null") word ≡ false → bytes_eq (codes "true") word ≡ false
    → bytes_eq (codes "false") word ≡ false → bytes_eq (codes "nan") word ≡ r → r ≡ not (is_none (keyword word))
keyword_last word true all null truth falsity nan = rw (null, no_dot word all, truth, falsity, nan) refl
keyword_last word false all null truth falsity nan = rw (null, no_dot word all, truth, falsity, nan) refl

-- ---- which texts have no quotes

not_twice : (b : Bool) → not (not b) ≡ b
not_twice true = refl
not_twice false = refl

after : (a b c : Bool) → b ≡ false → (a && b && c) ≡ false
after true b c e = rw e refl
after false b c e = refl

-- a text that fails one of the tests has quotes
pub no_identifier : (word : List ℕ) → is_identifier word ≡ false → is_plain word ≡ false
no_identifier word e = rw e refl

pub a_keyword : (word : List ℕ) → not (not (is_none (keyword word))) ≡ false → is_plain word ≡ false
a_keyword word e =
    let fails : is_none (keyword word) ≡ false = sym (not_twice (is_none (keyword word))) ∙ e in
    ap (λ (b : Bool). b && not (is_version word)) (after (is_identifier word) (is_none (keyword word)) (not (is_id word)) fails)

pub an_id : (word : List ℕ) → not (is_id word) ≡ false → is_plain word ≡ false
an_id word e = after (is_identifier word && is_none (keyword word)) (not (is_id word)) (not (is_version word)) e

-- one that passes those before has quotes only where it is a version word
pub no_version : (word : List ℕ) → is_identifier word ≡ true → not (not (is_none (keyword word))) ≡ true → not (is_id word) ≡ true → is_plain word ≡ not (is_version word)
no_version word name other no_id =
    let passes : is_none (keyword word) ≡ true = sym (not_twice (is_none (keyword word))) ∙ other in
    rw (name, passes, no_id) refl
