-- The bytes of a word, the id that it may be, and what it means.
use Rattle.std.proofs.Common.{◌≡◌, ℕ, suc, ◌+◌, ◌-◌, ◌*◌, ◌^◌, ◌<◌, ◌≤◌, Bool, true, false, ◌&&◌, ◌||◌, ◌==◌, nat_lt, min, if◌then◌else◌, List, [], ◌∷◌, ◌++◌, length, take, drop, map, get_or, codes, Option, Some, None, Result, Ok, refl, sym, ap, subst, ◌∙◌, arith}
use Rattle.std.proofs.lemmas.Bool.{and_parts, eqb-true, lt-ltb}
use Rattle.std.proofs.lemmas.Bool.Decides.{nat_tests}
use Rattle.std.proofs.lemmas.List.{take_more, length-drop, append_assoc, map-append, drop-drop}
use Rattle.std.proofs.Math.Seq.{take-add}
use Rattle.std.specs.Str.{bytes_eq}
use Rattle.ion_value.specs.Number.{number}
use Rattle.ion_value.specs.Digits.{is_digit, digit_value, first_is, all_are}
use Rattle.ion_meter.specs.declared.fault.Reason.{Reason}
use Rattle.ion_value.specs.Name.{raw_id, begins_with}
use Rattle.ion_value.specs.Value as value
use Rattle.ion_value.proofs.Numbers.{number-append_one}
use Rattle.ion_text_in.specs.Places.{run_of}
use Rattle.ion_text_in.specs.Token.{Token, name, in_word, with_type, word_of, word_token}
use Rattle.ion_text_in.specs.Views.{AreShown, may_be_keyword, id_in}
use Rattle.ion_text_in.specs.Runs.{EndAfter}

-- ---- ids

digit-less : (b : ℕ) → is_digit b ≡ true → digit_value b ≡ b - 48
digit-less b e = grind (arith, nat_tests)

-- one digit more
pub id-more : (digits : List ℕ) (i id : ℕ) → i < length digits → is_digit (get_or digits i 0) ≡ true → id ≡ raw_id (number 10 (map digit_value (take i digits)))
    → min (id * 10 + (get_or digits i 0 - 48)) (2 ^ 31) ≡ raw_id (number 10 (map digit_value (take (i + 1) digits)))
id-more digits i id within is e =
    let b : ℕ = get_or digits i 0 in
    let before : ℕ = number 10 (map digit_value (take i digits)) in
    let all : number 10 (map digit_value (take (i + 1) digits)) ≡ before * 10 + digit_value b =
    ap (λ (l : List ℕ). number 10 (map digit_value l)) (take_more digits i 0 within)
    ∙ ap (number 10) (map-append digit_value (take i digits) (b ∷ []))
    ∙ number-append_one 10 (map digit_value (take i digits)) (digit_value b) in
    let value = digit-less b is in
    omega (arith, all, value, e)

-- ---- how far a word goes

-- a word, and what stands after it before its type
word-here : (slice more : List ℕ) (n : ℕ) → 1 ≤ length slice → EndAfter in_word (drop 1 slice) n → word_of (slice ++ more) ≡ with_type (take (1 + n) slice) (drop (1 + n) slice ++ more)
word-here [] more n some ends = absurd (omega (arith, some))
word-here (b ∷ others) more n some ends =
    let one : 1 + n ≡ suc n = omega arith in
    subst (λ (k : ℕ). word_of (b ∷ (others ++ more)) ≡ with_type (take k (b ∷ others)) (drop k (b ∷ others) ++ more)) (sym one)
    (ap (λ (z : List ℕ × List ℕ). with_type (b ∷ z.0) z.1) (ends more))

first-same : (test : ℕ → Bool) (xs more : List ℕ) → 1 ≤ length xs → first_is test (xs ++ more) ≡ first_is test xs
first-same test [] more some = absurd (omega (arith, some))
first-same test (b ∷ xs) more some = refl

after-some : (slice : List ℕ) (n : ℕ) → n < length (drop 1 slice) → 1 ≤ length (drop (1 + n) slice)
after-some slice n within = omega (arith, within, length-drop 1 slice, length-drop (1 + n) slice)

-- without a type
pub word-untyped : (slice : List ℕ) (n : ℕ) → 1 ≤ length slice → n < length (drop 1 slice) → EndAfter in_word (drop 1 slice) n
    → (bytes_eq (codes "null") (take (1 + n) slice) && first_is (λ b. b == 46) (drop (1 + n) slice)) ≡ false → AreShown word_of slice (1 + n)
word-untyped slice n some within ends none =
    let word : List ℕ = take (1 + n) slice in
    let after : List ℕ = drop (1 + n) slice in
    record {
      within = omega (arith, within, length-drop 1 slice);
      same = λ more.
          let first = first-same (λ b. b == 46) after more (after-some slice n within) in
          word-here slice more n some ends
          ∙ ap (λ (point : Bool). if bytes_eq (codes "null") word && point then word ++ 46 ∷ (run_of in_word (drop 1 (after ++ more))).0 else word) first
          ∙ ap (λ (typed : Bool). if typed then word ++ 46 ∷ (run_of in_word (drop 1 (after ++ more))).0 else word) none;
    }

one-point : (xs : List ℕ) → first_is (λ b. b == 46) xs ≡ true → xs ≡ 46 ∷ drop 1 xs
one-point [] e = absurd (cc e)
one-point (b ∷ xs) e = ap (λ (c : ℕ). c ∷ xs) (eqb-true b 46 e)

-- with the name of one
pub word-typed : (slice : List ℕ) (n m : ℕ) → 1 ≤ length slice → n < length (drop 1 slice) → EndAfter in_word (drop 1 slice) n
    → (bytes_eq (codes "null") (take (1 + n) slice) && first_is (λ b. b == 46) (drop (1 + n) slice)) ≡ true
    → m < length (drop (1 + n + 1) slice) → EndAfter in_word (drop (1 + n + 1) slice) m → AreShown word_of slice (1 + n + 1 + m)
word-typed slice n m some within ends typed there later =
    let word : List ℕ = take (1 + n) slice in
    let after : List ℕ = drop (1 + n) slice in
    let name : List ℕ = drop (1 + n + 1) slice in
    let point = one-point after (and_parts (bytes_eq (codes "null") word) (first_is (λ b. b == 46) after) typed).1 in
    let names : drop 1 after ≡ name = drop-drop 1 (1 + n) slice in
    let all : take (1 + n + 1 + m) slice ≡ word ++ 46 ∷ take m name =
    take-add (1 + n + 1) m slice
    ∙ ap (λ (l : List ℕ). l ++ take m name) (take-add (1 + n) 1 slice)
    ∙ append_assoc word (take 1 after) (take m name)
    ∙ ap (λ (l : List ℕ). word ++ (take 1 l ++ take m name)) point in
    record {
      within = omega (arith, there, length-drop (1 + n + 1) slice);
      same = λ more.
          let first = first-same (λ b. b == 46) after more (after-some slice n within) in
          let next : drop 1 (after ++ more) ≡ name ++ more = ap (λ (l : List ℕ). drop 1 (l ++ more)) point ∙ ap (λ (l : List ℕ). l ++ more) names in
          word-here slice more n some ends
          ∙ ap (λ (point : Bool). if bytes_eq (codes "null") word && point then word ++ 46 ∷ (run_of in_word (drop 1 (after ++ more))).0 else word) first
          ∙ ap (λ (typed : Bool). if typed then word ++ 46 ∷ (run_of in_word (drop 1 (after ++ more))).0 else word) typed
          ∙ ap (λ (l : List ℕ). word ++ 46 ∷ (run_of in_word l).0) next
          ∙ ap (λ (z : List ℕ × List ℕ). word ++ 46 ∷ z.0) (later more)
          ∙ sym all;
    }

-- ---- what a word means

-- no keyword
other-word : (word : List ℕ) → bytes_eq (codes "null") word ≡ false → begins_with (codes "null.") word ≡ false → bytes_eq (codes "true") word ≡ false
    → bytes_eq (codes "false") word ≡ false → bytes_eq (codes "nan") word ≡ false → first_is (λ b. b == 36) word ≡ false → word_token word ≡ Ok (name false (value.Text word))
unfolding word_token
other-word word not_null typed truth falsity nan dollar = rw (not_null, typed, truth, falsity, nan, dollar) refl

pub keyword-first : (word : List ℕ) → 1 ≤ length word → (110 == get_or word 0 0 || 116 == get_or word 0 0 || 102 == get_or word 0 0) ≡ may_be_keyword word
keyword-first [] some = absurd (omega (arith, some))
keyword-first (b ∷ bytes) some = refl

-- its first byte tells that
pub plain-word : (word : List ℕ) → may_be_keyword word ≡ false → first_is (λ b. b == 36) word ≡ false → word_token word ≡ Ok (name false (value.Text word))
plain-word [] none dollar = other-word [] refl refl refl refl refl refl
plain-word (b ∷ bytes) none dollar =
    let parts = or_parts (110 == b || 116 == b) (102 == b) none in
    let first = or_parts (110 == b) (116 == b) parts.0 in
    other-word (b ∷ bytes) (rw first.0 refl) (rw first.0 refl) (rw first.1 refl) (rw parts.1 refl) (rw first.0 refl) dollar
  where
    or_parts : (x y : Bool) → (x || y) ≡ false → (x ≡ false) × (y ≡ false)
    or_parts true y e = absurd (cc e)
    or_parts false y e = (refl, e)

-- after a dollar sign an id, or not
abbrev pub id_token : List ℕ → Option ℕ → Token
id_token word (Some id) = name false (value.Id id)
id_token word None = name false (value.Text word)

abbrev pub ok : Token → Result Token Reason
ok t = Ok t

id-either : (word : List ℕ) (id : ℕ) (is : Bool) → ok (name false (if is then value.Id id else value.Text word)) ≡ ok (id_token word (if is then Some id else None))
id-either word id true = refl
id-either word id false = refl

pub dollar-word : (word : List ℕ) → first_is (λ b. b == 36) word ≡ true → word_token word ≡ Ok (id_token word (id_in (drop 1 word)))
unfolding word_token
dollar-word [] e = absurd (cc e)
dollar-word (b ∷ digits) e = subst (λ (b : ℕ). word_token (b ∷ digits) ≡ Ok (id_token (b ∷ digits) (id_in digits))) (sym (eqb-true b 36 e)) (from digits)
  where
    from : (digits : List ℕ) → word_token (36 ∷ digits) ≡ Ok (id_token (36 ∷ digits) (id_in digits))
    from [] = refl
    from (d ∷ digits) =
        let many : nat_lt 1 (length (36 ∷ d ∷ digits)) ≡ true = lt-ltb 1 (length (36 ∷ d ∷ digits)) (omega arith) in
        let some : nat_lt 0 (length (d ∷ digits)) ≡ true = lt-ltb 0 (length (d ∷ digits)) (omega arith) in
        rw (many, some) (id-either (36 ∷ d ∷ digits) (raw_id (number 10 (map digit_value (d ∷ digits)))) (all_are is_digit (d ∷ digits)))
