-- What ends a number or timestamp is nothing, a stop character or a comment.
use Rattle.std.proofs.Common.{◌≡◌, ℕ, inl, inr, Bool, true, false, not, ◌&&◌, ◌||◌, ◌==◌, if◌then◌else◌, List, [], ◌∷◌, ◌++◌, codes, refl, sym, ap, subst, arith}
use Rattle.std.proofs.lemmas.Bool.{and_parts, or_cases, not-false, eqb-true, eq-eqb, false≢true}
use Rattle.std.proofs.lemmas.Bool.Decides.{nat_tests}
use Rattle.ion_value.specs.Name.{is_one_of}
use Rattle.ion_text_in.specs.Blanks as blanks
use Rattle.ion_text_in.specs.Blanks.{is_white, is_comment, begins_comment, blank_at}
use Rattle.ion_text_in.specs.Token.{in_run}
use Rattle.ion_text_in.specs.Beginnings.{IsOneOf, BeginsComment, EndsNumber, NumbersEnd}

-- ---- one of some characters

pub one_of-from : {cs : List ℕ} {b : ℕ} → IsOneOf cs b → is_one_of cs b ≡ true
one_of-from {b = b} (IsOneOf.first {cs = cs}) = ap (λ (same : Bool). same || is_one_of cs b) (eq-eqb b b refl)
one_of-from {b = b} (IsOneOf.other {c} {cs = cs} is) = either (b == c) (one_of-from is)
  where
    either : (same : Bool) → is_one_of cs b ≡ true → (same || is_one_of cs b) ≡ true
    either true e = refl
    either false e = e

pub one_of-is : (cs : List ℕ) (b : ℕ) → is_one_of cs b ≡ true → IsOneOf cs b
one_of-is [] b e = absurd (false≢true e)
one_of-is (c ∷ cs) b e = elim (or_cases (b == c) (is_one_of cs b) e) [
  | inl same ↦ subst (λ (c : ℕ). IsOneOf (c ∷ cs) b) (eqb-true b c same) IsOneOf.first
  | inr other ↦ IsOneOf.other (one_of-is cs b other)
]

-- ---- stop characters

abbrev stops : List ℕ
stops = codes "{}[](),\"'" ++ 32 ∷ 9 ∷ 10 ∷ 13 ∷ 11 ∷ 12 ∷ []

stop-tested : (b : ℕ) → is_one_of stops b ≡ true → (is_one_of (codes "{}[](),\"'") b || is_white b) ≡ true
stop-tested b e = grind (arith, nat_tests)

tested-stop : (b : ℕ) → (is_one_of (codes "{}[](),\"'") b || is_white b) ≡ true → is_one_of stops b ≡ true
tested-stop b e = grind (arith, nat_tests)

-- ---- ends

pub comment-is : (b : ℕ) (bytes : List ℕ) → begins_comment (b ∷ bytes) ≡ true → BeginsComment (b ∷ bytes)
comment-is b [] e = absurd (from (is_white b) (b == 47) e)
  where
    from : (dark slash : Bool)
        → is_comment (if dark then blanks.white else (if slash && false then blanks.line_comment else (if slash && false then blanks.block_comment else blanks.no_blank))) ≡ true → ⊥
    from true slash e = false≢true e
    from false true e = false≢true e
    from false false e = false≢true e
comment-is b (c ∷ bytes) e = from (is_white b) (b == 47 && c == 47) (b == 47 && c == 42) refl refl e
  where
    from : (dark line block : Bool) → (b == 47 && c == 47) ≡ line → (b == 47 && c == 42) ≡ block
        → is_comment (if dark then blanks.white else (if line then blanks.line_comment else (if block then blanks.block_comment else blanks.no_blank))) ≡ true
        → BeginsComment (b ∷ c ∷ bytes)
    from true line block l k e = absurd (false≢true e)
    from false true block l k e =
        let parts = and_parts (b == 47) (c == 47) l in
        subst (λ (b : ℕ). BeginsComment (b ∷ c ∷ bytes)) (sym (eqb-true b 47 parts.0))
        (subst (λ (c : ℕ). BeginsComment (47 ∷ c ∷ bytes)) (sym (eqb-true c 47 parts.1)) BeginsComment.line)
    from false false true l k e =
        let parts = and_parts (b == 47) (c == 42) k in
        subst (λ (b : ℕ). BeginsComment (b ∷ c ∷ bytes)) (sym (eqb-true b 47 parts.0))
        (subst (λ (c : ℕ). BeginsComment (47 ∷ c ∷ bytes)) (sym (eqb-true c 42 parts.1)) BeginsComment.block)
    from false false false l k e = absurd (false≢true e)

comment-ends : {bytes : List ℕ} → BeginsComment bytes → in_run bytes ≡ false
comment-ends BeginsComment.line = refl
comment-ends BeginsComment.block = refl

ends-number : (bytes : List ℕ) → in_run bytes ≡ false → EndsNumber bytes
ends-number [] e = EndsNumber.end
ends-number (b ∷ bytes) e =
    let ends = not-false (is_one_of (codes "{}[](),\"'") b || is_white b || begins_comment (b ∷ bytes)) e in
    elim (or_cases (is_one_of (codes "{}[](),\"'") b || is_white b) (begins_comment (b ∷ bytes)) ends) [
      | inl stop ↦ EndsNumber.character (one_of-is stops b (tested-stop b stop))
      | inr comment ↦ EndsNumber.comment (comment-is b bytes comment)
    ]

number-ended : (bytes : List ℕ) → EndsNumber bytes → in_run bytes ≡ false
number-ended _ EndsNumber.end = refl
number-ended _ (EndsNumber.character {b} {bytes} stop) =
    ap (λ (ends : Bool). not (ends || begins_comment (b ∷ bytes))) (stop-tested b (one_of-from stop))
number-ended _ (EndsNumber.comment comment) = comment-ends comment

pub numbers-end : NumbersEnd
numbers-end bytes = (ends-number bytes, number-ended bytes)
