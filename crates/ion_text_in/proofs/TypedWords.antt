-- The bytes of a word that are gathered: those up to a point, and where they are `null` the name of a type.
use Rattle.std.proofs.Common.{◌≡◌, ◌≢◌, ℕ, ◌≤◌, Bool, true, false, ◌&&◌, ◌==◌, if◌then◌else◌, List, [], ◌∷◌, ◌++◌, length, take, drop, codes, slice_get, Option, Some, None, IfSome, Result, Ok, Err, refl, sym, ap, subst, ◌∙◌, arith}
use Rattle.std.proofs.lemmas.Bool.{eqb-true}
use Rattle.std.specs.Str.{bytes_eq}
use Rattle.ion_meter.specs.declared.fault.Reason.{Reason}
use Rattle.ion_meter.specs.declared.fault.Reason.TheVariants.{ScalarLimit}
use Rattle.ion_meter.specs.Sources.{Cursor, skip}
use Rattle.ion_value.specs.Parts.{refuse, ◌>>◌}
use Rattle.ion_value.specs.Digits.{first_is}
use Rattle.ion_text_in.specs.declared.run.Run.TheVariants as run
use Rattle.ion_text_in.specs.declared.word.Word.{Word}
use Rattle.ion_text_in.specs.declared.word.Word.TheVariants as word
use Rattle.ion_text_in.specs.Limit.{passes}
use Rattle.ion_text_in.specs.Places.{run_of}
use Rattle.ion_text_in.specs.Token.{counted, bytes_of, in_word, with_type, word_of}
use Rattle.ion_text_in.specs.Runs.{joined, with_run}
use Rattle.ion_text_in.specs.Views.{spelled, is_point, with_name, word_token_of}
use Rattle.ion_text_in.proofs.Gathered.{counted-on, joined-on}

-- what is no symbol has no bytes beside it
pub no_text : (a b : List ℕ) (w : Word) → w ≢ word.Name → word_token_of a w ≡ word_token_of b w
no_text a b (word.Null t) other = refl
no_text a b (word.Bool truth) other = refl
no_text a b word.Nan other = refl
no_text a b (word.Id id) other = refl
no_text a b word.Name other = absurd (other refl)

-- ---- the name of a type

pub point-first : (rest : List ℕ) → is_point (slice_get rest 0) ≡ first_is (λ b. b == 46) rest
point-first [] = refl
point-first (b ∷ rest) = refl

pub point-given : (o : Option ℕ) (P : ℕ → Type 0) → is_point o ≡ true → IfSome o P → (b : ℕ) × P b
point-given None P e h = absurd (cc e)
point-given (Some b) P e h = (b, h)

headed : (rest : List ℕ) → first_is (λ b. b == 46) rest ≡ true → rest ≡ 46 ∷ drop 1 rest
headed [] e = absurd (cc e)
headed (b ∷ rest) e = ap (λ (c : ℕ). c ∷ rest) (eqb-true b 46 e)

pub name-gathered : (limit : Option ℕ) (before text : List ℕ) (c d : Cursor) → first_is (λ b. b == 46) c.rest ≡ true → text ≡ before ++ take 1 c.rest → d ≡ skip 1 c
    → with_run run.Word limit text d ≡ with_name limit before c
name-gathered limit before text c d point e there =
    let head = headed c.rest point in
    ap (λ (l : List ℕ). with_run run.Word limit l d) (e ∙ ap (λ (l : List ℕ). before ++ take 1 l) head)
    ∙ ap (λ (d : Cursor). with_run run.Word limit (before ++ 46 ∷ []) d) there
    ∙ sym (joined-on limit before (46 ∷ []) (run_of in_word (drop 1 c.rest)).0 c)
    ∙ ap (λ (b : Bool). if b then joined limit before (46 ∷ (run_of in_word (drop 1 c.rest)).0) c else Ok (before, c)) (sym point)

-- ---- a word

pub run-after : (test : List ℕ → Bool) (xs : List ℕ) → drop (length (run_of test xs).0) xs ≡ (run_of test xs).1
unfolding run_of
run-after test [] = refl
run-after test (b ∷ xs) = from (test (b ∷ xs)) (run_of test xs) (run-after test xs)
  where
    either : Bool → List ℕ × List ℕ → List ℕ × List ℕ
    either t z = elim t [ true ↦ (b ∷ z.0, z.1) | false ↦ ([], b ∷ xs) ]

    from : (t : Bool) (z : List ℕ × List ℕ) → drop (length z.0) xs ≡ z.1 → drop (length (either t z).0) (b ∷ xs) ≡ (either t z).1
    from true z e = e
    from false z e = refl

-- a test of the limit, and what is counted
abbrev counted_by : Bool → List ℕ → Cursor → Result (List ℕ × Cursor) Reason
counted_by over bytes c = refuse over ScalarLimit >> Ok (bytes, skip (length bytes) c)

-- what was counted
pub record Counted (limit : Option ℕ) (bytes text : List ℕ) (c d : Cursor) : Type 0 where
  pub same : bytes ≡ text
  pub there : d ≡ skip (length bytes) c
  pub within : passes limit (length bytes) ≡ false

abbrev or_else : List ℕ × Cursor → Result (List ℕ × Cursor) Reason → List ℕ × Cursor
or_else z (Ok x) = x
or_else z (Err reason) = z

pub counted-ok : (limit : Option ℕ) (bytes text : List ℕ) (c d : Cursor) → counted limit bytes c ≡ Ok (text, d) → Counted limit bytes text c d
counted-ok limit bytes text c d e = from (passes limit (length bytes)) refl e
  where
    from : (over : Bool) → passes limit (length bytes) ≡ over → counted_by over bytes c ≡ Ok (text, d) → Counted limit bytes text c d
    from true o e = absurd (cc e)
    from false o e = let both = ap (or_else (text, d)) e in record { same = ap (λ (z : List ℕ × Cursor). z.0) both; there = sym (ap (λ (z : List ℕ × Cursor). z.1) both); within = o }

-- any word by its bytes before a point
word-parts : (rest : List ℕ) → 1 ≤ length (bytes_of in_word rest) → word_of rest ≡ with_type (bytes_of in_word rest) (drop (length (bytes_of in_word rest)) rest)
word-parts [] some = absurd (omega (arith, some))
word-parts (b ∷ bytes) some = ap (λ (l : List ℕ). with_type (b ∷ (run_of in_word bytes).0) l) (sym (run-after in_word bytes))

null-long : (text : List ℕ) → bytes_eq (codes "null") text ≡ true → 1 ≤ length text
null-long [] e = absurd (cc e)
null-long (b ∷ text) e = omega arith

name-either : (limit : Option ℕ) (text : List ℕ) (c : Cursor) (point : Bool) (name : List ℕ) → passes limit (length text) ≡ false
    → counted limit (if point then text ++ name else text) c ≡ (if point then joined limit text name (skip (length text) c) else Ok (text, skip (length text) c))
name-either limit text c true name within = counted-on limit text name c
name-either limit text c false name within = ap (λ (over : Bool). refuse over ScalarLimit >> Ok (text, skip (length text) c)) within

-- `null`
pub null-spelled : (limit : Option ℕ) (c d : Cursor) (text : List ℕ) → spelled (bytes_of in_word) limit c ≡ Ok (text, d) → bytes_eq (codes "null") text ≡ true → with_name limit text d ≡ spelled word_of limit c
null-spelled limit c d text e null =
    let is = counted-ok limit (bytes_of in_word c.rest) text c d e in
    let same = is.same in
    let there : d ≡ skip (length text) c = is.there ∙ ap (λ (l : List ℕ). skip (length l) c) same in
    let some : 1 ≤ length (bytes_of in_word c.rest) = subst (λ (l : List ℕ). 1 ≤ length l) (sym same) (null-long text null) in
    let after : List ℕ = drop (length text) c.rest in
    let name : List ℕ = 46 ∷ (run_of in_word (drop 1 after)).0 in
    let word : word_of c.rest ≡ (if first_is (λ b. b == 46) after then text ++ name else text) =
    word-parts c.rest some
    ∙ ap (λ (l : List ℕ). with_type l (drop (length l) c.rest)) same
    ∙ ap (λ (b : Bool). if b && first_is (λ b. b == 46) after then text ++ name else text) null in
    ap (with_name limit text) there
    ∙ sym (name-either limit text c (first_is (λ b. b == 46) after) name (ap (λ (l : List ℕ). passes limit (length l)) (sym same) ∙ is.within))
    ∙ ap (λ (l : List ℕ). counted limit l c) (sym word)
