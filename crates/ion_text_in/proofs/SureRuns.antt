-- Bytes that each go on with a token whatever follows them.
use Rattle.std.proofs.Common.{◌≡◌, ℕ, zero, suc, ◌+◌, ◌<◌, ◌≤◌, Bool, true, false, not, ◌||◌, List, [], ◌∷◌, ◌++◌, get_or, codes, length, take, drop, refl, sym, subst, ap, ◌∙◌, arith}
use Rattle.std.proofs.lemmas.Bool.{and_parts}
use Rattle.std.proofs.lemmas.Bool.Decides.{nat_tests}
use Rattle.std.proofs.lemmas.List.{drop_more}
use Rattle.ion_value.specs.Digits.{first_is, all_are}
use Rattle.ion_value.specs.Name.{is_identifier_byte, is_one_of}
use Rattle.ion_text_in.specs.Blanks.{is_white, begins_comment}
use Rattle.ion_text_in.specs.Token.{in_run, in_word}
use Rattle.ion_text_in.specs.Overrun.{IsRun}
use Rattle.ion_text_in.specs.Runs.{GoOn, EndAfter, IsExtent, goes_on, stays, is_sure_in_number}
use Rattle.ion_text_in.specs.declared.run.Run.{Run}
use Rattle.ion_text_in.specs.declared.run.Run.TheVariants as run
use Rattle.ion_text_in.proofs.Meaning.{run-more}
use Rattle.ion_text_in.proofs.RunEnds.{go-end, stays-on}

pub extent-ended : (kind : Run) (bytes : List ℕ) (n : ℕ) → n < length bytes → GoOn (goes_on kind) bytes n → EndAfter (goes_on kind) bytes n → IsExtent kind bytes (record { len = n; ended = true })
extent-ended kind bytes n less goes ends =
    record { within = omega (arith, less); after = λ _. less; goes = goes; ends = λ _. ends; unsure = λ e. absurd (cc e) }

module _ (kind : Run) where
  pub all-go : (bytes : List ℕ) (n : ℕ) → n ≤ length bytes → all_are (stays kind) (take n bytes) ≡ true → GoOn (goes_on kind) bytes n
  all-go bytes zero within e = λ more. refl
  all-go [] (suc n) within e = let no : ⊥ = omega arith in absurd no
  all-go (x ∷ bytes) (suc n) within e = λ more.
      let parts = and_parts (stays kind x) (all_are (stays kind) (take n bytes)) e in
      let later = all-go bytes n (omega (arith, within)) parts.1 more in
      run-more (goes_on kind) x (bytes ++ more) (stays-on kind x (bytes ++ more) parts.0) ∙ ap (λ (r : List ℕ × List ℕ). (x ∷ r.0, r.1)) later

-- and no further, where a word has none of its bytes there
word-off : (bytes : List ℕ) (n : ℕ) → n < length bytes → first_is is_identifier_byte (drop n bytes) ≡ false → (more : List ℕ) → in_word (drop n bytes ++ more) ≡ false
word-off [] n within e more = let no : ⊥ = omega arith in absurd no
word-off (x ∷ bytes) zero within e more = e
word-off (x ∷ bytes) (suc n) within e more = word-off bytes n (omega (arith, within)) e more

pub word-extent : (bytes : List ℕ) (n : ℕ) → IsRun is_identifier_byte bytes n → n < length bytes → IsExtent run.Word bytes (record { len = n; ended = true })
word-extent bytes n word less =
    let goes = all-go run.Word bytes n word.within word.run in
    extent-ended run.Word bytes n less goes (go-end in_word bytes n goes (word-off bytes n less word.ends))

-- ---- numbers and timestamps

plain-stays : (b : ℕ) → is_sure_in_number b ≡ true → stays run.Number b ≡ true
plain-stays b e = grind (arith, nat_tests)

plain-all : (bytes : List ℕ) → all_are is_sure_in_number bytes ≡ true → all_are (stays run.Number) bytes ≡ true
plain-all [] e = refl
plain-all (x ∷ bytes) e =
    let parts = and_parts (is_sure_in_number x) (all_are is_sure_in_number bytes) e in
    rw (plain-stays x parts.0, plain-all bytes parts.1) refl

pub number-extent : (bytes : List ℕ) (n : ℕ) → IsRun is_sure_in_number bytes n → n < length bytes → (is_one_of (codes "{}[](),\"'") (get_or bytes n 0) || is_white (get_or bytes n 0)) ≡ true
    → IsExtent run.Number bytes (record { len = n; ended = true })
number-extent bytes n sure less e =
    let goes = all-go run.Number bytes n sure.within (plain-all (take n bytes) sure.run) in
    extent-ended run.Number bytes n less goes (go-end in_run bytes n goes
    (λ more. subst (λ (l : List ℕ). in_run (l ++ more) ≡ false) (sym (drop_more bytes n 0 less))
    (ap (λ (ends : Bool). not (ends || begins_comment (get_or bytes n 0 ∷ (drop (n + 1) bytes ++ more)))) e)))
