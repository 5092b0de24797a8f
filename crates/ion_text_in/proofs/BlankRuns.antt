-- White space, and bytes of a comment, are passed together.
use Rattle.std.proofs.Common.{◌≡◌, ℕ, suc, ◌+◌, true, false, ◌==◌, List, [], ◌∷◌, ◌++◌, length, ap, ◌∙◌, inl, inr, arith}
use Rattle.std.proofs.lemmas.Bool.{and_parts, cases_Bool, not-true}
use Rattle.ion_value.specs.Digits.{all_are}
use Rattle.ion_text_in.specs.declared.blank.Comment.{Comment}
use Rattle.ion_text_in.specs.declared.blank.Comment.TheVariants as comment
use Rattle.ion_text_in.specs.Blanks.{is_white, is_line_end, blanks_at, in_line, in_block}
use Rattle.ion_text_in.specs.Meaning.{at}
use Rattle.ion_text_in.specs.Overrun.{stays_in, within}

one : (p : ℕ) → suc p ≡ p + 1
one p = omega arith

pub stays-first : (c : Comment) (start p b : ℕ) (bytes : List ℕ) → stays_in c b ≡ true → within c start (at p (b ∷ bytes)) ≡ within c start (at (p + 1) bytes)
unfolding blanks_at in_line in_block
stays-first comment.None start p b bytes on = rw (on, blanks_at) (ap (λ (n : ℕ). blanks_at n bytes) (one p))
stays-first comment.Line start p b bytes on =
    let goes_on : is_line_end b ≡ false = not-true (is_line_end b) on in
    rw (goes_on, in_line) (ap (λ (n : ℕ). in_line n bytes) (one p))
stays-first comment.Block start p b bytes on = elim (cases_Bool (b == 42)) [
  | inl star ↦ absurd (cc (rw star at on))
  | inr none ↦ rw (none, in_block) (ap (λ (n : ℕ). in_block start n bytes) (one p))
]

pub stays-over : (c : Comment) (start p : ℕ) (xs rest : List ℕ) → all_are (stays_in c) xs ≡ true → within c start (at p (xs ++ rest)) ≡ within c start (at (p + length xs) rest)
stays-over c start p [] rest all = ap (λ (n : ℕ). within c start (at n rest)) (none p)
  where
    none : (p : ℕ) → p ≡ p + 0
    none p = omega arith
stays-over c start p (b ∷ xs) rest all =
    let parts = and_parts (stays_in c b) (all_are (stays_in c) xs) all in
    stays-first c start p b (xs ++ rest) parts.0 ∙ stays-over c start (p + 1) xs rest parts.1 ∙ ap (λ (n : ℕ). within c start (at n rest)) (next p (length xs))
  where
    next : (p n : ℕ) → p + 1 + n ≡ p + suc n
    next p n = omega arith

pub white-over : (p : ℕ) (xs rest : List ℕ) → all_are is_white xs ≡ true → blanks_at p (xs ++ rest) ≡ blanks_at (p + length xs) rest
white-over p xs rest all = stays-over comment.None p p xs rest all
