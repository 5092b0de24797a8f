use Rattle.std.proofs.Common.{ℕ, Bool, true, ◌≡◌, not, eqb, ◌&&◌, ◌<◌, Option, Some, None, get_or, slice_index, refl, ap, arith}
use Rattle.std.proofs.lemmas.Grind.{common_steps}
use Rattle.std.proofs.lemmas.Bool.{agree_below_at, and_parts, not-true, eqb-true, eq-eqb, both_ways}
use Rattle.ion_text_in.specs.Quoted as quoted
use Rattle.ion_text_in.specs.declared.piece.TheConstants.{LETTERS}
use Rattle.ion_text_in.proofs.piece.escape.Goals as goal

-- what stands in the table for a letter
abbrev stands_for : Option ℕ → ℕ → Bool
stands_for None n = eqb n 1
stands_for (Some c) n = eqb n c && not (eqb n 1)

in_table : (b : ℕ) → b < 256 → stands_for (quoted.letter b) (get_or LETTERS b 0) ≡ true
in_table b h = agree_below_at (λ x. stands_for (quoted.letter x) (get_or LETTERS x 0)) (λ _. true) 256 b refl h

told_none : (o : Option ℕ) (n : ℕ) → stands_for o n ≡ true → n ≡ 1 → None ≡ o
told_none None n e is = refl
told_none (Some c) n e is = absurd (both_ways (eqb n 1) (not-true (eqb n 1) (and_parts (eqb n c) (not (eqb n 1)) e).1) (eq-eqb n 1 is))

told_some : (o : Option ℕ) (n : ℕ) → stands_for o n ≡ true → (n ≡ 1 → ⊥) → Some n ≡ o
told_some None n e other = absurd (other (eqb-true n 1 e))
told_some (Some c) n e other = ap Some (eqb-true n c (and_parts (eqb n c) (not (eqb n 1)) e).0)

pub returns-then-meant-eq-NO_LETTER : goal.returns-then-meant-eq-NO_LETTER
returns-then-meant-eq-NO_LETTER c =
    let b = slice_index c.args.bytes.now 0 in
    let none = told_none (quoted.letter b) (get_or LETTERS b 0) (in_table b (omega arith)) c.if-meant-eq-NO_LETTER.true in
    grind (arith, common_steps, none)

pub returns-else-meant-eq-NO_LETTER : goal.returns-else-meant-eq-NO_LETTER
returns-else-meant-eq-NO_LETTER c =
    let b = slice_index c.args.bytes.now 0 in
    let some = told_some (quoted.letter b) (get_or LETTERS b 0) (in_table b (omega arith)) c.if-meant-eq-NO_LETTER.false in
    grind (arith, common_steps, some)
