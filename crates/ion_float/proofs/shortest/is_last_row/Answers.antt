use Rattle.std.proofs.Common.{◌≡◌, ◌+◌, Bool, true, false, refl, sym, ap, ◌∙◌, arith}
use Rattle.std.proofs.lemmas.Bool.{false≢true}
use mathlib.Core.Bool.{not}
use Rattle.ion_float.proofs.Between.{none_above}
use Rattle.ion_float.proofs.Fewest.{too_great}
use Rattle.ion_float.proofs.Reading.{is-positive}
use Rattle.ion_float.proofs.shortest.is_last_row.Goals as goal

pub returns-then-row-eq650 : goal.returns-then-row-eq650
returns-then-row-eq650 c = (λ t more. too_great c.args.bits (c.args.row + 1) more c.requires.above_zero (omega arith), λ n. refl)

not-true : (b : Bool) → (b ≡ true → ⊥) → not b ≡ true
not-true true h = absurd (h refl)
not-true false h = refl

pub returns-then-not-reads_back : goal.returns-then-not-reads_back
returns-then-not-reads_back c = (
  λ h. none_above c.args.digits c.args.row c.args.bits (is-positive c.args.bits c.requires.above_zero) c.requires.read
      (λ e. false≢true (sym c.if-not-reads_back.true ∙ c.reads_back.ensures.1 e))
      (λ e. false≢true (sym (ap not (c.reads_back-then-not-reads_back.ensures.1 e)) ∙ h)),
  λ none. not-true c.reads_back-then-not-reads_back.result (λ t. none _ (c.reads_back-then-not-reads_back.ensures.0 t)),
)
