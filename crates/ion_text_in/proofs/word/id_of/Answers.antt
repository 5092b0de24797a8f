use Rattle.std.proofs.Common.{◌≡◌, ◌∙◌, ◌+◌, ◌*◌, ap, sym, get_or, drop, Bool, true, ℕ, ◌&&◌, min, arith}
use Rattle.std.proofs.lemmas.Grind.{common_steps}
use Rattle.std.proofs.lemmas.List.{drop_more}
use Rattle.ion_value.specs.Digits.{all_are, is_digit}
use Rattle.ion_text_in.proofs.WordTokens.{id-more}
use Rattle.ion_text_in.proofs.word.id_of.Goals as goal

pub digits-preserved : goal.digits-preserved
digits-preserved c =
    let digits = c.args.digits.now in
    let i = c.digits.byte-index in
    let is : is_digit (get_or digits i 0) ≡ true = sym c.is_ascii_digit.ensures.value ∙ c.if-not-is_ascii_digit.false in
    record {
      id = c.min-id.ensures ∙ ap (λ (k : ℕ). min (c.digits.id * 10 + k) 2147483648) c.from.ensures ∙ id-more digits i c.digits.id c.digits-test.true is c.digits.invariant.id;
      all = c.digits.invariant.all ∙ ap (all_are is_digit) (drop_more digits i 0 c.digits-test.true) ∙ ap (λ (b : Bool). b && all_are is_digit (drop (i + 1) digits)) is;
    }

pub returns-then-not-is_ascii_digit : goal.returns-then-not-is_ascii_digit
returns-then-not-is_ascii_digit c = grind (arith, common_steps)

pub returns : goal.returns
returns c = grind (arith, common_steps)
