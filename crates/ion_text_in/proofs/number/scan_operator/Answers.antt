use Rattle.std.proofs.Common.{take, refl}
use Rattle.ion_text_in.specs.Token as tokens
use Rattle.ion_text_in.proofs.ShownTokens.{operator-shown, operator-over}
use Rattle.ion_text_in.proofs.number.scan_operator.Goals as goal

pub returns-then-limit-count-clause-shows : goal.returns-then-limit-count-clause-shows
returns-then-limit-count-clause-shows c =
    operator-over (λ (u : Unit {0}). tokens.comma) c.args.limit c.in-Some.count c.args.bytes.now c.in-Some.ensures c.if-limit-count.true

pub returns-clause-shows : goal.returns-clause-shows
returns-clause-shows c =
    operator-shown (λ (u : Unit {0}). tokens.operator (take c.in-Some.count c.args.bytes.now)) tt c.args.limit c.in-Some.count c.args.bytes.now c.in-Some.ensures c.if-limit-count.false refl
