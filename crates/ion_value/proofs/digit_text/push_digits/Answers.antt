use Rattle.std.proofs.Common.{arith, length, ap, ◌∙◌, ◌++◌}
use Rattle.ion_value.proofs.FixedDigits.{zeros-none, decimal-within, padded-written}
use Rattle.std.proofs.lemmas.Grind.{common_steps}
use Rattle.ion_value.proofs.digit_text.push_digits.Goals as goal

pub zeros-init : goal.zeros-init
zeros-init c =
    record {
      within = decimal-within c.args.count c.args.number c.format-digits.result.now c.format-digits.ensures.text c.requires.some c.requires.small (omega arith);
      text = zeros-none c.args.text.now.bytes (length c.format-digits.result.now) 48;
    }

pub returns-clause-text : goal.returns-clause-text
returns-clause-text c =
    let within = c.zeros.invariant.within in
    padded-written c.args.count c.args.number c.zeros.counter c.format-digits.result.now c.args.text.now.bytes c.push_str.new.self.bytes
    (c.push_str.ensures.bytes ∙ ap (λ ys. ys ++ c.format-digits.result.now) c.zeros.invariant.text) (omega arith) c.format-digits.ensures.text c.requires.some c.requires.small (omega arith)

pub returns-clause-len : goal.returns-clause-len
returns-clause-len c = grind (arith, common_steps)

pub zeros-preserved : goal.zeros-preserved
zeros-preserved c = grind (arith, common_steps)

pub push_str-requires : goal.push_str-requires
push_str-requires c = grind (arith, common_steps)
