use Rattle.ion_value.proofs.FixedDigits.{high-digits, high-fits, high-low}
use Rattle.ion_value.proofs.digit_text.push_fraction.Goals as goal

pub overflow_cast-fraction-else-fraction-lt-TEN_TO_19 :
    goal.overflow_cast-fraction-else-fraction-lt-TEN_TO_19
overflow_cast-fraction-else-fraction-lt-TEN_TO_19 c =
    high-fits c.args.count c.args.fraction c.if-fraction-lt-TEN_TO_19.false c.requires.small c.requires.few

pub push_digits-requires-else-fraction-lt-TEN_TO_19-clause-small :
    goal.push_digits-requires-else-fraction-lt-TEN_TO_19-clause-small
push_digits-requires-else-fraction-lt-TEN_TO_19-clause-small c =
    high-digits c.args.count c.args.fraction c.if-fraction-lt-TEN_TO_19.false c.requires.small

pub returns-else-fraction-lt-TEN_TO_19-clause-text :
    goal.returns-else-fraction-lt-TEN_TO_19-clause-text
returns-else-fraction-lt-TEN_TO_19-clause-text c =
    high-low c.args.count c.args.fraction _ _ _ c.if-fraction-lt-TEN_TO_19.false c.requires.small c.push_digits-else-fraction-lt-TEN_TO_19.ensures.text c.push_digits-else-fraction-lt-TEN_TO_19-2.ensures.text
