use Rattle.std.proofs.Common.{◌∙◌}
use Rattle.ion_value.specs.Float.{value_of}
use Rattle.ion_float.proofs.TextOfBits.{no_number-bits, infinite, infinite_below, after-nothing}
use Rattle.ion_float.proofs.text.float_to_text.Goals as goal

pub returns-then-bits-eq-INFINITY : goal.returns-then-bits-eq-INFINITY
returns-then-bits-eq-INFINITY c =
    after-nothing _ _ _ c.new-text.ensures c.push_str.ensures.bytes ∙ infinite (value_of c.args.float) c.bits-bits.result c.bits-bits.ensures.value c.if-bits-eq-INFINITY.true

pub returns-then-bits : goal.returns-then-bits
returns-then-bits c =
    after-nothing _ _ _ c.new-text.ensures c.push_str-then-bits.ensures.bytes ∙ infinite_below (value_of c.args.float) c.bits-bits.result c.bits-bits.ensures.value c.if-bits.true

pub returns-else-bits : goal.returns-else-bits
returns-else-bits c =
    after-nothing _ _ _ c.new-text.ensures c.push_str-else-bits.ensures.bytes
    ∙ no_number-bits (value_of c.args.float) c.bits-bits.result c.bits-bits.ensures.value c.bits-bits.type_inv c.if-bits-lt-INFINITY.false c.if-bits-eq-INFINITY.false c.if-bits.false
