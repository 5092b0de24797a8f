use Rattle.std.proofs.Common.{◌*◌, ◌^◌, ◌%◌, ℕ, take, ap, ◌∙◌, sym, w64}
use Rattle.std.specs.Int.{to_be_bytes}
use Rattle.ion_value.specs.Float.{value_of}
use Rattle.ion_float.proofs.Narrow.{four_octets, eight_octets, four_first}
use Rattle.ion_float.proofs.octets.float_to_octets.Goals as goal

pub returns-clause-spelled : goal.returns-clause-spelled
returns-clause-spelled c =
    ap (λ (n : ℕ). take 4 (to_be_bytes w64 (n * 2 ^ 32 % 2 ^ 64))) c.from.ensures ∙ four_first c.in-Some.bits
    ∙ four_octets (value_of c.args.float) c.bits.result c.in-Some.bits c.bits.ensures.bits c.bits.ensures.value c.if-bits-eq0.false
    (sym c.in-Some.is ∙ c.narrowed.ensures)

pub returns-in_default-clause-spelled : goal.returns-in_default-clause-spelled
returns-in_default-clause-spelled c =
    eight_octets (value_of c.args.float) c.bits.result c.bits-in_default.result c.bits.ensures.bits c.bits.ensures.value c.if-bits-eq0.false
    (sym c.in_default.is ∙ c.narrowed.ensures) c.bits-in_default.ensures.bits
