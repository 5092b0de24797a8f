use Rattle.std.proofs.Common.{◌<◌, ◌^◌, length, arith}
use Rattle.ion_value.specs.Number.{VarUInt}
use Rattle.ion_value.proofs.Fields.{digits-least, VarUInt-max}
use Rattle.ion_value.proofs.Octets.{Below-All}
use Rattle.ion_value.proofs.VarOctets.{var_uint-spelled}
use Rattle.ion_value.proofs.var.var_uint_write.Goals as goal

pub returns-clause-shortest : goal.returns-clause-shortest
returns-clause-shortest c =
    λ b other.
    let small : c.max.result < 128 ^ length b = omega (arith, VarUInt-max c.args.n b other) in
    rw c.octets.ensures.len (digits-least 128 c.octet_count.result (length b) c.max.result (omega arith) c.octet_count.ensures.least small)

pub returns-clause-spelled : goal.returns-clause-spelled
returns-clause-spelled c =
    let b = c.octets.result.items in
    let whole : VarUInt c.args.n b = record { short = omega arith; ends = c.octets.ensures.ends; value = omega arith } in
    var_uint-spelled c.args.n b whole (Below-All 256 b c.octets.ensures.octets) (returns-clause-shortest c) c.requires
