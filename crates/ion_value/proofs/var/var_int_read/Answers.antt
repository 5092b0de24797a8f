use Rattle.std.proofs.Common.{◌≡◌, length, take, refl, sym, ◌∙◌, arith}
use Rattle.std.proofs.lemmas.List.{length-take-le}
use Rattle.std.proofs.lemmas.Bool.{le-leb}
use Rattle.std.proofs.lemmas.Result.{err_from_is_err_and}
use Rattle.ion_value.specs.Number.{var_uint}
use Rattle.ion_value.proofs.Fields.{VarInt-minus}
use Rattle.std.proofs.lemmas.Grind.{common_steps}
use Rattle.ion_value.proofs.var.var_int_read.Goals as goal

-- a VarInt's octets are a VarUInt too
pub returns-in_err-value-clause-refused : goal.returns-in_err-value-clause-refused
returns-in_err-value-clause-refused c =
    let given = err_from_is_err_and c.from_residual.result c.from_residual.ensures.1 in
    let none = c.in_err-value.ensures.refused in
    rw given.1 (
      given.2 ∙ none.0,
      λ z k v. none.1 (var_uint (take k c.args.bytes.now)) k (record { short = v.short; ends = v.ends; value = refl }),
    )

pub returns-then-negative-clause-read : goal.returns-then-negative-clause-read
returns-then-negative-clause-read c =
    let prefix = take c.in_ok-value.count c.args.bytes.now in
    let read = c.in_ok-value.ensures.read in
    let len : length prefix ≡ c.in_ok-value.count = length-take-le c.in_ok-value.count c.args.bytes.now read.0 in
    let spelled = read.1 in (
      read.0,
      VarInt-minus _ prefix (le-leb c.sign_bit-sign.result c.in_ok-value.value c.if-negative.true) spelled.short spelled.ends (rw len (omega (arith, sym spelled.value))),
    )

pub returns-else-negative-clause-read : goal.returns-else-negative-clause-read
returns-else-negative-clause-read c = grind (arith, common_steps)
