use Rattle.std.proofs.Common.{arith}
use Rattle.std.proofs.lemmas.Grind.{common_steps}
use Rattle.ion_text_in.proofs.FirstTokens.{brace-first, none-numbered, told-bare, told-front}
use Rattle.ion_text_in.proofs.first.told_first.Goals as goal

pub returns-then-told-gt0-clause-tells : goal.returns-then-told-gt0-clause-tells
returns-then-told-gt0-clause-tells c = told-front c.args.bytes.now c.in-len1-up.len_at_least (omega (arith, c.type_inv.bytes 0))

pub returns-then-told-gt0-clause-bare : goal.returns-then-told-gt0-clause-bare
returns-then-told-gt0-clause-bare c = told-bare c.args.bytes.now c.in-len1-up.len_at_least (omega (arith, c.type_inv.bytes 0))

pub returns-in-123-clause-tells : goal.returns-in-123-clause-tells
returns-in-123-clause-tells c _ = brace-first c.args.bytes.now c.in-123.len_at_least (omega arith) c.if-next-ne123.true

pub returns-in_default-bytes-3-clause-known : goal.returns-in_default-bytes-3-clause-known
returns-in_default-bytes-3-clause-known c two _ =
    none-numbered c.args.bytes.now two (omega (arith, c.type_inv.bytes 0)) (omega (arith, c.if-told-gt0.false)) (grind (arith, common_steps)) (grind (arith, common_steps))

pub returns-in_default-bytes-4-clause-known : goal.returns-in_default-bytes-4-clause-known
returns-in_default-bytes-4-clause-known c two _ =
    none-numbered c.args.bytes.now two (omega (arith, c.type_inv.bytes 0)) (omega (arith, c.if-told-gt0.false)) (grind (arith, common_steps)) (grind (arith, common_steps))

pub returns-in_default-bytes-5-clause-known : goal.returns-in_default-bytes-5-clause-known
returns-in_default-bytes-5-clause-known c two _ =
    none-numbered c.args.bytes.now two (omega (arith, c.type_inv.bytes 0)) (omega (arith, c.if-told-gt0.false)) (grind (arith, common_steps)) (grind (arith, common_steps))
