use Rattle.ion_value.proofs.TimestampOctets.{no_octets, some_octets, empty-read, signed-read, signed-bad}
use Rattle.ion_value.proofs.timestamp.signed_field.Goals as goal

pub returns-then-is_empty-clause-read : goal.returns-then-is_empty-clause-read
returns-then-is_empty-clause-read c = empty-read c.args.bytes.now (no_octets c.args.bytes.now c.if-is_empty.ensures)

pub returns-in-Ok-clause-read : goal.returns-in-Ok-clause-read
returns-in-Ok-clause-read c = signed-read c.in-Ok.signed c.in-Ok.count c.args.bytes.now c.in-Ok.ensures.read.1

pub returns-in-Err-clause-refused : goal.returns-in-Err-clause-refused
returns-in-Err-clause-refused c = (c.in-Err.ensures.refused.0, signed-bad c.args.bytes.now (some_octets c.args.bytes.now c.if-is_empty.ensures) c.in-Err.ensures.refused.1)
