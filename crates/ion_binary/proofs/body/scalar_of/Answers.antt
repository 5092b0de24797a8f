use Rattle.ion_binary.proofs.BodyParts.{string-read, string-refused}
use Rattle.ion_binary.proofs.body.scalar_of.Goals as goal

pub returns-in-8-clause-gives : goal.returns-in-8-clause-gives
returns-in-8-clause-gives c = rw c.in-8.is (string-read c.args.octets.now c.is_text.result c.is_text.ensures c.if-is_text.true)

pub returns-in-8-2-clause-gives : goal.returns-in-8-2-clause-gives
returns-in-8-2-clause-gives c = rw c.in-8.is (string-refused c.args.octets.now c.is_text.result c.is_text.ensures c.if-is_text.false)
