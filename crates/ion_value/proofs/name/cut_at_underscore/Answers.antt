use Rattle.ion_value.proofs.Words.{cut_found, cut_more, cut_none}
use Rattle.ion_value.proofs.name.cut_at_underscore.Goals as goal

pub returns-then-byte-eq95 : goal.returns-then-byte-eq95
returns-then-byte-eq95 c = rw (c.split_at.ensures.front, c.split_at.ensures.back) (cut_found 95 c.args.bytes.now c.bytes.i c.bytes-test.true c.bytes.invariant c.if-byte-eq95.true)

pub bytes-preserved : goal.bytes-preserved
bytes-preserved c = cut_more 95 c.args.bytes.now c.bytes.i c.bytes-test.true c.bytes.invariant c.if-byte-eq95.false

pub returns : goal.returns
returns c = cut_none 95 c.args.bytes.now c.bytes.i c.bytes-test.false c.bytes.auto.i-end c.bytes.invariant
