use Rattle.ion_tool.proofs.NamesInLines.{one_byte}
use Rattle.ion_tool.proofs.Writing.{left_cut, left_then}
use Rattle.ion_tool.proofs.lines.put_escapes.Goals as goal

pub returns-then-not-put : goal.returns-then-not-put
returns-then-not-put g c =
    left_cut g.D.Output _ _ _ _ _ c.loop-byte.device _ c.put.result (one_byte c.args.bytes.now c.loop-byte.byte-index _ c.loop-byte-test.true) c.if-not-put.true c.loop-byte.invariant
    (rw (c.as_slice.ensures.value, c.escape.ensures) at c.put.ensures)

pub loop-byte-preserved : goal.loop-byte-preserved
loop-byte-preserved g c =
    left_then g.D.Output _ _ _ _ _ c.loop-byte.device _ c.put.result (one_byte c.args.bytes.now c.loop-byte.byte-index _ c.loop-byte-test.true) c.if-not-put.false c.loop-byte.invariant
    (rw (c.as_slice.ensures.value, c.escape.ensures) at c.put.ensures)
