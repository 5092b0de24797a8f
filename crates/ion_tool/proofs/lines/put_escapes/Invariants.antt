use Rattle.std.proofs.Common.{drop, flat_map}
use Rattle.ion_tool.specs.Serving.{escape}
use Rattle.ion_tool.proofs.Writing.{IsLeft}
use Rattle.ion_tool.proofs.lines.put_escapes.Given as goal

abbrev pub invariant-loop-byte : goal.invariant-loop-byte
invariant-loop-byte g l = IsLeft g.D.Output (flat_map escape l.bytes) (flat_map escape (drop l.byte-index l.bytes)) l.initial.device l.device
