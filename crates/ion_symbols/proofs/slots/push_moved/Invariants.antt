use Rattle.std.proofs.Common.{◌≡◌, ◌+◌, ◌*◌, ◌++◌, take, map, max}
use Rattle.ion_symbols.specs.Kept.{moved}
use Rattle.ion_symbols.proofs.slots.push_moved.Given as goal

-- the parts so far are added, and counted
abbrev pub invariant-loop-part : goal.invariant-loop-part
invariant-loop-part g l = record {
  parts : l.parts ≡ l.fn.parts ++ map (moved l.base) (take l.part-index l.more);
  held : l.meter.held ≡ l.fn.meter.held + 16 * l.part-index;
  peak : l.meter.peak ≡ max l.fn.meter.peak l.meter.held;
  refused : l.meter.refused ≡ l.fn.meter.refused;
}
