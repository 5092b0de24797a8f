use Rattle.std.proofs.Common.{◌≡◌, ◌+◌, ◌*◌, ◌≤◌, length}
use Rattle.std.specs.Prelude.{max, slice_index}
use Rattle.ion_tool.proofs.marks.LineMarks.new.Given as goal

abbrev pub invariant-loop : goal.invariant-loop
invariant-loop l = record {
  cost : l.begins.cost ≡ 8;
  entries : length l.begins.items ≡ 512 * l.counter;
  first : slice_index l.begins.items 0 ≡ 0;
  held : l.meter.held ≡ l.fn.meter.held + 4096 * l.counter;
  rises : l.fn.meter.peak ≤ l.meter.peak;
  peak : l.meter.peak ≤ max l.fn.meter.peak (l.fn.meter.held + 524288);
  refused : l.meter.refused ≡ l.fn.meter.refused;
}
