use Rattle.std.proofs.Common.{◌≡◌, ◌+◌, ◌-◌, ◌≤◌, ◌++◌, length, take}
use Rattle.ion_meter.specs.Windows.{left}
use Rattle.ion_text_in.specs.Lob.{group_of}
use Rattle.ion_text_in.proofs.Turns.{Gone}
use Rattle.ion_text_in.proofs.lob.next_characters.Given as goal

abbrev pub invariant-loop-i : goal.invariant-loop-i
invariant-loop-i g l = record {
  gone : Gone g.I.Input l.fn.source l.source;
  taken : l.fn.source.place + l.i ≤ l.source.place;
  four : length l.group ≡ 4;
  group : g.I.Input.observable l.fn.source.device
      → group_of 4 (left g.I.Input.rest l.fn.source)
      ≡ (take l.i l.group ++ (group_of (4 - l.i) (left g.I.Input.rest l.source)).0, (group_of (4 - l.i) (left g.I.Input.rest l.source)).1);
}
