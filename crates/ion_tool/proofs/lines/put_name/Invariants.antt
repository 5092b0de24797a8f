use Rattle.std.proofs.Common.{IsUtf8}
use Rattle.std.specs.Str.Iter.{chars_rest}
use Rattle.ion_tool.specs.Serving.{name_in_line}
use Rattle.ion_tool.proofs.Writing.{IsLeft}
use Rattle.ion_tool.proofs.lines.put_name.Given as goal

abbrev pub invariant-loop-character : goal.invariant-loop-character
invariant-loop-character g l = record {
  utf8 : IsUtf8 (chars_rest l.character-iterator);
  left : IsLeft g.D.Output (name_in_line l.fn.name) (name_in_line (chars_rest l.character-iterator)) l.initial.device l.device;
}
