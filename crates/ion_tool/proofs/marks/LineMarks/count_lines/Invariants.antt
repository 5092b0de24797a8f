use Rattle.std.proofs.Common.{◌≡◌, ◌+◌, ◌-◌, ◌≤◌, ◌++◌, ℕ, List, length, take}
use Rattle.ion_tool.specs.Counting.{HasMarks}
use Rattle.ion_tool.proofs.marks.LineMarks.count_lines.Given as goal

abbrev pub invariant-loop-found : goal.invariant-loop-found
invariant-loop-found l = record {
  within : l.at ≤ length l.bytes;
  marks : (counted : List ℕ) → HasMarks counted l.initial.self → HasMarks (counted ++ take l.at l.bytes) l.self;
  count : l.self.count ≡ l.initial.self.count + l.at;
  form : l.self.is_binary ≡ l.initial.self.is_binary;
}

abbrev pub decreases-loop-found : goal.decreases-loop-found
decreases-loop-found l = length l.bytes - l.at
