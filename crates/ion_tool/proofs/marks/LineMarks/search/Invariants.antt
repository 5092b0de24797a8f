use Rattle.std.proofs.Common.{◌≡◌, ◌+◌, ◌-◌, ◌≤◌, ℕ, List, length, take}
use Rattle.ion_tool.specs.Counting.{HasMarks}
use Rattle.ion_tool.specs.LineNumbers.{line_ends}
use Rattle.ion_tool.proofs.marks.LineMarks.search.Given as goal

abbrev pub invariant-loop : goal.invariant-loop
invariant-loop l = record {
  line : l.line ≡ l.self.ends - l.counter;
  later : (counted : List ℕ) → HasMarks counted l.self → l.place ≤ length counted → line_ends (take l.place counted) + l.counter ≤ l.self.ends;
}
