use Rattle.std.proofs.Common.{◌≡◌, map, string_bytes, take}
use Rattle.ion_tool.proofs.words.copies.Given as goal

abbrev pub invariant-loop-name : goal.invariant-loop-name
invariant-loop-name l = map string_bytes l.own.items ≡ map (λ s. s.now) (take l.name-index l.names)
