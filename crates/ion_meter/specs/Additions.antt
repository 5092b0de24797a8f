-- Bytes that are added to two lists at once.
use Rattle.std.specs.Prelude.{ℕ, ◌+◌, length}
use Rattle.ion_meter.specs.declared.buf.Added.{Added}

-- what they cost together
abbrev pub added_cost : Added → ℕ
added_cost added = length added.bytes.now + (length added.front.now + length added.rest.now)
