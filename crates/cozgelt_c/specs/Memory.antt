-- What a call of the C library holds.
use Rattle.std.specs.Prelude.{◌≡◌, ℕ, ◌+◌, ◌≤◌, max, List, length, Result, Ok, Err}
use Rattle.ion_meter.specs.Counts.{Counts}
use Rattle.ion_meter.specs.declared.limits.Limits.{Limits}
use Rattle.ion_symbols.specs.Table.{Shared, catalog_cost}
use Rattle.ion_transcode.specs.declared.to.To.{To}
use Rattle.ion_transcode.specs.declared.to.Form.TheVariants as form
use Rattle.ion_transcode.specs.Bound.{bound}

-- what was put into a buffer, how many bytes it may hold, and how often a write failed
pub record Filling : Type 0 where
  pub put : List ℕ
  pub most : ℕ
  pub failures : ℕ

-- so it is held: `count` is the length of what was put, and while no write has failed and that may be held, `kept` is all of it; the memory
-- that was taken for it is never more than it may hold, which is what the meter counts
pub record IsBounded (f : Filling) (count : ℕ) (kept : List ℕ) (capacity cost : ℕ) : Type 0 where
  pub counted : count ≡ length f.put
  pub whole : f.failures ≡ 0 → count ≤ f.most → kept ≡ f.put
  pub within : capacity ≤ f.most
  pub charged : cost ≡ f.most

-- memory is given back, and at most so much was held, beside what was held before
pub record HoldsAtMost (most : ℕ) (old new : Counts) : Type 0 where
  pub held : new.held ≡ old.held
  pub peak : new.peak ≤ max old.peak (old.held + most)

-- the most that a run to a caller's room of this length may hold, in counted bytes: what each run may, of either form, and a buffer as long as
-- the room
abbrev pub room_bound : Limits → To → ℕ → ℕ
room_bound limits to room = bound limits form.Text to + room

-- the most that a call may hold: the catalogue, and that
abbrev pub call_bound : Limits → To → ℕ → ℕ
call_bound limits to room = limits.symbols + room_bound limits to room

-- what the tables cost that were loaded, or nothing where there is a status
abbrev pub cost_of : Result (List Shared) ℕ → ℕ
cost_of (Ok tables) = catalog_cost tables
cost_of (Err status) = 0
