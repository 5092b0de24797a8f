-- What a declaration asks of the raw reader that it is read from, and how it leaves it.
use Rattle.std.specs.Prelude.{◌≡◌, ℕ, ◌+◌, ◌-◌, ◌^◌, ◌<◌, ◌≤◌, ◌↔◌, ◌≢◌, Bool, true, false, [], length, None, Result, Ok, Err, OnOk}
use Rattle.ion_meter.specs.Counts.{Counts}
use Rattle.ion_meter.specs.declared.fault.Reason.{Reason}
use Rattle.ion_meter.specs.declared.fault.Fault.{Fault}
use Rattle.ion_meter.specs.declared.fault.Fault.TheVariants.{Refused}
use Rattle.ion_meter.specs.declared.limits.Limits.{Limits}
use Rattle.ion_meter.specs.Limits.{AreChecked}
use Rattle.ion_value.specs.Reading.{Reading, Finished, Stopped}
use Rattle.ion_value.specs.declared.reader.RawReader.{Ghosts as RawReaderOf}
use Rattle.ion_symbols.specs.Table.{Table, table_cost}
use Rattle.ion_symbols.specs.Declaration.{Declaring}
use Rattle.ion_symbols.specs.Present.{Present}
use Rattle.ion_symbols.specs.Users.{declaring, plain, users}
use Rattle.ion_symbols.specs.Buffer.{IsPending, declaring_in, depth_of, own_of, table_left}
use Rattle.ion_symbols.specs.declared.buffer.SymbolBuffer.{SymbolBuffer}

-- the user items to come inside of a declaration
abbrev pub coming_inside : Present → ℕ → Declaring → Reading → Reading
coming_inside now limit d rest = users now.catalog limit (record { table = now.table; mode = declaring d }) rest

-- and after it, by the table that it leaves
abbrev pub coming_after : Present → ℕ → Table → Reading → Reading
coming_after now limit t rest = users now.catalog limit (record { table = t; mode = plain 0 }) rest

-- the items of a declaration can be taken in
pub record CanGather {R A : Type 0} (r : RawReaderOf R A) (most : ℕ) (now : Present) (raw : R) (b : SymbolBuffer A) (meter : Counts) : Type 0 where
  pub room : meter.held ≤ 2 ^ 61 + (2 ^ 60 + 2 ^ 33)
  pub held : r.own raw + own_of b ≤ meter.held
  pub countable : meter.refused < 2 ^ 64 - 1
  pub small : most ≤ 2 ^ 30
  pub cheap : table_cost now.table ≤ most
  pub sound : r.sound raw
  pub pending : IsPending most now.table b
  pub level : length (r.opened raw) ≡ depth_of (declaring_in now b)

-- what was taken in, and what the user items to come are by it: true where the declaration ended
pub record GatherGives {R A : Type 0} (r : RawReaderOf R A) (most : ℕ) (now : Present) (old new : SymbolBuffer A) (before after : R) (result : Result Bool Fault) : Type 0 where
  pub gives : r.observable before → result ≡ Ok true
      → coming_inside now most (declaring_in now old) (r.reading before) ≡ coming_after now most (table_left now new) (r.reading after)
  pub ends : r.observable before → result ≡ Ok false
      → (coming_inside now most (declaring_in now old) (r.reading before) ≡ Finished) × (r.reading after ≡ Finished)
  pub refuses : r.observable before → r.failed before ≡ None → (reason : Reason) (place : ℕ) → result ≡ Err (Refused reason place)
      → coming_inside now most (declaring_in now old) (r.reading before) ≡ Stopped reason place

-- what is then held, and where the raw reader stands
pub record Gathered {R A : Type 0} (r : RawReaderOf R A) (most : ℕ) (now : Present) (b : SymbolBuffer A) (raw : R) (before after : Counts) (result : Result Bool Fault) : Type 0 where
  pub pending : OnOk result (IsPending most now.table b)
  pub nameless : result ≡ Ok true → b.name ≡ []
  pub level : result ≡ Ok true → r.opened raw ≡ []
  pub counted : OnOk result (after.refused ≡ before.refused)

-- how the raw reader is left: what stays, and where it stands
pub record LeavesReader {R A : Type 0} (r : RawReaderOf R A) (old new : R) (result : Result Bool Fault) : Type 0 where
  pub sound : r.sound new
  pub observable : r.observable new ↔ r.observable old
  pub read_on : r.read_on old new
  pub exceeds : r.exceeds new ↔ r.exceeds old
  pub bytes_left : r.bytes_left new → r.bytes_left old
  pub depth : r.depth new ≡ r.depth old
  pub most : r.most new ≡ r.most old
  pub ended : result ≡ Ok false → r.ended new
  pub fresh : OnOk result (r.failed new ≡ None)
  pub falls : result ≡ Ok true → r.left new < r.left old

-- a declaration can be read
pub record CanRead {R A : Type 0} (r : RawReaderOf R A) (limits : Limits) (now : Present) (raw : R) (meter : Counts) : Type 0 where
  pub room : meter.held ≤ 2 ^ 61 + (2 ^ 60 + 2 ^ 33)
  pub held : r.own raw + table_cost now.table ≤ meter.held
  pub countable : meter.refused < 2 ^ 64 - 1
  pub checked : AreChecked limits
  pub cheap : table_cost now.table ≤ limits.symbols
  pub sound : r.sound raw

-- how the table before it is left
pub record LeavesTable (most : ℕ) (old new : Present) (result : Result Bool Fault) : Type 0 where
  pub catalog : new.catalog ≡ old.catalog
  pub leaves : result ≢ Ok true → new ≡ old
  pub cheap : table_cost new.table ≤ most
