-- What is seen of the reader of user values.
use Rattle.std.specs.Prelude.{◌≡◌, ℕ, ◌+◌, ◌-◌, ◌*◌, ◌^◌, ◌<◌, ◌≤◌, ◌↔◌, false, List, length, Option, None, Result, Ok, Err, OnOk}
use Rattle.ion_meter.specs.declared.fault.Reason.{Reason}
use Rattle.ion_meter.specs.declared.fault.Fault.{Fault}
use Rattle.ion_meter.specs.declared.fault.Fault.TheVariants.{Refused}
use Rattle.ion_meter.specs.declared.limits.Limits.{Limits}
use Rattle.ion_meter.specs.Counts.{Counts}
use Rattle.ion_meter.specs.Limits.{AreChecked}
use Rattle.ion_value.specs.declared.ion_type.Kind.{Kind}
use Rattle.ion_value.specs.Value.{PlacedItem}
use Rattle.ion_value.specs.declared.reader.RawReader.{Ghosts as RawReaderOf}
use Rattle.ion_value.specs.Reading.{Reading, Finished, Stopped, More}
use Rattle.ion_value.specs.Shares.{Charges}
use Rattle.ion_value.specs.Standing.{Fits, is_marker, open_after}
use Rattle.ion_symbols.specs.Table.{Shared, Table, table_cost}
use Rattle.ion_symbols.specs.Users.{Checked, fine, bad, State, plain, resolve, users}
use Rattle.ion_symbols.specs.declared.user.UserReader.{UserReader}

-- what a check of symbols answers
abbrev pub CheckedAs : Checked → Result Unit Fault → Type 0
CheckedAs fine result = result ≡ Ok tt
CheckedAs (bad reason place) result = result ≡ Err (Refused reason place)

-- the table at the place of a reader, and how many containers are open there
abbrev pub state_of : {R A : Type 0} → UserReader R A → State
state_of u = record { table = u.symbols.table; mode = plain u.count }

-- the counted bytes that it holds with its raw reader
abbrev pub owned_by : {R A : Type 0} → (R → ℕ) → UserReader R A → ℕ
owned_by own u = own u.raw + table_cost u.symbols.table

-- the most that it may hold: what its raw reader may, and twice the limit on symbol tables
abbrev pub share_of : {R A : Type 0} → (R → ℕ) → UserReader R A → ℕ
share_of most u = most u.raw + 2 * u.limits.symbols

-- the user items to come
abbrev pub coming_to : {R A : Type 0} → (R → Reading) → UserReader R A → Reading
coming_to reading u = users u.symbols.catalog u.limits.symbols (state_of u) (reading u.raw)

-- the item that it lends
abbrev pub lent_by : {R A : Type 0} → (R → PlacedItem) → UserReader R A → PlacedItem
lent_by current u = resolve u.symbols.table (current u.raw)

-- what holds between calls: what the raw reader wants, a table within the limit, and until a fault or the end is answered the
-- number of open containers
pub record IsReady {R A : Type 0} (sound : R → Type 0) (opened : R → List Kind) (failed : R → Option Fault) (ended : R → Type 0) (u : UserReader R A) : Type 0 where
  pub raw : sound u.raw
  pub checked : AreChecked u.limits
  pub cheap : table_cost u.symbols.table ≤ u.limits.symbols
  pub level : u.failed ≡ None → (ended u.raw → ⊥) → u.count ≡ length (opened u.raw)
  pub fresh : u.failed ≡ None → failed u.raw ≡ None

-- an item of a user value may come where these containers are open, and leaves those
pub record MayCome (depth : ℕ) (before after : List Kind) (item : PlacedItem) : Type 0 where
  pub fits : Fits depth before item
  pub value : is_marker item.head ≡ false
  pub opens : after ≡ open_after before item.head

-- ---- what its calls say of it

-- its raw reader
abbrev pub raw_of : {R A : Type 0} → UserReader R A → R
raw_of u = u.raw

-- the symbol table at its place
abbrev pub table_of : {R A : Type 0} → UserReader R A → Table
table_of u = u.symbols.table

-- the shared tables by which it resolves imports
abbrev pub catalog_of : {R A : Type 0} → UserReader R A → List Shared
catalog_of u = u.symbols.catalog

-- the limits that it keeps
abbrev pub limits_of : {R A : Type 0} → UserReader R A → Limits
limits_of u = u.limits

-- how many containers of a user value are open
abbrev pub level_of : {R A : Type 0} → UserReader R A → ℕ
level_of u = u.count

-- the fault that it answered, if any
abbrev pub answered_by : {R A : Type 0} → UserReader R A → Option Fault
answered_by u = u.failed

-- it can take the next raw item
pub record CanTurn {R A : Type 0} (r : RawReaderOf R A) (most : ℕ) (u : UserReader R A) (meter : Counts) : Type 0 where
  pub room : meter.held ≤ most
  pub held : owned_by r.own u ≤ meter.held
  pub countable : meter.refused < 2 ^ 64 - 1
  pub ready : IsReady r.sound r.opened r.failed r.ended u
  pub well : u.failed ≡ None

-- what such a call gives of the user items to come: `item` where it took one, and `over` at the end of the stream
pub record UserGives {R A T : Type 0} (r : RawReaderOf R A) (item over : T) (old new : UserReader R A) (result : Result T Fault) : Type 0 where
  pub gives : r.observable old.raw → result ≡ Ok item → coming_to r.reading old ≡ More (lent_by r.current new) (coming_to r.reading new)
  pub ends : r.observable old.raw → result ≡ Ok over → (coming_to r.reading old ≡ Finished) × (coming_to r.reading new ≡ Finished)
  pub refuses : r.observable old.raw → (reason : Reason) (place : ℕ) → result ≡ Err (Refused reason place) → coming_to r.reading old ≡ Stopped reason place

-- a marker or a declaration was taken in: the user items to come are the same, and where they stand
pub record UserPasses {R A : Type 0} (r : RawReaderOf R A) (old new : UserReader R A) : Type 0 where
  pub coming : r.observable old.raw → coming_to r.reading old ≡ coming_to r.reading new
  pub opened : r.opened new.raw ≡ r.opened old.raw

-- what it keeps and moves
pub record UserSteps {R A T : Type 0} (r : RawReaderOf R A) (item over : T) (old new : UserReader R A) (before after : Counts) (result : Result T Fault) : Type 0 where
  pub ready : OnOk result (IsReady r.sound r.opened r.failed r.ended new)
  pub sound : r.sound new.raw
  pub cheap : table_cost new.symbols.table ≤ new.limits.symbols
  -- the item that is lent
  pub lends : result ≡ Ok item → r.lends new.raw
  pub level : result ≡ Ok item → new.count ≡ length (r.opened new.raw)
  pub comes : result ≡ Ok item → MayCome (r.depth old.raw) (r.opened old.raw) (r.opened new.raw) (lent_by r.current new)
  pub ended : result ≡ Ok over → r.ended new.raw
  pub stays : r.ended old.raw → (result ≡ Ok over) × (new ≡ old) × (after ≡ before)
  -- what stays
  pub observable : r.observable new.raw ↔ r.observable old.raw
  pub read_on : r.read_on old.raw new.raw
  pub exceeds : r.exceeds new.raw ↔ r.exceeds old.raw
  pub bytes_left : r.bytes_left new.raw → r.bytes_left old.raw
  pub depth : r.depth new.raw ≡ r.depth old.raw
  pub most : r.most new.raw ≡ r.most old.raw
  pub failed : new.failed ≡ old.failed
  pub limits : new.limits ≡ old.limits
  pub catalog : new.symbols.catalog ≡ old.symbols.catalog
  -- memory
  pub charges : Charges before after (owned_by r.own old) (owned_by r.own new) (share_of r.most old)
