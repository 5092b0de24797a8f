-- A declaration as it is kept while it is read, and what its calls answer.
use Rattle.std.specs.Prelude.{◌≡◌, ◌≢◌, ℕ, ◌+◌, ◌-◌, ◌*◌, ◌^◌, ◌<◌, ◌≤◌, Bool, true, false, List, [], length, Option, Some, Result, Ok, Err, ⊤}
use Rattle.ion_meter.specs.Counts.{Counts}
use Rattle.ion_meter.specs.declared.fault.Fault.{Fault}
use Rattle.ion_meter.specs.declared.fault.Fault.TheVariants.{Refused, Memory, ReadFault, WriteFault, InputLimit}
use Rattle.ion_symbols.specs.Table.{Shared, Table, most_slots, slots_cost, table_cost, count_of}
use Rattle.ion_value.specs.Shares.{Charges, fault_of}
use Rattle.ion_symbols.specs.Present.{Present, Starts, imports_in}
use Rattle.ion_symbols.specs.Declaration as d
use Rattle.ion_symbols.specs.Declaration.{Ground, Pending, Declaring, ItemView, Turn, next, on, made, stop, then_turn, at, import_ended}
use Rattle.ion_symbols.specs.declared.known_text.Area.{Area}
use Rattle.ion_symbols.specs.declared.known_text.Area.TheVariants as area
use Rattle.ion_symbols.specs.declared.item_view.FieldValue.{FieldValue}
use Rattle.ion_symbols.specs.declared.item_view.FieldValue.TheVariants as what
use Rattle.ion_symbols.specs.declared.item_view.ItemView as code
use Rattle.ion_symbols.specs.declared.buffer.SymbolBuffer.{SymbolBuffer}

-- what an item is to a declaration in code, as definitions see it
abbrev pub field_value_of : FieldValue → d.FieldValue
field_value_of (what.Begins kind) = d.begins kind
field_value_of what.Ends = d.ends
field_value_of what.Other = d.other
field_value_of (what.Text t) = d.string t.now
field_value_of (what.Int negative magnitude) = d.int negative magnitude
field_value_of (what.Names word) = d.names word

-- what a declaration looks at in an item in code, as definitions see it
abbrev pub item_view_of : code.ItemView → ItemView
item_view_of t = record { field = t.field; field_place = t.field_place; what = field_value_of t.what; place = t.place }

-- the pending table of a buffer, with its imports by a catalogue
abbrev pub pending_of : {A : Type 0} → List Shared → SymbolBuffer A → Pending
pending_of catalog b =
    record {
      has_imports = b.has_imports;
      has_symbols = b.has_symbols;
      keeps = b.keeps;
      imports = imports_in catalog b.imports.items;
      locals = b.slots;
      cost = b.cost;
      count = b.count;
      entry = record { has_name = b.entry.has_name; has_version = b.entry.has_version; has_max = b.entry.has_max; name = b.name; version = b.entry.version; max_id = b.entry.max_id; place = b.entry.place };
    }

-- the same with what of the declaration is being read
abbrev pub declaring_of : {A : Type 0} → List Shared → SymbolBuffer A → Declaring
declaring_of catalog b = record { area = b.area; inside = b.inside; pending = pending_of catalog b }

-- the counted bytes that it holds
abbrev pub own_of : {A : Type 0} → SymbolBuffer A → ℕ
own_of b = b.imports.cost * length b.imports.items + slots_cost b.slots + length b.name

-- a number where the present table is kept, and else 0
abbrev pub if_kept : Bool → ℕ → ℕ
if_kept true n = n
if_kept false n = 0

-- an import is being read, and has shown a name
abbrev pub is_named : Area → Bool → Bool
is_named area.Import has_name = has_name
is_named area.Fields has_name = false
is_named area.Imports has_name = false
is_named area.Symbols has_name = false

-- the list `imports` is being read, or an import in it
abbrev pub is_importing : Area → Bool
is_importing area.Import = true
is_importing area.Imports = true
is_importing area.Fields = false
is_importing area.Symbols = false

-- what holds of a pending table: all that it holds is counted, and its cost with the kept table's is within the limit; its slots with the kept
-- table's are no more than there are ids; a name is held in an import that has shown one alone; and where the present table is kept there are no
-- imports
pub record IsPending {A : Type 0} (limit : ℕ) (old : Table) (b : SymbolBuffer A) : Type 0 where
  pub starts : Starts 0 b.imports.items b.import_slots
  pub each : b.imports.cost ≡ 32
  pub exact : b.cost ≡ own_of b + if_kept b.keeps (table_cost old)
  pub cheap : b.cost ≤ limit
  pub number : b.count ≡ (b.import_slots + length b.slots) + if_kept b.keeps (count_of old)
  pub few : b.count ≤ most_slots
  pub unnamed : is_named b.area b.entry.has_name ≡ false → b.name ≡ []
  pub fresh : b.has_imports ≡ false → (b.imports.items ≡ []) × (b.keeps ≡ false)
  pub importing : is_importing b.area ≡ true → (b.has_imports ≡ true) × (b.keeps ≡ false)
  pub alone : b.keeps ≡ true → b.imports.items ≡ []

-- what a call answers for an item: true as the declaration ends
abbrev pub TurnAs : Turn → Result Bool Fault → Declaring → Table → Type 0
TurnAs t (Ok false) d u = t ≡ on d
TurnAs t (Ok true) d u = t ≡ made u
TurnAs t (Err (Refused reason place)) d u = t ≡ stop reason place
TurnAs t (Err Memory) d u = ⊤
TurnAs t (Err ReadFault) d u = ⊥
TurnAs t (Err WriteFault) d u = ⊥
TurnAs t (Err InputLimit) d u = ⊥

-- memory is answered where it was refused, and only there
pub record GrowthCauses (fault : Option Fault) (old new : Counts) : Type 0 where
  pub memory : fault ≡ Some Memory → old.refused < new.refused
  pub counted : (fault ≡ Some Memory → ⊥) → new.refused ≡ old.refused

-- how many containers are open in a declaration
abbrev pub area_depth : Area → ℕ
area_depth area.Fields = 1
area_depth area.Imports = 2
area_depth area.Symbols = 2
area_depth area.Import = 3

-- the same with those that are ignored
abbrev pub depth_of : Declaring → ℕ
depth_of d = area_depth d.area + d.inside

-- the end of an import's struct
abbrev pub import_end_turn : d.Ground → Pending → Turn
import_end_turn g p = then_turn (import_ended g p) (λ q. on (at area.Imports q))

-- ---- what is seen of a declaration by the table before it

-- what it is read by, with a limit
abbrev pub ground_in : Present → ℕ → Ground
ground_in now limit = record { catalog = now.catalog; limit = limit; old = now.table }

-- the pending table of a buffer, by the catalogue of the table before it
abbrev pub pending_in : {A : Type 0} → Present → SymbolBuffer A → Pending
pending_in now b = pending_of now.catalog b

-- the same with what of the declaration is being read
abbrev pub declaring_in : {A : Type 0} → Present → SymbolBuffer A → Declaring
declaring_in now b = declaring_of now.catalog b

-- the table that it leaves
abbrev pub table_left : {A : Type 0} → Present → SymbolBuffer A → Table
table_left now b = next now.table (pending_in now b)

-- a call answers a turn, and leaves this
abbrev pub TurnGives : {A : Type 0} → Present → Turn → Result Bool Fault → SymbolBuffer A → Type 0
TurnGives now t result new = TurnAs t result (declaring_in now new) (table_left now new)

-- ---- calls

-- a call that may hold more can be made
pub record CanTake {A : Type 0} (most : ℕ) (now : Present) (b : SymbolBuffer A) (meter : Counts) : Type 0 where
  pub room : meter.held ≤ 2 ^ 62
  pub held : own_of b ≤ meter.held
  pub countable : meter.refused < 2 ^ 64 - 1
  pub small : most ≤ 2 ^ 30
  pub pending : IsPending most now.table b

-- a table that was read can be put in place of the present one, or after it
pub record CanInstall {A : Type 0} (most : ℕ) (now : Present) (b : SymbolBuffer A) (meter : Counts) : Type 0 where
  pub room : meter.held ≤ 2 ^ 62
  pub held : table_cost now.table + own_of b ≤ meter.held
  pub countable : meter.refused < 2 ^ 64 - 1
  pub small : most ≤ 2 ^ 30
  pub cheap : table_cost now.table ≤ most
  pub pending : IsPending most now.table b
  pub nameless : b.name ≡ []

-- what it does to the meter
pub record Takes {A : Type 0} (most : ℕ) (old new : SymbolBuffer A) (before after : Counts) (result : Result Bool Fault) : Type 0 where
  pub causes : GrowthCauses (fault_of result) before after
  pub charges : Charges before after (own_of old) (own_of new) most

-- a call that holds no more
pub record HoldsSame {A : Type 0} (old new : SymbolBuffer A) (result : Result Bool Fault) : Type 0 where
  pub memory : result ≢ Err Memory
  pub own : own_of new ≡ own_of old
  pub name : new.name ≡ old.name
