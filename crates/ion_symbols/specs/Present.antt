-- The present table as it is kept.
use Rattle.std.specs.Prelude.{◌≡◌, ℕ, ◌+◌, ◌≤◌, List, [], ◌∷◌, ◌++◌, length, map, slice_get, Option, Some, None}
use Rattle.ion_symbols.specs.Table as slot
use Rattle.ion_symbols.specs.Table.{Slot, Slots, Shared, Import, Table, count_of, most_slots}
use Rattle.ion_symbols.specs.declared.symbols.FoundImport.{FoundImport}
use Rattle.ion_symbols.specs.declared.symbols.Slot as code
use Rattle.ion_symbols.specs.declared.symbols.Slot.TheVariants as variants

-- the present table, and the catalogue that it is read by
pub record Present : Type 0 where
  pub table : Table
  pub catalog : List Shared

-- the slots of the shared table at a place of the catalogue
abbrev pub slots_of : Option Shared → Slots
slots_of None = []
slots_of (Some s) = s.slots

-- the same by the place, and none where there is no place or no table there
abbrev pub slots_at : List Shared → Option ℕ → Slots
slots_at catalog None = []
slots_at catalog (Some place) = slots_of (slice_get catalog place)

-- an import with the slots of the table that it found in the catalogue
abbrev pub import_in : List Shared → FoundImport → Import
import_in catalog f = record { slots = slots_at catalog f.table; count = f.count }

-- the same of imports in order
abbrev pub imports_in : List Shared → List FoundImport → List Import
imports_in catalog founds = map (import_in catalog) founds

-- the table of kept imports and slots
abbrev pub kept_table : List Shared → List FoundImport → Slots → Table
kept_table catalog founds slots = record { imports = imports_in catalog founds; locals = slots }

-- local slots after those that are there
abbrev pub with_locals : Present → Slots → Present
with_locals p more = record p { table = record p.table { locals = p.table.locals ++ more } }

-- each import begins where the one before it ends
abbrev pub Starts : ℕ → List FoundImport → ℕ → Type 0
Starts from [] end = from ≡ end
Starts from (f ∷ fs) end = (f.start ≡ from) × Starts (from + f.count) fs end

-- a table as it is kept: no more slots than ids
pub record IsKept (imports : List FoundImport) (cost import_slots : ℕ) (locals : Slots) : Type 0 where
  pub starts : Starts 0 imports import_slots
  pub each : cost ≡ 32
  pub few : import_slots + length locals ≤ most_slots

-- a slot of the code as definitions see it
abbrev pub as_slot : code.Slot → Slot
as_slot (variants.Known t) = slot.known t.now
as_slot variants.Unknown = slot.unknown
as_slot variants.Gap = slot.gap
as_slot variants.Above = slot.above
