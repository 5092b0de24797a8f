-- Symbol tables, shared tables and the catalogue (Ion specification, "Symbols").
use Rattle.std.specs.Prelude.{ℕ, ◌+◌, ◌-◌, ◌*◌, Bool, false, not, ◌&&◌, ◌==◌, nat_lt, nat_le, if◌then◌else◌, List, [], ◌∷◌, length, slice_get, Option, Some, None, is_none, codes}
use Rattle.std.specs.Str.{bytes_eq}
use Rattle.ion_symbols.specs.declared.known_text.Word.{Word}
use Rattle.ion_symbols.specs.declared.known_text.Word.TheVariants.{Name, Version, MaxId, Imports, Symbols, Declaration, Other}

-- a text that means something in a declaration
abbrev pub word_of : List ℕ → Word
word_of t =
    if bytes_eq t (codes "name") then Name
    else if bytes_eq t (codes "version") then Version
    else if bytes_eq t (codes "max_id") then MaxId
    else if bytes_eq t (codes "imports") then Imports
    else if bytes_eq t (codes "symbols") then Symbols
    else if bytes_eq t (codes "$ion_symbol_table") then Declaration
    else Other

-- what an id stands for: a text, a symbol of unknown text, an import slot without text, or nothing since the table ends before it
pub data Slot : Type 0 where
  known : (bytes : List ℕ) → Slot
  unknown gap above : Slot

-- slots in order; one without text is None
abbrev pub Slots : Type 0
Slots = List (Option (List ℕ))

-- a shared symbol table: its name, its version, and its slots in order
pub record Shared : Type 0 where
  pub name : List ℕ
  pub version : ℕ
  pub slots : Slots

-- an import: the slots of the shared table that it found, none where it found none, and its number of slots
pub record Import : Type 0 where
  pub slots : Slots
  pub count : ℕ

-- the slots after the system ones
pub record Table : Type 0 where
  pub imports : List Import
  pub locals : Slots

-- the system table, which stands before all others
abbrev pub system_slots : Slots
system_slots =
    None ∷ Some (codes "$ion") ∷ Some (codes "$ion_1_0") ∷ Some (codes "$ion_symbol_table") ∷ Some (codes "name") ∷ Some (codes "version")
    ∷ Some (codes "imports") ∷ Some (codes "symbols") ∷ Some (codes "max_id") ∷ Some (codes "$ion_shared_symbol_table") ∷ []

-- the symbol table at the beginning of a stream and after a version marker: the system slots alone
abbrev pub system : Table
system = record { imports = []; locals = [] }

-- the most slots after the system ones: the greatest id is 2^31 - 1
abbrev pub most_slots : ℕ
most_slots = 2147483638

-- a system or local slot by what a list has at its place: without a text a symbol of unknown text, and past the end nothing
abbrev pub local_slot : Option (Option (List ℕ)) → Slot
local_slot None = above
local_slot (Some None) = unknown
local_slot (Some (Some t)) = known t

-- a slot of an import by what the shared table has at its place: without a text, or past the table's end, a gap
abbrev pub import_slot : Option (Option (List ℕ)) → Slot
import_slot None = gap
import_slot (Some None) = gap
import_slot (Some (Some t)) = known t

-- the slot at a place after the system ones: imports in order, then local slots
abbrev pub slot_in : List Import → Slots → ℕ → Slot
slot_in [] locals place = local_slot (slice_get locals place)
slot_in (i ∷ is) locals place = if nat_lt place i.count then import_slot (slice_get i.slots place) else slot_in is locals (place - i.count)

-- the slot of an id: one of the ten system slots, or one after them
abbrev pub slot_of : Table → ℕ → Slot
slot_of t id = if nat_lt id 10 then local_slot (slice_get system_slots id) else slot_in t.imports t.locals (id - 10)

-- the text of a slot, where it has one
abbrev pub text_of_slot : Slot → Option (List ℕ)
text_of_slot (known t) = Some t
text_of_slot unknown = None
text_of_slot gap = None
text_of_slot above = None

-- the text of an id, where it has one
abbrev pub text_at : Table → ℕ → Option (List ℕ)
text_at t id = text_of_slot (slot_of t id)

-- ---- numbers of slots, and costs

-- the length of a slot's text in bytes, 0 where it has none
abbrev pub text_length : Option (List ℕ) → ℕ
text_length None = 0
text_length (Some t) = length t

-- 16 a slot, and the length of its text
abbrev pub slots_cost : Slots → ℕ
slots_cost [] = 0
slots_cost (s ∷ ss) = (16 + text_length s) + slots_cost ss

-- how many slots imports have in all
abbrev pub import_count : List Import → ℕ
import_count [] = 0
import_count (i ∷ is) = i.count + import_count is

-- how many slots a table has after the system ones
abbrev pub count_of : Table → ℕ
count_of t = import_count t.imports + length t.locals

-- an import costs 32 whatever its number of slots: their texts stay in the catalogue
abbrev pub table_cost : Table → ℕ
table_cost t = 32 * length t.imports + slots_cost t.locals

-- ---- the catalogue

-- whether a shared table has this name and this version
abbrev pub is_table : List ℕ → ℕ → Shared → Bool
is_table name version s = bytes_eq s.name name && (s.version == version)

-- the table of a name and a version
abbrev pub find : List Shared → List ℕ → ℕ → Option Shared
find [] name version = None
find (s ∷ ss) name version = if is_table name version s then Some s else find ss name version

-- of two tables of a name, the one with the greater version
abbrev pub greater : List ℕ → Option Shared → Shared → Option Shared
greater name None s = if bytes_eq s.name name then Some s else None
greater name (Some b) s = if bytes_eq s.name name && nat_lt b.version s.version then Some s else Some b

-- the table of a name that has the greatest version, among the one found so far and these; of two alike the first
abbrev pub greatest_from : List ℕ → Option Shared → List Shared → Option Shared
greatest_from name best [] = best
greatest_from name best (s ∷ ss) = greatest_from name (greater name best s) ss

-- the table of a name that has the greatest version
abbrev pub greatest : List Shared → List ℕ → Option Shared
greatest catalog name = greatest_from name None catalog

-- a name that shared tables may have
abbrev pub is_name : List ℕ → Bool
is_name [] = false
is_name (b ∷ bs) = not (bytes_eq (b ∷ bs) (codes "$ion"))

-- a table may be added to a catalogue
abbrev pub may_stand : List Shared → Shared → Bool
may_stand catalog s = is_name s.name && (nat_lt 0 s.version && (nat_le s.version 2147483647 && is_none (find catalog s.name s.version)))

-- the length of a shared table's name, and what its slots cost
abbrev pub shared_cost : Shared → ℕ
shared_cost s = length s.name + slots_cost s.slots

-- what a catalogue costs: 32 a table, the length of its name, and what its slots cost
abbrev pub catalog_cost : List Shared → ℕ
catalog_cost [] = 0
catalog_cost (s ∷ ss) = (32 + shared_cost s) + catalog_cost ss
