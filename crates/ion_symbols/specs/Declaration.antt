-- The next table of a declaration, item by item, with every fault.
use Rattle.std.specs.Prelude.{ℕ, zero, suc, ◌+◌, ◌-◌, max, Bool, true, false, ◌&&◌, nat_le, if◌then◌else◌, List, [], ◌∷◌, ◌++◌, length, Option, Some, None, Result, Ok, Err, codes}
use Rattle.std.specs.Str.{bytes_eq}
use Rattle.ion_meter.specs.declared.fault.Reason.{Reason}
use Rattle.ion_meter.specs.declared.fault.Reason.TheVariants.{BadTable, SymbolLimit}
use Rattle.ion_value.specs.declared.ion_type.Kind.{Kind}
use Rattle.ion_value.specs.declared.ion_type.Kind.TheVariants as kind
use Rattle.ion_value.specs.Value as value
use Rattle.ion_value.specs.Value.{Symbol, SymbolAt, Scalar, Head, PlacedItem}
use Rattle.ion_symbols.specs.declared.known_text.Word.{Word}
use Rattle.ion_symbols.specs.declared.known_text.Word.TheVariants as word
use Rattle.ion_symbols.specs.declared.known_text.Area.{Area}
use Rattle.ion_symbols.specs.declared.known_text.Area.TheVariants as area
use Rattle.ion_symbols.specs.Table.{word_of, Slots, Shared, Import, Table, most_slots, table_cost, count_of, text_length, find, greatest}

-- ---- what a declaration looks at in an item

-- what an item is to a declaration: the beginning or end of a container, a string, an int, a symbol by its word, or other
pub data FieldValue : Type 0 where
  begins : (kind : Kind) → FieldValue
  ends other : FieldValue
  string : (bytes : List ℕ) → FieldValue
  int : (negative : Bool) → (magnitude : ℕ) → FieldValue
  names : (word : Word) → FieldValue

-- what it looks at in an item: which word the field is and its place (0 without a field), what the item is, and its place
pub record ItemView : Type 0 where
  pub field : Word
  pub field_place : ℕ
  pub what : FieldValue
  pub place : ℕ

-- the word of an id by the text that it has, and `Other` where it has none
abbrev pub word_by_id : Option (List ℕ) → Word
word_by_id None = word.Other
word_by_id (Some t) = word_of t

-- the word that a symbol is, by the texts of ids
abbrev pub word_in : (ℕ → Option (List ℕ)) → Symbol → Word
word_in texts (value.Text t) = word_of t
word_in texts (value.Id id) = word_by_id (texts id)

-- the word that a field is, by the texts of ids; `Other` where there is none
abbrev pub field_word : (ℕ → Option (List ℕ)) → Option SymbolAt → Word
field_word texts None = word.Other
field_word texts (Some s) = word_in texts s.symbol

-- the place of a field, 0 where there is none
abbrev pub place_in : Option SymbolAt → ℕ
place_in None = 0
place_in (Some s) = s.place

-- what a scalar is to a declaration, by the texts of ids
abbrev pub scalar_view : (ℕ → Option (List ℕ)) → Scalar SymbolAt → FieldValue
scalar_view texts (value.null type) = other
scalar_view texts (value.bool truth) = other
scalar_view texts (value.int number) = int number.negative number.magnitude
scalar_view texts (value.float number) = other
scalar_view texts (value.decimal number) = other
scalar_view texts (value.timestamp moment) = other
scalar_view texts (value.symbol s) = names (word_in texts s.symbol)
scalar_view texts (value.string t) = string t
scalar_view texts (value.clob bytes) = other
scalar_view texts (value.blob bytes) = other

-- what the head of an item is to a declaration, by the texts of ids
abbrev pub head_view : (ℕ → Option (List ℕ)) → Head SymbolAt → FieldValue
head_view texts (value.whole body) = scalar_view texts body
head_view texts (value.begin kind) = begins kind
head_view texts value.end = ends
head_view texts value.marker = other

-- what a declaration looks at in an item, by the texts of ids
abbrev pub item_view : (ℕ → Option (List ℕ)) → PlacedItem → ItemView
item_view texts i = record { field = field_word texts i.field; field_place = place_in i.field; what = head_view texts i.head; place = i.place }

-- ---- the pending table

-- the import that is being read; an empty name is none
pub record Entry : Type 0 where
  pub has_name : Bool
  pub has_version : Bool
  pub has_max : Bool
  pub name : List ℕ
  pub version : ℕ
  pub max_id : Option ℕ
  pub place : ℕ

-- which fields have been met, and whether the present table is kept; the imports and slots so far; what is counted for them, for the kept table
-- and for the name of the import being read; how many slots they are with the kept table
pub record Pending : Type 0 where
  pub has_imports : Bool
  pub has_symbols : Bool
  pub keeps : Bool
  pub imports : List Import
  pub locals : Slots
  pub cost : ℕ
  pub count : ℕ
  pub entry : Entry

-- an import of which nothing was read, whose struct begins at a place
abbrev pub new_entry : ℕ → Entry
new_entry place = record { has_name = false; has_version = false; has_max = false; name = []; version = 1; max_id = None; place = place }

-- the pending table of a declaration of which nothing was read
abbrev pub nothing_yet : Pending
nothing_yet = record { has_imports = false; has_symbols = false; keeps = false; imports = []; locals = []; cost = 0; count = 0; entry = new_entry 0 }

-- what a declaration is read by: the catalogue, the limit of costs, and the table before it
pub record Ground : Type 0 where
  pub catalog : List Shared
  pub limit : ℕ
  pub old : Table

-- a pending table, or a reason and a place
abbrev pub Held : Type 0
Held = Result Pending (Reason × ℕ)

-- so much is counted at a place
abbrev pub add_cost : ℕ → ℕ → ℕ → ℕ → Pending → Held
add_cost limit place cost count p =
    if nat_le (p.cost + cost) limit && nat_le (p.count + count) most_slots
    then Ok (record p { cost = p.cost + cost; count = p.count + count })
    else Err (SymbolLimit, place)

-- the table that a declaration leaves: after the present one where that is kept
abbrev pub next : Table → Pending → Table
next old p =
    if p.keeps then record { imports = old.imports; locals = old.locals ++ p.locals }
    else record { imports = p.imports; locals = p.locals }

-- a field of the declaration: `imports` and `symbols` stand once
abbrev pub field_met : ℕ → Word → Pending → Held
field_met place word.Imports p = if p.has_imports then Err (BadTable, place) else Ok (record p { has_imports = true })
field_met place word.Symbols p = if p.has_symbols then Err (BadTable, place) else Ok (record p { has_symbols = true })
field_met place _ p = Ok p

-- the present table is kept
abbrev pub keeping : Ground → ℕ → Pending → Held
keeping g place p = add_cost g.limit place (table_cost g.old) (count_of g.old) (record p { keeps = true })

-- a slot more
abbrev pub with_slot : Ground → ℕ → Option (List ℕ) → Pending → Held
with_slot g place text p = add_cost g.limit place (16 + text_length text) 1 (record p { locals = p.locals ++ text ∷ [] })

-- a field of an import: `name`, `version` and `max_id` stand once
abbrev pub part_met : ℕ → Word → Pending → Held
part_met place word.Name p = if p.entry.has_name then Err (BadTable, place) else Ok (record p { entry = record p.entry { has_name = true } })
part_met place word.Version p = if p.entry.has_version then Err (BadTable, place) else Ok (record p { entry = record p.entry { has_version = true } })
part_met place word.MaxId p = if p.entry.has_max then Err (BadTable, place) else Ok (record p { entry = record p.entry { has_max = true } })
part_met place _ p = Ok p

-- the name of an import is counted while the import is read
abbrev pub with_import_name : Ground → ℕ → List ℕ → Pending → Held
with_import_name g place t p = add_cost g.limit place (length t) 0 (record p { entry = record p.entry { name = t } })

-- the import that is being read gets a version
abbrev pub versioned : ℕ → Pending → Pending
versioned n p = record p { entry = record p.entry { version = n } }

-- the import that is being read gets a max_id, or none
abbrev pub cut_to : Option ℕ → Pending → Pending
cut_to most p = record p { entry = record p.entry { max_id = most } }

-- an import without a name, or of the system table, is ignored
abbrev pub is_ignored : List ℕ → Bool
is_ignored [] = true
is_ignored (b ∷ bs) = bytes_eq (b ∷ bs) (codes "$ion")

-- the slots of a table that was found, and none where none was
abbrev pub slots_found : Option Shared → Slots
slots_found None = []
slots_found (Some s) = s.slots

-- a table whole
abbrev pub whole_import : Option Shared → Option Import
whole_import None = None
whole_import (Some s) = Some (record { slots = s.slots; count = length s.slots })

-- the table that was found, or else the greatest version of the name
abbrev pub or_greatest : List Shared → List ℕ → Option Shared → Option Shared
or_greatest catalog name None = greatest catalog name
or_greatest catalog name (Some s) = Some s

-- what an import that isn't ignored stands for: without a max_id the exact table whole, which must be there; with one so many slots of the
-- exact table, or else of the greatest version, or else without texts
abbrev pub import_of : List Shared → List ℕ → ℕ → Option ℕ → Option Import
import_of catalog name version None = whole_import (find catalog name version)
import_of catalog name version (Some count) = Some (record { slots = slots_found (or_greatest catalog name (find catalog name version)); count = count })

-- the name of the import that is being read is forgotten
abbrev pub nameless : Pending → Pending
nameless p = record p { entry = record p.entry { name = [] } }

-- one import more, which costs 32, or `BadTable` where there is none; faults stand where the import's struct begins
abbrev pub with_import : Ground → Pending → Option Import → Held
with_import g p None = Err (BadTable, p.entry.place)
with_import g p (Some i) = add_cost g.limit p.entry.place 32 i.count (nameless (record p { imports = p.imports ++ i ∷ [] }))

-- an import's struct ends: its name is given back first
abbrev pub given_back : Pending → Pending
given_back p = record p { cost = p.cost - length p.entry.name }

-- what the end of an import's struct does: the import is ignored, or taken in, or refused
abbrev pub import_ended : Ground → Pending → Held
import_ended g p =
    if is_ignored p.entry.name then Ok (nameless (given_back p))
    else with_import g (given_back p) (import_of g.catalog p.entry.name p.entry.version p.entry.max_id)

-- ---- the streaming definition, item by item

-- what of the declaration is being read, and how many containers are open in it that are ignored
pub record Declaring : Type 0 where
  pub area : Area
  pub inside : ℕ
  pub pending : Pending

-- an area of a declaration is being read, and nothing that is ignored is open
abbrev pub at : Area → Pending → Declaring
at area p = record { area = area; inside = 0; pending = p }

-- a declaration of which nothing was read, after the beginning of its struct
abbrev pub start : Declaring
start = at area.Fields nothing_yet

-- an item goes on, or ends the declaration, or is refused
pub data Turn : Type 0 where
  on : Declaring → Turn
  made : Table → Turn
  stop : Reason → ℕ → Turn

-- goes on with the pending table, or stops with its reason and place
abbrev pub then_turn : Held → (Pending → Turn) → Turn
then_turn (Ok p) later = later p
then_turn (Err why) later = stop why.0 why.1

-- what is ignored is passed over
abbrev pub skip_ignored : FieldValue → Declaring → Declaring
skip_ignored (begins k) d = record d { inside = d.inside + 1 }
skip_ignored ends d = record d { inside = d.inside - 1 }
skip_ignored other d = d
skip_ignored (string t) d = d
skip_ignored (int negative n) d = d
skip_ignored (names w) d = d

-- what the value of a field does, by its place and the field's word: a list begins, the present table is kept, or it is ignored
abbrev pub field_value : Ground → ℕ → Word → FieldValue → Pending → Turn
field_value g place word.Imports (begins kind.List) p = on (at area.Imports p)
field_value g place word.Imports (names word.Declaration) p = then_turn (keeping g place p) (λ q. on (at area.Fields q))
field_value g place word.Symbols (begins kind.List) p = on (at area.Symbols p)
field_value g place _ what p = on (skip_ignored what (at area.Fields p))

-- a field of the declaration: first that it is there, then its value
abbrev pub field_turn : Ground → ItemView → Pending → Turn
field_turn g t p = then_turn (field_met t.field_place t.field p) (λ q. field_value g t.place t.field t.what q)

-- an element of `symbols`: a string is a text, and anything else a slot of unknown text
abbrev pub string_in : FieldValue → Option (List ℕ)
string_in (string t) = Some t
string_in _ = None

-- such an element: one slot more, and what the element contains is ignored
abbrev pub element_turn : Ground → ItemView → Pending → Turn
element_turn g t p = then_turn (with_slot g t.place (string_in t.what) p) (λ q. on (skip_ignored t.what (at area.Symbols q)))

-- an element of `imports` or the end of the list: a struct is an import, and anything else is ignored
abbrev pub imports_turn : ItemView → Pending → FieldValue → Turn
imports_turn t p ends = on (at area.Fields p)
imports_turn t p (begins kind.Struct) = on (at area.Import (record p { entry = new_entry t.place }))
imports_turn t p what = on (skip_ignored what (at area.Imports p))

-- the version that a value says: an int, at least 1, and 1 for anything else
abbrev pub version_in : FieldValue → ℕ
version_in (int false n) = max n 1
version_in _ = 1

-- the max_id that a value says: an int that is not negative, and none for anything else
abbrev pub max_id_in : FieldValue → Option ℕ
max_id_in (int false n) = Some n
max_id_in _ = None

-- what the value of an import's field does, by its place and the field's word: it is the name, version or max_id, or ignored
abbrev pub part_value : Ground → ℕ → Word → FieldValue → Pending → Turn
part_value g place word.Name (string t) p =
    then_turn (with_import_name g place t p) (λ q. on (at area.Import q))
part_value g place word.Version what p = on (skip_ignored what (at area.Import (versioned (version_in what) p)))
part_value g place word.MaxId what p =
    on (skip_ignored what (at area.Import (cut_to (max_id_in what) p)))
part_value g place _ what p = on (skip_ignored what (at area.Import p))

-- a field of an import: first that it is there, then its value
abbrev pub part_turn : Ground → ItemView → Pending → Turn
part_turn g t p = then_turn (part_met t.field_place t.field p) (λ q. part_value g t.place t.field t.what q)

-- whether an item is the end of a container
abbrev pub is_end : FieldValue → Bool
is_end ends = true
is_end _ = false

-- what an item does in an area of the declaration, where nothing that is ignored is open
abbrev pub area_turn : Ground → ItemView → Pending → Area → Turn
area_turn g t p area.Fields = if is_end t.what then made (next g.old p) else field_turn g t p
area_turn g t p area.Symbols = if is_end t.what then on (at area.Fields p) else element_turn g t p
area_turn g t p area.Imports = imports_turn t p t.what
area_turn g t p area.Import = if is_end t.what then then_turn (import_ended g p) (λ q. on (at area.Imports q)) else part_turn g t p

-- the same where so many containers are open that are ignored: in one the item is ignored too
abbrev pub turn_at : Ground → Declaring → ItemView → ℕ → Turn
turn_at g d t zero = area_turn g t d.pending d.area
turn_at g d t (suc n) = on (skip_ignored t.what d)

-- what an item does in a declaration
abbrev pub turn : Ground → Declaring → ItemView → Turn
turn g d t = turn_at g d t d.inside
