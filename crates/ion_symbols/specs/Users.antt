-- The items of user values: symbols resolved, version markers and declarations taken in.
use Rattle.std.specs.Prelude.{ℕ, ◌+◌, ◌-◌, Bool, true, false, ◌&&◌, ◌==◌, if◌then◌else◌, List, [], ◌∷◌, Option, Some, None}
use Rattle.ion_meter.specs.declared.fault.Reason.{Reason}
use Rattle.ion_meter.specs.declared.fault.Reason.TheVariants.{BadSymbol, UnknownSymbol}
use Rattle.ion_value.specs.declared.ion_type.Kind.TheVariants as kind
use Rattle.ion_value.specs.Value as value
use Rattle.ion_value.specs.Value.{Symbol, SymbolAt, Scalar, Head, PlacedItem}
use Rattle.ion_value.specs.Items.{named_item}
use Rattle.ion_value.specs.Reading.{Reading, Finished, Stopped, More, Step, Ends, Stops, Gives, GoesOn}
use Rattle.ion_value.specs.Standing.{is_marker}
use Rattle.ion_symbols.specs.declared.known_text.Word.{Word}
use Rattle.ion_symbols.specs.declared.known_text.Word.TheVariants as word
use Rattle.ion_symbols.specs.Table as slot
use Rattle.ion_symbols.specs.Table.{Slot, Shared, Table, system, slot_of, text_at}
use Rattle.ion_symbols.specs.Declaration as declaration
use Rattle.ion_symbols.specs.Declaration.{Ground, Declaring, Turn, start, turn, item_view, word_in}

-- an item whose ids have the texts of a table
abbrev pub resolve : Table → PlacedItem → PlacedItem
resolve t i = named_item (text_at t) i

-- ---- the symbols of an item, in order of place

-- no fault, or the first
pub data Checked : Type 0 where
  fine : Checked
  bad : Reason → ℕ → Checked

-- a user value may not use an import slot without text
abbrev pub slot_checked : Bool → ℕ → Slot → Checked
slot_checked user place slot.above = bad BadSymbol place
slot_checked user place slot.gap = if user then bad UnknownSymbol place else fine
slot_checked user place slot.unknown = fine
slot_checked user place (slot.known t) = fine

-- the fault of a symbol at a place, if any, by the slot of its id in a table; a text has none
abbrev pub symbol_checked : Table → Bool → ℕ → Symbol → Checked
symbol_checked t user place (value.Text bytes) = fine
symbol_checked t user place (value.Id id) = slot_checked user place (slot_of t id)

-- the first of two faults, if any
abbrev pub or_else : Checked → Checked → Checked
or_else fine c = c
or_else (bad reason place) c = bad reason place

-- the fault of a symbol with its place, if any
abbrev pub at_checked : Table → Bool → SymbolAt → Checked
at_checked t user s = symbol_checked t user s.place s.symbol

-- the fault of the name of a field, if any
abbrev pub field_checked : Table → Bool → Option SymbolAt → Checked
field_checked t user None = fine
field_checked t user (Some s) = at_checked t user s

-- the first fault among annotations, if any
abbrev pub annotations_checked : Table → Bool → List SymbolAt → Checked
annotations_checked t user [] = fine
annotations_checked t user (s ∷ ss) = or_else (at_checked t user s) (annotations_checked t user ss)

-- the fault of the symbol that a scalar is, if any
abbrev pub scalar_checked : Table → Bool → Scalar SymbolAt → Checked
scalar_checked t user (value.null type) = fine
scalar_checked t user (value.bool truth) = fine
scalar_checked t user (value.int number) = fine
scalar_checked t user (value.float number) = fine
scalar_checked t user (value.decimal number) = fine
scalar_checked t user (value.timestamp moment) = fine
scalar_checked t user (value.symbol s) = at_checked t user s
scalar_checked t user (value.string bytes) = fine
scalar_checked t user (value.clob bytes) = fine
scalar_checked t user (value.blob bytes) = fine

-- the same of the head of an item
abbrev pub head_checked : Table → Bool → Head SymbolAt → Checked
head_checked t user (value.whole body) = scalar_checked t user body
head_checked t user (value.begin kind) = fine
head_checked t user value.end = fine
head_checked t user value.marker = fine

-- the first fault among the symbols of an item, if any: of its field, its annotations, and the symbol that it is
abbrev pub checked : Table → Bool → PlacedItem → Checked
checked t user i = or_else (field_checked t user i.field) (or_else (annotations_checked t user i.annotations) (head_checked t user i.head))

-- ---- the fold over the items of a stream

-- so many containers of a user value are open, or a declaration is being read
pub data Mode : Type 0 where
  plain : ℕ → Mode
  declaring : Declaring → Mode

-- what is known at a place of a stream: the symbol table, and what is being read
pub record State : Type 0 where
  pub table : Table
  pub mode : Mode

-- the beginning of a stream: the system table, and no open container
abbrev pub at_start : State
at_start = record { table = system; mode = plain 0 }

-- how many containers are open after an item
abbrev pub level_after : ℕ → Head SymbolAt → ℕ
level_after n (value.whole body) = n
level_after n (value.begin kind) = n + 1
level_after n value.end = n - 1
level_after n value.marker = n

-- whether the head of an item is the beginning of a struct
abbrev pub is_struct : Head SymbolAt → Bool
is_struct (value.begin kind.Struct) = true
is_struct _ = false

-- whether a word is `$ion_symbol_table`
abbrev pub is_declaration : Word → Bool
is_declaration word.Declaration = true
is_declaration _ = false

-- whether the first of these annotations is `$ion_symbol_table`, by a table
abbrev pub declares : Table → List SymbolAt → Bool
declares t [] = false
declares t (s ∷ ss) = is_declaration (word_in (text_at t) s.symbol)

-- a struct at top level whose first annotation is `$ion_symbol_table`
abbrev pub begins_declaration : Table → ℕ → PlacedItem → Bool
begins_declaration t n i = (n == 0) && (is_struct i.head && declares t i.annotations)

-- the symbols of an item first, then what it means
abbrev pub after_check : Checked → Step State → Step State
after_check fine s = s
after_check (bad reason place) s = Stops reason place

-- what an item of a declaration gives by its turn: no item, but a declaration that goes on, the table that it leaves, or a fault
abbrev pub turned : Table → Turn → Step State
turned t (declaration.on d) = GoesOn (record { table = t; mode = declaring d })
turned t (declaration.made u) = GoesOn (record { table = u; mode = plain 0 })
turned t (declaration.stop reason place) = Stops reason place

-- what an item gives where so many containers of a user value are open, and no declaration is being read
abbrev pub plain_step : Table → ℕ → PlacedItem → Step State
plain_step t n i =
    if is_marker i.head then GoesOn (record { table = system; mode = plain 0 })
    else if begins_declaration t n i then after_check (checked t false i) (GoesOn (record { table = t; mode = declaring start }))
    else after_check (checked t true i) (Gives (resolve t i) (record { table = t; mode = plain (level_after n i.head) }))

-- what an item gives while a declaration is being read: a fault of its symbols, or what it means there
abbrev pub declaring_step : Ground → Declaring → PlacedItem → Step State
declaring_step g d i = after_check (checked g.old false i) (turned g.old (turn g d (item_view (text_at g.old) i)))

-- what a raw item gives, by the catalogue, the limit on costs, the table at its place, and what is being read
abbrev pub mode_step : List Shared → ℕ → Table → PlacedItem → Mode → Step State
mode_step catalog limit t i (plain n) = plain_step t n i
mode_step catalog limit t i (declaring d) = declaring_step (record { catalog = catalog; limit = limit; old = t }) d i

-- what a raw item gives
abbrev pub user_step : List Shared → ℕ → State → PlacedItem → Step State
user_step catalog limit s i = mode_step catalog limit s.table i s.mode

-- what is read by a step: its item, if it gives one, and then what the state that it leaves gives
abbrev pub by_step : Step State → (State → Reading) → Reading
by_step Ends later = Finished
by_step (Stops reason place) later = Stopped reason place
by_step (Gives item after) later = More item (later after)
by_step (GoesOn after) later = later after

-- the items of user values of a raw reading: its own fault comes after those of the items before it
abbrev pub users : List Shared → ℕ → State → Reading → Reading
users catalog limit s Finished = Finished
users catalog limit s (Stopped reason place) = Stopped reason place
users catalog limit s (More i rest) = by_step (user_step catalog limit s i) (λ t. users catalog limit t rest)
