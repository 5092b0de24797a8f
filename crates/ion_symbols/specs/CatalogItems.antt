-- The tables of a catalogue from the items of its user values, one after the other, with every fault (Ion specification, "Shared Symbol Tables").
use Rattle.std.specs.Prelude.{ℕ, zero, suc, ◌+◌, ◌-◌, Bool, true, false, ◌&&◌, nat_le, if◌then◌else◌, List, [], ◌∷◌, ◌++◌, length, Option, Some, None, Result, Ok, Err, codes}
use Rattle.std.specs.Str.{bytes_eq}
use Rattle.ion_meter.specs.declared.fault.Reason.{Reason}
use Rattle.ion_meter.specs.declared.fault.Reason.TheVariants.{CatalogEntry, SymbolLimit}
use Rattle.ion_meter.specs.declared.limits.Limits.{Limits}
use Rattle.ion_value.specs.declared.ion_type.Kind.TheVariants as kind
use Rattle.ion_value.specs.Value as value
use Rattle.ion_value.specs.Value.{UserSymbol, Known, Unknown, Scalar, Head, Item, PlacedItem, user_items}
use Rattle.ion_value.specs.Items.{is_none_left}
use Rattle.ion_symbols.specs.declared.known_text.Word.{Word}
use Rattle.ion_symbols.specs.declared.known_text.Word.TheVariants as word
use Rattle.ion_symbols.specs.declared.catalog_builder.Stage.{Stage}
use Rattle.ion_symbols.specs.declared.catalog_builder.Stage.TheVariants as stage
use Rattle.ion_symbols.specs.Table.{word_of, Shared, slots_cost, catalog_cost, is_name, may_stand}
use Rattle.ion_symbols.specs.Declaration.{FieldValue, begins, ends, other, string, int, names, is_end, string_in, version_in}

-- ---- what a catalogue looks at in an item

-- whether the first annotation is `$ion_shared_symbol_table`, which word the field is, what the item is, its place and its top
pub record EntryView : Type 0 where
  pub shared : Bool
  pub field : Word
  pub what : FieldValue
  pub place : ℕ
  pub top : ℕ

-- the word that a symbol is, and `Other` where its text is unknown
abbrev pub user_word : UserSymbol → Word
user_word (Known t) = word_of t
user_word Unknown = word.Other

-- the word that a field is, and `Other` where there is none
abbrev pub user_field : Option UserSymbol → Word
user_field None = word.Other
user_field (Some s) = user_word s

-- whether a symbol is `$ion_shared_symbol_table`
abbrev pub names_shared : UserSymbol → Bool
names_shared (Known t) = bytes_eq t (codes "$ion_shared_symbol_table")
names_shared Unknown = false

-- the first annotation is `$ion_shared_symbol_table`
abbrev pub is_shared : List UserSymbol → Bool
is_shared [] = false
is_shared (s ∷ ss) = names_shared s

-- what a scalar is to a catalogue: a string or an int, and anything else alike
abbrev pub scalar_seen : Scalar UserSymbol → FieldValue
scalar_seen (value.null type) = other
scalar_seen (value.bool truth) = other
scalar_seen (value.int number) = int number.negative number.magnitude
scalar_seen (value.float number) = other
scalar_seen (value.decimal number) = other
scalar_seen (value.timestamp moment) = other
scalar_seen (value.symbol s) = other
scalar_seen (value.string t) = string t
scalar_seen (value.clob bytes) = other
scalar_seen (value.blob bytes) = other

-- what the head of an item is to a catalogue
abbrev pub head_seen : Head UserSymbol → FieldValue
head_seen (value.whole body) = scalar_seen body
head_seen (value.begin kind) = begins kind
head_seen value.end = ends
head_seen value.marker = other

-- an item of a user value as a catalogue looks at it
abbrev pub entry_view : Item UserSymbol ℕ → EntryView
entry_view i = record { shared = is_shared i.annotations; field = user_field i.field; what = head_seen i.head; place = i.place; top = i.top }

-- ---- the tables so far

-- the tables that are whole, and the one that is being read: an empty name is none, and a field that stands once has shown itself
pub record Draft : Type 0 where
  pub tables : List Shared
  pub has_version : Bool
  pub has_symbols : Bool
  pub table : Shared

-- a table of which nothing was read
abbrev pub blank : Shared
blank = record { name = []; version = 1; slots = [] }

-- a draft of whole tables, where nothing was read of another
abbrev pub after_tables : List Shared → Draft
after_tables tables = record { tables = tables; has_version = false; has_symbols = false; table = blank }

-- a draft, or a reason and a place
abbrev pub Drafted : Type 0
Drafted = Result Draft (Reason × ℕ)

-- a name counts 32 besides its length, for its table
abbrev pub name_cost : List ℕ → ℕ
name_cost [] = 0
name_cost (b ∷ bs) = 32 + length (b ∷ bs)

-- what is counted of the catalogue
abbrev pub counted : Draft → ℕ
counted d = catalog_cost d.tables + (name_cost d.table.name + slots_cost d.table.slots)

-- a draft within the limit; what passes it is refused at a place
abbrev pub within : ℕ → ℕ → Draft → Drafted
within limit place d = if nat_le (counted d) limit then Ok d else Err (SymbolLimit, place)

-- the table that is being read gets a name
abbrev pub with_name : List ℕ → Draft → Draft
with_name name d = record d { table = record d.table { name = name } }

-- the table that is being read gets a slot more, with a text or none
abbrev pub with_text : Option (List ℕ) → Draft → Draft
with_text text d = record d { table = record d.table { slots = d.table.slots ++ text ∷ [] } }

-- the name: a string that a table may have, and the first
abbrev pub name_met : ℕ → ℕ → ℕ → FieldValue → Draft → Drafted
name_met limit place top (string t) d =
    if is_none_left d.table.name && is_name t then within limit place (with_name t d) else Err (CatalogEntry, top)
name_met limit place top (begins k) d = Err (CatalogEntry, top)
name_met limit place top ends d = Err (CatalogEntry, top)
name_met limit place top other d = Err (CatalogEntry, top)
name_met limit place top (int negative n) d = Err (CatalogEntry, top)
name_met limit place top (names w) d = Err (CatalogEntry, top)

-- the version: an int above 0, or else 1
abbrev pub version_met : ℕ → FieldValue → Draft → Drafted
version_met top what d =
    if d.has_version then Err (CatalogEntry, top)
    else if nat_le (version_in what) 2147483647 then Ok (record d { has_version = true; table = record d.table { version = version_in what } })
    else Err (CatalogEntry, top)

-- the field `symbols`, which stands once
abbrev pub symbols_met : ℕ → Draft → Drafted
symbols_met top d = if d.has_symbols then Err (CatalogEntry, top) else Ok (record d { has_symbols = true })

-- the table's struct ends
abbrev pub table_ended : ℕ → Draft → Drafted
table_ended top d = if may_stand d.tables d.table then Ok (after_tables (d.tables ++ d.table ∷ [])) else Err (CatalogEntry, top)

-- ---- item by item

-- what is being read, and how many containers are open in it that mean nothing
pub record Loading : Type 0 where
  pub stage : Stage
  pub inside : ℕ
  pub draft : Draft

-- what is being read, or a reason and a place
abbrev pub Loaded : Type 0
Loaded = Result Loading (Reason × ℕ)

-- a stage of a catalogue is being read, and nothing that means nothing is open
abbrev pub at : Stage → Draft → Loading
at stage d = record { stage = stage; inside = 0; draft = d }

-- goes on with a draft, or has its fault
abbrev pub then_load : Drafted → (Draft → Loaded) → Loaded
then_load (Ok d) later = later d
then_load (Err why) later = Err why

-- what means nothing is passed over
abbrev pub passed : FieldValue → Loading → Loading
passed (begins k) s = record s { inside = s.inside + 1 }
passed ends s = record s { inside = s.inside - 1 }
passed other s = s
passed (string t) s = s
passed (int negative n) s = s
passed (names w) s = s

-- the value of `symbols`: a list has the slots, and anything else means nothing
abbrev pub listed : FieldValue → Draft → Loading
listed (begins kind.List) d = at stage.Symbols d
listed what d = passed what (at stage.Fields d)

-- whether an item is the beginning of a struct
abbrev pub is_struct : FieldValue → Bool
is_struct (begins kind.Struct) = true
is_struct _ = false

-- a value at top level begins
abbrev pub entry_step : EntryView → Draft → Loaded
entry_step t d = if t.shared && is_struct t.what then Ok (at stage.Fields d) else Err (CatalogEntry, t.top)

-- a field of a table, by its word: `imports` is refused, and others than `name`, `version` and `symbols` mean nothing
abbrev pub field_step : ℕ → EntryView → Draft → Word → Loaded
field_step limit t d word.Name = then_load (name_met limit t.place t.top t.what d) (λ e. Ok (at stage.Fields e))
field_step limit t d word.Version = then_load (version_met t.top t.what d) (λ e. Ok (passed t.what (at stage.Fields e)))
field_step limit t d word.Symbols = then_load (symbols_met t.top d) (λ e. Ok (listed t.what e))
field_step limit t d word.Imports = Err (CatalogEntry, t.top)
field_step limit t d word.MaxId = Ok (passed t.what (at stage.Fields d))
field_step limit t d word.Declaration = Ok (passed t.what (at stage.Fields d))
field_step limit t d word.Other = Ok (passed t.what (at stage.Fields d))

-- a field of a table, or the end of its struct
abbrev pub fields_step : ℕ → EntryView → Draft → Loaded
fields_step limit t d =
    if is_end t.what then then_load (table_ended t.top d) (λ e. Ok (at stage.Outside e)) else field_step limit t d t.field

-- an element of `symbols`: a string is a text, and anything else a slot of unknown text
abbrev pub element_step : ℕ → EntryView → Draft → Loaded
element_step limit t d = then_load (within limit t.place (with_text (string_in t.what) d)) (λ e. Ok (passed t.what (at stage.Symbols e)))

-- an element of `symbols`, or the end of the list
abbrev pub symbols_step : ℕ → EntryView → Draft → Loaded
symbols_step limit t d = if is_end t.what then Ok (at stage.Fields d) else element_step limit t d

-- what an item does at a stage, where nothing that means nothing is open
abbrev pub stage_step : ℕ → EntryView → Draft → Stage → Loaded
stage_step limit t d stage.Outside = entry_step t d
stage_step limit t d stage.Fields = fields_step limit t d
stage_step limit t d stage.Symbols = symbols_step limit t d

-- the same where so many containers are open that mean nothing: in one the item means nothing too
abbrev pub step_at : ℕ → EntryView → Loading → ℕ → Loaded
step_at limit t s zero = stage_step limit t s.draft s.stage
step_at limit t s (suc n) = Ok (passed t.what s)

-- one item more
abbrev pub load_step : ℕ → Loading → EntryView → Loaded
load_step limit s t = step_at limit t s s.inside

-- goes on with what is being read, or has its fault
abbrev pub and_load : Loaded → (Loading → Loaded) → Loaded
and_load (Ok s) later = later s
and_load (Err why) later = Err why

-- what items lead to, from what is being read before them on
abbrev pub load_from : ℕ → Loading → List (Item UserSymbol ℕ) → Loaded
load_from limit s [] = Ok s
load_from limit s (i ∷ is) = and_load (load_step limit s (entry_view i)) (λ t. load_from limit t is)

-- a catalogue of which nothing was read
abbrev pub nothing_loaded : Loading
nothing_loaded = at stage.Outside (after_tables [])

-- what items lead to, from the first of a stream on
abbrev pub loaded : ℕ → List (Item UserSymbol ℕ) → Loaded
loaded limit items = load_from limit nothing_loaded items

-- the reason and the place of a fault, if there is one
abbrev pub why_not : Loaded → Option (Reason × ℕ)
why_not (Ok s) = None
why_not (Err why) = Some why

-- why an item after others is refused in a catalogue, and where
abbrev pub catalog_refusal : Limits → List PlacedItem → PlacedItem → Option (Reason × ℕ)
catalog_refusal limits path item = why_not (loaded limits.symbols (user_items (path ++ item ∷ [])))
