-- The tables of a catalogue by the trees of its user values: what they are, in no order of reading, and then the same with every fault.
use Rattle.std.specs.Prelude.{ℕ, ◌+◌, Bool, ◌&&◌, nat_le, if◌then◌else◌, List, [], ◌∷◌, ◌++◌, Option, Some, None, Result, Ok, Err}
use Rattle.ion_meter.specs.declared.fault.Reason.{Reason}
use Rattle.ion_meter.specs.declared.fault.Reason.TheVariants.{CatalogEntry}
use Rattle.ion_value.specs.declared.ion_type.Kind.TheVariants as kind
use Rattle.ion_value.specs.Value as value
use Rattle.ion_value.specs.Value.{UserSymbol, Value, Members, Head, scalar, container, nothing, member, Top, version, tree}
use Rattle.ion_symbols.specs.declared.known_text.Word.{Word}
use Rattle.ion_symbols.specs.declared.known_text.Word.TheVariants as word
use Rattle.ion_symbols.specs.Table.{Slots, Shared, may_stand}
use Rattle.ion_symbols.specs.Declaration.{FieldValue, string_in, version_in}
use Rattle.ion_symbols.specs.Tree.{same_word, or_later}
use Rattle.ion_symbols.specs.CatalogItems.{user_field, is_shared, head_seen, Draft, Drafted, after_tables, within, with_text, name_met, version_met, symbols_met, table_ended}

-- the head of the first item of a value
abbrev pub head_of : Value UserSymbol ℕ → Head UserSymbol
head_of (scalar body) = value.whole body
head_of (container kind members last) = value.begin kind

-- what a value is to a catalogue, judged by its first item
abbrev pub seen : Value UserSymbol ℕ → FieldValue
seen x = head_seen (head_of x)

-- ---- which tables they are

-- the value of the first field of a name
abbrev pub value_of : Word → Members UserSymbol ℕ → Option (Value UserSymbol ℕ)
value_of w nothing = None
value_of w (member before field annotations place x) = or_later (value_of w before) (if same_word (user_field field) w then Some x else None)

-- how many fields of a name members have
abbrev pub times : Word → Members UserSymbol ℕ → ℕ
times w nothing = 0
times w (member before field annotations place x) = times w before + (if same_word (user_field field) w then 1 else 0)

-- `name`, `version` and `symbols` stand once at most, and `imports` not at all
abbrev pub fields_fit : Members UserSymbol ℕ → Bool
fields_fit members =
    nat_le (times word.Name members) 1 && (nat_le (times word.Version members) 1 && (nat_le (times word.Symbols members) 1 && nat_le (times word.Imports members) 0))

-- a name that is no string is none
abbrev pub text_or_none : Option (List ℕ) → List ℕ
text_or_none None = []
text_or_none (Some t) = t

-- the name that the value of `name` says, empty where it is no string or not there
abbrev pub name_in : Option (Value UserSymbol ℕ) → List ℕ
name_in None = []
name_in (Some x) = text_or_none (string_in (seen x))

-- a version that is no int above 0 is 1
abbrev pub version_of : Option (Value UserSymbol ℕ) → ℕ
version_of None = 1
version_of (Some x) = version_in (seen x)

-- a string is a text, and any other element a slot of unknown text
abbrev pub elements : Members UserSymbol ℕ → Slots
elements nothing = []
elements (member before field annotations place x) = elements before ++ string_in (seen x) ∷ []

-- the slots that the value of `symbols` says, and none where it is no list or not there
abbrev pub slots_of : Option (Value UserSymbol ℕ) → Slots
slots_of (Some (container kind.List members last)) = elements members
slots_of _ = []

-- the shared table that a struct's members say: by the first `name`, the first `version` and the first `symbols`
abbrev pub shared_in : Members UserSymbol ℕ → Shared
shared_in members =
    record { name = name_in (value_of word.Name members); version = version_of (value_of word.Version members); slots = slots_of (value_of word.Symbols members) }

-- the table of a user value: of a struct whose first annotation is `$ion_shared_symbol_table`
abbrev pub shared_of : Top UserSymbol ℕ → Option Shared
shared_of (tree first annotations place (container kind.Struct members last)) =
    if is_shared annotations && fields_fit members then Some (shared_in members) else None
shared_of _ = None

-- a table more, where it may stand after the others
abbrev pub add_table : List Shared → Option Shared → Option (List Shared)
add_table tables None = None
add_table tables (Some s) = if may_stand tables s then Some (tables ++ s ∷ []) else None

-- goes on with tables, where they are not missing
abbrev pub and_tables : Option (List Shared) → (List Shared → Option (List Shared)) → Option (List Shared)
and_tables None later = None
and_tables (Some tables) later = later tables

-- these tables and those of user values after them; None where a value is no table, or its table may not stand there
abbrev pub tables_after : List Shared → List (Top UserSymbol ℕ) → Option (List Shared)
tables_after tables [] = Some tables
tables_after tables (u ∷ us) = and_tables (add_table tables (shared_of u)) (λ more. tables_after more us)

-- the catalogue of user values, whatever it costs: the table of each in order; None where one is no table, or its table may not stand there
abbrev pub tables_of : List (Top UserSymbol ℕ) → Option (List Shared)
tables_of us = tables_after [] us

-- ---- the same with every fault, the first of them in order of place

-- goes on with a draft, or has its fault
abbrev pub and_draft : Drafted → (Draft → Drafted) → Drafted
and_draft (Ok d) later = later d
and_draft (Err why) later = Err why

-- the draft after the elements of `symbols`, or their first fault
abbrev pub elements_drafted : ℕ → Members UserSymbol ℕ → Draft → Drafted
elements_drafted limit nothing d = Ok d
elements_drafted limit (member before field annotations place x) d =
    and_draft (elements_drafted limit before d) (λ e. within limit place (with_text (string_in (seen x)) e))

-- the draft after the value of `symbols`: a list has the slots, and anything else means nothing
abbrev pub symbols_drafted : ℕ → Value UserSymbol ℕ → Draft → Drafted
symbols_drafted limit (container kind.List members last) d = elements_drafted limit members d
symbols_drafted limit _ d = Ok d

-- the draft after a field of a table, by the place of its top-level value, that of its value, its value and its word
abbrev pub field_drafted : ℕ → ℕ → ℕ → Value UserSymbol ℕ → Draft → Word → Drafted
field_drafted limit top place x d word.Name = name_met limit place top (seen x) d
field_drafted limit top place x d word.Version = version_met top (seen x) d
field_drafted limit top place x d word.Symbols = and_draft (symbols_met top d) (λ e. symbols_drafted limit x e)
field_drafted limit top place x d word.Imports = Err (CatalogEntry, top)
field_drafted limit top place x d word.MaxId = Ok d
field_drafted limit top place x d word.Declaration = Ok d
field_drafted limit top place x d word.Other = Ok d

-- the draft after the fields of a table, or their first fault
abbrev pub fields_drafted : ℕ → ℕ → Members UserSymbol ℕ → Draft → Drafted
fields_drafted limit top nothing d = Ok d
fields_drafted limit top (member before field annotations place x) d =
    and_draft (fields_drafted limit top before d) (λ e. field_drafted limit top place x e (user_field field))

-- the draft after a value at top level, which has to be a table, or its first fault
abbrev pub top_drafted : ℕ → Top UserSymbol ℕ → Draft → Drafted
top_drafted limit (tree first annotations place (container kind.Struct members last)) d =
    if is_shared annotations then and_draft (fields_drafted limit first members d) (λ e. table_ended first e) else Err (CatalogEntry, first)
top_drafted limit (tree first annotations place (container kind.List members last)) d = Err (CatalogEntry, first)
top_drafted limit (tree first annotations place (container kind.Sexp members last)) d = Err (CatalogEntry, first)
top_drafted limit (tree first annotations place (scalar body)) d = Err (CatalogEntry, first)
top_drafted limit (version place) d = Err (CatalogEntry, place)

-- the draft after values at top level, or their first fault
abbrev pub tops_drafted : ℕ → List (Top UserSymbol ℕ) → Draft → Drafted
tops_drafted limit [] d = Ok d
tops_drafted limit (u ∷ us) d = and_draft (top_drafted limit u d) (λ e. tops_drafted limit us e)

-- the whole tables of a draft, or its fault
abbrev pub drafted_tables : Drafted → Result (List Shared) (Reason × ℕ)
drafted_tables (Ok d) = Ok d.tables
drafted_tables (Err why) = Err why

-- the catalogue of user values under a limit, or its first fault
abbrev pub catalog_of : ℕ → List (Top UserSymbol ℕ) → Result (List Shared) (Reason × ℕ)
catalog_of limit us = drafted_tables (tops_drafted limit us (after_tables []))
