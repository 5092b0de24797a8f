-- The next table of a declaration by its tree, and its first fault.
use Rattle.std.specs.Prelude.{ℕ, Bool, true, false, if◌then◌else◌, List, [], ◌∷◌, ◌++◌, map, Option, Some, None, option_map, Result, Ok, Err}
use Rattle.ion_meter.specs.declared.fault.Reason.{Reason}
use Rattle.ion_value.specs.declared.ion_type.Kind.TheVariants as kind
use Rattle.ion_value.specs.Value as value
use Rattle.ion_value.specs.Value.{SymbolAt, UserSymbol, user_symbol, Scalar, Value, Members, scalar, container, nothing, member, Top, tree, Head, PlacedItem, bare_item, member_items, map_value}
use Rattle.ion_value.specs.Items as items
use Rattle.ion_symbols.specs.declared.known_text.Word.{Word}
use Rattle.ion_symbols.specs.declared.known_text.Word.TheVariants as word
use Rattle.ion_symbols.specs.Table.{Slots, Shared, Import, Table, system, text_at}
use Rattle.ion_symbols.specs.Declaration as declaration
use Rattle.ion_symbols.specs.Declaration.{Ground, Held, Pending, nothing_yet, next, field_met, keeping, with_slot, part_met, with_import_name, versioned, cut_to, import_ended, new_entry, word_in, field_word, place_in, version_in, max_id_in, is_ignored, import_of}
use Rattle.ion_symbols.specs.Users.{Checked, fine, bad, or_else, checked, is_declaration}

-- ---- what a declaration says, whatever it costs

-- whether both are the same one of `name`, `version`, `max_id`, `imports` and `symbols`
abbrev pub same_word : Word → Word → Bool
same_word word.Name word.Name = true
same_word word.Version word.Version = true
same_word word.MaxId word.MaxId = true
same_word word.Imports word.Imports = true
same_word word.Symbols word.Symbols = true
same_word _ _ = false

-- the first where there is one, and else the second
abbrev pub or_later : {T : Type 0} → Option T → Option T → Option T
or_later None later = later
or_later (Some x) later = Some x

-- the value of the first field of a name
abbrev pub value_of : (ℕ → Option (List ℕ)) → Word → Members SymbolAt ℕ → Option (Value SymbolAt ℕ)
value_of texts w nothing = None
value_of texts w (member before field annotations place x) =
    or_later (value_of texts w before) (if same_word (field_word texts field) w then Some x else None)

-- an element of `symbols`: a string is a text, and anything else a slot of unknown text
abbrev pub element : Value SymbolAt ℕ → Option (List ℕ)
element (scalar (value.string t)) = Some t
element _ = None

-- the slots that the elements of `symbols` are, in order
abbrev pub elements : Members SymbolAt ℕ → Slots
elements nothing = []
elements (member before field annotations place x) = elements before ++ element x ∷ []

-- the slots that the value of `symbols` says, and none where it is no list or not there
abbrev pub locals_of : Option (Value SymbolAt ℕ) → Slots
locals_of (Some (container kind.List members last)) = elements members
locals_of _ = []

-- the name that the value of `name` says, empty where it is no string or not there
abbrev pub name_of : Option (Value SymbolAt ℕ) → List ℕ
name_of (Some (scalar (value.string t))) = t
name_of _ = []

-- the version that the value of `version` says, at least 1, and 1 where it is no int or not there
abbrev pub version_of : Option (Value SymbolAt ℕ) → ℕ
version_of (Some (scalar (value.int number))) = version_in (declaration.int number.negative number.magnitude)
version_of _ = 1

-- the max_id that the value of `max_id` says, and none where it is no int, negative or not there
abbrev pub max_of : Option (Value SymbolAt ℕ) → Option ℕ
max_of (Some (scalar (value.int number))) =
    max_id_in (declaration.int number.negative number.magnitude)
max_of _ = None

-- the imports that a struct of `imports` stands for, one or none; None where the table that it asks for isn't there
abbrev pub import_by : List Shared → List ℕ → ℕ → Option ℕ → Option (List Import)
import_by catalog name version most =
    if is_ignored name then Some [] else option_map (λ i. i ∷ []) (import_of catalog name version most)

-- the same by the members of the struct and the texts of ids
abbrev pub struct_import : List Shared → (ℕ → Option (List ℕ)) → Members SymbolAt ℕ → Option (List Import)
struct_import catalog texts members =
    import_by catalog (name_of (value_of texts word.Name members)) (version_of (value_of texts word.Version members)) (max_of (value_of texts word.MaxId members))

-- the same of an element of `imports`, which stands for none where it is no struct
abbrev pub value_import : List Shared → (ℕ → Option (List ℕ)) → Value SymbolAt ℕ → Option (List Import)
value_import catalog texts (container kind.Struct members last) = struct_import catalog texts members
value_import catalog texts _ = Some []

-- imports and those after them, where neither are missing
abbrev pub both : Option (List Import) → Option (List Import) → Option (List Import)
both (Some xs) (Some ys) = Some (xs ++ ys)
both (Some xs) None = None
both None other = None

-- the imports that a list `imports` stands for; None where a table that one asks for isn't there
abbrev pub imports_in : List Shared → (ℕ → Option (List ℕ)) → Members SymbolAt ℕ → Option (List Import)
imports_in catalog texts nothing = Some []
imports_in catalog texts (member before field annotations place x) = both (imports_in catalog texts before) (value_import catalog texts x)

-- the table of these local slots and imports, where these are not missing
abbrev pub with_imports : Slots → Option (List Import) → Option Table
with_imports locals None = None
with_imports locals (Some imports) = Some (record { imports = imports; locals = locals })

-- the symbol `$ion_symbol_table` keeps the present table
abbrev pub by_word : Table → Slots → Word → Option Table
by_word old locals word.Declaration = Some (record { imports = old.imports; locals = old.locals ++ locals })
by_word old locals _ = Some (record { imports = []; locals = locals })

-- the table of these local slots by the value of `imports`, if any: a list, the symbol that keeps the table before it, or ignored
abbrev pub by_imports : List Shared → (ℕ → Option (List ℕ)) → Table → Slots → Option (Value SymbolAt ℕ) → Option Table
by_imports catalog texts old locals (Some (container kind.List members last)) = with_imports locals (imports_in catalog texts members)
by_imports catalog texts old locals (Some (scalar (value.symbol s))) = by_word old locals (word_in texts s.symbol)
by_imports catalog texts old locals _ = Some (record { imports = []; locals = locals })

-- the table after a declaration with these members, by the catalogue and the table before it: imports or the table before it, then symbols,
-- whichever of the two fields comes first; None where an import asks for a table that isn't there
abbrev pub next_table : List Shared → (ℕ → Option (List ℕ)) → Table → Members SymbolAt ℕ → Option Table
next_table catalog texts old members =
    by_imports catalog texts old (locals_of (value_of texts word.Symbols members)) (value_of texts word.Imports members)

-- ---- the same with every fault, the first of them in order of place

-- goes on with the pending table, or has its fault
abbrev pub and_then : Held → (Pending → Held) → Held
and_then (Ok p) later = later p
and_then (Err why) later = Err why

-- the symbols of an item go before what it means
abbrev pub if_fine : Checked → Held → Held
if_fine fine later = later
if_fine (bad reason place) later = Err (reason, place)

-- the first symbol of items that is at fault
abbrev pub items_checked : Table → List PlacedItem → Checked
items_checked t [] = fine
items_checked t (i ∷ is) = or_else (checked t false i) (items_checked t is)

-- the head of the first item of a value
abbrev pub head_of : Value SymbolAt ℕ → Head SymbolAt
head_of (scalar body) = value.whole body
head_of (container kind members last) = value.begin kind

-- the first item: the place of its top-level value, field, annotations, its own place, and the value
abbrev pub first_of : ℕ → Option SymbolAt → List SymbolAt → ℕ → Value SymbolAt ℕ → PlacedItem
first_of top field annotations place x = record { field = field; annotations = annotations; head = head_of x; place = place; top = top }

-- the items after it, with the place of their top-level value; a scalar has none
abbrev pub content_of : ℕ → Value SymbolAt ℕ → List PlacedItem
content_of top (scalar body) = []
content_of top (container kind members last) = member_items top members ++ bare_item value.end last top ∷ []

-- of what is ignored the symbols are checked all the same
abbrev pub check_ignored : Table → ℕ → Value SymbolAt ℕ → Pending → Held
check_ignored t top x p = if_fine (items_checked t (content_of top x)) (Ok p)

-- an element of `symbols`
abbrev pub element_held : Ground → ℕ → ℕ → Value SymbolAt ℕ → Pending → Held
element_held g top place x p = and_then (with_slot g place (element x) p) (λ q. check_ignored g.old top x q)

-- the pending table after the elements of `symbols`, or their first fault
abbrev pub elements_held : Ground → ℕ → Members SymbolAt ℕ → Pending → Held
elements_held g top nothing p = Ok p
elements_held g top (member before field annotations place x) p =
    and_then (elements_held g top before p) (λ q. if_fine (checked g.old false (first_of top field annotations place x)) (element_held g top place x q))

-- a field of an import
abbrev pub part_held : Ground → ℕ → ℕ → Word → Value SymbolAt ℕ → Pending → Held
part_held g top place word.Name (scalar (value.string t)) p = with_import_name g place t p
part_held g top place word.Version x p =
    check_ignored g.old top x (versioned (version_of (Some x)) p)
part_held g top place word.MaxId x p = check_ignored g.old top x (cut_to (max_of (Some x)) p)
part_held g top place _ x p = check_ignored g.old top x p

-- the pending table after the fields of an import, or their first fault
abbrev pub parts_held : Ground → ℕ → Members SymbolAt ℕ → Pending → Held
parts_held g top nothing p = Ok p
parts_held g top (member before field annotations place x) p =
    and_then (parts_held g top before p) (λ q. if_fine (checked g.old false (first_of top field annotations place x))
    (and_then (part_met (place_in field) (field_word (text_at g.old) field) q) (λ r. part_held g top place (field_word (text_at g.old) field) x r)))

-- an element of `imports`
abbrev pub import_held : Ground → ℕ → ℕ → Value SymbolAt ℕ → Pending → Held
import_held g top place (container kind.Struct members last) p =
    and_then (parts_held g top members (record p { entry = new_entry place })) (λ q. import_ended g q)
import_held g top place x p = check_ignored g.old top x p

-- the pending table after the elements of `imports`, or their first fault
abbrev pub imports_held : Ground → ℕ → Members SymbolAt ℕ → Pending → Held
imports_held g top nothing p = Ok p
imports_held g top (member before field annotations place x) p =
    and_then (imports_held g top before p) (λ q. if_fine (checked g.old false (first_of top field annotations place x)) (import_held g top place x q))

-- a symbol as the value of `imports`, by its word: `$ion_symbol_table` keeps the present table, and any other is ignored
abbrev pub keeping_by : Ground → ℕ → Word → Pending → Held
keeping_by g place word.Declaration p = keeping g place p
keeping_by g place _ p = Ok p

-- a field of the declaration, by the place of its top-level value, that of its value, its word and its value
abbrev pub field_held : Ground → ℕ → ℕ → Word → Value SymbolAt ℕ → Pending → Held
field_held g top place word.Imports (container kind.List members last) p = imports_held g top members p
field_held g top place word.Imports (scalar (value.symbol s)) p = keeping_by g place (word_in (text_at g.old) s.symbol) p
field_held g top place word.Symbols (container kind.List members last) p = elements_held g top members p
field_held g top place _ x p = check_ignored g.old top x p

-- the pending table after the fields of a declaration, or their first fault
abbrev pub fields_held : Ground → ℕ → Members SymbolAt ℕ → Pending → Held
fields_held g top nothing p = Ok p
fields_held g top (member before field annotations place x) p =
    and_then (fields_held g top before p) (λ q. if_fine (checked g.old false (first_of top field annotations place x))
    (and_then (field_met (place_in field) (field_word (text_at g.old) field) q) (λ r. field_held g top place (field_word (text_at g.old) field) x r)))

-- the table that a pending table leaves, or its fault
abbrev pub table_left : Ground → Held → Result Table (Reason × ℕ)
table_left g (Ok p) = Ok (next g.old p)
table_left g (Err why) = Err why

-- the table that a declaration with these members leaves, or its first fault
abbrev pub declared : Ground → ℕ → Members SymbolAt ℕ → Result Table (Reason × ℕ)
declared g top members = table_left g (fields_held g top members nothing_yet)

-- ---- the user values of a stream

-- a symbol as it is in a table; what has no text there is unknown
abbrev pub user_at : Table → SymbolAt → UserSymbol
user_at t s = user_symbol (items.named (text_at t) s.symbol)

-- the members of a declaration: a struct whose first annotation is `$ion_symbol_table`; None of any other value
abbrev pub declares_table : Table → List SymbolAt → Value SymbolAt ℕ → Option (Members SymbolAt ℕ)
declares_table t (s ∷ ss) (container kind.Struct members last) = if is_declaration (word_in (text_at t) s.symbol) then Some members else None
declares_table t _ _ = None

-- a version marker sets the table back to the system table, a declaration leaves its next table, and each other value is a user value with its
-- symbols as they are in the table at its place; None where a declaration has no next table
abbrev pub user_tops : List Shared → Table → List (Top SymbolAt ℕ) → Option (List (Top UserSymbol ℕ))
user_tops catalog t [] = Some []
user_tops catalog t (value.version place ∷ tops) = user_tops catalog system tops
user_tops catalog t (tree first annotations place x ∷ tops) =
    elim (declares_table t annotations x) [
      | Some members ↦ elim (next_table catalog (text_at t) t members) [ None ↦ None | Some u ↦ user_tops catalog u tops ]
      | None ↦ option_map (λ us. tree first (map (user_at t) annotations) place (map_value (user_at t) (λ p. p) x) ∷ us) (user_tops catalog t tops)
    ]
