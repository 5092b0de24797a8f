-- What is true of the definitions of this crate: laws that contracts cite.
use Rattle.std.specs.Prelude.{◌≡◌, ℕ, ◌+◌, ◌<◌, ◌≤◌, ◌⊎◌, Bool, true, false, not, List, [], ◌∷◌, ◌++◌, length, map, Option, Some, None, option_map, Result, Ok, Err, ⊤}
use Rattle.std.specs.List.{AllByRecursion}
use Rattle.ion_meter.specs.declared.fault.Reason.{Reason}
use Rattle.ion_meter.specs.declared.fault.Reason.TheVariants.{BadSymbol, UnknownSymbol, BadTable, SymbolLimit}
use Rattle.ion_value.specs.declared.ion_type.Kind.TheVariants as kind
use Rattle.ion_value.specs.Value as value
use Rattle.ion_value.specs.Value.{Symbol, SymbolAt, UserSymbol, Scalar, Value, Members, container, nothing, member, Top, PlacedItem, bare_item, map_members, member_items, top_items, user_item}
use Rattle.ion_value.specs.Path.{Nest, outermost, inner, opened, path_items}
use Rattle.ion_value.specs.Reading.{Reading, Finished, Stopped, More, Leaves, items_of, items_then}
use Rattle.ion_value.specs.Standing.{is_marker}
use Rattle.ion_symbols.specs.declared.known_text.Word.{Word}
use Rattle.ion_symbols.specs.declared.known_text.Word.TheVariants as word
use Rattle.ion_symbols.specs.Table as slot
use Rattle.ion_symbols.specs.Table.{Slot, Shared, Import, Table, system, slot_of, text_at, most_slots, table_cost, count_of, slots_cost, import_count}
use Rattle.ion_symbols.specs.Declaration.{Ground, Declaring, start, turn, stop, item_view, word_in, field_word}
use Rattle.ion_symbols.specs.Users.{users, user_step, begins_declaration, State, Mode, plain, declaring, at_start}
use Rattle.ion_symbols.specs.Tree.{same_word, value_of, elements, value_import, next_table, declared, declares_table, user_at, user_tops}

-- the user items after a declaration, or its fault
abbrev pub by_declared : Result Table (Reason × ℕ) → (Table → Reading) → Reading
by_declared (Ok t) later = later t
by_declared (Err why) later = Stopped why.0 why.1

-- the streaming and the tree definitions of a declaration agree: its items give the table that its tree gives, or its tree's first fault
abbrev pub DeclarationsAreRead : Type 0
DeclarationsAreRead =
    (catalog : List Shared) (limit : ℕ) (old : Table) (top last : ℕ) (members : Members SymbolAt ℕ) (rest : Reading)
    → users catalog limit (record { table = old; mode = declaring start }) (items_then (member_items top members ++ bare_item value.end last top ∷ []) rest)
    ≡ by_declared (declared (record { catalog = catalog; limit = limit; old = old }) top members) (λ t. users catalog limit (record { table = t; mode = plain 0 }) rest)

-- the table that a declaration leaves is the one that it says
abbrev pub WhatIsDeclared : Type 0
WhatIsDeclared = (g : Ground) (top : ℕ) (members : Members SymbolAt ℕ) (t : Table) → declared g top members ≡ Ok t → next_table g.catalog (text_at g.old) g.old members ≡ Some t

-- 1 where a test holds, and else 0
abbrev pub one_if : Bool → ℕ
one_if true = 1
one_if false = 0

-- how many fields of a name members have, by the texts of ids
abbrev pub fields_named : (ℕ → Option (List ℕ)) → Word → Members SymbolAt ℕ → ℕ
fields_named texts w nothing = 0
fields_named texts w (member before field annotations place x) = fields_named texts w before + one_if (same_word (field_word texts field) w)

-- a field of a name stands more than once
abbrev pub IsTwice : (ℕ → Option (List ℕ)) → Members SymbolAt ℕ → Word → Type 0
IsTwice texts members w = 1 < fields_named texts w members

-- an element of `imports` is a struct with `name`, `version` or `max_id` twice
abbrev pub ImportIsDoubled : (ℕ → Option (List ℕ)) → Value SymbolAt ℕ → Type 0
ImportIsDoubled texts (container kind.Struct members last) = IsTwice texts members word.Name ⊎ (IsTwice texts members word.Version ⊎ IsTwice texts members word.MaxId)
ImportIsDoubled texts _ = ⊥

-- one of the elements of `imports` is such a struct
abbrev pub SomeImport : (ℕ → Option (List ℕ)) → Members SymbolAt ℕ → Type 0
SomeImport texts nothing = ⊥
SomeImport texts (member before field annotations place x) = SomeImport texts before ⊎ ImportIsDoubled texts x

-- the value of `imports` is a list that has such a struct
abbrev pub ListIsDoubled : (ℕ → Option (List ℕ)) → Option (Value SymbolAt ℕ) → Type 0
ListIsDoubled texts (Some (container kind.List members last)) = SomeImport texts members
ListIsDoubled texts _ = ⊥

-- a declaration has `imports` or `symbols` twice, or such a struct in its first `imports`
abbrev pub IsDoubled : (ℕ → Option (List ℕ)) → Members SymbolAt ℕ → Type 0
IsDoubled texts members =
    IsTwice texts members word.Imports ⊎ (IsTwice texts members word.Symbols ⊎ ListIsDoubled texts (value_of texts word.Imports members))

-- an id above its table
abbrev pub IsAbove : Slot → Type 0
IsAbove slot.above = ⊤
IsAbove _ = ⊥

-- a symbol is an id above a table
abbrev pub SymbolAbove : Table → Symbol → Type 0
SymbolAbove t (value.Text bytes) = ⊥
SymbolAbove t (value.Id id) = IsAbove (slot_of t id)

-- the name of a field is such an id
abbrev pub FieldAbove : Table → Option SymbolAt → Type 0
FieldAbove t None = ⊥
FieldAbove t (Some s) = SymbolAbove t s.symbol

-- one of these annotations is such an id
abbrev pub AnyAbove : Table → List SymbolAt → Type 0
AnyAbove t [] = ⊥
AnyAbove t (s ∷ ss) = SymbolAbove t s.symbol ⊎ AnyAbove t ss

-- a scalar is a symbol that is such an id
abbrev pub ScalarAbove : Table → Scalar SymbolAt → Type 0
ScalarAbove t (value.symbol s) = SymbolAbove t s.symbol
ScalarAbove t _ = ⊥

-- and one among the field names, annotations and symbols of a container's members
abbrev mutual
  pub ValueAbove : Table → Value SymbolAt ℕ → Type 0
  ValueAbove t (value.scalar body) = ScalarAbove t body
  ValueAbove t (container kind members last) = SomeAbove t members

  -- members have such an id, in a field, an annotation or a value
  pub SomeAbove : Table → Members SymbolAt ℕ → Type 0
  SomeAbove t nothing = ⊥
  SomeAbove t (member before field annotations place x) = SomeAbove t before ⊎ (FieldAbove t field ⊎ (AnyAbove t annotations ⊎ ValueAbove t x))

-- the length of a field's value where the field is `name` and the value a string, and else 0
abbrev pub name_cost : Word → Value SymbolAt ℕ → ℕ
name_cost word.Name (value.scalar (value.string t)) = length t
name_cost _ _ = 0

-- the same of all fields of an import
abbrev pub names_cost : (ℕ → Option (List ℕ)) → Members SymbolAt ℕ → ℕ
names_cost texts nothing = 0
names_cost texts (member before field annotations place x) = names_cost texts before + name_cost (field_word texts field) x

-- the most that an element of `imports` may be counted for: 32 and all its names where it is a struct, and else 0
abbrev pub import_cost : (ℕ → Option (List ℕ)) → Value SymbolAt ℕ → ℕ
import_cost texts (container kind.Struct members last) = 32 + names_cost texts members
import_cost texts _ = 0

-- the most that the elements of `imports` may be counted for in all
abbrev pub imports_cost : (ℕ → Option (List ℕ)) → Members SymbolAt ℕ → ℕ
imports_cost texts nothing = 0
imports_cost texts (member before field annotations place x) = imports_cost texts before + import_cost texts x

-- a number where a symbol is `$ion_symbol_table`, and else 0
abbrev pub if_kept : Word → ℕ → ℕ
if_kept word.Declaration n = n
if_kept _ n = 0

-- the most that a field of a declaration may be counted for, by its word and value
abbrev pub field_cost : Ground → Word → Value SymbolAt ℕ → ℕ
field_cost g word.Imports (container kind.List members last) = imports_cost (text_at g.old) members
field_cost g word.Imports (value.scalar (value.symbol s)) = if_kept (word_in (text_at g.old) s.symbol) (table_cost g.old)
field_cost g word.Symbols (container kind.List members last) = slots_cost (elements members)
field_cost g _ x = 0

-- the most that a declaration's members may be counted for: slots, 32 a struct in `imports`, its names, and the kept table
abbrev pub fields_cost : Ground → Members SymbolAt ℕ → ℕ
fields_cost g nothing = 0
fields_cost g (member before field annotations place x) = fields_cost g before + field_cost g (field_word (text_at g.old) field) x

-- how many slots imports have in all, 0 where they are missing
abbrev pub slots_in : Option (List Import) → ℕ
slots_in None = 0
slots_in (Some imports) = import_count imports

-- how many slots the elements of `imports` stand for
abbrev pub imports_slots : Ground → Members SymbolAt ℕ → ℕ
imports_slots g nothing = 0
imports_slots g (member before field annotations place x) = imports_slots g before + slots_in (value_import g.catalog (text_at g.old) x)

-- how many slots a field of a declaration stands for, by its word and value, with those of the table that is kept
abbrev pub field_slots : Ground → Word → Value SymbolAt ℕ → ℕ
field_slots g word.Imports (container kind.List members last) = imports_slots g members
field_slots g word.Imports (value.scalar (value.symbol s)) = if_kept (word_in (text_at g.old) s.symbol) (count_of g.old)
field_slots g word.Symbols (container kind.List members last) = length (elements members)
field_slots g _ x = 0

-- how many slots the members of a declaration stand for in all
abbrev pub fields_slots : Ground → Members SymbolAt ℕ → ℕ
fields_slots g nothing = 0
fields_slots g (member before field annotations place x) = fields_slots g before + field_slots g (field_word (text_at g.old) field) x

-- the members of a declaration may be counted for more than the limit, or stand for more slots than there are ids
abbrev pub IsCostly : Ground → Members SymbolAt ℕ → Type 0
IsCostly g members = (g.limit < fields_cost g members) ⊎ (most_slots < fields_slots g members)

-- a declaration is refused for a symbol id above the table before it, for a limit, for a field that has a meaning and stands twice, or for a table that isn't there
abbrev pub WhyRefused : Type 0
WhyRefused =
    (g : Ground) (top : ℕ) (members : Members SymbolAt ℕ) (reason : Reason) (place : ℕ) → declared g top members ≡ Err (reason, place)
    → ((reason ≡ BadSymbol) × SomeAbove g.old members)
    ⊎ (((reason ≡ SymbolLimit) × IsCostly g members) ⊎ ((reason ≡ BadTable) × (IsDoubled (text_at g.old) members ⊎ (next_table g.catalog (text_at g.old) g.old members ≡ None))))

-- what is true of a declaration that leaves a table: the limits are kept, no id is above the table before it, and no field that has a meaning stands twice
pub record IsKept (g : Ground) (members : Members SymbolAt ℕ) (t : Table) : Type 0 where
  pub cost : table_cost t ≤ g.limit
  pub count : count_of t ≤ most_slots
  pub below : SomeAbove g.old members → ⊥
  pub single : IsDoubled (text_at g.old) members → ⊥

-- this is true of each declaration that leaves a table
abbrev pub WhatIsAccepted : Type 0
WhatIsAccepted = (g : Ground) (top : ℕ) (members : Members SymbolAt ℕ) (t : Table) → declared g top members ≡ Ok t → IsKept g members t

-- where a whole stream of version markers and values is accepted, the items are those of its user values
abbrev pub UsersAreRead : Type 0
UsersAreRead =
    (catalog : List Shared) (limit : ℕ) (tops : List (Top SymbolAt ℕ)) (items : List PlacedItem)
    → users catalog limit at_start (items_then (top_items tops) Finished) ≡ items_then items Finished
    → (us : List (Top UserSymbol ℕ)) × (user_tops catalog system tops ≡ Some us) × (map user_item items ≡ top_items us)

-- the table after version markers and values; None where a declaration has no next table
abbrev pub table_after : List Shared → Table → List (Top SymbolAt ℕ) → Option Table
table_after catalog t [] = Some t
table_after catalog t (value.version place ∷ tops) = table_after catalog system tops
table_after catalog t (value.tree first annotations place x ∷ tops) =
    elim (declares_table t annotations x) [
      | Some members ↦ elim (next_table catalog (text_at t) t members) [ None ↦ None | Some u ↦ table_after catalog u tops ]
      | None ↦ table_after catalog t tops
    ]

-- open containers with other symbols
abbrev pub map_nest : {S T : Type 0} → (S → T) → Nest S ℕ → Nest T ℕ
map_nest f (outermost annotations place kind members) = outermost (map f annotations) place kind (map_members f (λ p. p) members)
map_nest f (inner around field annotations place kind members) =
    inner (map_nest f around) (option_map f field) (map f annotations) place kind (map_members f (λ p. p) members)

-- the members so far of a declaration that is open
abbrev pub open_declaration : Table → Nest SymbolAt ℕ → Option (Members SymbolAt ℕ)
open_declaration t (outermost annotations place kind members) = declares_table t annotations (container kind members place)
open_declaration t (inner around field annotations place kind members) = open_declaration t around

-- where whatever is read up to a place is accepted, and containers are open there, the items are those of the user values before these containers
-- and of what is read of them, or of those values alone where these are a declaration's
abbrev pub OpenUsersAreRead : Type 0
OpenUsersAreRead =
    (catalog : List Shared) (limit : ℕ) (tops : List (Top SymbolAt ℕ)) (first : ℕ) (nest : Nest SymbolAt ℕ) (items : List PlacedItem)
    → users catalog limit at_start (items_then (path_items (opened tops first nest)) Finished) ≡ items_then items Finished
    → (us : List (Top UserSymbol ℕ)) × (t : Table) × (user_tops catalog system tops ≡ Some us) × (table_after catalog system tops ≡ Some t)
    × (open_declaration t nest ≡ None → map user_item items ≡ path_items (opened us first (map_nest (user_at t) nest)))
    × ((members : Members SymbolAt ℕ) → open_declaration t nest ≡ Some members → map user_item items ≡ top_items us)

-- ---- the symbols of user values

-- an id stands for a text or for a symbol of unknown text: its table goes as far, and has no gap there
abbrev pub IsSlot : Slot → Type 0
IsSlot slot.above = ⊥
IsSlot slot.gap = ⊥
IsSlot slot.unknown = ⊤
IsSlot (slot.known t) = ⊤

-- a symbol is a text, or an id that stands for one of these in a table
abbrev pub SymbolStands : Table → Symbol → Type 0
SymbolStands t (value.Text bytes) = ⊤
SymbolStands t (value.Id id) = IsSlot (slot_of t id)

-- the same of a symbol with its place
abbrev pub Stands : Table → SymbolAt → Type 0
Stands t s = SymbolStands t s.symbol

-- the same of a field, where there is one
abbrev pub FieldStands : Table → Option SymbolAt → Type 0
FieldStands t None = ⊤
FieldStands t (Some s) = Stands t s

-- the same of the symbol that a scalar is, where it is one
abbrev pub ScalarStands : Table → Scalar SymbolAt → Type 0
ScalarStands t (value.symbol s) = Stands t s
ScalarStands t _ = ⊤

-- so does each symbol of a value: its annotations, field names and symbols
abbrev mutual
  pub ValueStands : Table → Value SymbolAt ℕ → Type 0
  ValueStands t (value.scalar body) = ScalarStands t body
  ValueStands t (container kind members last) = MembersStand t members

  -- so does each symbol of the members of a container
  pub MembersStand : Table → Members SymbolAt ℕ → Type 0
  MembersStand t nothing = ⊤
  MembersStand t (member before field annotations place x) =
      MembersStand t before × FieldStands t field × AllByRecursion (Stands t) annotations × ValueStands t x

-- and each symbol of the user values of a stream, in the table at the value's place
abbrev pub UsersStand : List Shared → Table → List (Top SymbolAt ℕ) → Type 0
UsersStand catalog t [] = ⊤
UsersStand catalog t (value.version place ∷ tops) = UsersStand catalog system tops
UsersStand catalog t (value.tree first annotations place x ∷ tops) =
    elim (declares_table t annotations x) [
      | Some members ↦ elim (next_table catalog (text_at t) t members) [ None ↦ ⊥ | Some u ↦ UsersStand catalog u tops ]
      | None ↦ AllByRecursion (Stands t) annotations × ValueStands t x × UsersStand catalog t tops
    ]

-- where a whole stream is accepted, no symbol of a user value is above its table or in a gap of it
abbrev pub SymbolsStand : Type 0
SymbolsStand =
    (catalog : List Shared) (limit : ℕ) (tops : List (Top SymbolAt ℕ)) (items : List PlacedItem)
    → users catalog limit at_start (items_then (top_items tops) Finished) ≡ items_then items Finished
    → UsersStand catalog system tops

-- ---- why a user item is refused

-- a symbol, with its place, is one of a list
abbrev pub Among : SymbolAt → List SymbolAt → Type 0
Among s [] = ⊥
Among s (r ∷ rs) = (r ≡ s) ⊎ Among s rs

-- a symbol, with its place, is the field of an item, one of its annotations, or the symbol that it is
abbrev pub IsSymbolOf : SymbolAt → PlacedItem → Type 0
IsSymbolOf s i = (i.field ≡ Some s) ⊎ (Among s i.annotations ⊎ (i.head ≡ value.whole (value.symbol s)))

-- an id in a gap of its table
abbrev pub IsGap : Slot → Type 0
IsGap slot.gap = ⊤
IsGap _ = ⊥

-- a symbol is an id in a gap of a table
abbrev pub SymbolInGap : Table → Symbol → Type 0
SymbolInGap t (value.Text bytes) = ⊥
SymbolInGap t (value.Id id) = IsGap (slot_of t id)

-- at a place an item has a symbol whose id is above the table, or, where a gap is a fault, in a gap of it
pub data SymbolAtFault (t : Table) (user : Bool) (i : PlacedItem) (place : ℕ) : Reason → Type 0 where
  above : (s : SymbolAt) → IsSymbolOf s i → s.place ≡ place → SymbolAbove t s.symbol → SymbolAtFault t user i place BadSymbol
  in_gap : (s : SymbolAt) → IsSymbolOf s i → s.place ≡ place → SymbolInGap t s.symbol → user ≡ true → SymbolAtFault t user i place UnknownSymbol

-- an item is refused where it stands: outside of declarations for a symbol alone, a gap being a fault in user values; in one for a symbol, or for
-- what it means there
pub data IsRefused (catalog : List Shared) (limit : ℕ) (t : Table) (i : PlacedItem) (reason : Reason) (place : ℕ) : Mode → Type 0 where
  outside : (n : ℕ) → is_marker i.head ≡ false → SymbolAtFault t (not (begins_declaration t n i)) i place reason
      → IsRefused catalog limit t i reason place (plain n)
  symbol : (d : Declaring) → SymbolAtFault t false i place reason → IsRefused catalog limit t i reason place (declaring d)
  meaning : (d : Declaring) → turn (record { catalog = catalog; limit = limit; old = t }) d (item_view (text_at t) i) ≡ stop reason place
      → IsRefused catalog limit t i reason place (declaring d)

-- raw items are taken in one after the other, none of them refused
pub data AreTaken (catalog : List Shared) (limit : ℕ) : State → List PlacedItem → State → Type 0 where
  none : (s : State) → AreTaken catalog limit s [] s
  one : (s after end : State) (i : PlacedItem) (is : List PlacedItem) → Leaves (user_step catalog limit s i) after
      → AreTaken catalog limit after is end → AreTaken catalog limit s (i ∷ is) end

-- a raw item is refused, after others that are taken in
pub record AtItem (catalog : List Shared) (limit : ℕ) (s : State) (raw : Reading) (reason : Reason) (place : ℕ) : Type 0 where
  pub before : List PlacedItem
  pub item : PlacedItem
  pub rest : Reading
  pub state : State
  pub raw_is : raw ≡ items_then before (More item rest)
  pub taken : AreTaken catalog limit s before state
  pub refused : IsRefused catalog limit state.table item reason place state.mode

-- where reading users stops, the raw reading stops so, or one of its items is refused for this reason at this place
abbrev pub WhyUsersStop : Type 0
WhyUsersStop =
    (catalog : List Shared) (limit : ℕ) (raw : Reading) (items : List PlacedItem) (reason : Reason) (place : ℕ)
    → users catalog limit at_start raw ≡ items_then items (Stopped reason place)
    → (raw ≡ items_then (items_of raw) (Stopped reason place)) ⊎ AtItem catalog limit at_start raw reason place
