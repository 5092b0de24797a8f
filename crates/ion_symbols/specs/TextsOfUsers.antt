-- How long the texts are of the symbols that a user of a stream has: no longer than those that the stream has, and those of the catalogue.
use Rattle.std.specs.Prelude.{◌≡◌, ℕ, ◌≤◌, List, length, Option, Some, None, IfSome, ⊤}
use Rattle.std.specs.List.{AllByRecursion}
use Rattle.ion_value.specs.Value as value
use Rattle.ion_value.specs.Value.{Symbol, SymbolAt, UserSymbol, Known, Unknown, Scalar, Value, Members, scalar, container, nothing, member, Top, version, tree}
use Rattle.ion_value.specs.Writable.{value_symbols}
use Rattle.ion_symbols.specs.Output.{system_id}
use Rattle.ion_symbols.specs.Table.{Shared, system}
use Rattle.ion_symbols.specs.Tree.{user_tops}

-- ---- texts of which something is true

-- the text of a slot, where it has one
abbrev pub SlotHas : (List ℕ → Type 0) → Option (List ℕ) → Type 0
SlotHas P slot = IfSome slot P

-- the texts of all tables of a catalogue
abbrev pub CatalogHas : (List ℕ → Type 0) → List Shared → Type 0
CatalogHas P catalog = AllByRecursion (λ (s : Shared). AllByRecursion (SlotHas P) s.slots) catalog

-- the text of a symbol of a stream, where it is no id
abbrev pub SymbolHas : (List ℕ → Type 0) → Symbol → Type 0
SymbolHas P (value.Text bytes) = P bytes
SymbolHas P (value.Id id) = ⊤

-- a scalar, where it is a string
abbrev pub ScalarHas : (List ℕ → Type 0) → Scalar SymbolAt → Type 0
ScalarHas P (value.string bytes) = P bytes
ScalarHas P (value.null type) = ⊤
ScalarHas P (value.bool truth) = ⊤
ScalarHas P (value.int number) = ⊤
ScalarHas P (value.float number) = ⊤
ScalarHas P (value.decimal number) = ⊤
ScalarHas P (value.timestamp moment) = ⊤
ScalarHas P (value.symbol name) = ⊤
ScalarHas P (value.clob bytes) = ⊤
ScalarHas P (value.blob bytes) = ⊤

abbrev mutual
  -- all strings of a value
  pub ValueHas : (List ℕ → Type 0) → Value SymbolAt ℕ → Type 0
  ValueHas P (scalar body) = ScalarHas P body
  ValueHas P (container kind members last) = MembersHave P members

  -- and of members
  pub MembersHave : (List ℕ → Type 0) → Members SymbolAt ℕ → Type 0
  MembersHave P nothing = ⊤
  MembersHave P (member before field annotations place x) = MembersHave P before × ValueHas P x

-- the strings and the symbols of a value at top level
abbrev pub TopHas : (List ℕ → Type 0) → Top SymbolAt ℕ → Type 0
TopHas P (version place) = ⊤
TopHas P (tree first annotations place x) =
    ValueHas P x × AllByRecursion (λ (s : SymbolAt). SymbolHas P s.symbol) (value_symbols None annotations x)

-- the text of a symbol of a user, where it is known
abbrev pub UserHas : (List ℕ → Type 0) → UserSymbol → Type 0
UserHas P (Known bytes) = P bytes
UserHas P Unknown = ⊤

-- the symbols of a user's value at top level
abbrev pub UserTopHas : (List ℕ → Type 0) → Top UserSymbol ℕ → Type 0
UserTopHas P (version place) = ⊤
UserTopHas P (tree first annotations place x) = AllByRecursion (UserHas P) (value_symbols None annotations x)

-- ---- laws

-- a text that is none of the system symbol table is no longer than so many bytes
abbrev pub IsShort : ℕ → List ℕ → Type 0
IsShort most bytes = system_id bytes ≡ None → length bytes ≤ most

-- the texts of a user's symbols are so short where the catalogue's are, and the strings and symbols of the stream
abbrev pub TextsOfUsersAreShort : Type 0
TextsOfUsersAreShort =
    (most : ℕ) (catalog : List Shared) (tops : List (Top SymbolAt ℕ)) (us : List (Top UserSymbol ℕ))
    → CatalogHas (IsShort most) catalog → AllByRecursion (TopHas (IsShort most)) tops → user_tops catalog system tops ≡ Some us
    → AllByRecursion (UserTopHas (IsShort most)) us
