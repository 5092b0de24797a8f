-- What is true of the values that a user of a stream has, whatever encoding it is in.
use Rattle.std.specs.Prelude.{◌≡◌, ℕ, Bool, false, List, ◌∷◌, Option, Some, None, IfSome, IsUtf8}
use Rattle.std.specs.List.{AllByRecursion}
use Rattle.ion_value.specs.declared.ion_type.Kind.TheVariants as kind
use Rattle.ion_value.specs.Value.{SymbolAt, UserSymbol, Known, Value, container, Top, version, tree}
use Rattle.ion_value.specs.Writable.{IsRaw, IsText, IsWritable, TopHasBytes, value_symbols}
use Rattle.ion_symbols.specs.Table.{Slots, Shared, system, word_of}
use Rattle.ion_symbols.specs.Tree.{user_tops}
use Rattle.ion_symbols.specs.Users.{is_declaration}

-- a struct whose first annotation is `$ion_symbol_table` is read as a declaration
abbrev pub is_declaring : {P : Type 0} → List UserSymbol → Value UserSymbol P → Bool
is_declaring (Known t ∷ ss) (container kind.Struct members last) = is_declaration (word_of t)
is_declaring _ _ = false

-- a value at top level that a user of a stream can have
abbrev pub IsUser : {P : Type 0} → Top UserSymbol P → Type 0
IsUser (version place) = ⊥
IsUser (tree first annotations place x) = IsWritable x × (AllByRecursion IsText (value_symbols None annotations x) × (is_declaring annotations x ≡ false))

-- values at top level that a user of a stream of bytes can have
abbrev pub AreUsers : {P : Type 0} → List (Top UserSymbol P) → Type 0
AreUsers us = AllByRecursion IsUser us × AllByRecursion TopHasBytes us

-- ---- the texts of a catalogue

-- the text of a slot, where it has one, is UTF-8
abbrev pub SlotIsText : Option (List ℕ) → Type 0
SlotIsText slot = IfSome slot IsUtf8

-- so are the texts of slots
abbrev pub SlotsAreText : Slots → Type 0
SlotsAreText slots = AllByRecursion SlotIsText slots

-- so are the texts of all tables of a catalogue
abbrev pub CatalogIsText : List Shared → Type 0
CatalogIsText catalog = AllByRecursion (λ (s : Shared). AllByRecursion SlotIsText s.slots) catalog

-- ---- laws

-- the user values of what a reader gives are such values, where the texts of the catalogue are UTF-8
abbrev pub UsersOfRawValues : Type 0
UsersOfRawValues =
    (catalog : List Shared) (tops : List (Top SymbolAt ℕ)) (us : List (Top UserSymbol ℕ))
    → CatalogIsText catalog → AllByRecursion IsRaw tops → user_tops catalog system tops ≡ Some us → AreUsers us
