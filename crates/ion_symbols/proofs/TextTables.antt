-- A declaration leaves a table of texts in UTF-8 where its strings are such texts, and those of the catalogue and of the table before it.
use Rattle.std.proofs.Common.{◌≡◌, ℕ, Bool, true, List, [], ◌∷◌, Option, None, Some, IfSome, IsUtf8, refl}
use Rattle.std.specs.List.{list_all}
use Rattle.std.specs.Str.{is_utf8, chars}
use lib.Utf8.{encode}
use Rattle.std.proofs.lemmas.Bool.{and_parts}
use Rattle.std.proofs.lemmas.Str.{IsUtf8-from_is_utf8}
use Rattle.ion_value.specs.declared.ion_type.Kind.{Kind}
use Rattle.ion_value.specs.declared.ion_type.Kind.TheVariants as kind
use Rattle.ion_value.specs.Value as value
use Rattle.ion_value.specs.Value.{SymbolAt, Scalar, Value, Members, scalar, container, nothing, member}
use Rattle.ion_value.specs.Writable.{HasText, IsWritable, AreWritable}
use Rattle.ion_symbols.specs.Table.{Slots, Slot, Shared, Table, system, system_slots, slot_of}
use Rattle.ion_symbols.specs.TextsOfUsers.{ScalarHas, ValueHas, MembersHave}
use Rattle.ion_symbols.specs.Tree.{next_table}
use Rattle.ion_symbols.specs.UserValues.{SlotsAreText, CatalogIsText}
use Rattle.ion_symbols.proofs.TableTexts.{FoundHas, KnownHas, TableHas, next_table-has, slot_of-has, system-has}

-- the texts of a table are UTF-8
abbrev pub TableIsText : Table → Type 0
TableIsText t = TableHas IsUtf8 t

-- that of a slot
abbrev pub KnownIsText : Slot → Type 0
KnownIsText s = KnownHas IsUtf8 s

-- those of a table that was found, if any
abbrev pub FoundIsText : Option Shared → Type 0
FoundIsText found = FoundHas IsUtf8 found

-- ---- the slots of a table

pub system-texts : TableIsText system
system-texts = system-has IsUtf8

-- by a test that computes
is_text : Option (List ℕ) → Bool
is_text None = true
is_text (Some t) = is_utf8 t

slots-text : (slots : Slots) → list_all is_text slots ≡ true → SlotsAreText slots
unfolding is_text
slots-text [] e = tt
slots-text (None ∷ slots) e = (tt, slots-text slots e)
slots-text (Some t ∷ slots) e =
    let both = and_parts (is_utf8 t) (list_all is_text slots) e in (IsUtf8-from_is_utf8 t both.0, slots-text slots both.1)

system_slots-text : SlotsAreText system_slots
unfolding is_text is_utf8 chars encode
system_slots-text = slots-text system_slots refl

pub slot_of-text : (t : Table) (id : ℕ) → TableIsText t → KnownIsText (slot_of t id)
slot_of-text t id h = slot_of-has IsUtf8 system_slots-text t id h

-- ---- what a declaration leaves

scalar-text : (body : Scalar SymbolAt) → HasText body → ScalarHas IsUtf8 body
scalar-text (value.string t) h = h
scalar-text (value.null type) h = tt
scalar-text (value.bool truth) h = tt
scalar-text (value.int number) h = tt
scalar-text (value.float number) h = tt
scalar-text (value.decimal number) h = tt
scalar-text (value.timestamp moment) h = tt
scalar-text (value.symbol name) h = tt
scalar-text (value.clob bytes) h = tt
scalar-text (value.blob bytes) h = tt

-- the strings of what is writable
mutual
  value-text : (x : Value SymbolAt ℕ) → IsWritable x → ValueHas IsUtf8 x
  value-text (scalar body) h = scalar-text body h.1
  value-text (container kind members last) h = members-text kind members h

  members-text : (kind : Kind) (members : Members SymbolAt ℕ) → AreWritable kind members → MembersHave IsUtf8 members
  members-text kind nothing h = tt
  members-text kind (member before field annotations place x) h = (members-text kind before h.0, value-text x h.1.1)

pub next_table-text : (catalog : List Shared) (texts : ℕ → Option (List ℕ)) (old : Table) (members : Members SymbolAt ℕ)
    → CatalogIsText catalog → TableIsText old → AreWritable kind.Struct members
    → IfSome (next_table catalog texts old members) TableIsText
next_table-text catalog texts old members c h k = next_table-has IsUtf8 catalog texts old members c h (members-text kind.Struct members k)
