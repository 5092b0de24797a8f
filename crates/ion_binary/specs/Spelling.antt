-- What is written can be read: the octets of values as the grammar has them.
use Rattle.std.specs.Prelude.{◌≡◌, ℕ, ◌^◌, ◌<◌, ◌≤◌, List, [], ◌∷◌, ◌++◌, length, drop, map, Some, None, Ok, IsUtf8, ⊤}
use Rattle.std.specs.List.{AllByRecursion}
use Rattle.ion_meter.specs.Limits.{AreChecked}
use Rattle.ion_meter.specs.declared.limits.Limits.{Limits}
use Rattle.ion_value.specs.Value.{Symbol, Id, SymbolAt, UserSymbol, Value, Members, Top, version, tree, map_value, no_place, unplaced_top}
use Rattle.ion_value.specs.Writable.{IsWritable, value_symbols}
use Rattle.ion_symbols.specs.Declaration.{Ground}
use Rattle.ion_symbols.specs.Table.{Shared, Table, system, text_at, table_cost, count_of, most_slots}
use Rattle.ion_symbols.specs.Tree.{declared, declares_table, next_table, user_tops}
use Rattle.ion_symbols.specs.UserValues.{IsUser}
use Rattle.ion_binary.specs.Grammar.{Bin, Descriptor, Stream}
use Rattle.ion_binary.specs.Canonical.{binary, declaration, header, id_in, is_over, member_octets, texts_kept, value_octets, with_symbols}
use Rattle.ion_binary.specs.Refusals.{AreWithin}

-- ---- headers and values

-- no descriptor with the same type code and length has fewer octets than the header
abbrev pub HeadersAreShortest : Type 0
HeadersAreShortest = (t n : ℕ) (head : List ℕ) → Descriptor t n head → length (header t n) ≤ length head

-- a symbol without its place
abbrev pub bare_symbol : SymbolAt → Symbol
bare_symbol s = s.symbol

-- a symbol as the id that the first argument gives it
abbrev pub with_id : (UserSymbol → ℕ) → UserSymbol → Symbol
with_id ids s = Id (ids s)

-- from a place on the bytes spell annotations and a value, of which each symbol has its id
pub record IsSpelledAt {P : Type 0} (ids : UserSymbol → ℕ) (q : ℕ) (annotations : List UserSymbol) (x : Value UserSymbol P) (bytes : List ℕ) : Type 0 where
  pub own : List SymbolAt
  pub place : ℕ
  pub raw : Value SymbolAt ℕ
  pub spells : Bin q own place raw bytes
  pub annotations_are : map bare_symbol own ≡ map (with_id ids) annotations
  pub value_is : map_value bare_symbol no_place raw ≡ map_value (with_id ids) no_place x

-- what is written of a value is spelled from any place on, whatever ids its symbols have
abbrev pub ValuesAreSpelled : Type 0
ValuesAreSpelled =
    (ids : UserSymbol → ℕ) (q : ℕ) (annotations : List UserSymbol) (x : Value UserSymbol ℕ) → ((s : UserSymbol) → ids s < 2 ^ 31) → IsWritable x
    → length (member_octets ids None annotations (value_octets ids x)) < 2 ^ 62
    → IsSpelledAt ids q annotations x (member_octets ids None annotations (value_octets ids x))

-- ---- declarations

-- a symbol table with these texts after its own, as local symbols
abbrev pub with_texts : Table → List (List ℕ) → Table
with_texts old texts = record { imports = old.imports; locals = old.locals ++ map (λ t. Some t) texts }

-- from a place on the octets of a declaration spell one, and after a table it leaves that table with the texts
pub record IsDeclared (catalog : List Shared) (old : Table) (q : ℕ) (texts : List (List ℕ)) : Type 0 where
  pub own : List SymbolAt
  pub place : ℕ
  pub raw : Value SymbolAt ℕ
  pub members : Members SymbolAt ℕ
  pub spells : Bin q own place raw (declaration texts)
  pub is_declaration : declares_table old own raw ≡ Some members
  pub leaves : next_table catalog (text_at old) old members ≡ Some (with_texts old texts)

-- so it is of the declaration of any texts that are UTF-8, where it has one at least and is shorter than 2^62 octets
abbrev pub WrittenDeclarationsAreRead : Type 0
WrittenDeclarationsAreRead =
    (catalog : List Shared) (old : Table) (q : ℕ) (texts : List (List ℕ)) → 0 < length texts → AllByRecursion IsUtf8 texts
    → length (declaration texts) < 2 ^ 62 → IsDeclared catalog old q texts

-- a table is within the limits of a declaration
pub record HasRoom (g : Ground) (t : Table) : Type 0 where
  pub cost : table_cost t ≤ g.limit
  pub count : count_of t ≤ most_slots

-- from a place on the octets of a declaration spell one that is accepted after a table, and leaves that table with the texts
pub record IsAccepted (g : Ground) (q : ℕ) (texts : List (List ℕ)) : Type 0 where
  pub own : List SymbolAt
  pub place : ℕ
  pub raw : Value SymbolAt ℕ
  pub members : Members SymbolAt ℕ
  pub spells : Bin q own place raw (declaration texts)
  pub is_declaration : declares_table g.old own raw ≡ Some members
  pub leaves : (top : ℕ) → declared g top members ≡ Ok (with_texts g.old texts)

-- where the table with the texts is within the limits, the declaration is not refused
abbrev pub DeclarationsAreAccepted : Type 0
DeclarationsAreAccepted =
    (g : Ground) (q : ℕ) (texts : List (List ℕ)) → 0 < length texts → AllByRecursion IsUtf8 texts → length (declaration texts) < 2 ^ 62
    → HasRoom g (with_texts g.old texts) → IsAccepted g q texts

-- ---- streams

-- each declaration and each value is shorter than 2^62 octets, and at most 2^30 texts have ids at once
abbrev pub AreShort : {P : Type 0} → ℕ → List (List ℕ) → List (Top UserSymbol P) → Type 0
AreShort limit texts [] = ⊤
AreShort limit texts (version place ∷ ts) = AreShort limit texts ts
AreShort limit texts (tree first annotations place x ∷ ts) =
    let kept = texts_kept (is_over limit texts) texts in
    let all = with_symbols kept (value_symbols None annotations x) in
    (length (declaration (drop (length kept) all)) < 2 ^ 62)
    × ((length (member_octets (id_in all) None annotations (value_octets (id_in all) x)) < 2 ^ 62)
    × ((length all ≤ 2 ^ 30) × AreShort limit all ts))

-- values of which a writer refuses nothing under checked limits are so short
abbrev pub WhatIsWithinIsShort : Type 0
WhatIsWithinIsShort =
    (limits : Limits) (tops : List (Top UserSymbol ℕ)) → AreChecked limits → AreWithin limits [] tops → AreShort limits.symbols [] tops

-- the canonical form of values is a stream of which they are the user values, under every catalogue
pub record IsRead (catalog : List Shared) (limit : ℕ) (tops : List (Top UserSymbol ℕ)) : Type 0 where
  pub raw : List (Top SymbolAt ℕ)
  pub users : List (Top UserSymbol ℕ)
  pub stream : Stream (binary limit tops) raw
  pub users_are : user_tops catalog system raw ≡ Some users
  pub same : map unplaced_top users ≡ map unplaced_top tops

-- so it is of all values that a user can have, where they are so short, whatever the catalogue and the limit on symbol tables
abbrev pub TheFormIsRead : Type 0
TheFormIsRead = (catalog : List Shared) (limit : ℕ) (tops : List (Top UserSymbol ℕ)) → AllByRecursion IsUser tops → AreShort limit [] tops → IsRead catalog limit tops
