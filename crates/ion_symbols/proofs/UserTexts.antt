-- Whatever is true of the texts of a catalogue, and of the strings and symbols of a stream, is true of the texts of its user's symbols.
use Rattle.std.proofs.Common.{ℕ, Bool, true, false, if◌then◌else◌, List, [], ◌∷◌, map, Option, None, Some, IfSome, option_map, sym, subst}
use Rattle.std.specs.List.{AllByRecursion}
use Rattle.ion_value.specs.declared.ion_type.Kind.TheVariants as kind
use Rattle.ion_value.specs.Items.{named, text_or_id}
use Rattle.ion_value.specs.Value.{Symbol, Text, Id, SymbolAt, UserSymbol, user_symbol, Value, Members, container, Top, version, tree}
use Rattle.ion_value.specs.Writable.{value_symbols}
use Rattle.ion_symbols.specs.Declaration.{word_in}
use Rattle.ion_symbols.specs.Table as slot
use Rattle.ion_symbols.specs.Table.{Slot, Shared, Table, system, system_slots, slot_of, text_of_slot, text_at}
use Rattle.ion_symbols.specs.TextsOfUsers.{CatalogHas, SymbolHas, MembersHave, ValueHas, TopHas, UserHas, UserTopHas, IsShort, TextsOfUsersAreShort}
use Rattle.ion_symbols.specs.Tree.{user_at, declares_table, next_table, user_tops}
use Rattle.ion_symbols.specs.Users.{is_declaration}
use Rattle.ion_symbols.proofs.Answering.{some-not-none}
use Rattle.ion_symbols.proofs.OtherSymbols.{value_symbols-map}
use Rattle.ion_symbols.proofs.TableTexts.{KnownHas, SlotsHave, TableHas, next_table-has, slot_of-has, system-has}
use Rattle.ion_symbols.proofs.UserReadings.{user_tree}

module _ (P : List ℕ → Type 0) (standard : SlotsHave P system_slots) where
  -- ---- symbols

  user_at-has : (t : Table) (s : SymbolAt) → TableHas P t → SymbolHas P s.symbol → UserHas P (user_at t s)
  user_at-has t s h k = by s.symbol k
    where
      by_slot : (id : ℕ) (x : Slot) → KnownHas P x → UserHas P (user_symbol (text_or_id id (text_of_slot x)))
      by_slot id (slot.known text) u = u
      by_slot id x u = tt

      by : (x : Symbol) → SymbolHas P x → UserHas P (user_symbol (named (text_at t) x))
      by (Text bytes) u = u
      by (Id id) u = by_slot id (slot_of t id) (slot_of-has P standard t id h)

  users-have : (t : Table) (ss : List SymbolAt) → TableHas P t → AllByRecursion (λ (s : SymbolAt). SymbolHas P s.symbol) ss
      → AllByRecursion (UserHas P) (map (user_at t) ss)
  users-have t [] h k = tt
  users-have t (s ∷ ss) h k = (user_at-has t s h k.0, users-have t ss h k.1)

  -- ---- values at top level

  -- the members of a declaration
  declares_table-has : (t : Table) (annotations : List SymbolAt) (x : Value SymbolAt ℕ) → ValueHas P x
      → IfSome (declares_table t annotations x) (MembersHave P)
  declares_table-has t (s ∷ ss) (container kind.Struct members last) h = by (is_declaration (word_in (text_at t) s.symbol))
    where
      by : (b : Bool) → IfSome (if b then Some members else None) (MembersHave P)
      by true = h
      by false = tt
  declares_table-has t annotations x h = tt

  user_tree-has : (t : Table) (first : ℕ) (annotations : List SymbolAt) (place : ℕ) (x : Value SymbolAt ℕ) → TableHas P t
      → TopHas P (tree first annotations place x) → UserTopHas P (user_tree t first annotations place x)
  user_tree-has t first annotations place x texts h =
      subst (λ ss. AllByRecursion (UserHas P) ss) (sym (value_symbols-map (user_at t) (λ (p : ℕ). p) None annotations x))
      (users-have t (value_symbols None annotations x) texts h.1)

  -- all of them
  abbrev TopsHave : List (Top UserSymbol ℕ) → Type 0
  TopsHave us = AllByRecursion (UserTopHas P) us

  -- from each table on of whose texts it is true
  abbrev FromEach : List Shared → List (Top SymbolAt ℕ) → Type 0
  FromEach catalog tops = (t : Table) → TableHas P t → IfSome (user_tops catalog t tops) TopsHave

  -- a value, and what is after it, by what it declares
  tree-after : (catalog : List Shared) (t : Table) (first : ℕ) (annotations : List SymbolAt) (place : ℕ) (x : Value SymbolAt ℕ)
      (tops : List (Top SymbolAt ℕ)) (declares : Option (Members SymbolAt ℕ))
      → CatalogHas P catalog → TableHas P t → TopHas P (tree first annotations place x) → IfSome declares (MembersHave P)
      → FromEach catalog tops
      → IfSome (elim declares [
        | Some members ↦ elim (next_table catalog (text_at t) t members) [ None ↦ None | Some u ↦ user_tops catalog u tops ]
        | None ↦ option_map (λ us. user_tree t first annotations place x ∷ us) (user_tops catalog t tops)
      ]) TopsHave
  tree-after catalog t first annotations place x tops (Some members) c texts h strings later =
      by (next_table catalog (text_at t) t members) (next_table-has P catalog (text_at t) t members c texts strings)
    where
      by : (next : Option Table) → IfSome next (TableHas P)
          → IfSome (elim next [ None ↦ None | Some u ↦ user_tops catalog u tops ]) TopsHave
      by None h = tt
      by (Some u) h = later u h
  tree-after catalog t first annotations place x tops None c texts h strings later = by (user_tops catalog t tops) (later t texts)
    where
      by : (others : Option (List (Top UserSymbol ℕ))) → IfSome others TopsHave
          → IfSome (option_map (λ us. user_tree t first annotations place x ∷ us) others) TopsHave
      by None k = tt
      by (Some us) k = (user_tree-has t first annotations place x texts h, k)

  pub tops-have : (catalog : List Shared) (tops : List (Top SymbolAt ℕ)) → CatalogHas P catalog → AllByRecursion (TopHas P) tops
      → FromEach catalog tops
  tops-have catalog [] c h t texts = tt
  tops-have catalog (version place ∷ tops) c h t texts = tops-have catalog tops c h.1 system (system-has P)
  tops-have catalog (tree first annotations place x ∷ tops) c h t texts =
      tree-after catalog t first annotations place x tops (declares_table t annotations x) c texts h.0
      (declares_table-has t annotations x h.0.0) (tops-have catalog tops c h.1)

-- ---- how long they are

system-short : (most : ℕ) → SlotsHave (IsShort most) system_slots
system-short most =
    (tt, (λ e. absurd (some-not-none 1 e), (λ e. absurd (some-not-none 2 e), (λ e. absurd (some-not-none 3 e), (λ e. absurd (some-not-none 4 e), (λ e. absurd (some-not-none 5 e), (λ e. absurd (some-not-none 6 e), (λ e. absurd (some-not-none 7 e), (λ e. absurd (some-not-none 8 e), (λ e. absurd (some-not-none 9 e), tt))))))))))

pub texts_of_users_are_short : TextsOfUsersAreShort
texts_of_users_are_short most catalog tops us c h e =
    subst (λ o. IfSome o (λ us. AllByRecursion (UserTopHas (IsShort most)) us)) e
    (tops-have (IsShort most) (system-short most) catalog tops c h system (system-has (IsShort most)))
