-- The user values of what a reader gives are such that a user can have, where the texts of the catalogue are UTF-8.
use Rattle.std.proofs.Common.{◌≡◌, ℕ, Bool, true, false, if◌then◌else◌, List, [], ◌∷◌, map, Option, None, Some, IfSome, option_map, refl, sym, ◌∙◌, subst}
use Rattle.std.specs.List.{AllByRecursion}
use Rattle.ion_value.specs.declared.ion_type.Kind.TheVariants as kind
use Rattle.ion_value.specs.Items.{named, text_or_id}
use Rattle.ion_value.specs.Value.{Symbol, Text, Id, SymbolAt, UserSymbol, Known, Unknown, user_symbol, Value, Members, container, Top, version, tree, map_value, map_members}
use Rattle.ion_value.specs.Writable.{value_symbols, IsWritable, AreWritable, IsText, SymbolIsText, TopHasBytes, IsRaw}
use Rattle.ion_symbols.specs.Table as slot
use Rattle.ion_symbols.specs.Table.{Slot, Shared, Table, system, slot_of, text_of_slot, text_at}
use Rattle.ion_symbols.specs.Declaration.{word_by_id, word_in}
use Rattle.ion_symbols.specs.Users.{is_declaration}
use Rattle.ion_symbols.specs.Tree.{user_at, declares_table, next_table, user_tops}
use Rattle.ion_symbols.specs.UserValues.{is_declaring, IsUser, AreUsers, CatalogIsText, UsersOfRawValues}
use Rattle.ion_symbols.proofs.UserReadings.{user_tree}
use Rattle.ion_symbols.proofs.OtherSymbols.{IsWritable-map, ValueHasBytes-map, value_symbols-map}
use Rattle.ion_symbols.proofs.TextTables.{TableIsText, KnownIsText, system-texts, slot_of-text, next_table-text}

-- ---- symbols

user_at-text : (t : Table) (s : SymbolAt) → TableIsText t → SymbolIsText s.symbol → IsText (user_at t s)
user_at-text t s h k = by s.symbol k
  where
    by_slot : (id : ℕ) (x : Slot) → KnownIsText x → IsText (user_symbol (text_or_id id (text_of_slot x)))
    by_slot id (slot.known text) u = u
    by_slot id x u = tt

    by : (x : Symbol) → SymbolIsText x → IsText (user_symbol (named (text_at t) x))
    by (Text bytes) u = u
    by (Id id) u = by_slot id (slot_of t id) (slot_of-text t id h)

users-text : (t : Table) (ss : List SymbolAt) → TableIsText t → AllByRecursion (λ (s : SymbolAt). SymbolIsText s.symbol) ss
    → AllByRecursion IsText (map (user_at t) ss)
users-text t [] h k = tt
users-text t (s ∷ ss) h k = (user_at-text t s h k.0, users-text t ss h k.1)

-- ---- declarations

-- a struct declares to a user as it does by its table
is_declaring-at : (t : Table) (s : Symbol) (us : List UserSymbol) (members : Members UserSymbol ℕ) (last : ℕ)
    → is_declaring (user_symbol (named (text_at t) s) ∷ us) (container kind.Struct members last)
    ≡ is_declaration (word_in (text_at t) s)
is_declaring-at t (Text bytes) us members last = refl
is_declaring-at t (Id id) us members last = by (text_at t id)
  where
    by : (o : Option (List ℕ))
        → is_declaring (user_symbol (text_or_id id o) ∷ us) (container kind.Struct members last) ≡ is_declaration (word_by_id o)
    by None = refl
    by (Some text) = refl

-- a value that declares no table is none that declares to a user
is_declaring-map : (t : Table) (annotations : List SymbolAt) (x : Value SymbolAt ℕ) → declares_table t annotations x ≡ None
    → is_declaring (map (user_at t) annotations) (map_value (user_at t) (λ (p : ℕ). p) x) ≡ false
is_declaring-map t [] x e = refl
is_declaring-map t (s ∷ ss) (container kind.Struct members last) e =
    is_declaring-at t s.symbol (map (user_at t) ss) (map_members (user_at t) (λ (p : ℕ). p) members) last
    ∙ by (is_declaration (word_in (text_at t) s.symbol)) e
  where
    by : (b : Bool) → (if b then Some members else None) ≡ None → b ≡ false
    by true f = absurd (cc f)
    by false f = refl
is_declaring-map t (s ∷ ss) x e =
    elim (user_at t s) as (λ u. is_declaring (u ∷ map (user_at t) ss) (map_value (user_at t) (λ (p : ℕ). p) x) ≡ false) [
      | Known text ↦ refl
      | Unknown ↦ refl
    ]

-- the members of a declaration
declares_table-writable : (t : Table) (annotations : List SymbolAt) (x : Value SymbolAt ℕ) → IsWritable x
    → IfSome (declares_table t annotations x) (λ members. AreWritable kind.Struct members)
declares_table-writable t (s ∷ ss) (container kind.Struct members last) h = by (is_declaration (word_in (text_at t) s.symbol))
  where
    by : (b : Bool) → IfSome (if b then Some members else None) (λ (ms : Members SymbolAt ℕ). AreWritable kind.Struct ms)
    by true = h
    by false = tt
declares_table-writable t annotations x h = tt

-- ---- values at top level

user_tree-is : (t : Table) (first : ℕ) (annotations : List SymbolAt) (place : ℕ) (x : Value SymbolAt ℕ)
    → TableIsText t → IsRaw (tree first annotations place x) → declares_table t annotations x ≡ None
    → IsUser (user_tree t first annotations place x) × TopHasBytes (user_tree t first annotations place x)
user_tree-is t first annotations place x texts raw none =
    let symbols = users-text t (value_symbols None annotations x) texts raw.1.1 in (
      (
        IsWritable-map (user_at t) (λ (p : ℕ). p) x raw.0,
        (
          subst (λ ss. AllByRecursion IsText ss) (sym (value_symbols-map (user_at t) (λ (p : ℕ). p) None annotations x)) symbols,
          is_declaring-map t annotations x none,
        ),
      ),
      ValueHasBytes-map (user_at t) (λ (p : ℕ). p) x raw.1.0,
    )

-- they are so from each table of texts on
abbrev FromEach : List Shared → List (Top SymbolAt ℕ) → Type 0
FromEach catalog tops = (t : Table) → TableIsText t → IfSome (user_tops catalog t tops) AreUsers

-- a value, and what is after it, by what it declares
tree-after : (catalog : List Shared) (t : Table) (first : ℕ) (annotations : List SymbolAt) (place : ℕ) (x : Value SymbolAt ℕ)
    (tops : List (Top SymbolAt ℕ)) (declares : Option (Members SymbolAt ℕ))
    → CatalogIsText catalog → TableIsText t → IsRaw (tree first annotations place x) → declares_table t annotations x ≡ declares
    → IfSome declares (λ members. AreWritable kind.Struct members) → FromEach catalog tops
    → IfSome (elim declares [
      | Some members ↦ elim (next_table catalog (text_at t) t members) [ None ↦ None | Some u ↦ user_tops catalog u tops ]
      | None ↦ option_map (λ us. user_tree t first annotations place x ∷ us) (user_tops catalog t tops)
    ]) AreUsers
tree-after catalog t first annotations place x tops (Some members) c texts raw e writable later =
    by (next_table catalog (text_at t) t members) (next_table-text catalog (text_at t) t members c texts writable)
  where
    by : (next : Option Table) → IfSome next TableIsText
        → IfSome (elim next [ None ↦ None | Some u ↦ user_tops catalog u tops ]) AreUsers
    by None h = tt
    by (Some u) h = later u h
tree-after catalog t first annotations place x tops None c texts raw e writable later =
    by (user_tops catalog t tops) (later t texts)
  where
    by : (others : Option (List (Top UserSymbol ℕ))) → IfSome others AreUsers
        → IfSome (option_map (λ us. user_tree t first annotations place x ∷ us) others) AreUsers
    by None h = tt
    by (Some us) h = let u = user_tree-is t first annotations place x texts raw e in ((u.0, h.0), (u.1, h.1))

tops-are : (catalog : List Shared) (tops : List (Top SymbolAt ℕ)) → CatalogIsText catalog → AllByRecursion IsRaw tops
    → FromEach catalog tops
tops-are catalog [] c raw t texts = (tt, tt)
tops-are catalog (version place ∷ tops) c raw t texts = tops-are catalog tops c raw.1 system system-texts
tops-are catalog (tree first annotations place x ∷ tops) c raw t texts =
    tree-after catalog t first annotations place x tops (declares_table t annotations x) c texts raw.0 refl
    (declares_table-writable t annotations x raw.0.0) (tops-are catalog tops c raw.1)

pub users_of_raw_values : UsersOfRawValues
users_of_raw_values catalog tops us c raw e = subst (λ o. IfSome o AreUsers) e (tops-are catalog tops c raw system system-texts)
