-- A stream whose symbols are all resolved is accepted.
use Rattle.std.proofs.Common.{◌≡◌, ℕ, suc, Bool, true, false, List, [], ◌∷◌, ◌++◌, map, Option, None, Result, Ok, Err, refl, ap, sym, ◌∙◌, arith, add-one}
use Rattle.std.specs.Prelude.{◌&&◌, IsOkAnd}
use Rattle.std.specs.List.{AllByRecursion}
use Rattle.std.proofs.lemmas.List.{map-append}
use Rattle.ion_meter.specs.declared.fault.Reason.{Reason}
use Rattle.ion_value.specs.declared.ion_type.Kind.{Kind}
use Rattle.ion_value.specs.declared.ion_type.Kind.TheVariants as kind
use Rattle.ion_value.specs.Value as value
use Rattle.ion_value.specs.Value.{SymbolAt, Value, Members, scalar, container, nothing, member, Top, tree, PlacedItem, bare_item, value_items, member_items, top_items}
use Rattle.ion_value.specs.Reading.{Reading, Finished, items_then}
use Rattle.ion_value.specs.Standing.{is_marker}
use Rattle.ion_symbols.specs.Table.{Shared, Table, system, text_at}
use Rattle.ion_symbols.specs.Declaration.{word_in}
use Rattle.ion_symbols.specs.Users.{fine, checked, resolve, level_after, begins_declaration, is_struct, declares, is_declaration}
use Rattle.ion_symbols.specs.Tree.{first_of, content_of, declared}
use Rattle.ion_symbols.specs.Laws.{by_declared, AnyAbove, Stands, ValueStands}
use Rattle.ion_symbols.specs.Resolved.{AreResolved, WhatIsResolvedIsAccepted}
use Rattle.ion_symbols.proofs.AllAppended.{AllByRecursion-before, AllByRecursion-after}
use Rattle.ion_symbols.proofs.IdsAbove.{begins_fine}
use Rattle.ion_symbols.proofs.StandingSymbols.{IsFine, AllFine, value-stands}
use Rattle.ion_symbols.proofs.DeclarationReadings.{declarations_are_read}
use Rattle.ion_symbols.proofs.UserReadings.{sees, not_at_top}
use Rattle.ion_value.proofs.Readings.{items_then-append}

module _ (catalog : List Shared) (limit : ℕ) (t : Table) where
  -- ---- the items of a user value

  -- items are given, resolved, where so many containers are open, and leave so many open
  abbrev Given : ℕ → List PlacedItem → ℕ → Type 0
  Given m is n =
      (rest : Reading) → sees catalog limit t m (items_then is rest) ≡ items_then (map (resolve t) is) (sees catalog limit t n rest)

  one_given : (n m : ℕ) (i : PlacedItem) → is_marker i.head ≡ false → begins_declaration t n i ≡ false → IsFine t i
      → level_after n i.head ≡ m
      → Given n (i ∷ []) m
  one_given n m i no_marker no_declaration is_fine level rest = rw (no_marker, no_declaration, is_fine, level) refl

  both_given : (k m n : ℕ) (is js : List PlacedItem) → Given k is m → Given m js n → Given k (is ++ js) n
  both_given k m n is js p q rest =
      ap (sees catalog limit t k) (items_then-append is js rest)
      ∙ (p (items_then js rest)
      ∙ (ap (items_then (map (resolve t) is)) (q rest)
      ∙ (sym (items_then-append (map (resolve t) is) (map (resolve t) js) (sees catalog limit t n rest))
      ∙ ap (λ ks. items_then ks (sees catalog limit t n rest)) (sym (map-append (resolve t) is js)))))

  -- a container, by what it holds
  container_given : (n top : ℕ) (field : Option SymbolAt) (annotations : List SymbolAt) (place : ℕ) (k : Kind)
      (members : Members SymbolAt ℕ) (last : ℕ)
      → begins_declaration t n (first_of top field annotations place (container k members last)) ≡ false
      → AllFine t (value_items top field annotations place (container k members last))
      → (AllFine t (member_items top members) → Given (suc n) (member_items top members) (suc n))
      → Given n (value_items top field annotations place (container k members last)) n
  container_given n top field annotations place k members last is_plain fines inside =
      let first : PlacedItem = first_of top field annotations place (container k members last) in
      let last_item : List PlacedItem = bare_item value.end last top ∷ [] in
      both_given n (suc n) n (first ∷ []) (content_of top (container k members last))
      (one_given n (suc n) first refl is_plain fines.0 (add-one n))
      (both_given (suc n) (suc n) n (member_items top members) last_item
      (inside (AllByRecursion-before (IsFine t) (member_items top members) last_item fines.1))
      (one_given (suc n) n (bare_item value.end last top) refl (not_at_top n false) refl (omega arith)))

  mutual
    value_given : (n top : ℕ) (field : Option SymbolAt) (annotations : List SymbolAt) (place : ℕ) (x : Value SymbolAt ℕ)
        → AllFine t (value_items top field annotations place x)
        → Given (suc n) (value_items top field annotations place x) (suc n)
    value_given n top field annotations place (scalar body) fines =
        one_given (suc n) (suc n) (first_of top field annotations place (scalar body)) refl (not_at_top n false) fines.0 refl
    value_given n top field annotations place (container k members last) fines =
        container_given (suc n) top field annotations place k members last
        (not_at_top n (is_struct (value.begin k) && declares t annotations)) fines (members_given (suc n) top members)

    members_given : (n top : ℕ) (members : Members SymbolAt ℕ) → AllFine t (member_items top members)
        → Given (suc n) (member_items top members) (suc n)
    members_given n top nothing fines = λ rest. refl
    members_given n top (member before field annotations place x) fines =
        let is = member_items top before in
        let js = value_items top field annotations place x in
        both_given (suc n) (suc n) (suc n) is js (members_given n top before (AllByRecursion-before (IsFine t) is js fines))
        (value_given n top field annotations place x (AllByRecursion-after (IsFine t) is js fines))

  -- a value at top level that is no declaration
  top_given : (first : ℕ) (annotations : List SymbolAt) (place : ℕ) (x : Value SymbolAt ℕ)
      → begins_declaration t 0 (first_of first None annotations place x) ≡ false
      → AllFine t (value_items first None annotations place x)
      → Given 0 (value_items first None annotations place x) 0
  top_given first annotations place (scalar body) is_plain fines =
      one_given 0 0 (first_of first None annotations place (scalar body)) refl is_plain fines.0 refl
  top_given first annotations place (container k members last) is_plain fines =
      container_given 0 first None annotations place k members last is_plain fines (members_given 0 first members)

-- ---- a stream of markers and values

-- it is accepted from a table on
abbrev IsAccepted : List Shared → ℕ → Table → List (Top SymbolAt ℕ) → Type 0
IsAccepted catalog limit t tops =
    (items : List PlacedItem) × (sees catalog limit t 0 (items_then (top_items tops) Finished) ≡ items_then items Finished)

-- and so from each table from which its symbols are resolved
abbrev IsAcceptedWhere : List Shared → ℕ → List (Top SymbolAt ℕ) → Type 0
IsAcceptedWhere catalog limit tops = (t : Table) → AreResolved catalog limit t tops → IsAccepted catalog limit t tops

-- a value that is no declaration, and what is after it
plain_accepted : (catalog : List Shared) (limit : ℕ) (t : Table) (first : ℕ) (annotations : List SymbolAt) (place : ℕ)
    (x : Value SymbolAt ℕ) (tops : List (Top SymbolAt ℕ))
    → begins_declaration t 0 (first_of first None annotations place x) ≡ false
    → AllByRecursion (Stands t) annotations × ValueStands t x
    → IsAccepted catalog limit t tops → IsAccepted catalog limit t (tree first annotations place x ∷ tops)
plain_accepted catalog limit t first annotations place x tops is_plain stands more =
    let is : List PlacedItem = value_items first None annotations place x in
    let fines : AllFine t is = (value-stands t first None annotations place x).1 (tt, stands.0, stands.1) in (
      map (resolve t) is ++ more.0,
      ap (sees catalog limit t 0) (items_then-append is (top_items tops) Finished)
          ∙ (top_given catalog limit t first annotations place x is_plain fines (items_then (top_items tops) Finished)
          ∙ (ap (items_then (map (resolve t) is)) more.1 ∙ sym (items_then-append (map (resolve t) is) more.0 Finished))),
    )

-- a declaration, and what is after it
by_declared_accepted : (catalog : List Shared) (limit : ℕ) (tops : List (Top SymbolAt ℕ)) (d : Result Table (Reason × ℕ))
    → IsAcceptedWhere catalog limit tops → IsOkAnd d (λ u. AreResolved catalog limit u tops)
    → (items : List PlacedItem)
    × (by_declared d (λ u. sees catalog limit u 0 (items_then (top_items tops) Finished)) ≡ items_then items Finished)
by_declared_accepted catalog limit tops (Ok u) more h = more u h
by_declared_accepted catalog limit tops (Err why) more h = absurd h

-- a struct with annotations
struct_accepted : (catalog : List Shared) (limit : ℕ) (t : Table) (first : ℕ) (s : SymbolAt) (annotations : List SymbolAt)
    (place : ℕ) (members : Members SymbolAt ℕ) (last : ℕ) (tops : List (Top SymbolAt ℕ)) (b : Bool)
    → is_declaration (word_in (text_at t) s.symbol) ≡ b
    → IsAcceptedWhere catalog limit tops
    → AreResolved catalog limit t (tree first (s ∷ annotations) place (container kind.Struct members last) ∷ tops)
    → IsAccepted catalog limit t (tree first (s ∷ annotations) place (container kind.Struct members last) ∷ tops)
struct_accepted catalog limit t first s annotations place members last tops false is more h =
    let x : Value SymbolAt ℕ = container kind.Struct members last in
    let k : AllByRecursion (Stands t) (s ∷ annotations) × ValueStands t x × AreResolved catalog limit t tops
    = rw (is, AreResolved) at h in
    plain_accepted catalog limit t first (s ∷ annotations) place x tops is (k.0, k.1) (more t k.2)
struct_accepted catalog limit t first s annotations place members last tops true is more h =
    let first_item : PlacedItem = first_of first None (s ∷ annotations) place (container kind.Struct members last) in
    let d : Result Table (Reason × ℕ) = declared (record { catalog = catalog; limit = limit; old = t }) first members in
    let k : (AnyAbove t (s ∷ annotations) → ⊥) × IsOkAnd d (λ u. AreResolved catalog limit u tops) = rw (is, AreResolved) at h in
    let is_fine : checked t false first_item ≡ fine =
    (begins_fine t first (s ∷ annotations) place kind.Struct members last).1 k.0 in
    let left = by_declared_accepted catalog limit tops d more k.1 in (
      left.0,
      rw (is, is_fine, items_then-append (content_of first (container kind.Struct members last)) (top_items tops) Finished)
          (declarations_are_read catalog limit t first last members (items_then (top_items tops) Finished) ∙ left.1),
    )

-- a value, and what is after it
tree_accepted : (catalog : List Shared) (limit : ℕ) (t : Table) (first : ℕ) (annotations : List SymbolAt) (place : ℕ)
    (x : Value SymbolAt ℕ)
    (tops : List (Top SymbolAt ℕ)) → IsAcceptedWhere catalog limit tops
    → AreResolved catalog limit t (tree first annotations place x ∷ tops)
    → IsAccepted catalog limit t (tree first annotations place x ∷ tops)
tree_accepted catalog limit t first (s ∷ annotations) place (container kind.Struct members last) tops more h =
    struct_accepted catalog limit t first s annotations place members last tops
    (is_declaration (word_in (text_at t) s.symbol)) refl more h
tree_accepted catalog limit t first [] place (container kind.Struct members last) tops more h =
    plain_accepted catalog limit t first [] place (container kind.Struct members last) tops refl (h.0, h.1) (more t h.2)
tree_accepted catalog limit t first annotations place x tops more h =
    plain_accepted catalog limit t first annotations place x tops refl (h.0, h.1) (more t h.2)

tops_accepted : (catalog : List Shared) (limit : ℕ) (tops : List (Top SymbolAt ℕ)) → IsAcceptedWhere catalog limit tops
tops_accepted catalog limit [] t h = ([], refl)
tops_accepted catalog limit (value.version place ∷ tops) t h = tops_accepted catalog limit tops system h
tops_accepted catalog limit (tree first annotations place x ∷ tops) t h =
    tree_accepted catalog limit t first annotations place x tops (tops_accepted catalog limit tops) h

-- what is resolved from the system table on
pub what_is_resolved_is_accepted : WhatIsResolvedIsAccepted
what_is_resolved_is_accepted catalog limit tops h = tops_accepted catalog limit tops system h
