-- Of which streams nothing is refused for a symbol or a declaration: exactly of those whose symbols are all resolved.
use Rattle.std.specs.Prelude.{◌≡◌, ℕ, List, [], ◌∷◌, Some, None, IsOkAnd, ⊤}
use Rattle.std.specs.List.{AllByRecursion}
use Rattle.ion_value.specs.Value.{SymbolAt, Top, version, tree, PlacedItem, top_items}
use Rattle.ion_value.specs.Reading.{Finished, items_then}
use Rattle.ion_symbols.specs.Table.{Shared, Table, system}
use Rattle.ion_symbols.specs.Users.{at_start, users}
use Rattle.ion_symbols.specs.Tree.{declared, declares_table}
use Rattle.ion_symbols.specs.Laws.{AnyAbove, Stands, ValueStands}

-- from a table on. A declaration has no annotation above the table, and leaves one, by which the values after it are read; each
-- symbol of any other value stands in the table; a version marker sets it back to the system table
abbrev pub AreResolved : List Shared → ℕ → Table → List (Top SymbolAt ℕ) → Type 0
AreResolved catalog limit t [] = ⊤
AreResolved catalog limit t (version place ∷ tops) = AreResolved catalog limit system tops
AreResolved catalog limit t (tree first annotations place x ∷ tops) =
    elim (declares_table t annotations x) [
      | Some members ↦
          (AnyAbove t annotations → ⊥)
          × IsOkAnd (declared (record { catalog = catalog; limit = limit; old = t }) first members)
          (λ u. AreResolved catalog limit u tops)
      | None ↦ AllByRecursion (Stands t) annotations × ValueStands t x × AreResolved catalog limit t tops
    ]

-- a stream whose symbols are all resolved is accepted
abbrev pub WhatIsResolvedIsAccepted : Type 0
WhatIsResolvedIsAccepted =
    (catalog : List Shared) (limit : ℕ) (tops : List (Top SymbolAt ℕ)) → AreResolved catalog limit system tops
    → (items : List PlacedItem) × (users catalog limit at_start (items_then (top_items tops) Finished) ≡ items_then items Finished)

-- and no other is
abbrev pub WhatIsAcceptedIsResolved : Type 0
WhatIsAcceptedIsResolved =
    (catalog : List Shared) (limit : ℕ) (tops : List (Top SymbolAt ℕ)) (items : List PlacedItem)
    → users catalog limit at_start (items_then (top_items tops) Finished) ≡ items_then items Finished
    → AreResolved catalog limit system tops
