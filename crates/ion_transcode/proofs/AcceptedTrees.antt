-- Of trees in order the symbols are resolved, so that the stream is accepted.
use Rattle.std.proofs.Common.{◌≡◌, ℕ, inl, inr, List, [], ◌∷◌, Option, Some, None, Result, Ok, Err, IsSomeAnd, IsOkAnd, refl, ap, sym, ◌∙◌, subst}
use Rattle.std.specs.List.{AllByRecursion}
use Rattle.ion_meter.specs.declared.fault.Reason.{Reason}
use Rattle.ion_value.specs.Value.{SymbolAt, Value, Members, Top, version, tree}
use Rattle.ion_symbols.specs.Declaration.{Ground, Held, nothing_yet}
use Rattle.ion_symbols.specs.Laws.{AnyAbove, Stands, ValueStands, WhatIsDeclared, WhyRefused}
use Rattle.ion_symbols.specs.Resolved.{AreResolved}
use Rattle.ion_symbols.specs.Table.{Shared, Table, system, text_at}
use Rattle.ion_symbols.specs.Tree.{declared, declares_table, fields_held, next_table, table_left}
use Rattle.ion_symbols.proofs.CountedTrees.{no-limit}
use Rattle.ion_transcode.specs.Acceptance.{GoodStreamsAreAccepted}
use Rattle.ion_transcode.specs.AcceptedTrees.{IsInOrder, TreesAreInOrder, TreesInOrderAreAccepted}

module _ (why : WhyRefused) (said : WhatIsDeclared) where
  -- a declaration in order is not refused where its table is there
  not-refused : (g : Ground) (annotations : List SymbolAt) (top : ℕ) (members : Members SymbolAt ℕ) (u : Table) (reason : Reason) (place : ℕ)
      → IsInOrder g annotations members → next_table g.catalog (text_at g.old) g.old members ≡ Some u → declared g top members ≡ Err (reason, place) → ⊥
  not-refused g annotations top members u reason place h next e =
      elim (why g top members reason place e) [
        | inl symbol ↦ h.below symbol.1
        | inr (inl limit) ↦ no-limit g top members (reason, place) h.names h.cost h.count (held (fields_held g top members nothing_yet) e) limit.0
        | inr (inr table) ↦ elim table.1 [ inl twice ↦ h.single twice | inr none ↦ absurd (cc (sym none ∙ next)) ]
      ]
    where
      held : (r : Held) → table_left g r ≡ Err (reason, place) → r ≡ Err (reason, place)
      held (Ok p) f = absurd (cc f)
      held (Err fault) f = let same : fault ≡ (reason, place) = cc f in ap (λ (w : Reason × ℕ). Err w) same

  -- so it leaves that table
  leaves-it : (g : Ground) (annotations : List SymbolAt) (top : ℕ) (members : Members SymbolAt ℕ) (u : Table)
      → IsInOrder g annotations members → next_table g.catalog (text_at g.old) g.old members ≡ Some u → declared g top members ≡ Ok u
  leaves-it g annotations top members u h next = by (declared g top members) refl
    where
      by : (r : Result Table (Reason × ℕ)) → declared g top members ≡ r → r ≡ Ok u
      by (Ok t) e =
          let same : Some t ≡ Some u = sym (said g top members t e) ∙ next in
          let is : t ≡ u = cc same in
          ap (λ (v : Table). Ok v) is
      by (Err fault) e = absurd (not-refused g annotations top members u fault.0 fault.1 h next e)

  module _ (catalog : List Shared) (limit : ℕ) (tops : List (Top SymbolAt ℕ)) (later : (u : Table) → TreesAreInOrder catalog limit u tops → AreResolved catalog limit u tops) (t : Table) where
    abbrev ground : Ground
    ground = record { catalog = catalog; limit = limit; old = t }

    -- after a declaration all is resolved by its table
    table-resolved : (annotations : List SymbolAt) (first : ℕ) (members : Members SymbolAt ℕ) (o : Option Table) → next_table catalog (text_at t) t members ≡ o
        → IsInOrder ground annotations members → IsSomeAnd o (λ u. TreesAreInOrder catalog limit u tops)
        → IsOkAnd (declared ground first members) (λ u. AreResolved catalog limit u tops)
    table-resolved annotations first members None e h there = absurd there
    table-resolved annotations first members (Some u) e h there =
        subst (λ (r : Result Table (Reason × ℕ)). IsOkAnd r (λ u. AreResolved catalog limit u tops)) (sym (leaves-it ground annotations first members u h e)) (later u there)

    -- a declaration or a value, by the members that it declares
    abbrev OrderBy : List SymbolAt → Value SymbolAt ℕ → Option (Members SymbolAt ℕ) → Type 0
    OrderBy annotations x o = elim o [
      | Some members ↦ IsInOrder ground annotations members × IsSomeAnd (next_table catalog (text_at t) t members) (λ u. TreesAreInOrder catalog limit u tops)
      | None ↦ AllByRecursion (Stands t) annotations × ValueStands t x × TreesAreInOrder catalog limit t tops
    ]

    abbrev ResolvedBy : List SymbolAt → ℕ → Value SymbolAt ℕ → Option (Members SymbolAt ℕ) → Type 0
    ResolvedBy annotations first x o = elim o [
      | Some members ↦ (AnyAbove t annotations → ⊥) × IsOkAnd (declared ground first members) (λ u. AreResolved catalog limit u tops)
      | None ↦ AllByRecursion (Stands t) annotations × ValueStands t x × AreResolved catalog limit t tops
    ]

    tree-resolved : (annotations : List SymbolAt) (first : ℕ) (x : Value SymbolAt ℕ) (o : Option (Members SymbolAt ℕ)) → OrderBy annotations x o → ResolvedBy annotations first x o
    tree-resolved annotations first x (Some members) h = (h.0.named, table-resolved annotations first members (next_table catalog (text_at t) t members) refl h.0 h.1)
    tree-resolved annotations first x None h = (h.0, h.1, later t h.2)

  trees-resolved : (catalog : List Shared) (limit : ℕ) (tops : List (Top SymbolAt ℕ)) (t : Table) → TreesAreInOrder catalog limit t tops → AreResolved catalog limit t tops
  trees-resolved catalog limit [] t h = tt
  trees-resolved catalog limit (version place ∷ tops) t h = trees-resolved catalog limit tops system h
  trees-resolved catalog limit (tree first annotations place x ∷ tops) t h =
      tree-resolved catalog limit tops (trees-resolved catalog limit tops) t annotations first x (declares_table t annotations x) h

  pub trees-in-order : GoodStreamsAreAccepted → TreesInOrderAreAccepted
  trees-in-order accepted profile catalog limits to bytes t tops us to_is stream permitted none in_order users_are taken =
      accepted profile catalog limits to bytes t tops us to_is stream permitted none (trees-resolved catalog limits.symbols tops system in_order) users_are taken
