-- How many values at top level end among the items of trees: one for each tree.
use Rattle.std.proofs.Common.{◌≡◌, ℕ, ◌+◌, List, [], ◌∷◌, ◌++◌, length, Option, None, refl, ap, ◌∙◌, append_assoc, arith, zero-add}
use Rattle.ion_value.specs.declared.ion_type.Kind.{Kind}
use Rattle.ion_value.specs.Value as value
use Rattle.ion_value.specs.Value.{SymbolAt, UserSymbol, Head, Value, Members, Top, PlacedItem, Item, bare_item, value_items, member_items, top_items, map_head}
use Rattle.ion_value.specs.Standing.{open_after}
use Rattle.ion_value.specs.Outcome.{one_if_closed, values_in}
use Rattle.ion_value.specs.Value.{user_symbol_at, user_items}

-- the same of items as a user knows them
abbrev user_values : List Kind → List (Item UserSymbol ℕ) → ℕ
user_values kinds [] = 0
user_values kinds (item ∷ items) = one_if_closed (open_after kinds item.head) + user_values (open_after kinds item.head) items

-- what is open doesn't depend on the symbols
same_open : (kinds : List Kind) (head : Head SymbolAt) → open_after kinds head ≡ open_after kinds (map_head user_symbol_at head)
same_open kinds (value.whole body) = refl
same_open kinds (value.begin kind) = refl
same_open kinds value.end = refl
same_open kinds value.marker = refl

-- nor does the number
same_values : (kinds : List Kind) (items : List PlacedItem) → values_in kinds items ≡ user_values kinds (user_items items)
same_values kinds [] = refl
same_values kinds (item ∷ items) =
    ap (λ n. one_if_closed (open_after kinds item.head) + n) (same_values (open_after kinds item.head) items)
    ∙ ap (λ k. one_if_closed k + user_values k (user_items items)) (same_open kinds item.head)

mutual
  -- a value is one where nothing is open
  value-counts : (x : Value UserSymbol ℕ) (top place : ℕ) (f : Option UserSymbol) (annotations : List UserSymbol) (kinds : List Kind) (rest : List (Item UserSymbol ℕ))
      → user_values kinds (value_items top f annotations place x ++ rest) ≡ one_if_closed kinds + user_values kinds rest
  value-counts (value.scalar body) top place f annotations kinds rest = refl
  value-counts (value.container kind members last) top place f annotations kinds rest =
      zero-add (user_values (kind ∷ kinds) ((member_items top members ++ bare_item value.end last top ∷ []) ++ rest))
      ∙ (ap (user_values (kind ∷ kinds)) (append_assoc (member_items top members) (bare_item value.end last top ∷ []) rest)
      ∙ members-count members top kind kinds (bare_item value.end last top ∷ rest))

  -- and what a container holds is none
  members-count : (members : Members UserSymbol ℕ) (top : ℕ) (kind : Kind) (kinds : List Kind) (rest : List (Item UserSymbol ℕ))
      → user_values (kind ∷ kinds) (member_items top members ++ rest) ≡ user_values (kind ∷ kinds) rest
  members-count value.nothing top kind kinds rest = refl
  members-count (value.member before f annotations place x) top kind kinds rest =
      ap (user_values (kind ∷ kinds)) (append_assoc (member_items top before) (value_items top f annotations place x) rest)
      ∙ (members-count before top kind kinds (value_items top f annotations place x ++ rest)
      ∙ (value-counts x top place f annotations (kind ∷ kinds) rest
      ∙ zero-add (user_values (kind ∷ kinds) rest)))

tops-count : (tops : List (Top UserSymbol ℕ)) → user_values [] (top_items tops) ≡ length tops
tops-count [] = refl
tops-count (value.version place ∷ tops) =
    let others = tops-count tops in
    omega (arith, others)
tops-count (value.tree first annotations place x ∷ tops) =
    let others = tops-count tops in
    let one = value-counts x first place None annotations [] (top_items tops) in
    omega (arith, others, one)

-- items that a user knows as those of trees
pub values-of_tops : (items : List PlacedItem) (tops : List (Top UserSymbol ℕ)) → user_items items ≡ top_items tops → values_in [] items ≡ length tops
values-of_tops items tops e = same_values [] items ∙ (ap (user_values []) e ∙ tops-count tops)
