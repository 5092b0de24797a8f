-- What the tables of a catalogue cost.
use Rattle.std.proofs.Common.{◌≡◌, ℕ, suc, ◌+◌, ◌*◌, ◌++◌, ◌≤◌, List, [], ◌∷◌, length, refl, ap, ◌∙◌, arith}
use Rattle.std.proofs.lemmas.List.{length-map}
use Rattle.ion_symbols.specs.Table.{Shared, shared_cost, catalog_cost}
use Rattle.ion_symbols.specs.Ranks.{key, IsRanked}
use Rattle.ion_meter.specs.Entries.{Entries}

-- each table costs 32 and more
pub each_costs : (ss : List Shared) → 32 * length ss ≤ catalog_cost ss
each_costs [] = omega arith
each_costs (s ∷ ss) = let r : 32 * length ss ≤ catalog_cost ss = each_costs ss in omega (arith, r)

-- what a catalogue costs with one table more
pub cost_after : (ss : List Shared) (s : Shared) → catalog_cost (ss ++ s ∷ []) ≡ catalog_cost ss + (32 + shared_cost s)
cost_after [] s = omega arith
cost_after (t ∷ ss) s = let r : catalog_cost (ss ++ s ∷ []) ≡ catalog_cost ss + (32 + shared_cost s) = cost_after ss s in omega (arith, r)

-- without the last table
pub cost_without : (all ss : List Shared) (s : Shared) → all ≡ ss ++ s ∷ [] → catalog_cost all ≡ catalog_cost ss + (32 + shared_cost s)
cost_without all ss s e = ap catalog_cost e ∙ cost_after ss s

-- and how many tables there are
pub long_without : (all ss : List Shared) (s : Shared) → all ≡ ss ++ s ∷ [] → length all ≡ suc (length ss)
long_without all ss s e = ap length e ∙ long_after ss s
  where
    long_after : (ss : List Shared) (s : Shared) → length (ss ++ s ∷ []) ≡ suc (length ss)
    long_after [] s = refl
    long_after (t ∷ ss) s = ap suc (long_after ss s)

-- what the places of tables cost together
pub places_cost : (ss : List Shared) (order : Entries ℕ) (of_table : ℕ) → IsRanked ss order.items of_table order.cost → order.cost * length order.items ≡ 8 * length ss
places_cost ss order of_table h = ap (λ n. n * length order.items) h.place_cost ∙ ap (λ n. 8 * n) (h.orders.long ∙ length-map ss key)
