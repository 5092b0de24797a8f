-- What a catalogue costs with one table more.
use Rattle.std.proofs.Common.{◌≡◌, ◌+◌, ◌++◌, List, [], ◌∷◌, ap, ◌∙◌, arith}
use Rattle.ion_symbols.specs.Table.{Shared, shared_cost, catalog_cost}

cost_after : (ss : List Shared) (s : Shared) → catalog_cost (ss ++ s ∷ []) ≡ catalog_cost ss + (32 + shared_cost s)
cost_after [] s = omega arith
cost_after (t ∷ ss) s = let r : catalog_cost (ss ++ s ∷ []) ≡ catalog_cost ss + (32 + shared_cost s) = cost_after ss s in omega (arith, r)

-- without the last table
pub cost_without : (all ss : List Shared) (s : Shared) → all ≡ ss ++ s ∷ [] → catalog_cost all ≡ catalog_cost ss + (32 + shared_cost s)
cost_without all ss s e = ap catalog_cost e ∙ cost_after ss s
