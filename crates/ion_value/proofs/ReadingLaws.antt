-- How a reading after items ends, and that of two prefixes of one list one begins the other.
use Rattle.std.proofs.Common.{◌≡◌, ◌⊎◌, inl, inr, List, [], ◌∷◌, ◌++◌, refl, ap}
use Rattle.ion_value.specs.Value.{PlacedItem}
use Rattle.ion_value.specs.Reading.{Reading, items_then}
use Rattle.ion_value.specs.ReadingLaws.{ending_of, IsBegun}

pub ending_of-items_then : (items : List PlacedItem) (r : Reading) → ending_of (items_then items r) ≡ ending_of r
ending_of-items_then [] r = refl
ending_of-items_then (item ∷ items) r = ending_of-items_then items r

begun-more : (item : PlacedItem) (xs ys : List PlacedItem) → IsBegun xs ys → IsBegun (item ∷ xs) (item ∷ ys)
begun-more item xs ys begun = (begun.0, ap (λ l. item ∷ l) begun.1)

pub prefixes : (xs ys us vs : List PlacedItem) → xs ++ us ≡ ys ++ vs → IsBegun xs ys ⊎ IsBegun ys xs
prefixes [] ys us vs e = inl (ys, refl)
prefixes (x ∷ xs) [] us vs e = inr (x ∷ xs, refl)
prefixes (x ∷ xs) (y ∷ ys) us vs e =
    let first : x ≡ y = cc e in
    let rest : xs ++ us ≡ ys ++ vs = cc e in
    rw first (elim (prefixes xs ys us vs rest) [ inl begun ↦ inl (begun-more y xs ys begun) | inr begun ↦ inr (begun-more y ys xs begun) ])
