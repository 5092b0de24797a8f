-- Laws of readings that are made of steps.
use Rattle.std.proofs.Common.{arith, refl, ap, ◌∙◌, ◌≡◌, ℕ, zero, suc, ◌<◌, List, [], ◌∷◌, ◌++◌}
use Rattle.ion_value.specs.Value.{PlacedItem}
use Rattle.ion_value.specs.Reading.{Reading, Finished, More, items_of, items_then, Step, Ends, Stops, Gives, GoesOn, Leaves, after_item, after_nothing, next_reading, reading_for, reading_by, Shrinks}

-- what is read after items and then others is read after all of them
pub items_then-append : (xs ys : List PlacedItem) (r : Reading) → items_then (xs ++ ys) r ≡ items_then xs (items_then ys r)
items_then-append [] ys r = refl
items_then-append (x ∷ xs) ys r = ap (More x) (items_then-append xs ys r)

-- readings that agree after a step agree before it
next_same : {T : Type 0} (f g : T → Reading) (o : Step T) → ((next : T) → Leaves o next → f next ≡ g next) → next_reading f o ≡ next_reading g o
next_same f g Ends h = refl
next_same f g (Stops reason place) h = refl
next_same f g (Gives item next) h = ap (More item) (h next (after_item item next))
next_same f g (GoesOn next) h = h next (after_nothing next)

-- any number of steps that is large enough gives the same
pub reading_for-enough : {T : Type 0} (step : T → Step T) (size : T → ℕ) → Shrinks step size → (m n : ℕ) (s : T) → size s < m → size s < n → reading_for step m s ≡ reading_for step n s
reading_for-enough step size shrinks zero n s a b = absurd (omega (arith, a))
reading_for-enough step size shrinks (suc m) zero s a b = absurd (omega (arith, b))
reading_for-enough step size shrinks (suc m) (suc n) s a b =
    next_same (λ t. reading_for step m t) (λ t. reading_for step n t) (step s)
    (λ after leaves. let smaller : size after < size s = shrinks s after leaves in reading_for-enough step size shrinks m n after (omega arith) (omega arith))

-- a reading is its first step and the reading from there
pub reading_by-step : {T : Type 0} (step : T → Step T) (size : T → ℕ) → Shrinks step size → (s : T) → reading_by step size s ≡ next_reading (reading_by step size) (step s)
reading_by-step step size shrinks s =
    next_same (λ t. reading_for step (size s) t) (reading_by step size) (step s)
    (λ after leaves. let smaller : size after < size s = shrinks s after leaves in reading_for-enough step size shrinks (size s) (suc (size after)) after (omega arith) (omega arith))

-- the four steps
pub reading_by-ends : {T : Type 0} (step : T → Step T) (size : T → ℕ) → Shrinks step size → (s : T) → step s ≡ Ends → reading_by step size s ≡ Finished
reading_by-ends step size shrinks s e = reading_by-step step size shrinks s ∙ ap (next_reading (reading_by step size)) e

pub reading_by-gives : {T : Type 0} (step : T → Step T) (size : T → ℕ) → Shrinks step size → (s after : T) (item : PlacedItem) → step s ≡ Gives item after → reading_by step size s ≡ More item (reading_by step size after)
reading_by-gives step size shrinks s after item e = reading_by-step step size shrinks s ∙ ap (next_reading (reading_by step size)) e

pub reading_by-goes_on : {T : Type 0} (step : T → Step T) (size : T → ℕ) → Shrinks step size → (s after : T) → step s ≡ GoesOn after → reading_by step size s ≡ reading_by step size after
reading_by-goes_on step size shrinks s after e = reading_by-step step size shrinks s ∙ ap (next_reading (reading_by step size)) e

-- items in front of a reading are its first items
pub items_of-items_then : (items : List PlacedItem) (r : Reading) → items_of (items_then items r) ≡ items ++ items_of r
items_of-items_then [] r = refl
items_of-items_then (item ∷ items) r = ap (λ rest. item ∷ rest) (items_of-items_then items r)
