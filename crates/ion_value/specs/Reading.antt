-- Readings: the items to come, and how they end.
use Rattle.std.specs.Prelude.{ℕ, zero, suc, ◌<◌, List, [], ◌∷◌}
use Rattle.ion_meter.specs.declared.fault.Reason.{Reason}
use Rattle.ion_value.specs.Value.{PlacedItem}

-- items to come one by one, and then the end of the stream, or a fault with its reason and place
pub data Reading : Type 0 where
  Finished : Reading
  Stopped : (reason : Reason) → (place : ℕ) → Reading
  More : (item : PlacedItem) → (rest : Reading) → Reading

-- the items of a reading, in order
abbrev pub items_of : Reading → List PlacedItem
items_of Finished = []
items_of (Stopped reason place) = []
items_of (More item rest) = item ∷ items_of rest

-- a reading after items
abbrev pub items_then : List PlacedItem → Reading → Reading
items_then [] r = r
items_then (item ∷ items) r = More item (items_then items r)

-- what one step of reading does, from a state of some type: it ends, stops at a fault, gives an item, or only goes on
pub data Step (T : Type 0) : Type 0 where
  Ends : Step T
  Stops : (reason : Reason) → (place : ℕ) → Step T
  Gives : (item : PlacedItem) → (after : T) → Step T
  GoesOn : (after : T) → Step T

-- what is read by a step: its item, if it gives one, and then what is read from the state that it leaves
abbrev pub next_reading : {T : Type 0} → (T → Reading) → Step T → Reading
next_reading later Ends = Finished
next_reading later (Stops reason place) = Stopped reason place
next_reading later (Gives item after) = More item (later after)
next_reading later (GoesOn after) = later after

-- what so many steps give from a state on, with an end of the stream where they are used up
abbrev pub reading_for : {T : Type 0} → (T → Step T) → ℕ → T → Reading
reading_for step zero s = Finished
reading_for step (suc steps) s = next_reading (λ t. reading_for step steps t) (step s)

-- all that the steps give from a state on, where each makes the state smaller
abbrev pub reading_by : {T : Type 0} → (T → Step T) → (T → ℕ) → T → Reading
reading_by step size s = reading_for step (suc (size s)) s

-- the state that a step leaves, where it leaves one
pub data Leaves {T : Type 0} : Step T → T → Type 0 where
  after_item : (item : PlacedItem) (after : T) → Leaves (Gives item after) after
  after_nothing : (after : T) → Leaves (GoesOn after) after

-- each step leaves a state of a smaller size, where it leaves one
abbrev pub Shrinks : {T : Type 0} → (T → Step T) → (T → ℕ) → Type 0
Shrinks {T} step size = (s after : T) → Leaves (step s) after → size after < size s
