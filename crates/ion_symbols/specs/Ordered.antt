-- How the texts of an output are kept: their bytes, where each stands, and their ids in order of bytes.
use Rattle.std.specs.Prelude.{◌≡◌, ℕ, ◌-◌, ◌^◌, ◌<◌, ◌≤◌, List, [], ◌∷◌, length, take, drop, map, slice_get, slice_index_or, All, Some}
use Rattle.ion_symbols.specs.declared.ordered.Place.{Place}
use Rattle.ion_symbols.specs.Output.{Ascend}

-- the text at a place among bytes
abbrev pub place_text : List ℕ → Place → List ℕ
place_text bytes p = take (p.to - p.from) (drop p.from bytes)

-- the texts in order of id
abbrev pub texts_in : List ℕ → List Place → List (List ℕ)
texts_in bytes places = map (place_text bytes) places

-- the texts in the order that is given
abbrev pub in_order : List (List ℕ) → List ℕ → List (List ℕ)
in_order texts order = map (λ i. slice_index_or texts i []) order

-- the texts at places among bytes, in the order that is given
abbrev pub ordered_texts : List ℕ → List Place → List ℕ → List (List ℕ)
ordered_texts bytes places order = in_order (texts_in bytes places) order

-- the order is one of bytes, and every text stands in it once
pub record Orders (texts : List (List ℕ)) (order : List ℕ) : Type 0 where
  pub each : All (λ i. i < length texts) order
  pub whole : (i : ℕ) → i < length texts → (k : ℕ) × (slice_get order k ≡ Some i)
  pub ascend : Ascend (in_order texts order)
  pub long : length order ≡ length texts

-- each text begins where the one before it ends, and the last ends at a length
abbrev pub Follow : ℕ → List Place → ℕ → Type 0
Follow from [] end = from ≡ end
Follow from (p ∷ ps) end = (p.from ≡ from) × ((from ≤ p.to) × Follow p.to ps end)

-- places that stand within bytes
abbrev pub From : List ℕ → List Place → Type 0
From bytes places = All (λ p. (p.from ≤ p.to) × (p.to ≤ length bytes)) places

-- texts that stand among bytes, with their order
pub record Ordered (bytes : List ℕ) (places : List Place) (order : List ℕ) : Type 0 where
  pub within : From bytes places
  pub orders : Orders (texts_in bytes places) order
  pub few : length places < 2 ^ 31
