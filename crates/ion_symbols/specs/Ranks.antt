-- Shared tables in order of name and version.
use Rattle.std.specs.Prelude.{◌≡◌, ℕ, suc, ◌≤◌, List, [], ◌∷◌, map, All}
use Rattle.ion_symbols.specs.Table.{Shared}
use Rattle.ion_symbols.specs.Ordered.{Orders}

-- the key of a name and a version: keys are in order of bytes as names are, and those of one name as versions are
abbrev pub key_of : List ℕ → ℕ → List ℕ
key_of [] version = 0 ∷ version ∷ []
key_of (b ∷ bs) version = suc b ∷ key_of bs version

-- the key of a table
abbrev pub key : Shared → List ℕ
key s = key_of s.name s.version

-- the keys of tables
abbrev pub keys : List Shared → List (List ℕ)
keys tables = map key tables

-- tables of a catalogue, whose places are in order of their keys: 24 are counted for a table, and 8 for its place in the order
pub record IsRanked (tables : List Shared) (order : List ℕ) (of_table of_place : ℕ) : Type 0 where
  pub table_cost : of_table ≡ 24
  pub place_cost : of_place ≡ 8
  pub orders : Orders (keys tables) order
  pub versions : All (λ s. s.version ≤ 2147483647) tables
