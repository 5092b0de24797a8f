-- A few octets, in a word.
use Rattle.std.specs.Prelude.{ℕ, zero, suc, ◌/◌, ◌%◌, List, [], ◌∷◌}

-- the lowest octets of a word, so many, the lowest first
abbrev pub low_octets : ℕ → ℕ → List ℕ
low_octets zero word = []
low_octets (suc k) word = word % 256 ∷ low_octets k (word / 256)
