-- A natural number as limbs of 64 bits, the lowest first.
use Rattle.std.specs.Prelude.{ℕ, ◌+◌, ◌*◌, ◌^◌, List, [], ◌∷◌}

-- the number that limbs hold
unfoldable pub value : List ℕ → ℕ
value [] = 0
value (limb ∷ more) = limb + 2 ^ 64 * value more
