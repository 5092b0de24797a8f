-- What is seen of bytes with room for more.
use Rattle.std.specs.Prelude.{ℕ, List}

-- bytes, and how many more there is room for
pub record WithRoom : Type 0 where
  pub bytes : List ℕ
  pub room : ℕ
