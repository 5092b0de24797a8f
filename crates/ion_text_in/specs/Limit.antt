-- A limit on the bytes that a token counts.
use Rattle.std.specs.Prelude.{ℕ, Bool, false, nat_lt, Option, Some, None}

-- so many are more than a limit allows, where there is one
abbrev pub passes : Option ℕ → ℕ → Bool
passes None n = false
passes (Some limit) n = nat_lt limit n
