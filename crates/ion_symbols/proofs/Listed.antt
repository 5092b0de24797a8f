-- Lists that are gone through by place.
use Rattle.std.proofs.Common.{◌≡◌, ℕ, zero, suc, ◌<◌, List, [], ◌∷◌, length, slice_get, slice_index_or, Some, refl, arith}

pub got_at : {T : Type 0} (d : T) (xs : List T) (i : ℕ) → i < length xs → slice_get xs i ≡ Some (slice_index_or xs i d)
got_at d [] i h = absurd (omega (arith, h))
got_at d (x ∷ xs) zero h = refl
got_at d (x ∷ xs) (suc i) h = got_at d xs i (omega (arith, h))
