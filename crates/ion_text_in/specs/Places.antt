-- The runs of bytes in a text.
use Rattle.std.specs.Prelude.{ℕ, Bool, true, false, List, [], ◌∷◌, length}
use Rattle.ion_meter.specs.Sources.{Cursor, skip}

-- the longest prefix of some bytes such that a test holds of what stands from each of its bytes on, and what is after it
unfoldable pub run_of : (List ℕ → Bool) → List ℕ → List ℕ × List ℕ
run_of test [] = ([], [])
run_of test (b ∷ bytes) =
    elim (test (b ∷ bytes)) [ true ↦ (b ∷ (run_of test bytes).0, (run_of test bytes).1) | false ↦ ([], b ∷ bytes) ]

-- after such a prefix
abbrev pub after_run : (List ℕ → Bool) → Cursor → Cursor
after_run test c = skip (length (run_of test c.rest).0) c
