-- A step from after blanks is the step from before them.
use Rattle.std.proofs.Common.{◌≡◌, ℕ, List, [], ◌∷◌, Ok, refl}
use Rattle.ion_meter.specs.Sources.{Cursor}
use Rattle.ion_text_in.specs.Blanks.{blanks, blanks_at, here}
use Rattle.ion_text_in.specs.Reading.{step, part_at}
use Rattle.ion_text_in.specs.Scanning.{BlanksChangeNoStep}
use Rattle.ion_text_in.proofs.Shrinking.{NoBlank, blanks-within}

pub no-blanks : (p : ℕ) (bytes : List ℕ) → NoBlank bytes → blanks_at p bytes ≡ here p bytes
unfolding blanks_at
no-blanks p [] none = refl
no-blanks p (b ∷ bytes) none = rw (none, blanks_at) refl

pub blanks-again : (c b : Cursor) → blanks c ≡ Ok b → blanks b ≡ Ok b
blanks-again c b e = no-blanks b.place b.rest (blanks-within c b e).1

pub step-after : BlanksChangeNoStep
unfolding step part_at
step-after limits s c e = rw (e, blanks-again s.cursor c e) refl
