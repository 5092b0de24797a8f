-- What the calls that read a lob ask for and answer.
use Rattle.std.specs.Prelude.{◌≡◌, ◌≢◌, ℕ, ◌%◌, Bool, false, not, ◌==◌, nat_lt, List, length, Option, Some, None, Result, Ok, Err, IfOk, IfSome}
use Rattle.ion_meter.specs.Counts.{Counts}
use Rattle.ion_meter.specs.declared.device.Input.{Ghosts as InputOf}
use Rattle.ion_meter.specs.declared.fault.Fault.{Fault}
use Rattle.ion_meter.specs.declared.fault.Fault.TheVariants.{Refused}
use Rattle.ion_meter.specs.declared.fault.Reason.{Reason}
use Rattle.ion_meter.specs.declared.profile.Rules.{Rules}
use Rattle.ion_meter.specs.Sources.{Cursor, cursor}
use Rattle.ion_meter.specs.Windows.{Incoming}
use Rattle.ion_meter.specs.declared.fault.Reason.TheVariants.{BadLob}
use Rattle.ion_value.specs.Parts.{refuse, ◌>>=◌, ◌>>◌}
use Rattle.ion_text_in.specs.Gathered.{Gathers}
use Rattle.ion_text_in.specs.Lob.{closed_at}
use Rattle.ion_text_in.specs.Scanning.{Spelled, groups, with_front}

-- bytes of a blob that were read, and the groups after them
abbrev pub with_groups_after : ℕ → List ℕ → Bool → Cursor → Spelled
with_groups_after limit text padded c = with_front text (groups (Some limit) (length text) padded c)

-- the same, where it may have ended
abbrev pub blob_from : ℕ → List ℕ → Cursor → Option Bool → Spelled
blob_from limit text c None = Ok (text, c)
blob_from limit text c (Some padded) = with_groups_after limit text padded c

-- whether the last group of so many bytes was padded
abbrev pub is_padded : ℕ → Bool
is_padded n = not (n % 3 == 0)

-- the braces after so many characters that are no whole group: there may be none
abbrev pub closed_after : ℕ → Cursor → Result Cursor Reason
closed_after count c = do
  d ← closed_at c
  refuse (nat_lt 0 count) BadLob
  Ok d

-- what a call does that takes whole groups of the window, and answers whether the last of them was padded, or takes none
pub record TakesGroups {I : Type 0} (device : InputOf I) (limits : Rules) (old new : Incoming I) (earlier later : Counts) (before after : List ℕ) (result : Result (Option Bool) Fault) : Type 0 where
  pub gives : device.observable old.device
      → IfOk result (λ found. IfSome found (λ padded. with_groups_after limits.scalar before false (cursor device old) ≡ with_groups_after limits.scalar after padded (cursor device new)))
  pub none : result ≡ Ok None → (new ≡ old) × (after ≡ before) × (later ≡ earlier)
  pub plain : (r : Reason) (p : ℕ) → result ≢ Err (Refused r p)
  pub gathers : Gathers device limits old new earlier later before after result
