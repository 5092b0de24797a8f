-- What a call of the C library is given, answers and leaves.
use Rattle.std.specs.Prelude.{◌≡◌, ◌≢◌, ◌⊎◌, ◌≤◌, ◌<◌, ◌++◌, ℕ, zero, suc, List, Option, Some, None, length, drop}
use Rattle.ion_meter.specs.Limits.{AreChecked}
use Rattle.ion_meter.specs.Rules.{strict, floats}
use Rattle.ion_meter.specs.Reasons.{number_of}
use Rattle.ion_meter.specs.declared.fault.Reason.{Reason}
use Rattle.ion_meter.specs.declared.limits.Limits.{Limits}
use Rattle.ion_meter.specs.declared.profile.Profile.{Profile}
use Rattle.ion_value.specs.Outcome.{Verdict, Accepted, Rejected}
use Rattle.ion_symbols.specs.Table.{Shared}
use Rattle.ion_transcode.specs.declared.to.To.{To}
use Rattle.ion_transcode.specs.Catalogues.{IsCatalog, HasCatalogVerdict}
use Rattle.ion_transcode.specs.Verdict.{HasVerdictWith}
use Rattle.cozgelt_c.specs.declared.CozgeltLimits.{CozgeltLimits}
use Rattle.cozgelt_c.specs.declared.CozgeltAnswer.{CozgeltAnswer}

-- the limits that a caller's numbers say
abbrev pub limits_of : CozgeltLimits → Limits
limits_of l = record { depth = l.depth; scalar = l.scalar; symbols = l.symbols; value = l.value; input = l.input }

-- the profile that a caller's number names, if it names one
abbrev pub profile_of : ℕ → Option Profile
profile_of zero = Some strict
profile_of (suc zero) = Some floats
profile_of (suc (suc number)) = None

-- both structs have the size that this version knows, and no limit is above its maximum
pub record AreValid (limits : CozgeltLimits) (answer : CozgeltAnswer) : Type 0 where
  pub limits_size : limits.size ≡ 40
  pub answer_size : answer.size ≡ 32
  pub checked : AreChecked (limits_of limits)

-- a stream has this verdict under a profile and with these tables, and an output as long as is told; that stands at the front of the caller's
-- room if it fits, and the room is as it was if it does not
pub record Gives (profile : Profile) (tables : List Shared) (limits : Limits) (to : To) (stream : List ℕ) (v : Verdict) (needed : ℕ) (before after : List ℕ) : Type 0 where
  pub output : List ℕ
  pub has_verdict : HasVerdictWith profile tables limits to stream v output
  pub told : needed ≡ length output
  pub fits : length output ≤ length before → after ≡ output ++ drop (length output) before
  pub does_not_fit : length before < length output → after ≡ before

-- a status of a stream with these tables, the answer beside it, and what was left in the room. 0: accepted; 1: refused; 2: no memory; 3: it is
-- longer than the limit on the input; 4: no memory for the output
pub record AnswersWith (profile : Profile) (tables : List Shared) (limits : Limits) (to : To) (stream : List ℕ) (status : ℕ) (old new : CozgeltAnswer) (before after : List ℕ) : Type 0 where
  pub accepted : status ≡ 0 → Gives profile tables limits to stream (Accepted new.values) new.needed before after
  pub refused : status ≡ 1 → (r : Reason) × (new.reason ≡ number_of r)
      × Gives profile tables limits to stream (Rejected r new.place) new.needed before after
  pub long : status ≡ 3 → limits.input < length stream
  pub known : status ≤ 4
  pub room_kept : 1 < status → after ≡ before
  pub accepted_keeps : status ≡ 0 → new ≡ record old { values = new.values; needed = new.needed }
  pub refused_keeps : status ≡ 1 → new ≡ record old { reason = new.reason; place = new.place; needed = new.needed }
  pub answer_kept : 1 < status → new ≡ old

-- a status of a call under a profile, the answer beside it, and what was left in the room: that of the stream with the tables of the catalogue,
-- and beside these 3: the catalogue is longer than the limit on the input; 5: structs of another size, or limits above their maxima; 6: the
-- catalogue is refused, which is read as without floats under each profile
pub record AnswersBy (profile : Profile) (limits : CozgeltLimits) (to : To) (catalog stream : List ℕ) (status : ℕ) (old new : CozgeltAnswer) (before after : List ℕ) : Type 0 where
  pub accepted : status ≡ 0 → (tables : List Shared) × IsCatalog (limits_of limits) catalog tables
      × Gives profile tables (limits_of limits) to stream (Accepted new.values) new.needed before after
  pub refused : status ≡ 1 → (tables : List Shared) × IsCatalog (limits_of limits) catalog tables × (r : Reason) × (new.reason ≡ number_of r)
      × Gives profile tables (limits_of limits) to stream (Rejected r new.place) new.needed before after
  pub long : status ≡ 3 → (limits.input < length catalog) ⊎ (limits.input < length stream)
  pub valid : status ≢ 5 → AreValid limits old
  pub invalid : status ≡ 5 → AreValid limits old → ⊥
  pub catalog_refused : status ≡ 6 → (r : Reason) × (new.reason ≡ number_of r) × HasCatalogVerdict (limits_of limits) catalog (Rejected r new.place)
  pub known : status ≤ 6
  pub room_kept : 1 < status → after ≡ before
  pub accepted_keeps : status ≡ 0 → new ≡ record old { values = new.values; needed = new.needed }
  pub refused_keeps : status ≡ 1 → new ≡ record old { reason = new.reason; place = new.place; needed = new.needed }
  pub catalog_keeps : status ≡ 6 → new ≡ record old { reason = new.reason; place = new.place }
  pub answer_kept : 1 < status → status ≢ 6 → new ≡ old

-- of a call that is given no profile: no float is read other than `null.float`
abbrev pub Answers : CozgeltLimits → To → List ℕ → List ℕ → ℕ → CozgeltAnswer → CozgeltAnswer → List ℕ → List ℕ → Type 0
Answers limits to catalog stream status old new before after = AnswersBy strict limits to catalog stream status old new before after

-- of a call that is given the number of a profile; a number that names none is answered by 5, and room and answer are as they were
pub record AnswersAt (number : ℕ) (limits : CozgeltLimits) (to : To) (catalog stream : List ℕ) (status : ℕ) (old new : CozgeltAnswer) (before after : List ℕ) : Type 0 where
  pub named : (profile : Profile) → profile_of number ≡ Some profile → AnswersBy profile limits to catalog stream status old new before after
  pub unnamed : profile_of number ≡ None → (status ≡ 5) × (new ≡ old) × (after ≡ before)

-- ---- of a catalogue that is loaded once

-- why a catalogue is not loaded, by status, and the answer beside it. 2: no memory; 3: it is longer than the limit on the input; 6: it is refused
pub record WhyNotLoaded (limits : Limits) (catalog : List ℕ) (status : ℕ) (old new : CozgeltAnswer) : Type 0 where
  pub long : status ≡ 3 → limits.input < length catalog
  pub refused : status ≡ 6 → (r : Reason) × (new.reason ≡ number_of r) × HasCatalogVerdict limits catalog (Rejected r new.place)
  pub above : 1 < status
  pub known : status ≤ 6
  pub no_others : (status ≢ 4) × (status ≢ 5)
  pub refused_keeps : status ≡ 6 → new ≡ record old { reason = new.reason; place = new.place }
  pub answer_kept : status ≢ 6 → new ≡ old

-- a status of the loading of a catalogue, the tables of the handle before and after it, and the answer beside it. 0: they are those of the catalogue;
-- 5: structs of another size, or limits above their maxima; 2, 3 and 6 as above. But for 0 the handle has the tables that it had
pub record Loads (limits : CozgeltLimits) (catalog : List ℕ) (status : ℕ) (before after : List Shared) (old new : CozgeltAnswer) : Type 0 where
  pub loaded : status ≡ 0 → IsCatalog (limits_of limits) catalog after
  pub tables_kept : status ≢ 0 → after ≡ before
  pub long : status ≡ 3 → limits.input < length catalog
  pub valid : status ≢ 5 → AreValid limits old
  pub invalid : status ≡ 5 → AreValid limits old → ⊥
  pub refused : status ≡ 6 → (r : Reason) × (new.reason ≡ number_of r) × HasCatalogVerdict (limits_of limits) catalog (Rejected r new.place)
  pub known : status ≤ 6
  pub no_others : (status ≢ 1) × (status ≢ 4)
  pub refused_keeps : status ≡ 6 → new ≡ record old { reason = new.reason; place = new.place }
  pub answer_kept : status ≢ 6 → new ≡ old

-- a status of a call under a profile with the tables of a handle: that of the stream with these tables; and 5 as above, where room and answer are as
-- they were
pub record AnswersFrom (profile : Profile) (limits : CozgeltLimits) (to : To) (tables : List Shared) (stream : List ℕ) (status : ℕ) (old new : CozgeltAnswer) (before after : List ℕ) : Type 0 where
  pub answers : status ≢ 5 → AnswersWith profile tables (limits_of limits) to stream status old new before after
  pub valid : status ≢ 5 → AreValid limits old
  pub invalid : status ≡ 5 → AreValid limits old → ⊥
  pub invalid_keeps : status ≡ 5 → (new ≡ old) × (after ≡ before)

-- of a call that is given the number of a profile; and whatever catalogue the tables are of under these limits, the call that is given its bytes
-- answers so
pub record AnswersLoaded (number : ℕ) (limits : CozgeltLimits) (to : To) (tables : List Shared) (stream : List ℕ) (status : ℕ) (old new : CozgeltAnswer) (before after : List ℕ) : Type 0 where
  pub named : (profile : Profile) → profile_of number ≡ Some profile → AnswersFrom profile limits to tables stream status old new before after
  pub unnamed : profile_of number ≡ None → (status ≡ 5) × (new ≡ old) × (after ≡ before)
  pub as_of_bytes : (catalog : List ℕ) → IsCatalog (limits_of limits) catalog tables → AnswersAt number limits to catalog stream status old new before after
