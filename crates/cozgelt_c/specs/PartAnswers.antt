-- What the call that runs a stream in parts is given, answers and leaves.
use Rattle.std.specs.Prelude.{◌≡◌, ◌≢◌, ◌⊎◌, ◌≤◌, ◌<◌, ◌++◌, ℕ, zero, suc, Bool, true, false, List, [], Option, Some, None, length, take, drop}
use Rattle.ion_meter.specs.Reasons.{number_of}
use Rattle.ion_meter.specs.declared.fault.Reason.{Reason}
use Rattle.ion_meter.specs.declared.limits.Limits.{Limits}
use Rattle.ion_meter.specs.declared.profile.Profile.{Profile}
use Rattle.ion_value.specs.Outcome.{Accepted}
use Rattle.ion_symbols.specs.Table.{Shared}
use Rattle.ion_transcode.specs.declared.to.To.{To}
use Rattle.ion_transcode.specs.declared.to.To.TheVariants as to_what
use Rattle.ion_transcode.specs.PartCalls.{IsKept, IsRefused, Takes}
use Rattle.ion_transcode.specs.Verdict.{HasVerdictWith}
use Rattle.cozgelt_c.specs.declared.CozgeltLimits.{CozgeltLimits}
use Rattle.cozgelt_c.specs.declared.CozgeltAnswer.{CozgeltAnswer}
use Rattle.cozgelt_c.specs.declared.parts.CozgeltPart.{CozgeltPart}
use Rattle.cozgelt_c.specs.Calls.{AreValid, limits_of, profile_of}

-- ---- what is asked

-- as what a stream is written, by a caller's number, if it names that
abbrev pub to_of : ℕ → Option To
to_of zero = Some to_what.Text
to_of (suc zero) = Some to_what.Pretty
to_of (suc (suc zero)) = Some to_what.Binary
to_of (suc (suc (suc zero))) = Some to_what.Rewritten
to_of (suc (suc (suc (suc zero)))) = Some to_what.Nothing
to_of (suc (suc (suc (suc (suc number))))) = None

-- whether no bytes follow, by a caller's number, if it names that
abbrev pub last_of : ℕ → Option Bool
last_of zero = Some false
last_of (suc zero) = Some true
last_of (suc (suc number)) = None

-- the structs have the size that this version knows, no limit is above its maximum, each number names something, and no more bytes are
-- kept than their room has
pub record IsAsked (limits : CozgeltLimits) (part : CozgeltPart) (kept_room : ℕ) (answer : CozgeltAnswer) (profile : Profile) (to : To) (last : Bool) : Type 0 where
  pub valid : AreValid limits answer
  pub part_size : part.size ≡ 40
  pub profile_named : profile_of part.profile ≡ Some profile
  pub to_named : to_of part.to ≡ Some to
  pub last_named : last_of part.last ≡ Some last
  pub within : part.kept ≤ kept_room

-- what a call may change, as it finds it or leaves it: the part, the room of the bytes that are kept, that of the output, and the answer
pub record Handed : Type 0 where
  pub part : CozgeltPart
  pub kept : List ℕ
  pub room : List ℕ
  pub answer : CozgeltAnswer

-- the bytes that are kept: the front of their room
abbrev pub kept_in : Handed → List ℕ
kept_in handed = take handed.part.kept handed.kept

-- ---- what is answered

-- behind kept bytes a part comes to so many bytes taken with so many values, to these bytes that are kept then, and to this output. The
-- last part is taken whole, and what was kept stays; of another one the first bytes are, or nothing is, and then nothing was done
pub record ComesTo (profile : Profile) (tables : List Shared) (limits : Limits) (to : To) (last : Bool) (kept bytes : List ℕ) (taken values : ℕ) (then_kept output : List ℕ) : Type 0 where
  pub takes : last ≡ false → 0 < taken → IsKept profile tables limits kept
      → Takes profile tables limits to kept bytes taken values then_kept (Unit {0}) [] output
  pub nothing : last ≡ false → taken ≡ 0 → (values ≡ 0) × (then_kept ≡ kept) × (output ≡ [])
  pub whole : last ≡ true → (taken ≡ length bytes) × (then_kept ≡ kept) × HasVerdictWith profile tables limits to (kept ++ bytes) (Accepted values) output

-- bytes stand at the front of a room, and the rest of it is as it was
pub record StandsIn (bytes before after : List ℕ) : Type 0 where
  pub fits : length bytes ≤ length before
  pub stands : after ≡ bytes ++ drop (length bytes) before

-- the output and the bytes that are kept then stand in their rooms, and it is told how long they are
pub record IsHandedOut (output then_kept : List ℕ) (old new : Handed) : Type 0 where
  pub in_room : StandsIn output old.room new.room
  pub in_kept : StandsIn then_kept old.kept new.kept
  pub needed : new.answer.needed ≡ length output
  pub kept : new.part.kept ≡ length then_kept
  pub keeps : new.part.keeps ≡ length then_kept
  pub part_keeps : new.part ≡ record old.part { kept = new.part.kept; taken = new.part.taken; keeps = new.part.keeps }
  pub answer_keeps : new.answer ≡ record old.answer { values = new.answer.values; needed = new.answer.needed }

-- one of the two is longer than its room: it is told how long they are, and all else is as it was
pub record HasNoRoom (output then_kept : List ℕ) (old new : Handed) : Type 0 where
  pub longer : (length old.room < length output) ⊎ (length old.kept < length then_kept)
  pub needed : new.answer.needed ≡ length output
  pub keeps : new.part.keeps ≡ length then_kept
  pub rooms_kept : (new.kept ≡ old.kept) × (new.room ≡ old.room)
  pub part_keeps : new.part ≡ record old.part { keeps = new.part.keeps }
  pub answer_keeps : new.answer ≡ record old.answer { needed = new.answer.needed }

-- the part is taken, as far as it was
pub record IsTakenFrom (profile : Profile) (tables : List Shared) (limits : Limits) (to : To) (last : Bool) (bytes : List ℕ) (old new : Handed) : Type 0 where
  pub then_kept : List ℕ
  pub output : List ℕ
  pub comes : ComesTo profile tables limits to last (kept_in old) bytes new.part.taken new.answer.values then_kept output
  pub handed_out : IsHandedOut output then_kept old new

-- the part would be taken so, had there been room
pub record IsNotTaken (profile : Profile) (tables : List Shared) (limits : Limits) (to : To) (last : Bool) (bytes : List ℕ) (old new : Handed) : Type 0 where
  pub taken : ℕ
  pub values : ℕ
  pub then_kept : List ℕ
  pub output : List ℕ
  pub comes : ComesTo profile tables limits to last (kept_in old) bytes taken values then_kept output
  pub no_room : HasNoRoom output then_kept old new

-- the part is refused, at a place that is counted from its first byte; the output that comes before the fault stands at the front of the
-- room if it fits, and the room is as it was if it does not
pub record IsRefusedFrom (profile : Profile) (tables : List Shared) (limits : Limits) (to : To) (last : Bool) (bytes : List ℕ) (old new : Handed) : Type 0 where
  pub reason : Reason
  pub output : List ℕ
  pub refused : IsRefused profile tables limits to (kept_in old) bytes last reason new.answer.place (Unit {0}) [] output
  pub told : new.answer.reason ≡ number_of reason
  pub needed : new.answer.needed ≡ length output
  pub fits : length output ≤ length old.room → new.room ≡ output ++ drop (length output) old.room
  pub does_not_fit : length old.room < length output → new.room ≡ old.room
  pub part_kept : (new.part ≡ old.part) × (new.kept ≡ old.kept)
  pub answer_keeps : new.answer ≡ record old.answer { reason = new.answer.reason; place = new.answer.place; needed = new.answer.needed }

-- a status of a part that is run with these tables, and what is left then. 0: taken; 1: refused; 2: no memory; 3: kept bytes and part are
-- longer than the limit on the input; 4: no memory for the output; 7: no room for the output, or for what is kept then
pub record AnswersRun (profile : Profile) (tables : List Shared) (limits : Limits) (to : To) (last : Bool) (bytes : List ℕ) (status : ℕ) (old new : Handed) : Type 0 where
  pub taken : status ≡ 0 → IsTakenFrom profile tables limits to last bytes old new
  pub refused : status ≡ 1 → IsRefusedFrom profile tables limits to last bytes old new
  pub long : status ≡ 3 → limits.input < length (kept_in old ++ bytes)
  pub no_room : status ≡ 7 → IsNotTaken profile tables limits to last bytes old new
  pub known : (status ≤ 4) ⊎ (status ≡ 7)
  pub others_keep : 1 < status → status ≢ 7 → new ≡ old

-- a status of a call: that of the part that it is asked to run; or 5, exactly where nothing valid is asked, and then all is as it was
pub record AnswersPart (limits : CozgeltLimits) (tables : List Shared) (bytes : List ℕ) (status : ℕ) (old new : Handed) : Type 0 where
  pub answers : status ≢ 5 → (profile : Profile) × (to : To) × (last : Bool) × IsAsked limits old.part (length old.kept) old.answer profile to last
      × AnswersRun profile tables (limits_of limits) to last bytes status old new
  pub not_asked : status ≡ 5 → (profile : Profile) (to : To) (last : Bool) → IsAsked limits old.part (length old.kept) old.answer profile to last → ⊥
  pub invalid_keeps : status ≡ 5 → new ≡ old
