-- What the calls that gather a text answer and hold.
use Rattle.std.specs.Prelude.{◌≡◌, ℕ, ◌+◌, ◌-◌, ◌*◌, ◌^◌, ◌<◌, ◌≤◌, Bool, true, false, List, ◌++◌, length, Option, Some, Result, Ok, Err, OnOk, OnErr}
use Rattle.ion_meter.specs.Counts.{Counts}
use Rattle.ion_meter.specs.declared.device.Input.{Ghosts as InputOf}
use Rattle.ion_meter.specs.declared.fault.Fault.{Fault}
use Rattle.ion_meter.specs.declared.fault.Fault.TheVariants.{Refused, Memory, ReadFault, WriteFault, InputLimit}
use Rattle.ion_meter.specs.declared.fault.Reason.{Reason}
use Rattle.ion_meter.specs.declared.fault.Reason.TheVariants.{ScalarLimit}
use Rattle.ion_meter.specs.declared.profile.Rules.{Rules}
use Rattle.ion_meter.specs.Windows.{Incoming}
use Rattle.ion_meter.specs.Sources.{Cursor, Stands}
use Rattle.ion_value.specs.Calls.{ReadsInto, passed_over}
use Rattle.ion_value.specs.Digits.{first_is}
use Rattle.ion_value.specs.Parts.{Placed}
use Rattle.ion_value.specs.Shares.{Charges, GrowsWithin, fault_of}
use Rattle.ion_text_in.specs.Blanks.{is_white, blanks}
use Rattle.ion_text_in.specs.Limit.{passes}
use Rattle.ion_text_in.specs.Overrun.{overrun}
use Rattle.ion_text_in.specs.Places.{after_run}
use Rattle.ion_text_in.specs.Quoted.{Quote, segment_at}
use Rattle.ion_text_in.specs.Scanning.{Spelled, pieces, with_front}

-- ---- what is held

-- a text may grow up to a limit
pub record CanGrow (limits : Rules) (text : List ℕ) (meter : Counts) : Type 0 where
  pub holds : length text ≤ meter.held
  pub room : meter.held + limits.scalar < 2 ^ 63 + length text
  pub countable : meter.refused < 2 ^ 64 - 1
  pub checked : limits.scalar ≤ 2 ^ 30
  pub share : length text ≤ limits.scalar

-- and one that is read into
pub record CanGather {I : Type 0} (limits : Rules) (source : Incoming I) (text : List ℕ) (meter : Counts) : Type 0 where
  pub stands : Stands source
  pub grows : CanGrow limits text meter

-- what putting bytes after a text costs, and the causes of its faults
pub record Grown (earlier later : Counts) (before after most : ℕ) (fault : Option Fault) : Type 0 where
  pub charges : Charges earlier later before after most
  pub memory : fault ≡ Some Memory → earlier.refused < later.refused
  pub counted : (fault ≡ Some Memory → ⊥) → later.refused ≡ earlier.refused
  pub no_reads : fault ≡ Some ReadFault → ⊥
  pub no_writes : fault ≡ Some WriteFault → ⊥
  pub no_limit : fault ≡ Some InputLimit → ⊥

-- what a call that reads into a text keeps and moves whatever it answers; its memory goes with what it passes over
pub record Gathers {I T : Type 0} (device : InputOf I) (limits : Rules) (old new : Incoming I) (earlier later : Counts) (before after : List ℕ) (result : Result T Fault) : Type 0 where
  pub reads : ReadsInto device old new earlier later (length before) (length after) limits.scalar result
  pub goes : GrowsWithin earlier later (length before) (length after) (8 * passed_over old new)

-- ---- what is answered

-- bytes are put after a text, unless it then passes the limit
abbrev pub PutsOn : {T : Type 0} → List ℕ → List ℕ → List ℕ → ℕ → ℕ → Result T Fault → Type 0
PutsOn old new bytes limit place (Ok x) = (new ≡ old ++ bytes) × (passes (Some limit) (length old + length bytes) ≡ false)
PutsOn old new bytes limit place (Err (Refused reason at)) = (passes (Some limit) (length old + length bytes) ≡ true) × (reason ≡ ScalarLimit) × (at ≡ place)
PutsOn old new bytes limit place (Err Memory) = Unit {0}
PutsOn old new bytes limit place (Err ReadFault) = Unit {0}
PutsOn old new bytes limit place (Err WriteFault) = Unit {0}
PutsOn old new bytes limit place (Err InputLimit) = Unit {0}

-- what putting bytes after a text does and costs
pub record Puts {T : Type 0} (limits : Rules) (earlier later : Counts) (old new bytes : List ℕ) (place : ℕ) (result : Result T Fault) : Type 0 where
  pub puts : PutsOn old new bytes limits.scalar place result
  pub grown : Grown earlier later (length old) (length new) limits.scalar (fault_of result)
  pub goes : OnOk result (GrowsWithin earlier later (length old) (length new) (length bytes))
  pub still : OnErr result (GrowsWithin earlier later (length old) (length new) 0)

-- what is read from one place on is what a call leaves to be read, or a fault of a part at a place
abbrev pub Continues : {T A : Type 0} → Result T Fault → ℕ → Result A Reason → (T → Result A Reason) → Type 0
Continues (Ok x) place before after = before ≡ after x
Continues (Err (Refused reason at)) place before after = (before ≡ Err reason) × (at ≡ place)
Continues (Err Memory) place before after = Unit {0}
Continues (Err ReadFault) place before after = Unit {0}
Continues (Err WriteFault) place before after = Unit {0}
Continues (Err InputLimit) place before after = Unit {0}

-- bytes that were read, and the pieces after them
abbrev pub onward : Quote → ℕ → List ℕ → Cursor → Spelled
onward q limit text c = with_front text (pieces q (Some limit) (length text) c)

-- bytes that were read, and the segment after them
abbrev pub with_segment : Quote → ℕ → List ℕ → Cursor → Spelled
with_segment q limit text c = with_front text (segment_at q (Some limit) (length text) c)

-- ---- what is overrun after a text

-- what stands between the segments of a long text: white space in a clob, and comments too else
abbrev pub passed : Bool → Cursor → Placed Cursor
passed true c = Ok (after_run (first_is is_white) c)
passed false c = blanks c

-- a text and where it ends, which blanks follow that were passed over up to where the source stands
abbrev pub Overruns : {A : Type 0} → Bool → A → Result (Option ℕ) Fault → Cursor → ℕ → Result (A × Cursor) Reason → Type 0
Overruns in_clob text (Ok start) after place given = (d : Cursor) × (given ≡ Ok (text, d)) × (passed in_clob d ≡ overrun start after)
Overruns in_clob text (Err (Refused reason at)) after place given = (given ≡ Err reason) × (at ≡ place)
Overruns in_clob text (Err Memory) after place given = Unit {0}
Overruns in_clob text (Err ReadFault) after place given = Unit {0}
Overruns in_clob text (Err WriteFault) after place given = Unit {0}
Overruns in_clob text (Err InputLimit) after place given = Unit {0}
