-- What one step of the writer asks for, puts, keeps and moves.
use Rattle.std.specs.Prelude.{◌≡◌, ℕ, ◌*◌, ◌-◌, ◌^◌, ◌<◌, ◌≤◌, Bool, true, false, List, [], length, ◌++◌, Option, Some, None, Result, Err, OnOk, IfErr}
use Rattle.ion_meter.specs.Counts.{Counts}
use Rattle.ion_meter.specs.Sinks.{IsPut}
use Rattle.ion_meter.specs.Windows.{Outgoing, so_far, Puts, PutsPart}
use Rattle.ion_meter.specs.declared.device.Output.{Ghosts as OutputOf}
use Rattle.ion_meter.specs.declared.fault.Fault.{Fault}
use Rattle.ion_meter.specs.declared.fault.Fault.TheVariants.{Memory, WriteFault}
use Rattle.ion_meter.specs.declared.limits.Limits.{Limits}
use Rattle.ion_value.specs.Shares.{Charges}
use Rattle.ion_value.specs.Standing.{HeadInRange}
use Rattle.ion_value.specs.Value.{Head, PlacedItem}
use Rattle.ion_text_out.specs.declared.writer.LaidOut.{LaidOut}
use Rattle.ion_text_out.specs.Lane.{plain_scalar}
use Rattle.ion_text_out.specs.Layout.{Layout}
use Rattle.ion_text_out.specs.Text.{Open, item_text}
use Rattle.ion_text_out.specs.Writing.{shown, HasRoom, IsReady, Shows}
use Rattle.ion_value.specs.Value.{user_item}

-- the containers that it has open
abbrev pub opened_in : {L A : Type 0} → LaidOut L A → Open
opened_in w = shown w.kinds w.empty

-- its limits
abbrev pub limits_of : {L A : Type 0} → LaidOut L A → Limits
limits_of w = w.limits

-- the fault that it answered
abbrev pub failed_of : {L A : Type 0} → LaidOut L A → Option Fault
failed_of w = w.failed

-- what it has put is these items
abbrev pub HasShown : {L A : Type 0} → LaidOut L A → List PlacedItem → Type 0
HasShown w path = (w.failed ≡ None) × Shows w.kinds w.empty path

-- it has put nothing, and nothing has failed
abbrev pub HasPutNothing : {L A : Type 0} → LaidOut L A → Type 0
HasPutNothing w = (w.kinds ≡ []) × (w.failed ≡ None)

-- the counted bytes that it holds
abbrev pub held_by : {L A : Type 0} → LaidOut L A → ℕ
held_by w = 16 * length w.kinds

-- the most counted bytes that it may hold, by its limits
abbrev pub share_of : {L A : Type 0} → LaidOut L A → ℕ
share_of w = 16 * w.limits.depth

-- what holds of it between calls: its limits are checked, and no more containers are open than may be
abbrev pub IsSound : {L A : Type 0} → LaidOut L A → Type 0
IsSound w = IsReady w.limits (length w.kinds)

-- there is room for what begins here
abbrev pub HasRoomFor : {L A S : Type 0} → LaidOut L A → Head S → Type 0
HasRoomFor w head = HasRoom w.limits.depth (length w.kinds) head

-- what comes is within its range, and there is room for it
pub record MayCome {L A S : Type 0} (w : LaidOut L A) (head : Head S) : Type 0 where
  pub range : HeadInRange head
  pub fits : HasRoomFor w head

-- the text that an item adds here
abbrev pub text_of : {L A : Type 0} → Layout → LaidOut L A → PlacedItem → List ℕ
text_of layout w item = item_text layout (opened_in w) (user_item item)

-- a step may begin
pub record CanStep {L A : Type 0} (w : LaidOut L A) (meter : Counts) : Type 0 where
  pub room : meter.held ≤ 2 ^ 62
  pub held : held_by w ≤ meter.held
  pub countable : meter.refused < 2 ^ 64 - 1
  pub ready : IsSound w

-- what a step keeps and moves whatever it answers
pub record Stepped {L A : Type 0} (old new : LaidOut L A) (before after : Counts) : Type 0 where
  pub ready : IsSound new
  pub limits : new.limits ≡ old.limits
  pub failed : new.failed ≡ old.failed
  pub charges : Charges before after (held_by old) (held_by new) (share_of old)

-- where the sink had not failed before, these bytes are put; else its fault is passed on, and nothing is changed
pub record PutsUnlessFailed {O T : Type 0} (device : OutputOf O) (old new : Outgoing O) (result : Result T Fault) (bytes : List ℕ) : Type 0 where
  pub well : OnOk result (old.fault ≡ None)
  pub cause : IfErr result (λ f. f ≡ WriteFault)
  pub passed : (f : Fault) → old.fault ≡ Some f → new ≡ old
  pub puts : old.fault ≡ None → IsPut device old new result bytes

-- where it answers well, this text was put, and where it fails, a prefix of it; nothing where the sink had failed before
pub record PutsText {O T : Type 0} (device : OutputOf O) (old new : Outgoing O) (result : Result T Fault) (text : List ℕ) : Type 0 where
  pub whole : OnOk result (device.observable old.device → so_far device.written new ≡ so_far device.written old ++ text)
  pub well : OnOk result (old.fault ≡ None → new.fault ≡ None)
  pub part : old.fault ≡ None → Puts device.written device.observable old new text
  pub cut : old.fault ≡ None → result ≡ Err Memory → PutsPart device.written device.observable old new text
  pub passed : (f : Fault) → old.fault ≡ Some f → new ≡ old

-- where it answers true, a scalar of this text was put after a name and annotations, and the writer stands after it; else nothing is changed
pub record TakesScalar {L A O : Type 0} (layout : Layout) (w moved : LaidOut L A) (old new : Outgoing O) (result : Bool) (name note text : List ℕ) : Type 0 where
  pub declines : result ≡ false → (moved ≡ w) × (new ≡ old)
  pub puts : result ≡ true → new ≡ record old { pending = old.pending ++ plain_scalar layout (opened_in w) name note text }
  pub after : result ≡ true → moved ≡ record w { empty = false }

-- where it answers true, this text was put, and these containers are open; else nothing is changed
pub record TakesHead {L A O : Type 0} (w moved : LaidOut L A) (before after : Counts) (old new : Outgoing O) (result : Bool) (text : List ℕ) (opened : Open) : Type 0 where
  pub declines : result ≡ false → (moved ≡ w) × (new ≡ old) × (after ≡ before)
  pub puts : result ≡ true → new ≡ record old { pending = old.pending ++ text }
  pub opens : result ≡ true → opened_in moved ≡ opened
  pub counted : after.refused ≡ before.refused
  pub stepped : Stepped w moved before after
