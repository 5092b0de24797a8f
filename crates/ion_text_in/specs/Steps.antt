-- What is seen of the reader, and what one step of it asks for, gives, keeps and moves.
use Rattle.std.specs.Prelude.{◌≡◌, ℕ, ◌+◌, ◌*◌, ◌-◌, ◌^◌, ◌<◌, ◌≤◌, Bool, true, false, List, [], length, reverse, Option, Some, None, Result, Ok, Err, OnOk}
use Rattle.std.proofs.Common.{arith}
use Rattle.std.proofs.lemmas.List.{length-reverse}
use Rattle.ion_meter.specs.Counts.{Counts}
use Rattle.ion_meter.specs.declared.device.Input.{Ghosts as InputOf}
use Rattle.ion_meter.specs.declared.fault.Fault.{Fault}
use Rattle.ion_meter.specs.declared.fault.Fault.TheVariants.{Refused, Memory, ReadFault, WriteFault, InputLimit}
use Rattle.ion_meter.specs.declared.fault.Reason.{Reason}
use Rattle.ion_meter.specs.declared.fault.Reason.TheVariants.{Truncated}
use Rattle.ion_meter.specs.declared.profile.Rules.{Rules}
use Rattle.ion_meter.specs.Rules.{AreSmall}
use Rattle.ion_meter.specs.Sources.{Cursor, cursor, Exceeds, Stands, Moves}
use Rattle.ion_meter.specs.Windows.{Incoming, left}
use Rattle.ion_value.specs.declared.ion_type.Kind.{Kind}
use Rattle.ion_value.specs.Shares.{fault_of, Charges, GoesWithReading, GrowsWithin, ReadCauses}
use Rattle.ion_value.specs.Parts.{Placed, part}
use Rattle.ion_value.specs.Reading.{Reading, Finished, Stopped, More, Step, next_reading, reading_by}
use Rattle.ion_value.specs.Standing.{Fits, ReadsWithin, open_after}
use Rattle.ion_value.specs.Value as value
use Rattle.ion_value.specs.Value.{SymbolAt, Head, PlacedItem}
use Rattle.ion_text_in.specs.declared.token.Symbol.{Symbol}
use Rattle.ion_text_in.specs.declared.reader.ItemKind.{ItemKind}
use Rattle.ion_text_in.specs.declared.reader.ItemKind.TheVariants as kind
use Rattle.ion_text_in.specs.declared.reader.StepResult.{StepResult}
use Rattle.ion_text_in.specs.declared.reader.StepResult.TheVariants as step_result
use Rattle.ion_text_in.specs.declared.reader.TextReader.{TextReader}
use Rattle.ion_text_in.specs.Blanks.{blanks}
use Rattle.ion_text_in.specs.Positions.{State, innermost, at}
use Rattle.ion_text_in.specs.Reading.{step, step_of, size, take, with_annotation, after_member, final_step, field_step, item_step, part_from, tells_version, value_or_version}
use Rattle.ion_text_in.specs.Token as tokens
use Rattle.ion_text_in.specs.Tokens.{as_symbol, as_scalar, going, BodyInRange}
use Rattle.ion_text_in.specs.Symbols.{as_field, as_annotations, AreKept}
use Rattle.ion_text_in.specs.Expecting.{wanted, MayExpect}

-- ---- what is seen of a reader

-- the head of the item that is lent: `text` has the bytes of its scalar, and `place` is where the head begins
abbrev pub as_head : List ℕ → ℕ → ItemKind → Head SymbolAt
as_head text place (kind.Scalar body) = value.whole (as_scalar text place body)
as_head text place (kind.Begin k) = value.begin k
as_head text place kind.End = value.end
as_head text place kind.Marker = value.marker

-- the field that was read of its item, where there is one
abbrev pub field_in : {I A : Type 0} → TextReader I A → Option SymbolAt
field_in r = as_field r.name r.field

-- the annotations that were read of its item, in order
abbrev pub annotations_in : {I A : Type 0} → TextReader I A → List SymbolAt
annotations_in r = as_annotations r.texts r.annotations

-- the item that it lends
abbrev pub lent_by : {I A : Type 0} → TextReader I A → PlacedItem
lent_by r = record { field = field_in r; annotations = annotations_in r; head = as_head r.text r.place r.what; place = r.place; top = r.top }

-- the kinds of its open containers, the innermost first
abbrev pub opened_in : {I A : Type 0} → TextReader I A → List Kind
opened_in r = reverse r.kinds

-- the source that it reads
abbrev pub source_of : {I A : Type 0} → TextReader I A → Incoming I
source_of r = r.source

-- its limits
abbrev pub limits_of : {I A : Type 0} → TextReader I A → Rules
limits_of r = r.limits

-- the fault that it answered, which it answers again
abbrev pub failed_of : {I A : Type 0} → TextReader I A → Option Fault
failed_of r = r.failed

-- it has answered that its stream ends
abbrev pub HasEnded : {I A : Type 0} → TextReader I A → Type 0
HasEnded r = r.done ≡ true

-- its stream has neither ended nor failed
abbrev pub IsGoing : {I A : Type 0} → TextReader I A → Type 0
IsGoing r = (r.done ≡ false) × (r.failed ≡ None)

-- the counted bytes that it holds
abbrev pub held_by : {I A : Type 0} → TextReader I A → ℕ
held_by r = 4096 + 16 * length r.kinds + 16 * length r.annotations + length r.texts + length r.name + length r.text

-- the most counted bytes that it may hold, by its limits
abbrev pub share_of : {I A : Type 0} → TextReader I A → ℕ
share_of r = 4096 + 16 * r.limits.depth + 3 * r.limits.scalar

-- what falls with each token
abbrev pub left_to : {I A : Type 0} → TextReader I A → ℕ
left_to r = r.source.limit - r.source.place

-- ---- what holds of a reader

-- of its parts at all times
pub record IsSized {I A : Type 0} (r : TextReader I A) : Type 0 where
  pub checked : AreSmall r.limits
  pub few : length r.kinds ≤ r.limits.depth
  pub annotated : 16 * length r.annotations + length r.texts ≤ r.limits.scalar
  pub name : length r.name ≤ r.limits.scalar
  pub text : length r.text ≤ r.limits.scalar

-- between two items, while it has not failed
pub record IsReady {I A : Type 0} (r : TextReader I A) : Type 0 where
  pub stands : Stands r.source
  pub expects : MayExpect r.expected (opened_in r) None []

-- inside an item
pub record IsInside {I A : Type 0} (r : TextReader I A) : Type 0 where
  pub stands : Stands r.source
  pub expects : MayExpect r.expected (opened_in r) r.field r.annotations
  pub kept : AreKept r.annotations r.texts
  pub finished : r.unfinished ≡ None

-- and so that an item that is no container's may be given
abbrev pub MayGive : {I A : Type 0} → TextReader I A → ItemKind → Type 0
MayGive r (kind.Scalar body) = BodyInRange body
MayGive r kind.Marker = (opened_in r ≡ []) × (annotations_in r ≡ [])
MayGive r (kind.Begin k) = ⊥
MayGive r kind.End = ⊥

-- between calls
pub record IsSound {I A : Type 0} (r : TextReader I A) : Type 0 where
  pub sized : IsSized r
  pub small : r.source.limit ≤ 2 ^ 48
  pub ready : r.failed ≡ None → IsReady r
  pub one_ending : r.done ≡ true → r.failed ≡ None

-- ---- where its reading is

-- all that is to come from a state on
abbrev pub later : Rules → State → Reading
later limits s = reading_by (step limits) size s

-- all that is to come where this is the next step, or its fault
abbrev pub comes : Rules → Placed (Step State) → Reading
comes limits o = next_reading (later limits) (step_of o)

-- where a comment does not end, this is a fault
abbrev pub unless_unfinished : Option ℕ → Reading → Reading
unless_unfinished None r = r
unless_unfinished (Some start) r = Stopped Truncated start

-- inside an item, its input going on here
abbrev pub state_at : {I A : Type 0} → Cursor → TextReader I A → State
state_at c r = record { kinds = opened_in r; top = r.top; wants = wanted r.expected (field_in r) (annotations_in r); cursor = c }

-- all that is to come where the reader stands inside an item, by what is left of the device
abbrev pub to_come_in : {I A : Type 0} → InputOf I → TextReader I A → Reading
to_come_in device r = later r.limits (state_at (cursor device r.source) r)

-- between two items
abbrev pub state_after : {I A : Type 0} → Cursor → TextReader I A → State
state_after c r = record { kinds = opened_in r; top = r.top; wants = wanted r.expected None []; cursor = c }

-- all that is to come where the reader stands between two items, by what is left of the device
abbrev pub to_come_by : {I A : Type 0} → InputOf I → TextReader I A → Reading
to_come_by device r = unless_unfinished r.unfinished (later r.limits (state_after (cursor device r.source) r))

-- what a token makes of it
abbrev pub taking : {I A : Type 0} → TextReader I A → ℕ → tokens.Token → Cursor → Reading
taking r place token c = comes r.limits (take r.limits (opened_in r) r.top (wanted r.expected (field_in r) (annotations_in r)) place token c)

-- the token that so begins, here
abbrev pub part_by : {I A : Type 0} → InputOf I → TextReader I A → tokens.First → Reading
part_by device r first = comes r.limits (part_from r.limits (state_at (cursor device r.source) r) (cursor device r.source) first)

-- the end of the input, or a comment that begins at a place and does not end
abbrev pub ending : {I A : Type 0} → TextReader I A → Option ℕ → Reading
ending r start = unless_unfinished start (comes r.limits (final_step (opened_in r) (wanted r.expected (field_in r) (annotations_in r)) r.source.place))

-- an item that is no container's
abbrev pub giving : {I A : Type 0} → TextReader I A → ItemKind → ℕ → Cursor → Reading
giving r what place c =
    comes r.limits (Ok (item_step (opened_in r) r.top (field_in r) (annotations_in r) place (as_head r.text place what) (opened_in r) (after_member (innermost (opened_in r))) c))

-- all that is to come where a symbol was read with two colons before the cursor: it is an annotation
abbrev pub with_colons : {I A : Type 0} → TextReader I A → Symbol → ℕ → Cursor → Reading
with_colons r symbol place c = comes r.limits (part place (with_annotation r.limits (opened_in r) r.top (field_in r) (annotations_in r) (at (as_symbol r.text symbol) place) c))

-- all that is to come where a symbol without two colons was read: it is a value or a version marker
abbrev pub without_colons : {I A : Type 0} → TextReader I A → Symbol → Bool → ℕ → Cursor → Reading
without_colons r symbol quoted place c =
    comes r.limits (part place (value_or_version (opened_in r) r.top (field_in r) (annotations_in r) (at (as_symbol r.text symbol) place) c
    (tells_version (innermost (opened_in r)) (annotations_in r) quoted (as_symbol r.text symbol))))

-- all that is to come where a field's name was read
abbrev pub naming : {I A : Type 0} → TextReader I A → Symbol → ℕ → Cursor → Reading
naming r symbol place c = comes r.limits (field_step (opened_in r) r.top (at (as_symbol r.text symbol) place) c)

-- ---- a step

-- it may begin
pub record CanStep {I A : Type 0} (r : TextReader I A) (meter : Counts) : Type 0 where
  pub room : meter.held ≤ 2 ^ 62 + held_by r
  pub held : held_by r ≤ meter.held
  pub countable : meter.refused < 2 ^ 64 - 1
  pub sized : IsSized r
  pub inside : IsInside r

-- and all steps up to an item, between two items
pub record CanAdvance {I A : Type 0} (r : TextReader I A) (meter : Counts) : Type 0 where
  pub room : meter.held ≤ 2 ^ 62
  pub held : held_by r ≤ meter.held
  pub countable : meter.refused < 2 ^ 64 - 1
  pub sized : IsSized r
  pub ready : IsReady r

-- what a step does, by what was to come before
abbrev pub StepGives : {I A : Type 0} → InputOf I → Reading → TextReader I A → Result StepResult Fault → Type 0
StepGives device before new (Ok step_result.Ended) = (before ≡ Finished) × (to_come_by device new ≡ Finished) × (left device.rest new.source ≡ [])
StepGives device before new (Ok step_result.Passed) = before ≡ to_come_in device new
StepGives device before new (Ok step_result.Item) = before ≡ More (lent_by new) (to_come_by device new)
StepGives device before new (Err (Refused reason place)) = before ≡ Stopped reason place
StepGives device before new (Err Memory) = Unit {0}
StepGives device before new (Err ReadFault) = Unit {0}
StepGives device before new (Err WriteFault) = Unit {0}
StepGives device before new (Err InputLimit) = Unit {0}

-- how it leaves the reader
abbrev pub ReadyAfter : {I A : Type 0} → Result StepResult Fault → TextReader I A → Type 0
ReadyAfter (Ok step_result.Ended) r = IsReady r
ReadyAfter (Ok step_result.Passed) r = IsInside r
ReadyAfter (Ok step_result.Item) r = IsReady r
ReadyAfter (Err fault) r = Unit {0}

-- what a call keeps and moves, whether it took an item, and whatever its fault
pub record Stepped {I A : Type 0} (device : InputOf I) (took : Type 0) (fault : Option Fault) (old new : TextReader I A) (earlier later : Counts) : Type 0 where
  -- the containers that are open
  pub opens : took → opened_in new ≡ open_after (opened_in old) (lent_by new).head
  pub stays : (took → ⊥) → new.kinds ≡ old.kinds
  pub fits : took → Fits old.limits.depth (opened_in old) (lent_by new)
  -- what stays
  pub limits : new.limits ≡ old.limits
  pub done : new.done ≡ old.done
  pub failed : new.failed ≡ old.failed
  -- the input, faults and memory
  pub sized : IsSized new
  pub moves : Moves device old.source new.source
  pub causes : ReadCauses fault earlier later (device.failure_count old.source.device) (device.failure_count new.source.device) (Exceeds device old.source)
  pub charges : Charges earlier later (held_by old) (held_by new) (share_of old)

-- what a step does. `before` is what was to come where its token ended at a cursor: after it blanks were passed over, up to where the source
-- stands, or all that is left where a comment begins at `start` that does not end. It takes so many counted bytes more, and 16 for each that it
-- passes over
pub record StepsTo {I A : Type 0} (device : InputOf I) (start : Option ℕ) (before : Cursor → Reading) (more : ℕ) (old new : TextReader I A) (earlier later : Counts) (result : Result StepResult Fault) : Type 0 where
  pub gives : device.observable old.source.device → (d : Cursor) → blanks d ≡ going start (cursor device old.source) → StepGives device (before d) new result
  pub ready : ReadyAfter result new
  pub stepped : Stepped device (result ≡ Ok step_result.Item) (fault_of result) old new earlier later
  pub goes : GrowsWithin earlier later (held_by old) (held_by new) (more + 16 * (left_to old - left_to new))

-- what a call for the next item does
pub record Advances {I A : Type 0} (device : InputOf I) (old new : TextReader I A) (earlier later : Counts) (result : Result Bool Fault) : Type 0 where
  pub gives : device.observable old.source.device → result ≡ Ok true → to_come_by device old ≡ More (lent_by new) (to_come_by device new)
  pub ends : device.observable old.source.device → result ≡ Ok false → (to_come_by device old ≡ Finished) × (to_come_by device new ≡ Finished) × (left device.rest new.source ≡ [])
  pub refuses : device.observable old.source.device → (r : Reason) (p : ℕ) → result ≡ Err (Refused r p) → to_come_by device old ≡ Stopped r p
  pub ready : OnOk result (IsReady new)
  pub falls : result ≡ Ok true → left_to new < left_to old
  pub stepped : Stepped device (result ≡ Ok true) (fault_of result) old new earlier later
  pub goes : GoesWithReading earlier later (held_by old) (held_by new) (left_to old) (left_to new)

-- ---- memory

-- what holds of the memory, the depth and the items to come of every reader
pub sound-within : {I A : Type 0} (r : TextReader I A) → IsSound r → ReadsWithin (held_by r) (share_of r) r.limits.depth (length (opened_in r)) (left_to r)
sound-within r sound = record {
  share = omega (arith, sound.sized.few, sound.sized.annotated, sound.sized.name, sound.sized.text);
  small = omega (arith, sound.sized.checked.scalar, sound.sized.checked.depth);
  deep = sound.sized.checked.depth;
  level = omega (arith, sound.sized.few, length-reverse r.kinds);
  few = omega (arith, sound.small);
}
