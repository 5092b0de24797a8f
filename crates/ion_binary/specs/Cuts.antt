-- Where binary may be cut so that each part is read by itself: after each whole value at top level, whatever follows it. Laws that contracts cite.
use Rattle.std.specs.Prelude.{◌≡◌, ℕ, ◌+◌, true, List, [], ◌∷◌, ◌++◌, length}
use Rattle.ion_meter.specs.declared.fault.Reason.{Reason}
use Rattle.ion_meter.specs.declared.fault.Reason.TheVariants.{Truncated}
use Rattle.ion_meter.specs.declared.profile.Rules.{Rules}
use Rattle.ion_meter.specs.Sources.{Cursor}
use Rattle.ion_value.specs.Further.{further}
use Rattle.ion_value.specs.Reading.{Reading, Finished, Stopped, More, Leaves, items_then}
use Rattle.ion_value.specs.ReadingLaws.{ending_of}
use Rattle.ion_value.specs.Standing.{is_marker}
use Rattle.ion_value.specs.Value.{PlacedItem}
use Rattle.ion_binary.specs.Positions.{State}
use Rattle.ion_binary.specs.Reading.{step, start, reading, reading_from}

-- these bytes are to be read, from a place on
abbrev pub at : ℕ → List ℕ → Cursor
at place rest = record { place = place; rest = rest }

-- bytes that are read to their end are read so, whatever follows, and then what follows is read from there on
abbrev pub WholeValuesAreCut : Type 0
WholeValuesAreCut =
    (limits : Rules) (y z : List ℕ) (items : List PlacedItem) → reading limits y ≡ items_then items Finished
    → reading limits (y ++ z) ≡ items_then items (reading_from limits (at (length y) z))

-- a reading comes from a state to where nothing is open, and these bytes are left
pub data ComesTo (limits : Rules) (rest : List ℕ) : State → Type 0 where
  now : (s : State) → s.frames ≡ [] → s.cursor.rest ≡ rest → ComesTo limits rest s
  later : (s t : State) → Leaves (step limits s) t → ComesTo limits rest t → ComesTo limits rest s

-- wherever it does, what stands before these bytes is read to its end: so behind each value at top level a stream may be cut
abbrev pub EachEndIsACut : Type 0
EachEndIsACut = (limits : Rules) (y z : List ℕ) → ComesTo limits z (start (y ++ z)) → ending_of (reading limits y) ≡ Finished

-- nothing in what is read hangs on where its bytes begin, but the places
abbrev pub NothingHangsOnPlaces : Type 0
NothingHangsOnPlaces = (limits : Rules) (place far : ℕ) (rest : List ℕ) → reading_from limits (at (place + far) rest) ≡ further far (reading_from limits (at place rest))

-- so a part is read as bytes of their own, but for the places
abbrev pub PartsAreRead : Type 0
PartsAreRead = (limits : Rules) (place : ℕ) (rest : List ℕ) → reading_from limits (at place rest) ≡ further place (reading limits rest)

-- a reading, and one of which more is known: the items of the first come first in the second, and then the refusal of the first, unless the
-- first ends, or is refused since its bytes end
pub data GoesOnAs : Reading → Reading → Type 0 where
  at_end : (r : Reading) → GoesOnAs Finished r
  cut_short : (place : ℕ) (r : Reading) → GoesOnAs (Stopped Truncated place) r
  refused : (reason : Reason) (place : ℕ) → GoesOnAs (Stopped reason place) (Stopped reason place)
  with_item : (item : PlacedItem) (r s : Reading) → GoesOnAs r s → GoesOnAs (More item r) (More item s)

-- so it is where more bytes follow
abbrev pub MoreBytesGoOn : Type 0
MoreBytesGoOn = (limits : Rules) (bytes more : List ℕ) → GoesOnAs (reading limits bytes) (reading limits (bytes ++ more))

-- a reading that stops at once, or whose first item is a version marker
pub data BeginsWithMarker : Reading → Type 0 where
  stops_at_once : (reason : Reason) (place : ℕ) → BeginsWithMarker (Stopped reason place)
  marker_first : (item : PlacedItem) (r : Reading) → is_marker item.head ≡ true → BeginsWithMarker (More item r)

-- so begins each binary stream, whose first octet is E0
abbrev pub StreamsBeginWithMarker : Type 0
StreamsBeginWithMarker = (limits : Rules) (rest : List ℕ) → BeginsWithMarker (reading limits (224 ∷ rest))
