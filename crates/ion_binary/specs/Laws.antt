-- What is true of the grammar and the reading: laws that contracts cite.
use Rattle.std.specs.Prelude.{◌≡◌, ◌≢◌, ℕ, ◌+◌, ◌*◌, ◌<◌, ◌≤◌, ◌⊎◌, List, [], ◌∷◌, ◌++◌, length, Option, Ok, ⊤}
use Rattle.std.specs.List.{AllByRecursion}
use Rattle.ion_meter.specs.declared.fault.Reason.{Reason}
use Rattle.ion_meter.specs.declared.fault.Reason.TheVariants.{Truncated, Float, DepthLimit, ScalarLimit, AnnotationLimit}
use Rattle.ion_meter.specs.declared.profile.Rules.{Rules}
use Rattle.ion_value.specs.declared.ion_type.Kind.{Kind}
use Rattle.ion_value.specs.Number.{VarUInt}
use Rattle.ion_value.specs.Scalar.{scalar_of_body}
use Rattle.ion_value.specs.Standing.{open_after_all}
use Rattle.ion_value.specs.Value.{Symbol, SymbolAt, Scalar, Top, PlacedItem}
use Rattle.ion_value.specs.Path.{Path, closed, path_items}
use Rattle.ion_value.specs.Reading.{Reading, Finished, Stopped, Shrinks, items_of, items_then}
use Rattle.ion_value.specs.ReadingLaws.{ending_of, IsLimit, Allows, ArePermitted, AreWithin, IsBegun}
use Rattle.ion_value.specs.Writable.{AreBytes, IsRaw}
use Rattle.ion_binary.specs.Bodies.{IsBodyTypeCode}
use Rattle.ion_binary.specs.Grammar.{Descriptor, Body, Ids, Header, Annotated, Tops, Stream}
use Rattle.ion_binary.specs.Paths.{FieldIn, IsPath, At, Follows}
use Rattle.ion_binary.specs.Positions.{Frame, State}
use Rattle.ion_binary.specs.Reading.{step, size, reading}

-- the bodies that the grammar has are read, each to its value, and no others are
abbrev pub Bodies : Type 0
Bodies = (t : ℕ) (v : Scalar Symbol) (b : List ℕ) → (Body t v b → scalar_of_body t b ≡ Ok v) × (scalar_of_body t b ≡ Ok v → Body t v b)

-- what is read is a path of the bytes, of what the rules permit, and the whole of them where reading finishes
pub record IsRead (limits : Rules) (bytes : List ℕ) (r : Reading) : Type 0 where
  pub path : Path SymbolAt ℕ
  pub place : ℕ
  pub is_path : IsPath bytes place path
  pub items : items_of r ≡ path_items path
  pub permitted : ArePermitted limits (items_of r)
  pub whole : ending_of r ≡ Finished → (ts : List (Top SymbolAt ℕ)) × (path ≡ closed ts) × (place ≡ length bytes) × Tops ts bytes

-- so it is of all bytes, under all rules
abbrev pub Sound : Type 0
Sound = (limits : Rules) (bytes : List ℕ) → IsRead limits bytes (reading limits bytes)

-- a step from where the bytes before it spell a path gives an item and the path with it, or it keeps the path; it ends where nothing is open and
-- nothing is left
abbrev pub EachStepFollows : Type 0
EachStepFollows = (limits : Rules) (bytes : List ℕ) (path : Path SymbolAt ℕ) (s : State) → At bytes path s → Follows bytes path s.frames s.cursor (step limits s)

-- each step takes an octet or closes a container
abbrev pub EachStepFalls : Type 0
EachStepFalls = (limits : Rules) → Shrinks (step limits) size

-- whatever path the bytes have, its items are read first where the limits allow them
abbrev pub Complete : Type 0
Complete =
    (limits : Rules) (bytes : List ℕ) (q : ℕ) (path : Path SymbolAt ℕ) → Allows limits bytes → IsPath bytes q path
    → ArePermitted limits (path_items path)
    → (rest : Reading) × (reading limits bytes ≡ items_then (path_items path) rest)

-- and a stream is read to its end
abbrev pub StreamsAreRead : Type 0
StreamsAreRead =
    (limits : Rules) (bytes : List ℕ) (ts : List (Top SymbolAt ℕ)) → Allows limits bytes → Tops ts bytes
    → ArePermitted limits (path_items (closed ts))
    → reading limits bytes ≡ items_then (path_items (closed ts)) Finished

-- the values of a stream of bytes are as streams have them: their numbers are in range, strings are text, and clobs and blobs bytes
abbrev pub StreamsAreRaw : Type 0
StreamsAreRaw = (bytes : List ℕ) (tops : List (Top SymbolAt ℕ)) → AreBytes bytes → Stream bytes tops → AllByRecursion IsRaw tops

-- a fault of rules that are narrower than others: a limit's, or that of floats where the others permit them
abbrev pub IsNarrower : Rules → Rules → Reason → Type 0
IsNarrower limits wide reason = IsLimit reason ⊎ ((reason ≡ Float) × (limits.floats ≢ wide.floats))

-- a reading is a prefix of another, up to such a fault
pub data IsCut (limits wide : Rules) : Reading → Reading → Type 0 where
  here : (reason : Reason) (place : ℕ) (r : Reading) → IsNarrower limits wide reason → IsCut limits wide (Stopped reason place) r
  later : (item : PlacedItem) (r s : Reading) → IsCut limits wide r s → IsCut limits wide (Reading.More item r) (Reading.More item s)

-- narrower rules change nothing, or cut the reading short by such a fault
abbrev pub Narrow : Type 0
Narrow =
    (limits wide : Rules) (bytes : List ℕ) → AreWithin limits wide
    → (reading limits bytes ≡ reading wide bytes) ⊎ IsCut limits wide (reading limits bytes) (reading wide bytes)

-- of two paths of the same bytes the items of one begin the other's
abbrev pub OnePath : Type 0
OnePath =
    (bytes : List ℕ) (q r : ℕ) (a b : Path SymbolAt ℕ) → IsPath bytes q a → IsPath bytes r b
    → IsBegun (path_items a) (path_items b) ⊎ IsBegun (path_items b) (path_items a)

-- the same bytes are one list of version markers and values
abbrev pub OneStream : Type 0
OneStream = (bytes : List ℕ) (a b : List (Top SymbolAt ℕ)) → Stream bytes a → Stream bytes b → a ≡ b

-- where a reading stops, and not at a limit, the bytes are no stream of values that the rules permit
abbrev pub RightlyRefused : Type 0
RightlyRefused =
    (limits : Rules) (bytes : List ℕ) (reason : Reason) (place : ℕ) (ts : List (Top SymbolAt ℕ))
    → ending_of (reading limits bytes) ≡ Stopped reason place → (IsLimit reason → ⊥) → Stream bytes ts
    → ArePermitted limits (path_items (closed ts)) → ⊥

-- a reading that stops, and not since the bytes end, stops so whatever bytes follow
abbrev pub Stable : Type 0
Stable =
    (limits : Rules) (bytes more : List ℕ) (items : List PlacedItem) (reason : Reason) (place : ℕ)
    → reading limits bytes ≡ items_then items (Stopped reason place) → reason ≢ Truncated
    → reading limits (bytes ++ more) ≡ items_then items (Stopped reason place)

-- and then, where the reason is no limit's either, no such stream begins with the bytes
abbrev pub NoStreamBegins : Type 0
NoStreamBegins =
    (limits : Rules) (bytes more : List ℕ) (reason : Reason) (place : ℕ) (ts : List (Top SymbolAt ℕ))
    → ending_of (reading limits bytes) ≡ Stopped reason place → (IsLimit reason → ⊥) → reason ≢ Truncated
    → Stream (bytes ++ more) ts → ArePermitted limits (path_items (closed ts)) → ⊥

-- a place is before the end of the innermost open container
abbrev pub IsBefore : List Frame → ℕ → Type 0
IsBefore [] place = ⊤
IsBefore (frame ∷ frames) place = place < frame.end

-- these octets stand next at a state, at a place: no container ends there, and they are after the field of a member, where it has one
pub record StandNext (s : State) (place : ℕ) (x : List ℕ) : Type 0 where
  pub inside : IsBefore s.frames s.cursor.place
  pub field : Option SymbolAt
  pub name : List ℕ
  pub rest : List ℕ
  pub field_is : FieldIn s.frames s.cursor.place field name
  pub split : s.cursor.rest ≡ name ++ (x ++ rest)
  pub place_is : place ≡ s.cursor.place + length name

-- these begin the next value: after the header of a wrapper, where it has one
pub record BeginNext (s : State) (place : ℕ) (x : List ℕ) : Type 0 where
  pub first : ℕ
  pub annotations : List SymbolAt
  pub n : ℕ
  pub wrapper : List ℕ
  pub stand : StandNext s first (wrapper ++ x)
  pub before : Annotated first annotations n wrapper
  pub place_is : place ≡ first + length wrapper

-- an annotation of the next wrapper, after others, within the length of its ids, after which it has room for a value: the first with which they
-- cost more than the limit, each counting 16
pub record PassesLimit (limits : Rules) (s : State) (place : ℕ) : Type 0 where
  pub first : ℕ
  pub size : ℕ
  pub ids_size : ℕ
  pub head : List ℕ
  pub len : List ℕ
  pub ids : List ℕ
  pub annotations : List SymbolAt
  pub id : ℕ
  pub octets : List ℕ
  pub stands : StandNext s first (((head ++ len) ++ ids) ++ octets)
  pub descriptor : Descriptor 14 size head
  pub ids_length : VarUInt ids_size len
  pub some_rest : length len + ids_size < size
  pub in_ids : length ids + length octets ≤ ids_size
  pub before : Ids (first + length (head ++ len)) annotations ids
  pub spells : VarUInt id octets
  pub place_is : place ≡ first + length ((head ++ len) ++ ids)
  pub within : 16 * length annotations ≤ limits.scalar
  pub above : limits.scalar < 16 * (length annotations + 1)

-- a limit is passed where a reading stands, at a place of the next value: by the header of one more container, by the descriptor of a
-- scalar that announces a longer body, or by an annotation
pub data Passes (limits : Rules) (s : State) (place : ℕ) : Reason → Type 0 where
  container : (k : Kind) (n : ℕ) (header : List ℕ) → BeginNext s place header → Header k n header → limits.depth ≤ length s.frames
      → Passes limits s place DepthLimit
  body : (t n : ℕ) (head : List ℕ) → BeginNext s place head → Descriptor t n head → IsBodyTypeCode t → limits.scalar < n
      → Passes limits s place ScalarLimit
  annotation : PassesLimit limits s place → Passes limits s place AnnotationLimit

-- a reading stops after a path, where so many containers are open, since a limit is passed there
pub record StopsAtLimit (limits : Rules) (bytes : List ℕ) (reason : Reason) (place : ℕ) : Type 0 where
  pub path : Path SymbolAt ℕ
  pub state : State
  pub stands : At bytes path state
  pub level : length (open_after_all [] (path_items path)) ≡ length state.frames
  pub passes : Passes limits state place reason
  pub read : reading limits bytes ≡ items_then (path_items path) (Stopped reason place)

-- a reading stops at a limit only where it is passed
abbrev pub ExactLimits : Type 0
ExactLimits =
    (limits : Rules) (bytes : List ℕ) (reason : Reason) (place : ℕ)
    → ending_of (reading limits bytes) ≡ Stopped reason place → IsLimit reason → StopsAtLimit limits bytes reason place

-- a stream that passes no limit at any place, of values that the rules permit, is read to its end
abbrev pub WithinLimitsAreRead : Type 0
WithinLimitsAreRead =
    (limits : Rules) (bytes : List ℕ) (tops : List (Top SymbolAt ℕ)) → Stream bytes tops → ArePermitted limits (path_items (closed tops))
    → ((path : Path SymbolAt ℕ) (s : State) (reason : Reason) (place : ℕ) → At bytes path s → Passes limits s place reason → ⊥)
    → reading limits bytes ≡ items_then (path_items (closed tops)) Finished

-- and one that passes a limit at some place is not: its reading stops at a limit
abbrev pub PassedLimitsStop : Type 0
PassedLimitsStop =
    (limits : Rules) (bytes : List ℕ) (tops : List (Top SymbolAt ℕ)) (path : Path SymbolAt ℕ) (s : State) (reason : Reason) (place : ℕ)
    → Stream bytes tops → ArePermitted limits (path_items (closed tops)) → At bytes path s → Passes limits s place reason
    → (why : Reason) × (stop : ℕ) × (ending_of (reading limits bytes) ≡ Stopped why stop) × IsLimit why
