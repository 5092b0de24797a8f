-- What scanners say of octets that stand at a place of the stream, whatever octets follow them.
use Rattle.std.specs.Prelude.{◌≡◌, ℕ, ◌+◌, ◌-◌, ◌^◌, ◌<◌, ◌≤◌, Bool, true, false, not, ◌&&◌, ◌||◌, nat_le, nat_lt, nat_eq, if◌then◌else◌, List, [], ◌++◌, length, Option, Some, None, Result, Ok, Err, ⊤}
use Rattle.ion_meter.specs.declared.device.Input.{Ghosts as InputOf}
use Rattle.ion_meter.specs.declared.fault.Fault as faults
use Rattle.ion_meter.specs.declared.fault.Fault.TheVariants.{Refused}
use Rattle.ion_meter.specs.declared.fault.Reason.{Reason}
use Rattle.ion_meter.specs.declared.fault.Reason.TheVariants.{Truncated, BadDescriptor, BadAnnotation, Overrun, Float, DepthLimit, ScalarLimit}
use Rattle.ion_meter.specs.declared.profile.Rules.{Rules}
use Rattle.ion_meter.specs.Sources.{Cursor, skip}
use Rattle.ion_meter.specs.Windows.{Extends, Incoming, left, lent}
use Rattle.ion_value.specs.Calls.{Reads}
use Rattle.ion_value.specs.declared.ion_type.Kind.{Kind}
use Rattle.ion_value.specs.declared.ion_type.Kind.TheVariants as kind
use Rattle.ion_value.specs.Parts.{◌>>=◌, ◌>>◌, Placed, refuse}
use Rattle.ion_value.specs.Reading.{Step}
use Rattle.ion_value.specs.Value.{SymbolAt}
use Rattle.ion_value.specs.Value as value
use Rattle.ion_binary.specs.declared.scan.Found.{Found}
use Rattle.ion_binary.specs.declared.scan.Found.TheVariants as found
use Rattle.ion_binary.specs.declared.scan.Region as code
use Rattle.ion_binary.specs.declared.scan.Within.{Within}
use Rattle.ion_binary.specs.declared.scan.Within.TheVariants as within
use Rattle.ion_binary.specs.declared.scan.Scanned.{Scanned}
use Rattle.ion_binary.specs.declared.scan.Scanned.TheVariants.{Whole, Fault, Cut}
use Rattle.ion_binary.specs.Bodies.{IsBodyTypeCode}
use Rattle.ion_binary.specs.Descriptor.{Region, passes, octet_at, var_uint_at, length_at, Shape, null, bool, nop_pad, wrapper, body, container, sorted, marker, float, illegal, shape_of, is_unwrappable}
use Rattle.ion_binary.specs.Parts.{body_here}
use Rattle.ion_binary.specs.Reading.{Around, TypedValue, Wrapped, a_nop_pad, a_marker, a_scalar, a_container, fits, ids_at, inner_at, is_top, marker_rest}
use Rattle.ion_binary.specs.Positions.{Frame, State}

-- the cursor at a place of the stream, where these octets are in the window, and more may come
abbrev pub window : ℕ → List ℕ → List ℕ → Cursor
window place octets more = record { place = place; rest = octets ++ more }

-- a region goes as far as a place; the top level goes everywhere
abbrev pub Reaches : Region → ℕ → Type 0
Reaches None place = ⊤
Reaches (Some end) place = place ≤ end

-- a region ends at a place, and the top level after all places
abbrev pub EndsAt : Region → ℕ → Type 0
EndsAt None end = end ≡ 2 ^ 64 - 1
EndsAt (Some last) end = last ≡ end

-- reading gives what is shown whatever follows; what is cut is Truncated where the input ends there, and has fewer octets than so many
abbrev pub Shows : {T A : Type 0} → ℕ → (T → A) → ℕ → List ℕ → Scanned T → (Cursor → Result (A × Cursor) Reason) → Type 0
Shows most view place octets (Whole x n) reading = (n ≤ length octets) × ((more : List ℕ) → reading (window place octets more) ≡ Ok (view x, skip n (window place octets more)))
Shows most view place octets (Fault reason) reading = (more : List ℕ) → reading (window place octets more) ≡ Err reason
Shows most view place octets Cut reading = (length octets < most) × (reading (window place octets []) ≡ Err Truncated)

-- it holds of what is whole, and of how many octets it has
abbrev pub IfWhole : {T : Type 0} → Scanned T → (T → ℕ → Type 0) → Type 0
IfWhole (Whole x n) holds = holds x n
IfWhole (Fault reason) holds = Unit {0}
IfWhole Cut holds = Unit {0}

-- ---- where a part stands, from the code's `Region`

abbrev pub region_in : Within → ℕ → Region
region_in within.Top end = None
region_in within.Container end = Some end
region_in within.Wrapper end = Some end

abbrev pub is_wrapper : Within → Bool
is_wrapper within.Top = false
is_wrapper within.Container = false
is_wrapper within.Wrapper = true

abbrev pub as_around : code.Region → Around
as_around c = record { wrapped = is_wrapper c.within; region = region_in c.within c.end; depth = c.depth }

-- the end of the code's region is that of the region
abbrev pub IsRegion : code.Region → Type 0
IsRegion c = EndsAt (region_in c.within c.end) c.end

-- ---- what a descriptor and the length after it begin

abbrev pub itself_found : Found → Found
itself_found f = f

-- the length code by which a shape's length goes, and 0 where it has none, or is a float that is not read
abbrev pub length_code_of : Rules → Shape → ℕ
length_code_of limits (nop_pad length_code) = length_code
length_code_of limits (wrapper length_code) = length_code
length_code_of limits (body type_code length_code) = length_code
length_code_of limits (container k length_code) = length_code
length_code_of limits sorted = 14
length_code_of limits (null t) = 0
length_code_of limits (bool truth) = 0
length_code_of limits marker = 0
length_code_of limits (float length_code) = if limits.floats then length_code else 0
length_code_of limits illegal = 0

-- a container whose members have n octets, from a place on
abbrev pub begun : Rules → Around → Kind → ℕ → ℕ → Result Found Reason
begun limits a k place n = do
  fits a place n
  refuse (nat_le limits.depth a.depth) DepthLimit
  Ok (found.Begin k (place + n))

-- a scalar whose body has n octets, from a place on
abbrev pub bodied : Rules → Around → ℕ → ℕ → ℕ → Result Found Reason
bodied limits a type_code place n = do
  fits a place n
  refuse (nat_lt limits.scalar n) ScalarLimit
  Ok (found.Body type_code n)

-- what a shape begins whose length is n, which ends at a place
abbrev pub found_by : Rules → Around → Shape → ℕ → ℕ → Result Found Reason
found_by limits a (null t) place n = do
  fits a place n
  Ok (found.Null t)
found_by limits a (bool truth) place n = do
  fits a place n
  Ok (found.Bool truth)
found_by limits a (nop_pad length_code) place n = do
  refuse (passes a.region place n) Overrun
  Ok (found.NopPad n)
found_by limits a (wrapper length_code) place n = Ok (found.Wrapper n)
found_by limits a (body type_code length_code) place n = bodied limits a type_code place n
found_by limits a (container k length_code) place n = begun limits a k place n
found_by limits a sorted place n = do
  refuse (nat_eq n 0) BadDescriptor
  begun limits a kind.Struct place n
found_by limits a marker place n = do
  refuse (not (is_top a.region)) BadDescriptor
  Ok found.Marker
found_by limits a (float length_code) place n = do
  refuse (not limits.floats) Float
  bodied limits a 4 place n
found_by limits a illegal place n = Err BadDescriptor

-- how many octets follow where an annotation wrapper is found
abbrev pub wrapping : Found → Option ℕ
wrapping (found.Wrapper n) = Some n
wrapping (found.Body type_code n) = None
wrapping (found.Begin k end) = None
wrapping found.Marker = None
wrapping (found.NopPad n) = None
wrapping (found.Null t) = None
wrapping (found.Bool truth) = None

-- what a shape begins after its descriptor octet
abbrev pub found_at : Rules → Around → Shape → Cursor → Result (Found × Cursor) Reason
found_at limits a s c = do
  n ← length_at (length_code_of limits s) a.region c
  f ← found_by limits a s n.1.place n.0
  Ok (f, n.1)

-- a descriptor and the length after it
unfoldable pub part_at : Rules → Around → Cursor → Result (Found × Cursor) Reason
part_at limits a c = do
  b ← octet_at a.region c
  refuse (a.wrapped && is_unwrappable b.0) BadAnnotation
  found_at limits a (shape_of b.0) b.1

-- what is found has a body within the limit, opens a container that may be opened, and is a marker at top level alone
abbrev pub IsFound : Rules → Around → Found → Type 0
IsFound limits a (found.Body type_code n) = IsBodyTypeCode type_code × (n ≤ limits.scalar)
IsFound limits a (found.Begin k end) = a.depth < limits.depth
IsFound limits a found.Marker = a.region ≡ None
IsFound limits a (found.Wrapper n) = n < 2 ^ 63
IsFound limits a (found.NopPad n) = ⊤
IsFound limits a (found.Null t) = ⊤
IsFound limits a (found.Bool truth) = ⊤

-- it was found somewhere
abbrev pub WasFound : Rules → Found → Type 0
WasFound limits f = (a : Around) × IsFound limits a f

-- ---- what follows them

-- the octets of a NOP pad
abbrev pub pad_at : ℕ → Cursor → Result (TypedValue × Cursor) Reason
pad_at n c = do
  refuse (nat_lt (length c.rest) n) Truncated
  Ok (a_nop_pad, skip n c)

-- the octets of a version marker after its first
abbrev pub version_at : Cursor → Result (TypedValue × Cursor) Reason
version_at c = do
  marker_rest c.rest
  Ok (a_marker, skip 3 c)

-- what is found with its octets: after a part they are what reading finds of the descriptor, and no wrapper stands in another
unfoldable pub rest_at : Rules → Found → Cursor → Result (TypedValue × Cursor) Reason
rest_at limits (found.NopPad n) c = pad_at n c
rest_at limits found.Marker c = version_at c
rest_at limits (found.Null t) c = Ok (a_scalar (value.null t), c)
rest_at limits (found.Bool truth) c = Ok (a_scalar (value.bool truth), c)
rest_at limits (found.Body type_code n) c = body_here limits type_code n c >>= λ v. Ok (a_scalar v.0, v.1)
rest_at limits (found.Begin k end) c = Ok (a_container k end, c)
rest_at limits (found.Wrapper n) c = Err BadAnnotation

-- a wrapper of n octets from a place on, whose annotations have so many from another place on
abbrev pub wrapper_by : Region → ℕ → ℕ → ℕ → ℕ → Result Wrapped Reason
wrapper_by r here n after ids = do
  refuse (passes r here n) Overrun
  refuse (nat_lt n 3 || nat_eq ids 0 || nat_le (here + n) (after + ids)) BadAnnotation
  Ok (record { ids = after + ids; end = here + n })

-- a wrapper after its own length
unfoldable pub wrapper_after : Region → ℕ → Cursor → Result (Wrapped × Cursor) Reason
wrapper_after r n c = do
  ids ← var_uint_at (Some (c.place + n)) c
  w ← wrapper_by r c.place n ids.1.place ids.0
  Ok (w, ids.1)

-- the annotations of a wrapper and the value in it
abbrev pub noted_at : Rules → List Frame → ℕ → Option SymbolAt → Wrapped → Cursor → Placed (Step State)
noted_at limits frames top f w c = do
  annotations ← ids_at w.ids limits w.ids 0 c
  inner_at limits frames top f annotations.0 w.end annotations.1

-- ---- a window that is filled

-- where the input ends there is no octet more
abbrev pub IsCut : {I : Type 0} → InputOf I → Incoming I → ℕ → faults.Fault → Type 0
IsCut device old place fault =
    (reason : Reason) (at : ℕ) → fault ≡ Refused reason at → (reason ≡ Truncated) × (at ≡ place) × (left device.rest old ≡ lent old)

-- an octet more is in the window, in a part at a place
pub record Refills {I : Type 0} (device : InputOf I) (old new : Incoming I) (place : ℕ) (result : Result (Unit {0}) faults.Fault) : Type 0 where
  pub reads : Reads device old new result
  pub kept : Extends device old new
  pub more : (u : Unit {0}) → result ≡ Ok u → length (lent old) < length (lent new)
  pub cut : device.observable old.device → (fault : faults.Fault) → result ≡ Err fault → IsCut device old place fault
