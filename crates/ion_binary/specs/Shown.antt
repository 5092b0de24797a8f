-- What a window shows of an item that lies whole in it.
use Rattle.std.specs.Prelude.{◌≡◌, ℕ, ◌+◌, ◌<◌, ◌≤◌, List, [], ◌∷◌, length, Option, Some, None, is_some, IfSome, Ok}
use Rattle.ion_meter.specs.Sources.{skip}
use Rattle.ion_meter.specs.declared.profile.Rules.{Rules}
use Rattle.ion_value.specs.Value.{SymbolAt}
use Rattle.ion_binary.specs.declared.reader.front.ShownNote.{ShownNote}
use Rattle.ion_binary.specs.declared.scan.Found.{Found}
use Rattle.ion_binary.specs.declared.scan.Found.TheVariants as found
use Rattle.ion_binary.specs.Positions.{Frame, symbol_id}
use Rattle.ion_binary.specs.Scanned.{IsFound, Reaches, part_at, rest_at, window, wrapper_after, wrapping}
use Rattle.ion_binary.specs.Descriptor.{Region, length_at, var_uint_at}
use Rattle.ion_binary.specs.Reading.{Around, TypedValue, ids_at, region_of, step_for, value_at}

-- these octets show a VarUInt from one place of them to another, whatever follows them, where the region holds it
pub record ShowsVar (octets : List ℕ) (at after number : ℕ) : Type 0 where
  pub further : at < after
  pub within : after ≤ length octets
  pub gives : (here : ℕ) (more : List ℕ) (region : Region) → Reaches region (here + after)
      → var_uint_at region (skip at (window here octets more)) ≡ Ok (number, skip after (window here octets more))

-- the same of a length, by the length code of its descriptor
pub record ShowsLength (octets : List ℕ) (length_code at after number : ℕ) : Type 0 where
  pub further : at ≤ after
  pub within : after ≤ length octets
  pub gives : (here : ℕ) (more : List ℕ) (region : Region) → Reaches region (here + after)
      → length_at length_code region (skip at (window here octets more)) ≡ Ok (number, skip after (window here octets more))

-- the same of a descriptor and its length, which the region holds but where they begin a wrapper
pub record ShowsPart (limits : Rules) (octets : List ℕ) (here : ℕ) (a : Around) (at after : ℕ) (f : Found) : Type 0 where
  pub further : at < after
  pub within : after ≤ length octets
  pub found : IsFound limits a f
  pub reaches : wrapping f ≡ None → Reaches a.region (here + after)
  pub gives : (more : List ℕ) → Reaches a.region (here + after)
      → part_at limits a (skip at (window here octets more)) ≡ Ok (f, skip after (window here octets more))

-- and of what follows these, which is no wrapper
pub record ShowsRest (limits : Rules) (octets : List ℕ) (here : ℕ) (f : Found) (at after : ℕ) (v : TypedValue) : Type 0 where
  pub further : at ≤ after
  pub within : after ≤ length octets
  pub plain : wrapping f ≡ None
  pub gives : (more : List ℕ) → rest_at limits f (skip at (window here octets more)) ≡ Ok (v, skip after (window here octets more))

-- a value: a part, and what follows it
pub record ShowsValue (limits : Rules) (octets : List ℕ) (here : ℕ) (a : Around) (at after : ℕ) (v : TypedValue) : Type 0 where
  pub found : Found
  pub from : ℕ
  pub part : ShowsPart limits octets here a at from found
  pub rest : ShowsRest limits octets here found from after v

-- what is around a value: a wrapper, if there is one, or else a container
abbrev pub inner_region : Region → Region → Region
inner_region (Some end) around = Some end
inner_region None around = around

abbrev pub around_after : Region → Region → ℕ → Around
around_after wrapper around depth = record { wrapped = is_some wrapper; region = inner_region wrapper around; depth = depth }

-- these octets show a second id and its offset, where there is one, from an offset to where the ids end
abbrev pub ShowsSecond : List ℕ → ℕ → Option (ℕ × ℕ) → ℕ → Type 0
ShowsSecond octets at None inner = inner ≡ at
ShowsSecond octets at (Some s) inner = (s.1 ≡ at) × ShowsVar octets at inner s.0

-- a second id as a symbol, if there is one
abbrev pub second_id : ℕ → Option (ℕ × ℕ) → List SymbolAt
second_id here None = []
second_id here (Some s) = symbol_id s.0 (here + s.1) ∷ []

-- the ids of a wrapper as symbols
abbrev pub noted_ids : ℕ → ShownNote → List SymbolAt
noted_ids here n = symbol_id n.id (here + n.from) ∷ second_id here n.second

-- a wrapper at a place: its own length, that of its annotations, and one annotation or two
pub record ShowsNote (limits : Rules) (octets : List ℕ) (here : ℕ) (region : Region) (at : ℕ) (n : ShownNote) : Type 0 where
  pub starts : n.from ≤ n.inner
  pub second : IfSome n.second (λ s. s.1 ≤ n.inner)
  pub within : n.inner ≤ length octets
  pub count : ℕ
  pub after : ℕ
  pub further : (at < after) × (after ≤ n.from)
  pub reaches : Reaches region (here + after)
  pub part : (depth : ℕ) (more : List ℕ) → part_at limits (around_after None region depth) (skip at (window here octets more)) ≡ Ok (found.Wrapper count, skip after (window here octets more))
  pub lengths : (more : List ℕ) → wrapper_after region count (skip after (window here octets more)) ≡ Ok (record { ids = here + n.inner; end = n.end }, skip n.from (window here octets more))
  pub ids : (more : List ℕ) → ids_at (here + n.inner) limits (here + n.inner) 0 (skip n.from (window here octets more))
      ≡ Ok (noted_ids here n, skip n.inner (window here octets more))

-- what stands after a field: a value with these annotations, whose head is at a place
pub record ShowsItem (limits : Rules) (octets : List ℕ) (here : ℕ) (region : Region) (depth at head after : ℕ) (annotations : List SymbolAt) (v : TypedValue) : Type 0 where
  pub further : at + 1 ≤ after
  pub within : after ≤ length octets
  pub reaches : Reaches region (here + (at + 1))
  pub gives : (more : List ℕ) (frames : List Frame) (top : ℕ) (field : Option SymbolAt) → region_of frames ≡ region → length frames ≡ depth
      → value_at limits frames top field (skip at (window here octets more))
      ≡ Ok (step_for frames top field annotations (here + head) v (skip after (window here octets more)))
