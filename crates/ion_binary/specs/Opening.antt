-- What contracts see of the value at top level that a writer has open.
use Rattle.std.specs.Prelude.{◌≡◌, ℕ, List, [], ◌∷◌, ◌++◌, nat_eq, if◌then◌else◌, None, ◌+◌, ◌-◌, ◌*◌, ◌^◌, ◌<◌, ◌≤◌, length, max, Option, Some, Bool, true, false}
use Rattle.std.specs.List.{AllByRecursion}
use Rattle.ion_meter.specs.Counts.{Counts}
use Rattle.ion_meter.specs.Limits.{AreChecked}
use Rattle.ion_meter.specs.declared.fault.Fault.{Fault}
use Rattle.ion_meter.specs.declared.fault.Fault.TheVariants.{Memory}
use Rattle.ion_meter.specs.declared.limits.Limits.{Limits}
use Rattle.ion_value.specs.Shares.{Charges, MemoryCauses}
use Rattle.ion_binary.specs.declared.open_value.OpenValue.{OpenValue}
use Rattle.ion_value.specs.declared.ion_type.Kind.{Kind}
use Rattle.ion_value.specs.Number.{var_uint_octets}
use Rattle.ion_value.specs.Standing.{InRange}
use Rattle.ion_value.specs.Value as value
use Rattle.ion_value.specs.Value.{Head, Item, PlacedItem}
use Rattle.ion_binary.specs.declared.scalar.Octets.{Octets}
use Rattle.ion_binary.specs.declared.scalar.Spelled.{Spelled}
use Rattle.ion_binary.specs.Canonical.{wrapped}
use Rattle.ion_binary.specs.Grammar.{type_code}
use Rattle.ion_binary.specs.Held.{counted_ids, header_at, size_of}
use Rattle.ion_binary.specs.ItemOctets.{opening}
use Rattle.ion_binary.specs.Late.{IsCosted}
use Rattle.ion_binary.specs.Counting.{ArePlaced, AreReached}

-- the counted bytes that it holds
abbrev pub open_cost : {A : Type 0} → OpenValue A → ℕ
open_cost v = 8 * length v.headers + v.octets.cost

-- the most counted bytes that an open value may hold under limits
abbrev pub open_most : Limits → ℕ
open_most limits = 16 * limits.depth + limits.value

-- so many octets may be there, and 2 ^ 20 more than that, as each header that is missing may have six
abbrev pub HasRoom : {A : Type 0} → Limits → OpenValue A → Type 0
HasRoom limits v = v.room + 6 * (length v.headers + v.octets.late) ≤ limits.value + 2 ^ 20

-- it stays within its limits
pub record IsWithin {A : Type 0} (limits : Limits) (v : OpenValue A) : Type 0 where
  pub octets : length v.octets.all ≤ limits.value
  pub headers : length v.headers + 2 * v.octets.late ≤ 2 * limits.depth
  pub costed : IsCosted v.octets
  pub room : HasRoom limits v

-- the headers that are missing are right, no count of them is too high, and the closed value is not too long. A count may be too low: whoever
-- asks for the closed size raises it first
pub record IsOpen {A : Type 0} (limits : Limits) (v : OpenValue A) : Type 0 where
  pub placed : ArePlaced (length v.octets.all) v.headers
  pub codes : AllByRecursion (λ h. h.code < 16) v.headers
  pub reached : AreReached v.counts (length v.octets.all) v.headers
  pub fits : size_of v.octets.all v.headers ≤ limits.value

-- the same before a place after which there are more octets
pub record IsOpenTo {A : Type 0} (v : OpenValue A) (place : ℕ) : Type 0 where
  pub within : place ≤ length v.octets.all
  pub placed : ArePlaced place v.headers
  pub codes : AllByRecursion (λ h. h.code < 16) v.headers
  pub reached : AreReached v.counts place v.headers

-- a call may change it
pub record CanStep {A : Type 0} (limits : Limits) (v : OpenValue A) (meter : Counts) : Type 0 where
  pub checked : AreChecked limits
  pub within : IsWithin limits v
  pub room : meter.held ≤ 2 ^ 62 + 2 ^ 32 + open_cost v
  pub held : open_cost v ≤ meter.held
  pub countable : meter.refused < 2 ^ 64 - 1

-- what is held rises by a cost, which may be none, and the peak does not pass what it was and what is held then
pub record Raises (old new : Counts) (cost : ℕ) : Type 0 where
  pub held : new.held ≡ old.held + cost
  pub peak : new.peak ≤ max old.peak new.held
  pub rises : old.peak ≤ new.peak
  pub refused : new.refused ≡ old.refused

-- what a call keeps and moves whatever it answers; its one fault is Memory
pub record Stepped {A : Type 0} (limits : Limits) (old new : OpenValue A) (before after : Counts) (fault : Option Fault) : Type 0 where
  pub within : IsWithin limits new
  pub memory : MemoryCauses fault before after
  pub alone : (f : Fault) → fault ≡ Some f → f ≡ Memory
  pub charges : Charges before after (open_cost old) (open_cost new) (open_most limits)

-- octets may be added to it
pub record CanAdd {A : Type 0} (limits : Limits) (v : OpenValue A) (meter : Counts) : Type 0 where
  pub can_step : CanStep limits v meter
  pub is_open : IsOpen limits v

-- they were added after the others, or were not, and nothing is changed
pub record AddsOctets {A : Type 0} (limits : Limits) (x : List ℕ) (old new : OpenValue A) (before after : Counts) (result : Bool) : Type 0 where
  pub octets : result ≡ true → new.octets.all ≡ old.octets.all ++ x
  pub headers : new.headers ≡ old.headers
  pub is_open : result ≡ true → IsOpen limits new
  pub declines : result ≡ false → (new ≡ old) × (after ≡ before)
  pub stepped : Stepped limits old new before after None

-- a container begins after them, or nothing is changed
pub record Begins {A : Type 0} (limits : Limits) (x : List ℕ) (kind : Kind) (old new : OpenValue A) (before after : Counts) (result : Bool) : Type 0 where
  pub octets : result ≡ true → new.octets.all ≡ old.octets.all ++ x
  pub headers : result ≡ true → new.headers ≡ header_at (length old.octets.all + length x) (type_code kind) ∷ old.headers
  pub is_open : result ≡ true → IsOpen limits new
  pub declines : result ≡ false → (new ≡ old) × (after ≡ before)
  pub stepped : Stepped limits old new before after None

-- both parts
abbrev pub both_octets : Octets → List ℕ
both_octets s = s.front.now ++ s.rest.now

-- the id of a field, and nothing where it is 0: then there is none
abbrev pub name_octets : ℕ → List ℕ
name_octets id = if nat_eq id 0 then [] else var_uint_octets id

-- a value after its field, by the id, 0 where there is none, and in the wrapper of its annotations, by the octets of their ids
abbrev pub noted_by : ℕ → List ℕ → List ℕ → List ℕ
noted_by name notes x = name_octets name ++ wrapped (counted_ids notes) x

-- a value after its field and in the wrapper of one annotation at most: its id, 0 where there is none
abbrev pub noted : ℕ → ℕ → List ℕ → List ℕ
noted name note x = noted_by name (name_octets note) x

-- the octets of a scalar, some of which are lent
abbrev pub spelled_octets : Spelled → List ℕ
spelled_octets s = s.front.items ++ s.lent.now

-- what stands before the ids of annotations, and a value of so many octets after them
abbrev pub wrapper_octets : ℕ → ℕ → List ℕ
wrapper_octets ids value = if nat_eq ids 0 then [] else opening 14 (var_uint_octets ids) (ids + value)

-- an item may come after these octets
abbrev pub MayAdd : {A S P : Type 0} → Limits → OpenValue A → Head S → Item S P → Type 0
MayAdd limits v (value.whole body) i = InRange body
MayAdd limits v (value.begin kind) i = length v.headers + 2 ≤ 2 * limits.depth
MayAdd limits v value.end i = (i.field ≡ None) × (i.annotations ≡ [])
MayAdd limits v value.marker i = ⊥

-- the open value is counted, and the item may come after it
pub record MayCome {A : Type 0} (limits : Limits) (v : OpenValue A) (i : PlacedItem) : Type 0 where
  pub counted : IsOpen limits v
  pub follows : MayAdd limits v i.head i

-- a head may come where what stands before it is there up to a place
abbrev pub MayFollow : {A S : Type 0} → Limits → OpenValue A → ℕ → Head S → Type 0
MayFollow limits v place (value.whole body) = IsOpenTo v place × InRange body
MayFollow limits v place (value.begin kind) = IsOpenTo v place × (length v.headers + 2 ≤ 2 * limits.depth)
MayFollow limits v place value.end = IsOpen limits v
MayFollow limits v place value.marker = ⊥
