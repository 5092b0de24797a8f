-- Headers that are late: octets are held without them, and each goes in at an offset of the octets that are there.
use Rattle.std.specs.Prelude.{◌≡◌, ℕ, zero, suc, ◌+◌, ◌*◌, ◌-◌, ◌^◌, ◌<◌, ◌≤◌, Bool, true, false, List, [], ◌∷◌, ◌++◌, length, take, drop, Option, Some, Result, OnOk, OnErr, ⊤}
use Rattle.ion_meter.specs.Counts.{Counts, Grows}
use Rattle.ion_meter.specs.declared.fault.Fault.{Fault}
use Rattle.ion_meter.specs.declared.fault.Fault.TheVariants.{Memory}
use Rattle.ion_value.specs.Shares.{Charges, MemoryCauses, fault_of}
use Rattle.ion_binary.specs.declared.held_octets.LateHeader.{LateHeader}
use Rattle.ion_binary.specs.Canonical.{header}
use Rattle.ion_binary.specs.Held.{put_at}

-- what is seen of octets that are held: all of them, how many headers are late, and the counted bytes
pub record Content : Type 0 where
  pub all : List ℕ
  pub late : ℕ
  pub cost : ℕ

-- nothing is held
abbrev pub nothing : Content
nothing = record { all = []; late = 0; cost = 0 }

-- more octets after the others
abbrev pub appended : Content → List ℕ → Content
appended c octets = record c { all = c.all ++ octets; cost = c.cost + length octets }

-- each octet costs 1, a late header no more than 16 beside its octets, and it has one or more
pub record IsCosted (c : Content) : Type 0 where
  pub least : length c.all ≤ c.cost
  pub most : c.cost ≤ length c.all + 16 * c.late
  pub late : c.late ≤ length c.all

-- octets were added, and no header went in or became late
pub record Adds (old new : Content) : Type 0 where
  pub late : new.late ≡ old.late
  pub cost : new.cost + length old.all ≡ old.cost + length new.all
  pub longer : length old.all ≤ length new.all

-- what a call keeps and moves whatever it answers, where it holds no more than a cap; its one fault is Memory
pub record Moved (old new : Content) (before after : Counts) (most : ℕ) (fault : Option Fault) : Type 0 where
  pub costed : IsCosted new
  pub memory : MemoryCauses fault before after
  pub alone : (f : Fault) → fault ≡ Some f → f ≡ Memory
  pub charges : Charges before after old.cost new.cost most

-- octets may go in at an offset
pub record CanPutAt (c : Content) (meter : Counts) (offset : ℕ) (x : List ℕ) : Type 0 where
  pub within : offset ≤ length c.all
  pub short : length c.all ≤ 2 ^ 32
  pub room : meter.held + (length c.all + length x) < 2 ^ 63
  pub held : c.cost ≤ meter.held
  pub countable : meter.refused < 2 ^ 64 - 1

-- they went in there, or memory was refused, and all octets are as they were
pub record PutsAt (offset : ℕ) (x : List ℕ) (old new : Content) (before after : Counts) (result : Result (Unit {0}) Fault) : Type 0 where
  pub ok : OnOk result (new.all ≡ put_at offset x old.all)
  pub err : OnErr result (new.all ≡ old.all)
  pub late : new.late ≤ old.late
  pub moved : Moved old new before after (length old.all + length x + 16 * old.late) (fault_of result)

-- the header of a body of so many octets may go in at a place
pub record CanPutHeader (xs : List ℕ) (meter : Counts) (type_code place inside : ℕ) : Type 0 where
  pub code : type_code < 16
  pub within : place ≤ length xs
  pub short : inside < 2 ^ 63
  pub room : meter.held + 10 < 2 ^ 63

-- it went in there, or nothing is changed
pub record PutsHeader (code place inside : ℕ) (old new : List ℕ) (before after : Counts) (result : Bool) : Type 0 where
  pub octets : result ≡ true → new ≡ take place old ++ (header code inside ++ drop place old)
  pub cost : result ≡ true → Grows before after (length (header code inside))
  pub declines : result ≡ false → (new ≡ old) × (after ≡ before)

-- ---- the headers themselves, the last of the stream first

-- the octets of one
abbrev pub late_octets : LateHeader → List ℕ
late_octets h = header h.code h.inside

-- all octets: each header goes in at its offset after those that come first
abbrev pub spread : List LateHeader → List ℕ → List ℕ
spread [] octets = octets
spread (h ∷ hs) octets = spread hs (put_at h.offset (late_octets h) octets)

-- how many octets they have
abbrev pub missing_of : List LateHeader → ℕ
missing_of [] = 0
missing_of (h ∷ hs) = length (late_octets h) + missing_of hs

-- one goes in within so many octets
pub record IsLate (n : ℕ) (h : LateHeader) : Type 0 where
  pub within : h.offset ≤ n
  pub code : h.code < 16
  pub short : h.inside < 2 ^ 32

-- so does each, and none after one that comes first
abbrev pub AreLate : ℕ → List LateHeader → Type 0
AreLate n [] = ⊤
AreLate n (h ∷ hs) = IsLate n h × AreLate h.offset hs

-- after so many of them, another may go in at an offset within n octets
abbrev pub FitsAt : ℕ → ℕ → ℕ → List LateHeader → Type 0
FitsAt n offset zero hs = (offset ≤ n) × AreLate offset hs
FitsAt n offset (suc k) [] = ⊥
FitsAt n offset (suc k) (h ∷ hs) = FitsAt h.offset offset k hs
