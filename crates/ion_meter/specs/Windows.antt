-- What is seen of the windows on input and output.
use Rattle.std.specs.Prelude.{◌≡◌, ℕ, ◌+◌, ◌-◌, ◌<◌, ◌≤◌, ◌↔◌, Bool, List, [], ◌++◌, length, take, drop, Option, None, Some, Result, Err}
use Rattle.std.specs.List.{AllByRecursion}
use Rattle.ion_meter.specs.declared.device.Input.{Ghosts as InputOf}
use Rattle.ion_meter.specs.declared.fault.Fault.{Fault}
use Rattle.ion_meter.specs.declared.fault.Fault.TheVariants.{ReadFault, WriteFault}
use Rattle.ion_meter.specs.Devices.{ReadsOn}

-- numbers that a byte can be
abbrev pub AreBytes : List ℕ → Type 0
AreBytes bytes = AllByRecursion (λ b. b < 256) bytes

-- a window on an input: its device, the bytes that were read and not passed over, whether the input has ended, how many bytes were passed over,
-- how many may be given in all, and the fault that it keeps answering
pub record Incoming (I : Type 0) : Type 0 where
  pub device : I
  pub buffered : List ℕ
  pub ended : Bool
  pub place : ℕ
  pub limit : ℕ
  pub fault : Option Fault

-- the bytes from the present place on, by what is left of the device
abbrev pub left : {I : Type 0} → (I → List ℕ) → Incoming I → List ℕ
left rest s = s.buffered ++ rest s.device

-- the bytes of a window that are there already and within the limit; a window that has failed lends none
abbrev pub lent_by : Option Fault → ℕ → List ℕ → List ℕ
lent_by None most bytes = take most bytes
lent_by (Some f) most bytes = []

-- the bytes that a window lends: those that are in it and within its limit, and none where it has failed
abbrev pub lent : {I : Type 0} → Incoming I → List ℕ
lent s = lent_by s.fault (s.limit - s.place) s.buffered

-- the byte so far ahead is in the window, and within the limit
abbrev pub IsGiven : {I : Type 0} → Incoming I → ℕ → Type 0
IsGiven s ahead = (ahead < length s.buffered) × (s.place + ahead < s.limit)

-- n bytes are in the window, and within the limit
abbrev pub CanPass : {I : Type 0} → Incoming I → ℕ → Type 0
CanPass s count = (count ≤ length s.buffered) × (count ≤ s.limit - s.place)

-- more was read: what was in the window stays at its front, and where the device's bytes are observable, the bytes from the present place on stay
pub record Extends {I : Type 0} (device : InputOf I) (old new : Incoming I) : Type 0 where
  pub prefix : (more : List ℕ) × (new.buffered ≡ old.buffered ++ more)
  pub place : new.place ≡ old.place
  pub limit : new.limit ≡ old.limit
  pub read_on : ReadsOn device old.device new.device
  pub still_observable : device.observable new.device ↔ device.observable old.device
  pub same_left : device.observable old.device → left device.rest new ≡ left device.rest old

-- n bytes were passed over, numbers that a byte can be, and nothing else changed
pub record IsPassed {I : Type 0} (old new : Incoming I) (count : ℕ) : Type 0 where
  pub bytes : (more : List ℕ) → AreBytes (new.buffered ++ more) → AreBytes (old.buffered ++ more)
  pub buffered : new.buffered ≡ drop count old.buffered
  pub device : new.device ≡ old.device
  pub ended : new.ended ≡ old.ended
  pub place : new.place ≡ old.place + count
  pub limit : new.limit ≡ old.limit
  pub fault : new.fault ≡ old.fault

-- one where a window that had not failed answers that its device did
abbrev pub failures_in : {T : Type 0} → Option Fault → Result T Fault → ℕ
failures_in None (Err ReadFault) = 1
failures_in None _ = 0
failures_in (Some f) _ = 0

-- a window on an output: its device, the bytes that were put and not written yet, and the fault that it keeps answering
pub record Outgoing (O : Type 0) : Type 0 where
  pub device : O
  pub pending : List ℕ
  pub fault : Option Fault

-- all that was put, while nothing failed
abbrev pub so_far : {O : Type 0} → (O → List ℕ) → Outgoing O → List ℕ
so_far written s = written s.device ++ s.pending

-- whole begins with prefix
abbrev pub HasPrefix : List ℕ → List ℕ → Type 0
HasPrefix whole prefix = (more : List ℕ) × (whole ≡ prefix ++ more)

-- what is written only grows, and is a prefix of all that was put, these bytes too
pub record Puts {O : Type 0} (written : O → List ℕ) (observable : O → Type 0) (old new : Outgoing O) (bytes : List ℕ) : Type 0 where
  pub still_observable : observable new.device ↔ observable old.device
  pub grown : observable old.device → HasPrefix (written new.device) (written old.device)
  pub prefix : observable old.device → HasPrefix (so_far written old ++ bytes) (written new.device)

-- what was put only grows, and by a prefix of these bytes
pub record PutsPart {O : Type 0} (written : O → List ℕ) (observable : O → Type 0) (old new : Outgoing O) (bytes : List ℕ) : Type 0 where
  pub grown : observable old.device → HasPrefix (so_far written new) (so_far written old)
  pub prefix : observable old.device → HasPrefix (so_far written old ++ bytes) (so_far written new)

-- one where a window that had not failed answers that its device did
abbrev pub write_failures_in : {T : Type 0} → Option Fault → Result T Fault → ℕ
write_failures_in None (Err WriteFault) = 1
write_failures_in None _ = 0
write_failures_in (Some f) _ = 0
