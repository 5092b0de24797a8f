-- What contracts of reading calls say of a window on an input: where it stands, how it moves, and why it answers a fault.
use Rattle.std.specs.Prelude.{◌≡◌, ℕ, ◌+◌, ◌^◌, ◌<◌, ◌≤◌, ◌↔◌, ◌⊎◌, List, length, drop, Option, Some, None, Result, Err, OnOk, IfErr, IfSome}
use Rattle.ion_meter.specs.declared.device.Input.{Ghosts as InputOf}
use Rattle.ion_meter.specs.declared.fault.Fault.{Fault}
use Rattle.ion_meter.specs.declared.fault.Fault.TheVariants.{Memory, ReadFault, WriteFault, InputLimit}
use Rattle.ion_meter.specs.Devices.{ReadsOn}
use Rattle.ion_meter.specs.Windows.{AreBytes, Incoming, left, failures_in, Extends}

-- the bytes that are still to be read, and the place of the first of them
pub record Cursor : Type 0 where
  pub place : ℕ
  pub rest : List ℕ

-- the cursor so many bytes further on
abbrev pub skip : ℕ → Cursor → Cursor
skip n c = record { place = c.place + n; rest = drop n c.rest }

-- what is left of the input is bytes, where that can be seen
abbrev pub BytesAreLeft : {I : Type 0} → InputOf I → Incoming I → Type 0
BytesAreLeft device s = device.observable s.device → AreBytes (left device.rest s)

-- where a source stands, by what is left of its device
abbrev pub cursor : {I : Type 0} → InputOf I → Incoming I → Cursor
cursor device s = record { place = s.place; rest = left device.rest s }

-- the input is longer than it may be
abbrev pub Exceeds : {I : Type 0} → InputOf I → Incoming I → Type 0
Exceeds device s = device.observable s.device → s.limit < s.place + length (left device.rest s)

-- a source that has not failed, and has not gone past its limit
pub record Stands {I : Type 0} (s : Incoming I) : Type 0 where
  pub well : s.fault ≡ None
  pub within : s.place ≤ s.limit
  pub small : s.limit ≤ 2 ^ 48

-- octets were passed over, each of which is a byte, or more of the device was read
pub record Moves {I : Type 0} (device : InputOf I) (old new : Incoming I) : Type 0 where
  pub read_on : ReadsOn device old.device new.device
  pub still_observable : device.observable new.device ↔ device.observable old.device
  pub limit : new.limit ≡ old.limit
  pub further : old.place ≤ new.place
  pub total : device.observable old.device → new.place + length (left device.rest new) ≡ old.place + length (left device.rest old)
  pub bytes : BytesAreLeft device new → BytesAreLeft device old

-- why a call that takes no memory answers a fault
pub record Causes (fault : Option Fault) (failures_old failures_new : ℕ) (exceeds : Type 0) : Type 0 where
  pub device : fault ≡ Some ReadFault → failures_new ≡ failures_old + 1
  pub steady : (fault ≡ Some ReadFault → ⊥) → failures_new ≡ failures_old
  pub limit : fault ≡ Some InputLimit → exceeds
  pub no_memory : fault ≡ Some Memory → ⊥
  pub no_writes : fault ≡ Some WriteFault → ⊥

-- what a call that reads does whatever it answers: nothing is passed over, and a fault is answered again
pub record Reads {I T : Type 0} (device : InputOf I) (old new : Incoming I) (result : Result T Fault) : Type 0 where
  pub kept : Extends device old new
  pub well : OnOk result ((old.fault ≡ None) × (new.fault ≡ None))
  pub fault : IfErr result (λ f. new.fault ≡ Some f)
  pub again : IfSome old.fault (λ f. (result ≡ Err f) × (new ≡ old))
  pub cause : IfErr result (λ f. old.fault ≡ None → (f ≡ ReadFault) ⊎ (f ≡ InputLimit))
  pub count : device.failure_count new.device ≡ device.failure_count old.device + failures_in old.fault result
