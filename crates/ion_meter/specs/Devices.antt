-- What is seen of devices: of one made of a reader or a writer of std, and of an input that was read on.
use Rattle.std.specs.Prelude.{◌≡◌, ℕ, ◌↔◌, List, [], ◌++◌}
use Rattle.ion_meter.specs.declared.device.Input.{Ghosts as InputOf}

-- the reader or writer, and how often it has failed
pub record Counted (D : Type 0) : Type 0 where
  pub inner : D
  pub failures : ℕ

-- a device after reads alone, which gave these bytes; where the bytes are observable, each read gave the first of those that were left
pub data AfterReads {I : Type 0} (device : InputOf I) (first : I) : List ℕ → I → Type 0 where
  unread : AfterReads device first [] first
  read_on : (bytes more : List ℕ) (before after : I) → AfterReads device first bytes before → device.yields before more after
      → (device.observable after ↔ device.observable before)
      → (device.observable before → device.rest before ≡ more ++ device.rest after)
      → AfterReads device first (bytes ++ more) after

-- a device that was read on, or not read at all
pub record IsReadOn {I : Type 0} (device : InputOf I) (old new : I) : Type 0 where
  pub bytes : List ℕ
  pub reads : AfterReads device old bytes new

-- the same of calls one after the other: whatever device was read on up to the old one was read on up to the new one
abbrev pub ReadsOn : {I : Type 0} → InputOf I → I → I → Type 0
ReadsOn {I} device old new = (first : I) → IsReadOn device first old → IsReadOn device first new
