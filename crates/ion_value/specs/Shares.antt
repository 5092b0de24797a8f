-- What a part that holds counted memory does to the meter, and the causes of its faults.
use Rattle.std.specs.Prelude.{◌≡◌, ℕ, ◌+◌, ◌*◌, ◌-◌, ◌<◌, ◌≤◌, max, Option, Some, None, Result, Ok, Err}
use Rattle.ion_meter.specs.Counts.{Counts}
use Rattle.ion_meter.specs.declared.fault.Fault.{Fault}
use Rattle.ion_meter.specs.declared.fault.Fault.TheVariants.{Memory, ReadFault, WriteFault, InputLimit}

-- a call on a part that held some memory and then other, and never more than its cap: the meter moves by the difference, and its peak is at
-- most what it was, or what was held without the part and the part's cap
pub record Charges (old new : Counts) (before after most : ℕ) : Type 0 where
  pub held : new.held + before ≡ old.held + after
  pub share : after ≤ most
  pub peak : new.peak ≤ max old.peak ((old.held - before) + most)
  pub rises : old.peak ≤ new.peak

-- a part that held some memory holds at most so much more, and on the way at most 32 beside that
pub record GrowsWithin (old new : Counts) (before after more : ℕ) : Type 0 where
  pub own : after ≤ before + more
  pub peak : new.peak ≤ max old.peak (old.held + more + 32)

-- memory goes with what is read: 16 more at most for each that is passed over of what was left
abbrev pub GoesWithReading : Counts → Counts → (before after left_before left_after : ℕ) → Type 0
GoesWithReading old new before after left_before left_after = GrowsWithin old new before after (16 * (left_before - left_after))

-- the fault of an answer
abbrev pub fault_of : {T : Type 0} → Result T Fault → Option Fault
fault_of (Ok x) = None
fault_of (Err fault) = Some fault

-- why a reader that had not failed answers a fault: Memory where it was refused, a read fault where the device failed, and the input limit
-- where the input goes past it; a count that is not told of stays as it was
pub record ReadCauses (fault : Option Fault) (old new : Counts) (failures_old failures_new : ℕ) (exceeds : Type 0) : Type 0 where
  pub memory : fault ≡ Some Memory → old.refused < new.refused
  pub counted : (fault ≡ Some Memory → ⊥) → new.refused ≡ old.refused
  pub device : fault ≡ Some ReadFault → failures_new ≡ failures_old + 1
  pub steady : (fault ≡ Some ReadFault → ⊥) → failures_new ≡ failures_old
  pub limit : fault ≡ Some InputLimit → exceeds
  pub no_writes : fault ≡ Some WriteFault → ⊥

-- the same of a writer: the lines on memory
pub record MemoryCauses (fault : Option Fault) (old new : Counts) : Type 0 where
  pub memory : fault ≡ Some Memory → old.refused < new.refused
  pub counted : (fault ≡ Some Memory → ⊥) → new.refused ≡ old.refused

-- and on its device
pub record WriteCauses (fault : Option Fault) (failures_old failures_new : ℕ) : Type 0 where
  pub device : fault ≡ Some WriteFault → failures_new ≡ failures_old + 1
  pub steady : (fault ≡ Some WriteFault → ⊥) → failures_new ≡ failures_old
  pub no_reads : fault ≡ Some ReadFault → ⊥
  pub no_limit : fault ≡ Some InputLimit → ⊥
