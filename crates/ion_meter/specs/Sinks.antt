-- What a call that puts bytes does to the window on the output, which had not failed.
use Rattle.std.specs.Prelude.{◌≡◌, ℕ, ◌+◌, List, ◌++◌, None, Result, OnOk, IfErr}
use Rattle.ion_meter.specs.declared.device.Output.{Ghosts as OutputOf}
use Rattle.ion_meter.specs.declared.fault.Fault.{Fault}
use Rattle.ion_meter.specs.declared.fault.Fault.TheVariants.{WriteFault}
use Rattle.ion_meter.specs.Windows.{Outgoing, so_far, Puts, write_failures_in}

-- where it answers well, these bytes were put after what was put before, and where it fails, a prefix of them
pub record HasPut {O T : Type 0} (written : O → List ℕ) (observable : O → Type 0) (failures : O → ℕ) (old new : Outgoing O) (result : Result T Fault) (bytes : List ℕ) : Type 0 where
  pub whole : OnOk result (observable old.device → so_far written new ≡ so_far written old ++ bytes)
  pub well : OnOk result (new.fault ≡ None)
  pub part : Puts written observable old new bytes
  pub cause : IfErr result (λ f. f ≡ WriteFault)
  pub count : failures new.device ≡ failures old.device + write_failures_in None result

-- the same by the device's own words, as `IsPut O.Output sink.old sink.new result text`
abbrev pub IsPut : {O T : Type 0} → OutputOf O → Outgoing O → Outgoing O → Result T Fault → List ℕ → Type 0
IsPut device old new result bytes = HasPut device.written device.observable device.failure_count old new result bytes
