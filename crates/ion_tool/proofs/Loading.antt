-- What is answered where a catalogue is loaded.
use Rattle.std.proofs.Common.{arith, ◌≡◌, ℕ, ◌+◌, ◌<◌, ◌≤◌, List, length, Option, Result, Ok, Err, refl, sym, subst, ◌∙◌}
use Rattle.std.specs.Prelude.{IfOk, max}
use Rattle.ion_meter.specs.Counts.{Counts, Shrinks}
use Rattle.ion_meter.specs.Devices.{Counted}
use Rattle.ion_meter.specs.declared.device.Input.{Ghosts as InputOf}
use Rattle.ion_meter.specs.declared.fault.Fault.{Fault}
use Rattle.ion_meter.specs.declared.fault.Fault.TheVariants.{Refused, Memory, ReadFault, WriteFault, InputLimit}
use Rattle.ion_meter.specs.declared.fault.Reason.{Reason}
use Rattle.ion_meter.specs.declared.limits.Limits.{Limits}
use Rattle.ion_value.specs.Outcome.{Rejected}
use Rattle.ion_symbols.specs.Table.{Shared, catalog_cost}
use Rattle.ion_transcode.specs.Catalogues.{HasCatalogVerdict, IsCatalog, LoadCauses, LoadCharges, kept_in, load_bound}
use Rattle.ion_tool.specs.Serving.{file_input, just_opened, Closing, IsFileLoaded, IsLoaded, SaysTables}

-- what loading says of the bytes
pub says_tables : (limits : Limits) (bytes : List ℕ) (answer : Result (List Shared) Fault)
    → IfOk answer (λ tables. IsCatalog limits bytes tables)
    → ((r : Reason) (p : ℕ) → answer ≡ Err (Refused r p) → HasCatalogVerdict limits bytes (Rejected r p))
    → (answer ≡ Err InputLimit → limits.input < length bytes)
    → SaysTables limits bytes answer
says_tables limits bytes (Ok tables) is refused limit = is
says_tables limits bytes (Err (Refused r p)) is refused limit = refused r p refl
says_tables limits bytes (Err InputLimit) is refused limit = limit refl
says_tables limits bytes (Err Memory) is refused limit = tt
says_tables limits bytes (Err ReadFault) is refused limit = tt
says_tables limits bytes (Err WriteFault) is refused limit = tt

-- what was said of a device that is the one that was opened
pub loaded_from : {I : Type 0} (input : InputOf I) (limits : Limits) (old new : Counts) (device opened after : I) (answer : Result (List Shared) Fault) → device ≡ opened
    → IsLoaded input limits old new device after answer → IsLoaded input limits old new opened after answer
loaded_from {I} input limits old new device opened after answer e is = subst (λ (d : I). IsLoaded input limits old new d after answer) e is

-- what was blamed stays so, where the meter gives something back
blamed : (answer : Result (List Shared) Fault) (old loaded new : Counts) (before after : ℕ) (exceeds : Type 0) → new.refused ≡ loaded.refused
    → LoadCauses answer old loaded before after exceeds → LoadCauses answer old new before after exceeds
blamed answer old loaded new before after exceeds same causes = record {
  memory = λ e. subst (λ (n : ℕ). old.refused < n) (sym same) (causes.memory e);
  counted = λ e. same ∙ causes.counted e;
  read = causes.read;
  reads_steady = causes.reads_steady;
  no_writes = causes.no_writes;
  limit = causes.limit;
}

given_back : (limits : Limits) (kept : ℕ) (old loaded new : Counts) → LoadCharges limits kept old loaded → Shrinks loaded new kept
    → (new.held ≡ old.held) × (new.peak ≤ max old.peak (old.held + load_bound limits))
given_back limits kept old loaded new charges shrinks = (
  let held : loaded.held ≡ old.held + kept = charges.held in
      let back : new.held + kept ≡ loaded.held = shrinks.held in
      omega arith,
  subst (λ (n : ℕ). n ≤ max old.peak (old.held + load_bound limits)) (sym shrinks.peak) charges.peak,
)

-- a file of which a catalogue was loaded, after the tables that were given back
pub file_loaded : {S F : Type 0} (closes : Closing S F) (remaining : F → Option (List ℕ)) (limits : Limits) (file : F) (opened closed : S) (after : Counted F)
    (old loaded new : Counts) (result answer : Result (List Shared) Fault) → result ≡ answer → closes opened after closed
    → IsLoaded (file_input remaining) limits old loaded (just_opened file) after result → Shrinks loaded new (kept_in answer)
    → IsFileLoaded closes remaining limits file opened closed old new answer
file_loaded {S} {F} closes remaining limits file opened closed after old loaded new result answer e back is shrinks =
    let input = file_input remaining in
    let own : IsLoaded input limits old loaded (just_opened file) after answer =
    subst (λ (a : Result (List Shared) Fault). IsLoaded input limits old loaded (just_opened file) after a) e is in
    let moved = given_back limits (kept_in answer) old loaded new own.charges shrinks in
    record {
      after = after;
      handed_back = back;
      says = own.says;
      causes = blamed answer old loaded new _ _ _ shrinks.refused own.causes;
      held = moved.0;
      peak = moved.1;
    }

-- a fault gives nothing back
pub nothing_back : (counts : Counts) → Shrinks counts counts 0
nothing_back counts = record { held = omega arith; peak = refl; refused = refl }

-- the tables that are kept cost no more than the limit, and a fault keeps none
pub kept_cheap : (limits : Limits) (answer : Result (List Shared) Fault) → IfOk answer (λ tables. catalog_cost tables ≤ limits.symbols) → kept_in answer ≤ limits.symbols
kept_cheap limits (Ok tables) cheap = cheap
kept_cheap limits (Err fault) cheap = omega arith
