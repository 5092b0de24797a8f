-- What calls that give all memory back do one after the other.
use Rattle.std.proofs.Common.{◌≡◌, ◌≢◌, ◌↔◌, ℕ, ◌+◌, ◌<◌, ◌≤◌, List, [], ◌++◌, Option, Some, None, Result, Ok, Err, refl, sym, ap, subst, ◌∙◌, arith, append-nil}
use Rattle.std.specs.Prelude.{max}
use Rattle.ion_meter.specs.Counts.{Counts, Grows, Shrinks}
use Rattle.ion_meter.specs.Windows.{HasPrefix}
use Rattle.ion_meter.specs.declared.device.Output.{Ghosts as OutputOf}
use Rattle.ion_meter.specs.declared.fault.Fault.{Fault}
use Rattle.ion_meter.specs.declared.fault.Fault.TheVariants.{Refused, Memory, ReadFault, WriteFault, InputLimit}
use Rattle.ion_meter.specs.declared.fault.Reason.{Reason}
use Rattle.ion_value.specs.Shares.{Charges, MemoryCauses, fault_of}
use Rattle.ion_transcode.specs.PartCalls.{GivesAllBack, Runs}

pub ok-not : {T : Type 0} {x : T} {fault : Fault} → ◌≡◌ {A = Result T Fault} (Ok x) (Err fault) → ⊥
ok-not e = cc e

pub err-of : {T : Type 0} {fault other : Fault} → ◌≡◌ {A = Result T Fault} (Err fault) (Err other) → fault ≡ other
err-of e = cc e

-- an answer that is one for want of memory just where another is
pub gives-as : {T U : Type 0} {most : ℕ} {answer : Result T Fault} {other : Result U Fault} {a b : Counts} → GivesAllBack most answer a b → (other ≡ Err Memory → answer ≡ Err Memory)
    → (answer ≡ Err Memory → other ≡ Err Memory) → GivesAllBack most other a b
gives-as gives here there = record { memory = λ e. gives.memory (here e); counted = λ no. gives.counted (λ e. no (there e)); held = gives.held; peak = gives.peak }

-- a call after one that had memory
pub gives-then : {T U : Type 0} {most : ℕ} {first : Result T Fault} {second : Result U Fault} {a b c : Counts} → GivesAllBack most first a b → first ≢ Err Memory → GivesAllBack most second b c
    → GivesAllBack most second a c
gives-then {c = c} first had second = record {
  memory = λ e. subst (λ n. n < c.refused) (first.counted had) (second.memory e);
  counted = λ other. second.counted other ∙ first.counted had;
  held = second.held ∙ first.held;
  peak = omega (arith, first.held, first.peak, second.held, second.peak);
}

-- no call
pub gives-none : {T : Type 0} {most : ℕ} {answer : Result T Fault} {a : Counts} → answer ≢ Err Memory → GivesAllBack most answer a a
gives-none had = record { memory = λ e. absurd (had e); counted = λ other. refl; held = refl; peak = omega arith }

-- more may be held
pub gives-more : {T : Type 0} {most more : ℕ} {answer : Result T Fault} {a b : Counts} → most ≤ more → GivesAllBack most answer a b → GivesAllBack more answer a b
gives-more few gives = record { memory = gives.memory; counted = gives.counted; held = gives.held; peak = omega (arith, few, gives.peak) }

-- nothing is written
pub runs-nothing : {T O : Type 0} {most : ℕ} {answer : Result T Fault} {a b : Counts} (output : OutputOf O) (device : O) → GivesAllBack most answer a b → answer ≢ Err ReadFault → answer ≢ Err WriteFault
    → Runs most answer a b output device device
runs-nothing output device gives no_reads no_writes = record {
  gives_back = gives;
  no_reads = no_reads;
  write = λ e. absurd (no_writes e);
  steady = λ other. refl;
  still_observable = (λ o. o, λ o. o);
  grown = λ o. ([], sym (append-nil (output.written device)));
}

-- a run after a call that had memory
pub runs-then : {T U O : Type 0} {most : ℕ} {first : Result T Fault} {second : Result U Fault} {a b c : Counts} {output : OutputOf O} {before after : O} → GivesAllBack most first a b → first ≢ Err Memory
    → Runs most second b c output before after → Runs most second a c output before after
runs-then first had runs = record {
  gives_back = gives-then first had runs.gives_back;
  no_reads = runs.no_reads;
  write = runs.write;
  steady = runs.steady;
  still_observable = runs.still_observable;
  grown = runs.grown;
}

-- ---- a reader over a window of its own

fault-is : {T : Type 0} (answer : Result T Fault) (fault : Fault) → fault_of answer ≡ Some fault → answer ≡ Err fault
fault-is (Ok x) fault e = absurd (cc e)
fault-is (Err other) fault e = let same : other ≡ fault = cc e in ap Err same

-- a window on the input is made, its bytes are read, and all that was held is given back
pub reads-back : {T : Type 0} {bound most own : ℕ} {answer : Result T Fault} {a b c d : Counts} → Grows a b 4096
    → MemoryCauses (fault_of answer) b c → Charges b c 4096 own most → Shrinks c d own → most ≤ bound → 4096 ≤ bound → GivesAllBack bound answer a d
reads-back {answer = answer} grows causes charges shrinks few some = record {
  memory = λ e. omega (arith, causes.memory (ap fault_of e), grows.refused, shrinks.refused);
  counted = λ no. shrinks.refused ∙ causes.counted (λ e. no (fault-is answer Memory e)) ∙ grows.refused;
  held = omega (arith, grows.held, charges.held, shrinks.held);
  peak = omega (arith, grows.held, grows.peak, charges.held, charges.peak, shrinks.held, shrinks.peak, few, some);
}

-- and so is one on the output
pub window-back : {T : Type 0} {most bound : ℕ} {answer : Result T Fault} {a b c d : Counts} → Grows a b 4096 → GivesAllBack most answer b c → Shrinks c d 4096 → 4096 + most ≤ bound
    → GivesAllBack bound answer a d
window-back grows gives shrinks few = record {
  memory = λ e. omega (arith, gives.memory e, grows.refused, shrinks.refused);
  counted = λ no. shrinks.refused ∙ gives.counted no ∙ grows.refused;
  held = omega (arith, grows.held, gives.held, shrinks.held);
  peak = omega (arith, grows.held, grows.peak, gives.held, gives.peak, shrinks.held, shrinks.peak, few);
}

-- ---- a fault that is passed on

abbrev pub IsPlain : Fault → Type 0
IsPlain fault = (r : Reason) (p : ℕ) → fault ≢ Refused r p

memory-plain : IsPlain Memory
memory-plain r p e = cc e

reads-plain : IsPlain ReadFault
reads-plain r p e = cc e

writes-plain : IsPlain WriteFault
writes-plain r p e = cc e

limit-plain : IsPlain InputLimit
limit-plain r p e = cc e

module _ {S T : Type 0} (outcome : Result S Fault) (fault back : Fault) (is : outcome ≡ Err fault) (from : IsPlain back → fault ≡ back) (same : IsPlain fault → back ≡ fault) where
  -- the fault of one answer is that of the other
  there : (f : Fault) → IsPlain f → ◌≡◌ {A = Result T Fault} (Err back) (Err f) → outcome ≡ Err f
  there f plain e =
      let back_is : back ≡ f = cc e in
      is ∙ ap Err (from (subst (λ k. IsPlain k) (sym back_is) plain) ∙ back_is)

  here : (f : Fault) → IsPlain f → outcome ≡ Err f → ◌≡◌ {A = Result T Fault} (Err back) (Err f)
  here f plain e =
      let both : ◌≡◌ {A = Result S Fault} (Err fault) (Err f) = sym is ∙ e in
      let fault_is : fault ≡ f = cc both in
      ap Err (same (subst (λ k. IsPlain k) (sym fault_is) plain) ∙ fault_is)

  pub passed-limit : ◌≡◌ {A = Result T Fault} (Err back) (Err InputLimit) → outcome ≡ Err InputLimit
  passed-limit e = there InputLimit limit-plain e

  pub passed-runs : {O : Type 0} {most : ℕ} {a b : Counts} {output : OutputOf O} {before after : O} → (outcome ≡ Err Memory → a.refused < b.refused) → (outcome ≢ Err Memory → b.refused ≡ a.refused)
      → b.held ≡ a.held → b.peak ≤ max a.peak (a.held + most) → outcome ≢ Err ReadFault → (outcome ≡ Err WriteFault → output.failure_count after ≡ output.failure_count before + 1)
      → (outcome ≢ Err WriteFault → output.failure_count after ≡ output.failure_count before) → (output.observable after ↔ output.observable before)
      → (output.observable before → HasPrefix (output.written after) (output.written before)) → Runs {T = T} most (Err back) a b output before after
  passed-runs memory counted held peak no_reads write steady observable grown = record {
    gives_back = record {
      memory = λ e. memory (there Memory memory-plain e);
      counted = λ no. counted (λ e. no (here Memory memory-plain e));
      held = held;
      peak = peak;
    };
    no_reads = λ e. no_reads (there ReadFault reads-plain e);
    write = λ e. write (there WriteFault writes-plain e);
    steady = λ no. steady (λ e. no (here WriteFault writes-plain e));
    still_observable = observable;
    grown = grown;
  }
