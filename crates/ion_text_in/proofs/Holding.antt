-- Calls one after the other: what they charge, and the causes of their faults.
use Rattle.std.proofs.Common.{◌≡◌, ℕ, ◌+◌, ◌≤◌, Option, Some, None, Result, Ok, Err, refl, ap, ◌∙◌, arith}
use Rattle.std.specs.Result.{IsErr, IsErrAnd}
use Rattle.ion_meter.specs.Counts.{Counts}
use Rattle.ion_meter.specs.declared.device.Input.{Ghosts as InputOf}
use Rattle.ion_meter.specs.declared.fault.Fault.{Fault}
use Rattle.ion_meter.specs.declared.fault.Fault.TheVariants.{Refused}
use Rattle.ion_meter.specs.declared.fault.Reason.{Reason}
use Rattle.ion_meter.specs.Windows.{Incoming}
use Rattle.ion_meter.specs.Sources.{Exceeds, Moves, Causes}
use Rattle.ion_value.specs.Shares.{Charges, ReadCauses}

pub charges-none : (m : Counts) (n most : ℕ) → n ≤ most → n ≤ m.held → Charges m m n n most
charges-none m n most le there = record { held = refl; share = le; peak = omega (arith, le, there); rises = omega arith }

-- why no fault is answered, and why what was read is refused
pub causes-none : (a b : Counts) (n : ℕ) (exceeds : Type 0) → b.refused ≡ a.refused → ReadCauses None a b n n exceeds
causes-none a b n exceeds still = record { memory = λ e. absurd (cc e); counted = λ _. still; device = λ e. absurd (cc e); steady = λ _. refl; limit = λ e. absurd (cc e); no_writes = λ e. cc e }

pub causes-refused : (reason : Reason) (place : ℕ) (a b : Counts) (n k : ℕ) (exceeds : Type 0) → ReadCauses None a b n k exceeds → ReadCauses (Some (Refused reason place)) a b n k exceeds
causes-refused reason place a b n k exceeds c =
    record { memory = λ e. absurd (cc e); counted = λ _. c.counted (λ e. cc e); device = λ e. absurd (cc e); steady = λ _. c.steady (λ e. cc e); limit = λ e. absurd (cc e); no_writes = λ e. cc e }

pub charges-then : (a b c : Counts) (k l n most : ℕ) → k ≤ a.held → Charges a b k l most → Charges b c l n most → Charges a c k n most
charges-then a b c k l n most there x y =
    let hx = x.held in let hy = y.held in let px = x.peak in let py = y.peak in let rx = x.rises in let ry = y.rises in
    record {
      held = omega (arith, hx, hy);
      share = y.share;
      peak = omega (arith, hx, px, py, there);
      rises = omega (arith, rx, ry);
    }

pub exceeds-then : {I : Type 0} (device : InputOf I) (s t : Incoming I) → Moves device s t → Exceeds device t → Exceeds device s
exceeds-then device s t moves exceeds = λ h.
    let over = exceeds (moves.still_observable.1 h) in
    let total = moves.total h in
    let limit = moves.limit in
    omega (arith, over, total, limit)

pub causes-then : {I : Type 0} (device : InputOf I) (s t u : Incoming I) (a b c : Counts) (fault : Option Fault) → Moves device s t
    → ReadCauses None a b (device.failure_count s.device) (device.failure_count t.device) (Exceeds device s)
    → ReadCauses fault b c (device.failure_count t.device) (device.failure_count u.device) (Exceeds device t)
    → ReadCauses fault a c (device.failure_count s.device) (device.failure_count u.device) (Exceeds device s)
causes-then device s t u a b c fault moves x y =
    let still = x.counted (λ e. cc e) in
    let steady = x.steady (λ e. cc e) in
    record {
      memory = λ e. let less = y.memory e in omega (arith, less, still);
      counted = λ e. y.counted e ∙ still;
      device = λ e. y.device e ∙ ap (λ (n : ℕ). n + 1) steady;
      steady = λ e. y.steady e ∙ steady;
      limit = λ e. exceeds-then device s t moves (y.limit e);
      no_writes = y.no_writes;
    }

-- the fault that `?` hands on
pub handed-on : {T E : Type 0} (r : Result T E) (e : E) → IsErr r × IsErrAnd r (λ y. y ≡ e) → r ≡ Err e
handed-on (Ok x) e given = absurd (cc given.0)
handed-on (Err y) e given = ap Err given.1

-- a call that takes no memory
pub causes-held : (fault : Option Fault) (m : Counts) (n k : ℕ) (exceeds : Type 0) → Causes fault n k exceeds → ReadCauses fault m m n k exceeds
causes-held fault m n k exceeds c = record { memory = λ e. absurd (c.no_memory e); counted = λ _. refl; device = c.device; steady = c.steady; limit = c.limit; no_writes = c.no_writes }
