-- Memory that grows by so much at most, over calls one after the other.
use Rattle.std.proofs.Common.{◌≡◌, ◌+◌, ◌*◌, ◌≤◌, ℕ, arith}
use Rattle.ion_meter.specs.Counts.{Counts}
use Rattle.ion_meter.specs.declared.device.Input.{Ghosts as InputOf}
use Rattle.ion_meter.specs.Windows.{Incoming}
use Rattle.ion_meter.specs.Sources.{Moves}
use Rattle.ion_value.specs.Calls.{passed_over}
use Rattle.ion_value.specs.Shares.{GrowsWithin}

-- what is within less is within more
pub grows-more : (a b : Counts) (k l less more : ℕ) → less ≤ more → GrowsWithin a b k l less → GrowsWithin a b k l more
grows-more a b k l less more le x =
    let own = x.own in let peak = x.peak in
    record { own = omega (arith, own, le); peak = omega (arith, peak, le) }

-- one call and then another, the meter moving by what is held: the second may take what the first left
pub grows-then : (a b c : Counts) (k l n x y more : ℕ) → b.held + k ≡ a.held + l → GrowsWithin a b k l x → GrowsWithin b c l n y → x ≤ more → l + y ≤ k + more → GrowsWithin a c k n more
grows-then a b c k l n x y more held one two first both =
    let po = one.peak in let pt = two.peak in let ot = two.own in
    record {
      own = omega (arith, ot, both);
      peak = omega (arith, held, po, pt, first, both);
    }

-- ---- over a source

-- one call passes over what it does, and the next over more
pub passed-then : {I : Type 0} (device : InputOf I) (s t u : Incoming I) → Moves device s t → Moves device t u → passed_over s t + passed_over t u ≡ passed_over s u
passed-then device s t u a b =
    let la = a.limit in let lb = b.limit in let fa = a.further in let fb = b.further in
    omega (arith, la, lb, fa, fb)

-- two calls that take 8 for each byte
pub grows-over : {I : Type 0} (device : InputOf I) (s t u : Incoming I) (a b c : Counts) (k l n : ℕ) → b.held + k ≡ a.held + l → Moves device s t → Moves device t u
    → GrowsWithin a b k l (8 * passed_over s t) → GrowsWithin b c l n (8 * passed_over t u) → GrowsWithin a c k n (8 * passed_over s u)
grows-over device s t u a b c k l n held first then one two =
    let sum = passed-then device s t u first then in let own = one.own in
    grows-then a b c k l n (8 * passed_over s t) (8 * passed_over t u) (8 * passed_over s u) held one two (omega (arith, sum)) (omega (arith, sum, own))

-- and then one that takes no memory
pub grows-on : {I : Type 0} (device : InputOf I) (s t u : Incoming I) (a b : Counts) (k l : ℕ) → Moves device s t → Moves device t u
    → GrowsWithin a b k l (8 * passed_over s t) → GrowsWithin a b k l (8 * passed_over s u)
grows-on device s t u a b k l first then one =
    let sum = passed-then device s t u first then in
    grows-more a b k l (8 * passed_over s t) (8 * passed_over s u) (omega (arith, sum)) one

-- or for which a byte more was passed over, and that then takes at most 8
pub grows-after : {I : Type 0} (device : InputOf I) (s t u : Incoming I) (a b c : Counts) (k l n y : ℕ) → b.held + k ≡ a.held + l → Moves device s t → Moves device t u → 1 ≤ passed_over t u
    → y ≤ 8 → GrowsWithin a b k l (8 * passed_over s t) → GrowsWithin b c l n y → GrowsWithin a c k n (8 * passed_over s u)
grows-after device s t u a b c k l n y held first then some few one two =
    let sum = passed-then device s t u first then in let own = one.own in
    grows-then a b c k l n (8 * passed_over s t) y (8 * passed_over s u) held one two (omega (arith, sum)) (omega (arith, sum, own, some, few))

-- two calls that take 16 for each byte
pub grows-read : {I : Type 0} (device : InputOf I) (s t u : Incoming I) (a b c : Counts) (k l n : ℕ) → b.held + k ≡ a.held + l → Moves device s t → Moves device t u
    → GrowsWithin a b k l (16 * passed_over s t) → GrowsWithin b c l n (16 * passed_over t u) → GrowsWithin a c k n (16 * passed_over s u)
grows-read device s t u a b c k l n held first then one two =
    let sum = passed-then device s t u first then in let own = one.own in
    grows-then a b c k l n (16 * passed_over s t) (16 * passed_over t u) (16 * passed_over s u) held one two (omega (arith, sum)) (omega (arith, sum, own))
