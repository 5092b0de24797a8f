-- Reading in parts: the first reason that holds, and the place of a part's fault.
use Rattle.std.specs.Prelude.{ℕ, Bool, true, false, Result, Ok, Err}
use Rattle.ion_meter.specs.declared.fault.Reason.{Reason}

-- ---- the first reason that holds

-- one step after another: the second, by what the first gives, or the first one's fault
infixl 20 ◌>>=◌
abbrev pub ◌>>=◌ : {A B E : Type 0} → Result A E → (A → Result B E) → Result B E
Ok x >>= f = f x
Err e >>= f = Err e

-- whether something holds, as a reason to stop
abbrev pub refuse : Bool → Reason → Result (Unit {0}) Reason
refuse true reason = Err reason
refuse false reason = Ok tt

-- one step after another, where the second does not need what the first gives: the second, or the first one's fault
infixl 20 ◌>>◌
abbrev pub ◌>>◌ : {A B E : Type 0} → Result A E → Result B E → Result B E
Ok x >> r = r
Err e >> r = Err e

-- ---- its place

-- a fault stands at the first byte of its part
abbrev pub Placed : Type 0 → Type 0
Placed A = Result A (Reason × ℕ)

-- what a part that begins at a place gives, or its reason and that place
abbrev pub part : {A : Type 0} → ℕ → Result A Reason → Placed A
part place (Ok x) = Ok x
part place (Err reason) = Err (reason, place)
