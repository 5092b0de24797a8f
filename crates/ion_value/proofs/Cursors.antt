-- Calls that read one after the other.
use Rattle.std.proofs.Common.{arith, ap, refl, subst, ◌∙◌, ◌≡◌, ℕ, ◌+◌, List, length, Result, Err}
use Rattle.ion_meter.specs.declared.device.Input.{Ghosts as InputOf}
use Rattle.ion_meter.specs.declared.fault.Fault.{Fault}
use Rattle.ion_meter.specs.declared.fault.Fault.TheVariants.{Refused, Memory, ReadFault, WriteFault, InputLimit}
use Rattle.ion_meter.specs.declared.fault.Reason.{Reason}
use Rattle.ion_meter.specs.Windows.{AreBytes, Incoming, left, Extends}
use Rattle.ion_meter.specs.Sources.{Cursor, cursor, Moves}
use Rattle.ion_value.specs.Answers.{Answers}

pub moves-then : {I : Type 0} (device : InputOf I) (s t u : Incoming I) → Moves device s t → Moves device t u → Moves device s u
moves-then device s t u a b = record {
  read_on = λ first h. b.read_on first (a.read_on first h);
  still_observable = (λ h. a.still_observable.0 (b.still_observable.0 h), λ h. b.still_observable.1 (a.still_observable.1 h));
  limit = b.limit ∙ a.limit;
  further = omega (arith, a.further, b.further);
  total = λ h. b.total (a.still_observable.1 h) ∙ a.total h;
  bytes = λ h. a.bytes (b.bytes h);
}

-- a source stays where it is
pub moves-not : {I : Type 0} (device : InputOf I) (s : Incoming I) → Moves device s s
moves-not device s = record {
  read_on = λ first h. h;
  still_observable = (λ h. h, λ h. h);
  limit = refl;
  further = omega arith;
  total = λ h. refl;
  bytes = λ h. h;
}

-- more was read, and nothing passed over
pub extends-moves : {I : Type 0} (device : InputOf I) (s t : Incoming I) → Extends device s t → Moves device s t
extends-moves device s t x = record {
  read_on = x.read_on;
  still_observable = x.still_observable;
  limit = x.limit;
  further = omega (arith, x.place);
  total = λ h. let same = ap (λ (l : List ℕ). length l) (x.same_left h) in omega (arith, x.place, same);
  bytes = λ b h. subst AreBytes (x.same_left h) (b (x.still_observable.1 h));
}

-- the reason of one call as that of another
pub answers-refused : {T U A B : Type 0} (view : T → A) (shown : U → B) (fault : Fault) (after next : Cursor) (place : ℕ) (one : Result (A × Cursor) Reason) (all : Result (B × Cursor) Reason)
    → Answers view (Err fault) after place one → ((e : Reason) → one ≡ Err e → all ≡ Err e) → Answers shown (Err fault) next place all
answers-refused view shown (Refused reason at) after next place one all h k = (k reason h.0, h.1)
answers-refused view shown Memory after next place one all h k = tt
answers-refused view shown ReadFault after next place one all h k = tt
answers-refused view shown WriteFault after next place one all h k = tt
answers-refused view shown InputLimit after next place one all h k = tt

-- more was read, and the source stands where it stood
pub cursor-extends : {I : Type 0} (device : InputOf I) (s t : Incoming I) → Extends device s t → device.observable s.device → cursor device t ≡ cursor device s
cursor-extends device s t x h = ap (λ n. record { place = n; rest = left device.rest t }) x.place ∙ ap (λ (l : List ℕ). record { place = s.place; rest = l }) (x.same_left h)
