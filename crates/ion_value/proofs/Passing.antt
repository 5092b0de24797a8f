-- Octets that are passed over in the window, and what more of the device was read.
use Rattle.std.proofs.Common.{arith, ap, ◌∙◌, sym, subst, ◌≡◌, ℕ, ◌+◌, ◌≤◌, ◌↔◌, List, ◌++◌, length, take, drop, None}
use Rattle.std.proofs.lemmas.Grind.{common_steps}
use Rattle.std.proofs.Math.Seq.{take-add}
use Rattle.std.proofs.lemmas.List.{drop-drop}
use Rattle.ion_meter.specs.declared.device.Input.{Ghosts as InputOf}
use Rattle.ion_meter.specs.Devices.{IsReadOn}
use Rattle.ion_meter.specs.Windows.{AreBytes, Incoming, left, lent, Extends, IsPassed}
use Rattle.ion_meter.proofs.Lent.{lent-CanPass, IsPassed-left, IsPassed-total}
use Rattle.ion_meter.specs.Sources.{skip, cursor, Stands, Moves}
use Rattle.ion_value.proofs.Cursors.{moves-then}

-- what is lent is there
pub lent-there : {I : Type 0} (rest : I → List ℕ) (s : Incoming I) (n : ℕ) → n ≤ length (lent s) → n ≤ length (left rest s)
lent-there rest s n h = let w = lent-CanPass s n h in grind (arith, common_steps, w.0)

-- where a window stands, octets having been passed over in it
pub IsPassed-cursor : {I : Type 0} (device : InputOf I) (s t : Incoming I) (n : ℕ) → n ≤ length (lent s) → IsPassed s t n → cursor device t ≡ skip n (cursor device s)
IsPassed-cursor device s t n h p =
    let w = lent-CanPass s n h in
    ap (λ k. record { place = k; rest = left device.rest t }) p.place ∙ ap (λ (l : List ℕ). record { place = s.place + n; rest = l }) (IsPassed-left device.rest s t n w.0 p)

-- how it moves then
pub IsPassed-moves : {I : Type 0} (device : InputOf I) (s t : Incoming I) (n : ℕ) → n ≤ length (lent s) → IsPassed s t n → Moves device s t
IsPassed-moves device s t n h p = record {
  read_on = λ first h. subst (λ d. IsReadOn device first d) (sym p.device) h;
  still_observable = (subst device.observable p.device, subst device.observable (sym p.device));
  limit = p.limit;
  further = omega (arith, p.place);
  total = λ _. IsPassed-total device.rest s t n (lent-CanPass s n h).0 p;
  bytes = λ b o. subst (λ d. AreBytes (s.buffered ++ device.rest d)) p.device (p.bytes (device.rest t.device) (b (subst device.observable (sym p.device) o)));
}

-- n octets were passed over
pub record Passed {I : Type 0} (device : InputOf I) (old new : Incoming I) (n : ℕ) : Type 0 where
  pub stands : Stands new
  pub moves : Moves device old new
  pub place : new.place ≡ old.place + n
  pub after : device.observable old.device → left device.rest new ≡ drop n (left device.rest old)

pub Passed-then : {I : Type 0} (device : InputOf I) (s t u : Incoming I) (m n : ℕ) → Passed device s t m → Passed device t u n → Passed device s u (m + n)
Passed-then device s t u m n a b = record {
  stands = b.stands;
  moves = moves-then device s t u a.moves b.moves;
  place = omega (arith, a.place, b.place);
  after = λ h. b.after (a.moves.still_observable.1 h) ∙ (ap (λ (l : List ℕ). drop n l) (a.after h) ∙ drop-drop n m (left device.rest s));
}

-- octets that the window lends were passed over, more of the device having been read
pub Passed-lent : {I : Type 0} (device : InputOf I) (s p t : Incoming I) (n : ℕ) → Stands s → Extends device s p → p.fault ≡ None → n ≤ length (lent p) → IsPassed p t n
    → Passed device s t n
Passed-lent device s p t n h kept well fits passed =
    let w = lent-CanPass p n fits in
    record {
      stands = record { well = passed.fault ∙ well; within = omega (arith, w.1, passed.place, passed.limit, kept.place, kept.limit, h.within); small = omega (arith, passed.limit, kept.limit, h.small) };
      moves = record {
        read_on = λ first h. subst (λ d. IsReadOn device first d) (sym passed.device) (kept.read_on first h);
        still_observable = subst (λ d. device.observable d ↔ device.observable s.device) (sym passed.device) kept.still_observable;
        limit = passed.limit ∙ kept.limit;
        further = omega (arith, passed.place, kept.place);
        total = λ t'. IsPassed-total device.rest p t n w.0 passed ∙ omega (arith, kept.place, ap (λ (l : List ℕ). length l) (kept.same_left t'));
        bytes = λ b t'. subst AreBytes (kept.same_left t') ((IsPassed-moves device p t n fits passed).bytes b (kept.still_observable.1 t'));
      };
      place = omega (arith, passed.place, kept.place);
      after = λ t'. IsPassed-left device.rest p t n w.0 passed ∙ ap (λ (l : List ℕ). drop n l) (kept.same_left t');
    }

-- a prefix of octets, and the next of them after it
pub take_on : (all text after next : List ℕ) (n : ℕ) → text ≡ take (length text) all → after ≡ drop (length text) all → next ≡ take n after
    → text ++ next ≡ take (length text + n) all
take_on all text after next n prefix rest piece =
    ap (λ (l : List ℕ). text ++ l) (piece ∙ ap (λ (l : List ℕ). take n l) rest)
    ∙ (ap (λ (l : List ℕ). l ++ take n (drop (length text) all)) prefix ∙ sym (take-add (length text) n all))
