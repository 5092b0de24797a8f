-- Windows into which more of the device is read, and more again.
use Rattle.std.proofs.Common.{List, ℕ, [], ◌++◌, refl, ap, sym, ◌∙◌, append_assoc, append-nil}
use Rattle.ion_meter.specs.declared.device.Input.{Ghosts as InputOf}
use Rattle.ion_meter.specs.Windows.{Incoming, Extends}

pub extends-then : {I : Type 0} (device : InputOf I) (s p q : Incoming I) → Extends device s p → Extends device p q → Extends device s q
extends-then device s p q a b = record {
  prefix = (a.prefix.0 ++ b.prefix.0, b.prefix.1 ∙ ap (λ (l : List ℕ). l ++ b.prefix.0) a.prefix.1 ∙ append_assoc s.buffered a.prefix.0 b.prefix.0);
  place = b.place ∙ a.place;
  limit = b.limit ∙ a.limit;
  read_on = λ first h. b.read_on first (a.read_on first h);
  still_observable = (λ h. a.still_observable.0 (b.still_observable.0 h), λ h. b.still_observable.1 (a.still_observable.1 h));
  same_left = λ h. b.same_left (a.still_observable.1 h) ∙ a.same_left h;
}

-- nothing more is read
pub extends-not : {I : Type 0} (device : InputOf I) (s : Incoming I) → Extends device s s
extends-not device s = record {
  prefix = ([], sym (append-nil s.buffered));
  place = refl;
  limit = refl;
  read_on = λ first h. h;
  still_observable = (λ h. h, λ h. h);
  same_left = λ h. refl;
}
