-- Bytes that were written to a device, all or a prefix of them.
use Rattle.std.proofs.Common.{arith, ◌≡◌, ◌↔◌, ◌⊎◌, inl, inr, ◌+◌, ◌++◌, ℕ, List, [], ◌∷◌, length, Result, Ok, Err, OnOk, MatchResult, take, drop, refl, sym, ap, subst, ◌∙◌, append_assoc, append-nil}
use Rattle.std.specs.Prelude.{◌==◌, Bool, true, false, codes}
use Rattle.std.specs.Result.{is_ok}
use Rattle.ion_meter.proofs.Written.{rest_of_prefix}
use Rattle.ion_meter.specs.declared.device.Output.{Ghosts as OutputOf}
use Rattle.ion_value.proofs.Outcomes.{prefix-then}
use Rattle.ion_tool.specs.Serving.{reason_text, Gets, Puts}

-- a call after which the count of failures is as it was has succeeded
where_unfailed : {T F : Type 0} (r : Result T F) (old new : ℕ) (P : Type 0)
    → MatchResult r (λ _. new ≡ old) (λ _. new ≡ old + 1) → OnOk r P → new ≡ old → P
where_unfailed (Ok x) old new P count ok same = ok
where_unfailed (Err e) old new P count ok same = absurd (omega arith)

-- a call fails once at most
one_at_most : {T F : Type 0} (r : Result T F) (old new : ℕ) → MatchResult r (λ _. new ≡ old) (λ _. new ≡ old + 1) → (new ≡ old) ⊎ (new ≡ old + 1)
one_at_most (Ok x) old new count = inl count
one_at_most (Err e) old new count = inr count

-- what a write of bytes says, as one fact
pub gets : {D T F : Type 0} (device : OutputOf D) (bytes : List ℕ) (old new : D) (r : Result T F)
    → (device.observable new ↔ device.observable old)
    → MatchResult r (λ _. device.failure_count new ≡ device.failure_count old) (λ _. device.failure_count new ≡ device.failure_count old + 1)
    → (device.observable old → OnOk r (device.written new ≡ device.written old ++ bytes))
    → (device.observable old → (n : ℕ) × (device.written new ≡ device.written old ++ take n bytes))
    → Gets device bytes old new
gets device bytes old new r same count all prefix = record {
  prefix = λ t. let n = (prefix t).0 in (drop n bytes, sym (append-nil _) ∙ rest_of_prefix _ _ bytes n (prefix t).1);
  grown = λ t. (take (prefix t).0 bytes, (prefix t).1);
  whole = λ t same. where_unfailed r _ _ _ count (all t) same;
  once = one_at_most r _ _ count;
  still_observable = same;
}

-- bytes that went to a device whole, and then others
pub gets_then : {D : Type 0} (device : OutputOf D) (first second : List ℕ) (old middle new : D)
    → device.failure_count middle ≡ device.failure_count old
    → Gets device first old middle → Gets device second middle new → Gets device (first ++ second) old new
gets_then device first second old middle new count a b = record {
  prefix = λ t. let rest = b.prefix (a.still_observable.1 t) in
      (rest.0, sym (append_assoc (device.written old) first second) ∙ (ap (λ (l : List ℕ). l ++ second) (sym (a.whole t count)) ∙ rest.1));
  grown = λ t. prefix-then (device.written old) (device.written middle) (device.written new) (b.grown (a.still_observable.1 t)) (a.grown t);
  whole = λ t e. b.whole (a.still_observable.1 t) (e ∙ sym count) ∙ (ap (λ (l : List ℕ). l ++ second) (a.whole t count) ∙ append_assoc (device.written old) first second);
  once = subst (λ (n : ℕ). (device.failure_count new ≡ n) ⊎ (device.failure_count new ≡ n + 1)) count b.once;
  still_observable = (λ t. a.still_observable.0 (b.still_observable.0 t), λ t. b.still_observable.1 (a.still_observable.1 t));
}

-- bytes of which a prefix went to a device that failed then
pub gets_cut : {D : Type 0} (device : OutputOf D) (first second : List ℕ) (old new : D)
    → device.failure_count new ≡ device.failure_count old + 1 → Gets device first old new → Gets device (first ++ second) old new
gets_cut device first second old new count a = record {
  prefix = λ t. let rest = a.prefix t in
      (rest.0 ++ second, sym (append_assoc (device.written old) first second) ∙ (ap (λ (l : List ℕ). l ++ second) rest.1 ∙ append_assoc (device.written new) rest.0 second));
  grown = a.grown;
  whole = λ t e. absurd (omega arith);
  once = a.once;
  still_observable = a.still_observable;
}

-- the count of failures after a call that failed, and after one that succeeded
failed : {T F : Type 0} (r : Result T F) (old new : ℕ) → is_ok r ≡ false → MatchResult r (λ _. new ≡ old) (λ _. new ≡ old + 1) → new ≡ old + 1
failed (Ok x) old new e count = absurd (cc e)
failed (Err x) old new e count = count

worked : {T F : Type 0} (r : Result T F) (old new : ℕ) → is_ok r ≡ true → MatchResult r (λ _. new ≡ old) (λ _. new ≡ old + 1) → new ≡ old
worked (Ok x) old new e count = count
worked (Err x) old new e count = absurd (cc e)

-- what a write of bytes says, and whether it was done
pub puts : {D T F : Type 0} (device : OutputOf D) (bytes : List ℕ) (old new : D) (r : Result T F) (done : Bool) → done ≡ is_ok r
    → (device.observable new ↔ device.observable old)
    → MatchResult r (λ _. device.failure_count new ≡ device.failure_count old) (λ _. device.failure_count new ≡ device.failure_count old + 1)
    → (device.observable old → OnOk r (device.written new ≡ device.written old ++ bytes))
    → (device.observable old → (n : ℕ) × (device.written new ≡ device.written old ++ take n bytes))
    → Puts device bytes old new done
puts device bytes old new r done e same count all prefix = record {
  gets = gets device bytes old new r same count all prefix;
  all = λ t. worked r _ _ (sym e ∙ t) count;
  cut = λ f. failed r _ _ (sym e ∙ f) count;
}

-- no bytes, and nothing is written
pub puts_nothing : {D : Type 0} (device : OutputOf D) (old : D) → Puts device [] old old true
puts_nothing device old = record {
  gets = record {
    prefix = λ t. ([], refl);
    grown = λ t. ([], sym (append-nil _));
    whole = λ t e. sym (append-nil _);
    once = inl refl;
    still_observable = (λ t. t, λ t. t);
  };
  all = λ t. refl;
  cut = λ f. absurd (cc f);
}

-- bytes that were written, and then others
pub puts_then : {D : Type 0} (device : OutputOf D) (first second : List ℕ) (old middle new : D) (begun done : Bool) → begun ≡ true
    → Puts device first old middle begun → Puts device second middle new done → Puts device (first ++ second) old new done
puts_then device first second old middle new begun done is a b = record {
  gets = gets_then device first second old middle new (a.all is) a.gets b.gets;
  all = λ t. b.all t ∙ a.all is;
  cut = λ f. b.cut f ∙ ap (λ n. n + 1) (a.all is);
}

-- bytes of which not all were written, and no others
pub puts_cut : {D : Type 0} (device : OutputOf D) (first second : List ℕ) (old new : D) (begun : Bool) → begun ≡ false
    → Puts device first old new begun → Puts device (first ++ second) old new false
puts_cut device first second old new begun is a = record {
  gets = gets_cut device first second old new (a.cut is) a.gets;
  all = λ t. absurd (cc t);
  cut = λ f. a.cut is;
}

-- a reason that is there stands after two characters
pub some_reason : (reason : List ℕ) → (length reason == 0) ≡ false → reason_text reason ≡ codes ": " ++ reason
some_reason [] e = absurd (cc e)
some_reason (first ∷ rest) e = refl

-- of these bytes the last ones are left to be written, and no write has failed
pub record IsLeft {D : Type 0} (device : OutputOf D) (all left : List ℕ) (old new : D) : Type 0 where
  pub done : List ℕ
  pub put : Puts device done old new true
  pub is : done ++ left ≡ all

pub left_all : {D : Type 0} (device : OutputOf D) (all : List ℕ) (old : D) → IsLeft device all all old old
left_all device all old = record { done = []; put = puts_nothing device old; is = refl }

-- a part of them is written
pub left_then : {D : Type 0} (device : OutputOf D) (all part left rest : List ℕ) (old middle new : D) (more : Bool) → left ≡ part ++ rest → more ≡ true
    → IsLeft device all left old middle → Puts device part middle new more → IsLeft device all rest old new
left_then {D} device all part left rest old middle new more e is a b = record {
  done = a.done ++ part;
  put = puts_then device a.done part old middle new true true refl a.put (subst (λ (x : Bool). Puts device part middle new x) is b);
  is = append_assoc a.done part rest ∙ (ap (λ (l : List ℕ). a.done ++ l) (sym e) ∙ a.is);
}

-- a part of them is not written whole, nor any other
pub left_cut : {D : Type 0} (device : OutputOf D) (all part left rest : List ℕ) (old middle new : D) (more : Bool) → left ≡ part ++ rest → more ≡ false
    → IsLeft device all left old middle → Puts device part middle new more → Puts device all old new false
left_cut {D} device all part left rest old middle new more e is a b =
    subst (λ (l : List ℕ). Puts device l old new false) (ap (λ (l : List ℕ). a.done ++ l) (sym e) ∙ a.is)
    (puts_then device a.done (part ++ rest) old middle new true false refl a.put (puts_cut device part rest middle new more is b))

-- all of them are written
pub left_none : {D : Type 0} (device : OutputOf D) (all left : List ℕ) (old new : D) → left ≡ [] → IsLeft device all left old new → Puts device all old new true
left_none {D} device all left old new e a =
    subst (λ (l : List ℕ). Puts device l old new true) (sym (append-nil a.done) ∙ (ap (λ (l : List ℕ). a.done ++ l) (sym e) ∙ a.is)) a.put
