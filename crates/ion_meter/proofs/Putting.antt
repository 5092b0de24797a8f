-- Bytes that are put into a window in parts.
use Rattle.std.proofs.Common.{subst, ◌≡◌, ℕ, ◌+◌, ◌-◌, ◌↔◌, List, [], ◌++◌, length, take, drop, sym, ap, ◌∙◌, append_assoc, append-nil, None, Result, Ok, Err, arith}
use Rattle.ion_meter.specs.declared.fault.Fault.{Fault}
use Rattle.std.proofs.lemmas.List.{take-append-drop}
use Rattle.ion_meter.specs.Windows.{Outgoing, so_far, HasPrefix, Puts}
use Rattle.ion_meter.specs.Sinks.{HasPut}
use Rattle.ion_meter.proofs.Written.{written_part}

-- nothing was put
pub Puts-nothing : {O : Type 0} (written : O → List ℕ) (observable : O → Type 0) (s : Outgoing O) → Puts written observable s s []
Puts-nothing written observable s = record {
  still_observable = (λ t. t, λ t. t);
  grown = λ _. ([], sym (append-nil (written s.device)));
  prefix = λ _. (s.pending, append-nil (so_far written s));
}

-- a window that took a prefix of the bytes, and then failed
pub Puts-after : {O : Type 0} (written : O → List ℕ) (observable : O → Type 0) (s m u : Outgoing O) (bytes : List ℕ) (at : ℕ)
    → (observable m.device ↔ observable s.device) → (observable s.device → HasPrefix (written m.device) (written s.device))
    → (observable s.device → so_far written m ≡ so_far written s ++ take at bytes) → Puts written observable m u [] → Puts written observable s u bytes
Puts-after written observable s m u bytes at same grown taken p = record {
  still_observable = (λ t. same.0 (p.still_observable.0 t), λ t. p.still_observable.1 (same.1 t));
  grown = λ t. let a = grown t in let b = p.grown (same.1 t) in (a.0 ++ b.0, b.1 ∙ (ap (λ (l : List ℕ). l ++ b.0) a.1 ∙ append_assoc (written s.device) a.0 b.0));
  prefix = λ t.
      let f = p.prefix (same.1 t) in (
        f.0 ++ drop at bytes,
        ap (λ (l : List ℕ). so_far written s ++ l) (sym (take-append-drop at bytes))
            ∙ (sym (append_assoc (so_far written s) (take at bytes) (drop at bytes))
            ∙ (ap (λ (l : List ℕ). l ++ drop at bytes) (sym (taken t) ∙ (sym (append-nil (so_far written m)) ∙ f.1))
            ∙ append_assoc (written u.device) f.0 (drop at bytes))),
      );
}

-- a window with room takes the next part
pub taken_part : {O : Type 0} (written : O → List ℕ) (s l m u : Outgoing O) (bytes : List ℕ) (at n : ℕ)
    → so_far written l ≡ so_far written s ++ take at bytes → so_far written m ≡ so_far written l → u.device ≡ m.device
    → u.pending ≡ m.pending ++ take n (take (length bytes - at) (drop at bytes)) → so_far written u ≡ so_far written s ++ take (at + n) bytes
taken_part written s l m u bytes at n p q d e =
    let next = take n (take (length bytes - at) (drop at bytes)) in
    written_part (so_far written s) (so_far written m) (so_far written u) bytes at n (q ∙ p)
    (ap (λ (x : List ℕ). written u.device ++ x) e ∙ (ap (λ x. written x ++ (m.pending ++ next)) d ∙ sym (append_assoc (written m.device) m.pending next)))

-- the window took all of the bytes
pub Puts-taken : {O : Type 0} (written : O → List ℕ) (observable : O → Type 0) (s u : Outgoing O) (bytes : List ℕ)
    → u.device ≡ s.device → u.pending ≡ s.pending ++ bytes → Puts written observable s u bytes
Puts-taken written observable s u bytes d e = record {
  still_observable = (λ t. subst observable d t, λ t. subst observable (sym d) t);
  grown = λ _. ([], ap written d ∙ sym (append-nil (written s.device)));
  prefix = λ _. (s.pending ++ bytes, append_assoc (written s.device) s.pending bytes ∙ ap (λ x. written x ++ (s.pending ++ bytes)) (sym d));
}

-- more bytes might have been put
pub Puts-longer : {O : Type 0} (written : O → List ℕ) (observable : O → Type 0) (s u : Outgoing O) (xs ys : List ℕ) → Puts written observable s u xs → Puts written observable s u (xs ++ ys)
Puts-longer written observable s u xs ys p = record {
  still_observable = p.still_observable;
  grown = p.grown;
  prefix = λ t.
      let f = p.prefix t in
      (f.0 ++ ys, sym (append_assoc (so_far written s) xs ys) ∙ (ap (λ (l : List ℕ). l ++ ys) f.1 ∙ append_assoc (written u.device) f.0 ys));
}

-- ---- calls that put bytes

-- some bytes were put, and then others
pub Puts-then : {O : Type 0} (written : O → List ℕ) (observable : O → Type 0) (s m u : Outgoing O) (xs ys : List ℕ)
    → Puts written observable s m xs → (observable s.device → so_far written m ≡ so_far written s ++ xs) → Puts written observable m u ys → Puts written observable s u (xs ++ ys)
Puts-then written observable s m u xs ys p whole q = record {
  still_observable = (λ t. p.still_observable.0 (q.still_observable.0 t), λ t. q.still_observable.1 (p.still_observable.1 t));
  grown = λ t.
      let a = p.grown t in let b = q.grown (p.still_observable.1 t) in
      (a.0 ++ b.0, b.1 ∙ (ap (λ (l : List ℕ). l ++ b.0) a.1 ∙ append_assoc (written s.device) a.0 b.0));
  prefix = λ t.
      let f = q.prefix (p.still_observable.1 t) in
      (f.0, sym (append_assoc (so_far written s) xs ys) ∙ (ap (λ (l : List ℕ). l ++ ys) (sym (whole t)) ∙ f.1));
}

-- nothing is put
pub put_nothing : {O T : Type 0} (written : O → List ℕ) (observable : O → Type 0) (failures : O → ℕ) {s : Outgoing O} (x : T) → s.fault ≡ None → HasPut {T = T} written observable failures s s (Ok x) []
put_nothing written observable failures {s} x e = record {
  whole = λ _. sym (append-nil (so_far written s));
  well = e;
  part = Puts-nothing written observable s;
  cause = _;
  count = omega arith;
}

-- the first part fails
cut : {O T : Type 0} (written : O → List ℕ) (observable : O → Type 0) (failures : O → ℕ) (s u : Outgoing O) (f : Fault) (first : Result T Fault) (xs ys : List ℕ)
    → first ≡ Err f → HasPut {T = T} written observable failures s u first xs → HasPut {T = T} written observable failures s u (Err f) (xs ++ ys)
cut written observable failures s u f (Ok x) xs ys e p = absurd (cc e)
cut {T} written observable failures s u f (Err g) xs ys e p =
    rw (sym e) record { whole = _; well = _; part = Puts-longer written observable s u xs ys p.part; cause = p.cause; count = p.count }

pub put_cut : {O T : Type 0} {written : O → List ℕ} {observable : O → Type 0} {failures : O → ℕ} {s u : Outgoing O} {f : Fault} {first : Result T Fault} {xs : List ℕ} (ys : List ℕ)
    → first ≡ Err f → HasPut {T = T} written observable failures s u first xs → HasPut {T = T} written observable failures s u (Err f) (xs ++ ys)
put_cut ys e p = cut _ _ _ _ _ _ _ _ ys e p

-- the first part is put, and then the other, or a prefix of it
then : {O T : Type 0} (written : O → List ℕ) (observable : O → Type 0) (failures : O → ℕ) (s m u : Outgoing O) (x : T) (first result : Result T Fault) (xs ys : List ℕ)
    → first ≡ Ok x → HasPut {T = T} written observable failures s m first xs → HasPut {T = T} written observable failures m u result ys
    → HasPut {T = T} written observable failures s u result (xs ++ ys)
then written observable failures s m u x (Err f) result xs ys e p q = absurd (cc e)
then written observable failures s m u x (Ok z) (Ok y) xs ys e p q = record {
  whole = λ t. q.whole (p.part.still_observable.1 t) ∙ (ap (λ (l : List ℕ). l ++ ys) (p.whole t) ∙ append_assoc (so_far written s) xs ys);
  well = q.well;
  part = Puts-then written observable s m u xs ys p.part p.whole q.part;
  cause = _;
  count = omega (arith, p.count, q.count);
}
then written observable failures s m u x (Ok z) (Err f) xs ys e p q = record {
  whole = _;
  well = _;
  part = Puts-then written observable s m u xs ys p.part p.whole q.part;
  cause = q.cause;
  count = omega (arith, p.count, q.count);
}

pub put_then : {O T : Type 0} {written : O → List ℕ} {observable : O → Type 0} {failures : O → ℕ} {s m u : Outgoing O} {x : T} {first result : Result T Fault} {xs ys : List ℕ}
    → first ≡ Ok x → HasPut {T = T} written observable failures s m first xs → HasPut {T = T} written observable failures m u result ys
    → HasPut {T = T} written observable failures s u result (xs ++ ys)
put_then e p q = then _ _ _ _ _ _ _ _ _ _ _ e p q
