-- White space that a byte ends which begins no comment: there is one run of it.
use Rattle.std.proofs.Common.{◌≡◌, ℕ, zero, suc, ◌<◌, ◌≤◌, ◌==◌, not, Bool, true, false, List, [], ◌∷◌, length, take, drop, get_or, None, refl, ap, subst, ◌∙◌, arith}
use Rattle.std.proofs.lemmas.Bool.{and_parts}
use Rattle.ion_meter.specs.Windows.{Incoming, lent, IsPassed}
use Rattle.ion_value.specs.Digits.{all_are, first_is}
use Rattle.ion_text_in.specs.Blanks.{is_white}
use Rattle.ion_text_in.specs.Overrun.{EndsWhite, IsRun}
use Rattle.ion_text_in.proofs.FeedReader.{lent-passed}

run-at : (test : ℕ → Bool) (bytes : List ℕ) (n m : ℕ) → n ≤ length bytes → m ≤ length bytes
    → all_are test (take n bytes) ≡ true → first_is test (drop n bytes) ≡ false → all_are test (take m bytes) ≡ true → first_is test (drop m bytes) ≡ false → n ≡ m
run-at test [] n m le lf all ends run stops = omega (arith, le, lf)
run-at test (b ∷ bytes) zero zero le lf all ends run stops = refl
run-at test (b ∷ bytes) zero (suc m) le lf all ends run stops = absurd (cc (ends, (and_parts (test b) (all_are test (take m bytes)) run).0))
run-at test (b ∷ bytes) (suc n) zero le lf all ends run stops = absurd (cc (stops, (and_parts (test b) (all_are test (take n bytes)) all).0))
run-at test (b ∷ bytes) (suc n) (suc m) le lf all ends run stops =
    ap suc (run-at test bytes n m (omega (arith, le)) (omega (arith, lf)) (and_parts (test b) (all_are test (take n bytes)) all).1 ends (and_parts (test b) (all_are test (take m bytes)) run).1 stops)

pub one-run : (test : ℕ → Bool) (bytes : List ℕ) (n m : ℕ) → IsRun test bytes n → IsRun test bytes m → n ≡ m
one-run test bytes n m one other = run-at test bytes n m one.within other.within one.run one.ends other.run other.ends

-- the byte after a run
pub first-at : (test : ℕ → Bool) (bytes : List ℕ) (n : ℕ) → n < length bytes → first_is test (drop n bytes) ≡ test (get_or bytes n 0)
first-at test [] n lt = absurd (omega (arith, lt))
first-at test (b ∷ bytes) zero lt = refl
first-at test (b ∷ bytes) (suc n) lt = first-at test bytes n (omega (arith, lt))

pub none-at : (test : ℕ → Bool) (bytes : List ℕ) (n : ℕ) → length bytes ≤ n → first_is test (drop n bytes) ≡ false
none-at test [] zero le = refl
none-at test [] (suc n) le = refl
none-at test (b ∷ bytes) zero le = absurd (omega (arith, le))
none-at test (b ∷ bytes) (suc n) le = none-at test bytes n (omega (arith, le))

-- where the window shows such a run, it is passed over, and the device is left alone
pub white-passed : {I : Type 0} (s t : Incoming I) (bytes : List ℕ) (run n : ℕ) → s.fault ≡ None → bytes ≡ lent s → IsRun is_white bytes run → IsPassed s t run → EndsWhite (lent s) n
    → (t.device ≡ s.device) × (lent t ≡ drop n (lent s))
white-passed s t bytes run n well is white passed ends =
    let here : IsRun is_white (lent s) run = subst (λ (l : List ℕ). IsRun is_white l run) is white in
    (passed.device, lent-passed s t run well here.within passed ∙ ap (λ (k : ℕ). drop k (lent s)) (one-run is_white (lent s) run n here ends.run))

pub not-ended : (bytes shown : List ℕ) (run n : ℕ) → bytes ≡ shown → IsRun is_white bytes run → first_is (λ b. not (b == 47)) (drop run bytes) ≡ false → EndsWhite shown n → ⊥
not-ended bytes shown run n is white slash ends =
    let here : IsRun is_white shown run = subst (λ (l : List ℕ). IsRun is_white l run) is white in
    let at : first_is (λ b. not (b == 47)) (drop run shown) ≡ false = subst (λ (l : List ℕ). first_is (λ b. not (b == 47)) (drop run l) ≡ false) is slash in
    let same : first_is (λ b. not (b == 47)) (drop n shown) ≡ false = subst (λ (k : ℕ). first_is (λ b. not (b == 47)) (drop k shown) ≡ false) (one-run is_white shown run n here ends.run) at in
    absurd (cc (same, ends.other))
