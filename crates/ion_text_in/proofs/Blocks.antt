-- A run of bytes that pass a test, seen a vector at a time by the bits of those that fail it.
use Rattle.std.proofs.Common.{◌≡◌, ℕ, ◌+◌, ◌*◌, ◌<◌, ◌≤◌, Bool, true, false, not, cond, eqb, ◌&&◌, List, [], ◌∷◌, map, take, drop, length, refl, sym, subst, ap, ap₂, ◌∙◌, ◌≢◌, suc, arith}
use Rattle.std.proofs.lemmas.Simd.{chunk-drop, length-chunk, trailing_mask_l}
use Rattle.std.proofs.lemmas.List.Folds.{prefix_len-append}
use Rattle.std.proofs.lemmas.List.Sums.{prefix_len-le-length}
use Rattle.std.proofs.lemmas.Bool.{ne_eqb}
use Rattle.std.proofs.lemmas.List.{drop-drop, length-drop}
use Rattle.std.specs.List.{prefix_len}
use lib.Lanes.{chunk, mask_l}
use lib.Count.{count_trailing_zeros}
use Rattle.ion_value.specs.Digits.{first_is, all_are}
use Rattle.ion_text_in.specs.Overrun.{IsRun}
use Rattle.ion_text_in.proofs.Runs.{all-after}

pub not_not : (b : Bool) → b ≡ not (not b)
not_not true = refl
not_not false = refl

no_bit : (b : Bool) (m : ℕ) → cond (not b) 1 0 + 2 * m ≡ 0 → (b ≡ true) × (m ≡ 0)
no_bit true m e = (refl, omega arith)
no_bit false m e = let no : ⊥ = omega arith in absurd no

whole_by : (b : Bool) (n l m : ℕ) → n ≤ l → cond b (1 + n) 0 ≡ 1 + l → (n ≡ l → m ≡ 0) → cond (not b) 1 0 + 2 * m ≡ 0
whole_by true n l m le e ih = let z = ih (omega arith) in omega arith
whole_by false n l m le e ih = let no : ⊥ = omega arith in absurd no

one_more : (n : ℕ) → suc n ≡ 1 + n
one_more n = omega arith

module _ (p : ℕ → Bool) where
  same_run : (xs : List ℕ) → prefix_len p xs ≡ prefix_len (λ x. not (not (p x))) xs
  same_run [] = refl
  same_run (x ∷ xs) = ap₂ (λ b n. cond b (1 + n) 0) (not_not (p x)) (same_run xs)

  -- where no bit is set, all pass
  pub all_pass : (xs : List ℕ) → mask_l (map (λ x. not (p x)) xs) ≡ 0 → all_are p xs ≡ true
  all_pass [] e = refl
  all_pass (x ∷ xs) e = let b = no_bit (p x) (mask_l (map (λ y. not (p y)) xs)) e in ap₂ (λ y z. y && z) b.0 (all_pass xs b.1)

  whole : (xs : List ℕ) → prefix_len p xs ≡ length xs → mask_l (map (λ x. not (p x)) xs) ≡ 0
  whole [] e = refl
  whole (x ∷ xs) e = whole_by (p x) (prefix_len p xs) (length xs) _ (prefix_len-le-length p xs) (omega (arith, e)) (whole xs)

  passes_by : (b : Bool) (x : ℕ) (xs : List ℕ) (n : ℕ) → p x ≡ b → all_are p (take n xs) ≡ true → all_are p (take (cond b (1 + n) 0) (x ∷ xs)) ≡ true
  passes_by true x xs n e r = subst (λ k. all_are p (take k (x ∷ xs)) ≡ true) (one_more n) (ap₂ (λ y z. y && z) e r)
  passes_by false x xs n e r = refl

  -- the run passes, and what stands after it does not
  pub run_passes : (xs : List ℕ) → all_are p (take (prefix_len p xs) xs) ≡ true
  run_passes [] = refl
  run_passes (x ∷ xs) = passes_by (p x) x xs (prefix_len p xs) refl (run_passes xs)

  ends_by : (b : Bool) (x : ℕ) (xs : List ℕ) (n : ℕ) → p x ≡ b → cond b (1 + n) 0 < 1 + length xs → (n < length xs → first_is p (drop n xs) ≡ false) → first_is p (drop (cond b (1 + n) 0) (x ∷ xs)) ≡ false
  ends_by true x xs n e h r = subst (λ k. first_is p (drop k (x ∷ xs)) ≡ false) (one_more n) (r (omega arith))
  ends_by false x xs n e h r = e

  pub run_ends : (xs : List ℕ) → prefix_len p xs < length xs → first_is p (drop (prefix_len p xs) xs) ≡ false
  run_ends [] h = refl
  run_ends (x ∷ xs) h = ends_by (p x) x xs (prefix_len p xs) refl (omega (arith, h)) (run_ends xs)

  split : (d : List ℕ) (i n : ℕ) → prefix_len p (drop i d) ≡ cond (eqb (prefix_len p (chunk i n d)) (length (chunk i n d))) (length (chunk i n d) + prefix_len p (drop (i + n) d)) (prefix_len p (chunk i n d))
  split d i n = ap (prefix_len p) (chunk-drop i n d) ∙ prefix_len-append p (chunk i n d) (drop (i + n) d)

  -- where a bit is set, the lowest is the end of the run
  pub run_at : (d : List ℕ) (i n : ℕ) → i + n ≤ length d → n ≤ 64 → 0 < mask_l (map (λ x. not (p x)) (chunk i n d))
      → (prefix_len p (drop i d) ≡ count_trailing_zeros 64 (mask_l (map (λ x. not (p x)) (chunk i n d)))) × (count_trailing_zeros 64 (mask_l (map (λ x. not (p x)) (chunk i n d))) < n)
  run_at d i n room short some =
      let c = chunk i n d in
      let long : length c ≡ n = length-chunk i n d room in
      let other : prefix_len p c ≢ length c = λ e. let none = whole c e in omega arith in
      let lowest : prefix_len p c ≡ count_trailing_zeros 64 (mask_l (map (λ x. not (p x)) c)) = same_run c ∙ sym (trailing_mask_l (λ x. not (p x)) 64 c (omega arith) some) in
      let within : prefix_len p c < length c = omega (arith, prefix_len-le-length p c, other) in
      (split d i n ∙ ap (λ b. cond b (length c + prefix_len p (drop (i + n) d)) (prefix_len p c)) (ne_eqb _ _ other) ∙ lowest, omega (arith, lowest, long, within))

  -- a run after bytes that pass
  pub run-after : (d : List ℕ) (i n : ℕ) → i ≤ length d → all_are p (take i d) ≡ true → IsRun p (drop i d) n → IsRun p d (i + n)
  run-after d i n le before run =
      let within = run.within in
      let long = length-drop i d in
      record { within = omega (arith, le, within, long); run = all-after p d i n before run.run; ends = rw (drop-drop n i d) at run.ends }

  -- a block in which all pass
  pub run-block : (d : List ℕ) (i n bits : ℕ) → bits ≡ mask_l (map (λ x. not (p x)) (chunk i n d)) → bits ≡ 0 → all_are p (take i d) ≡ true → all_are p (take (i + n) d) ≡ true
  run-block d i n bits e none before = all-after p d i n before (all_pass (chunk i n d) (omega (arith, e, none)))

  -- one in which one does not
  pub run-found : (d : List ℕ) (i n bits : ℕ) → i + n ≤ length d → n ≤ 64 → bits ≡ mask_l (map (λ x. not (p x)) (chunk i n d)) → 0 < bits → all_are p (take i d) ≡ true
      → IsRun p d (i + count_trailing_zeros 64 bits) × (count_trailing_zeros 64 bits < n)
  run-found d i n bits room short e some before =
      let at = run_at d i n room short (omega (arith, e, some)) in
      let same = ap (count_trailing_zeros 64) e in
      let count : prefix_len p (drop i d) ≡ count_trailing_zeros 64 bits = at.0 ∙ sym same in
      let within : prefix_len p (drop i d) < length (drop i d) = omega (arith, at.0, at.1, length-drop i d, room) in
      let run : IsRun p (drop i d) (prefix_len p (drop i d)) = record { within = omega (arith, within); run = run_passes (drop i d); ends = run_ends (drop i d) within } in (
        run-after d i (count_trailing_zeros 64 bits) (omega (arith, room)) before (subst (λ k. IsRun p (drop i d) k) count run),
        omega (arith, at.1, same),
      )

  pub run-front : (d : List ℕ) (n bits : ℕ) → n ≤ length d → n ≤ 64 → bits ≡ mask_l (map (λ x. not (p x)) (chunk 0 n d)) → 0 < bits
      → IsRun p d (count_trailing_zeros 64 bits) × (count_trailing_zeros 64 bits < length d)
  run-front d n bits room short e some =
      let found = run-found d 0 n bits (omega (arith, room)) short e some refl in
      let none : 0 + count_trailing_zeros 64 bits ≡ count_trailing_zeros 64 bits = omega arith in
      (subst (λ k. IsRun p d k) none found.0, omega (arith, found.1, room))
