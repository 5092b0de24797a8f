-- What four characters of base64 are decoded to are bytes.
use Rattle.std.proofs.Common.{◌≡◌, inl, inr, ℕ, zero, suc, ◌+◌, ◌*◌, ◌/◌, ◌<◌, ◌≤◌, Bool, true, false, ◌||◌, ◌==◌, nat_lt, List, [], ◌∷◌, ◌++◌, length, take, drop, slice_index, slice_set, refl, ap, sym, subst, arith}
use Rattle.std.specs.declared.option.Option.{Option}
use Rattle.std.specs.declared.option.Option.TheVariants.{None, Some}
use Rattle.std.specs.declared.result.Result.TheVariants.{Ok, Err}
use Rattle.std.specs.Result.{result_ok}
use Rattle.std.proofs.lemmas.Bool.{cases_Bool, cases_lt, cases_eq, ltb-false, agree_below_at, ltb-true, false≢true}
use Rattle.std.proofs.lemmas.List.{get_or-set_same, get_or-set_other, set_past, get_or_past}
use Rattle.base64.specs.Decode.{decode_outcome, decoded_bytes, groups_bytes, groups_before_last, scan_steps, scan, scan_bytes, scan_last, push_leftover, leftover_bytes, decode_group, no_leftover, suffix_bytes}
use Rattle.base64.specs.declared.decode.DecodeError.{DecodeError}
use Rattle.base64.proofs.Decoding.{IsLeftover, ok_value}
use Rattle.base64.specs.Engines.{standard}
use Rattle.base64.specs.GeneralPurpose.{decoded_of}
use Rattle.ion_value.specs.Writable.{AreBytes}

abbrev table : List ℕ
table = standard.decode_table

in-table : (b : ℕ) → b < 256 → (slice_index table b == 255) ≡ false → slice_index table b < 64
in-table b small e = by (slice_index table b == 255) (nat_lt (slice_index table b) 64) e refl
    (agree_below_at (λ n. slice_index table n == 255 || nat_lt (slice_index table n) 64) (λ n. true) 256 b refl small)
  where
    by : (x y : Bool) → x ≡ false → nat_lt (slice_index table b) 64 ≡ y → (x || y) ≡ true → slice_index table b < 64
    by false true f g h = ltb-true (slice_index table b) 64 g
    by false false f g h = absurd (false≢true h)
    by true y f g h = absurd (false≢true (sym f))

past-table : (b : ℕ) → 256 ≤ b → slice_index table b ≡ 0
past-table b past = get_or_past table b 0 past

value-small : (b : ℕ) → (slice_index table b == 255) ≡ false → slice_index table b < 64
value-small b e = elim (cases_lt b 256) [
  | inl small ↦ in-table b small e
  | inr past ↦ rw (past-table b past) (omega arith)
]

set-small : (xs : List ℕ) (i v k : ℕ) → ((j : ℕ) → slice_index xs j < 64) → v < 64 → slice_index (slice_set xs i v) k < 64
set-small xs i v k all small = elim (cases_eq k i) [
  | inl same ↦ elim (cases_lt i (length xs)) [
    | inl fits ↦ rw (same, get_or-set_same xs i v 0 fits) small
    | inr past ↦ rw (set_past xs i v past) (all k)
  ]
  | inr other ↦ rw (get_or-set_other xs i k v 0 other) (all k)
]

-- one character more
next-small : (pad at : ℕ) (st : _) (i b : ℕ) (next : _) → IsLeftover st i → push_leftover table pad at st i b ≡ Ok next → IsLeftover next (i + 1)
next-small pad at st i b next held e = elim (cases_Bool (b == pad)) [
  | inl p ↦ elim (cases_Bool (nat_lt i 2)) [
    | inl l ↦ absurd (cc (rw (p, l) at e))
    | inr l ↦
        let r = rw (p, l) at e in
        let below : 2 ≤ i = ltb-false i 2 l in
        let n = ap (λ x. ok_value x st) r in
        elim (cases_Bool (st.padding_count == 0)) [
          | inl z ↦ rw (← n, z) (omega arith, omega arith, omega arith, held.3)
          | inr z ↦ rw (← n, z) (omega arith, omega arith, omega arith, held.3)
        ]
  ]
  | inr p ↦ elim (cases_Bool (nat_lt 0 st.padding_count)) [
    | inl a ↦ absurd (cc (rw (p, a) at e))
    | inr a ↦ elim (cases_Bool (slice_index table b == 255)) [
      | inl v ↦ absurd (cc (rw (p, a, v) at e))
      | inr v ↦
          let r = rw (p, a, v) at e in
          let n = ap (λ x. ok_value x st) r in
          let small : slice_index table b < 64 = value-small b v in
          rw (← n) (omega arith, omega arith, omega arith, λ k. set-small st.morsels st.morsels_count (slice_index table b) k held.3 small)
    ]
  ]
]

take-bytes : (n : ℕ) (xs : List ℕ) → AreBytes xs → AreBytes (take n xs)
take-bytes zero xs h = tt
take-bytes (suc n) [] h = tt
take-bytes (suc n) (x ∷ xs) h = (h.0, take-bytes n xs h.1)

group-bytes : (a b c d : ℕ) → a < 64 → b < 64 → c < 64 → d < 64 → AreBytes (decode_group a b c d)
group-bytes a b c d ha hb hc hd = (omega (arith, ha, hb), (omega (arith, hb, hc), (omega (arith, hc, hd), tt)))

last-small : (last : _) (i : ℕ) → IsLeftover last i → AreBytes (leftover_bytes last)
last-small last i held = take-bytes (last.morsels_count * 6 / 8) _ (group-bytes _ _ _ _ (held.3 0) (held.3 1) (held.3 2) (held.3 3))

scan-small : (pad at : ℕ) (bs : List ℕ) (st : _) (i : ℕ) (last : _) → IsLeftover st i → scan table pad at st i bs ≡ Ok last
    → AreBytes (leftover_bytes last)
unfolding scan_steps
scan-small pad at [] st i last held e =
    let same : st ≡ last = cc e in
    last-small last i (subst (λ x. IsLeftover x i) same held)
scan-small pad at (b ∷ bs) st i last held e = by (push_leftover table pad at st i b) refl (λ n h f. scan-small pad at bs n (i + 1) last h f) e
  where
    by : (r : _) → push_leftover table pad at st i b ≡ r
        → ((n : _) → IsLeftover n (i + 1) → scan table pad at n (i + 1) bs ≡ Ok last → AreBytes (leftover_bytes last))
        → scan_steps table pad at r (i + 1) bs ≡ Ok last → AreBytes (leftover_bytes last)
    by (Ok n) is later f = later n (next-small pad at st i b n held is) f
    by (Err x) is later f = absurd (cc f)

first-small : IsLeftover no_leftover 0
first-small = (omega arith, omega arith, omega arith, zeros)
  where
    zeros : (k : ℕ) → slice_index (0 ∷ 0 ∷ 0 ∷ 0 ∷ []) k < 64
    zeros zero = omega arith
    zeros (suc zero) = omega arith
    zeros (suc (suc zero)) = omega arith
    zeros (suc (suc (suc zero))) = omega arith
    zeros (suc (suc (suc (suc k)))) = omega arith

suffix-small : (pad at : ℕ) (s : List ℕ) → AreBytes (suffix_bytes table pad at s)
suffix-small pad at s = by (scan_last table pad at s) refl
  where
    by : (r : _) → scan_last table pad at s ≡ r → AreBytes (scan_bytes r)
    by (Ok last) is = scan-small pad at (drop at s) no_leftover 0 last first-small is
    by (Err e) is = tt

outcome : (e : Option DecodeError) (xs bytes : List ℕ) → result_ok (decode_outcome e xs) ≡ Some bytes → xs ≡ bytes
outcome None xs bytes h = cc h
outcome (Some e) xs bytes h = absurd (cc h)

one-group : (s : List ℕ) → length s ≤ 4 → groups_before_last (length s) ≡ 0
one-group s few = omega (arith, few)

at-zero : (s : List ℕ) → AreBytes (groups_bytes table s 0 ++ suffix_bytes table 61 (4 * 0) s)
unfolding groups_bytes
at-zero s = suffix-small 61 (4 * 0) s

decoded-small : (s : List ℕ) (q : ℕ) → q ≡ 0 → AreBytes (groups_bytes table s q ++ suffix_bytes table 61 (4 * q) s)
decoded-small s q none = subst (λ (n : ℕ). AreBytes (groups_bytes table s n ++ suffix_bytes table 61 (4 * n) s)) (sym none) (at-zero s)

pub decoded-bytes : (group bytes : List ℕ) → length group ≤ 4 → decoded_of standard group ≡ Some bytes → AreBytes bytes
unfolding decoded_of
decoded-bytes group bytes few e =
    let is : decoded_bytes table 61 group ≡ bytes = outcome _ (decoded_bytes table 61 group) bytes e in
    subst AreBytes is (decoded-small group (groups_before_last (length group)) (one-group group few))
