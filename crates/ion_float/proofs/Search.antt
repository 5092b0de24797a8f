-- A decimal that passes the tests is the one of the definition.
use Rattle.std.proofs.Common.{◌≡◌, ℕ, zero, suc, ◌+◌, ◌-◌, ◌*◌, ◌^◌, ◌<◌, Bool, true, false, refl, sym, ap, ◌∙◌, subst, inl, inr, arith, pow-add}
use mathlib.Core.Bool.{true≢false}
use Rattle.std.proofs.lemmas.Bool.{cases_lt, eqb-true}
use Rattle.std.specs.Prelude.{from_bits}
use lib.Ieee.{Float, binary64, round, to_bits, of_bits}
use lib.Ieee.Fits.{round-fits, eq→eqb}
use lib.Ieee.Bits.{of_bits-to_bits, to_bits-of_bits, is_true}
use Rattle.fast_float.proofs.Extremes.{round_tens}
use Rattle.ion_value.specs.Shortest.{reads, IsPositive, NoneAbove, near, reads_as, search, shortest}
use Rattle.ion_float.proofs.Between.{positive-number}

pub by_test : (b : Bool) → (b ≡ true → ⊥) → b ≡ false
by_test true h = absurd (h refl)
by_test false h = refl

pub reads_as-true : (bits digits power : ℕ) → bits < 2 ^ 64 → IsPositive bits → reads digits power bits → reads_as bits digits power ≡ true
unfolding reads_as
reads_as-true bits digits power fits p h =
    is_true _ (eq→eqb (ap (λ x. to_bits binary64 x) h ∙ to_bits-of_bits binary64 bits fits (positive-number _ p)))

pub reads_as-reads : (bits digits power : ℕ) → reads_as bits digits power ≡ true → reads digits power bits
unfolding reads_as
reads_as-reads bits digits power h =
    sym (of_bits-to_bits binary64 _ (round-fits binary64 false (digits * 10 ^ (power - 342)) (10 ^ (342 - power)))) ∙ ap (λ b. of_bits binary64 b) (eqb-true _ _ h)

-- no multiple of any greater power reads as the float
pub none_higher : (power bits k c : ℕ) → NoneAbove power bits → power < k → ¬ (reads c k bits)
none_higher power bits k c none l h =
    let t = k - (power + 1) in
    let sum : k - 342 + (342 - (power + 1)) ≡ t + (power + 1 - 342) + (342 - k) = omega arith in
    none (c * 10 ^ t) (moved c t (power + 1 - 342) (342 - (power + 1)) ∙ sym (round_tens binary64 c (k - 342) (342 - k) (t + (power + 1 - 342)) (342 - (power + 1)) sum) ∙ h)
  where
    moved : (a t i j : ℕ) → round binary64 false (a * 10 ^ t * 10 ^ i) (10 ^ j) ≡ round binary64 false (a * 10 ^ (t + i)) (10 ^ j)
    moved a t i j = ap (λ n. round binary64 false n (10 ^ j)) (joined a (10 ^ t) (10 ^ i) ∙ ap (λ z. a * z) (sym (pow-add 10 t i)))
      where
        joined : (a b c : ℕ) → a * b * c ≡ a * (b * c)
        joined a b c = omega arith

pub taken : (x : Float) (bits k : ℕ) (b c : Bool) → b ≡ true → search x bits k b c ≡ (near x k, k)
unfolding search
taken x bits k true c h = refl
taken x bits k false c h = absurd (true≢false (sym h))

pub passed : (x : Float) (bits k : ℕ) (b c : Bool) → b ≡ false → c ≡ false → search x bits k b c ≡ search x bits k false false
passed x bits k true c h g = absurd (true≢false h)
passed x bits k false true h g = absurd (true≢false g)
passed x bits k false false h g = refl

search_down : (x : Float) (bits digits power n : ℕ) → power < n → ((k c : ℕ) → power < k → reads_as bits c k ≡ false)
    → near x power ≡ digits → reads_as bits digits power ≡ true → search x bits n false false ≡ (digits, power)
unfolding search
search_down x bits digits power zero l above same read = absurd (omega arith)
search_down x bits digits power (suc p) l above same read =
    elim (cases_lt power p) [
      | inl m ↦ passed x bits p _ _ (above p (near x p) m) (above p (near x p + 1) m) ∙ search_down x bits digits power p m above same read
      | inr g ↦
          let e : power ≡ p = omega arith in
          subst (λ k. search x bits k (reads_as bits (near x k) k) (reads_as bits (near x k + 1) k) ≡ (digits, power)) e
          (taken x bits power _ _ (ap (λ d. reads_as bits d power) same ∙ read) ∙ ap (λ d. (d, power)) same)
    ]

-- what the tests show is enough
pub shortest_is : (bits digits power : ℕ) → bits < 2 ^ 64 → power < 651 → IsPositive bits → reads digits power bits → NoneAbove power bits
    → near (from_bits binary64 bits) power ≡ digits → shortest bits ≡ (digits, power)
unfolding shortest
shortest_is bits digits power fits small p read none same =
    search_down (of_bits binary64 bits) bits digits power 651 small
    (λ k c l. by_test (reads_as bits c k) (λ h. none_higher power bits k c none l (reads_as-reads bits c k h))) same (reads_as-true bits digits power fits p read)

-- ---- where the nearest multiple doesn't read and the one above it does

pub taken_above : (x : Float) (bits k : ℕ) (b c : Bool) → b ≡ false → c ≡ true → search x bits k b c ≡ (near x k + 1, k)
unfolding search
taken_above x bits k true c h g = absurd (true≢false h)
taken_above x bits k false true h g = refl
taken_above x bits k false false h g = absurd (true≢false (sym g))

search_to : (x : Float) (bits power n : ℕ) (r : ℕ × ℕ) → power < n → ((k c : ℕ) → power < k → reads_as bits c k ≡ false)
    → search x bits power (reads_as bits (near x power) power) (reads_as bits (near x power + 1) power) ≡ r → search x bits n false false ≡ r
unfolding search
search_to x bits power zero r l above land = absurd (omega arith)
search_to x bits power (suc p) r l above land =
    elim (cases_lt power p) [
      | inl m ↦ passed x bits p _ _ (above p (near x p) m) (above p (near x p + 1) m) ∙ search_to x bits power p r m above land
      | inr g ↦
          let e : power ≡ p = omega arith in
          subst (λ k. search x bits k (reads_as bits (near x k) k) (reads_as bits (near x k + 1) k) ≡ r) e land
    ]

pub shortest_is_above : (bits digits power : ℕ) → bits < 2 ^ 64 → power < 651 → IsPositive bits → reads digits power bits → NoneAbove power bits
    → ¬ (reads (near (from_bits binary64 bits) power) power bits) → near (from_bits binary64 bits) power + 1 ≡ digits → shortest bits ≡ (digits, power)
unfolding shortest
shortest_is_above bits digits power fits small p read none below same =
    let x = of_bits binary64 bits in
    search_to x bits power 651 (digits, power) small
    (λ k c l. by_test (reads_as bits c k) (λ h. none_higher power bits k c none l (reads_as-reads bits c k h)))
    (taken_above x bits power _ _ (by_test (reads_as bits (near x power) power) (λ h. below (reads_as-reads bits (near x power) power h)))
    (ap (λ d. reads_as bits d power) same ∙ reads_as-true bits digits power fits p read)
    ∙ ap (λ d. (d, power)) same)

-- ---- power by power

-- one power further down, whose nearest multiple is `digits`
pub step_down : (bits row digits : ℕ) → 0 < row → shortest bits ≡ search (from_bits binary64 bits) bits row false false → digits ≡ near (from_bits binary64 bits) (row - 1)
    → shortest bits ≡ search (from_bits binary64 bits) bits (row - 1) (reads_as bits digits (row - 1)) (reads_as bits (digits + 1) (row - 1))
unfolding search
step_down bits zero digits p so same = absurd (omega arith)
step_down bits (suc n) digits p so same =
    let x = from_bits binary64 bits in
    let e : n ≡ suc n - 1 = omega arith in
    let at : digits ≡ near x n = same ∙ ap (near x) (sym e) in
    so ∙ subst (λ k. search x bits n (reads_as bits (near x n) n) (reads_as bits (near x n + 1) n) ≡ search x bits k (reads_as bits digits k) (reads_as bits (digits + 1) k)) e
    (ap (λ d. search x bits n (reads_as bits d n) (reads_as bits (d + 1) n)) (sym at))
