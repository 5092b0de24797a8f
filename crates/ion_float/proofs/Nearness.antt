-- The multiple of a unit that is nearest to a number, by comparison.
use Rattle.std.proofs.Common.{◌≡◌, ℕ, suc, ◌+◌, ◌*◌, ◌/◌, ◌%◌, ◌<◌, ◌≤◌, sym, ◌∙◌, subst, inl, inr, arith, mod-lt, div-add-mod', mul-le-mul_right}
use Rattle.std.proofs.lemmas.Bool.{cases_lt}
use lib.Ieee.Nearest.{closest}
use Rattle.core.proofs.dec2flt.Closest.{closest_below, closest_tie, closest_above}

-- c units are at most half a unit off n
abbrev pub Half : ℕ → ℕ → ℕ → Type 0
Half n u c = (2 * (c * u) ≤ 2 * n + u) × (2 * n ≤ 2 * (c * u) + u)

at : (n u c q : ℕ) → c ≡ q → Half n u q → Half n u c
at n u c q e h = subst (λ z. Half n u z) (sym e) h

pub closest-half : (n u : ℕ) → 0 < u → Half n u (closest n u)
closest-half n u U =
    let q = n / u in
    let parts = div-add-mod' n u in
    let rest = mod-lt n U in
    let from : q * u ≤ n = omega arith in
    let below : n < q * u + u = omega arith in
    elim (cases_lt (2 * n) (2 * (q * u) + u)) [
      | inl l ↦ at n u _ q (closest_below n u q from below l) (omega arith, omega arith)
      | inr g ↦ elim (cases_lt (2 * (q * u) + u) (2 * n)) [
        | inl m ↦ at n u _ (suc q) (closest_above n u q from below m) (omega arith, omega arith)
        | inr e ↦ elim (cases_lt (q % 2) 1) [
          | inl z ↦ at n u _ q (closest_tie n u q from below (omega arith) ∙ omega arith) (omega arith, omega arith)
          | inr o ↦ at n u _ (suc q) (closest_tie n u q from below (omega arith) ∙ omega arith) (omega arith, omega arith)
        ]
      ]
    ]

-- Twice the number stands between odd multiples of the unit, at the point halfway between two of its multiples.
module _ (twice unit b : ℕ) (some : 0 < unit) where
  ends : 0 < 2 * unit
  ends = omega arith

  pub reached : (2 * b + 1) * unit < twice → b + 1 ≤ closest twice (2 * unit)
  reached h =
      let half = closest-half twice (2 * unit) ends in
      elim (cases_lt (closest twice (2 * unit)) (b + 1)) [
        | inr g ↦ g
        | inl l ↦
            let low : closest twice (2 * unit) ≤ b = omega arith in
            absurd (omega (arith, half.1, mul-le-mul_right (2 * unit) low))
      ]

  pub not_reached : twice < (2 * b + 1) * unit → closest twice (2 * unit) < b + 1
  not_reached h =
      let half = closest-half twice (2 * unit) ends in
      elim (cases_lt (closest twice (2 * unit)) (b + 1)) [
        | inl l ↦ l
        | inr g ↦ absurd (omega (arith, half.0, mul-le-mul_right (2 * unit) g))
      ]

  pub halfway : (2 * b + 1) * unit ≡ twice → closest twice (2 * unit) ≡ b + b % 2
  halfway h = closest_tie twice (2 * unit) b (omega arith) (omega arith) (omega arith)
