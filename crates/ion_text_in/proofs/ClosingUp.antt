-- Underscores are closed up in place.
use Rattle.std.proofs.Common.{◌≡◌, ◌≢◌, ℕ, suc, ◌+◌, ◌<◌, ◌≤◌, ◌==◌, not, false, List, [], ◌∷◌, ◌++◌, length, take, drop, get_or, filter, refl, sym, ap, ◌∙◌, arith, drop-cons, add-one}
use Rattle.std.proofs.Math.ListN.{set, length-set}
use Rattle.std.proofs.Math.Seq.{take-suc, take-suc-set}
use Rattle.std.proofs.lemmas.List.{drop-set-lt, append-nil}
use Rattle.std.proofs.lemmas.List.Elements.{filter-append}
use Rattle.std.proofs.lemmas.Bool.{ne_eqb}

-- the bytes so far without underscores stand at the front, and those to come where they stood
pub record Moves (run old : List ℕ) (count place : ℕ) : Type 0 where
  pub within : count ≤ place
  pub size : length run ≡ length old
  pub front : take count run ≡ filter (λ b. not (b == 95)) (take place old)
  pub rest : drop place run ≡ drop place old

both-tails : (a b : ℕ) (xs ys : List ℕ) → a ∷ xs ≡ b ∷ ys → (a ≡ b) × (xs ≡ ys)
both-tails a b xs ys h = (cc, cc)

-- the byte at a place, and what stands after it
next : (run old : List ℕ) (place : ℕ) → length run ≡ length old → place < length run → drop place run ≡ drop place old
    → (get_or run place 0 ≡ get_or old place 0) × (drop (suc place) run ≡ drop (suc place) old)
next run old place size within rest =
    both-tails _ _ _ _ (sym (drop-cons run place 0 within) ∙ rest ∙ drop-cons old place 0 (omega arith))

-- one byte more, without underscores
closed-next : (old : List ℕ) (place : ℕ) → place < length old
    → filter (λ b. not (b == 95)) (take (suc place) old) ≡ filter (λ b. not (b == 95)) (take place old) ++ filter (λ b. not (b == 95)) (get_or old place 0 ∷ [])
closed-next old place within =
    ap (λ (xs : List ℕ). filter (λ b. not (b == 95)) xs) (take-suc old place 0 within) ∙ filter-append (λ b. not (b == 95)) (take place old) (get_or old place 0 ∷ [])

pub moves-on : (run old : List ℕ) (count place : ℕ) → Moves run old count place → place < length run → get_or run place 0 ≢ 95
    → Moves (set run count (get_or run place 0)) old (suc count) (suc place)
moves-on run old count place m within other =
    let step = next run old place m.size within m.rest in
    let kept : (get_or old place 0 == 95) ≡ false = ne_eqb (get_or old place 0) 95 (λ e. other (step.0 ∙ e)) in
    let one : get_or old place 0 ∷ [] ≡ filter (λ b. not (b == 95)) (get_or old place 0 ∷ []) = rw kept refl in
    let low = m.within in
    record {
      within = omega arith;
      size = length-set run count (get_or run place 0) ∙ m.size;
      front =
          take-suc-set run count (get_or run place 0) (omega arith)
          ∙ ap (λ (xs : List ℕ). xs ++ get_or run place 0 ∷ []) m.front
          ∙ ap (λ (b : ℕ). filter (λ b. not (b == 95)) (take place old) ++ b ∷ []) step.0
          ∙ ap (λ (xs : List ℕ). filter (λ b. not (b == 95)) (take place old) ++ xs) one
          ∙ sym (closed-next old place (omega (arith, m.size)));
      rest = drop-set-lt (suc place) run count (get_or run place 0) (omega arith) ∙ step.1;
    }

pub moves-over : (run old : List ℕ) (count place : ℕ) → Moves run old count place → place < length run → get_or run place 0 ≡ 95
    → Moves run old count (suc place)
moves-over run old count place m within mark =
    let step = next run old place m.size within m.rest in
    let same : get_or old place 0 ≡ 95 = sym step.0 ∙ mark in
    let none : filter (λ b. not (b == 95)) (get_or old place 0 ∷ []) ≡ [] = rw same refl in
    let low = m.within in
    record {
      within = omega arith;
      size = m.size;
      front = m.front ∙ sym (closed-next old place (omega (arith, m.size)) ∙ ap (λ (xs : List ℕ). filter (λ b. not (b == 95)) (take place old) ++ xs) none ∙ append-nil _);
      rest = step.1;
    }

-- one turn of the loop
pub kept-turn : (run old new : List ℕ) (count place n : ℕ) → Moves run old count place → place < length old → get_or run place 0 ≢ 95
    → new ≡ set run count (get_or run place 0) → n ≡ count + 1 → Moves new old n (place + 1)
kept-turn run old new count place n m within other e f = rw (e, f, add-one count, add-one place) (moves-on run old count place m (omega (arith, m.size)) other)

pub left-turn : (run old new : List ℕ) (count place n : ℕ) → Moves run old count place → place < length old → get_or run place 0 ≡ 95
    → new ≡ run → n ≡ count → Moves new old n (place + 1)
left-turn run old new count place n m within mark e f = rw (e, f, add-one place) (moves-over run old count place m (omega (arith, m.size)) mark)
