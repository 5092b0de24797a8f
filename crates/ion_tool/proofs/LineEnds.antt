-- How many lines end in a beginning of some bytes, and how many bytes stand after the last of them.
use Rattle.std.proofs.Common.{arith, ◌≡◌, ℕ, suc, ◌+◌, ◌-◌, ◌<◌, ◌≤◌, Bool, true, false, List, [], ◌∷◌, ◌++◌, length, take, drop, cond, refl, ap, ◌∙◌}
use Rattle.std.proofs.lemmas.List.{get_or-take, length-take-le, take-take}
use Rattle.std.proofs.lemmas.List.Sums.{count_by_more_yes, suffix_len_is, sum_by-append, sum_by-cons, sum_by-take-drop, sum_by-take-le}
use Rattle.std.specs.Prelude.{slice_index, not}
use Rattle.ion_tool.specs.LineNumbers.{is_line_end, line_ends, since_line_end}

-- one for a byte that ends a line
abbrev pub ended_by : ℕ → ℕ
ended_by byte = cond (is_line_end byte) 1 0

pub line_ends-append : (xs ys : List ℕ) → line_ends (xs ++ ys) ≡ line_ends xs + line_ends ys
line_ends-append xs ys = sum_by-append ended_by xs ys

pub line_ends-split : (n : ℕ) (xs : List ℕ) → line_ends (take n xs) + line_ends (drop n xs) ≡ line_ends xs
line_ends-split n xs = sum_by-take-drop ended_by xs n

pub line_ends-take : (n : ℕ) (xs : List ℕ) → line_ends (take n xs) ≤ line_ends xs
line_ends-take n xs = sum_by-take-le ended_by xs n

-- further on there are no fewer
pub line_ends-later : (m n : ℕ) (xs : List ℕ) → m ≤ n → line_ends (take m xs) ≤ line_ends (take n xs)
line_ends-later m n xs later = rw (take-take m n xs later) at (sum_by-take-le ended_by (take n xs) m)

-- past a byte that ends a line there is one more
pub line_ends-more : (n : ℕ) (xs : List ℕ) → n < length xs → is_line_end (slice_index xs n) ≡ true → line_ends (take (n + 1) xs) ≡ line_ends (take n xs) + 1
line_ends-more n xs within ends = count_by_more_yes is_line_end xs n 0 within ends

-- bytes of which none ends a line
pub line_ends-none : (xs : List ℕ) → ((k : ℕ) → k < length xs → is_line_end (slice_index xs k) ≡ true → ⊥) → line_ends xs ≡ 0
line_ends-none [] none = refl
line_ends-none (x ∷ xs) none =
    let rest = line_ends-none xs (λ k within. none (suc k) (omega arith)) in
    sum_by-cons ended_by x xs ∙ first (is_line_end x) refl rest
  where
    first : (b : Bool) → is_line_end x ≡ b → line_ends xs ≡ 0 → ended_by x + line_ends xs ≡ 0
    first true e rest = absurd (none 0 (omega arith) e)
    first false e rest = rw (e, rest) refl

-- a byte that ends no line
pub is_within : (b : Bool) → (b ≡ true → ⊥) → not b ≡ true
is_within true other = absurd (other refl)
is_within false other = refl

-- after a beginning with as many ends none ends a line
none_between : (m n k : ℕ) (xs : List ℕ) → m ≤ k → k < n → n ≤ length xs → line_ends (take m xs) ≡ line_ends (take n xs) → is_line_end (slice_index xs k) ≡ true → ⊥
none_between m n k xs from below within same ends =
    let low = line_ends-later m k xs from in
    let high = line_ends-later (k + 1) n xs (omega arith) in
    let more = line_ends-more k xs (omega arith) ends in
    omega arith

-- how many bytes stand after the last end, by where the line begins that stands there
pub since_line_end-from : (begin n : ℕ) (xs : List ℕ) → begin ≤ n → n ≤ length xs → line_ends (take begin xs) ≡ line_ends (take n xs)
    → (0 < begin → is_line_end (slice_index xs (begin - 1)) ≡ true) → since_line_end (take n xs) ≡ n - begin
since_line_end-from begin n xs low within same after =
    let len = length-take-le n xs within in
    suffix_len_is (λ byte. not (is_line_end byte)) (take n xs) begin 0 (omega arith)
    (λ k from below.
    let short : k < n = omega arith in
    rw (get_or-take n xs k 0 short) (is_within (is_line_end (slice_index xs k)) (none_between begin n k xs from short within same)))
    (λ some.
    let short : begin - 1 < n = omega arith in
    rw (get_or-take n xs (begin - 1) 0 short, after some) refl)
    ∙ ap (λ (l : ℕ). l - begin) len
