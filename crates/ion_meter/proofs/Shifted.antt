-- An entry that is put in among the first ones of a list, of which the last goes.
use Rattle.std.proofs.Common.{◌≡◌, ℕ, ◌+◌, ◌-◌, ◌<◌, ◌≤◌, List, [], ◌∷◌, ◌++◌, length, take, drop, set, sym, ap, subst, ◌∙◌, arith, append-nil}
use Rattle.std.proofs.Math.Seq.{take-append-add}
use Rattle.std.proofs.lemmas.List.{length-take, length-drop, drop_all}
use Rattle.std.proofs.lemmas.Slice.{between_is}
use Rattle.std.proofs.lemmas.Grind.{common_steps}
use Rattle.std.specs.List.{copy_within, insert}
use borrow.Rule.Slice.PartMut.{put_mid, post_of, same_len_mid, drop_put}

-- a list whose entries were moved by one place, and the first then written
pub moved_by_one : {T : Type 0} (xs : List T) (n : ℕ) (x : T) → length xs ≡ n + 1 → set (copy_within xs 0 n 1) 0 x ≡ x ∷ take n xs
moved_by_one [] n x h = absurd (omega (arith, h))
moved_by_one (y ∷ ys) n x h =
    let m : n - 0 ≡ n = omega arith in
    let none : drop (1 + n) (y ∷ ys) ≡ [] = drop_all (1 + n) (y ∷ ys) (omega (arith, h)) in
    ap (λ (k : ℕ). x ∷ (take k (y ∷ ys) ++ drop (1 + k) (y ∷ ys))) m
    ∙ (ap (λ r. x ∷ (take n (y ∷ ys) ++ r)) none ∙ ap (λ r. x ∷ r) (append-nil (take n (y ∷ ys))))

-- a list whose first part has the length that is taken, and more
past : {T : Type 0} (xs ys : List T) (a n : ℕ) → length xs ≡ a → take (a + n) (xs ++ ys) ≡ xs ++ take n ys
past xs ys a n h = subst (λ (k : ℕ). take (k + n) (xs ++ ys) ≡ xs ++ take n ys) h (take-append-add xs ys n)

-- the first entries, up to an end and one more, where those from a place on were written so
pub shifted : {T : Type 0} (xs ys : List T) (p e k : ℕ) (x : T) → p ≤ e → e < length xs → ys ≡ x ∷ take (e - p) (drop p xs)
    → take (e + 1) (put_mid p k xs ys) ≡ insert (take e xs) p x
shifted xs ys p e k x h l is =
    let m : p + (1 + (e - p)) ≡ e + 1 = omega (arith, h) in
    let long : length (take p xs) ≡ p = simp length-take (omega (arith, h, l)) in
    let part : length ys ≡ 1 + (e - p) = ap length is ∙ grind (arith, common_steps) in
    let all : take (1 + (e - p)) (ys ++ post_of p k xs) ≡ ys = grind (arith, common_steps) in
    let first : take p (take e xs) ≡ take p xs = grind (arith, common_steps) in
    let last : drop p (take e xs) ≡ take (e - p) (drop p xs) = sym (between_is xs p e) in
    subst (λ (i : ℕ). take i (put_mid p k xs ys) ≡ insert (take e xs) p x) m
    (past (take p xs) (ys ++ post_of p k xs) p (1 + (e - p)) long
    ∙ (ap (λ r. take p xs ++ r) (all ∙ is) ∙ sym (ap (λ r. r ++ x ∷ drop p (take e xs)) first ∙ ap (λ r. take p xs ++ x ∷ r) last)))

-- the same by how they were written, of a list that keeps its length and what stands after the end
pub shifted_in : {T : Type 0} (xs moved : List T) (p e : ℕ) (x : T) → p ≤ e → e < length xs
    → moved ≡ copy_within (take (e + 1 - p) (drop p xs)) 0 (length (take (e + 1 - p) (drop p xs)) - 1) 1
    → (take (e + 1) (put_mid p (e + 1 - p) xs (set moved 0 x)) ≡ insert (take e xs) p x)
    × (length (put_mid p (e + 1 - p) xs (set moved 0 x)) ≡ length xs) × (drop (e + 1) (put_mid p (e + 1 - p) xs (set moved 0 x)) ≡ drop (e + 1) xs)
shifted_in xs moved p e x h l is =
    let block = take (e + 1 - p) (drop p xs) in
    let long : length block ≡ (e - p) + 1 = simp (length-take, length-drop) (omega (arith, h, l)) in
    let n : length block - 1 ≡ e - p = omega (arith, long) in
    let part : take (e - p) block ≡ take (e - p) (drop p xs) = grind (arith, common_steps) in
    let put : set moved 0 x ≡ x ∷ take (e - p) (drop p xs)
    = ap (λ ys. set ys 0 x) (is ∙ ap (λ (k : ℕ). copy_within block 0 k 1) n) ∙ (moved_by_one block (e - p) x long ∙ ap (λ ys. x ∷ ys) part) in
    let same : length (set moved 0 x) ≡ length block = ap length put ∙ grind (arith, common_steps) in (
      shifted xs (set moved 0 x) p e (e + 1 - p) x h l put,
      same_len_mid p (e + 1 - p) xs (set moved 0 x) same,
      drop_put p (e + 1) xs (set moved 0 x) (omega (arith, h)) (omega (arith, l)) (omega (arith, same, long, h)),
    )
