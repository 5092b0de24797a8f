-- Bytes that are put in between others.
use Rattle.std.proofs.Common.{◌≡◌, ℕ, ◌+◌, ◌-◌, ◌≤◌, List, ◌++◌, length, take, drop, refl, sym, ap, subst, ◌∙◌, arith}
use Rattle.std.proofs.Math.Seq.{drop-append_seam}
use Rattle.std.proofs.lemmas.List.{take-append-le, length-take}
use Rattle.std.proofs.lemmas.List.Edits.{take-paste}
use Rattle.std.proofs.lemmas.Slice.{between_is}
use Rattle.std.proofs.lemmas.Grind.{common_steps}
use Rattle.std.specs.List.{copy_within}
use borrow.Rule.Slice.PartMut.{put_mid, post_of}
use Rattle.ion_meter.proofs.Window.{take_past}

-- what stood from a place on was moved after where the bytes go
moved_up : (xs ys : List ℕ) (p e n : ℕ) → p ≤ e → e + n ≤ length xs → ys ≡ copy_within xs p e (p + n) → take (e + n) ys ≡ take (p + n) xs ++ take (e - p) (drop p xs)
moved_up xs ys p e n h l c =
    let m : (p + n) + (e - p) ≡ e + n = omega (arith, h) in
    let few : e - p ≤ length (drop p xs) = grind (arith, common_steps) in
    ap (take (e + n)) c ∙ subst (λ (k : ℕ). take k (copy_within xs p e (p + n)) ≡ take (p + n) xs ++ take (e - p) (drop p xs)) m (take-paste xs (p + n) (drop p xs) (e - p) (omega (arith, h, l)) few)

-- the same by a block in which there is more than that
moved_block : (xs block : List ℕ) (p e n k size : ℕ) → p ≤ e → e - p ≤ size → e + n ≤ length xs → p + size ≤ length xs → block ≡ take size (drop p xs)
    → take (e + n) (put_mid (p + n) k xs block) ≡ take (p + n) xs ++ take (e - p) (drop p xs)
moved_block xs block p e n k size h s l w is =
    let m : (p + n) + (e - p) ≡ e + n = omega (arith, h) in
    let long : length (take (p + n) xs) ≡ p + n = simp length-take (omega (arith, h, l)) in
    let many : e - p ≤ length block = rw is (grind (arith, common_steps)) in
    let part : take (e - p) block ≡ take (e - p) (drop p xs) = rw is (grind (arith, common_steps)) in
    subst (λ (i : ℕ). take i (put_mid (p + n) k xs block) ≡ take (p + n) xs ++ take (e - p) (drop p xs)) m
    (take_past (take (p + n) xs) (block ++ post_of (p + n) k xs) (p + n) (e - p) long
    ∙ ap (λ (u : List ℕ). take (p + n) xs ++ u) (take-append-le (e - p) block (post_of (p + n) k xs) many ∙ part))

-- both by the place where they come to stand
pub gap_opened : (xs ys : List ℕ) (p e b : ℕ) → p ≤ e → p ≤ b → e + (b - p) ≤ length xs → ys ≡ copy_within xs p e b → take (e + (b - p)) ys ≡ take b xs ++ take (e - p) (drop p xs)
gap_opened xs ys p e b h u l c =
    let m : p + (b - p) ≡ b = omega (arith, u) in
    subst (λ (i : ℕ). take (e + (b - p)) ys ≡ take i xs ++ take (e - p) (drop p xs)) m (moved_up xs ys p e (b - p) h l (subst (λ (i : ℕ). ys ≡ copy_within xs p e i) (sym m) c))

pub gap_opened_by : (xs block : List ℕ) (p e b k size : ℕ) → p ≤ e → p ≤ b → e - p ≤ size → e + (b - p) ≤ length xs → p + size ≤ length xs → block ≡ take size (drop p xs)
    → take (e + (b - p)) (put_mid b k xs block) ≡ take b xs ++ take (e - p) (drop p xs)
gap_opened_by xs block p e b k size h u s l w is =
    let m : p + (b - p) ≡ b = omega (arith, u) in
    subst (λ (i : ℕ). take (e + (b - p)) (put_mid i k xs block) ≡ take i xs ++ take (e - p) (drop p xs)) m (moved_block xs block p e (b - p) k size h s l w is)

-- the part that was moved
moved_part : (xs ys : List ℕ) (p e n : ℕ) → p ≤ e → e + n ≤ length xs → take (e + n) ys ≡ take (p + n) xs ++ take (e - p) (drop p xs)
    → take (e - p) (drop (p + n) ys) ≡ take (e - p) (drop p xs)
moved_part xs ys p e n h l c =
    let k : (e + n) - (p + n) ≡ e - p = omega (arith, h) in
    let long : length (take (p + n) xs) ≡ p + n = simp length-take (omega (arith, h, l)) in
    subst (λ (i : ℕ). take i (drop (p + n) ys) ≡ drop (p + n) (take (e + n) ys)) k (between_is ys (p + n) (e + n))
    ∙ (ap (drop (p + n)) c
    ∙ subst (λ (i : ℕ). drop i (take (p + n) xs ++ take (e - p) (drop p xs)) ≡ take (e - p) (drop p xs)) long (drop-append_seam (take (p + n) xs) (take (e - p) (drop p xs))))

-- and the part before it stayed
stayed : (xs ys : List ℕ) (p e n : ℕ) → p ≤ e → e + n ≤ length xs → take (e + n) ys ≡ take (p + n) xs ++ take (e - p) (drop p xs) → take p ys ≡ take p xs
stayed xs ys p e n h l c =
    let a : take p (take (e + n) ys) ≡ take p ys = grind (arith, common_steps) in
    let b : take p (take (p + n) xs ++ take (e - p) (drop p xs)) ≡ take p xs = grind (arith, common_steps) in
    sym a ∙ (ap (take p) c ∙ b)

-- the bytes in the gap, and what stood there after them
pub gap_filled : (xs ys t zs : List ℕ) (p e k : ℕ) → p ≤ e → e + length t ≤ length xs
    → take (e + length t) ys ≡ take (p + length t) xs ++ take (e - p) (drop p xs) → zs ≡ t → k ≡ length t
    → take (e + length t) (put_mid p k ys zs) ≡ take p (take e xs) ++ (t ++ drop p (take e xs))
gap_filled xs ys t zs p e k h l c z s =
    let n = length t in
    let m : p + (n + (e - p)) ≡ e + n = omega (arith, h) in
    let long : length (take p ys) ≡ p = rw (stayed xs ys p e n h l c) (simp length-take (omega (arith, h, l))) in
    let first : take p (take e xs) ≡ take p xs = grind (arith, common_steps) in
    let last : drop p (take e xs) ≡ take (e - p) (drop p xs) = sym (between_is xs p e) in
    let twice : drop n (drop p ys) ≡ drop (p + n) ys = grind (arith, common_steps) in
    rw (z, s, first, last, ← m, twice)
    (take_past (take p ys) (t ++ drop (p + n) ys) p (n + (e - p)) long
    ∙ (ap (λ (u : List ℕ). take p ys ++ u) (take_past t (drop (p + n) ys) n (e - p) refl ∙ ap (λ (u : List ℕ). t ++ u) (moved_part xs ys p e n h l c))
    ∙ ap (λ (u : List ℕ). u ++ (t ++ take (e - p) (drop p xs))) (stayed xs ys p e n h l c)))

-- the first bytes of a block after those that are there
pub block_put : (xs block : List ℕ) (at k n : ℕ) → at ≤ length xs → n ≤ length block → take (at + n) (put_mid at k xs block) ≡ take at xs ++ take n block
block_put xs block at k n h few =
    let long : length (take at xs) ≡ at = simp length-take (omega (arith, h)) in
    take_past (take at xs) (block ++ post_of at k xs) at n long ∙ ap (λ (u : List ℕ). take at xs ++ u) (take-append-le n block (post_of at k xs) few)
