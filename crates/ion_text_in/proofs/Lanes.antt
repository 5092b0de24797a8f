-- Vectors of bytes that are tested lane by lane.
use Rattle.std.proofs.Common.{◌≡◌, ℕ, ◌%◌, ◌^◌, ◌<◌, ◌≤◌, Bool, true, false, cond, ◌&&◌, ◌||◌, List, [], ◌∷◌, map, length, replicate, refl, ap, ap₂, ◌∙◌, arith, w8, Fits}
use Rattle.std.proofs.lemmas.Simd.{zip2_splat, zip2_splat_left, map-map, mask_l-mod}
use Rattle.std.proofs.lemmas.List.{length-map}
use lib.Bits.{bit_or, bit_and}
use lib.Lanes.{zip2, mask_l, top, Each1}

-- a lane that passes has all bits
abbrev pub lane : Bool → ℕ
lane b = cond b 255 0

-- the lanes of a vector that pass a test
abbrev pub Tested : (ℕ → Bool) → List ℕ → List ℕ → Type 0
Tested p v z = z ≡ map (λ x. lane (p x)) v

or_lane : (a b : Bool) → bit_or (lane a) (lane b) ≡ lane (a || b)
or_lane true true = refl
or_lane true false = refl
or_lane false true = refl
or_lane false false = refl

and_lane : (a b : Bool) → bit_and (lane a) (lane b) ≡ lane (a && b)
and_lane true true = refl
and_lane true false = refl
and_lane false true = refl
and_lane false false = refl

either_of : (p q : ℕ → Bool) (v : List ℕ) → Tested (λ x. p x || q x) v (zip2 bit_or (map (λ x. lane (p x)) v) (map (λ x. lane (q x)) v))
either_of p q [] = refl
either_of p q (x ∷ v) = ap₂ (λ y ys. y ∷ ys) (or_lane (p x) (q x)) (either_of p q v)

pub either : (p q : ℕ → Bool) (v : List ℕ) {a b : List ℕ} → Tested p v a → Tested q v b → Tested (λ x. p x || q x) v (zip2 bit_or a b)
either p q v s t = ap₂ (zip2 bit_or) s t ∙ either_of p q v

both_of : (p q : ℕ → Bool) (v : List ℕ) → Tested (λ x. p x && q x) v (zip2 bit_and (map (λ x. lane (p x)) v) (map (λ x. lane (q x)) v))
both_of p q [] = refl
both_of p q (x ∷ v) = ap₂ (λ y ys. y ∷ ys) (and_lane (p x) (q x)) (both_of p q v)

pub both : (p q : ℕ → Bool) (v : List ℕ) {a b : List ℕ} → Tested p v a → Tested q v b → Tested (λ x. p x && q x) v (zip2 bit_and a b)
both p q v s t = ap₂ (zip2 bit_and) s t ∙ both_of p q v

-- a comparison with one byte in each lane of the other vector
pub to_all : (t : ℕ → ℕ → Bool) (v : List ℕ) (n y : ℕ) → length v ≡ n → Tested (λ x. t x y) v (zip2 (λ a b. lane (t a b)) v (replicate n y))
to_all t v n y long = zip2_splat (λ a b. lane (t a b)) v n y long

pub from_all : (t : ℕ → ℕ → Bool) (v : List ℕ) (n y : ℕ) → length v ≡ n → Tested (λ x. t y x) v (zip2 (λ a b. lane (t a b)) (replicate n y) v)
from_all t v n y long = zip2_splat_left (λ a b. lane (t a b)) y n v long

-- the same of lanes that were computed from those of a vector
pub mapped_to_all : (t : ℕ → ℕ → Bool) (f : ℕ → ℕ) (v : List ℕ) (n y : ℕ) {a : List ℕ} → length v ≡ n → a ≡ map f v → Tested (λ x. t (f x) y) v (zip2 (λ a b. lane (t a b)) a (replicate n y))
mapped_to_all t f v n y long e =
    ap (λ a. zip2 (λ b c. lane (t b c)) a (replicate n y)) e ∙ to_all t (map f v) n y (length-map v f ∙ long) ∙ map-map (λ x. lane (t x y)) f v

pub mapped_from_all : (t : ℕ → ℕ → Bool) (f : ℕ → ℕ) (v : List ℕ) (n y : ℕ) {a : List ℕ} → length v ≡ n → a ≡ map f v → Tested (λ x. t y (f x)) v (zip2 (λ a b. lane (t a b)) (replicate n y) a)
mapped_from_all t f v n y long e =
    ap (λ a. zip2 (λ b c. lane (t b c)) (replicate n y) a) e ∙ from_all t (map f v) n y (length-map v f ∙ long) ∙ map-map (λ x. lane (t y x)) f v

top_lane : (b : Bool) → top 7 (lane b) ≡ b
top_lane true = refl
top_lane false = refl

tops : (p q : ℕ → Bool) (v : List ℕ) → ((x : ℕ) → x < 256 → p x ≡ q x) → Each1 (Fits w8) v → map (top 7) (map (λ x. lane (p x)) v) ≡ map q v
tops p q [] same fits = refl
tops p q (x ∷ v) same fits = ap₂ (λ y ys. y ∷ ys) (top_lane (p x) ∙ same x fits.0.fits) (tops p q v same fits.1)

-- the bits of a test are those of one that is the same for bytes
pub mask_of : (p q : ℕ → Bool) (v : List ℕ) {z : List ℕ} → length v ≤ 64 → Each1 (Fits w8) v → Tested p v z → ((x : ℕ) → x < 256 → p x ≡ q x) → mask_l (map (top 7) z) % 2 ^ 64 ≡ mask_l (map q v)
mask_of p q v short fits e same = ap (λ l. mask_l l % 2 ^ 64) (ap (map (top 7)) e ∙ tops p q v same fits) ∙ mask_l-mod (map q v) 64 (omega (arith, length-map v q))
