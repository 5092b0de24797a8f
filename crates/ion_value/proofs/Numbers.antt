-- Laws of the numbers that digits and octets spell.
use Rattle.std.proofs.Common.{◌≡◌, ℕ, zero, suc, ◌+◌, ◌-◌, ◌*◌, ◌%◌, ◌^◌, ◌<◌, ◌≤◌, List, [], ◌∷◌, ◌++◌, length, take, get_or, refl, ap, sym, ◌∙◌, arith, add-one, length-append, lit<}
use Rattle.std.proofs.lemmas.List.{length-map, length-take-le, take_more, get_or-take, map-append}
use Rattle.std.proofs.lemmas.Nat.{pow-add}
use Rattle.std.proofs.lemmas.Grind.{common_steps, pow_more}
use Rattle.std.proofs.Math.Nat.{pow-zero, pow-suc, pow-le-pow_right, mul-le-mul_right}
use Rattle.ion_value.specs.Number.{number, IsVar, sevens, var_uint, VarUInt, uint}

-- the first power
pow_one : (b : ℕ) → b ^ 1 ≡ b
pow_one b = pow_more b 0 ∙ rw pow-zero (omega arith)

-- digits after digits
pub number-append : (base : ℕ) (xs ys : List ℕ) → number base (xs ++ ys) ≡ number base xs * base ^ length ys + number base ys
number-append base [] ys = omega arith
number-append base (x ∷ xs) ys =
    let e : base ^ length (xs ++ ys) ≡ base ^ length xs * base ^ length ys = rw length-append (pow-add base (length xs) (length ys)) in
    rw (e, number-append base xs ys) (omega arith)

-- one digit more
pub number-append_one : (base : ℕ) (ds : List ℕ) (d : ℕ) → number base (ds ++ d ∷ []) ≡ number base ds * base + d
number-append_one base ds d =
    let last : number base (d ∷ []) ≡ d = rw pow-zero (omega arith) in
    number-append base ds (d ∷ []) ∙ rw (last, pow_one) refl

-- the number of the digits up to and with the one at i
pub number-take_more : (base : ℕ) (ds : List ℕ) (i : ℕ) → i < length ds → number base (take (i + 1) ds) ≡ number base (take i ds) * base + get_or ds i 0
number-take_more base ds i h = rw (take_more ds i 0 h) (number-append_one base (take i ds) (get_or ds i 0))

-- digits below the base spell less than the base to their number
pub number-lt : (base : ℕ) (ds : List ℕ) → ((k : ℕ) → k < length ds → get_or ds k 0 < base) → number base ds < base ^ length ds
number-lt base [] _ = rw pow-zero (omega arith)
number-lt base (d ∷ ds) below =
    let first : d + 1 ≤ base = omega (arith, below 0 (omega arith)) in
    let rest : number base ds < base ^ length ds = number-lt base ds (λ k h. below (suc k) (omega arith)) in
    let whole : (d + 1) * base ^ length ds ≤ base * base ^ length ds = mul-le-mul_right (base ^ length ds) first in
    omega (arith, pow-suc base (length ds))

-- a first digit that is not zero
pub number-ge : (base : ℕ) (ds : List ℕ) (k : ℕ) → 0 < base → 0 < get_or ds 0 0 → k < length ds → base ^ k ≤ number base ds
number-ge base [] k _ h _ = absurd (omega arith)
number-ge base (d ∷ ds) k pos h lt =
    let powers : base ^ k ≤ base ^ length ds = pow-le-pow_right pos (omega arith) in
    let first : 1 * base ^ length ds ≤ d * base ^ length ds = mul-le-mul_right (base ^ length ds) h in
    omega arith

-- octets spell less than 256 to their number
pub uint-lt : (b : List ℕ) → ((k : ℕ) → k < length b → get_or b k 0 < 256) → uint b < 256 ^ length b
uint-lt b octets = number-lt 256 b octets

-- more than sixteen octets, the first of which is not zero
pub uint-large : (b : List ℕ) → 0 < get_or b 0 0 → 16 < length b → 2 ^ 128 ≤ uint b
uint-large b first long = number-ge 256 b 16 (omega arith) first long

-- one octet more, and its bound
pub uint-take_more : (b : List ℕ) (i : ℕ) → i < length b → uint (take (i + 1) b) ≡ uint (take i b) * 256 + get_or b i 0
uint-take_more b i h = number-take_more 256 b i h

-- what is below a power stays below the next where one digit more is appended
pub append-lt : (base n i d : ℕ) → n < base ^ i → d < base → n * base + d < base ^ (i + 1)
append-lt base n i d small digit =
    let whole : suc n * base ≤ base ^ i * base = mul-le-mul_right base small in
    omega (arith, pow_more base i)

-- an octet after at most fifteen stays within 128 bits
pub octet-fits : (n i d : ℕ) → n < 256 ^ i → i < 16 → d < 256 → n * 256 + d < 2 ^ 128
octet-fits n i d small few octet =
    let step : n * 256 + d < 256 ^ (i + 1) = append-lt 256 n i d small octet in
    let last : i + 1 ≤ 16 = omega arith in
    let powers : 256 ^ (i + 1) ≤ 256 ^ 16 = pow-le-pow_right {n = 256} (omega arith) last in
    omega arith

-- seven bits after at most eight times seven stay within 63 bits
pub seven-fits : (n i d : ℕ) → n < 128 ^ i → i < 9 → d < 128 → n * 128 + d < 2 ^ 63
seven-fits n i d small few seven =
    let step : n * 128 + d < 128 ^ (i + 1) = append-lt 128 n i d small seven in
    let last : i + 1 ≤ 9 = omega arith in
    let powers : 128 ^ (i + 1) ≤ 128 ^ 9 = pow-le-pow_right {n = 128} (omega arith) last in
    omega arith

-- the seven bits of an octet that ends no VarUInt, and of one that does
pub seven-low : (b : ℕ) → b < 128 → b % 128 ≡ b
seven-low b h = omega arith

pub seven-high : (b : ℕ) → 128 ≤ b → b < 256 → b % 128 ≡ b - 128
seven-high b low high = omega arith

-- one octet of a VarUInt more
pub var_uint-take_more : (b : List ℕ) (i : ℕ) → i < length b → var_uint (take (i + 1) b) ≡ var_uint (take i b) * 128 + get_or b i 0 % 128
var_uint-take_more b i h =
    rw (take_more b i 0 h, map-append) (number-append_one 128 (sevens (take i b)) (get_or b i 0 % 128))

-- an octet of a prefix
pub prefix-octet : (b : List ℕ) (m i : ℕ) → m ≤ length b → i < length (take m b) → (i < m) × (get_or (take m b) i 0 ≡ get_or b i 0)
prefix-octet b m i h lt =
    let within : i < m = omega (arith, length-take-le m b h) in
    (within, get_or-take m b i 0 within)

-- octets with the high bit on the last of them alone
IsVar-take_suc : (b : List ℕ) (i : ℕ) → i < length b → ((k : ℕ) → k < i → get_or b k 0 < 128) → 128 ≤ get_or b i 0 → IsVar (take (suc i) b)
IsVar-take_suc [] i h _ _ = absurd (omega arith)
IsVar-take_suc (x ∷ b) zero _ _ last = last
IsVar-take_suc (x ∷ []) (suc i) h _ _ = absurd (omega arith)
IsVar-take_suc (x ∷ y ∷ b) (suc i) h before last = (before 0 (omega arith), IsVar-take_suc (y ∷ b) i (omega arith) (λ k lt. before (suc k) (omega arith)) last)

pub IsVar-take : (b : List ℕ) (i : ℕ) → i < length b → ((k : ℕ) → k < i → get_or b k 0 < 128) → 128 ≤ get_or b i 0 → IsVar (take (i + 1) b)
IsVar-take b i h before last = rw add-one (IsVar-take_suc b i h before last)

-- the last octet has the high bit
pub IsVar-last : (b : List ℕ) → IsVar b → (i : ℕ) × (length b ≡ suc i) × (128 ≤ get_or b i 0)
IsVar-last [] h = absurd h
IsVar-last (x ∷ []) h = (0, refl, h)
IsVar-last (x ∷ y ∷ b) h = let r = IsVar-last (y ∷ b) h.1 in (suc r.0, ap (λ n. suc n) r.1, r.2)

-- where none of the first nine octets has the high bit, no prefix is a VarUInt
pub no-VarUInt : (b : List ℕ) → ((k : ℕ) → k < 9 → k < length b → get_or b k 0 < 128) → (n k : ℕ) → VarUInt n (take k b) → ⊥
no-VarUInt b before n k v =
    let last = IsVar-last (take k b) v.ends in
    let short = v.short in
    let at_most : length (take k b) ≤ k = grind (arith, common_steps) in
    let within : length (take k b) ≤ length b = grind (arith, common_steps) in
    let same : get_or (take k b) last.0 0 ≡ get_or b last.0 0 = get_or-take k b last.0 0 (omega arith) in
    let low : get_or b last.0 0 < 128 = before last.0 (omega arith) (omega arith) in
    omega arith

-- a VarUInt has an octet
pub IsVar-pos : (b : List ℕ) → IsVar b → 0 < length b
IsVar-pos b h = let last = IsVar-last b h in omega (arith, last.1)

-- seven bits in each octet
pub var_uint-lt : (b : List ℕ) → var_uint b < 128 ^ length b
var_uint-lt [] = lit< tt
var_uint-lt (x ∷ b) =
    let first : suc (x % 128) ≤ 128 = omega arith in
    let rest : var_uint b < 128 ^ length b = var_uint-lt b in
    let whole : suc (x % 128) * 128 ^ length b ≤ 128 * 128 ^ length b = mul-le-mul_right (128 ^ length b) first in
    let long : length (sevens b) ≡ length b = simp length-map in
    rw long (omega (arith, pow-suc 128 (length b)))

-- a VarUInt at the front of a list is no longer and no shorter than another
pub IsVar-unique : (b c x y : List ℕ) → IsVar b → IsVar c → b ++ x ≡ c ++ y → b ≡ c
IsVar-unique [] c x y hb hc e = absurd hb
IsVar-unique (p ∷ b) [] x y hb hc e = absurd hc
IsVar-unique (p ∷ []) (q ∷ []) x y hb hc e = cc
IsVar-unique (p ∷ []) (q ∷ r ∷ c) x y hb hc e = let same : p ≡ q = cc in absurd (omega arith)
IsVar-unique (p ∷ r ∷ b) (q ∷ []) x y hb hc e = let same : p ≡ q = cc in absurd (omega arith)
IsVar-unique (p ∷ r ∷ b) (q ∷ s ∷ c) x y hb hc e =
    let rest : (r ∷ b) ++ x ≡ (s ∷ c) ++ y = cc in
    let same : r ∷ b ≡ s ∷ c = IsVar-unique (r ∷ b) (s ∷ c) x y hb.1 hc.1 rest in
    let first : p ≡ q = cc in
    cc

-- a VarUInt at the front of a list is unique, and so is its number
pub VarUInt-unique : (n m : ℕ) (b c x y : List ℕ) → VarUInt n b → VarUInt m c → b ++ x ≡ c ++ y → (b ≡ c) × (n ≡ m)
VarUInt-unique n m b c x y hb hc e =
    let same = IsVar-unique b c x y hb.ends hc.ends e in
    (same, hb.value ∙ ap var_uint same ∙ sym hc.value)
