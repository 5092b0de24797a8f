-- Ints and decimals that are read in one pass.
use mir.Val.{bool_byte}
use Rattle.std.proofs.Common.{◌≡◌, IsTrue, ℕ, zero, suc, ◌+◌, ◌*◌, ◌-◌, ◌^◌, ◌<◌, ◌≤◌, pos, ◌-ℤ◌, inl, inr, Bool, true, false, not, ◌&&◌, ◌||◌, ◌==◌, nat_lt, Some, Ok, List, [], ◌∷◌, ◌++◌, length, take, drop, get_or, refl, sym, ap, subst, ◌∙◌, arith, None, ℤ}
use Rattle.std.proofs.lemmas.Bool.{and_parts, and_right, lt-ltb}
use Rattle.std.proofs.lemmas.Bool.Decides.{nat_tests}
use Rattle.std.proofs.lemmas.Int.{ints}
use Rattle.std.proofs.lemmas.List.{take_more, drop_more, append_assoc, append-nil, length-drop, length-take-le}
use Rattle.std.proofs.Math.Seq.{take-add}
use Rattle.ion_value.specs.declared.decimal.Decimal.{Decimal}
use Rattle.ion_value.specs.Int.{IsInt, int_of_text}
use Rattle.ion_value.specs.Decimal.{IsDecimal, decimal_in_range, decimal_of_text}
use Rattle.ion_value.specs.Digits.{is_digit, digit_value, all_are, first_is, has_minus}
use Rattle.ion_value.specs.DigitReading.{Read, read_digits, read_whole, read_int, read_fraction}
use Rattle.ion_value.specs.Number.{signed}
use Rattle.ion_value.proofs.LeadingDigits.{all_are-append}
use Rattle.ion_value.proofs.TextDigits.{ten, zero_first, int-text, int-whole}
use Rattle.ion_value.proofs.TextDecimals.{sign-read, decimal-text, mantissa-pointed, after-nothing, decimal-in_range, one-shape}
use Rattle.ion_text_in.specs.declared.number.Number.TheVariants as numbers
use Rattle.ion_text_in.specs.declared.run.Run.TheVariants as run
use Rattle.ion_text_in.specs.Blanks.{begins_comment}
use Rattle.ion_text_in.specs.declared.quick.Mantissa.{Mantissa}
use Rattle.ion_text_in.specs.Quick.{number_after, scaled, signed_int, signed_text, stops, AreSpelled, AreWhole, IsPointed, IsQuick}
use Rattle.ion_text_in.specs.Runs.{EndAfter, stays}
use Rattle.ion_text_in.specs.Token.{bytes_of, in_run, run_token}
use Rattle.ion_text_in.specs.Views.{number_token, AreShown}
use Rattle.ion_text_in.proofs.RunEnds.{go-end, token-shown}
use Rattle.ion_text_in.proofs.SureRuns.{all-go}
use Rattle.ion_text_in.proofs.RunTokens.{int-token, decimal-token}
use Rattle.ion_text_in.proofs.SpelledNumbers.{pointed-is}

-- ---- digits

pub taken-some : (bytes : List ℕ) (k : ℕ) → 0 < k → k ≤ length bytes → 0 < length (take k bytes)
taken-some bytes k some less = let long = length-take-le k bytes less in omega (arith, long, some)

value-digit : (b : ℕ) → is_digit b ≡ true → digit_value b ≡ b - 48
value-digit b e = grind (arith, nat_tests)

read-one : (n k : ℕ) (after : Bool) (b : ℕ) (tail : List ℕ) → is_digit b ≡ true
    → read_digits 10 n after k (b ∷ tail) ≡ read_digits 10 (n * 10 + (b - 48)) true (k + 1) tail
unfolding read_digits
read-one n k after b tail e = rw (ten b, e, value-digit b e) refl

-- so many bytes in front are digits, and after a number they spell another, whatever follows them
pub record AreDigits (start : ℕ) (bytes : List ℕ) (number count : ℕ) : Type 0 where
  pub within : count ≤ length bytes
  pub digits : all_are is_digit (take count bytes) ≡ true
  pub some : 0 < count
  pub read : (tail : List ℕ) → read_digits 10 start false 0 (take count bytes ++ tail) ≡ read_digits 10 number true count tail

-- they are digits of which a first zero stands alone, and another byte stands after them
pub record IsWhole (bytes : List ℕ) (number count : ℕ) : Type 0 where
  pub read : AreDigits 0 bytes number count
  pub some : 0 < count
  pub within : count < length bytes
  pub no_zeros : (first_is (λ b. b == 48) bytes && first_is (λ b. is_digit b || b == 95) (drop 1 bytes)) ≡ false

read-on : (n k : ℕ) (ds tail : List ℕ) → all_are is_digit ds ≡ true → read_digits 10 n true k (ds ++ tail) ≡ read_digits 10 (number_after n ds) true (k + length ds) tail
read-on n k [] tail e = let same : k ≡ k + 0 = omega arith in ap (λ (k : ℕ). read_digits 10 n true k tail) same
read-on n k (d ∷ ds) tail e =
    let parts = and_parts (is_digit d) (all_are is_digit ds) e in
    let count : k + 1 + length ds ≡ k + suc (length ds) = omega arith in
    read-one n k true d (ds ++ tail) parts.0
    ∙ read-on (n * 10 + (d - 48)) (k + 1) ds tail parts.1
    ∙ ap (λ (k : ℕ). read_digits 10 (number_after n (d ∷ ds)) true k tail) count

read-all : (n : ℕ) (ds tail : List ℕ) → 0 < length ds → all_are is_digit ds ≡ true → read_digits 10 n false 0 (ds ++ tail) ≡ read_digits 10 (number_after n ds) true (length ds) tail
read-all n [] tail some e = absurd (omega (arith, some))
read-all n (d ∷ ds) tail some e =
    let parts = and_parts (is_digit d) (all_are is_digit ds) e in
    let count : 0 + 1 + length ds ≡ suc (length ds) = omega arith in
    read-one n 0 false d (ds ++ tail) parts.0
    ∙ read-on (n * 10 + (d - 48)) (0 + 1) ds tail parts.1
    ∙ ap (λ (k : ℕ). read_digits 10 (number_after n (d ∷ ds)) true k tail) count

-- digits spell a number after another
pub digits-spell : (start : ℕ) (bytes : List ℕ) (k : ℕ) → k ≤ length bytes → 0 < k → all_are is_digit (take k bytes) ≡ true → AreDigits start bytes (number_after start (take k bytes)) k
digits-spell start bytes k within some e =
    let n : ℕ = number_after start (take k bytes) in
    record {
      within = within;
      digits = e;
      some = some;
      read = λ tail. read-all start (take k bytes) tail (taken-some bytes k some within) e ∙ ap (λ (c : ℕ). read_digits 10 n true c tail) (length-take-le k bytes within);
    }

pub whole-spells : (bytes : List ℕ) (k : ℕ) → AreWhole bytes k → IsWhole bytes (number_after 0 (take k bytes)) k
whole-spells bytes k so = record { read = digits-spell 0 bytes k (omega (arith, so.within)) so.some so.digits; some = so.some; within = so.within; no_zeros = so.no_zeros }

-- ---- where a number ends

in_run-stop : (b : ℕ) (rest : List ℕ) → stops b ≡ true → in_run (b ∷ rest) ≡ false
in_run-stop b rest e = ap (λ (v : Bool). not (v || begins_comment (b ∷ rest))) e

pub stop-ends : (bytes : List ℕ) (k : ℕ) → k < length bytes → stops (get_or bytes k 0) ≡ true → (more : List ℕ) → in_run (drop k bytes ++ more) ≡ false
stop-ends bytes k less e more =
    ap (λ (l : List ℕ). in_run (l ++ more)) (drop_more bytes k 0 less) ∙ in_run-stop (get_or bytes k 0) (drop (k + 1) bytes ++ more) e

ends-at : (xs : List ℕ) (n : ℕ) → n < length xs → all_are (stays run.Number) (take n xs) ≡ true → ((more : List ℕ) → in_run (drop n xs ++ more) ≡ false) → EndAfter in_run xs n
ends-at xs n less goes ends = go-end in_run xs n (all-go run.Number xs n (omega (arith, less)) goes) ends

one-less : (bytes : List ℕ) (n : ℕ) → AreShown (bytes_of in_run) bytes (1 + n) → AreShown (bytes_of in_run) bytes (n + 1)
one-less bytes n shown = let same : 1 + n ≡ n + 1 = omega arith in subst (λ (k : ℕ). AreShown (bytes_of in_run) bytes k) same shown

pub signed-shown : (digits : List ℕ) (n : ℕ) → n < length digits → all_are (stays run.Number) (take n digits) ≡ true → ((more : List ℕ) → in_run (drop n digits ++ more) ≡ false)
    → AreShown (bytes_of in_run) (45 ∷ digits) (n + 1)
signed-shown digits n less goes ends =
    one-less (45 ∷ digits) n (token-shown in_run (45 ∷ digits) n (omega arith) less (ends-at digits n less goes ends))

pub plain-shown : (digits : List ℕ) (n : ℕ) → 0 < n → n < length digits → all_are (stays run.Number) (take n digits) ≡ true → ((more : List ℕ) → in_run (drop n digits ++ more) ≡ false)
    → AreShown (bytes_of in_run) digits n
plain-shown [] n some less goes ends = absurd (omega (arith, less))
plain-shown (d ∷ ds) zero some less goes ends = absurd (omega (arith, some))
plain-shown (d ∷ ds) (suc n) some less goes ends =
    let parts = and_parts (stays run.Number d) (all_are (stays run.Number) (take n ds)) goes in
    let within : n < length ds = omega (arith, less) in
    let same : 1 + n ≡ suc n = omega arith in
    subst (λ (k : ℕ). AreShown (bytes_of in_run) (d ∷ ds) k) same (token-shown in_run (d ∷ ds) n (omega arith) within (ends-at ds n within parts.1 ends))

-- ---- what digits spell

digit-stays : (b : ℕ) → is_digit b ≡ true → stays run.Number b ≡ true
digit-stays b e = grind (arith, nat_tests)

pub all-stay : (ds : List ℕ) → all_are is_digit ds ≡ true → all_are (stays run.Number) ds ≡ true
all-stay [] e = refl
all-stay (d ∷ ds) e = let parts = and_parts (is_digit d) (all_are is_digit ds) e in rw (digit-stays d parts.0) (all-stay ds parts.1)

-- a first zero stands alone among them
pub zero-front : (bytes tail : List ℕ) (k : ℕ) → 0 < k → k ≤ length bytes → zero_first bytes ≡ false → first_is (λ b. is_digit b || b == 95) tail ≡ false → zero_first (take k bytes ++ tail) ≡ false
zero-front bytes tail zero some less e f = absurd (omega (arith, some))
zero-front [] tail (suc k) some less e f = absurd (omega (arith, less))
zero-front (b ∷ bytes) tail (suc zero) some less e f = and_right (b == 48) (first_is (λ b. is_digit b || b == 95) tail) f
zero-front (b ∷ []) tail (suc (suc k)) some less e f = absurd (omega (arith, less))
zero-front (b ∷ c ∷ bytes) tail (suc (suc k)) some less e f = e

read-front : (bytes tail : List ℕ) (n k : ℕ) → IsWhole bytes n k → first_is (λ b. is_digit b || b == 95) tail ≡ false → read_whole (take k bytes ++ tail) ≡ read_digits 10 n true k tail
read-front bytes tail n k so f =
    rw (zero-front bytes tail k so.some so.read.within so.no_zeros f)
    (so.read.read tail)

abbrev made : ℕ → ℕ → List ℕ → Read
made n k rest = record { number = n; count = k; rest = rest }

read-last : (n k : ℕ) → read_digits 10 n true k [] ≡ Some (made n k [])
unfolding read_digits
read-last n k = refl

read-point : (n k : ℕ) (fs : List ℕ) → read_digits 10 n true k (46 ∷ fs) ≡ Some (made n k (46 ∷ fs))
unfolding read_digits
read-point n k fs = refl

no-letter : (c : ℕ) → is_digit c ≡ true → ((c == 120 || c == 88) ≡ false) × ((c == 98 || c == 66) ≡ false)
no-letter c e = (grind (arith, nat_tests), grind (arith, nat_tests))

int-digits : (ds : List ℕ) → all_are is_digit ds ≡ true → read_int ds ≡ read_whole ds
int-digits [] e = refl
int-digits (b ∷ []) e = rw (and_right (b == 48) false refl) refl
int-digits (b ∷ c ∷ ds) e =
    let parts = and_parts (is_digit b) (is_digit c && all_are is_digit ds) e in
    let second = and_parts (is_digit c) (all_are is_digit ds) parts.1 in
    let apart = no-letter c second.0 in
    rw (apart.0, apart.1, and_right (b == 48) false refl) refl

pub sign-front : (ds ys : List ℕ) → 0 < length ds → all_are is_digit ds ≡ true → has_minus (ds ++ ys) ≡ false
sign-front [] ys some e = absurd (omega (arith, some))
sign-front (d ∷ ds) ys some e = let parts = and_parts (is_digit d) (all_are is_digit ds) e in let digit = parts.0 in grind (arith, nat_tests)

-- ---- ints

int-read : (bytes : List ℕ) (n k : ℕ) → IsWhole bytes n k → read_int (take k bytes) ≡ Some (made n k [])
int-read bytes n k so =
    int-digits (take k bytes) so.read.digits
    ∙ ap read_whole (sym (append-nil (take k bytes)))
    ∙ read-front bytes [] n k so refl
    ∙ read-last n k

int-text-read : (negative : Bool) (bytes : List ℕ) (n k : ℕ) → IsWhole bytes n k → n < 2 ^ 128 → int_of_text (signed_text negative (take k bytes)) ≡ Ok (signed_int negative n)
int-text-read negative bytes n k so small =
    let ds : List ℕ = take k bytes in
    let plus : has_minus (take k bytes) ≡ false
    = ap has_minus (sym (append-nil (take k bytes))) ∙ sign-front (take k bytes) [] (taken-some bytes k so.some so.read.within) so.read.digits in
    let sign = sign-read negative (take k bytes) plus in
    int-text (signed_text negative (take k bytes)) (take k bytes) negative (sym sign.0) (sym sign.1)
    ∙ int-whole negative (read_int (take k bytes)) n k [] (int-read bytes n k so) refl
    ∙ rw (lt-ltb n (2 ^ 128) small) refl

int-valid : (negative : Bool) (n : ℕ) → n < 2 ^ 128 → IsInt (signed_int negative n)
int-valid negative n small = record { positive_zero = λ h. positive negative n h; fits = small }
  where
    positive : (negative : Bool) (n : ℕ) → IsTrue (negative && nat_lt 0 n) → 0 < n
    positive true zero h = absurd (cc h)
    positive true (suc n) h = omega arith
    positive false n h = absurd (cc h)

pub quick-int : (negative : Bool) (bytes : List ℕ) (n k : ℕ) → IsWhole bytes n k → stops (get_or bytes k 0) ≡ true → n < 2 ^ 128
    → AreSpelled (signed_text negative (take k bytes)) (record { negative = negative; number = n; exponent = None; count = k; canonical = true })
    → IsQuick negative bytes (record { negative = negative; number = n; exponent = None; count = k; canonical = true })
quick-int negative bytes n k so stop small spelled = record {
  sign = refl;
  some = so.some;
  within = so.within;
  goes = all-stay (take k bytes) so.read.digits;
  ends = stop-ends bytes k so.within stop;
  gives = int-token (signed_text negative (take k bytes)) (signed_int negative n) (int-text-read negative bytes n k so small);
  range = int-valid negative n small;
  spelled = spelled;
}

-- ---- decimals

fraction-on : (n : ℕ) (fs tail : List ℕ) → 0 < length fs → all_are is_digit fs ≡ true → read_fraction n (fs ++ tail) ≡ read_digits 10 n false 0 (fs ++ tail)
fraction-on n [] tail some e = absurd (omega (arith, some))
fraction-on n (f ∷ fs) tail some e = let parts = and_parts (is_digit f) (all_are is_digit fs) e in rw parts.0 refl

fraction-is : (start : ℕ) (bytes : List ℕ) (m j : ℕ) → AreDigits start bytes m j → 0 < j → read_fraction start (take j bytes) ≡ Some (made m j [])
fraction-is start bytes m j so some =
    ap (read_fraction start) (sym (append-nil (take j bytes)))
    ∙ fraction-on start (take j bytes) [] (taken-some bytes j some so.within) so.digits
    ∙ so.read []
    ∙ read-last m j

pub split-text : (bytes : List ℕ) (c k j : ℕ) → k < length bytes → get_or bytes k 0 ≡ c → take (k + 1 + j) bytes ≡ take k bytes ++ (c ∷ take j (drop (k + 1) bytes))
split-text bytes c k j less is =
    take-add (k + 1) j bytes
    ∙ ap (λ (l : List ℕ). l ++ take j (drop (k + 1) bytes)) (take_more bytes k 0 less)
    ∙ append_assoc (take k bytes) (get_or bytes k 0 ∷ []) (take j (drop (k + 1) bytes))
    ∙ ap (λ (b : ℕ). take k bytes ++ (b ∷ take j (drop (k + 1) bytes))) is

-- so many digits, a point and the digits after it
pub pointed-text : (bytes : List ℕ) (k : ℕ) (x : Mantissa) → AreWhole bytes k → get_or bytes k 0 ≡ 46 → IsPointed bytes k x
    → take x.end bytes ≡ take k bytes ++ (46 ∷ take x.places (drop (k + 1) bytes))
pointed-text bytes k x so point is = ap (λ (n : ℕ). take n bytes) is.end ∙ split-text bytes 46 k x.places so.within point

pub places-within : (bytes : List ℕ) (k : ℕ) (x : Mantissa) → IsPointed bytes k x → x.places ≤ length (drop (k + 1) bytes)
places-within bytes k x is = omega (arith, length-drop (k + 1) bytes, is.end, is.within)

places-spell : (bytes : List ℕ) (k : ℕ) (x : Mantissa) → IsPointed bytes k x → AreDigits (number_after 0 (take k bytes)) (drop (k + 1) bytes) x.number x.places
places-spell bytes k x is =
    let n : ℕ = number_after 0 (take k bytes) in
    subst (λ (m : ℕ). AreDigits n (drop (k + 1) bytes) m x.places) (sym is.number)
    (digits-spell n (drop (k + 1) bytes) x.places (places-within bytes k x is) is.some is.digits)

pub pointed-stay : (ds fs : List ℕ) → all_are is_digit ds ≡ true → all_are is_digit fs ≡ true → all_are (stays run.Number) (ds ++ (46 ∷ fs)) ≡ true
pointed-stay ds fs e f = all_are-append (stays run.Number) ds (46 ∷ fs) ∙ rw (all-stay ds e, all-stay fs f) refl

less-none : (j : ℕ) → signed true j -ℤ pos 0 ≡ signed true j
less-none j = omega (arith, ints)

minus-is : (j : ℕ) → pos 0 -ℤ pos j ≡ signed true j
minus-is j = omega (arith, ints)

decimal-valid : (d : Decimal) (j : ℕ) → d.coefficient < 2 ^ 128 → d.exponent ≡ pos 0 -ℤ pos j → j ≤ 128 → IsDecimal d
decimal-valid d j small e few = record { coefficient = small; exponent = (omega (arith, ints, e, few), omega (arith, ints, e, few)) }

decimal-read : (negative : Bool) (ds fs : List ℕ) (n k m j : ℕ) (d : Decimal) → 0 < length ds → all_are is_digit ds ≡ true
    → read_whole (ds ++ (46 ∷ fs)) ≡ Some (made n k (46 ∷ fs)) → read_fraction n fs ≡ Some (made m j []) → decimal_in_range negative m (pos 0 -ℤ pos j) ≡ Ok d
    → decimal_of_text (signed_text negative (ds ++ (46 ∷ fs))) ≡ Ok d
decimal-read negative ds fs n k m j d some digits whole fraction within =
    let sign = sign-read negative (ds ++ (46 ∷ fs)) (sign-front ds (46 ∷ fs) some digits) in
    sym (decimal-text (signed_text negative (ds ++ (46 ∷ fs))) (ds ++ (46 ∷ fs)) negative (sym sign.0) (sym sign.1))
    ∙ mantissa-pointed (ds ++ (46 ∷ fs)) n k (46 ∷ fs) m j [] whole refl fraction negative
    ∙ after-nothing negative m j true refl
    ∙ within

pub decimal-alone : (text : List ℕ) (d : Decimal) → decimal_of_text text ≡ Ok d → run_token text ≡ Ok (number_token (numbers.Decimal d))
decimal-alone text d e = elim (one-shape text) [
  | inl none ↦ decimal-token text d none e
  | inr none ↦ absurd (cc (none, e))
]

scaled-valid : (negative below : Bool) (n j : ℕ) → n < 2 ^ 128 → j ≤ 128 → IsDecimal (scaled negative n (signed below j))
scaled-valid negative true n j small few = decimal-valid (scaled negative n (signed true j)) j small (sym (minus-is j)) few
scaled-valid negative false n j small few = record { coefficient = small; exponent = (omega (arith, ints, few), omega (arith, ints, few)) }

decimal-gives : (negative : Bool) (bytes : List ℕ) (n k m j : ℕ) → IsWhole bytes n k → AreDigits n (drop (k + 1) bytes) m j → 0 < j → m < 2 ^ 128 → j ≤ 128
    → run_token (signed_text negative (take k bytes ++ (46 ∷ take j (drop (k + 1) bytes)))) ≡ Ok (number_token (numbers.Decimal (scaled negative m (signed true j))))
decimal-gives negative bytes n k m j whole after some small few =
    let d : Decimal = scaled negative m (signed true j) in
    let within = ap (decimal_in_range negative m) (minus-is j) ∙ decimal-in_range d (scaled-valid negative true m j small few) in
    let read = decimal-read negative (take k bytes) (take j (drop (k + 1) bytes)) n k m j d (taken-some bytes k whole.some whole.read.within) whole.read.digits
    (read-front bytes (46 ∷ take j (drop (k + 1) bytes)) n k whole refl ∙ read-point n k (take j (drop (k + 1) bytes)))
    (fraction-is n (drop (k + 1) bytes) m j after some) within in
    decimal-alone (signed_text negative (take k bytes ++ (46 ∷ take j (drop (k + 1) bytes)))) d read

-- with a point among them and nothing after them
pub quick-decimal : (negative : Bool) (bytes : List ℕ) (k : ℕ) (x : Mantissa) (e : ℤ) → AreWhole bytes k → get_or bytes k 0 ≡ 46 → IsPointed bytes k x → stops (get_or bytes x.end 0) ≡ true → x.number < 2 ^ 128
    → e ≡ signed true x.places -ℤ pos 0 → IsQuick negative bytes (record { negative = negative; number = x.number; exponent = Some e; count = x.end; canonical = true })
quick-decimal negative bytes k x e so point is stop small same =
    let n : ℕ = number_after 0 (take k bytes) in
    let whole = whole-spells bytes k so in
    let after = places-spell bytes k x is in
    let text = pointed-text bytes k x so point is in
    let spelled = pointed-is negative bytes (take x.end bytes) k x.places so is.some after.within is.digits is.few text in
    rw (same, less-none x.places) (record {
      sign = refl;
      some = omega (arith, is.end);
      within = is.within;
      goes = ap (all_are (stays run.Number)) text ∙ pointed-stay (take k bytes) (take x.places (drop (k + 1) bytes)) so.digits is.digits;
      ends = stop-ends bytes x.end is.within stop;
      gives = ap (λ (l : List ℕ). run_token (signed_text negative l)) text ∙ decimal-gives negative bytes n k x.number x.places whole after is.some small (omega (arith, is.few));
      range = scaled-valid negative true x.number x.places small (omega (arith, is.few));
      spelled = rw (sym is.end, sym is.number) at spelled;
    })

-- ---- after a sign

signed-front : (digits : List ℕ) (n : ℕ) → take (n + 1) (45 ∷ digits) ≡ 45 ∷ take n digits
signed-front digits n = let same : n + 1 ≡ suc n = omega arith in ap (λ (k : ℕ). take k (45 ∷ digits)) same

-- so many bytes of a text are a sign and the digits after it
pub signed-parts : (negative : Bool) (digits bytes : List ℕ) (k n : ℕ) → signed_text negative digits ≡ bytes → 0 < k → k < length digits → all_are (stays run.Number) (take k digits) ≡ true
    → ((more : List ℕ) → in_run (drop k digits ++ more) ≡ false) → n ≡ k + bool_byte negative → AreShown (bytes_of in_run) bytes n × (take n bytes ≡ signed_text negative (take k digits))
signed-parts true digits bytes k n same some within goes ends is = (
  subst (λ (k : ℕ). AreShown (bytes_of in_run) bytes k) (sym is) (subst (λ (l : List ℕ). AreShown (bytes_of in_run) l (k + 1)) same (signed-shown digits k within goes ends)),
  ap (λ (k : ℕ). take k bytes) is ∙ ap (take (k + 1)) (sym same) ∙ signed-front digits k,
)
signed-parts false digits bytes k n same some within goes ends is =
    let all : n ≡ k = omega (arith, is) in (
      subst (λ (k : ℕ). AreShown (bytes_of in_run) bytes k) (sym all) (subst (λ (l : List ℕ). AreShown (bytes_of in_run) l k) same (plain-shown digits k some within goes ends)),
      ap (λ (k : ℕ). take k bytes) all ∙ ap (take k) (sym same),
    )
