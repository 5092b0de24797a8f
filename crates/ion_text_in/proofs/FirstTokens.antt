-- The kind of token that begins: at the input's end, and how many bytes tell it.
use Rattle.std.proofs.Common.{◌≡◌, ◌≢◌, ℕ, inl, inr, ◌<◌, ◌≤◌, Bool, true, false, ◌&&◌, ◌||◌, ◌==◌, if◌then◌else◌, List, [], ◌∷◌, ◌++◌, length, get_or, not, IfSome, IsSome, MatchOption, Option, Some, None, Ok, codes, refl, sym, ap, subst, ◌∙◌, arith}
use Rattle.std.proofs.lemmas.Bool.{agree_below_at, and_parts, eqb-false, eqb-true, ne_eqb, or_cases}
use Rattle.std.proofs.lemmas.Bool.Decides.{nat_tests}
use Rattle.ion_value.specs.Digits.{first_is, is_digit}
use Rattle.ion_value.specs.Name.{begins_with, is_identifier_start, is_operator_byte}
use Rattle.ion_value.specs.declared.ion_type.Kind.TheVariants as kind
use Rattle.ion_text_in.specs.declared.first.TheConstants.{FIRST_BYTES}
use Rattle.ion_text_in.specs.Token as tokens
use Rattle.ion_text_in.specs.Token.{First, first_at, begins_run, is_infinity, punctuation}
use Rattle.ion_text_in.specs.declared.first.First as code
use Rattle.ion_text_in.specs.Firsts.{first_of, numbered, width}
use Rattle.ion_text_in.specs.Blanks.{blanks, is_white}
use Rattle.ion_text_in.specs.Meaning.{at}
use Rattle.ion_text_in.specs.Reading.{colons_at}
use Rattle.ion_meter.specs.Sources.{Cursor}
use Rattle.ion_text_in.proofs.BlankTurns.{found-other}
use Rattle.ion_text_in.proofs.Fuel.{begins-within}

-- ---- where the input ends

-- bytes that go on with no token change nothing
padded : (sexp : Bool) (bytes : List ℕ) → 1 ≤ length bytes → (5 ≤ length bytes → false ≡ true)
    → first_at sexp (get_or bytes 0 0 ∷ get_or bytes 1 0 ∷ get_or bytes 2 0 ∷ get_or bytes 3 0 ∷ 0 ∷ []) ≡ first_at sexp bytes
unfolding first_at
padded sexp [] some few = absurd (omega (arith, some))
padded sexp (a ∷ []) some few = refl
padded sexp (a ∷ b ∷ []) some few = refl
padded sexp (a ∷ b ∷ c ∷ []) some few = refl
padded sexp (a ∷ b ∷ c ∷ d ∷ []) some few = refl
padded sexp (a ∷ b ∷ c ∷ d ∷ e ∷ bytes) some few = absurd (cc (few (omega arith)))

pub ended-first : (sexp : Bool) (bytes : List ℕ) (found : Option code.First) (b c d : ℕ) → 1 ≤ length bytes → (5 ≤ length bytes → false ≡ true) → b ≡ get_or bytes 1 0 → c ≡ get_or bytes 2 0 → d ≡ get_or bytes 3 0
    → IfSome found (λ f. (more : List ℕ) → first_at sexp ((get_or bytes 0 0 ∷ b ∷ c ∷ d ∷ 0 ∷ []) ++ more) ≡ first_of f) → (5 ≤ 5 → IsSome found)
    → MatchOption found (bytes ≡ []) (λ f. first_at sexp bytes ≡ first_of f)
ended-first sexp bytes None b c d some few second third fourth shows known = absurd (cc (known (omega arith)))
ended-first sexp bytes (Some f) b c d some few second third fourth shows known = sym (padded sexp bytes some few) ∙ rw (second, third, fourth) at (shows [])

-- ---- how many bytes tell it

abbrev IsWide : List ℕ → First → Type 0
IsWide bytes f = width f ≤ length bytes

wide-if : (bytes : List ℕ) (b : Bool) (f g : First) → (b ≡ true → IsWide bytes f) → IsWide bytes g → IsWide bytes (if b then f else g)
wide-if bytes true f g wide others = wide refl
wide-if bytes false f g wide others = others

first-two : (b : ℕ) (bytes : List ℕ) → first_is (λ c. c == 58) bytes ≡ true → 2 ≤ length (b ∷ bytes)
first-two b [] e = absurd (cc e)
first-two b (c ∷ bytes) e = omega arith

either-begins : (xs ys bytes : List ℕ) (n : ℕ) (more : Bool) → length xs ≡ n → length ys ≡ n → ((begins_with xs bytes || begins_with ys bytes) && more) ≡ true → n ≤ length bytes
either-begins xs ys bytes n more one other e = elim (or_cases (begins_with xs bytes) (begins_with ys bytes) (and_parts (begins_with xs bytes || begins_with ys bytes) more e).0) [
  | inl is ↦ let le = begins-within xs bytes is in omega (arith, le, one)
  | inr is ↦ let le = begins-within ys bytes is in omega (arith, le, other)
]

punctuation-wide : (b : ℕ) (bytes : List ℕ) → IsWide (b ∷ bytes) (punctuation b bytes)
punctuation-wide b bytes =
    let all : List ℕ = b ∷ bytes in
    let one : 1 ≤ length (b ∷ bytes) = omega arith in
    wide-if all (b == 123) _ _ (λ _. one) (wide-if all (b == 91) _ _ (λ _. one) (wide-if all (b == 40) _ _ (λ _. one) (wide-if all (b == 125) _ _ (λ _. one)
    (wide-if all (b == 93) _ _ (λ _. one) (wide-if all (b == 41) _ _ (λ _. one) (wide-if all (b == 44) _ _ (λ _. one)
    (wide-if all (b == 58) _ _ (λ _. wide-if all (first_is (λ c. c == 58) bytes) _ _ (λ e. first-two b bytes e) one) one)))))))

first-wide : (sexp : Bool) (bytes : List ℕ) → 1 ≤ length bytes → width (first_at sexp bytes) ≤ length bytes
unfolding first_at
first-wide sexp [] some = absurd (omega (arith, some))
first-wide sexp (b ∷ bytes) some =
    let all : List ℕ = b ∷ bytes in
    wide-if all (is_identifier_start b) _ _ (λ _. some) (wide-if all (begins_run b bytes) _ _ (λ _. some) (wide-if all (b == 34) _ _ (λ _. some)
    (wide-if all (begins_with (39 ∷ 39 ∷ 39 ∷ []) all) _ _ (λ e. begins-within (39 ∷ 39 ∷ 39 ∷ []) all e) (wide-if all (b == 39) _ _ (λ _. some)
    (wide-if all (begins_with (codes "{{") all) _ _ (λ e. begins-within (codes "{{") all e)
    (wide-if all (is_infinity all) _ _ (λ e. either-begins (codes "+inf") (codes "-inf") all 4 _ refl refl e)
    (wide-if all (sexp && is_operator_byte b) _ _ (λ _. some) (punctuation-wide b bytes))))))))

pub ended-wide : (sexp : Bool) (bytes : List ℕ) (found : Option code.First) → 1 ≤ length bytes → MatchOption found (bytes ≡ []) (λ f. first_at sexp bytes ≡ first_of f)
    → IfSome found (λ f. width (first_of f) ≤ length bytes)
ended-wide sexp bytes None some first = tt
ended-wide sexp bytes (Some f) some first = rw (sym first) (first-wide sexp bytes some)

-- ---- what stands in a window

pub first-left : (sexp : Bool) (slice shown more rest : List ℕ) (f : First) → rest ≡ shown ++ more → slice ≡ shown → ((more : List ℕ) → first_at sexp (slice ++ more) ≡ f)
    → first_at sexp rest ≡ f
first-left sexp slice shown more rest f e same shows = ap (first_at sexp) e ∙ ap (λ (l : List ℕ). first_at sexp (l ++ more)) (sym same) ∙ shows more

-- ---- kinds that a byte tells alone

number_of : First → ℕ
number_of tokens.a_word = 1
number_of tokens.a_run = 2
number_of tokens.a_short = 3
number_of tokens.a_comma = 4
number_of (tokens.a_begin kind.List) = 5
number_of (tokens.a_begin kind.Sexp) = 6
number_of (tokens.an_end kind.Struct) = 7
number_of (tokens.an_end kind.List) = 8
number_of (tokens.an_end kind.Sexp) = 9
number_of _ = 0

numbered-of : (f : First) → 0 < number_of f → numbered (number_of f) ≡ f
unfolding number_of
numbered-of f some = grind arith

-- the table has 0 for a byte, or the number of what begins with it
agrees : Bool → List ℕ → ℕ → Bool
agrees sexp more b = get_or FIRST_BYTES b 0 == 0 || number_of (first_at sexp (b ∷ more)) == get_or FIRST_BYTES b 0

all-agree : (sexp : Bool) (more : List ℕ) (b : ℕ) → b < 256 → agrees sexp more b ≡ true
unfolding first_at agrees number_of
all-agree true more b small = agree_below_at (agrees true more) (λ _. true) 256 b refl small
all-agree false more b small = agree_below_at (agrees false more) (λ _. true) 256 b refl small

from-number : (f : First) (n : ℕ) → 0 < n → (n == 0 || number_of f == n) ≡ true → f ≡ numbered n
from-number f n some e = elim (or_cases (n == 0) (number_of f == n) e) [
  | inl is ↦ let none : n ≡ 0 = eqb-true n 0 is in absurd (omega (arith, some, none))
  | inr is ↦ let same : number_of f ≡ n = eqb-true (number_of f) n is in sym (numbered-of f (omega (arith, same, some))) ∙ ap numbered same
]

first-told : (b : ℕ) → b < 256 → 0 < get_or FIRST_BYTES b 0 → (sexp : Bool) (more : List ℕ) → first_at sexp (b ∷ more) ≡ numbered (get_or FIRST_BYTES b 0)
unfolding agrees
first-told b small some sexp more = from-number (first_at sexp (b ∷ more)) (get_or FIRST_BYTES b 0) some (all-agree sexp more b small)

pub told-front : (bytes : List ℕ) → 1 ≤ length bytes → get_or bytes 0 0 < 256 → 0 < get_or FIRST_BYTES (get_or bytes 0 0) 0 → (sexp : Bool) (more : List ℕ)
    → first_at sexp (bytes ++ more) ≡ numbered (get_or FIRST_BYTES (get_or bytes 0 0) 0)
told-front [] some small told sexp more = absurd (omega (arith, some))
told-front (b ∷ bytes) some small told sexp more = first-told b small told sexp (bytes ++ more)

-- such a byte begins no blank
begins-none : ℕ → Bool
begins-none b = get_or FIRST_BYTES b 0 == 0 || (not (is_white b) && not (b == 47))

all-begin : (b : ℕ) → b < 256 → begins-none b ≡ true
unfolding begins-none
all-begin b small = agree_below_at begins-none (λ _. true) 256 b refl small

not-so : (x : Bool) → not x ≡ true → x ≡ false
not-so true e = absurd (cc e)
not-so false e = refl

no-blank : (place b : ℕ) (rest : List ℕ) → is_white b ≡ false → (b == 47) ≡ false → blanks (at place (b ∷ rest)) ≡ Ok (at place (b ∷ rest))
no-blank place b rest white slash = found-other place b (b ∷ rest) white refl (eqb-false b 47 slash)

from-none : (b : ℕ) → 0 < get_or FIRST_BYTES b 0 → begins-none b ≡ true → (is_white b ≡ false) × ((b == 47) ≡ false)
unfolding begins-none
from-none b some e = elim (or_cases (get_or FIRST_BYTES b 0 == 0) (not (is_white b) && not (b == 47)) e) [
  | inl is ↦ let none : get_or FIRST_BYTES b 0 ≡ 0 = eqb-true (get_or FIRST_BYTES b 0) 0 is in absurd (omega (arith, some, none))
  | inr is ↦ let parts = and_parts (not (is_white b)) (not (b == 47)) is in (not-so (is_white b) parts.0, not-so (b == 47) parts.1)
]

pub told-bare : (bytes : List ℕ) → 1 ≤ length bytes → get_or bytes 0 0 < 256 → 0 < get_or FIRST_BYTES (get_or bytes 0 0) 0 → (place : ℕ) (more : List ℕ)
    → blanks (at place (bytes ++ more)) ≡ Ok (at place (bytes ++ more))
told-bare [] some small told place more = absurd (omega (arith, some))
told-bare (b ∷ bytes) some small told place more = let none = from-none b told (all-begin b small) in no-blank place b (bytes ++ more) none.0 none.1

-- ---- a struct's beginning

one-brace : (sexp : Bool) (x : ℕ) (bytes : List ℕ) → (123 == x) ≡ false → first_at sexp (123 ∷ x ∷ bytes) ≡ tokens.a_begin kind.Struct
unfolding first_at
one-brace true x bytes other = ap (λ (b : Bool). if b && true then tokens.a_lob else tokens.a_begin kind.Struct) other
one-brace false x bytes other = ap (λ (b : Bool). if b && true then tokens.a_lob else tokens.a_begin kind.Struct) other

-- a brace begins one where no brace follows
pub brace-first : (bytes : List ℕ) → 2 ≤ length bytes → get_or bytes 0 0 ≡ 123 → get_or bytes 1 0 ≢ 123 → (sexp : Bool) (more : List ℕ) → first_at sexp (bytes ++ more) ≡ tokens.a_begin kind.Struct
brace-first [] two first other sexp more = absurd (omega (arith, two))
brace-first (a ∷ []) two first other sexp more = absurd (omega (arith, two))
brace-first (a ∷ b ∷ bytes) two first other sexp more =
    ap (λ (x : ℕ). first_at sexp (x ∷ b ∷ (bytes ++ more))) first ∙ one-brace sexp b (bytes ++ more) (ne_eqb 123 b (λ e. other (sym e)))

-- ---- no kind that is told is a colon

pub no-colons : (n : ℕ) (c : Cursor) → colons_at (numbered n) c ≡ None
no-colons n c = grind (arith, nat_tests)

-- ---- kinds that are not told

is_numbered : First → Bool
is_numbered tokens.a_word = true
is_numbered tokens.a_run = true
is_numbered tokens.a_short = true
is_numbered tokens.a_comma = true
is_numbered (tokens.a_begin of) = true
is_numbered (tokens.an_end of) = true
is_numbered _ = false

zero-if : (c : Bool) (f g : First) → is_numbered f ≡ false → is_numbered g ≡ false → is_numbered (if c then f else g) ≡ false
zero-if true f g one other = one
zero-if false f g one other = other

-- where the table has 0 for a byte, none of the numbered kinds begins with it, but for those that need the next byte
lacks : Bool → List ℕ → ℕ → Bool
lacks sexp more b = not (get_or FIRST_BYTES b 0 == 0) || (b == 123 || (b == 45 || (b == 39 || (b == 43 || (b == 58 || not (is_numbered (first_at sexp (b ∷ more))))))))

all-lack : (sexp : Bool) (more : List ℕ) (b : ℕ) → b < 256 → lacks sexp more b ≡ true
unfolding first_at lacks is_numbered
all-lack true more b small = agree_below_at (lacks true more) (λ _. true) 256 b refl small
all-lack false more b small = agree_below_at (lacks false more) (λ _. true) 256 b refl small

minus-lacks : (sexp : Bool) (c : ℕ) (more : List ℕ) → is_digit c ≡ false → is_numbered (first_at sexp (45 ∷ c ∷ more)) ≡ false
unfolding first_at is_numbered
minus-lacks sexp c more none = rw none (zero-if (is_infinity (45 ∷ c ∷ more)) tokens.an_infinity (if sexp && is_operator_byte 45 then tokens.an_operator else tokens.no_token) refl
    (zero-if (sexp && is_operator_byte 45) tokens.an_operator tokens.no_token refl refl))

plus-lacks : (sexp : Bool) (more : List ℕ) → is_numbered (first_at sexp (43 ∷ more)) ≡ false
unfolding first_at is_numbered
plus-lacks sexp more = zero-if (is_infinity (43 ∷ more)) tokens.an_infinity (if sexp && is_operator_byte 43 then tokens.an_operator else tokens.no_token) refl
    (zero-if (sexp && is_operator_byte 43) tokens.an_operator tokens.no_token refl refl)

quote-lacks : (sexp : Bool) (more : List ℕ) → is_numbered (first_at sexp (39 ∷ more)) ≡ false
unfolding first_at is_numbered
quote-lacks sexp more = zero-if (begins_with (39 ∷ 39 ∷ 39 ∷ []) (39 ∷ more)) tokens.a_long tokens.a_quoted refl refl

colon-lacks : (sexp : Bool) (more : List ℕ) → is_numbered (first_at sexp (58 ∷ more)) ≡ false
unfolding first_at is_numbered
colon-lacks true more = zero-if (first_is (λ c. c == 58) more) tokens.two_colons tokens.a_colon refl refl
colon-lacks false more = zero-if (first_is (λ c. c == 58) more) tokens.two_colons tokens.a_colon refl refl

braces-lack : (sexp : Bool) (more : List ℕ) → is_numbered (first_at sexp (123 ∷ 123 ∷ more)) ≡ false
unfolding first_at is_numbered
braces-lack sexp more = refl

has-none : (n : ℕ) → not (n == 0) ≡ true → n ≡ 0 → ⊥
has-none n has none = cc (subst (λ (k : ℕ). not (k == 0) ≡ true) none has)

front-lacks : (sexp : Bool) (b c : ℕ) (more : List ℕ) → b < 256 → get_or FIRST_BYTES b 0 ≡ 0 → (b ≡ 123 → c ≡ 123) → (b ≡ 45 → is_digit c ≡ false) → is_numbered (first_at sexp (b ∷ c ∷ more)) ≡ false
unfolding lacks
front-lacks sexp b c more small none brace minus = elim (or_cases _ _ (all-lack sexp (c ∷ more) b small)) [
  | inl has ↦ absurd (has-none (get_or FIRST_BYTES b 0) has none)
  | inr some ↦ elim (or_cases (b == 123) _ some) [
    | inl is ↦ rw (eqb-true b 123 is, brace (eqb-true b 123 is)) (braces-lack sexp more)
    | inr some ↦ elim (or_cases (b == 45) _ some) [
      | inl is ↦ rw (eqb-true b 45 is) (minus-lacks sexp c more (minus (eqb-true b 45 is)))
      | inr some ↦ elim (or_cases (b == 39) _ some) [
        | inl is ↦ rw (eqb-true b 39 is) (quote-lacks sexp (c ∷ more))
        | inr some ↦ elim (or_cases (b == 43) _ some) [
          | inl is ↦ rw (eqb-true b 43 is) (plus-lacks sexp (c ∷ more))
          | inr some ↦ elim (or_cases (b == 58) _ some) [
            | inl is ↦ rw (eqb-true b 58 is) (colon-lacks sexp (c ∷ more))
            | inr last ↦ not-so _ last
          ]
        ]
      ]
    ]
  ]
]

numbered-some : (n : ℕ) → is_numbered (numbered n) ≡ true
unfolding is_numbered
numbered-some n = grind arith

pub none-numbered : (bytes : List ℕ) → 2 ≤ length bytes → get_or bytes 0 0 < 256 → get_or FIRST_BYTES (get_or bytes 0 0) 0 ≡ 0
    → (get_or bytes 0 0 ≡ 123 → get_or bytes 1 0 ≡ 123) → (get_or bytes 0 0 ≡ 45 → is_digit (get_or bytes 1 0) ≡ false)
    → (sexp : Bool) (more : List ℕ) (n : ℕ) → first_at sexp (bytes ++ more) ≢ numbered n
none-numbered [] two small none brace minus sexp more n same = absurd (omega (arith, two))
none-numbered (b ∷ []) two small none brace minus sexp more n same = absurd (omega (arith, two))
none-numbered (b ∷ c ∷ bytes) two small none brace minus sexp more n same =
    let here : is_numbered (first_at sexp (b ∷ c ∷ (bytes ++ more))) ≡ false = front-lacks sexp b c (bytes ++ more) small none brace minus in
    absurd (cc (sym here ∙ (ap is_numbered same ∙ numbered-some n)))
