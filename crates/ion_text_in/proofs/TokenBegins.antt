-- The kind of token that is computed at a place is the one that begins there, and no other does.
use Rattle.std.proofs.Common.{◌≡◌, ◌≢◌, ℕ, ◌≤◌, inl, inr, Bool, true, false, not, ◌&&◌, ◌||◌, ◌==◌, nat_le, if◌then◌else◌, List, [], ◌∷◌, ◌++◌, drop, codes, refl, sym, ap, subst, ◌∙◌, arith}
use Rattle.std.proofs.lemmas.Bool.{and_cases, not-false, and_parts, and_from, or_cases, not-true, eqb-true, eq-eqb, leb-true, le-leb, false≢true}
use Rattle.std.proofs.lemmas.Bool.Decides.{nat_tests}
use Rattle.ion_value.specs.Digits.{is_between, is_digit, first_is}
use Rattle.ion_value.specs.declared.ion_type.Kind.TheVariants as kind
use Rattle.ion_value.specs.Name.{begins_with, is_identifier_start, is_identifier_byte, is_operator_byte}
use Rattle.ion_text_in.specs.Blanks.{begins_comment}
use Rattle.ion_text_in.specs.Token.{in_operator, First, a_run, a_word, a_quoted, a_short, a_long, a_lob, an_operator, an_infinity, a_begin, an_end, a_comma, a_colon, two_colons, no_token, first_at, begins_run, is_infinity, punctuation}
use Rattle.ion_text_in.specs.Beginnings.{BeginsComment, EndsOperator, IdentifiersEnd, OperatorsEnd, IsDigit, BeginsIdentifier, InIdentifier, IsOperatorCharacter, BeginsNot, BeginsNumber, EndsIdentifier, BeginsInfinity, TokenBegins, WhatBegins, WhereNoneBegins, OneBegins}
use Rattle.ion_text_in.proofs.NumberEnds.{one_of-from, one_of-is, comment-is}

-- ---- characters

between-from : (low high b : ℕ) → low ≤ b → b ≤ high → is_between low high b ≡ true
between-from low high b l h = and_from (nat_le low b) (nat_le b high) (le-leb low b l) (le-leb b high h)

between-is : (low high b : ℕ) → is_between low high b ≡ true → (low ≤ b) × (b ≤ high)
between-is low high b e = let parts = and_parts (nat_le low b) (nat_le b high) e in (leb-true low b parts.0, leb-true b high parts.1)

digit-from : (b : ℕ) → IsDigit b → is_digit b ≡ true
digit-from b d = between-from 48 57 b d.0 d.1

digit-is : (b : ℕ) → is_digit b ≡ true → IsDigit b
digit-is b e = between-is 48 57 b e

is-not : (b : Bool) → (b ≡ true → ⊥) → b ≡ false
is-not true none = absurd (none refl)
is-not false none = refl

start-from : {b : ℕ} → BeginsIdentifier b → is_identifier_start b ≡ true
start-from (BeginsIdentifier.capital {b} l h) = grind (arith, nat_tests)
start-from (BeginsIdentifier.small {b} l h) = grind (arith, nat_tests)
start-from BeginsIdentifier.underscore = refl
start-from BeginsIdentifier.dollar = refl

start-is : (b : ℕ) → is_identifier_start b ≡ true → BeginsIdentifier b
start-is b e = elim (or_cases (is_between 65 90 b || is_between 97 122 b || b == 95) (b == 36) e) [
  | inr dollar ↦ subst BeginsIdentifier (sym (eqb-true b 36 dollar)) BeginsIdentifier.dollar
  | inl e ↦ elim (or_cases (is_between 65 90 b || is_between 97 122 b) (b == 95) e) [
    | inr underscore ↦ subst BeginsIdentifier (sym (eqb-true b 95 underscore)) BeginsIdentifier.underscore
    | inl e ↦ elim (or_cases (is_between 65 90 b) (is_between 97 122 b) e) [
      | inl capital ↦ (let bounds = between-is 65 90 b capital in BeginsIdentifier.capital bounds.0 bounds.1)
      | inr small ↦ (let bounds = between-is 97 122 b small in BeginsIdentifier.small bounds.0 bounds.1)
    ]
  ]
]

byte-from : {b : ℕ} → InIdentifier b → is_identifier_byte b ≡ true
byte-from (InIdentifier.start {b} s) = rw (start-from s) refl
byte-from (InIdentifier.digit {b} d) = grind (arith, nat_tests)

byte-is : (b : ℕ) → is_identifier_byte b ≡ true → InIdentifier b
byte-is b e = elim (or_cases (is_identifier_start b) (is_digit b) e) [ inl s ↦ InIdentifier.start (start-is b s) | inr d ↦ InIdentifier.digit (digit-is b d) ]

no_byte : (b : ℕ) → (InIdentifier b → ⊥) → is_identifier_byte b ≡ false
no_byte b none = is-not (is_identifier_byte b) (λ e. none (byte-is b e))

-- ---- beginnings of several bytes

prefix-is : (cs bytes : List ℕ) → begins_with cs bytes ≡ true → (more : List ℕ) × (bytes ≡ cs ++ more)
prefix-is [] bytes e = (bytes, refl)
prefix-is (c ∷ cs) [] e = absurd (false≢true e)
prefix-is (c ∷ cs) (b ∷ bytes) e =
    let parts = and_parts (c == b) (begins_with cs bytes) e in
    let more = prefix-is cs bytes parts.1 in
    (more.0, ap (λ (bytes : List ℕ). b ∷ bytes) more.1 ∙ ap (λ (b : ℕ). b ∷ (cs ++ more.0)) (sym (eqb-true c b parts.0)))

prefix-from : (cs more : List ℕ) → begins_with cs (cs ++ more) ≡ true
prefix-from [] more = refl
prefix-from (c ∷ cs) more = and_from (c == c) (begins_with cs (cs ++ more)) (eq-eqb c c refl) (prefix-from cs more)

prefix-not : (cs bytes : List ℕ) → begins_with cs bytes ≡ false → BeginsNot cs bytes
prefix-not cs bytes e more is = false≢true (sym e ∙ ap (begins_with cs) is ∙ prefix-from cs more)

not-prefix : (cs bytes : List ℕ) → BeginsNot cs bytes → begins_with cs bytes ≡ false
not-prefix cs bytes none = is-not (begins_with cs bytes) (λ e. let more = prefix-is cs bytes e in none more.0 more.1)

number-from : {b : ℕ} {bytes : List ℕ} → BeginsNumber (b ∷ bytes) → begins_run b bytes ≡ true
number-from (BeginsNumber.digit {b} {bytes} d) = rw (digit-from b d) refl
number-from (BeginsNumber.minus {b} {bytes} d) = digit-from b d

number-is : (b : ℕ) (bytes : List ℕ) → begins_run b bytes ≡ true → BeginsNumber (b ∷ bytes)
number-is b bytes e = elim (or_cases (is_digit b) (b == 45 && first_is is_digit bytes) e) [
  | inl d ↦ BeginsNumber.digit (digit-is b d)
  | inr minus ↦ (let parts = and_parts (b == 45) (first_is is_digit bytes) minus in
      subst (λ (b : ℕ). BeginsNumber (b ∷ bytes)) (sym (eqb-true b 45 parts.0)) (after bytes parts.1))
]
  where
    after : (bytes : List ℕ) → first_is is_digit bytes ≡ true → BeginsNumber (45 ∷ bytes)
    after [] e = absurd (false≢true e)
    after (c ∷ bytes) e = BeginsNumber.minus (digit-is c e)

pub ends-from : {bytes : List ℕ} → EndsIdentifier bytes → not (first_is is_identifier_byte bytes) ≡ true
ends-from EndsIdentifier.end = refl
ends-from (EndsIdentifier.character {b} none) = ap not (no_byte b none)

ends-is : (bytes : List ℕ) → not (first_is is_identifier_byte bytes) ≡ true → EndsIdentifier bytes
ends-is [] e = EndsIdentifier.end
ends-is (b ∷ bytes) e = EndsIdentifier.character (λ is. false≢true (sym (not-true (is_identifier_byte b) e) ∙ byte-from is))

-- ---- what ends an identifier or an operator

pub identifiers-end : IdentifiersEnd
identifiers-end bytes =
    (λ e. ends-is bytes (ap not e), λ ends. not-true (first_is is_identifier_byte bytes) (ends-from ends))

operator-from : {bytes : List ℕ} → EndsOperator bytes → in_operator bytes ≡ false
operator-from EndsOperator.end = refl
operator-from (EndsOperator.character {b} {bytes} none) =
    ap (λ (goes_on : Bool). goes_on && not (begins_comment (b ∷ bytes))) (is-not (is_operator_byte b) (λ e. none (one_of-is (codes "!#%&*+-./;<=>?@^`|~") b e)))
operator-from (EndsOperator.comment BeginsComment.line) = refl
operator-from (EndsOperator.comment BeginsComment.block) = refl

operator-is : (bytes : List ℕ) → in_operator bytes ≡ false → EndsOperator bytes
operator-is [] e = EndsOperator.end
operator-is (b ∷ bytes) e = elim (and_cases (is_operator_byte b) (not (begins_comment (b ∷ bytes))) e) [
  | inl none ↦ EndsOperator.character (λ is. false≢true (sym none ∙ one_of-from is))
  | inr comment ↦ EndsOperator.comment (comment-is b bytes (not-false (begins_comment (b ∷ bytes)) comment))
]

pub operators-end : OperatorsEnd
operators-end bytes = (operator-is bytes, λ ends. operator-from ends)

-- ---- infinities

infinity-from : {bytes : List ℕ} → BeginsInfinity bytes → is_infinity bytes ≡ true
infinity-from (BeginsInfinity.plus {bytes} ends) = ends-from ends
infinity-from (BeginsInfinity.minus {bytes} ends) = ends-from ends

infinity-is : (bytes : List ℕ) → is_infinity bytes ≡ true → BeginsInfinity bytes
infinity-is bytes e =
    let parts = and_parts (begins_with (codes "+inf") bytes || begins_with (codes "-inf") bytes) (not (first_is is_identifier_byte (drop 4 bytes))) e in
    elim (or_cases (begins_with (codes "+inf") bytes) (begins_with (codes "-inf") bytes) parts.0) [
      | inl plus ↦ (let more = prefix-is (codes "+inf") bytes plus in
          subst BeginsInfinity (sym more.1)
          (BeginsInfinity.plus (ends-is more.0 (subst (λ (bytes : List ℕ). not (first_is is_identifier_byte (drop 4 bytes)) ≡ true) more.1 parts.1))))
      | inr minus ↦ (let more = prefix-is (codes "-inf") bytes minus in
          subst BeginsInfinity (sym more.1)
          (BeginsInfinity.minus (ends-is more.0 (subst (λ (bytes : List ℕ). not (first_is is_identifier_byte (drop 4 bytes)) ≡ true) more.1 parts.1))))
    ]

-- ---- what is computed begins

abbrev Told : Bool → List ℕ → First → Type 0
Told sexp bytes f = f ≢ no_token → TokenBegins sexp bytes f

told-if : {sexp : Bool} {bytes : List ℕ} (b : Bool) (x y : First) → (b ≡ true → Told sexp bytes x) → (b ≡ false → Told sexp bytes y) → Told sexp bytes (if b then x else y)
told-if true x y tx ty = tx refl
told-if false x y tx ty = ty refl

-- a first byte is this one
at-byte : {sexp : Bool} (b c : ℕ) (bytes : List ℕ) (f : First) → TokenBegins sexp (c ∷ bytes) f → (b == c) ≡ true → Told sexp (b ∷ bytes) f
at-byte {sexp} b c bytes f begins e some = subst (λ (b : ℕ). TokenBegins sexp (b ∷ bytes) f) (sym (eqb-true b c e)) begins

after-prefix : {sexp : Bool} (cs bytes : List ℕ) (f : First) → ((more : List ℕ) → TokenBegins sexp (cs ++ more) f) → begins_with cs bytes ≡ true → Told sexp bytes f
after-prefix {sexp} cs bytes f begins e some = let more = prefix-is cs bytes e in subst (λ (bytes : List ℕ). TokenBegins sexp bytes f) (sym more.1) (begins more.0)

no-colon : (bytes : List ℕ) → first_is (λ c. c == 58) bytes ≡ false → BeginsNot (codes ":") bytes
no-colon bytes e more is = false≢true (sym e ∙ ap (first_is (λ c. c == 58)) is)

second-colon : {sexp : Bool} (bytes : List ℕ) → first_is (λ c. c == 58) bytes ≡ true → TokenBegins sexp (58 ∷ bytes) two_colons
second-colon [] e = absurd (false≢true e)
second-colon {sexp} (c ∷ bytes) e = subst (λ (c : ℕ). TokenBegins sexp (58 ∷ c ∷ bytes) two_colons) (sym (eqb-true c 58 e)) TokenBegins.colons

-- after a byte that is the first of two, the second is not the same
second-not : (b : ℕ) (bytes cs : List ℕ) (c : ℕ) → begins_with (c ∷ cs) (b ∷ bytes) ≡ false → (b == c) ≡ true → BeginsNot cs bytes
second-not b bytes cs c none same more is =
    prefix-not (c ∷ cs) (b ∷ bytes) none more (ap (λ (bytes : List ℕ). b ∷ bytes) is ∙ ap (λ (b : ℕ). b ∷ (cs ++ more)) (eqb-true b c same))

punctuation-told : (sexp : Bool) (b : ℕ) (bytes : List ℕ) → begins_with (codes "{{") (b ∷ bytes) ≡ false → Told sexp (b ∷ bytes) (punctuation b bytes)
punctuation-told sexp b bytes no_lob =
    told-if (b == 123) _ _ (λ e. at-byte b 123 bytes (a_begin kind.Struct) (TokenBegins.struct_begin (second-not b bytes (codes "{") 123 no_lob e)) e) (λ _.
    told-if (b == 91) _ _ (at-byte b 91 bytes (a_begin kind.List) TokenBegins.list_begin) (λ _.
    told-if (b == 40) _ _ (at-byte b 40 bytes (a_begin kind.Sexp) TokenBegins.sexp_begin) (λ _.
    told-if (b == 125) _ _ (at-byte b 125 bytes (an_end kind.Struct) TokenBegins.struct_end) (λ _.
    told-if (b == 93) _ _ (at-byte b 93 bytes (an_end kind.List) TokenBegins.list_end) (λ _.
    told-if (b == 41) _ _ (at-byte b 41 bytes (an_end kind.Sexp) TokenBegins.sexp_end) (λ _.
    told-if (b == 44) _ _ (at-byte b 44 bytes a_comma TokenBegins.comma) (λ _.
    told-if (b == 58) _ _ (λ e. told-if (first_is (λ c. c == 58) bytes) two_colons a_colon
    (λ two. at-byte b 58 bytes two_colons (second-colon bytes two) e)
    (λ one. at-byte b 58 bytes a_colon (TokenBegins.colon (no-colon bytes one)) e)) (λ _ some. absurd (some refl)))))))))

operator-told : (sexp : Bool) (b : ℕ) (bytes : List ℕ) → begins_run b bytes ≡ false → is_infinity (b ∷ bytes) ≡ false → (sexp && is_operator_byte b) ≡ true → Told sexp (b ∷ bytes) an_operator
operator-told sexp b bytes no_number no_infinity e some =
    let parts = and_parts sexp (is_operator_byte b) e in
    TokenBegins.operator parts.0 (one_of-is (codes "!#%&*+-./;<=>?@^`|~") b parts.1)
    (λ number. false≢true (sym no_number ∙ number-from number)) (λ infinity. false≢true (sym no_infinity ∙ infinity-from infinity))

first-told : (sexp : Bool) (bytes : List ℕ) → Told sexp bytes (first_at sexp bytes)
unfolding first_at
first-told sexp [] = λ some. absurd (some refl)
first-told sexp (b ∷ bytes) =
    told-if (is_identifier_start b) _ _ (λ e _. TokenBegins.word (start-is b e)) (λ _.
    told-if (begins_run b bytes) _ _ (λ e _. TokenBegins.number (number-is b bytes e)) (λ no_number.
    told-if (b == 34) _ _ (at-byte b 34 bytes a_short TokenBegins.short_string) (λ _.
    told-if (begins_with (39 ∷ 39 ∷ 39 ∷ []) (b ∷ bytes)) _ _ (after-prefix (39 ∷ 39 ∷ 39 ∷ []) (b ∷ bytes) a_long (λ more. TokenBegins.long_string)) (λ no_long.
    told-if (b == 39) _ _ (λ e. at-byte b 39 bytes a_quoted (TokenBegins.quoted_symbol (second-not b bytes (39 ∷ 39 ∷ []) 39 no_long e)) e) (λ _.
    told-if (begins_with (codes "{{") (b ∷ bytes)) _ _ (after-prefix (codes "{{") (b ∷ bytes) a_lob (λ more. TokenBegins.lob)) (λ no_lob.
    told-if (is_infinity (b ∷ bytes)) _ _ (λ e _. TokenBegins.infinity (infinity-is (b ∷ bytes) e)) (λ no_infinity.
    told-if (sexp && is_operator_byte b) _ _ (operator-told sexp b bytes no_number no_infinity) (λ _. punctuation-told sexp b bytes no_lob))))))))

-- ---- what begins is computed

number-no_start : (b : ℕ) (bytes : List ℕ) → begins_run b bytes ≡ true → is_identifier_start b ≡ false
number-no_start b bytes e = elim (or_cases (is_digit b) (b == 45 && first_is is_digit bytes) e) [
  | inl d ↦ grind (arith, nat_tests)
  | inr minus ↦ (let same : (b == 45) ≡ true = (and_parts (b == 45) (first_is is_digit bytes) minus).0 in rw (eqb-true b 45 same) refl)
]

word-computed : (sexp : Bool) (b : ℕ) (bytes : List ℕ) → is_identifier_start b ≡ true → first_at sexp (b ∷ bytes) ≡ a_word
unfolding first_at
word-computed sexp b bytes start = rw start refl

number-computed : (sexp : Bool) (bytes : List ℕ) → BeginsNumber bytes → first_at sexp bytes ≡ a_run
unfolding first_at
number-computed sexp [] number = elim number [ ]
number-computed sexp (b ∷ bytes) number =
    let e = number-from number in
    let other = number-no_start b bytes e in
    rw (other, e) refl

infinity-computed : (sexp : Bool) (bytes : List ℕ) → BeginsInfinity bytes → first_at sexp bytes ≡ an_infinity
unfolding first_at
infinity-computed sexp _ (BeginsInfinity.plus {bytes} ends) = ap (λ (ends : Bool). if ends then an_infinity else (if sexp && true then an_operator else no_token)) (ends-from ends)
infinity-computed sexp _ (BeginsInfinity.minus {bytes} ends) = ap (λ (ends : Bool). if ends then an_infinity else (if sexp && true then an_operator else no_token)) (ends-from ends)

operator-computed : (b : ℕ) (bytes : List ℕ) → IsOperatorCharacter b → (BeginsNumber (b ∷ bytes) → ⊥) → (BeginsInfinity (b ∷ bytes) → ⊥) → first_at true (b ∷ bytes) ≡ an_operator
unfolding first_at
operator-computed b bytes is no_number no_infinity =
    let test : is_operator_byte b ≡ true = one_of-from is in
    let no_start : is_identifier_start b ≡ false = grind (arith, nat_tests) in
    let no_run : begins_run b bytes ≡ false = is-not (begins_run b bytes) (λ e. no_number (number-is b bytes e)) in
    let no_inf : is_infinity (b ∷ bytes) ≡ false = is-not (is_infinity (b ∷ bytes)) (λ e. no_infinity (infinity-is (b ∷ bytes) e)) in
    let no_string : (b == 34) ≡ false = grind (arith, nat_tests) in
    let no_quote : (b == 39) ≡ false = grind (arith, nat_tests) in
    let no_other : (39 == b) ≡ false = grind (arith, nat_tests) in
    let no_brace : (123 == b) ≡ false = grind (arith, nat_tests) in
    rw (no_start, no_run, no_string, no_other, no_quote, no_brace, no_inf, test) refl

no-operator : (sexp : Bool) (f : First) → (if sexp && false then an_operator else f) ≡ f
no-operator true f = refl
no-operator false f = refl

pub no-first : (b : ℕ) (bytes : List ℕ) → BeginsNot (b ∷ []) bytes → first_is (λ c. c == b) bytes ≡ false
no-first b [] none = refl
no-first b (c ∷ bytes) none = is-not (c == b) (λ e. none bytes (ap (λ (c : ℕ). c ∷ bytes) (eqb-true c b e)))

begun : {sexp : Bool} {bytes : List ℕ} {f : First} → TokenBegins sexp bytes f → first_at sexp bytes ≡ f
unfolding first_at
begun {sexp} (TokenBegins.word {b} {bytes} start) = word-computed sexp b bytes (start-from start)
begun {sexp} (TokenBegins.number {bytes} number) = number-computed sexp bytes number
begun TokenBegins.short_string = refl
begun TokenBegins.long_string = refl
begun (TokenBegins.quoted_symbol {bytes} none) = ap (λ (long : Bool). if long then a_long else a_quoted) (not-prefix (39 ∷ 39 ∷ []) bytes none)
begun TokenBegins.lob = refl
begun {sexp} (TokenBegins.infinity {bytes} infinity) = infinity-computed sexp bytes infinity
begun (TokenBegins.operator {b} {bytes} in_sexp is no_number no_infinity) = ap (λ (sexp : Bool). first_at sexp (b ∷ bytes)) in_sexp ∙ operator-computed b bytes is no_number no_infinity
begun {sexp} (TokenBegins.struct_begin {bytes} none) =
    ap (λ (two : Bool). if two then a_lob else (if sexp && false then an_operator else a_begin kind.Struct)) (not-prefix (codes "{") bytes none)
    ∙ no-operator sexp (a_begin kind.Struct)
begun {sexp} (TokenBegins.colon {bytes} none) =
    no-operator sexp (if first_is (λ c. c == 58) bytes then two_colons else a_colon)
    ∙ ap (λ (two : Bool). if two then two_colons else a_colon) (no-first 58 bytes none)
begun {sexp} {bytes} {f} mark = no-operator sexp f

pub what-begins : WhatBegins
what-begins sexp bytes f some = (λ e. subst (λ (f : First). Told sexp bytes f) e (first-told sexp bytes) some, λ begins. begun begins)

pub one-begins : OneBegins
one-begins sexp bytes f g x y = sym (begun x) ∙ begun y

-- ---- where none begins

no-none : {sexp : Bool} {bytes : List ℕ} → TokenBegins sexp bytes no_token → ⊥
no-none begins = elim begins [ ]

none-is : (sexp : Bool) (bytes : List ℕ) (f : First) → Told sexp bytes f → ((g : First) → TokenBegins sexp bytes g → ⊥) → f ≡ no_token
none-is sexp bytes no_token told none = refl
none-is sexp bytes f told none = absurd (none f (told (λ e. absurd (cc e))))

pub where-none-begins : WhereNoneBegins
where-none-begins sexp bytes =
    (λ e f begins. no-none (subst (λ f. TokenBegins sexp bytes f) (sym (begun begins) ∙ e) begins), λ none. none-is sexp bytes (first_at sexp bytes) (first-told sexp bytes) none)
