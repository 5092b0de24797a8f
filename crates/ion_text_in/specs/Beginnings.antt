-- Which token begins at a place, and what ends a number, told by the bytes (Ion specification, "Text Encoding").
use Rattle.std.specs.Prelude.{◌≡◌, ◌≢◌, ◌↔◌, ℕ, ◌≤◌, Bool, true, false, List, [], ◌∷◌, ◌++◌, codes}
use Rattle.ion_value.specs.declared.ion_type.Kind.TheVariants as kind
use Rattle.ion_text_in.specs.Places.{run_of}
use Rattle.ion_text_in.specs.Token.{First, a_run, a_word, a_quoted, a_short, a_long, a_lob, an_operator, an_infinity, a_begin, an_end, a_comma, a_colon, two_colons, no_token, first_at, in_run, in_word, in_operator}

-- ---- characters

-- one of these characters
pub data IsOneOf : List ℕ → ℕ → Type 0 where
  first : {c : ℕ} {cs : List ℕ} → IsOneOf (c ∷ cs) c
  other : {c b : ℕ} {cs : List ℕ} → IsOneOf cs b → IsOneOf (c ∷ cs) b

-- `0` to `9`
abbrev pub IsDigit : ℕ → Type 0
IsDigit b = (48 ≤ b) × (b ≤ 57)

-- ASCII letters, `_` and `$`
pub data BeginsIdentifier : ℕ → Type 0 where
  capital : {b : ℕ} → 65 ≤ b → b ≤ 90 → BeginsIdentifier b
  small : {b : ℕ} → 97 ≤ b → b ≤ 122 → BeginsIdentifier b
  underscore : BeginsIdentifier 95
  dollar : BeginsIdentifier 36

-- and digits
pub data InIdentifier : ℕ → Type 0 where
  start : {b : ℕ} → BeginsIdentifier b → InIdentifier b
  digit : {b : ℕ} → IsDigit b → InIdentifier b

-- one of the characters that operators consist of
abbrev pub IsOperatorCharacter : ℕ → Type 0
IsOperatorCharacter b = IsOneOf (codes "!#%&*+-./;<=>?@^`|~") b

-- the fifteen numeric stop characters: punctuation, quotes, space, tab, LF, CR, VT and FF
abbrev pub IsStopCharacter : ℕ → Type 0
IsStopCharacter b = IsOneOf (codes "{}[](),\"'" ++ 32 ∷ 9 ∷ 10 ∷ 13 ∷ 11 ∷ 12 ∷ []) b

-- some bytes do not begin with others
abbrev pub BeginsNot : List ℕ → List ℕ → Type 0
BeginsNot cs bytes = (more : List ℕ) → bytes ≡ cs ++ more → ⊥

-- ---- what ends a number

-- `//` or `/*`
pub data BeginsComment : List ℕ → Type 0 where
  line : {bytes : List ℕ} → BeginsComment (codes "//" ++ bytes)
  block : {bytes : List ℕ} → BeginsComment (codes "/*" ++ bytes)

-- what may stand after a number or timestamp: nothing, a stop character, or a comment
pub data EndsNumber : List ℕ → Type 0 where
  end : EndsNumber []
  character : {b : ℕ} {bytes : List ℕ} → IsStopCharacter b → EndsNumber (b ∷ bytes)
  comment : {bytes : List ℕ} → BeginsComment bytes → EndsNumber bytes

-- some bytes go on up to an end, and no further: the bytes of a token after its first, and what follows
pub record IsRun (Ends : List ℕ → Type 0) (bytes run after : List ℕ) : Type 0 where
  pub whole : bytes ≡ run ++ after
  pub ended : Ends after
  pub goes_on : (xs ys : List ℕ) → run ≡ xs ++ ys → ys ≢ [] → Ends (ys ++ after) → ⊥

-- a number or timestamp is said not to go on exactly where such an end stands
abbrev pub NumbersEnd : Type 0
NumbersEnd = (bytes : List ℕ) → (in_run bytes ≡ false) ↔ EndsNumber bytes

-- the bytes that are said to go on with a number or timestamp are such a run, and no others are
abbrev pub NumbersAreCut : Type 0
NumbersAreCut = (bytes run after : List ℕ) → (run_of in_run bytes ≡ (run, after)) ↔ IsRun EndsNumber bytes run after

-- ---- what ends an identifier or an operator

-- nothing, or a byte that is in no identifier
pub data EndsIdentifier : List ℕ → Type 0 where
  end : EndsIdentifier []
  character : {b : ℕ} {bytes : List ℕ} → (InIdentifier b → ⊥) → EndsIdentifier (b ∷ bytes)

-- an identifier is said not to go on exactly where such an end stands
abbrev pub IdentifiersEnd : Type 0
IdentifiersEnd = (bytes : List ℕ) → (in_word bytes ≡ false) ↔ EndsIdentifier bytes

-- the bytes that are said to go on with an identifier are such a run, and no others are
abbrev pub IdentifiersAreCut : Type 0
IdentifiersAreCut = (bytes run after : List ℕ) → (run_of in_word bytes ≡ (run, after)) ↔ IsRun EndsIdentifier bytes run after

-- nothing, a byte that is in no operator, or a comment
pub data EndsOperator : List ℕ → Type 0 where
  end : EndsOperator []
  character : {b : ℕ} {bytes : List ℕ} → (IsOperatorCharacter b → ⊥) → EndsOperator (b ∷ bytes)
  comment : {bytes : List ℕ} → BeginsComment bytes → EndsOperator bytes

-- an operator is said not to go on exactly where such an end stands
abbrev pub OperatorsEnd : Type 0
OperatorsEnd = (bytes : List ℕ) → (in_operator bytes ≡ false) ↔ EndsOperator bytes

-- the bytes that are said to go on with an operator are such a run, and no others are
abbrev pub OperatorsAreCut : Type 0
OperatorsAreCut = (bytes run after : List ℕ) → (run_of in_operator bytes ≡ (run, after)) ↔ IsRun EndsOperator bytes run after

-- ---- what begins

-- a digit, or a minus and a digit
pub data BeginsNumber : List ℕ → Type 0 where
  digit : {b : ℕ} {bytes : List ℕ} → IsDigit b → BeginsNumber (b ∷ bytes)
  minus : {b : ℕ} {bytes : List ℕ} → IsDigit b → BeginsNumber (45 ∷ b ∷ bytes)

-- `+inf` or `-inf`
pub data BeginsInfinity : List ℕ → Type 0 where
  plus : {bytes : List ℕ} → EndsIdentifier bytes → BeginsInfinity (codes "+inf" ++ bytes)
  minus : {bytes : List ℕ} → EndsIdentifier bytes → BeginsInfinity (codes "-inf" ++ bytes)

-- the kinds of tokens, each by the bytes that it begins with; operators stand in sexps alone
pub data TokenBegins (sexp : Bool) : List ℕ → First → Type 0 where
  word : {b : ℕ} {bytes : List ℕ} → BeginsIdentifier b → TokenBegins sexp (b ∷ bytes) a_word
  number : {bytes : List ℕ} → BeginsNumber bytes → TokenBegins sexp bytes a_run
  short_string : {bytes : List ℕ} → TokenBegins sexp (34 ∷ bytes) a_short
  long_string : {bytes : List ℕ} → TokenBegins sexp (39 ∷ 39 ∷ 39 ∷ bytes) a_long
  quoted_symbol : {bytes : List ℕ} → BeginsNot (39 ∷ 39 ∷ []) bytes → TokenBegins sexp (39 ∷ bytes) a_quoted
  lob : {bytes : List ℕ} → TokenBegins sexp (codes "{{" ++ bytes) a_lob
  infinity : {bytes : List ℕ} → BeginsInfinity bytes → TokenBegins sexp bytes an_infinity
  operator : {b : ℕ} {bytes : List ℕ} → sexp ≡ true → IsOperatorCharacter b → (BeginsNumber (b ∷ bytes) → ⊥)
      → (BeginsInfinity (b ∷ bytes) → ⊥) → TokenBegins sexp (b ∷ bytes) an_operator
  struct_begin : {bytes : List ℕ} → BeginsNot (codes "{") bytes → TokenBegins sexp (123 ∷ bytes) (a_begin kind.Struct)
  list_begin : {bytes : List ℕ} → TokenBegins sexp (91 ∷ bytes) (a_begin kind.List)
  sexp_begin : {bytes : List ℕ} → TokenBegins sexp (40 ∷ bytes) (a_begin kind.Sexp)
  struct_end : {bytes : List ℕ} → TokenBegins sexp (125 ∷ bytes) (an_end kind.Struct)
  list_end : {bytes : List ℕ} → TokenBegins sexp (93 ∷ bytes) (an_end kind.List)
  sexp_end : {bytes : List ℕ} → TokenBegins sexp (41 ∷ bytes) (an_end kind.Sexp)
  comma : {bytes : List ℕ} → TokenBegins sexp (44 ∷ bytes) a_comma
  colon : {bytes : List ℕ} → BeginsNot (codes ":") bytes → TokenBegins sexp (58 ∷ bytes) a_colon
  colons : {bytes : List ℕ} → TokenBegins sexp (58 ∷ 58 ∷ bytes) two_colons

-- it is computed
abbrev pub WhatBegins : Type 0
WhatBegins = (sexp : Bool) (bytes : List ℕ) (f : First) → f ≢ no_token → (first_at sexp bytes ≡ f) ↔ TokenBegins sexp bytes f

-- there is none where none of these begins
abbrev pub WhereNoneBegins : Type 0
WhereNoneBegins = (sexp : Bool) (bytes : List ℕ) → (first_at sexp bytes ≡ no_token) ↔ ((f : First) → TokenBegins sexp bytes f → ⊥)

-- no two kinds begin at one place
abbrev pub OneBegins : Type 0
OneBegins = (sexp : Bool) (bytes : List ℕ) (f g : First) → TokenBegins sexp bytes f → TokenBegins sexp bytes g → f ≡ g
