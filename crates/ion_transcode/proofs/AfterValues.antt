-- White space, what may stand after a value in text by a layout, and that no two colons come there.
use Rattle.std.proofs.Common.{◌≡◌, ℕ, suc, Bool, true, false, not, ◌&&◌, ◌||◌, ◌==◌, if◌then◌else◌, List, [], ◌∷◌, ◌++◌, codes, Option, None, Some, Result, Ok, Err, refl, ap, sym, ◌∙◌, subst, arith}
use Rattle.std.proofs.lemmas.Bool.{false≢true, and_parts, eqb-true}
use Rattle.std.proofs.lemmas.Bool.Decides.{nat_tests}
use lib.Ieee.{Float, nan, inf, fin}
use Rattle.ion_meter.specs.declared.fault.Reason.{Reason}
use Rattle.ion_meter.specs.declared.fault.Reason.TheVariants as reason
use Rattle.ion_meter.specs.Sources.{Cursor, skip}
use Rattle.ion_value.specs.declared.ion_type.IonType.{IonType}
use Rattle.ion_value.specs.declared.ion_type.IonType.TheVariants as type
use Rattle.ion_value.specs.Digits.{all_are}
use Rattle.ion_value.specs.FloatText.{float_of_text}
use Rattle.ion_value.specs.Scalar.{scalar_of_run}
use Rattle.ion_value.specs.Name.{Keyword, a_null, a_bool, a_nan, is_identifier_byte, is_one_of, keyword, is_id, id_of}
use Rattle.ion_value.specs.Parts.{part, ◌>>=◌}
use Rattle.ion_value.specs.Value as value
use Rattle.ion_value.specs.Value.{Scalar, SymbolAt}
use Rattle.ion_text_in.specs.Blanks.{white, no_blank, is_white, begins_comment, blank_at, blanks, blanks_at}
use Rattle.ion_text_in.specs.Beginnings.{BeginsNot, EndsIdentifier, EndsNumber, NumbersEnd, IdentifiersEnd, WhatBegins, TokenBegins}
use Rattle.ion_text_in.specs.Grammar.{NoColons}
use Rattle.ion_text_in.specs.Lob.{lob_at}
use Rattle.ion_text_in.specs.Meaning.{at, EndsNull, EndsFloat}
use Rattle.ion_text_in.specs.Quoted.{symbol_quote, short_quote, long_quote, text_at}
use Rattle.ion_text_in.specs.Token as tokens
use Rattle.ion_text_in.specs.Token.{First, a_run, a_word, a_quoted, a_short, a_long, a_lob, an_operator, an_infinity, a_begin, an_end, a_comma, a_colon, two_colons, no_token, first_at, Token, plain, float, name, text, operator, found_float, begin, end, comma, colon, colons, bytes_of, in_run, in_operator, word_of, word_token, run_token, scalar_token, null_token, by_keyword, token_of, token_at, next_token}
use Rattle.ion_text_out.specs.Layout.{AreMarked, AreWhite}

-- ---- white space

pub white-first : (b : ℕ) (gap : List ℕ) → AreWhite (b ∷ gap) → is_white b ≡ true
white-first b gap w = (and_parts (is_white b) (all_are is_white gap) w).0

pub white-others : (b : ℕ) (gap : List ℕ) → AreWhite (b ∷ gap) → AreWhite gap
white-others b gap w = (and_parts (is_white b) (all_are is_white gap) w).1

-- it is no byte that is not white
pub white-not : (b c : ℕ) → is_white b ≡ true → is_white c ≡ false → (b == c) ≡ false
white-not b c w dark = by (b == c) refl
  where
    by : (same : Bool) → (b == c) ≡ same → same ≡ false
    by false e = refl
    by true e = absurd (false≢true (sym dark ∙ subst (λ x. is_white x ≡ true) (eqb-true b c e) w))

-- a mark, and the white space after it
pub record Marked (mark : ℕ) (bytes : List ℕ) : Type 0 where
  pub gap : List ℕ
  pub is : bytes ≡ mark ∷ gap
  pub is_gap : AreWhite gap

pub marked : (mark : ℕ) (bytes : List ℕ) → AreMarked mark bytes → Marked mark bytes
marked mark [] are = absurd are
marked mark (b ∷ bytes) are = record { gap = bytes; is = ap (λ c. c ∷ bytes) are.0; is_gap = are.1 }

-- ---- what stands after a value

-- a byte that begins no blank, no colon and no binary stream
abbrev pub is_start : ℕ → Bool
is_start b = not (is_white b) && (not (b == 47) && (not (b == 58) && not (b == 224)))

-- nothing, or such a byte first
abbrev pub starts : List ℕ → Bool
starts [] = true
starts (b ∷ bytes) = is_start b

-- a comma, a bracket that ends the container, or white space before what begins no other blank
pub data After : List ℕ → Type 0 where
  at_comma : {bytes : List ℕ} → After (44 ∷ bytes)
  at_list_end : {bytes : List ℕ} → After (93 ∷ bytes)
  at_sexp_end : {bytes : List ℕ} → After (41 ∷ bytes)
  at_struct_end : {bytes : List ℕ} → After (125 ∷ bytes)
  at_white : (b : ℕ) (gap bytes : List ℕ) → AreWhite (b ∷ gap) → starts bytes ≡ true → After (b ∷ (gap ++ bytes))

-- and after a symbol a colon too
pub data AfterSymbol : List ℕ → Type 0 where
  of_value : {bytes : List ℕ} → After bytes → AfterSymbol bytes
  at_colon : {bytes : List ℕ} → AfterSymbol (58 ∷ bytes)

-- white space or nothing, before what may stand there itself
pub after-gap : (gap : List ℕ) → AreWhite gap → (bytes : List ℕ) → starts bytes ≡ true → (gap ≡ [] → After bytes)
    → After (gap ++ bytes)
after-gap [] w bytes s after = after refl
after-gap (b ∷ gap) w bytes s after = After.at_white b gap bytes w s

-- ---- it ends each token

white-ends : (p w c : Bool) → w ≡ true → not (p || w || c) ≡ false
white-ends true w c e = refl
white-ends false true c e = refl
white-ends false false c e = absurd (false≢true e)

white-run : (b : ℕ) (bytes : List ℕ) → is_white b ≡ true → in_run (b ∷ bytes) ≡ false
white-run b bytes w = white-ends (is_one_of (codes "{}[](),\"'") b) (is_white b) (begins_comment (b ∷ bytes)) w

white-word : (b : ℕ) → is_white b ≡ true → is_identifier_byte b ≡ false
white-word b w = grind (arith, nat_tests)

pub ends-number : NumbersEnd → (bytes : List ℕ) → After bytes → EndsNumber bytes
ends-number law _ After.at_comma = (law _).0 refl
ends-number law _ After.at_list_end = (law _).0 refl
ends-number law _ After.at_sexp_end = (law _).0 refl
ends-number law _ After.at_struct_end = (law _).0 refl
ends-number law _ (After.at_white b gap bytes w s) = (law _).0 (white-run b (gap ++ bytes) (white-first b gap w))

pub ends-identifier : IdentifiersEnd → (bytes : List ℕ) → AfterSymbol bytes → EndsIdentifier bytes
ends-identifier law _ (AfterSymbol.of_value After.at_comma) = (law _).0 refl
ends-identifier law _ (AfterSymbol.of_value After.at_list_end) = (law _).0 refl
ends-identifier law _ (AfterSymbol.of_value After.at_sexp_end) = (law _).0 refl
ends-identifier law _ (AfterSymbol.of_value After.at_struct_end) = (law _).0 refl
ends-identifier law _ (AfterSymbol.of_value (After.at_white b gap bytes w s)) = (law _).0 (white-word b (white-first b gap w))
ends-identifier law _ AfterSymbol.at_colon = (law _).0 refl

other-first : (b c : ℕ) (bytes : List ℕ) → (b == c) ≡ false → BeginsNot (c ∷ []) (b ∷ bytes)
other-first b c bytes differ more e =
    let same : b ≡ c = cc e in
    let yes : (c == c) ≡ false = subst (λ x. (x == c) ≡ false) same differ in
    grind (arith, yes)

pub no-quote : (bytes : List ℕ) → AfterSymbol bytes → BeginsNot (codes "'") bytes
no-quote _ (AfterSymbol.of_value (After.at_comma {bytes})) = other-first 44 39 bytes refl
no-quote _ (AfterSymbol.of_value (After.at_list_end {bytes})) = other-first 93 39 bytes refl
no-quote _ (AfterSymbol.of_value (After.at_sexp_end {bytes})) = other-first 41 39 bytes refl
no-quote _ (AfterSymbol.of_value (After.at_struct_end {bytes})) = other-first 125 39 bytes refl
no-quote _ (AfterSymbol.of_value (After.at_white b gap bytes w s)) =
    other-first b 39 (gap ++ bytes) (white-not b 39 (white-first b gap w) refl)
no-quote _ (AfterSymbol.at_colon {bytes}) = other-first 58 39 bytes refl

no-point : (bytes : List ℕ) → After bytes → BeginsNot (codes ".") bytes
no-point _ (After.at_comma {bytes}) = other-first 44 46 bytes refl
no-point _ (After.at_list_end {bytes}) = other-first 93 46 bytes refl
no-point _ (After.at_sexp_end {bytes}) = other-first 41 46 bytes refl
no-point _ (After.at_struct_end {bytes}) = other-first 125 46 bytes refl
no-point _ (After.at_white b gap bytes w s) = other-first b 46 (gap ++ bytes) (white-not b 46 (white-first b gap w) refl)

pub ends-null : IdentifiersEnd → (t : IonType) (bytes : List ℕ) → After bytes → EndsNull t bytes
ends-null law type.Null bytes b = (ends-identifier law bytes (AfterSymbol.of_value b), no-point bytes b)
ends-null law type.Bool bytes b = ends-identifier law bytes (AfterSymbol.of_value b)
ends-null law type.Int bytes b = ends-identifier law bytes (AfterSymbol.of_value b)
ends-null law type.Float bytes b = ends-identifier law bytes (AfterSymbol.of_value b)
ends-null law type.Decimal bytes b = ends-identifier law bytes (AfterSymbol.of_value b)
ends-null law type.Timestamp bytes b = ends-identifier law bytes (AfterSymbol.of_value b)
ends-null law type.Symbol bytes b = ends-identifier law bytes (AfterSymbol.of_value b)
ends-null law type.String bytes b = ends-identifier law bytes (AfterSymbol.of_value b)
ends-null law type.Clob bytes b = ends-identifier law bytes (AfterSymbol.of_value b)
ends-null law type.Blob bytes b = ends-identifier law bytes (AfterSymbol.of_value b)
ends-null law type.List bytes b = ends-identifier law bytes (AfterSymbol.of_value b)
ends-null law type.Sexp bytes b = ends-identifier law bytes (AfterSymbol.of_value b)
ends-null law type.Struct bytes b = ends-identifier law bytes (AfterSymbol.of_value b)

-- what ends a number, or a word
pub ends-float : NumbersEnd → IdentifiersEnd → (x : Float) (bytes : List ℕ) → After bytes → EndsFloat x bytes
ends-float numbers words (fin sign m e) bytes b = ends-number numbers bytes b
ends-float numbers words (inf sign) bytes b = ends-identifier words bytes (AfterSymbol.of_value b)
ends-float numbers words nan bytes b = ends-identifier words bytes (AfterSymbol.of_value b)

-- ---- blanks

no-blank : (b : ℕ) (bytes : List ℕ) → is_start b ≡ true → blank_at b bytes ≡ no_blank
no-blank b bytes e =
    let white : is_white b ≡ false = grind (arith, e) in
    let slash : (b == 47) ≡ false = grind (arith, e) in
    rw (white, slash) refl

pub no-blanks : (p : ℕ) (bytes : List ℕ) → starts bytes ≡ true → blanks (at p bytes) ≡ Ok (at p bytes)
unfolding blanks_at
no-blanks p [] e = refl
no-blanks p (b ∷ bytes) e = rw (blanks_at, no-blank b bytes e) refl

white-blank : (b : ℕ) (bytes : List ℕ) → is_white b ≡ true → blank_at b bytes ≡ white
white-blank b bytes w = rw w refl

one-white : (b p : ℕ) (bytes : List ℕ) → is_white b ≡ true → blanks (at p (b ∷ bytes)) ≡ blanks (at (suc p) bytes)
unfolding blanks_at
one-white b p bytes w = rw (blanks_at, white-blank b bytes w) refl

-- bytes that are all that is left after blanks
pub record Blank (c : Cursor) (bytes : List ℕ) : Type 0 where
  pub place : ℕ
  pub blank : blanks c ≡ Ok (at place bytes)

pub gap-blank : (gap : List ℕ) → AreWhite gap → (p : ℕ) (bytes : List ℕ) → starts bytes ≡ true
    → Blank (at p (gap ++ bytes)) bytes
gap-blank [] w p bytes s = record { place = p; blank = no-blanks p bytes s }
gap-blank (b ∷ gap) w p bytes s =
    let more = gap-blank gap (white-others b gap w) (suc p) bytes s in
    record { place = more.place; blank = one-white b p (gap ++ bytes) (white-first b gap w) ∙ more.blank }

-- ---- no two colons come

-- a token, and what is after it
abbrev pub got : Token → Cursor → Result (Token × Cursor) Reason
got t c = Ok (t, c)

pub same-token : (t u : Token) (c d : Cursor) → got t c ≡ got u d → t ≡ u
same-token t u c d e =
    let both : ◌≡◌ {A = Token × Cursor} (t, c) (u, d) = cc e in
    ap (λ (z : Token × Cursor). z.0) both

abbrev other : Token → Bool
other colons = false
other _ = true

other-not : (t : Token) (c d : Cursor) → other t ≡ true → got t c ≡ got colons d → ⊥
other-not t c d is e = false≢true (sym (ap other (same-token t colons c d e)) ∙ is)

bound-other : {A : Type 0} (o : Result A Reason) (f : A → Token) (g : A → Cursor) (d : Cursor) → ((x : A) → other (f x) ≡ true)
    → (o >>= (λ x. got (f x) (g x))) ≡ got colons d → ⊥
bound-other (Ok x) f g d is e = other-not (f x) (g x) d (is x) e
bound-other (Err reason) f g d is e = absurd (cc e)

then-other : (o : Result Token Reason) (c d : Cursor) → ((t : Token) → o ≡ Ok t → other t ≡ true)
    → (o >>= (λ t. got t c)) ≡ got colons d → ⊥
then-other (Ok t) c d is e = other-not t c d (is t refl) e
then-other (Err reason) c d is e = absurd (cc e)

run-other : (run : List ℕ) (o : Result (Scalar SymbolAt) Reason) (t : Token) → scalar_token run o ≡ Ok t → other t ≡ true
run-other run (Ok v) t e = let same : plain v ≡ t = cc e in ap other (sym same)
run-other run (Err reason.Float) t e = let same : float (found_float (float_of_text run)) ≡ t = cc e in ap other (sym same)
run-other run (Err why) t e = absurd (cc e)

null-other : (type : Option IonType) (t : Token) → null_token type ≡ Ok t → other t ≡ true
null-other (Some type) t e = let same : plain (value.null type) ≡ t = cc e in ap other (sym same)
null-other None t e = absurd (cc e)

keyword-other : (k : Option Keyword) (word : List ℕ) (t : Token) → by_keyword k word ≡ Ok t → other t ≡ true
keyword-other (Some (a_null type)) word t e = null-other type t e
keyword-other (Some (a_bool truth)) word t e = let same : plain (value.bool truth) ≡ t = cc e in ap other (sym same)
keyword-other (Some a_nan) word t e = let same : float (Some nan) ≡ t = cc e in ap other (sym same)
keyword-other None word t e =
    let same : name false (if is_id word then value.Id (id_of word) else value.Text word) ≡ t = cc e in
    ap other (sym same)

word-other : (word : List ℕ) (t : Token) → word_token word ≡ Ok t → other t ≡ true
unfolding word_token
word-other word t e = keyword-other (keyword word) word t e

not-colons : (f : First) (b d : Cursor) → (f ≡ two_colons → ⊥) → token_of None f b ≡ got colons d → ⊥
unfolding token_of
not-colons a_run b d none e =
    then-other (run_token (bytes_of in_run b.rest)) _ d (λ t. run-other (bytes_of in_run b.rest) (scalar_of_run (bytes_of in_run b.rest)) t) e
not-colons a_word b d none e = then-other (word_token (word_of b.rest)) _ d (λ t. word-other (word_of b.rest) t) e
not-colons a_quoted b d none e =
    bound-other (text_at symbol_quote None (skip 1 b)) (λ t. name true (value.Text t.0)) (λ t. t.1) d (λ t. refl) e
not-colons a_short b d none e =
    bound-other (text_at (short_quote false) None (skip 1 b)) (λ t. text t.0) (λ t. t.1) d (λ t. refl) e
not-colons a_long b d none e = bound-other (text_at (long_quote false) None (skip 3 b)) (λ t. text t.0) (λ t. t.1) d (λ t. refl) e
not-colons a_lob b d none e = bound-other (lob_at None (skip 2 b)) (λ l. plain l.0) (λ l. l.1) d (λ l. refl) e
not-colons an_operator b d none e = other-not _ _ d refl e
not-colons an_infinity b d none e = other-not _ _ d refl e
not-colons (a_begin k) b d none e = other-not _ _ d refl e
not-colons (an_end k) b d none e = other-not _ _ d refl e
not-colons a_comma b d none e = other-not _ _ d refl e
not-colons a_colon b d none e = other-not _ _ d refl e
not-colons two_colons b d none e = none refl
not-colons no_token b d none e = absurd (cc e)

-- the first byte tells it
first-colon : (sexp : Bool) (b : ℕ) (bytes : List ℕ) → TokenBegins sexp (b ∷ bytes) two_colons → b ≡ 58
first-colon sexp _ _ TokenBegins.colons = refl

cut-other : (p q : ℕ) (d : Cursor) (o : Result (Token × Cursor) Reason) → ((e : Cursor) → o ≡ got colons e → ⊥)
    → (part p o >>= (λ t. Ok (tokens.cut t.0 p t.1))) ≡ Ok (tokens.cut colons q d) → ⊥
cut-other p q d (Ok u) none e =
    let same : tokens.cut u.0 p u.1 ≡ tokens.cut colons q d = cc e in
    let is : u.0 ≡ colons = ap (λ (z : tokens.Cut). z.token) same in
    none u.1 (ap (λ (t : Token). got t u.1) is)
cut-other p q d (Err reason) none e = absurd (cc e)

start-other : WhatBegins → (sexp : Bool) (bytes : List ℕ) → starts bytes ≡ true → first_at sexp bytes ≡ two_colons → ⊥
unfolding first_at
start-other law sexp [] first e = absurd (cc e)
start-other law sexp (b ∷ bytes) first e =
    let begins = (law sexp (b ∷ bytes) two_colons (λ no. absurd (cc no))).0 e in
    let is : b ≡ 58 = first-colon sexp b bytes begins in
    false≢true (subst (λ x. is_start x ≡ true) is first)

no-colons-at : WhatBegins → (sexp : Bool) (c : Cursor) (p : ℕ) (bytes : List ℕ) → blanks c ≡ Ok (at p bytes)
    → starts bytes ≡ true → NoColons sexp c
unfolding next_token
no-colons-at law sexp c p bytes blank first q d tok =
    let e = rw blank at tok in
    cut-other p q d (token_of None (first_at sexp bytes) (at p bytes))
    (λ e. not-colons (first_at sexp bytes) (at p bytes) e (start-other law sexp bytes first)) e

pub no-colons : WhatBegins → (sexp : Bool) (p : ℕ) (bytes : List ℕ) → After bytes → NoColons sexp (at p bytes)
no-colons law sexp p _ (After.at_comma {bytes}) =
    no-colons-at law sexp (at p (44 ∷ bytes)) p (44 ∷ bytes) (no-blanks p (44 ∷ bytes) refl) refl
no-colons law sexp p _ (After.at_list_end {bytes}) =
    no-colons-at law sexp (at p (93 ∷ bytes)) p (93 ∷ bytes) (no-blanks p (93 ∷ bytes) refl) refl
no-colons law sexp p _ (After.at_sexp_end {bytes}) =
    no-colons-at law sexp (at p (41 ∷ bytes)) p (41 ∷ bytes) (no-blanks p (41 ∷ bytes) refl) refl
no-colons law sexp p _ (After.at_struct_end {bytes}) =
    no-colons-at law sexp (at p (125 ∷ bytes)) p (125 ∷ bytes) (no-blanks p (125 ∷ bytes) refl) refl
no-colons law sexp p _ (After.at_white b gap bytes w s) =
    let blank = gap-blank (b ∷ gap) w p bytes s in
    no-colons-at law sexp (at p (b ∷ (gap ++ bytes))) blank.place bytes blank.blank s
