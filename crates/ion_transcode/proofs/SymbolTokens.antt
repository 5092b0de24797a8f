-- The text of each scalar and symbol is a token, wherever it stands before what may stand after a value.
use Rattle.std.proofs.Common.{◌≡◌, ℕ, ◌+◌, ◌≤◌, inl, inr, Bool, true, false, not, ◌&&◌, if◌then◌else◌, List, [], ◌∷◌, ◌++◌, length, codes, Option, None, Ok, IsUtf8, is_none, refl, ap, sym, ◌∙◌, subst, arith}
use Rattle.std.specs.List.{AllByRecursion, flat_map}
use Rattle.std.proofs.lemmas.Bool.{false≢true, cases_Bool, and_parts, not-true}
use Rattle.std.proofs.lemmas.Bool.Decides.{nat_tests}
use Rattle.std.proofs.lemmas.Str.{is_utf8-from_IsUtf8}
use Rattle.ion_meter.specs.declared.profile.Rules.{Rules}
use Rattle.ion_meter.specs.Sources.{Cursor}
use Rattle.ion_value.specs.declared.ion_type.Kind.{Kind}
use Rattle.ion_value.specs.Name.{is_one_of, is_plain, is_identifier, is_id, is_version, keyword}
use Rattle.ion_value.specs.Value.{Symbol, Text, Id, SymbolAt, UserSymbol, Known, Unknown}
use Rattle.ion_symbols.specs.Laws.{SymbolStands}
use Rattle.ion_symbols.specs.Table.{Table, system}
use Rattle.ion_symbols.specs.Tree.{user_at}
use Rattle.ion_value.specs.Writable.{IsText, AreBytes}
use Rattle.ion_text_in.specs.Beginnings.{EndsIdentifier, NumbersEnd, IdentifiersEnd, WhatBegins, IsOneOf}
use Rattle.ion_text_in.specs.Grammar.{IsVersionWord, bare}
use Rattle.ion_text_in.specs.Meaning.{at, counts, Means, EndsSymbol, Chars, quoted, NullTextIsRead, BoolTextIsRead, PlainSymbolIsRead, IdWordIsRead, IntTextIsRead, DecimalTextIsRead, FloatTextIsRead, TimestampTextIsRead, StringTextIsRead, QuotedSymbolIsRead, ClobTextIsRead, Base64IsRead}
use Rattle.ion_text_in.specs.Positions as positions
use Rattle.ion_text_in.specs.Reading as reading
use Rattle.ion_text_in.specs.Token.{First, a_run, a_word, a_quoted, a_short, a_long, a_lob, an_operator, an_infinity, a_begin, an_end, a_comma, a_colon, two_colons, no_token, first_at, Token, plain, float, name, text, colon, colons, token_of, token_at}
use Rattle.ion_text_in.proofs.NumberEnds.{one_of-is}
use Rattle.ion_text_out.specs.Escape.{byte_text, between_quotes}
use Rattle.ion_text_out.specs.Text.{symbol_text}
use Rattle.ion_transcode.specs.ShownAgain.{SymbolFits, cost}
use Rattle.ion_transcode.proofs.AfterValues.{got, same-token, is_start, starts, AfterSymbol, ends-identifier, no-quote}
use Rattle.ion_transcode.proofs.Utf8Bytes.{utf8-bytes}
use Rattle.ion_transcode.proofs.QuotedBytes.{Quotes, chars-are}

-- what the reading of text has by its laws
pub record TextLaws : Type 0 where
  pub numbers_end : NumbersEnd
  pub identifiers_end : IdentifiersEnd
  pub begins : WhatBegins
  pub nulls : NullTextIsRead
  pub bools : BoolTextIsRead
  pub ints : IntTextIsRead
  pub decimals : DecimalTextIsRead
  pub floats : FloatTextIsRead
  pub timestamps : TimestampTextIsRead
  pub strings : StringTextIsRead
  pub quoted_symbols : QuotedSymbolIsRead
  pub plain_symbols : PlainSymbolIsRead
  pub ids : IdWordIsRead
  pub clobs : ClobTextIsRead
  pub blobs : Base64IsRead

-- ---- a token that is no punctuation begins with no blank and no colon

abbrev quiet : First → Bool
quiet no_token = true
quiet a_colon = true
quiet two_colons = true
quiet _ = false

abbrev quiets : List ℕ
quiets = 32 ∷ 9 ∷ 10 ∷ 11 ∷ 12 ∷ 13 ∷ 47 ∷ 224 ∷ 58 ∷ []

no-start : (b : ℕ) → is_start b ≡ false → is_one_of quiets b ≡ true
no-start b e = grind (arith, nat_tests)

abbrev BeginsQuiet : ℕ → Type 0
BeginsQuiet b = (bytes : List ℕ) → quiet (first_at false (b ∷ bytes)) ≡ true

colon-quiet : (two : Bool) → quiet (if two then two_colons else a_colon) ≡ true
colon-quiet true = refl
colon-quiet false = refl

quiets-begin : AllByRecursion BeginsQuiet quiets
unfolding first_at
quiets-begin =
    let last : AllByRecursion BeginsQuiet (224 ∷ 58 ∷ []) = (λ bytes. refl, (λ bytes. colon-quiet _, tt)) in
    let other : AllByRecursion BeginsQuiet (47 ∷ 224 ∷ 58 ∷ []) = (λ bytes. refl, last) in
    (λ bytes. refl, (λ bytes. refl, (λ bytes. refl, (λ bytes. refl, (λ bytes. refl, (λ bytes. refl, other))))))

each-of : (P : ℕ → Type 0) (bytes : List ℕ) (b : ℕ) → AllByRecursion P bytes → IsOneOf bytes b → P b
each-of P _ _ all IsOneOf.first = all.0
each-of P _ b all (IsOneOf.other is) = each-of P _ b all.1 is

-- a token that is a value, a symbol or a text
abbrev pub speaks : Token → Bool
speaks (plain body) = true
speaks (float number) = true
speaks (name quoted symbol) = true
speaks (text bytes) = true
speaks _ = false

mark-speaks : (u t : Token) (c d : Cursor) → speaks u ≡ false → speaks t ≡ true → got u c ≡ got t d → ⊥
mark-speaks u t c d none some e = false≢true (sym none ∙ (ap speaks (same-token u t c d e) ∙ some))

quiet-speaks : (f : First) (c d : Cursor) (t : Token) → quiet f ≡ true → speaks t ≡ true → token_of None f c ≡ got t d → ⊥
unfolding token_of
quiet-speaks no_token c d t q s e = absurd (cc e)
quiet-speaks a_colon c d t q s e = mark-speaks colon t _ d refl s e
quiet-speaks two_colons c d t q s e = mark-speaks colons t _ d refl s e
quiet-speaks a_run c d t q s e = false≢true q
quiet-speaks a_word c d t q s e = false≢true q
quiet-speaks a_quoted c d t q s e = false≢true q
quiet-speaks a_short c d t q s e = false≢true q
quiet-speaks a_long c d t q s e = false≢true q
quiet-speaks a_lob c d t q s e = false≢true q
quiet-speaks an_operator c d t q s e = false≢true q
quiet-speaks an_infinity c d t q s e = false≢true q
quiet-speaks (a_begin k) c d t q s e = false≢true q
quiet-speaks (an_end k) c d t q s e = false≢true q
quiet-speaks a_comma c d t q s e = false≢true q

pub token-starts : (t : Token) (p : ℕ) (bytes : List ℕ) (d : Cursor) → speaks t ≡ true
    → token_at None false (at p bytes) ≡ got t d → starts bytes ≡ true
token-starts t p [] d s e = refl
token-starts t p (b ∷ bytes) d s e = elim (cases_Bool (is_start b)) [
  | inl is ↦ is
  | inr none ↦
      let begins = each-of BeginsQuiet quiets b quiets-begin (one_of-is quiets b (no-start b none)) bytes in
      absurd (quiet-speaks (first_at false (b ∷ bytes)) (at p (b ∷ bytes)) d t begins s e)
]

-- ---- tokens that stand before what may stand after them

-- a text is read as a token that is a value, a symbol or a text, from any place on
pub record IsToken (After : List ℕ → Type 0) (bytes : List ℕ) (t : Token) : Type 0 where
  pub speaks : speaks t ≡ true
  pub read : (sexp : Bool) (place : ℕ) (rest : List ℕ) → After rest
      → token_at None sexp (at place (bytes ++ rest)) ≡ Ok (t, at (place + length bytes) rest)

pub means-token : (count : ℕ) (Ends After : List ℕ → Type 0) (bytes : List ℕ) (t : Token) → speaks t ≡ true
    → ((rest : List ℕ) → After rest → Ends rest) → Means count Ends bytes t → IsToken After bytes t
means-token count Ends After bytes t s ends means =
    record { speaks = s; read = λ sexp place rest after. means None sexp place rest tt (ends rest after) }

pub token-begins : (After : List ℕ → Type 0) (bytes : List ℕ) (t : Token) → IsToken After bytes t → (rest : List ℕ) → After rest
    → starts (bytes ++ rest) ≡ true
token-begins After bytes t is rest after = token-starts t 0 (bytes ++ rest) _ is.speaks (is.read false 0 rest after)

-- ---- symbols

-- the text of a symbol is a symbol's token, which is that symbol under every table, costs what the symbol does, and counts no
-- more than limits allow that the symbol fits
pub record SymbolIs (s : UserSymbol) : Type 0 where
  pub quoted : Bool
  pub symbol : Symbol
  pub token : IsToken AfterSymbol (symbol_text s) (name quoted symbol)
  pub user : (t : Table) (place : ℕ) → user_at t (positions.at symbol place) ≡ s
  pub no_version : (k : Option Kind) (annotations : List SymbolAt) → IsVersionWord k annotations quoted symbol → ⊥
  pub stands : SymbolStands system symbol
  pub costs : (place : ℕ) → reading.cost (positions.at symbol place) ≡ cost s
  pub counted : (limits : Rules) → 64 ≤ limits.scalar → SymbolFits limits s → (p : ℕ)
      → counts (name quoted symbol) p (p + length (symbol_text s)) ≤ limits.scalar

in-quotes : (s : List ℕ) → AreBytes s → Chars 39 false (flat_map (byte_text 39 256) s) s
in-quotes s small = chars-are 39 false s Quotes.single small

quoted-token : TextLaws → (s : List ℕ) → IsUtf8 s → AreBytes s
    → IsToken AfterSymbol (between_quotes 39 256 s) (name true (Text s))
quoted-token laws s utf8 small =
    means-token _ (EndsSymbol s) AfterSymbol _ _ refl (λ rest after e. no-quote rest after)
    (laws.quoted_symbols (flat_map (byte_text 39 256) s) s (in-quotes s small) (is_utf8-from_IsUtf8 s utf8))

plain-token : TextLaws → (s : List ℕ) → is_plain s ≡ true → IsToken AfterSymbol s (name false (Text s))
plain-token laws s is =
    means-token _ EndsIdentifier AfterSymbol _ _ refl (λ rest after. ends-identifier laws.identifiers_end rest after)
    (laws.plain_symbols s is)

plain-version : (s : List ℕ) → is_plain s ≡ true → is_version s ≡ false
plain-version s is =
    not-true (is_version s) (and_parts (is_identifier s && is_none (keyword s) && not (is_id s)) (not (is_version s)) is).1

no-quoted-version : (k : Option Kind) (annotations : List SymbolAt) (symbol : Symbol)
    → IsVersionWord k annotations true symbol → ⊥
no-quoted-version _ _ _ v = elim v [ ]

known-by : TextLaws → (s : List ℕ) → IsUtf8 s → AreBytes s → (b : Bool) → is_plain s ≡ b → (f : List ℕ)
    → f ≡ (if b then s else between_quotes 39 256 s) → symbol_text (Known s) ≡ f → SymbolIs (Known s)
known-by laws s utf8 small true is f e g = record {
  quoted = false;
  symbol = Text s;
  token = subst (λ (x : List ℕ). IsToken AfterSymbol x (name false (Text s))) (sym (g ∙ e)) (plain-token laws s is);
  user = λ t place. refl;
  no_version = λ k annotations v. version k annotations v;
  stands = tt;
  costs = λ place. refl;
  counted = λ limits wide fits p. let same = ap (λ (xs : List ℕ). length xs) (g ∙ e) in omega (arith, fits, same);
}
  where
    version : (k : Option Kind) (annotations : List SymbolAt) → IsVersionWord k annotations false (Text s) → ⊥
    version _ _ (bare so) = false≢true (sym (plain-version s is) ∙ so)
known-by laws s utf8 small false is f e g = record {
  quoted = true;
  symbol = Text s;
  token = subst (λ (x : List ℕ). IsToken AfterSymbol x (name true (Text s))) (sym (g ∙ e)) (quoted-token laws s utf8 small);
  user = λ t place. refl;
  no_version = λ k annotations v. no-quoted-version k annotations (Text s) v;
  stands = tt;
  costs = λ place. refl;
  counted = λ limits wide fits p. fits;
}

known-is : TextLaws → (s : List ℕ) → IsUtf8 s → AreBytes s → SymbolIs (Known s)
known-is laws s utf8 small = known-by laws s utf8 small (is_plain s) refl _ refl refl

-- a symbol that has no text is the id 0
unknown-is : TextLaws → SymbolIs Unknown
unknown-is laws = record {
  quoted = false;
  symbol = Id 0;
  token = means-token _ EndsIdentifier AfterSymbol _ _ refl (λ rest after. ends-identifier laws.identifiers_end rest after)
      (laws.ids (codes "$0") refl);
  user = λ t place. refl;
  no_version = λ k annotations v. none k annotations v;
  stands = tt;
  costs = λ place. refl;
  counted = λ limits wide fits p. omega (arith, wide);
}
  where
    none : (k : Option Kind) (annotations : List SymbolAt) → IsVersionWord k annotations false (Id 0) → ⊥
    none _ _ v = elim v [ ]

pub symbol-is : TextLaws → (s : UserSymbol) → IsText s → SymbolIs s
symbol-is laws (Known s) utf8 = known-is laws s utf8 (utf8-bytes s utf8)
symbol-is laws Unknown utf8 = unknown-is laws
