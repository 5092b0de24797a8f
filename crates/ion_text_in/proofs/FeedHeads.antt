-- Strings, symbols and keywords in a lane.
use Rattle.std.proofs.Common.{◌≡◌, ℕ, ◌+◌, ◌-◌, ◌<◌, ◌≤◌, Bool, true, false, not, ◌&&◌, ◌==◌, if◌then◌else◌, List, [], ◌∷◌, ◌++◌, length, take, drop, get_or, Option, Some, None, Result, Ok, refl, sym, ap, subst, ◌∙◌, arith}
use Rattle.std.proofs.lemmas.Bool.{and_parts}
use Rattle.std.proofs.lemmas.List.{length-drop}
use Rattle.ion_meter.specs.Sources.{Cursor, skip}
use Rattle.ion_meter.specs.declared.profile.Rules.{Rules}
use Rattle.ion_meter.specs.declared.fault.Reason.{Reason}
use Rattle.ion_value.specs.declared.ion_type.Kind.{Kind}
use Rattle.ion_value.specs.Digits.{first_is}
use Rattle.ion_value.specs.Name.{begins_with, is_plain, is_simple, is_version}
use Rattle.ion_value.specs.Parts.{part, ◌>>=◌}
use Rattle.ion_value.specs.declared.plain_item.TextAt.{TextAt}
use Rattle.ion_value.specs.PlainItems.{placed_text, IsKnownOrZero, IsPlainScalar}
use Rattle.ion_value.specs.Reading.{More}
use Rattle.ion_value.specs.Standing.{InRange}
use Rattle.ion_value.specs.Value as value
use Rattle.ion_value.specs.Value.{Scalar, Symbol, SymbolAt}
use Rattle.ion_text_in.specs.Blanks.{blanks}
use Rattle.ion_text_in.specs.declared.feed.spot.Next.{Next}
use Rattle.ion_text_in.specs.declared.feed.texts.Between.{Between}
use Rattle.ion_text_in.specs.declared.quoted.Quote.{Quote as CodeQuote}
use Rattle.ion_text_in.specs.declared.quoted.Quote.TheVariants as quotes
use Rattle.ion_text_in.specs.declared.scanned.Scanned.TheVariants.{Whole}
use Rattle.ion_text_in.specs.declared.word.Word.{Word}
use Rattle.ion_text_in.specs.Feeding.{item_in, state, Begins, BeginsAs, BeginsText, IsAfter, IsBetween, IsHead, IsHeadAs, IsNext, IsSimpleWord}
use Rattle.ion_text_in.specs.Firsts.{numbered}
use Rattle.ion_text_in.specs.Meaning.{at}
use Rattle.ion_text_in.specs.Positions as positions
use Rattle.ion_text_in.specs.Positions.{a_value, in_sexp, innermost}
use Rattle.ion_text_in.specs.Quoted.{Quote, short_quote, symbol_quote, text_at}
use Rattle.ion_text_in.specs.Quotes.{quote_of}
use Rattle.ion_text_in.specs.Reading.{take as taken, after_colons, after_member, colons_at, colons_after, symbol_step, tells_version, top_of, value_or_version}
use Rattle.ion_text_in.specs.Scanners.{Shows}
use Rattle.ion_text_in.specs.Steps.{comes, later}
use Rattle.ion_text_in.specs.Token as tokens
use Rattle.ion_text_in.specs.Token.{First, Token, first_at, token_of}
use Rattle.ion_text_in.specs.Views.{word_token_of}
use Rattle.ion_text_in.proofs.BlankTurns.{no-slash}
use Rattle.ion_text_in.proofs.FeedNames.{dollar-version, may-quoted, may-string, name-token, string-names, symbol-names, IsName}
use Rattle.ion_text_in.proofs.FeedReading.{after-then, head-token, mark-after, plain-taken, some-after, token-front, IsToken}
use Rattle.ion_text_in.proofs.FirstTokens.{no-colons}
use Rattle.ion_text_in.proofs.ShownFurther.{shown-some}

-- ---- scalars that are no text and no symbol

-- a null or a bool, as the code reads it of a word
pub head-keyword : {limits : Rules} {place n : ℕ} {x known : Word} {body : Scalar SymbolAt} {bytes rest : List ℕ} → x ≡ known → word_token_of (take n bytes) known ≡ tokens.plain body → IsPlainScalar body → InRange body
    → rest ≡ drop n bytes → Shows (word_token_of (take n bytes)) bytes (Whole x n) (token_of (Some limits.scalar) tokens.a_word) → BeginsAs tokens.a_word bytes → IsHead limits place bytes (value.whole body) rest
head-keyword {limits} {place} {n} {x} {body} {bytes} {rest} is says known range after shows begins =
    let counts = shown-some (word_token_of (take n bytes)) bytes x n (Some limits.scalar) tokens.a_word shows begins.some in
    let token = ap (λ (w : Word). word_token_of (take n bytes) w) is ∙ says in
    head-token body body known range (token-front after (omega (arith, counts)) shows.0 (λ place more. shows.1 place more ∙ ap (λ (t : Token). Ok (t, at (place + n) (drop n bytes ++ more))) token) begins)
    (λ kinds top q field annotations more. plain-taken limits kinds top place q field annotations body (rest ++ more))

-- ---- texts between quotes

text-taken : (limits : Rules) (kinds : List Kind) (top place q : ℕ) (field : Option SymbolAt) (annotations : List SymbolAt) (bytes rest : List ℕ)
    → comes limits (taken limits kinds top (a_value field annotations) place (tokens.text bytes) (at q rest))
    ≡ More (item_in kinds top field annotations place (value.whole (value.string bytes))) (later limits (state kinds (top_of kinds top annotations place) (after_member (innermost kinds)) q rest))
unfolding taken
text-taken limits kinds top place q field annotations bytes rest = refl

short-token : (limit : Option ℕ) (c d : Cursor) (bytes : List ℕ) → text_at (short_quote false) limit (skip 1 c) ≡ Ok (bytes, d) → token_of limit tokens.a_short c ≡ Ok (tokens.text bytes, d)
unfolding token_of
short-token limit c d bytes e = ap (λ (o : Result (List ℕ × Cursor) Reason). o >>= (λ t. Ok (tokens.text t.0, t.1))) e

quoted-token : (limit : Option ℕ) (c d : Cursor) (bytes : List ℕ) → text_at symbol_quote limit (skip 1 c) ≡ Ok (bytes, d) → token_of limit tokens.a_quoted c ≡ Ok (tokens.name true (value.Text bytes), d)
unfolding token_of
quoted-token limit c d bytes e = ap (λ (o : Result (List ℕ × Cursor) Reason). o >>= (λ t. Ok (tokens.name true (value.Text t.0), t.1))) e

-- such a text, as the code finds it after the first quote
pub is-between : {quote : Quote} {limit : ℕ} {bytes inside : List ℕ} {found : Between} (plain count : ℕ) → inside ≡ drop 1 bytes → found.text.now ≡ take plain inside → found.rest.now ≡ drop count inside
    → Shows (λ n. take n inside) inside (Whole plain count) (λ c. text_at quote (Some limit) c) → 0 < length bytes → IsBetween quote limit bytes found
is-between {quote} {limit} {bytes} {inside} {found} plain count within_it text after shows some =
    let rest = found.rest.now in
    let one = length-drop 1 bytes in
    let inside_long = ap (λ (l : List ℕ). length l) within_it in
    let long = length-drop count inside in
    let rest_long = ap (λ (l : List ℕ). length l) after in
    let within = shows.0 in
    record {
      part = after-then bytes inside rest (subst (λ (l : List ℕ). IsAfter bytes l) (sym within_it) (some-after bytes 1 (omega (arith, some))))
          (subst (λ (l : List ℕ). IsAfter inside l) (sym after) (some-after inside count within));
      fewer = omega (arith, one, inside_long, long, rest_long, within, some);
      shown = λ place q more e.
          let q_is : (place + 1) + count ≡ q = omega (arith, e, one, inside_long, long, rest_long, within, some) in
          ap (λ (c : Cursor). text_at quote (Some limit) c) (mark-after bytes more place (place + 1) some (omega (arith, one, some)) ∙ ap (λ (l : List ℕ). at (place + 1) (l ++ more)) (sym within_it))
          ∙ (shows.1 (place + 1) more
          ∙ (ap (λ (k : ℕ). Ok (take plain inside, at k (drop count inside ++ more))) q_is
          ∙ (ap (λ (l : List ℕ). Ok (take plain inside, at q (l ++ more))) (sym after) ∙ ap (λ (l : List ℕ). Ok (l, at q (rest ++ more))) (sym text))));
    }

pub token-short : {limit place : ℕ} {bytes : List ℕ} {found : Between} → IsBetween (short_quote false) limit bytes found → BeginsAs tokens.a_short bytes → IsToken limit tokens.a_short (tokens.text found.text.now) place bytes found.rest.now
token-short {limit} {place} {bytes} {found} is begins = record {
  part = is.part;
  fewer = is.fewer;
  begins = begins;
  shown = λ q more e. short-token (Some limit) (at place (bytes ++ more)) (at q (found.rest.now ++ more)) found.text.now (is.shown place q more e);
}

pub token-quoted : {limit place : ℕ} {bytes : List ℕ} {found : Between} → IsBetween symbol_quote limit bytes found → BeginsAs tokens.a_quoted bytes
    → IsToken limit tokens.a_quoted (tokens.name true (value.Text found.text.now)) place bytes found.rest.now
token-quoted {limit} {place} {bytes} {found} is begins = record {
  part = is.part;
  fewer = is.fewer;
  begins = begins;
  shown = λ q more e. quoted-token (Some limit) (at place (bytes ++ more)) (at q (found.rest.now ++ more)) found.text.now (is.shown place q more e);
}

pub head-string : {limits : Rules} {place : ℕ} {bytes : List ℕ} {found : Between} → IsBetween (short_quote false) limits.scalar bytes found → BeginsAs tokens.a_short bytes
    → IsHead limits place bytes (value.whole (value.string found.text.now)) found.rest.now
head-string {limits} {place} {bytes} {found} is begins =
    head-token (value.string found.text.now) (value.string found.text.now) tt tt (token-short is begins) (λ kinds top q field annotations more. text-taken limits kinds top place q field annotations found.text.now (found.rest.now ++ more))

-- what a byte tells of a token
pub told-begins : {next : Next} {n : ℕ} → Begins next → 0 < n → next.told ≡ n → BeginsAs (numbered n) next.rest.now
told-begins begins some told = record { bare = begins.bare; some = begins.some; first = λ sexp more. begins.tells (omega (arith, some, told)) sexp more ∙ ap numbered told }

-- ---- symbols

not-told : (b : Bool) → not b ≡ true → b ≡ false
not-told true e = absurd (cc e)
not-told false e = refl

-- a simple text begins with no dollar sign
pub simple-free : (word : List ℕ) → is_simple word ≡ true → first_is (λ b. b == 36) word ≡ false
simple-free word simple = not-told (first_is (λ b. b == 36) word) (and_parts (is_plain word) (not (first_is (λ b. b == 36) word)) simple).1

no-version : (word : List ℕ) → first_is (λ b. b == 36) word ≡ false → is_version word ≡ false
no-version [] e = refl
no-version (b ∷ word) e = dollar-version b word e

no-marker : (k : Option Kind) (annotations : List SymbolAt) (word : List ℕ) → is_version word ≡ false → tells_version k annotations false (value.Text word) ≡ false
unfolding tells_version
no-marker None [] word e = e
no-marker None (a ∷ annotations) word e = refl
no-marker (Some k) annotations word e = refl

-- one in quotes is none
pub quoted-marker : (k : Option Kind) (annotations : List SymbolAt) (word : List ℕ) → tells_version k annotations true (value.Text word) ≡ false
unfolding tells_version
quoted-marker None [] word = refl
quoted-marker None (a ∷ annotations) word = refl
quoted-marker (Some k) annotations word = refl

name-taken : (limits : Rules) (kinds : List Kind) (top place q : ℕ) (field : Option SymbolAt) (annotations : List SymbolAt) (quoted : Bool) (symbol : Symbol) (rest : List ℕ)
    → after_colons (in_sexp (innermost kinds)) (at q rest) ≡ None → tells_version (innermost kinds) annotations quoted symbol ≡ false
    → comes limits (taken limits kinds top (a_value field annotations) place (tokens.name quoted symbol) (at q rest))
    ≡ More (item_in kinds top field annotations place (value.whole (value.symbol (positions.at symbol place)))) (later limits (state kinds (top_of kinds top annotations place) (after_member (innermost kinds)) q rest))
unfolding taken
name-taken limits kinds top place q field annotations quoted symbol rest none told =
    let c = at q rest in
    ap (λ (o : Option Cursor). comes limits (part place (symbol_step limits kinds top field annotations quoted (positions.at symbol place) c o))) none
    ∙ ap (λ (b : Bool). comes limits (part place (value_or_version kinds top field annotations (positions.at symbol place) c b))) told

-- a token that is told is no two colons
told-none : (sexp : Bool) (q : ℕ) (rest more : List ℕ) (next : Next) → IsNext rest next → 0 < next.told → after_colons sexp (at q (rest ++ more)) ≡ None
told-none sexp q rest more next is told =
    let passes = is.passes (is.some told) in
    let fewer = passes.fewer in
    let next_place : ℕ = q + (length rest - length next.rest.now) in
    ap (colons_after sexp) (passes.blank q next_place more (omega (arith, fewer)))
    ∙ (ap (λ (f : First). colons_at f (at next_place (next.rest.now ++ more))) (is.tells told sexp more) ∙ no-colons next.told (at next_place (next.rest.now ++ more)))

-- a symbol, which is read as `symbol` and seen as `seen`, after which such a token is told
pub head-word : {limits : Rules} {place : ℕ} {first : First} {bytes rest : List ℕ} (quoted : Bool) (symbol seen : Symbol) (next : Next) → IsToken limits.scalar first (tokens.name quoted symbol) place bytes rest
    → IsKnownOrZero seen → ((k : Option Kind) (annotations : List SymbolAt) → tells_version k annotations quoted symbol ≡ false) → IsNext rest next → (next.told ≡ 0 → ⊥)
    → IsHeadAs (value.whole (value.symbol (positions.at symbol place))) limits place bytes (value.whole (value.symbol (positions.at seen place))) rest
head-word {limits} {place} {first} {bytes} {rest} quoted symbol seen next is known version after told =
    let some : 0 < next.told = omega (arith, told) in
    head-token (value.symbol (positions.at symbol place)) (value.symbol (positions.at seen place)) known tt is
    (λ kinds top q field annotations more.
    name-taken limits kinds top place q field annotations quoted symbol (rest ++ more) (told-none (in_sexp (innermost kinds)) q rest more next after some) (version (innermost kinds) annotations))

pub token-word : {limit place n : ℕ} {bytes rest : List ℕ} → rest ≡ drop n bytes → IsSimpleWord limit bytes n → BeginsAs tokens.a_word bytes
    → IsToken limit tokens.a_word (tokens.name false (value.Text (take n bytes))) place bytes rest
token-word after word begins = token-front after word.some word.within word.shown begins

pub word-marker : {limit n : ℕ} {bytes : List ℕ} → IsSimpleWord limit bytes n → (k : Option Kind) (annotations : List SymbolAt) → tells_version k annotations false (value.Text (take n bytes)) ≡ false
word-marker {limit} {n} {bytes} word k annotations = no-marker k annotations (take n bytes) (no-version (take n bytes) (simple-free (take n bytes) word.simple))

-- ---- symbols in quotes

one-quote : (sexp : Bool) (x : ℕ) (bytes : List ℕ) → (39 == x) ≡ false → first_at sexp (39 ∷ x ∷ bytes) ≡ tokens.a_quoted
unfolding first_at
one-quote sexp x bytes other = ap (λ (b : Bool). if b && begins_with (39 ∷ []) bytes then tokens.a_long else tokens.a_quoted) other

other-quote : (b : ℕ) → (b == 39) ≡ false → (39 == b) ≡ false
other-quote b e = grind (arith, e)

-- a quote begins one where no quote follows
pub quote-begins : (bytes : List ℕ) → 2 ≤ length bytes → get_or bytes 0 0 ≡ 39 → not (get_or bytes 1 0 == 39) ≡ true → BeginsAs tokens.a_quoted bytes
quote-begins [] two first other = absurd (omega (arith, two))
quote-begins (a ∷ []) two first other = absurd (omega (arith, two))
quote-begins (a ∷ b ∷ bytes) two first other = record {
  bare = λ p more. ap (λ (x : ℕ). blanks (at p (x ∷ b ∷ (bytes ++ more)))) first ∙ (no-slash p 39 (b ∷ (bytes ++ more)) refl refl ∙ ap (λ (x : ℕ). Ok (at p (x ∷ b ∷ (bytes ++ more)))) (sym first));
  some = omega arith;
  first = λ sexp more. ap (λ (x : ℕ). first_at sexp (x ∷ b ∷ (bytes ++ more))) first ∙ one-quote sexp b (bytes ++ more) (other-quote b (not-told (b == 39) other));
}

-- ---- texts that name fields

pub name-between : {limits : Rules} {place : ℕ} {bytes : List ℕ} {found : Between} (name : TextAt) (quote : CodeQuote) → name.place ≡ place → name.text.now ≡ found.text.now
    → IsBetween (quote_of quote) limits.scalar bytes found → BeginsText quote bytes → IsName limits place bytes (placed_text name) found.rest.now × (0 < length bytes)
name-between {limits} {place} {found} name quotes.Symbol here text is begins =
    (name-token (token-quoted is begins) may-quoted (symbol-names limits place true name found.text.now here text), begins.some)
name-between {limits} {place} {found} name quotes.Short here text is begins =
    (name-token (token-short is begins) may-string (string-names limits place name found.text.now here text), begins.some)
name-between name quotes.ShortClob here text is begins = absurd begins
name-between name quotes.Long here text is begins = absurd begins
name-between name quotes.LongClob here text is begins = absurd begins
