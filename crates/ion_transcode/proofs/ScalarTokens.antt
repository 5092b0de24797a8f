-- The text of each scalar is a token that means it.
use Rattle.std.proofs.Common.{◌≡◌, ℕ, suc, ◌+◌, ◌*◌, ◌/◌, ◌%◌, ◌-◌, zero, replicate, slice_index, ◌<◌, ◌≤◌, true, false, List, [], ◌∷◌, Some, All, length, refl, ap, ◌∙◌, arith}
use Rattle.std.specs.List.{AllByRecursion, flat_map}
use Rattle.std.proofs.lemmas.Str.{is_utf8-from_IsUtf8}
use Rattle.std.proofs.lemmas.Bool.{agree_below_at}
use Rattle.std.proofs.lemmas.List.Elements.{All-nil, All-cons}
use lib.Ieee.{Float}
use Rattle.base64.specs.Rfc4648.{encode_symbols, padding_len}
use Rattle.base64.specs.Engines.{standard}
use Rattle.base64.specs.GeneralPurpose.{encode_of}
use Rattle.ion_meter.specs.declared.profile.Rules.{Rules}
use Rattle.ion_value.specs.FloatText.{float_text}
use Rattle.ion_value.specs.Standing.{InRange}
use Rattle.ion_value.specs.Value as value
use Rattle.ion_value.specs.Value.{SymbolAt, UserSymbol, Scalar, map_scalar}
use Rattle.ion_symbols.specs.Laws.{ScalarStands}
use Rattle.ion_symbols.specs.Table.{Table, system}
use Rattle.ion_symbols.specs.Tree.{user_at}
use Rattle.ion_value.specs.Writable.{scalar_symbols, HasText, IsText, AreBytes, HasBytes}
use Rattle.ion_text_in.specs.Blanks.{is_white}
use Rattle.ion_text_in.specs.Beginnings.{EndsIdentifier, EndsNumber}
use Rattle.ion_text_in.specs.Meaning.{Anything, counts, EndsNull, Means, solid}
use Rattle.ion_text_in.specs.Token.{plain, float, text}
use Rattle.ion_text_out.specs.Escape.{byte_text}
use Rattle.ion_text_out.specs.Text.{scalar_text}
use Rattle.ion_transcode.specs.ShownAgain.{ScalarFits}
use Rattle.ion_transcode.proofs.AfterValues.{After, AfterSymbol, ends-number, ends-identifier, ends-null, ends-float}
use Rattle.ion_transcode.proofs.QuotedBytes.{Quotes, chars-are}
use Rattle.ion_transcode.proofs.ShortTexts.{null-short, bool-short, int-short, decimal-short, float-short, timestamp-short}
use Rattle.ion_transcode.proofs.SymbolTokens.{TextLaws, IsToken, means-token, SymbolIs, symbol-is}
use Rattle.ion_transcode.proofs.Utf8Bytes.{utf8-bytes, all-append}

-- the token of a scalar counts no more than limits allow that the scalar fits
abbrev Counted : Scalar UserSymbol → Scalar SymbolAt → Type 0
Counted body raw =
    (limits : Rules) → 64 ≤ limits.scalar → ScalarFits limits body → (p : ℕ)
    → counts (plain raw) p (p + length (scalar_text body)) ≤ limits.scalar

-- so is that of a float
abbrev FloatCounted : Float → Type 0
FloatCounted x =
    (limits : Rules) → 64 ≤ limits.scalar → (p : ℕ) → counts (float (Some x)) p (p + length (float_text x)) ≤ limits.scalar

-- what a scalar's text is in the grammar: the token of a plain value, a float, a string, or a symbol
pub data ScalarIs : Scalar UserSymbol → Type 0 where
  a_plain : {body : Scalar UserSymbol} (raw : Scalar SymbolAt) → IsToken After (scalar_text body) (plain raw)
      → ((t : Table) → map_scalar (user_at t) raw ≡ body) → ScalarStands system raw → Counted body raw → ScalarIs body
  a_float : (x : Float) → IsToken After (float_text x) (float (Some x)) → FloatCounted x → ScalarIs (value.float x)
  a_string : (bytes : List ℕ) → IsToken After (scalar_text (value.string bytes)) (text bytes) → ScalarIs (value.string bytes)
  a_symbol : (s : UserSymbol) → SymbolIs s → ScalarIs (value.symbol s)

after-anything : (rest : List ℕ) → After rest → Anything rest
after-anything rest b = tt

-- ---- base64 has no white space

abbrev Dark : List ℕ → Type 0
Dark xs = AllByRecursion (λ b. is_white b ≡ false) xs

solid-dark : (xs : List ℕ) → Dark xs → solid xs ≡ xs
solid-dark [] h = refl
solid-dark (b ∷ xs) h =
    let dark : is_white b ≡ false = h.0 in
    let one : solid (b ∷ xs) ≡ b ∷ solid xs = simp dark refl in
    one ∙ ap (λ (l : List ℕ). b ∷ l) (solid-dark xs h.1)

code-dark : (i : ℕ) → i < 64 → is_white (slice_index standard.encode_table i) ≡ false
code-dark i small = agree_below_at (λ n. is_white (slice_index standard.encode_table n)) (λ n. false) 64 i refl small

symbols-dark : (bytes : List ℕ) → AreBytes bytes → Dark (encode_symbols standard.encode_table bytes)
unfolding encode_symbols
symbols-dark [] h = tt
symbols-dark (a ∷ []) h = (code-dark (a / 4) (omega (arith, h.0)), (code-dark (a % 4 * 16) (omega arith), tt))
symbols-dark (a ∷ b ∷ []) h = (
  code-dark (a / 4) (omega (arith, h.0)),
  (
    code-dark (a % 4 * 16 + b / 16) (omega (arith, h.1.0)),
    (code-dark (b % 16 * 4) (omega arith), tt),
  ),
)
symbols-dark (a ∷ b ∷ c ∷ rest) h = (
  code-dark (a / 4) (omega (arith, h.0)),
  (
    code-dark (a % 4 * 16 + b / 16) (omega (arith, h.1.0)),
    (code-dark (b % 16 * 4 + c / 64) (omega (arith, h.1.1.0)), (code-dark (c % 64) (omega arith), symbols-dark rest h.1.1.1)),
  ),
)

padding-dark : (n : ℕ) → Dark (replicate n 61)
padding-dark zero = tt
padding-dark (suc n) = (refl, padding-dark n)

solid-code : (bytes : List ℕ) → AreBytes bytes → solid (encode_of standard bytes) ≡ encode_of standard bytes
solid-code bytes h =
    let symbols = symbols-dark bytes h in
    let padding = padding-dark (padding_len (length bytes)) in
    solid-dark _ (all-append (λ b. is_white b ≡ false) (encode_symbols standard.encode_table bytes) _ symbols padding)

all-from : (bytes : List ℕ) → AreBytes bytes → All (λ octet. octet < 256) bytes
all-from [] h = All-nil (λ octet. octet < 256)
all-from (b ∷ bytes) h = All-cons (λ octet. octet < 256) b bytes h.0 (all-from bytes h.1)

plain-is : (body : Scalar UserSymbol) (raw : Scalar SymbolAt) (count : ℕ) (Ends : List ℕ → Type 0)
    → ((rest : List ℕ) → After rest → Ends rest) → Means count Ends (scalar_text body) (plain raw)
    → ((t : Table) → map_scalar (user_at t) raw ≡ body) → ScalarStands system raw → Counted body raw → ScalarIs body
plain-is body raw count Ends ends means same stand counted =
    a_plain raw (means-token count Ends After _ _ refl ends means) same stand counted

short-counted : (limit p n : ℕ) → 64 ≤ limit → n ≤ 64 → p + n - p ≤ limit
short-counted limit p n wide short = omega (arith, wide, short)

pub scalar-is : TextLaws → (body : Scalar UserSymbol) → InRange body → HasText body → HasBytes body
    → AllByRecursion IsText (scalar_symbols body) → ScalarIs body
scalar-is laws (value.null t) range utf8 small texts =
    let ends = λ (rest : List ℕ) (b : After rest). ends-null laws.identifiers_end t rest b in
    plain-is _ (value.null t) _ (EndsNull t) ends (laws.nulls t) (λ u. refl) tt
    (λ limits wide fits p. short-counted limits.scalar p _ wide (null-short t))
scalar-is laws (value.bool truth) range utf8 small texts =
    let ends = λ (rest : List ℕ) (b : After rest). ends-identifier laws.identifiers_end rest (AfterSymbol.of_value b) in
    plain-is _ (value.bool truth) _ EndsIdentifier ends (laws.bools truth) (λ u. refl) tt
    (λ limits wide fits p. short-counted limits.scalar p _ wide (bool-short truth))
scalar-is laws (value.int i) range utf8 small texts =
    let ends = λ (rest : List ℕ) (b : After rest). ends-number laws.numbers_end rest b in
    plain-is _ (value.int i) _ EndsNumber ends (laws.ints i range) (λ u. refl) tt
    (λ limits wide fits p. short-counted limits.scalar p _ wide (int-short i range))
scalar-is laws (value.float x) range utf8 small texts =
    let ends = λ (rest : List ℕ) (b : After rest). ends-float laws.numbers_end laws.identifiers_end x rest b in
    a_float x (means-token _ _ After _ _ refl ends (laws.floats x range))
    (λ limits wide p. short-counted limits.scalar p _ wide (float-short x range))
scalar-is laws (value.decimal d) range utf8 small texts =
    let ends = λ (rest : List ℕ) (b : After rest). ends-number laws.numbers_end rest b in
    plain-is _ (value.decimal d) _ EndsNumber ends (laws.decimals d range) (λ u. refl) tt
    (λ limits wide fits p. short-counted limits.scalar p _ wide (decimal-short d range))
scalar-is laws (value.timestamp t) range utf8 small texts =
    let ends = λ (rest : List ℕ) (b : After rest). ends-number laws.numbers_end rest b in
    plain-is _ (value.timestamp t) _ EndsNumber ends (laws.timestamps t range) (λ u. refl) tt
    (λ limits wide fits p. short-counted limits.scalar p _ wide (timestamp-short t range))
scalar-is laws (value.symbol s) range utf8 small texts = a_symbol s (symbol-is laws s texts.0)
scalar-is laws (value.string bytes) range utf8 small texts =
    let chars = chars-are 34 false bytes Quotes.double (utf8-bytes bytes utf8) in
    let means = laws.strings (flat_map (byte_text 34 256) bytes) bytes chars (is_utf8-from_IsUtf8 bytes utf8) in
    a_string bytes (means-token _ Anything After _ _ refl after-anything means)
scalar-is laws (value.clob bytes) range utf8 small texts =
    let chars = chars-are 34 true bytes Quotes.double small in
    let means = laws.clobs [] (flat_map (byte_text 34 128) bytes) [] bytes refl chars refl in
    plain-is _ (value.clob bytes) _ Anything after-anything means (λ u. refl) tt (λ limits wide fits p. fits)
scalar-is laws (value.blob bytes) range utf8 small texts =
    let means = laws.blobs (encode_of standard bytes) bytes (all-from bytes small) (solid-code bytes small) in
    plain-is _ (value.blob bytes) _ Anything after-anything means (λ u. refl) tt (λ limits wide fits p. fits)
