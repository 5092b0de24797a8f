-- What stands between quotes means the bytes that its characters mean.
use Rattle.std.proofs.Common.{◌≡◌, ◌≢◌, ℕ, zero, suc, ◌+◌, ◌*◌, ◌<◌, ◌≤◌, Bool, true, false, not, ◌&&◌, ◌==◌, nat_le, if◌then◌else◌, List, [], ◌∷◌, ◌++◌, length, Result, Ok, refl, sym, ap, subst, ◌∙◌, append_assoc, arith, codes, ◌||◌, nat_lt}
use Rattle.std.proofs.lemmas.Bool.{eq-eqb, ne_eqb, and_parts, lt-ltb, false≢true}
use Rattle.std.proofs.lemmas.Bool.Decides.{nat_tests}
use Rattle.std.proofs.lemmas.List.{length-append}
use Rattle.std.proofs.lemmas.Str.{encode_ascii}
use Rattle.std.specs.Str.{is_utf8}
use Rattle.ion_meter.specs.declared.fault.Reason.{Reason}
use Rattle.ion_meter.specs.declared.fault.Reason.TheVariants.{BadText, ScalarLimit}
use Rattle.ion_meter.specs.Sources.{Cursor, skip}
use Rattle.ion_value.specs.Digits.{is_hex_digit, digit_value, all_are, first_is}
use Rattle.ion_value.specs.Name.{begins_with}
use Rattle.ion_value.specs.Value as value
use Rattle.ion_value.specs.Parts.{refuse, ◌>>=◌, ◌>>◌}
use Rattle.ion_text_in.specs.Quoted as texts
use Rattle.ion_text_in.specs.Quoted.{Quote, Piece, symbol_quote, short_quote, piece_at, pieces_for, segment_at, segments_for, text_at, with_piece, raw, by_code, byte_code, hex_after, number}
use Rattle.ion_text_in.specs.Token as tokens
use Rattle.ion_text_in.specs.Token.{Token, first_at, token_of}
use Rattle.ion_text_in.specs.Meaning.{Limit, Allows, at, Escape, Char, Chars, quoted, EndsSymbol, QuotedSymbolIsRead, StringTextIsRead, ClobTextIsRead}
use Rattle.ion_text_in.proofs.TokenBegins.{no-first}
use Rattle.ion_text_in.specs.Places.{run_of, after_run}
use Rattle.ion_text_in.specs.Blanks.{is_white}
use Rattle.ion_text_in.specs.Lob as lob
use Rattle.ion_text_in.specs.Lob.{lob_at}
use Rattle.ion_value.specs.Value.{SymbolAt, Scalar, clob}
use Rattle.ion_text_in.proofs.Meaning.{run-none, run-more, allowed, allows-fewer, skip-prefix}

-- short quotes
abbrev by_quote : ℕ → Bool → Quote
by_quote quote in_clob = record { closer = quote ∷ []; is_long = false; in_clob = in_clob }

escape-read : (quote : ℕ) (in_clob : Bool) (letter b : ℕ) (more : List ℕ) → (quote == 92) ≡ false → Escape letter b → piece_at (by_quote quote in_clob) (92 ∷ letter ∷ more) ≡ texts.char (b ∷ []) 2
unfolding piece_at
escape-read quote in_clob _ _ more other Escape.bell = rw (piece_at, other) refl
escape-read quote in_clob _ _ more other letter = rw (piece_at, other) refl

by-ascii : (n taken : ℕ) → n < 128 → by_code n taken ≡ texts.char (n ∷ []) taken
by-ascii n taken small =
    let inside : nat_le n 0x10FFFF ≡ true = grind (arith, nat_tests) in
    let no_surrogate : (nat_le 0xD800 n && nat_le n 0xDFFF) ≡ false = grind (arith, nat_tests) in
    rw (inside, no_surrogate, encode_ascii n small) refl

two-digits : (x y : ℕ) (more : List ℕ) → is_hex_digit x ≡ true → is_hex_digit y ≡ true → hex_after 2 0 (x ∷ y ∷ more) ≡ number (16 * (16 * 0 + digit_value x) + digit_value y) more
unfolding hex_after
two-digits x y more dx dy = rw (hex_after, dx, dy) refl

code-read : (quote : ℕ) (in_clob : Bool) (x y : ℕ) (more : List ℕ) → (quote == 92) ≡ false → is_hex_digit x ≡ true → is_hex_digit y ≡ true
    → (in_clob ≡ false → 16 * digit_value x + digit_value y < 128)
    → piece_at (by_quote quote in_clob) (92 ∷ 120 ∷ x ∷ y ∷ more) ≡ texts.char ((16 * digit_value x + digit_value y) ∷ []) 4
unfolding piece_at
code-read quote in_clob x y more other dx dy small =
    begin ∙ ap (λ h. byte_code in_clob h) (two-digits x y more dx dy)
    ∙ ap (λ (n : ℕ). byte_code in_clob (number n more)) same ∙ by-kind in_clob small
  where
    same : 16 * (16 * 0 + digit_value x) + digit_value y ≡ 16 * digit_value x + digit_value y
    same = omega arith

    begin : piece_at (by_quote quote in_clob) (92 ∷ 120 ∷ x ∷ y ∷ more) ≡ byte_code in_clob (hex_after 2 0 (x ∷ y ∷ more))
    begin = rw (piece_at, other) refl

    by-kind : (clob : Bool) → (clob ≡ false → 16 * digit_value x + digit_value y < 128)
        → byte_code clob (number (16 * digit_value x + digit_value y) more) ≡ texts.char ((16 * digit_value x + digit_value y) ∷ []) 4
    by-kind true small = refl
    by-kind false small = by-ascii (16 * digit_value x + digit_value y) 4 (small refl)

shown-read : (quote : ℕ) (in_clob : Bool) (b : ℕ) (more : List ℕ) → 32 ≤ b → b ≢ quote → b ≢ 92 → (in_clob ≡ true → b < 128)
    → piece_at (by_quote quote in_clob) (b ∷ more) ≡ texts.char (b ∷ []) 1
unfolding piece_at
shown-read quote in_clob b more low no_quote no_escape ascii =
    let other : (quote == b) ≡ false = ne_eqb quote b (λ e. no_quote (sym e)) in
    let plain : (b == 92) ≡ false = ne_eqb b 92 no_escape in
    let some : nat_le 32 b ≡ true = grind (arith, nat_tests) in
    rw (piece_at, other, plain, some, fits in_clob ascii) refl
  where
    fits : (clob : Bool) → (clob ≡ true → b < 128) → (not clob || nat_lt b 128) ≡ true
    fits true ascii = lt-ltb b 128 (ascii refl)
    fits false ascii = refl

piece-read : (quote : ℕ) (in_clob : Bool) (b : ℕ) (text more : List ℕ) → (quote == 92) ≡ false → Char quote in_clob text b → piece_at (by_quote quote in_clob) (text ++ more) ≡ texts.char (b ∷ []) (length text)
piece-read quote in_clob _ _ more other (Char.shown b low no_quote no_escape ascii) = shown-read quote in_clob b more low no_quote no_escape ascii
piece-read quote in_clob _ _ more other (Char.escaped letter b escape) = escape-read quote in_clob letter b more other escape
piece-read quote in_clob _ _ more other (Char.coded x y dx dy small) = code-read quote in_clob x y more other dx dy small

close-read : (quote : ℕ) (in_clob : Bool) (more : List ℕ) → piece_at (by_quote quote in_clob) (quote ∷ more) ≡ texts.close 1
unfolding piece_at
close-read quote in_clob more = let same : (quote == quote) ≡ true = eq-eqb quote quote refl in rw (piece_at, same) refl

-- ---- pieces and segments

abbrev Got : Type 0
Got = Result (List ℕ × Cursor) Reason

abbrev got : List ℕ → Cursor → Got
got bytes d = Ok (bytes, d)

pieces-close : (most : ℕ) (quote : ℕ) (in_clob : Bool) (limit : Limit) (count p : ℕ) (rest : List ℕ) → pieces_for (suc most) (by_quote quote in_clob) limit count (at p (quote ∷ rest)) ≡ got [] (at (p + 1) rest)
unfolding pieces_for
pieces-close most quote in_clob limit count p rest =
    ap (λ (piece : Piece). with_piece (λ n d. pieces_for most (by_quote quote in_clob) limit n d) (by_quote quote in_clob) limit count (at p (quote ∷ rest)) piece) (close-read quote in_clob rest)

pieces-char : (most : ℕ) (quote : ℕ) (in_clob : Bool) (limit : Limit) (count p b : ℕ) (text more bytes : List ℕ) (d : Cursor) → (quote == 92) ≡ false → Char quote in_clob text b → Allows limit (count + 1)
    → pieces_for most (by_quote quote in_clob) limit (count + 1) (at (p + length text) more) ≡ got bytes d
    → pieces_for (suc most) (by_quote quote in_clob) limit count (at p (text ++ more)) ≡ got (b ∷ bytes) d
unfolding pieces_for
pieces-char most quote in_clob limit count p b text more bytes d other char allows later =
    ap (λ (piece : Piece). with_piece (λ n d. pieces_for most (by_quote quote in_clob) limit n d) (by_quote quote in_clob) limit count (at p (text ++ more)) piece) (piece-read quote in_clob b text more other char)
    ∙ ap (λ (over : Bool). refuse over ScalarLimit
    >> (pieces_for most (by_quote quote in_clob) limit (count + 1) (skip (length text) (at p (text ++ more))) >>= (λ others. got (b ∷ others.0) others.1))) (allowed limit (count + 1) allows)
    ∙ ap (λ (c : Cursor). pieces_for most (by_quote quote in_clob) limit (count + 1) c >>= (λ others. got (b ∷ others.0) others.1)) (skip-prefix p text more)
    ∙ ap (λ (o : Got). o >>= (λ others. got (b ∷ others.0) others.1)) later

char-some : (quote : ℕ) (in_clob : Bool) (b : ℕ) (text : List ℕ) → Char quote in_clob text b → 1 ≤ length text
char-some quote in_clob _ _ (Char.shown b low no_quote no_escape ascii) = omega arith
char-some quote in_clob _ _ (Char.escaped letter b escape) = omega arith
char-some quote in_clob _ _ (Char.coded x y dx dy small) = omega arith

pieces-given : (quote : ℕ) (in_clob : Bool) (limit : Limit) (most count p q : ℕ) (chars bytes rest : List ℕ) → (quote == 92) ≡ false → Chars quote in_clob chars bytes → Allows limit (count + length bytes)
    → length chars < most → p + (length chars + 1) ≡ q → pieces_for most (by_quote quote in_clob) limit count (at p (chars ++ quote ∷ rest)) ≡ got bytes (at q rest)
pieces-given quote in_clob limit zero count p q chars bytes rest other are allows enough place = absurd (omega (arith, enough))
pieces-given quote in_clob limit (suc most) count p q _ _ rest other Chars.none allows enough place =
    pieces-close most quote in_clob limit count p rest ∙ ap (λ (q : ℕ). got [] (at q rest)) (one p q place)
  where
    one : (p q : ℕ) → p + (0 + 1) ≡ q → p + 1 ≡ q
    one p q e = omega (arith, e)
pieces-given quote in_clob limit (suc most) count p q _ _ rest other (Chars.and_then {text} {chars} {bytes} {b} char are) allows enough place =
    let some = char-some quote in_clob b text char in
    let long : length (text ++ chars) ≡ length text + length chars = length-append text chars in
    let later = pieces-given quote in_clob limit most (count + 1) (p + length text) q chars bytes rest other are
    (subst (Allows limit) (one-more count (length bytes)) allows) (omega (arith, some, long, enough)) (omega (arith, place, long)) in
    ap (λ (xs : List ℕ). pieces_for (suc most) (by_quote quote in_clob) limit count (at p xs)) (append_assoc text chars (quote ∷ rest))
    ∙ pieces-char most quote in_clob limit count p b text (chars ++ quote ∷ rest) bytes (at q rest) other char
    (allows-fewer limit (count + suc (length bytes)) (count + 1) (omega arith) allows) later
  where
    one-more : (count n : ℕ) → count + suc n ≡ count + 1 + n
    one-more count n = omega arith

segment-given : (quote : ℕ) (in_clob : Bool) (limit : Limit) (p q : ℕ) (chars bytes rest : List ℕ) → (quote == 92) ≡ false → Chars quote in_clob chars bytes → (in_clob ≡ false → is_utf8 bytes ≡ true) → Allows limit (length bytes)
    → p + (length chars + 1) ≡ q → segment_at (by_quote quote in_clob) limit 0 (at p (chars ++ quote ∷ rest)) ≡ got bytes (at q rest)
unfolding segment_at
segment-given quote in_clob limit p q chars bytes rest other are utf8 allows place =
    ap (λ (o : Got). o >>= (λ s. refuse (not (in_clob || is_utf8 s.0)) BadText >> got s.0 s.1))
    (pieces-given quote in_clob limit (suc (length (chars ++ quote ∷ rest))) 0 p q chars bytes rest other are
    (subst (Allows limit) (zero-more (length bytes)) allows) (omega (arith, length-append chars (quote ∷ rest))) place)
    ∙ ap (λ (u : Bool). refuse (not u) BadText >> got bytes (at q rest)) (spells in_clob utf8)
  where
    zero-more : (n : ℕ) → n ≡ 0 + n
    zero-more n = omega arith

    spells : (clob : Bool) → (clob ≡ false → is_utf8 bytes ≡ true) → (clob || is_utf8 bytes) ≡ true
    spells true utf8 = refl
    spells false utf8 = utf8 refl

text-given : (quote : ℕ) (in_clob : Bool) (limit : Limit) (p q : ℕ) (chars bytes rest : List ℕ) → (quote == 92) ≡ false → Chars quote in_clob chars bytes → (in_clob ≡ false → is_utf8 bytes ≡ true) → Allows limit (length bytes)
    → p + (length chars + 1) ≡ q → text_at (by_quote quote in_clob) limit (at p (chars ++ quote ∷ rest)) ≡ got bytes (at q rest)
unfolding segments_for
text-given quote in_clob limit p q chars bytes rest other are utf8 allows place =
    ap (λ (o : Got). o >>= (λ s. got s.0 s.1)) (segment-given quote in_clob limit p q chars bytes rest other are utf8 allows place)

-- ---- tokens

abbrev made : Token → Cursor → Result (Token × Cursor) Reason
made t c = Ok (t, c)

after-quotes : (quote : ℕ) (chars rest : List ℕ) → (chars ++ quote ∷ []) ++ rest ≡ chars ++ quote ∷ rest
after-quotes quote chars rest = append_assoc chars (quote ∷ []) rest

quoted-place : (p quote : ℕ) (chars : List ℕ) → p + 1 + (length chars + 1) ≡ p + length (quoted quote chars)
quoted-place p quote chars = omega (arith, length-append chars (quote ∷ []))

pub string-means : StringTextIsRead
unfolding first_at token_of
string-means chars bytes are utf8 limit sexp place rest allows ends =
    ap (λ (xs : List ℕ). text_at (by_quote 34 false) limit (at (place + 1) xs) >>= (λ t. made (tokens.text t.0) t.1)) (after-quotes 34 chars rest)
    ∙ ap (λ (o : Got). o >>= (λ t. made (tokens.text t.0) t.1))
    (text-given 34 false limit (place + 1) (place + length (quoted 34 chars)) chars bytes rest refl are (λ _. utf8) allows (quoted-place place 34 chars))

flip : (a b : ℕ) → (b == a) ≡ false → (a == b) ≡ false
flip a b e = grind (arith, nat_tests)

-- no long string begins at the quote
no-long : (chars bytes rest : List ℕ) → Chars 39 false chars bytes → EndsSymbol bytes rest → begins_with (39 ∷ 39 ∷ []) (chars ++ 39 ∷ rest) ≡ false
no-long _ _ [] Chars.none ends = refl
no-long _ _ (b ∷ rest) Chars.none ends = let other = flip 39 b (no-first 39 (b ∷ rest) (ends refl)) in rw other refl
no-long _ _ rest (Chars.and_then {chars = chars} char are) ends = by-char rest chars char
  where
    by-char : {b : ℕ} {text : List ℕ} (rest chars : List ℕ) → Char 39 false text b → begins_with (39 ∷ 39 ∷ []) ((text ++ chars) ++ 39 ∷ rest) ≡ false
    by-char {b} rest chars (Char.shown _ low no_quote no_escape ascii) = let other : (39 == b) ≡ false = ne_eqb 39 b (λ e. no_quote (sym e)) in rw other refl
    by-char rest chars (Char.escaped letter _ escape) = refl
    by-char rest chars (Char.coded x y dx dy small) = refl

symbol-first : (sexp : Bool) (bytes : List ℕ) → begins_with (39 ∷ 39 ∷ []) bytes ≡ false → first_at sexp (39 ∷ bytes) ≡ tokens.a_quoted
unfolding first_at
symbol-first sexp bytes e = ap (λ (long : Bool). if long then tokens.a_long else tokens.a_quoted) e

pub symbol-means : QuotedSymbolIsRead
unfolding token_of
symbol-means chars bytes are utf8 limit sexp place rest allows ends =
    ap (λ (xs : List ℕ). tokens.token_at limit sexp (at place (39 ∷ xs))) (after-quotes 39 chars rest)
    ∙ ap (λ (f : tokens.First). token_of limit f (at place (39 ∷ (chars ++ 39 ∷ rest)))) (symbol-first sexp (chars ++ 39 ∷ rest) (no-long chars bytes rest are ends))
    ∙ ap (λ (o : Got). o >>= (λ t. made (tokens.name true (value.Text t.0)) t.1))
    (text-given 39 false limit (place + 1) (place + length (quoted 39 chars)) chars bytes rest refl are (λ _. utf8) allows (quoted-place place 39 chars))

-- ---- clobs

white-run : (white : List ℕ) (b : ℕ) (rest : List ℕ) → all_are is_white white ≡ true → is_white b ≡ false → run_of (first_is is_white) (white ++ b ∷ rest) ≡ (white, b ∷ rest)
white-run [] b rest all dark = run-none (first_is is_white) (b ∷ rest) dark
white-run (x ∷ white) b rest all dark =
    let parts = and_parts (is_white x) (all_are is_white white) all in
    run-more (first_is is_white) x (white ++ b ∷ rest) parts.0 ∙ ap (λ (z : List ℕ × List ℕ). (x ∷ z.0, z.1)) (white-run white b rest parts.1 dark)

after-white : (p : ℕ) (white : List ℕ) (b : ℕ) (rest : List ℕ) → all_are is_white white ≡ true → is_white b ≡ false
    → after_run (first_is is_white) (at p (white ++ b ∷ rest)) ≡ at (p + length white) (b ∷ rest)
after-white p white b rest all dark =
    ap (λ (z : List ℕ × List ℕ). skip (length z.0) (at p (white ++ b ∷ rest))) (white-run white b rest all dark) ∙ skip-prefix p white (b ∷ rest)

abbrev body : Scalar SymbolAt → Cursor → Result (Scalar SymbolAt × Cursor) Reason
body v d = Ok (v, d)

clob-given : (limit : Limit) (p q : ℕ) (prefix chars back bytes rest : List ℕ) → all_are is_white prefix ≡ true → Chars 34 true chars bytes → all_are is_white back ≡ true → Allows limit (length bytes)
    → p + length prefix + 1 + (length chars + 1) + length back + 2 ≡ q
    → lob.lob_at limit (at p (prefix ++ 34 ∷ (chars ++ 34 ∷ (back ++ 125 ∷ 125 ∷ rest)))) ≡ body (clob bytes) (at q rest)
unfolding lob_at
clob-given limit p q prefix chars back bytes rest white are after allows place =
    let r : ℕ = p + length prefix + 1 + (length chars + 1) in
    ap (λ (c : Cursor). lob.lob_in limit c) (after-white p prefix 34 (chars ++ 34 ∷ (back ++ 125 ∷ 125 ∷ rest)) white refl)
    ∙ ap (λ (o : Got). o >>= (λ t. lob.clob_closed_at false (after_run (first_is is_white) t.1) >>= (λ d. body (clob t.0) d)))
    (text-given 34 true limit (p + length prefix + 1) r chars bytes (back ++ 125 ∷ 125 ∷ rest) refl are (λ no. absurd (false≢true (sym no))) allows refl)
    ∙ ap (λ (c : Cursor). lob.clob_closed_at false c >>= (λ d. body (clob bytes) d)) (after-white r back 125 (125 ∷ rest) after refl)
    ∙ ap (λ (q : ℕ). body (clob bytes) (at q rest)) place

pub clob-means : ClobTextIsRead
unfolding first_at token_of
clob-means prefix chars back bytes white are after limit sexp place rest allows ends =
    let text : (prefix ++ (quoted 34 chars ++ (back ++ 125 ∷ 125 ∷ []))) ++ rest ≡ prefix ++ 34 ∷ (chars ++ 34 ∷ (back ++ 125 ∷ 125 ∷ rest)) = simp append_assoc refl in
    ap (λ (xs : List ℕ). lob.lob_at limit (at (place + 2) xs) >>= (λ l. made (tokens.plain l.0) l.1)) text
    ∙ ap (λ (o : Result (Scalar SymbolAt × Cursor) Reason). o >>= (λ l. made (tokens.plain l.0) l.1))
    (clob-given limit (place + 2) (place + length (codes "{{" ++ (prefix ++ (quoted 34 chars ++ (back ++ codes "}}"))))) prefix chars back bytes rest white are after allows
    (omega (arith, length-append prefix (quoted 34 chars ++ (back ++ 125 ∷ 125 ∷ [])), length-append chars (34 ∷ []), length-append (chars ++ 34 ∷ []) (back ++ 125 ∷ 125 ∷ []), length-append back (125 ∷ 125 ∷ []))))
