-- What clobs and blobs mean is bytes.
use Rattle.std.proofs.Common.{◌≡◌, ℕ, ◌+◌, ◌*◌, ◌<◌, ◌≤◌, Bool, true, false, ◌&&◌, ◌||◌, ◌==◌, nat_lt, nat_le, if◌then◌else◌, List, [], ◌∷◌, ◌++◌, length, Option, None, Some, Result, Ok, Err, refl, arith}
use Rattle.std.specs.Bool.{⊤}
use Rattle.std.specs.List.{AllByRecursion}
use Rattle.std.specs.Result.{IfOk}
use Rattle.std.proofs.lemmas.Bool.{and_parts, ltb-true}
use Rattle.std.proofs.lemmas.Bool.Decides.{nat_tests}
use Rattle.base64.specs.Engines.{standard}
use Rattle.base64.specs.GeneralPurpose.{decoded_of}
use Rattle.ion_meter.specs.Sources.{Cursor}
use Rattle.ion_meter.specs.declared.fault.Reason.{Reason}
use Rattle.ion_meter.specs.declared.fault.Reason.TheVariants.{BadLob}
use Rattle.ion_value.specs.Digits.{is_hex_digit, digit_value}
use Rattle.ion_value.specs.Name.{begins_with, is_one_of}
use Rattle.ion_value.specs.Value as value
use Rattle.ion_value.specs.Value.{SymbolAt, Scalar}
use Rattle.ion_value.specs.Writable.{AreBytes}
use Rattle.ion_text_in.specs.Lob.{group_bytes, lob_at}
use Rattle.ion_text_in.specs.Meaning.{IsRawScalar}
use Rattle.ion_text_in.specs.Quoted.{Quote, short_quote, long_quote, Piece, Hex, number, no_digit, cut_digits, hex_after, byte_code, letter, coded, by_letter, escape, is_raw, raw, piece_at}
use Rattle.ion_text_in.proofs.DecodedBytes.{decoded-bytes}
use Rattle.ion_text_in.proofs.Shrinking.{Joins, PieceHas, LobOf, lob-is}
use Rattle.ion_value.proofs.WentWell.{if-either, if-more}

-- ---- pieces of a clob

abbrev PieceBytes : Piece → Type 0
PieceBytes piece = PieceHas AreBytes piece

piece-if : (b : Bool) (x y : Piece) → (b ≡ true → PieceBytes x) → (b ≡ false → PieceBytes y) → PieceBytes (if b then x else y)
piece-if true x y h k = h refl
piece-if false x y h k = k refl

-- quotes of clobs
abbrev clob_quote : List ℕ → Bool → Quote
clob_quote closer is_long = record { closer = closer; is_long = is_long; in_clob = true }

digit-small : (b : ℕ) → is_hex_digit b ≡ true → digit_value b < 16
digit-small b e = grind (arith, nat_tests)

abbrev HexBytes : ℕ → Hex → Type 0
HexBytes most (number n after) = n < most
HexBytes most _ = ⊤

hex-one : (n : ℕ) (bytes : List ℕ) → n < 16 → HexBytes 256 (hex_after 1 n bytes)
unfolding hex_after
hex-one n [] small = tt
hex-one n (b ∷ bytes) small = by (is_hex_digit b) refl
  where
    by : (t : Bool) → is_hex_digit b ≡ t → HexBytes 256 (elim t as (λ _. Hex) [ true ↦ number (16 * n + digit_value b) bytes | false ↦ no_digit ])
    by true e = let d = digit-small b e in omega (arith, small, d)
    by false e = tt

hex-two : (bytes : List ℕ) → HexBytes 256 (hex_after 2 0 bytes)
unfolding hex_after
hex-two [] = tt
hex-two (b ∷ bytes) = by (is_hex_digit b) refl
  where
    by : (t : Bool) → is_hex_digit b ≡ t → HexBytes 256 (elim t as (λ _. Hex) [ true ↦ hex_after 1 (16 * 0 + digit_value b) bytes | false ↦ no_digit ])
    by true e = hex-one (16 * 0 + digit_value b) bytes (let d = digit-small b e in omega (arith, d))
    by false e = tt

code-bytes : (h : Hex) → HexBytes 256 h → PieceBytes (byte_code true h)
code-bytes (number n after) small = (small, tt)
code-bytes no_digit small = tt
code-bytes cut_digits small = tt

coded-bytes : (e : ℕ) (bytes : List ℕ) → PieceBytes (coded true e bytes)
coded-bytes e bytes = piece-if (e == 120) _ _ (λ _. code-bytes (hex_after 2 0 bytes) (hex-two bytes)) (λ _. tt)

abbrev LetterByte : Option ℕ → Type 0
LetterByte None = ⊤
LetterByte (Some c) = c < 256

letter-if : (b : Bool) (c : ℕ) (o : Option ℕ) → (b ≡ true → c < 256) → LetterByte o → LetterByte (if b then Some c else o)
letter-if true c o h k = h refl
letter-if false c o h k = k

letter-byte : (e : ℕ) → LetterByte (letter e)
letter-byte e =
    letter-if (e == 97) 7 _ (λ _. omega arith)
    (letter-if (e == 98) 8 _ (λ _. omega arith) (letter-if (e == 116) 9 _ (λ _. omega arith) (letter-if (e == 110) 10 _ (λ _. omega arith)
    (letter-if (e == 102) 12 _ (λ _. omega arith)
    (letter-if (e == 114) 13 _ (λ _. omega arith) (letter-if (e == 118) 11 _ (λ _. omega arith) (letter-if (e == 48) 0 _ (λ _. omega arith)
    (letter-if (is_one_of (63 ∷ 34 ∷ 39 ∷ 92 ∷ 47 ∷ []) e) e None (λ is. itself e is) tt))))))))
  where
    itself : (e : ℕ) → is_one_of (63 ∷ 34 ∷ 39 ∷ 92 ∷ 47 ∷ []) e ≡ true → e < 256
    itself e is = grind (arith, nat_tests)

by-letter-bytes : (o : Option ℕ) (e : ℕ) (bytes : List ℕ) → LetterByte o → PieceBytes (by_letter o true e bytes)
by-letter-bytes (Some c) e bytes h = (h, tt)
by-letter-bytes None e bytes h = coded-bytes e bytes

escape-bytes : (bytes : List ℕ) → PieceBytes (escape true bytes)
escape-bytes [] = tt
escape-bytes (e ∷ bytes) = piece-if (e == 10 || e == 13) _ _ (λ _. tt) (λ _. by-letter-bytes (letter e) e bytes (letter-byte e))

raw-bytes : (closer : List ℕ) (is_long : Bool) (b : ℕ) (bytes : List ℕ) → PieceBytes (raw (clob_quote closer is_long) b bytes)
raw-bytes closer is_long b bytes =
    piece-if (is_long && (b == 10 || b == 13)) _ _ (λ _. (omega arith, tt))
    (λ _. piece-if (is_raw (clob_quote closer is_long) b) _ _ (λ is. (itself is, tt)) (λ _. tt))
  where
    itself : is_raw (clob_quote closer is_long) b ≡ true → b < 256
    itself is = let ascii = ltb-true b 128 (and_parts (nat_le 32 b || is_one_of (9 ∷ 11 ∷ 12 ∷ []) b) (nat_lt b 128) is).1 in omega (arith, ascii)

piece-bytes : (closer : List ℕ) (is_long : Bool) (bytes : List ℕ) → PieceBytes (piece_at (clob_quote closer is_long) bytes)
unfolding piece_at
piece-bytes closer is_long [] = tt
piece-bytes closer is_long (b ∷ bytes) =
    piece-if (begins_with closer (b ∷ bytes)) _ _ (λ _. tt)
    (λ _. piece-if (b == 92) _ _ (λ _. escape-bytes bytes) (λ _. raw-bytes closer is_long b bytes))

-- ---- lobs

pub all-append : {A : Type 0} (P : A → Type 0) (xs ys : List A) → AllByRecursion P xs → AllByRecursion P ys → AllByRecursion P (xs ++ ys)
all-append P [] ys h k = k
all-append P (x ∷ xs) ys h k = (h.0, all-append P xs ys h.1 k)

bytes-join : Joins AreBytes
bytes-join = record { none = tt; join = all-append (λ b. b < 256) }

group-bytes : (padded : Bool) (group : List ℕ) → length group ≤ 4 → IfOk (group_bytes padded group) AreBytes
group-bytes padded group few = by (decoded_of standard group) refl
  where
    by : (o : Option (List ℕ)) → decoded_of standard group ≡ o
        → IfOk (elim o as (λ _. Result (List ℕ) Reason) [ Some bytes ↦ if padded then Err BadLob else Ok bytes | None ↦ Err BadLob ]) AreBytes
    by (Some bytes) is = if-either AreBytes padded (Err BadLob) (Ok bytes) tt (decoded-bytes group bytes few is)
    by None is = tt

clob-piece : (is_long : Bool) (rest : List ℕ) → PieceHas AreBytes (piece_at (if is_long then long_quote true else short_quote true) rest)
clob-piece true rest = piece-bytes (39 ∷ 39 ∷ 39 ∷ []) true rest
clob-piece false rest = piece-bytes (34 ∷ []) false rest

lob-raw_of : (v : Scalar SymbolAt) → LobOf AreBytes v → IsRawScalar v
lob-raw_of (value.clob bytes) h = record { in_range = tt; text = tt; bytes = h; no_symbol = refl; no_float = λ rules. tt }
lob-raw_of (value.blob bytes) h = record { in_range = tt; text = tt; bytes = h; no_symbol = refl; no_float = λ rules. tt }
lob-raw_of v h = absurd h

pub lob-raw : (limit : Option ℕ) (c : Cursor) → IfOk (lob_at limit c) (λ x. IsRawScalar x.0)
lob-raw limit c =
    if-more _ _ (lob_at limit c) (lob-is AreBytes bytes-join limit clob-piece (λ padded group four. group-bytes padded group (omega (arith, four))) c.place c) (λ x h. lob-raw_of x.0 h.1)
