-- Bytes between quotes are characters that mean these bytes.
use Rattle.std.proofs.Common.{◌≡◌, ◌≢◌, ◌⊎◌, ℕ, ◌+◌, ◌*◌, ◌/◌, ◌%◌, ◌<◌, ◌≤◌, inl, inr, Bool, true, false, not, ◌&&◌, ◌==◌, nat_le, nat_lt, if◌then◌else◌, List, [], ◌∷◌, Option, None, Some, refl, sym, subst, arith}
use Rattle.std.specs.List.{flat_map}
use Rattle.std.proofs.lemmas.Bool.{false≢true, cases_Bool, eqb-true, and_parts, lt-ltb, ltb-true, le-leb, not-true, leb-true, eqb-false, ne_eqb, cases_lt, cases_eq}
use Rattle.std.proofs.lemmas.Bool.Decides.{nat_tests}
use Rattle.ion_value.specs.Digits.{is_hex_digit, digit_value}
use Rattle.ion_text_in.specs.Meaning.{Escape, Char, Chars}
use Rattle.ion_text_out.specs.Escape.{hex_digit, hex_escape, letter, is_shown, escape_by, escaped, byte_text}
use Rattle.ion_value.specs.Writable.{AreBytes}

hex-is : (n : ℕ) → n < 16 → is_hex_digit (hex_digit n) ≡ true
hex-is n small = elim (cases_Bool (nat_lt n 10)) [
  | inl e ↦ let less : n < 10 = ltb-true n 10 e in rw e (grind (arith, nat_tests, less))
  | inr e ↦ rw e (grind (arith, nat_tests, small))
]

hex-value : (n : ℕ) → n < 16 → digit_value (hex_digit n) ≡ n
hex-value n small = elim (cases_Bool (nat_lt n 10)) [
  | inl e ↦ let less : n < 10 = ltb-true n 10 e in rw e (grind (arith, nat_tests, less))
  | inr e ↦ rw e (grind (arith, nat_tests, small))
]

hex-byte : (b : ℕ) → b < 256 → 16 * digit_value (hex_digit (b / 16)) + digit_value (hex_digit (b % 16)) ≡ b
hex-byte b small =
    let high : b / 16 < 16 = omega (arith, small) in
    let low : b % 16 < 16 = omega arith in
    let h = hex-value (b / 16) high in
    let l = hex-value (b % 16) low in
    rw (h, l) (omega arith)

char-coded : (quote : ℕ) (in_clob : Bool) (b : ℕ) → b < 256 → (in_clob ≡ false → b < 128) → Char quote in_clob (hex_escape b) b
char-coded quote in_clob b small ascii =
    let high : b / 16 < 16 = omega (arith, small) in
    let low : b % 16 < 16 = omega arith in
    let is = hex-byte b small in
    subst (λ (x : ℕ). Char quote in_clob (hex_escape b) x) is
    (Char.coded (hex_digit (b / 16)) (hex_digit (b % 16)) (hex-is (b / 16) high) (hex-is (b % 16) low)
    (λ e. subst (λ (x : ℕ). x < 128) (sym is) (ascii e)))

-- the letter of a byte, if it has one
data Lettered (b : ℕ) : Option ℕ → Type 0 where
  by_letter : (c : ℕ) → Escape c b → Lettered b (Some c)
  none : Lettered b None

lettered-if : (b c n : ℕ) (o : Option ℕ) → Escape c n → ((b == n) ≡ false → Lettered b o)
    → Lettered b (if b == n then Some c else o)
lettered-if b c n o e other = elim (cases_Bool (b == n)) [
  | inl is ↦ rw is (by_letter c (subst (λ x. Escape c x) (sym (eqb-true b n is)) e))
  | inr differs ↦ rw differs (other differs)
]

lettered : (b : ℕ) → Lettered b (letter b)
lettered b =
    lettered-if b 97 7 _ Escape.bell (λ _.
    lettered-if b 98 8 _ Escape.backspace (λ _.
    lettered-if b 116 9 _ Escape.tab (λ _.
    lettered-if b 110 10 _ Escape.line_feed (λ _.
    lettered-if b 102 12 _ Escape.form_feed (λ _.
    lettered-if b 114 13 _ Escape.carriage_return (λ _.
    lettered-if b 118 11 _ Escape.vertical_tab (λ _.
    lettered-if b 92 92 _ Escape.backslash (λ _. none))))))))

-- the quotes that are written
pub data Quotes : ℕ → Type 0 where
  double : Quotes 34
  single : Quotes 39

quote-escape : (quote : ℕ) → Quotes quote → Escape quote quote
quote-escape _ Quotes.double = Escape.double_quote
quote-escape _ Quotes.single = Escape.single_quote

letter-char : (quote : ℕ) (in_clob : Bool) (b : ℕ) (o : Option ℕ) → Lettered b o → b < 256
    → (in_clob ≡ false → b < 128 ⊎ b ≡ 92) → Char quote in_clob (escape_by b o) b
letter-char quote in_clob b _ (by_letter c e) small ascii = Char.escaped c b e
letter-char quote in_clob b _ none small ascii = char-coded quote in_clob b small (λ e. below (ascii e))
  where
    below : b < 128 ⊎ b ≡ 92 → b < 128
    below (inl less) = less
    below (inr same) = omega (arith, same)

-- bytes from here on have escapes
abbrev pub top_of : Bool → ℕ
top_of true = 128
top_of false = 256

hidden-low : (quote b : ℕ) → is_shown quote 256 b ≡ false → (b == quote) ≡ false → b < 256 → b < 128 ⊎ b ≡ 92
hidden-low quote b hidden differs small = elim (cases_lt b 128) [
  | inl less ↦ inl less
  | inr more ↦ elim (cases_eq b 92) [
    | inl same ↦ inr same
    | inr apart ↦
        let low : nat_le 32 b ≡ true = le-leb 32 b (omega (arith, more)) in
        let top : nat_lt b 256 ≡ true = lt-ltb b 256 small in
        let del : (b == 127) ≡ false = ne_eqb b 127 (λ e. omega (arith, more, e)) in
        let slash : (b == 92) ≡ false = ne_eqb b 92 apart in
        let f : true ≡ false = rw (low, top, del, differs, slash) at hidden in
        absurd (false≢true (sym f))
  ]
]

shown-parts : (quote top b : ℕ) → is_shown quote top b ≡ true → (32 ≤ b) × (b < top) × (b ≢ quote) × (b ≢ 92)
shown-parts quote top b e =
    let a = and_parts (nat_le 32 b) (nat_lt b top && (not (b == 127) && (not (b == quote) && not (b == 92)))) e in
    let c = and_parts (nat_lt b top) (not (b == 127) && (not (b == quote) && not (b == 92))) a.1 in
    let d = and_parts (not (b == 127)) (not (b == quote) && not (b == 92)) c.1 in
    let f = and_parts (not (b == quote)) (not (b == 92)) d.1 in
    let no_quote : b ≢ quote = eqb-false b quote (not-true (b == quote) f.0) in
    let no_slash : b ≢ 92 = eqb-false b 92 (not-true (b == 92) f.1) in
    (leb-true 32 b a.0, ltb-true b top c.0, no_quote, no_slash)

ascii-top : (in_clob : Bool) (b : ℕ) → b < top_of in_clob → in_clob ≡ true → b < 128
ascii-top true b less e = less
ascii-top false b less e = absurd (false≢true e)

escaped-char : (quote : ℕ) (in_clob : Bool) (b : ℕ) (same : Bool) → (b == quote) ≡ same → Quotes quote → b < 256
    → is_shown quote (top_of in_clob) b ≡ false
    → Char quote in_clob (if same then 92 ∷ b ∷ [] else escape_by b (letter b)) b
escaped-char quote in_clob b true is q small hidden =
    let e : b ≡ quote = eqb-true b quote is in
    subst (λ (x : ℕ). Char quote in_clob (92 ∷ x ∷ []) x) (sym e) (Char.escaped quote quote (quote-escape quote q))
escaped-char quote true b false is q small hidden =
    letter-char quote true b (letter b) (lettered b) small (λ e. absurd (false≢true (sym e)))
escaped-char quote false b false is q small hidden =
    letter-char quote false b (letter b) (lettered b) small (λ e. hidden-low quote b hidden is small)

byte-char-by : (quote : ℕ) (in_clob : Bool) (b : ℕ) (shown : Bool) → is_shown quote (top_of in_clob) b ≡ shown
    → Quotes quote → b < 256 → Char quote in_clob (if shown then b ∷ [] else escaped quote b) b
byte-char-by quote in_clob b true is q small =
    let p = shown-parts quote (top_of in_clob) b is in
    Char.shown b p.0 p.2 p.3 (ascii-top in_clob b p.1)
byte-char-by quote in_clob b false is q small = escaped-char quote in_clob b (b == quote) refl q small is

byte-char : (quote : ℕ) (in_clob : Bool) (b : ℕ) → Quotes quote → b < 256
    → Char quote in_clob (byte_text quote (top_of in_clob) b) b
byte-char quote in_clob b q small = byte-char-by quote in_clob b (is_shown quote (top_of in_clob) b) refl q small

pub chars-are : (quote : ℕ) (in_clob : Bool) (bytes : List ℕ) → Quotes quote → AreBytes bytes
    → Chars quote in_clob (flat_map (byte_text quote (top_of in_clob)) bytes) bytes
chars-are quote in_clob [] q small = Chars.none
chars-are quote in_clob (b ∷ bytes) q small =
    Chars.and_then (byte-char quote in_clob b q small.0) (chars-are quote in_clob bytes q small.1)
