-- A slice shows a piece of a text: it is the same whatever follows the slice.
use Rattle.std.proofs.Common.{◌≡◌, ℕ, zero, suc, ◌+◌, ◌*◌, ◌≤◌, Bool, true, false, not, ◌&&◌, ◌||◌, ◌==◌, nat_le, if◌then◌else◌, List, [], ◌∷◌, ◌++◌, length, Option, Some, None, refl, ap, ◌∙◌, arith}
use Rattle.ion_value.specs.Digits.{is_between, is_hex_digit, digit_value}
use Rattle.ion_value.specs.Name.{begins_with}
use Rattle.ion_text_in.specs.Quoted as quoted
use Rattle.ion_text_in.specs.Quoted.{Quote, Piece, char, close, illegal, cut, Hex, number, no_digit, cut_digits, hex_after, piece_at}
use Rattle.ion_text_in.specs.Scanning.{IsQuote}

-- ---- what more bytes may change

-- certain bytes, where as many are shown
prefix-shown : (cs bytes more : List ℕ) → length cs ≤ length bytes → begins_with cs (bytes ++ more) ≡ begins_with cs bytes
prefix-shown [] bytes more le = refl
prefix-shown (c ∷ cs) [] more le = absurd (omega (arith, le))
prefix-shown (c ∷ cs) (b ∷ bytes) more le = ap (λ (others : Bool). (c == b) && others) (prefix-shown cs bytes more (omega (arith, le)))

-- not cut by the slice's end
abbrev pub IsWhole : Piece → Type 0
IsWhole (char bytes taken) = Unit {0}
IsWhole (close taken) = Unit {0}
IsWhole illegal = Unit {0}
IsWhole cut = ⊥

-- a whole piece stays as it is
abbrev Kept : Piece → Piece → Type 0
Kept x u = IsWhole x → u ≡ x

kept-if : (b : Bool) (x y u v : Piece) → (b ≡ true → Kept x u) → (b ≡ false → Kept y v) → Kept (if b then x else y) (if b then u else v)
kept-if true x y u v kx ky = kx refl
kept-if false x y u v kx ky = ky refl

-- digits
abbrev SameHex : List ℕ → Hex → Hex → Type 0
SameHex more (number n after) long = long ≡ number n (after ++ more)
SameHex more no_digit long = long ≡ no_digit
SameHex more cut_digits long = Unit {0}

hex-either : (more : List ℕ) (is : Bool) (x u : Hex) → SameHex more x u → SameHex more (elim is [ true ↦ x | false ↦ no_digit ]) (elim is [ true ↦ u | false ↦ no_digit ])
hex-either more true x u s = s
hex-either more false x u s = refl

hex-same : (k n : ℕ) (bytes more : List ℕ) → SameHex more (hex_after k n bytes) (hex_after k n (bytes ++ more))
unfolding hex_after
hex-same zero n bytes more = refl
hex-same (suc k) n [] more = tt
hex-same (suc k) n (b ∷ bytes) more =
    hex-either more (is_hex_digit b) (hex_after k (16 * n + digit_value b) bytes) (hex_after k (16 * n + digit_value b) (bytes ++ more)) (hex-same k (16 * n + digit_value b) bytes more)

low-kept : (high : ℕ) (more : List ℕ) (h long : Hex) → SameHex more h long → Kept (quoted.low_half high h) (quoted.low_half high long)
low-kept high more (number low after) long e w = ap (quoted.low_half high) e
low-kept high more no_digit long e w = ap (quoted.low_half high) e
low-kept high more cut_digits long e w = absurd w

after-kept : (high : ℕ) (after more : List ℕ) → Kept (quoted.low_after high after) (quoted.low_after high (after ++ more))
after-kept high [] more w = absurd w
after-kept high (b ∷ []) [] w = refl
after-kept high (b ∷ []) (c ∷ more) w = from (b == 92) w
  where
    from : (escapes : Bool) → Kept (if escapes then cut else illegal) (if escapes && c == 117 then quoted.low_half high (hex_after 4 0 more) else illegal)
    from true w = absurd w
    from false w = refl
after-kept high (b ∷ c ∷ bytes) more w =
    kept-if (b == 92 && c == 117) _ _ _ _ (λ _. low-kept high more (hex_after 4 0 bytes) (hex_after 4 0 (bytes ++ more)) (hex-same 4 0 bytes more)) (λ _ w. refl) w

byte-kept : (in_clob : Bool) (more : List ℕ) (h long : Hex) → SameHex more h long → Kept (quoted.byte_code in_clob h) (quoted.byte_code in_clob long)
byte-kept in_clob more (number n after) long e w = ap (quoted.byte_code in_clob) e ∙ by in_clob
  where
    by : (in_clob : Bool) → quoted.byte_code in_clob (number n (after ++ more)) ≡ quoted.byte_code in_clob (number n after)
    by true = refl
    by false = refl
byte-kept in_clob more no_digit long e w = ap (quoted.byte_code in_clob) e
byte-kept true more cut_digits long e w = absurd w
byte-kept false more cut_digits long e w = absurd w

short_code-kept : (more : List ℕ) (h long : Hex) → SameHex more h long → Kept (quoted.short_code h) (quoted.short_code long)
short_code-kept more (number n after) long e w =
    ap quoted.short_code e
    ∙ kept-if (quoted.is_high_surrogate n) (quoted.low_after n after) (quoted.by_code n 6) (quoted.low_after n (after ++ more)) (quoted.by_code n 6) (λ _. after-kept n after more) (λ _ w. refl) w
short_code-kept more no_digit long e w = ap quoted.short_code e
short_code-kept more cut_digits long e w = absurd w

long_code-kept : (more : List ℕ) (h long : Hex) → SameHex more h long → Kept (quoted.long_code h) (quoted.long_code long)
long_code-kept more (number n after) long e w = ap quoted.long_code e
long_code-kept more no_digit long e w = ap quoted.long_code e
long_code-kept more cut_digits long e w = absurd w

coded-kept : (in_clob : Bool) (e : ℕ) (bytes more : List ℕ) → Kept (quoted.coded in_clob e bytes) (quoted.coded in_clob e (bytes ++ more))
coded-kept in_clob e bytes more =
    kept-if (e == 120) _ _ _ _ (λ _. byte-kept in_clob more (hex_after 2 0 bytes) (hex_after 2 0 (bytes ++ more)) (hex-same 2 0 bytes more))
    (λ _. kept-if in_clob illegal _ illegal _ (λ _ w. refl)
    (λ _. kept-if (e == 117) _ _ _ _ (λ _. short_code-kept more (hex_after 4 0 bytes) (hex_after 4 0 (bytes ++ more)) (hex-same 4 0 bytes more))
    (λ _. kept-if (e == 85) _ _ _ _ (λ _. long_code-kept more (hex_after 8 0 bytes) (hex_after 8 0 (bytes ++ more)) (hex-same 8 0 bytes more)) (λ _ w. refl))))

letter-kept : (in_clob : Bool) (e : ℕ) (bytes more : List ℕ) (o : Option ℕ) → Kept (quoted.by_letter o in_clob e bytes) (quoted.by_letter o in_clob e (bytes ++ more))
letter-kept in_clob e bytes more (Some c) w = refl
letter-kept in_clob e bytes more None w = coded-kept in_clob e bytes more w

-- no CR stands last
abbrev pub NoEnd : ℕ → List ℕ → Type 0
NoEnd b bytes = bytes ≡ [] → (b == 13) ≡ false

line_end-kept : (b : ℕ) (bytes more : List ℕ) → NoEnd b bytes → quoted.line_end_length b (bytes ++ more) ≡ quoted.line_end_length b bytes
line_end-kept b [] more none = rw (none refl) refl
line_end-kept b (c ∷ bytes) more none = refl

pub escape-kept : (in_clob : Bool) (e : ℕ) (bytes more : List ℕ) → NoEnd e bytes → Kept (quoted.escape in_clob (e ∷ bytes)) (quoted.escape in_clob (e ∷ (bytes ++ more)))
escape-kept in_clob e bytes more none =
    kept-if (e == 10 || e == 13) _ _ _ _ (λ _ w. ap (λ (n : ℕ). char [] (1 + n)) (line_end-kept e bytes more none)) (λ _. letter-kept in_clob e bytes more (quoted.letter e))

raw-kept : (q : Quote) (b : ℕ) (bytes more : List ℕ) → (q.is_long ≡ true → NoEnd b bytes) → quoted.raw q b (bytes ++ more) ≡ quoted.raw q b bytes
raw-kept q b bytes more none = from q.is_long refl
  where
    from : (long : Bool) → q.is_long ≡ long
        → (if long && (b == 10 || b == 13) then char (10 ∷ []) (quoted.line_end_length b (bytes ++ more)) else (if quoted.is_raw q b then char (b ∷ []) 1 else illegal))
        ≡ (if long && (b == 10 || b == 13) then char (10 ∷ []) (quoted.line_end_length b bytes) else (if quoted.is_raw q b then char (b ∷ []) 1 else illegal))
    from true e = ap (λ (n : ℕ). if b == 10 || b == 13 then char (10 ∷ []) n else (if quoted.is_raw q b then char (b ∷ []) 1 else illegal)) (line_end-kept b bytes more (none e))
    from false e = refl

-- ---- pieces

pub piece-kept : (q : Quote) (a : ℕ) (bytes more : List ℕ) → begins_with q.closer (a ∷ (bytes ++ more)) ≡ begins_with q.closer (a ∷ bytes)
    → ((a == 92) ≡ true → Kept (quoted.escape q.in_clob bytes) (quoted.escape q.in_clob (bytes ++ more))) → (q.is_long ≡ true → NoEnd a bytes) → Kept (piece_at q (a ∷ bytes)) (piece_at q (a ∷ (bytes ++ more)))
unfolding piece_at
piece-kept q a bytes more closer escapes line w =
    ap (λ (closes : Bool). if closes then close (length q.closer) else (if a == 92 then quoted.escape q.in_clob (bytes ++ more) else quoted.raw q a (bytes ++ more))) closer
    ∙ kept-if (begins_with q.closer (a ∷ bytes)) _ _ _ _ (λ _ w. refl) (λ _. kept-if (a == 92) _ _ _ _ escapes (λ _ w. raw-kept q a bytes more line)) w

-- where three bytes are shown: closing quotes, or an escaped CR before LF
pub piece-shown : (q : Quote) (a b c : ℕ) (bytes more : List ℕ) → IsQuote q → Kept (piece_at q (a ∷ b ∷ c ∷ bytes)) (piece_at q (a ∷ b ∷ c ∷ (bytes ++ more)))
piece-shown q a b c bytes more is =
    piece-kept q a (b ∷ c ∷ bytes) more (prefix-shown q.closer (a ∷ b ∷ c ∷ bytes) more (omega (arith, is.1))) (λ _. escape-kept q.in_clob b (c ∷ bytes) more (λ e. absurd (cc e))) (λ _ e. absurd (cc e))

-- ---- no piece is cut where twelve bytes are shown

whole-if : (b : Bool) (x y : Piece) → IsWhole x → IsWhole y → IsWhole (if b then x else y)
whole-if true x y wx wy = wx
whole-if false x y wx wy = wy

-- so many digits are there, and so many bytes after them
abbrev HexWhole : ℕ → Hex → Type 0
HexWhole j (number n after) = j ≤ length after
HexWhole j no_digit = Unit {0}
HexWhole j cut_digits = ⊥

hex-whole-if : (j : ℕ) (is : Bool) (h : Hex) → HexWhole j h → HexWhole j (elim is [ true ↦ h | false ↦ no_digit ])
hex-whole-if j true h w = w
hex-whole-if j false h w = tt

hex-whole : (k j n : ℕ) (bytes : List ℕ) → k + j ≤ length bytes → HexWhole j (hex_after k n bytes)
unfolding hex_after
hex-whole zero j n bytes le = omega (arith, le)
hex-whole (suc k) j n [] le = absurd (omega (arith, le))
hex-whole (suc k) j n (b ∷ bytes) le =
    hex-whole-if j (is_hex_digit b) (hex_after k (16 * n + digit_value b) bytes) (hex-whole k j (16 * n + digit_value b) bytes (omega (arith, le)))

code-whole : (c taken : ℕ) → IsWhole (quoted.by_code c taken)
code-whole c taken = whole-if (nat_le c 0x10FFFF && not (is_between 0xD800 0xDFFF c)) _ _ tt tt

low-whole : (high : ℕ) (h : Hex) → HexWhole 0 h → IsWhole (quoted.low_half high h)
low-whole high (number low after) w = whole-if (quoted.is_low_surrogate low) (quoted.by_code (quoted.pair high low) 12) illegal (code-whole (quoted.pair high low) 12) tt
low-whole high no_digit w = tt
low-whole high cut_digits w = absurd w

after-whole : (high : ℕ) (after : List ℕ) → 6 ≤ length after → IsWhole (quoted.low_after high after)
after-whole high [] le = absurd (omega (arith, le))
after-whole high (b ∷ []) le = absurd (omega (arith, le))
after-whole high (b ∷ c ∷ bytes) le =
    whole-if (b == 92 && c == 117) (quoted.low_half high (hex_after 4 0 bytes)) illegal (low-whole high (hex_after 4 0 bytes) (hex-whole 4 0 0 bytes (omega (arith, le)))) tt

byte-whole : (in_clob : Bool) (h : Hex) → HexWhole 0 h → IsWhole (quoted.byte_code in_clob h)
byte-whole true (number n after) w = tt
byte-whole false (number n after) w = code-whole n 4
byte-whole true no_digit w = tt
byte-whole false no_digit w = tt
byte-whole true cut_digits w = absurd w
byte-whole false cut_digits w = absurd w

short_code-whole : (h : Hex) → HexWhole 6 h → IsWhole (quoted.short_code h)
short_code-whole (number n after) w = whole-if (quoted.is_high_surrogate n) (quoted.low_after n after) (quoted.by_code n 6) (after-whole n after w) (code-whole n 6)
short_code-whole no_digit w = tt
short_code-whole cut_digits w = absurd w

long_code-whole : (h : Hex) → HexWhole 0 h → IsWhole (quoted.long_code h)
long_code-whole (number n after) w = code-whole n 10
long_code-whole no_digit w = tt
long_code-whole cut_digits w = absurd w

coded-whole : (in_clob : Bool) (e : ℕ) (bytes : List ℕ) → 10 ≤ length bytes → IsWhole (quoted.coded in_clob e bytes)
coded-whole in_clob e bytes le =
    whole-if (e == 120) _ _ (byte-whole in_clob (hex_after 2 0 bytes) (hex-whole 2 0 0 bytes (omega (arith, le))))
    (whole-if in_clob illegal _ tt
    (whole-if (e == 117) _ _ (short_code-whole (hex_after 4 0 bytes) (hex-whole 4 6 0 bytes (omega (arith, le))))
    (whole-if (e == 85) _ _ (long_code-whole (hex_after 8 0 bytes) (hex-whole 8 0 0 bytes (omega (arith, le)))) tt)))

letter-whole : (in_clob : Bool) (e : ℕ) (bytes : List ℕ) (o : Option ℕ) → 10 ≤ length bytes → IsWhole (quoted.by_letter o in_clob e bytes)
letter-whole in_clob e bytes (Some c) le = tt
letter-whole in_clob e bytes None le = coded-whole in_clob e bytes le

escape-whole : (in_clob : Bool) (bytes : List ℕ) → 11 ≤ length bytes → IsWhole (quoted.escape in_clob bytes)
escape-whole in_clob [] le = absurd (omega (arith, le))
escape-whole in_clob (e ∷ bytes) le = whole-if (e == 10 || e == 13) _ _ tt (letter-whole in_clob e bytes (quoted.letter e) (omega (arith, le)))

raw-whole : (q : Quote) (b : ℕ) (bytes : List ℕ) → IsWhole (quoted.raw q b bytes)
raw-whole q b bytes = whole-if (q.is_long && (b == 10 || b == 13)) _ _ tt (whole-if (quoted.is_raw q b) _ _ tt tt)

-- no piece is cut where twelve bytes are shown
pub piece-whole : (q : Quote) (bytes : List ℕ) → 12 ≤ length bytes → IsWhole (piece_at q bytes)
unfolding piece_at
piece-whole q [] le = absurd (omega (arith, le))
piece-whole q (b ∷ bytes) le =
    whole-if (begins_with q.closer (b ∷ bytes)) (close (length q.closer)) _ tt
    (whole-if (b == 92) (quoted.escape q.in_clob bytes) (quoted.raw q b bytes) (escape-whole q.in_clob bytes (omega (arith, le))) (raw-whole q b bytes))
