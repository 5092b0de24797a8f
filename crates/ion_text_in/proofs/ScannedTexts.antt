-- A text without escapes that a slice shows.
use Rattle.std.proofs.Common.{◌≡◌, ℕ, zero, suc, ◌+◌, ◌<◌, ◌≤◌, Bool, true, false, ◌||◌, List, [], ◌∷◌, ◌++◌, length, take, drop, ◌==◌, nat_lt, slice_index, Some, Ok, Err, refl, sym, ap, ◌∙◌, arith}
use Rattle.std.proofs.lemmas.List.{take-append-le, drop-append-le, drop-drop, length-append, length-take-le}
use Rattle.std.proofs.lemmas.Bool.{and_parts, lt-ltb, le-ltb, or_right}
use Rattle.std.proofs.lemmas.Bool.Decides.{nat_tests}
use Rattle.std.proofs.lemmas.Str.{is_utf8-from_IsUtf8, IsUtf8-from_ascii}
use Rattle.std.proofs.lemmas.Str.Ascii.{IsAscii-cons, IsAscii-nil}
use Rattle.std.specs.Str.{IsAscii}
use Rattle.std.proofs.Math.Seq.{drop-cons}
use Rattle.std.specs.Str.{is_utf8}
use Rattle.ion_meter.specs.declared.fault.Reason.TheVariants.{BadText, ScalarLimit}
use Rattle.ion_meter.specs.Sources.{Cursor, skip}
use Rattle.ion_value.specs.Digits.{first_is, all_are}
use Rattle.ion_value.specs.Parts.{refuse, ◌>>◌}
use Rattle.ion_text_in.specs.declared.quoted.Quote.{Quote as CodeQuote}
use Rattle.ion_text_in.specs.declared.piece.Piece.TheVariants as code_piece
use Rattle.ion_text_in.specs.Meaning.{at}
use Rattle.ion_text_in.specs.Quoted.{piece_at, text_at}
use Rattle.ion_text_in.specs.Scanning.{is_plain_byte}
use Rattle.ion_text_in.specs.Quotes.{quote_of, mark_of}
use Rattle.ion_text_in.specs.Pieces.{piece_of}
use Rattle.ion_text_in.specs.Gathered.{onward}
use Rattle.ion_text_in.proofs.Quotes.{quote_of-is}
use Rattle.ion_text_in.proofs.Gathering.{onward-plain, onward-piece}
use Rattle.ion_text_in.proofs.Still.{mark-closes}
use Rattle.ion_text_in.proofs.Segments.{segment-err, segment-bad, segment-good}
use Rattle.ion_text_in.proofs.SegmentTexts.{short-text}

-- where a mark stands
closes-there : (q : CodeQuote) (bytes more : List ℕ) (n : ℕ) → (quote_of q).is_long ≡ false → n < length bytes → slice_index bytes n ≡ mark_of q
    → piece_of (code_piece.Close 1) ≡ piece_at (quote_of q) (drop n (bytes ++ more))
closes-there q bytes more n short there mark =
    let first : drop n (bytes ++ more) ≡ drop n bytes ++ more = drop-append-le n bytes more (omega (arith, there)) in
    let cons : drop n bytes ≡ slice_index bytes n ∷ drop (suc n) bytes = drop-cons bytes n 0 there in
    mark-closes q (drop (suc n) bytes ++ more) short
    ∙ ap (λ (b : ℕ). piece_at (quote_of q) (b ∷ (drop (suc n) bytes ++ more))) (sym mark)
    ∙ ap (λ (l : List ℕ). piece_at (quote_of q) (l ++ more)) (sym cons)
    ∙ ap (λ (l : List ℕ). piece_at (quote_of q) l) (sym first)

after-two : (place n : ℕ) (bytes more : List ℕ) → n < length bytes → skip 1 (skip n (at place (bytes ++ more))) ≡ at (place + (n + 1)) (drop (n + 1) bytes ++ more)
after-two place n bytes more there =
    let where_it : (place + n) + 1 ≡ place + (n + 1) = omega arith in
    let le : n + 1 ≤ length bytes = omega (arith, there) in
    ap (λ (p : ℕ). at p (drop 1 (drop n (bytes ++ more)))) where_it
    ∙ ap (λ (l : List ℕ). at (place + (n + 1)) l) (drop-drop 1 n (bytes ++ more) ∙ drop-append-le (n + 1) bytes more le)

-- the pieces up to the mark
pieces-shown : (q : CodeQuote) (limit place n : ℕ) (bytes more : List ℕ) → (quote_of q).is_long ≡ false → all_are (is_plain_byte (quote_of q)) (take n bytes) ≡ true → n < length bytes
    → slice_index bytes n ≡ mark_of q → n ≤ limit → onward (quote_of q) limit [] (at place (bytes ++ more)) ≡ Ok (take n bytes, at (place + (n + 1)) (drop (n + 1) bytes ++ more))
pieces-shown q limit place n bytes more short plain there mark within =
    let c : Cursor = at place (bytes ++ more) in
    let le : n ≤ length bytes = omega (arith, there) in
    let same : take n bytes ≡ take n (bytes ++ more) = sym (take-append-le n bytes more le) in
    let long = length-append bytes more in
    let le_all : n ≤ length (bytes ++ more) = omega (arith, le, long) in
    let count : length (take n (bytes ++ more)) ≡ n = length-take-le n (bytes ++ more) le_all in
    onward-plain (quote_of q) limit [] c n (quote_of-is q) le_all (ap (λ (l : List ℕ). all_are (is_plain_byte (quote_of q)) l) (sym same) ∙ plain) (omega arith)
    ∙ ap (λ (over : Bool). refuse over ScalarLimit >> onward (quote_of q) limit (take n (bytes ++ more)) (skip n c)) (le-ltb limit (0 + length (take n (bytes ++ more))) (omega (arith, within, count)))
    ∙ onward-piece (quote_of q) limit (take n (bytes ++ more)) (skip n c) (code_piece.Close 1) (quote_of-is q) (closes-there q bytes more n short there mark)
    ∙ ap (λ (l : List ℕ). Ok (l, skip 1 (skip n c))) (sym same)
    ∙ ap (λ (d : Cursor). Ok (take n bytes, d)) (after-two place n bytes more there)

pub text-shown : (q : CodeQuote) (limit place n : ℕ) (bytes more : List ℕ) → (quote_of q).is_long ≡ false → all_are (is_plain_byte (quote_of q)) (take n bytes) ≡ true → n < length bytes
    → slice_index bytes n ≡ mark_of q → n ≤ limit → ((quote_of q).in_clob || is_utf8 (take n bytes)) ≡ true
    → text_at (quote_of q) (Some limit) (at place (bytes ++ more)) ≡ Ok (take n bytes, at (place + (n + 1)) (drop (n + 1) bytes ++ more))
text-shown q limit place n bytes more short plain there mark within test =
    let c : Cursor = at place (bytes ++ more) in
    sym (short-text (quote_of q) limit [] c short refl)
    ∙ segment-good (quote_of q) limit [] (take n bytes) c (at (place + (n + 1)) (drop (n + 1) bytes ++ more)) (pieces-shown q limit place n bytes more short plain there mark within) test

low : (b : ℕ) → nat_lt b 128 ≡ true → b < 128
low b e = grind (arith, nat_tests)

ascii-all : (bytes : List ℕ) → all_are (λ b. nat_lt b 128) bytes ≡ true → IsAscii bytes
ascii-all [] e = IsAscii-nil
ascii-all (b ∷ bytes) e =
    let parts = and_parts (nat_lt b 128) (all_are (λ b. nat_lt b 128) bytes) e in
    IsAscii-cons b bytes (low b parts.0) (ascii-all bytes parts.1)

-- a text of ASCII
pub ascii-shown : (q : CodeQuote) (limit place n : ℕ) (bytes more : List ℕ) → (quote_of q).is_long ≡ false
    → (n < length bytes) × (all_are (is_plain_byte (quote_of q)) (take n bytes) ≡ true) × (all_are (λ b. nat_lt b 128) (take n bytes) ≡ true) → slice_index bytes n ≡ mark_of q → n ≤ limit
    → text_at (quote_of q) (Some limit) (at place (bytes ++ more)) ≡ Ok (take n bytes, at (place + (n + 1)) (drop (n + 1) bytes ++ more))
ascii-shown q limit place n bytes more short run mark within =
    let good : is_utf8 (take n bytes) ≡ true = is_utf8-from_IsUtf8 (take n bytes) (IsUtf8-from_ascii (take n bytes) (ascii-all (take n bytes) run.2)) in
    text-shown q limit place n bytes more short run.1 run.0 mark within (or_right (quote_of q).in_clob (is_utf8 (take n bytes)) good)

pub text-bad : (q : CodeQuote) (limit place n : ℕ) (bytes more : List ℕ) → (quote_of q).is_long ≡ false → all_are (is_plain_byte (quote_of q)) (take n bytes) ≡ true → n < length bytes
    → slice_index bytes n ≡ mark_of q → n ≤ limit → ((quote_of q).in_clob || is_utf8 (take n bytes)) ≡ false
    → text_at (quote_of q) (Some limit) (at place (bytes ++ more)) ≡ Err BadText
text-bad q limit place n bytes more short plain there mark within test =
    let c : Cursor = at place (bytes ++ more) in
    sym (short-text (quote_of q) limit [] c short refl)
    ∙ segment-bad (quote_of q) limit [] (take n bytes) c (at (place + (n + 1)) (drop (n + 1) bytes ++ more)) (pieces-shown q limit place n bytes more short plain there mark within) test

pub text-over : (q : CodeQuote) (limit place n : ℕ) (bytes more : List ℕ) → (quote_of q).is_long ≡ false → all_are (is_plain_byte (quote_of q)) (take n bytes) ≡ true → n ≤ length bytes → limit < n
    → text_at (quote_of q) (Some limit) (at place (bytes ++ more)) ≡ Err ScalarLimit
text-over q limit place n bytes more short plain le over =
    let c : Cursor = at place (bytes ++ more) in
    let same : take n bytes ≡ take n (bytes ++ more) = sym (take-append-le n bytes more le) in
    let long = length-append bytes more in
    let count : length (take n (bytes ++ more)) ≡ n = length-take-le n (bytes ++ more) (omega (arith, le, long)) in
    sym (short-text (quote_of q) limit [] c short refl)
    ∙ segment-err (quote_of q) limit [] c ScalarLimit
    (onward-plain (quote_of q) limit [] c n (quote_of-is q) (omega (arith, le, long)) (ap (λ (l : List ℕ). all_are (is_plain_byte (quote_of q)) l) (sym same) ∙ plain) (omega arith)
    ∙ ap (λ (over : Bool). refuse over ScalarLimit >> onward (quote_of q) limit (take n (bytes ++ more)) (skip n c)) (lt-ltb limit (0 + length (take n (bytes ++ more))) (omega (arith, over, count))))

-- ---- no mark stands after plain bytes

no-mark : (mark : ℕ) (bytes : List ℕ) (n : ℕ) → length bytes ≤ n → first_is (λ b. b == mark) (drop n bytes) ≡ false
no-mark mark [] zero le = refl
no-mark mark [] (suc n) le = refl
no-mark mark (b ∷ bytes) zero le = absurd (omega (arith, le))
no-mark mark (b ∷ bytes) (suc n) le = no-mark mark bytes n (omega (arith, le))

other-byte : (b mark : ℕ) → (b ≡ mark → ⊥) → (b == mark) ≡ false
other-byte b mark other = grind (arith, nat_tests, other)

pub ends-unclosed : (mark : ℕ) (bytes : List ℕ) (n : ℕ) → n ≡ length bytes → first_is (λ b. b == mark) (drop n bytes) ≡ false
ends-unclosed mark bytes n e = no-mark mark bytes n (omega (arith, e))

pub stops-unclosed : (mark : ℕ) (bytes : List ℕ) (n : ℕ) → n < length bytes → (slice_index bytes n ≡ mark → ⊥) → first_is (λ b. b == mark) (drop n bytes) ≡ false
stops-unclosed mark bytes n there other = rw (drop-cons bytes n 0 there) (other-byte (slice_index bytes n) mark other)
