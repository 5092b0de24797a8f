-- Which bytes between quotes may stand for something else than themselves, as vectors test it.
use Rattle.std.proofs.Common.{◌≡◌, ℕ, ◌+◌, ◌<◌, ◌≤◌, Bool, true, false, not, eqb, leb, ◌%◌, ◌==◌, ◌&&◌, ◌||◌, nat_le, nat_lt, List, [], ◌∷◌, map, take, drop, length, slice_index, suc, refl, sym, ap, ap₂, subst, ◌∙◌, ◌≢◌, arith}
use Rattle.std.proofs.lemmas.Bool.{agree_below_at, and_parts, and_right, or_right, ne_eqb, le-leb}
use Rattle.std.proofs.lemmas.List.{drop-drop, length-drop}
use Rattle.std.proofs.Math.Seq.{drop-cons}
use Rattle.std.specs.List.{prefix_len}
use lib.Lanes.{chunk, mask_l}
use lib.Count.{count_trailing_zeros}
use Rattle.ion_value.specs.Digits.{first_is, all_are}
use Rattle.ion_value.specs.Name.{is_one_of}
use Rattle.ion_text_in.specs.Scanning.{is_plain_byte}
use Rattle.ion_text_in.specs.Quotes.{quote_of, mark_of, is_sure}
use Rattle.ion_text_in.specs.declared.quoted.Quote.{Quote as CodeQuote}
use Rattle.ion_text_in.proofs.Quotes.{all-after, plain_mark}
use Rattle.ion_text_in.proofs.Blocks.{all_pass, run_passes, run_ends, run_at}

-- a byte as it is counted round from the space
abbrev pub round : ℕ → ℕ
round x = (x + 224) % 256

-- the first of the others, so counted
abbrev pub others_of : Bool → ℕ
others_of true = 96
others_of false = 224

abbrev stands : Bool → ℕ → Bool
stands in_clob x = nat_le 32 x && (not in_clob || nat_lt x 128)

others : (in_clob : Bool) (x : ℕ) → x < 256 → leb (others_of in_clob) (round x) ≡ not (stands in_clob x)
others true x h = agree_below_at (λ x. leb 96 (round x)) (λ x. not (stands true x)) 256 x refl h
others false x h = agree_below_at (λ x. leb 224 (round x)) (λ x. not (stands false x)) 256 x refl h

beside : (m b r o : Bool) → o ≡ not r → ((m || b) || o) ≡ not (not m && not b && r)
beside true b r o e = refl
beside false true r o e = refl
beside false false r o e = e

pub suspect : (mark : ℕ) (in_clob : Bool) (x : ℕ) → x < 256 → ((eqb mark x || eqb x 92) || leb (others_of in_clob) (round x)) ≡ not (is_sure mark in_clob x)
suspect mark in_clob x h = beside (eqb mark x) (eqb x 92) (stands in_clob x) (leb (others_of in_clob) (round x)) (others in_clob x h)

-- ---- bytes that are not suspect are plain

spared : (m e g c d w l : Bool) → (not m && not e && (g && c)) ≡ true → (c ≡ true → d ≡ true) → (not m && not e && (((g || w) && d) || l)) ≡ true
spared false false true true d w l e k = rw (k refl) refl
spared false false true false d w l e k = absurd (cc e)
spared false false false c d w l e k = absurd (cc e)
spared false true g c d w l e k = absurd (cc e)
spared true e' g c d w l e k = absurd (cc e)

-- as a test tells that is no weaker than the quotes' own
abbrev Tells : CodeQuote → Bool → Type 0
Tells q in_clob = (low : Bool) → (not in_clob || low) ≡ true → (not (quote_of q).in_clob || low) ≡ true

all-sure : (q : CodeQuote) (in_clob : Bool) (xs : List ℕ) → Tells q in_clob → all_are (is_sure (mark_of q) in_clob) xs ≡ true → all_are (is_plain_byte (quote_of q)) xs ≡ true
all-sure q in_clob [] tells e = refl
all-sure q in_clob (b ∷ xs) tells e =
    let both = and_parts (is_sure (mark_of q) in_clob b) (all_are (is_sure (mark_of q) in_clob) xs) e in
    let plain = plain_mark q b
    ∙ spared (mark_of q == b) (b == 92) (nat_le 32 b) (not in_clob || nat_lt b 128) (not (quote_of q).in_clob || nat_lt b 128) (is_one_of (9 ∷ 11 ∷ 12 ∷ []) b) ((quote_of q).is_long && b == 10) both.0
    (tells (nat_lt b 128)) in
    ap₂ (λ y z. y && z) plain (all-sure q in_clob xs tells both.1)

-- a suspect that is no control character is not plain
not_spared : (m e g c w l : Bool) → (not m && not e && (g && c)) ≡ false → g ≡ true → l ≡ false → (not m && not e && (((g || w) && c) || l)) ≡ false
not_spared true e g c w l none is no_line = refl
not_spared false true g c w l none is no_line = refl
not_spared false false true c w l none is no_line = rw (none, no_line) refl
not_spared false false false c w l none is no_line = absurd (cc is)

pub suspect-other : (q : CodeQuote) (b : ℕ) → is_sure (mark_of q) (quote_of q).in_clob b ≡ false → 32 ≤ b → is_plain_byte (quote_of q) b ≡ false
suspect-other q b none le =
    let no_line : ((quote_of q).is_long && b == 10) ≡ false = and_right (quote_of q).is_long (b == 10) (ne_eqb b 10 (omega (arith, le))) in
    plain_mark q b
    ∙ not_spared (mark_of q == b) (b == 92) (nat_le 32 b) (not (quote_of q).in_clob || nat_lt b 128) (is_one_of (9 ∷ 11 ∷ 12 ∷ []) b) ((quote_of q).is_long && b == 10) none (le-leb 32 b le) no_line

-- ---- a run of plain bytes, seen a block at a time

pub at-other : (test : ℕ → Bool) (bytes : List ℕ) (n : ℕ) → n < length bytes → test (slice_index bytes n) ≡ false → first_is test (drop n bytes) ≡ false
at-other test bytes n there none =
    let cons : drop n bytes ≡ slice_index bytes n ∷ drop (suc n) bytes = drop-cons bytes n 0 there in
    rw cons none

from-other : (test : ℕ → Bool) (bytes : List ℕ) (n : ℕ) → n < length bytes → first_is test (drop n bytes) ≡ false → test (slice_index bytes n) ≡ false
from-other test bytes n there none =
    let cons : drop n bytes ≡ slice_index bytes n ∷ drop (suc n) bytes = drop-cons bytes n 0 there in
    rw cons at none

module _ (q : CodeQuote) (bytes : List ℕ) (at found : ℕ) (same : found ≡ mask_l (map (λ b. not (is_sure (mark_of q) (quote_of q).in_clob b)) (chunk at 32 bytes))) where
  abbrev sure : ℕ → Bool
  sure = is_sure (mark_of q) (quote_of q).in_clob

  abbrev plain : ℕ → Bool
  plain = is_plain_byte (quote_of q)

  -- over a block without a suspect
  pub over-block : all_are plain (take at bytes) ≡ true → found ≡ 0 → all_are plain (take (at + 32) bytes) ≡ true
  over-block before none = all-after plain bytes at 32 before (all-sure q (quote_of q).in_clob (chunk at 32 bytes) (λ _ e. e) (all_pass sure (chunk at 32 bytes) (sym same ∙ none)))

  -- up to the first suspect of a block
  pub to-suspect : at + 32 ≤ length bytes → all_are plain (take at bytes) ≡ true → found ≢ 0
      → (at + count_trailing_zeros 64 found < length bytes) × (all_are plain (take (at + count_trailing_zeros 64 found) bytes) ≡ true) × (sure (slice_index bytes (at + count_trailing_zeros 64 found)) ≡ false)
  to-suspect room before some =
      let n = count_trailing_zeros 64 found in
      let run = run_at sure bytes at 32 room (omega arith) (omega (arith, same, some)) in
      let count : prefix_len sure (drop at bytes) ≡ n = run.0 ∙ sym (ap (count_trailing_zeros 64) same) in
      let there : at + n < length bytes = omega (arith, run.0, run.1, count, room) in
      let passes = subst (λ (k : ℕ). all_are sure (take k (drop at bytes)) ≡ true) count (run_passes sure (drop at bytes)) in
      let within : prefix_len sure (drop at bytes) < length (drop at bytes) = omega (arith, count, there, length-drop at bytes) in
      let end : first_is sure (drop n (drop at bytes)) ≡ false = subst (λ (k : ℕ). first_is sure (drop k (drop at bytes)) ≡ false) count (run_ends sure (drop at bytes) within) in
      let after = rw (drop-drop n at bytes) at end in (
        there,
        all-after plain bytes at n before (all-sure q (quote_of q).in_clob (take n (drop at bytes)) (λ _ e. e) passes),
        from-other sure bytes (at + n) there after,
      )

-- over one byte that is plain
pub over-one : (test : ℕ → Bool) (bytes : List ℕ) (n : ℕ) → n < length bytes → all_are test (take n bytes) ≡ true → test (slice_index bytes n) ≡ true
    → all_are test (take (n + 1) bytes) ≡ true
over-one test bytes n there before one =
    let cons : drop n bytes ≡ slice_index bytes n ∷ drop (suc n) bytes = drop-cons bytes n 0 there in
    all-after test bytes n 1 before (rw (cons, one) refl)

-- ---- a text of ASCII alone, in one block

low : (m e g c : Bool) → (not m && not e && (g && (false || c))) ≡ true → c ≡ true
low true e' g c e = absurd (cc e)
low false true g c e = absurd (cc e)
low false false false c e = absurd (cc e)
low false false true c e = e

all-low : (mark : ℕ) (xs : List ℕ) → all_are (is_sure mark true) xs ≡ true → all_are (λ b. nat_lt b 128) xs ≡ true
all-low mark [] e = refl
all-low mark (b ∷ xs) e =
    let both = and_parts (is_sure mark true b) (all_are (is_sure mark true) xs) e in
    ap₂ (λ y z. y && z) (low (mark == b) (b == 92) (nat_le 32 b) (nat_lt b 128) both.0) (all-low mark xs both.1)

pub ascii-plain : (q : CodeQuote) (bytes : List ℕ) (found : ℕ) → found ≡ mask_l (map (λ b. not (is_sure (mark_of q) true b)) (chunk 0 32 bytes)) → 32 ≤ length bytes → found ≢ 0
    → (count_trailing_zeros 64 found < length bytes) × (all_are (is_plain_byte (quote_of q)) (take (count_trailing_zeros 64 found) bytes) ≡ true)
    × (all_are (λ b. nat_lt b 128) (take (count_trailing_zeros 64 found) bytes) ≡ true)
ascii-plain q bytes found same room some =
    let sure : ℕ → Bool = is_sure (mark_of q) true in
    let n = count_trailing_zeros 64 found in
    let run = run_at sure bytes 0 32 room (omega arith) (omega (arith, same, some)) in
    let count : prefix_len sure bytes ≡ n = run.0 ∙ sym (ap (count_trailing_zeros 64) same) in
    let passes = subst (λ (k : ℕ). all_are sure (take k bytes) ≡ true) count (run_passes sure bytes) in
    (omega (arith, run.0, run.1, count, room), all-sure q true (take n bytes) (λ c e. or_right (not (quote_of q).in_clob) c e) passes, all-low (mark_of q) (take n bytes) passes)
