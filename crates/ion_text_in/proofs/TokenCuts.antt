-- A token under a narrower limit is the same token, which counts no more, or the same fault, which is no limit's, or it is the
-- limit's fault, and where it is a token under the wider, this counts more.
use Rattle.std.proofs.Common.{◌≡◌, ℕ, zero, suc, ◌+◌, ◌-◌, ◌^◌, ◌≤◌, Bool, true, false, not, ◌&&◌, ◌||◌, if◌then◌else◌, neg_ℤ, List, [], ◌∷◌, ◌++◌, length, take, drop, codes, nat_lt, Option, Some, None, Result, Ok, Err, refl, sym, ap, subst, ◌∙◌, arith}
use Rattle.std.proofs.lemmas.Bool.{le-ltb, lt-ltb, ltb-true, ltb-false}
use Rattle.std.proofs.lemmas.List.{length-append}
use Rattle.std.specs.Result.{IfOk}
use Rattle.std.specs.Str.{is_utf8}
use Rattle.base64.specs.Engines.{standard}
use Rattle.base64.specs.GeneralPurpose.{decoded_of}
use Rattle.ion_meter.specs.declared.fault.Reason.{Reason}
use Rattle.ion_meter.specs.declared.fault.Reason.TheVariants as reason
use Rattle.ion_value.specs.declared.decimal.Decimal.{Decimal}
use Rattle.ion_value.specs.declared.int.Int.{Int}
use Rattle.ion_value.specs.declared.timestamp.Precision.TheVariants as precision
use Rattle.ion_value.specs.declared.timestamp.Timestamp.{Timestamp}
use Rattle.ion_value.specs.Decimal.{Parts, parts_of, is_decimal, is_float, decimal_of_parts, decimal_of_text}
use Rattle.ion_value.specs.Digits.{is_hex_digit, is_binary_digit, digits_value, is_whole, first_is, has_minus, without_minus, cut_at}
use Rattle.ion_value.specs.Int.{int_in_range, is_based, int_of_text}
use Rattle.ion_value.specs.Name.{Keyword, a_null, begins_with, keyword}
use Rattle.ion_value.specs.Scalar.{scalar_of_readings, scalar_of_run}
use Rattle.ion_value.specs.Timestamp as timestamps
use Rattle.ion_value.specs.Timestamp.{is_moment, utc_of, timestamp_of_text}
use Rattle.ion_value.specs.Value as value
use Rattle.ion_value.specs.Value.{SymbolAt, Scalar}
use Rattle.ion_value.proofs.Faults.{Blames, then_blames, if_blames, is_limit, Free, free, fault_free, refuse_free, either-free, years-free}
use Rattle.ion_meter.specs.Sources.{Cursor, skip}
use Rattle.ion_value.specs.Parts.{refuse, ◌>>=◌, ◌>>◌}
use Rattle.ion_text_in.specs.Places.{after_run}
use Rattle.ion_text_in.specs.Limit.{passes}
use Rattle.ion_text_in.specs.Blanks.{is_white}
use Rattle.ion_text_in.specs.Quoted.{Quote, symbol_quote, short_quote, long_quote, Piece, char, close, illegal, cut, piece_at, with_piece, pieces_for, segment_at, next_segment, with_segments, segments_for, text_at}
use Rattle.ion_text_in.specs.Lob as lob
use Rattle.ion_text_in.specs.Lob.{group_of, groups_for, lob_at}
use Rattle.ion_text_in.specs.Meaning.{counts}
use Rattle.ion_text_in.specs.Token as tokens
use Rattle.ion_text_in.specs.Token.{First, a_word, a_quoted, a_short, a_long, a_run, a_lob, an_operator, an_infinity, no_token, Token, plain, name, text, operator, bytes_of, in_run, in_operator, word_of, counted, token_of, run_token, word_token}
use Rattle.ion_text_in.proofs.RunTokens.{scalar_token-blames}
use Rattle.ion_text_in.proofs.TokenLimits.{got, CountsAll, run_token-counts, word_token-counts}
use Rattle.ion_value.proofs.WentWell.{if-any, if-passed, if-more}

-- ---- a result, or a limit's fault in its place

-- the first result is the second, of which something holds, or a fault, of which and the second something holds
pub data Cut {A E : Type 0} (F : Result A E → Type 0) (L : E → Result A E → Type 0) : Result A E → Result A E → Type 0 where
  same : (r : Result A E) → F r → Cut F L r r
  limit : (e : E) (w : Result A E) → L e w → Cut F L (Err e) w

-- it stays so through what follows
pub bind-Cut : {A B E : Type 0} (F : Result A E → Type 0) (G : Result B E → Type 0) (L : E → Result A E → Type 0) (M : E → Result B E → Type 0) (r w : Result A E) (f g : A → Result B E)
    → ((e : E) → F (Err e) → G (Err e)) → ((e : E) (w : Result A E) → L e w → M e (w >>= g)) → Cut F L r w
    → ((x : A) → r ≡ Ok x → F (Ok x) → Cut G M (f x) (g x)) → Cut G M (r >>= f) (w >>= g)
bind-Cut F G L M _ _ f g faults limits (same (Ok x) holds) h = h x refl holds
bind-Cut F G L M _ _ f g faults limits (same (Err e) holds) h = same (Err e) (faults e holds)
bind-Cut F G L M _ _ f g faults limits (limit e w is) h = limit e (w >>= g) (limits e w is)

-- ---- counts and a limit

passes-more : (limits : Option ℕ) (n m : ℕ) → n ≤ m → passes limits n ≡ true → passes limits m ≡ true
passes-more None n m le e = e
passes-more (Some most) n m le e = lt-ltb most m (let more = ltb-true most n e in omega (arith, le, more))

pub passes-fewer : (limits : Option ℕ) (n m : ℕ) → n ≤ m → passes limits m ≡ false → passes limits n ≡ false
passes-fewer None n m le e = refl
passes-fewer (Some most) n m le e = le-ltb most n (let fewer = ltb-false most m e in omega (arith, le, fewer))

passes-none : (limits : Option ℕ) → passes limits 0 ≡ false
passes-none None = refl
passes-none (Some most) = le-ltb most 0 (omega arith)

-- ---- runs

range-free : (negative : Bool) (n : ℕ) → Blames Free (int_in_range negative n)
range-free negative n = either-free (nat_lt n (2 ^ 128)) (record { negative = negative && nat_lt 0 n; magnitude = n }) reason.Range refl

int-free : (run : List ℕ) → Blames Free (int_of_text run)
unfolding int_of_text
int-free run =
    if_blames Free (is_whole (without_minus run)) _ _ (range-free (has_minus run) (digits_value 10 (without_minus run)))
    (if_blames Free (is_based 120 88 is_hex_digit (without_minus run)) _ _ (range-free (has_minus run) (digits_value 16 (drop 2 (without_minus run))))
    (if_blames Free (is_based 98 66 is_binary_digit (without_minus run)) _ _ (range-free (has_minus run) (digits_value 2 (drop 2 (without_minus run)))) (fault_free reason.BadToken refl)))

parts-free : (negative : Bool) (p : Parts) → Blames Free (decimal_of_parts negative p)
parts-free negative p =
    if_blames Free (is_decimal p) _ _ (either-free _ _ reason.Range refl)
    (if_blames Free (is_float p) _ _ (fault_free reason.Float refl) (fault_free reason.BadToken refl))

decimal-free : (run : List ℕ) → Blames Free (decimal_of_text run)
unfolding decimal_of_text
decimal-free run = parts-free (has_minus run) (parts_of (without_minus run))

utc-free : (t : Timestamp) → Blames Free (utc_of t)
unfolding utc_of
utc-free t = years-free (timestamps.moved (neg_ℤ (timestamps.offset_minutes t)) t)

with_utc-free : (t : Timestamp) (r : Result Timestamp Reason) → Blames Free r → Blames Free (timestamps.with_utc t r)
with_utc-free t (Ok utc) c = record { so = tt }
with_utc-free t (Err why) c = record { so = c.so }

date-free : (t : Timestamp) → Blames Free (timestamps.date_in_range t)
date-free t = either-free (is_moment t) t reason.BadTimestamp refl

time-free : (fits : Bool) (t : Timestamp) → Blames Free (timestamps.time_in_range fits t)
time-free fits t = if_blames Free (is_moment t && fits) _ _ (with_utc-free t (utc_of t) (utc-free t)) (fault_free reason.BadTimestamp refl)

-- the time that a run with these seconds and this offset spells
abbrev time_at : List ℕ → List ℕ → List ℕ → Timestamp
time_at run seconds offset = record {
  precision = timestamps.precision_of_seconds (length seconds);
  year = timestamps.digits_at 0 4 run;
  month = timestamps.digits_at 5 2 run;
  day = timestamps.digits_at 8 2 run;
  hour = timestamps.digits_at 11 2 run;
  minute = timestamps.digits_at 14 2 run;
  second = timestamps.digits_at 1 2 seconds;
  fraction = timestamps.digits_at 4 (length seconds) seconds;
  offset = timestamps.offset_of_text offset;
}

time_of-free : (run seconds offset : List ℕ) → Blames Free (timestamps.time_of_parts run seconds offset)
time_of-free run seconds offset =
    if_blames Free (timestamps.has_seconds_shape seconds && timestamps.has_offset_shape offset) _ _
    (if_blames Free (nat_lt 38 (length (drop 4 seconds))) (Err reason.Range) (timestamps.time_in_range (timestamps.is_text_offset offset) (time_at run seconds offset))
    (fault_free reason.Range refl) (time-free (timestamps.is_text_offset offset) (time_at run seconds offset)))
    (fault_free reason.BadToken refl)

timestamp-free : (run : List ℕ) → Blames Free (timestamp_of_text run)
unfolding timestamp_of_text
timestamp-free run =
    if_blames Free (timestamps.looks_like (codes "0000T") run) _ _ (date-free (timestamps.fields precision.Year (timestamps.digits_at 0 4 run) 1 1 0 0 0 0))
    (if_blames Free (timestamps.looks_like (codes "0000-00T") run) _ _ (date-free (timestamps.fields precision.Month (timestamps.digits_at 0 4 run) (timestamps.digits_at 5 2 run) 1 0 0 0 0))
    (if_blames Free (timestamps.looks_like (codes "0000-00-00") run || timestamps.looks_like (codes "0000-00-00T") run) _ _
    (date-free (timestamps.fields precision.Day (timestamps.digits_at 0 4 run) (timestamps.digits_at 5 2 run) (timestamps.digits_at 8 2 run) 0 0 0 0))
    (if_blames Free (timestamps.looks_like (codes "0000-00-00T00:00") (take 16 run)) _ _
    (time_of-free run (cut_at timestamps.is_offset_mark (drop 16 run)).0 (cut_at timestamps.is_offset_mark (drop 16 run)).1) (fault_free reason.BadToken refl))))

readings-free : (i : Result Int Reason) (d : Result Decimal Reason) (t : Result Timestamp Reason) → Blames Free i → Blames Free d → Blames Free t
    → Blames {A = Scalar SymbolAt} Free (scalar_of_readings i d t)
readings-free (Ok n) d t a b c = record { so = tt }
readings-free (Err reason.BadToken) (Ok n) t a b c = record { so = tt }
readings-free (Err reason.BadToken) (Err reason.BadToken) (Ok n) a b c = record { so = tt }
readings-free (Err reason.BadToken) (Err reason.BadToken) (Err why) a b c = record { so = c.so }
readings-free (Err reason.BadToken) (Err why) t a b c = record { so = b.so }
readings-free (Err why) d t a b c = record { so = a.so }

run-free : (run : List ℕ) → Blames {A = Scalar SymbolAt} Free (scalar_of_run run)
unfolding scalar_of_run
run-free run = readings-free (int_of_text run) (decimal_of_text run) (timestamp_of_text run) (int-free run) (decimal-free run) (timestamp-free run)

-- ---- words and lobs are at fault for no limit

word_token-free : (word : List ℕ) → Blames Free (word_token word)
unfolding word_token
word_token-free word = by (keyword word)
  where
    by : (k : Option Keyword) → Blames Free (tokens.by_keyword k word)
    by (Some (a_null None)) = fault_free reason.BadToken refl
    by (Some (a_null (Some type))) = record { so = tt }
    by k = record { so = tt }

braces-free : (bytes : List ℕ) → Blames Free (lob.braces bytes)
braces-free [] = fault_free reason.Truncated refl
braces-free (b ∷ []) = if_blames Free _ _ _ (fault_free reason.Truncated refl) (fault_free reason.BadLob refl)
braces-free (b ∷ c ∷ bytes) = refuse_free _ reason.BadLob refl

closed-free : (c : Cursor) → Blames Free (lob.closed_at c)
closed-free c = then_blames Free (lob.braces c.rest) (Ok (skip 2 c)) (braces-free c.rest) (record { so = tt })

decoded-free : (padded : Bool) (o : Option (List ℕ)) → Blames Free (elim o [ Some bytes ↦ if padded then Err reason.BadLob else Ok bytes | None ↦ Err reason.BadLob ])
decoded-free padded (Some bytes) = if_blames Free padded _ _ (fault_free reason.BadLob refl) (record { so = tt })
decoded-free padded None = fault_free reason.BadLob refl

-- ---- under two limits

-- bytes count with those before them
abbrev after : ℕ → List ℕ × Cursor → ℕ
after count x = count + length x.0

-- what the scalar of a token at a place counts
abbrev scalar_counts : ℕ → Scalar SymbolAt × Cursor → ℕ
scalar_counts p x = counts (plain x.0) p x.1.place

-- what a token at a place counts
abbrev pub token_counts : ℕ → Token × Cursor → ℕ
token_counts p x = counts x.0 p x.1.place

abbrev given : List ℕ × Cursor → Result (List ℕ × Cursor) Reason
given x = Ok x

module _ (limits wide : Option ℕ) (within : (n : ℕ) → passes wide n ≡ true → passes limits n ≡ true) where
  -- the value counts no more than the limit, or the fault is no limit's
  abbrev pub Kept : {A : Type 0} → (A → ℕ) → Result A Reason → Type 0
  Kept size (Ok x) = passes limits (size x) ≡ false
  Kept size (Err why) = Free why

  -- the token's limit is at fault, and the value counts more
  abbrev pub Passed : {A : Type 0} → (A → ℕ) → Reason → Result A Reason → Type 0
  Passed size why w = (why ≡ reason.ScalarLimit) × IfOk w (λ x. passes limits (size x) ≡ true)

  abbrev pub Short : {A : Type 0} → (A → ℕ) → Result A Reason → Result A Reason → Type 0
  Short size r w = Cut (Kept size) (Passed size) r w

  bad : {A : Type 0} (size : A → ℕ) (why : Reason) → is_limit why ≡ false → Short size (Err why) (Err why)
  bad size why e = same (Err why) (free why e)

  cut-if : {A : Type 0} (size : A → ℕ) (b : Bool) (x y u v : Result A Reason) → Short size x u → Short size y v → Short size (if b then x else y) (if b then u else v)
  cut-if size true x y u v kx ky = kx
  cut-if size false x y u v kx ky = ky

  onward : {A B : Type 0} (size : A → ℕ) (total : B → ℕ) (r w : Result A Reason) (f g : A → Result B Reason) → Short size r w → ((x : A) → IfOk (g x) (λ y. size x ≤ total y))
      → ((x : A) → passes limits (size x) ≡ false → Short total (f x) (g x)) → Short total (r >>= f) (w >>= g)
  onward {A = A} size total r w f g short more h = bind-Cut (Kept size) (Kept total) (Passed size) (Passed total) r w f g (λ e free. free) further short (λ x _ kept. h x kept)
    where
      further : (why : Reason) (w : Result A Reason) → Passed size why w → Passed total why (w >>= g)
      further why (Ok x) is = (is.0, if-more _ _ (g x) (more x) (λ y le. passes-more limits (size x) (total y) le is.1))
      further why (Err e) is = (is.0, tt)

  -- what is done with a result that counts as much
  map-cut : {A B : Type 0} (size : A → ℕ) (total : B → ℕ) (r w : Result A Reason) (k : A → B) → ((x : A) → total (k x) ≡ size x) → Short size r w
      → Short total (r >>= (λ x. Ok (k x))) (w >>= (λ x. Ok (k x)))
  map-cut size total r w k counts short =
      onward size total r w (λ x. Ok (k x)) (λ x. Ok (k x)) short (λ x. omega (arith, counts x)) (λ x kept. same _ (ap (passes limits) (counts x) ∙ kept))

  -- a step without a count before one
  before-cut : {A B : Type 0} (total : B → ℕ) (o : Result A Reason) (f g : A → Result B Reason) → Blames Free o → ((x : A) → Short total (f x) (g x)) → Short total (o >>= f) (o >>= g)
  before-cut total (Ok x) f g free h = h x
  before-cut total (Err why) f g free h = same (Err why) free.so

  then-cut : {A B : Type 0} (total : B → ℕ) (o : Result A Reason) (r : Result B Reason) → Blames Free o → Kept total r → Short total (o >> r) (o >> r)
  then-cut total (Ok x) r free kept = same r kept
  then-cut total (Err why) r free kept = same (Err why) free.so

  -- so much is counted, and then the rest
  passed-cut : {A : Type 0} (size : A → ℕ) (n : ℕ) (r w : Result A Reason) → IfOk w (λ x. n ≤ size x) → (passes limits n ≡ false → Short size r w)
      → Short size (refuse (passes limits n) reason.ScalarLimit >> r) (refuse (passes wide n) reason.ScalarLimit >> w)
  passed-cut size n r w more h = by (passes limits n) (passes wide n) refl refl
    where
      by : (b c : Bool) → passes limits n ≡ b → passes wide n ≡ c → Short size (refuse b reason.ScalarLimit >> r) (refuse c reason.ScalarLimit >> w)
      by true c e f = limit reason.ScalarLimit _ (refl, if-passed _ c reason.ScalarLimit w (λ _. if-more _ _ w more (λ x le. passes-more limits n (size x) le e)))
      by false true e f = absurd (cc (sym e ∙ within n f))
      by false false e f = h e

  -- bytes that are counted, and others after them
  join-cut : (count : ℕ) (bytes : List ℕ) (r w : Result (List ℕ × Cursor) Reason) → (passes limits (count + length bytes) ≡ false → Short (after (count + length bytes)) r w)
      → Short (after count) (refuse (passes limits (count + length bytes)) reason.ScalarLimit >> (r >>= (λ others. Ok (bytes ++ others.0, others.1))))
      (refuse (passes wide (count + length bytes)) reason.ScalarLimit >> (w >>= (λ others. Ok (bytes ++ others.0, others.1))))
  join-cut count bytes r w h =
      passed-cut (after count) (count + length bytes) _ _ (if-any _ w _ (λ x. omega (arith, length-append bytes x.0)))
      (λ kept. map-cut (after (count + length bytes)) (after count) r w (λ others. (bytes ++ others.0, others.1)) (λ x. omega (arith, length-append bytes x.0)) (h kept))

  -- ---- texts

  nothing : (count : ℕ) → passes limits count ≡ false → passes limits (count + 0) ≡ false
  nothing count kept = passes-fewer limits (count + 0) count (omega arith) kept

  with_piece-cut : (later more : ℕ → Cursor → Result (List ℕ × Cursor) Reason) (q : Quote) (count : ℕ) (c : Cursor) (piece : Piece) → passes limits count ≡ false
      → ((n : ℕ) (d : Cursor) → passes limits n ≡ false → Short (after n) (later n d) (more n d)) → Short (after count) (with_piece later q limits count c piece) (with_piece more q wide count c piece)
  with_piece-cut later more q count c (char bytes taken) kept h =
      join-cut count bytes (later (count + length bytes) (skip taken c)) (more (count + length bytes) (skip taken c)) (h (count + length bytes) (skip taken c))
  with_piece-cut later more q count c (close taken) kept h = same _ (nothing count kept)
  with_piece-cut later more q count c illegal kept h = by q.in_clob
    where
      by : (in_clob : Bool) → Short (after count) (Err (if in_clob then reason.BadLob else reason.BadText)) (Err (if in_clob then reason.BadLob else reason.BadText))
      by true = bad (after count) reason.BadLob refl
      by false = bad (after count) reason.BadText refl
  with_piece-cut later more q count c cut kept h = bad (after count) reason.Truncated refl

  pieces-cut : (most : ℕ) (q : Quote) (count : ℕ) (c : Cursor) → passes limits count ≡ false → Short (after count) (pieces_for most q limits count c) (pieces_for most q wide count c)
  unfolding pieces_for
  pieces-cut zero q count c kept = bad (after count) reason.Truncated refl
  pieces-cut (suc most) q count c kept =
      with_piece-cut (λ n d. pieces_for most q limits n d) (λ n d. pieces_for most q wide n d) q count c (piece_at q c.rest) kept (λ n d less. pieces-cut most q n d less)

  segment-cut : (q : Quote) (count : ℕ) (c : Cursor) → passes limits count ≡ false → Short (after count) (segment_at q limits count c) (segment_at q wide count c)
  unfolding segment_at
  segment-cut q count c kept =
      onward (after count) (after count) (pieces_for (suc (length c.rest)) q limits count c) (pieces_for (suc (length c.rest)) q wide count c) _ _ (pieces-cut (suc (length c.rest)) q count c kept)
      (λ s. if-passed _ (not (q.in_clob || is_utf8 s.0)) reason.BadText (Ok s) (λ _. omega arith))
      (λ s less. then-cut (after count) (refuse (not (q.in_clob || is_utf8 s.0)) reason.BadText) (Ok s) (refuse_free (not (q.in_clob || is_utf8 s.0)) reason.BadText refl) less)

  with_segments-cut : (later more : Cursor → Result (List ℕ × Cursor) Reason) (count : ℕ) (s : List ℕ × Cursor) (o : Option Cursor) → passes limits (count + length s.0) ≡ false
      → ((d : Cursor) → Short (after (count + length s.0)) (later d) (more d)) → Short (after count) (with_segments later s o) (with_segments more s o)
  with_segments-cut later more count s None kept h = same _ kept
  with_segments-cut later more count s (Some d) kept h =
      map-cut (after (count + length s.0)) (after count) (later d) (more d) (λ others. (s.0 ++ others.0, others.1)) (λ x. omega (arith, length-append s.0 x.0)) (h d)

  with_segments-more : (more : Cursor → Result (List ℕ × Cursor) Reason) (count : ℕ) (s : List ℕ × Cursor) (o : Option Cursor) → IfOk (with_segments more s o) (λ y. count + length s.0 ≤ count + length y.0)
  with_segments-more more count s None = omega arith
  with_segments-more more count s (Some d) = if-any _ (more d) _ (λ x. omega (arith, length-append s.0 x.0))

  segments-cut : (most : ℕ) (q : Quote) (count : ℕ) (c : Cursor) → passes limits count ≡ false → Short (after count) (segments_for most q limits count c) (segments_for most q wide count c)
  unfolding segments_for
  segments-cut zero q count c kept = bad (after count) reason.Truncated refl
  segments-cut (suc most) q count c kept =
      onward (after count) (after count) (segment_at q limits count c) (segment_at q wide count c) _ _ (segment-cut q count c kept)
      (λ s. with_segments-more (λ d. segments_for most q wide (count + length s.0) d) count s (next_segment q s.1))
      (λ s less. with_segments-cut (λ d. segments_for most q limits (count + length s.0) d) (λ d. segments_for most q wide (count + length s.0) d) count s (next_segment q s.1) less
      (λ d. segments-cut most q (count + length s.0) d less))

  text-cut : (q : Quote) (c : Cursor) → Short (after 0) (text_at q limits c) (text_at q wide c)
  text-cut q c = segments-cut (suc (length c.rest)) q 0 c (passes-none limits)

  -- ---- lobs

  last_group-cut : (count : ℕ) (group : List ℕ) (c : Cursor) → passes limits count ≡ false → Short (after count) (lob.last_group group c) (lob.last_group group c)
  last_group-cut count [] c kept = before-cut (after count) (lob.closed_at c) _ _ (closed-free c) (λ d. same _ (nothing count kept))
  last_group-cut count (b ∷ group) c kept = then-cut (after count) (lob.closed_at c) (Err reason.BadLob) (closed-free c) (free reason.BadLob refl)

  groups-cut : (most count : ℕ) (padded : Bool) (c : Cursor) → passes limits count ≡ false → Short (after count) (groups_for most limits count padded c) (groups_for most wide count padded c)
  unfolding groups_for
  groups-cut zero count padded c kept = bad (after count) reason.Truncated refl
  groups-cut (suc most) count padded c kept =
      let g : List ℕ × List ℕ = group_of 4 c.rest in
      let d : Cursor = lob.after_to c g.1 in
      cut-if (after count) (nat_lt (length g.0) 4) _ _ _ _ (last_group-cut count g.0 d kept)
      (before-cut (after count) (lob.group_bytes padded g.0) _ _ (decoded-free padded (decoded_of standard g.0))
      (λ bytes. join-cut count bytes (groups_for most limits (count + length bytes) (nat_lt (length bytes) 3) d) (groups_for most wide (count + length bytes) (nat_lt (length bytes) 3) d)
      (λ less. groups-cut most (count + length bytes) (nat_lt (length bytes) 3) d less)))

  clob-cut : (p : ℕ) (is_long : Bool) (c : Cursor) → Short (scalar_counts p) (lob.clob_at limits is_long c) (lob.clob_at wide is_long c)
  clob-cut p is_long c =
      let q : Quote = if is_long then long_quote true else short_quote true in
      onward (after 0) (scalar_counts p) (text_at q limits c) (text_at q wide c) _ _ (text-cut q c)
      (λ t. if-any _ (lob.clob_closed_at is_long (after_run (first_is is_white) t.1)) _ (λ d. omega arith))
      (λ t kept. let d : Cursor = after_run (first_is is_white) t.1 in
      before-cut (scalar_counts p) (lob.clob_closed_at is_long d) _ _ (then_blames Free (refuse _ reason.Truncated) (lob.closed_at d) (refuse_free _ reason.Truncated refl) (closed-free d))
      (λ e. same _ (passes-fewer limits (length t.0) (0 + length t.0) (omega arith) kept)))

  blob-cut : (p : ℕ) (c : Cursor) → Short (scalar_counts p) (lob.blob_at limits c) (lob.blob_at wide c)
  blob-cut p c =
      map-cut (after 0) (scalar_counts p) (groups_for (suc (length c.rest)) limits 0 false c) (groups_for (suc (length c.rest)) wide 0 false c) (λ b. (value.blob b.0, b.1)) (λ b. omega arith)
      (groups-cut (suc (length c.rest)) 0 false c (passes-none limits))

  lob-cut : (p : ℕ) (c : Cursor) → Short (scalar_counts p) (lob_at limits c) (lob_at wide c)
  unfolding lob_at
  lob-cut p c =
      let d : Cursor = after_run (first_is is_white) c in
      cut-if (scalar_counts p) (begins_with (34 ∷ []) d.rest) _ _ _ _ (clob-cut p false (skip 1 d))
      (cut-if (scalar_counts p) (begins_with (39 ∷ 39 ∷ 39 ∷ []) d.rest) _ _ _ _ (clob-cut p true (skip 3 d)) (blob-cut p d))

  -- ---- tokens

  -- bytes that are counted, and what they mean
  counted-cut : (bytes : List ℕ) (c : Cursor) (means : List ℕ → Result Token Reason) → IfOk (means bytes) CountsAll → Blames Free (means bytes)
      → Short (token_counts c.place) (counted limits bytes c >>= (λ r. means r.0 >>= (λ t. got t r.1))) (counted wide bytes c >>= (λ r. means r.0 >>= (λ t. got t r.1)))
  counted-cut bytes c means all none = by (passes limits (length bytes)) (passes wide (length bytes)) refl refl (means bytes) refl all none
    where
      by : (b w : Bool) → passes limits (length bytes) ≡ b → passes wide (length bytes) ≡ w → (o : Result Token Reason) → means bytes ≡ o → IfOk o CountsAll → Blames Free o
          → Short (token_counts c.place) ((refuse b reason.ScalarLimit >> given (bytes, skip (length bytes) c)) >>= (λ r. means r.0 >>= (λ t. got t r.1)))
          ((refuse w reason.ScalarLimit >> given (bytes, skip (length bytes) c)) >>= (λ r. means r.0 >>= (λ t. got t r.1)))
      by true true e f o is all none = limit reason.ScalarLimit _ (refl, tt)
      by true false e f (Ok t) is all none =
          limit reason.ScalarLimit _ (refl, rw is (passes-more limits (length bytes) (counts t c.place (c.place + length bytes)) (omega (arith, all c.place (c.place + length bytes))) e))
      by true false e f (Err why) is all none = limit reason.ScalarLimit _ (refl, rw is tt)
      by false true e f o is all none = absurd (cc (sym e ∙ within (length bytes) f))
      by false false e f (Ok t) is all none =
          rw is (same _ (passes-fewer limits (counts t c.place (c.place + length bytes)) (length bytes) (omega (arith, all c.place (c.place + length bytes))) e))
      by false false e f (Err why) is all none = rw is (same _ none.so)

  pub token-cut : (first : First) (c : Cursor) → Short (token_counts c.place) (token_of limits first c) (token_of wide first c)
  unfolding token_of
  token-cut a_run c =
      counted-cut (bytes_of in_run c.rest) c run_token (run_token-counts (bytes_of in_run c.rest))
      (scalar_token-blames Free (bytes_of in_run c.rest) (scalar_of_run (bytes_of in_run c.rest)) (run-free (bytes_of in_run c.rest)))
  token-cut a_word c = counted-cut (word_of c.rest) c word_token (word_token-counts (word_of c.rest)) (word_token-free (word_of c.rest))
  token-cut a_quoted c =
      map-cut (after 0) (token_counts c.place) (text_at symbol_quote limits (skip 1 c)) (text_at symbol_quote wide (skip 1 c)) (λ t. (name true (value.Text t.0), t.1)) (λ t. omega arith)
      (text-cut symbol_quote (skip 1 c))
  token-cut a_short c =
      map-cut (after 0) (token_counts c.place) (text_at (short_quote false) limits (skip 1 c)) (text_at (short_quote false) wide (skip 1 c)) (λ t. (text t.0, t.1)) (λ t. omega arith)
      (text-cut (short_quote false) (skip 1 c))
  token-cut a_long c =
      map-cut (after 0) (token_counts c.place) (text_at (long_quote false) limits (skip 3 c)) (text_at (long_quote false) wide (skip 3 c)) (λ t. (text t.0, t.1)) (λ t. omega arith)
      (text-cut (long_quote false) (skip 3 c))
  token-cut a_lob c =
      map-cut (scalar_counts c.place) (token_counts c.place) (lob_at limits (skip 2 c)) (lob_at wide (skip 2 c)) (λ l. (plain l.0, l.1)) (λ l. refl) (lob-cut c.place (skip 2 c))
  token-cut an_operator c = counted-cut (bytes_of in_operator c.rest) c (λ bytes. Ok (operator bytes)) (λ p q. refl) (record { so = tt })
  token-cut an_infinity c = passed-cut (token_counts c.place) 4 _ _ (omega arith) (λ kept. same _ (passes-fewer limits (c.place + 4 - c.place) 4 (omega arith) kept))
  token-cut no_token c = bad (token_counts c.place) reason.BadToken refl
  token-cut mark c = same _ (passes-none limits)

-- ---- against no limit

no-wider : (limits : Option ℕ) (n : ℕ) → passes None n ≡ true → passes limits n ≡ true
no-wider limits n h = absurd (cc h)

cut-keeps : {A : Type 0} (limits : Option ℕ) (size : A → ℕ) (r w : Result A Reason) (x : A) → Short limits None (no-wider limits) size r w → r ≡ Ok x → w ≡ Ok x
cut-keeps limits size _ _ x (same r kept) e = e
cut-keeps limits size _ _ x (limit why w is) bad = absurd (cc bad)

-- what is read under a limit is read without one
pub token-free : (limits : Option ℕ) (first : First) (c : Cursor) (x : Token × Cursor) → token_of limits first c ≡ Ok x → token_of None first c ≡ Ok x
token-free limits first c x e =
    cut-keeps limits (token_counts c.place) (token_of limits first c) (token_of None first c) x (token-cut limits None (no-wider limits) first c) e

cut-exact : {A : Type 0} (n : ℕ) (size : A → ℕ) (r w : Result A Reason) (x : A) → Short (Some n) None (no-wider (Some n)) size r w → w ≡ Ok x
    → r ≡ (if nat_lt n (size x) then Err reason.ScalarLimit else Ok x)
cut-exact n size _ _ x (same (Ok y) kept) e = let is : y ≡ x = cc e in subst (λ x. Ok y ≡ (if nat_lt n (size x) then Err reason.ScalarLimit else Ok x)) is (rw kept refl)
cut-exact n size _ _ x (same (Err why) kept) e = absurd (cc e)
cut-exact n size _ _ x (limit why (Ok y) is) e =
    let which : y ≡ x = cc e in
    subst (λ x. Err why ≡ (if nat_lt n (size x) then Err reason.ScalarLimit else Ok x)) which (rw (is.1, is.0) refl)
cut-exact n size _ _ x (limit why (Err other) is) e = absurd (cc e)

-- and what is read without one is read under a limit exactly where it counts no more
pub token-exact : (limit : ℕ) (first : First) (c : Cursor) (t : Token) (d : Cursor) → token_of None first c ≡ got t d
    → token_of (Some limit) first c ≡ (if nat_lt limit (counts t c.place d.place) then Err reason.ScalarLimit else got t d)
token-exact n first c t d token =
    cut-exact n (token_counts c.place) (token_of (Some n) first c) (token_of None first c) (t, d) (token-cut (Some n) None (no-wider (Some n)) first c) token
