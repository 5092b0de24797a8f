-- The characters of a blob are the base64 of its bytes, with white space anywhere.
use Rattle.std.proofs.Common.{◌≡◌, ℕ, zero, suc, ◌+◌, ◌-◌, ◌*◌, ◌/◌, ◌%◌, ◌<◌, ◌≤◌, Bool, true, false, not, ◌&&◌, ◌==◌, nat_lt, if◌then◌else◌, List, [], ◌∷◌, ◌++◌, All, length, drop, replicate, Option, Some, None, Result, Ok, Err, refl, sym, ap, subst, ◌∙◌, inl, inr, append_assoc, append-nil, arith, slice_index, codes}
use Rattle.std.proofs.lemmas.Bool.{cases_Bool, cases_lt, ltb-false, and_parts, not-true, not-false, eqb-true, false≢true, le-ltb}
use Rattle.std.proofs.lemmas.List.{length-append, length-replicate, get_or_past}
use Rattle.std.proofs.lemmas.Bool.Decides.{nat_tests}
use Rattle.std.proofs.lemmas.List.Elements.{filter-append, All-filter, All-nil, All-cons, All-head, All-tail, All-get_or}
use Rattle.std.specs.Result.{result_ok}
use Rattle.base64.specs.Engines.{standard}
use Rattle.base64.specs.GeneralPurpose.{IsBytes, decode_of, decoded_of, encode_of}
use Rattle.base64.specs.Rfc4648.{encode_symbols, encode_group, padding_len}
use Rattle.base64.proofs.EngineFacts.{decode_of_strict, decode_of-encode_of, encode_of-append, encode_of-nil}
use Rattle.base64.proofs.Streams.{decoded_of-ok}
use Rattle.base64.proofs.RoundTrip.{length-encode_symbols}
use Rattle.ion_meter.specs.declared.fault.Reason.{Reason}
use Rattle.ion_meter.specs.declared.fault.Reason.TheVariants.{BadLob, ScalarLimit}
use Rattle.ion_meter.specs.Sources.{Cursor, skip}
use Rattle.ion_value.specs.Parts.{refuse, ◌>>=◌, ◌>>◌}
use Rattle.ion_text_in.specs.Blanks.{is_white}
use Rattle.ion_text_in.specs.Lob as lob
use Rattle.ion_text_in.specs.Lob.{braces, closed_at, group_of, after_to, last_group, group_bytes, groups_for, lob_at}
use Rattle.ion_text_in.specs.Limit.{passes}
use Rattle.ion_text_in.specs.Places.{run_of, after_run}
use Rattle.ion_text_in.specs.Quoted.{short_quote, long_quote, text_at}
use Rattle.ion_text_in.specs.Token.{Token, plain, first_at, token_of}
use Rattle.ion_text_in.specs.Meaning.{Limit, Allows, IsBase64, at, solid, BlobText, BlobsAreBase64, Base64IsRead}
use Rattle.ion_value.proofs.WentWell.{went, passed}
use Rattle.ion_text_in.proofs.Meaning.{all-append, allowed, allows-fewer, skip-prefix, run-more, run-none}
use Rattle.ion_value.specs.Digits.{first_is, all_are}
use Rattle.ion_value.specs.Name.{begins_with}
use Rattle.ion_value.specs.Value.{SymbolAt, Scalar, blob, clob}

-- ---- groups of characters

pub group-white : (more b : ℕ) (bytes : List ℕ) → is_white b ≡ true → group_of (suc more) (b ∷ bytes) ≡ group_of (suc more) bytes
unfolding group_of
group-white more b bytes e = rw (group_of, e) refl

pub group-brace : (more b : ℕ) (bytes : List ℕ) → is_white b ≡ false → (b == 125) ≡ true → group_of (suc more) (b ∷ bytes) ≡ ([], b ∷ bytes)
unfolding group_of
group-brace more b bytes e f = rw (group_of, e, f) refl

pub group-char : (more b : ℕ) (bytes : List ℕ) → is_white b ≡ false → (b == 125) ≡ false
    → group_of (suc more) (b ∷ bytes) ≡ (b ∷ (group_of more bytes).0, (group_of more bytes).1)
unfolding group_of
group-char more b bytes e f = rw (group_of, e, f) refl

solid-white : (b : ℕ) (bytes : List ℕ) → is_white b ≡ true → solid (b ∷ bytes) ≡ solid bytes
solid-white b bytes e = simp e refl

solid-char : (b : ℕ) (bytes : List ℕ) → is_white b ≡ false → solid (b ∷ bytes) ≡ b ∷ solid bytes
solid-char b bytes e = simp e refl

-- what a group is cut from: its characters and white space
record Grouped (n : ℕ) (bytes : List ℕ) (g : List ℕ × List ℕ) : Type 0 where
  prefix : List ℕ
  is : bytes ≡ prefix ++ g.1
  chars : solid prefix ≡ g.0
  few : length g.0 ≤ n

grouped : (n : ℕ) (bytes : List ℕ) → Grouped n bytes (group_of n bytes)
unfolding group_of
grouped zero bytes = record { prefix = []; is = refl; chars = refl; few = omega arith }
grouped (suc n) [] = record { prefix = []; is = refl; chars = refl; few = omega arith }
grouped (suc n) (b ∷ bytes) = elim (cases_Bool (is_white b)) [
  | inl white ↦
      let g = grouped (suc n) bytes in
      subst (Grouped (suc n) (b ∷ bytes)) (sym (group-white n b bytes white))
      (record { prefix = b ∷ g.prefix; is = ap (λ (xs : List ℕ). b ∷ xs) g.is; chars = solid-white b g.prefix white ∙ g.chars; few = g.few })
  | inr dark ↦ elim (cases_Bool (b == 125)) [
    | inl brace ↦ subst (Grouped (suc n) (b ∷ bytes)) (sym (group-brace n b bytes dark brace)) (record { prefix = []; is = refl; chars = refl; few = omega arith })
    | inr char ↦
        let g = grouped n bytes in
        subst (Grouped (suc n) (b ∷ bytes)) (sym (group-char n b bytes dark char))
        (record {
          prefix = b ∷ g.prefix;
          is = ap (λ (xs : List ℕ). b ∷ xs) g.is;
          chars = solid-char b g.prefix dark ∙ ap (λ (xs : List ℕ). b ∷ xs) g.chars;
          few = let few = g.few in omega arith;
        })
  ]
]

-- ---- bytes of groups

abbrev pub Octets : List ℕ → Type 0
Octets bytes = All (λ octet. octet < 256) bytes

octets-IsBytes : (bytes : List ℕ) → Octets bytes → IsBytes bytes
octets-IsBytes bytes all i = elim (cases_lt i (length bytes)) [
  | inl there ↦ All-get_or (λ octet. octet < 256) bytes i 0 there all
  | inr past ↦ rw (get_or_past bytes i 0 past) (omega arith)
]

decoded : (s bytes : List ℕ) → decoded_of standard s ≡ Some bytes → decode_of standard s ≡ Ok bytes
unfolding decoded_of
decoded s bytes e = go (decode_of standard s) e
  where
    go : {E : Type 0} (r : Result (List ℕ) E) → result_ok r ≡ Some bytes → r ≡ Ok bytes
    go (Ok x) e = ap Ok (cc e)
    go (Err x) e = absurd (cc e)

pub length-encode_of : (bytes : List ℕ) → length (encode_of standard bytes) ≡ (4 * length bytes + 2) / 3 + (3 - length bytes % 3) % 3
length-encode_of bytes =
    length-append (encode_symbols standard.encode_table bytes) (replicate (padding_len (length bytes)) 61)
    ∙ rw (length-encode_symbols standard.encode_table bytes, length-replicate {A = ℕ} (padding_len (length bytes)) 61) refl

record IsGroup (padded : Bool) (group bytes : List ℕ) : Type 0 where
  first : padded ≡ false
  base64 : group ≡ encode_of standard bytes

-- what is made of the bytes that a group decodes to
abbrev pub by_decoded : Bool → Option (List ℕ) → Result (List ℕ) Reason
by_decoded padded (Some bytes) = if padded then Err BadLob else Ok bytes
by_decoded padded None = Err BadLob

pub by-decoded : (padded : Bool) (group : List ℕ) → group_bytes padded group ≡ by_decoded padded (decoded_of standard group)
by-decoded padded group = go (decoded_of standard group)
  where
    go : (o : Option (List ℕ)) → ◌≡◌ {A = Result (List ℕ) Reason} (elim o [ Some bytes ↦ if padded then Err BadLob else Ok bytes | None ↦ Err BadLob ]) (by_decoded padded o)
    go (Some bytes) = refl
    go None = refl

group-is : (padded : Bool) (group bytes : List ℕ) → Octets group → group_bytes padded group ≡ Ok bytes → IsGroup padded group bytes
group-is padded group bytes octets e = go padded (decoded_of standard group) refl (sym (by-decoded padded group) ∙ e)
  where
    go : (late : Bool) (o : Option (List ℕ)) → decoded_of standard group ≡ o → by_decoded late o ≡ Ok bytes → IsGroup late group bytes
    go true (Some found) is e = absurd (cc e)
    go false (Some found) is e =
        let same : found ≡ bytes = cc e in
        record { first = refl; base64 = decode_of_strict standard group bytes (refl, refl) (octets-IsBytes group octets) (decoded group bytes (is ∙ ap Some same)) }
    go late None is e = absurd (cc e)

-- ---- a blob is its base64

pub octets-prefix : (xs ys : List ℕ) → Octets (xs ++ ys) → Octets xs
octets-prefix [] ys all = All-nil (λ octet. octet < 256)
octets-prefix (x ∷ xs) ys all =
    All-cons (λ octet. octet < 256) x xs (All-head (λ octet. octet < 256) x (xs ++ ys) all) (octets-prefix xs ys (All-tail (λ octet. octet < 256) x (xs ++ ys) all))

pub octets-after : (xs ys : List ℕ) → Octets (xs ++ ys) → Octets ys
octets-after [] ys all = all
octets-after (x ∷ xs) ys all = octets-after xs ys (All-tail (λ octet. octet < 256) x (xs ++ ys) all)

-- the braces, and what stands after them
record Closed (c d : Cursor) : Type 0 where
  text : c.rest ≡ 125 ∷ 125 ∷ d.rest
  place : d.place ≡ c.place + 2

abbrev skipped : Cursor → Result Cursor Reason
skipped c = Ok (skip 2 c)

closed : (p : ℕ) (rest : List ℕ) (d : Cursor) → closed_at (at p rest) ≡ Ok d → Closed (at p rest) d
closed p [] d e = absurd (cc e)
closed p (b ∷ []) d e = elim (cases_Bool (b == 125)) [
  | inl brace ↦ absurd (cc (rw brace at e))
  | inr other ↦ absurd (cc (rw other at e))
]
closed p (b ∷ a ∷ rest) d e =
    let ok = passed (not (b == 125 && a == 125)) BadLob (skipped (at p (b ∷ a ∷ rest))) d e in
    let both = and_parts (b == 125) (a == 125) (not-false (b == 125 && a == 125) ok.0) in
    let same : at (p + 2) rest ≡ d = cc ok.1 in
    record {
      text = rw (eqb-true b 125 both.0, eqb-true a 125 both.1) (ap (λ (d : Cursor). 125 ∷ 125 ∷ d.rest) same);
      place = sym (ap (λ (d : Cursor). d.place) same);
    }

abbrev Got : Type 0
Got = Result (List ℕ × Cursor) Reason

abbrev got : List ℕ → Cursor → Got
got bytes d = Ok (bytes, d)

abbrev bad : Got
bad = Err BadLob

-- what fewer than four characters come to
last-is : (group : List ℕ) (p : ℕ) (rest bytes : List ℕ) (d : Cursor) → last_group group (at p rest) ≡ got bytes d → (group ≡ []) × (bytes ≡ []) × Closed (at p rest) d
last-is [] p rest bytes d e =
    let w = went (closed_at (at p rest)) (λ d. got [] d) (bytes, d) e in
    let both : ◌≡◌ {A = List ℕ × Cursor} ([], w.value) (bytes, d) = cc w.second in
    (refl, sym (ap (λ (z : List ℕ × Cursor). z.0) both), closed p rest d (w.first ∙ ap Ok (ap (λ (z : List ℕ × Cursor). z.1) both)))
last-is (b ∷ group) p rest bytes d e = go (closed_at (at p rest)) e
  where
    go : (o : Result Cursor Reason) → (o >> bad) ≡ got bytes d → (b ∷ group ≡ []) × (bytes ≡ []) × Closed (at p rest) d
    go (Ok x) e = absurd (cc e)
    go (Err x) e = absurd (cc e)

-- the characters of a blob and its braces, where nothing follows a padded group
record IsRead (padded : Bool) (bytes : List ℕ) (c d : Cursor) : Type 0 where
  text : BlobText bytes c d
  none : padded ≡ true → bytes ≡ []

-- a place after so many bytes
after-place : (p : ℕ) (all prefix rest : List ℕ) → all ≡ prefix ++ rest → p + (length all - length rest) ≡ p + length prefix
after-place p all prefix rest is = omega (arith, length-append prefix rest, ap (λ (xs : List ℕ). length xs) is)

pub encode-nil : encode_of standard [] ≡ []
encode-nil = encode_of-nil standard

end-read : (padded : Bool) (p : ℕ) (all prefix rest bytes : List ℕ) (d : Cursor) → all ≡ prefix ++ rest → solid prefix ≡ [] → bytes ≡ []
    → Closed (after_to (at p all) rest) d → IsRead padded bytes (at p all) d
end-read padded p all prefix rest bytes d is chars none closed =
    let after = after-place p all prefix rest is in
    let place = closed.place in
    record {
      text = record {
        chars = prefix;
        text = is ∙ ap (λ (xs : List ℕ). prefix ++ xs) closed.text;
        place = omega (arith, after, place);
        base64 = rw (none, chars, encode-nil) refl;
      };
      none = λ _. none;
    }

-- a group and what follows it
more-read : (padded : Bool) (p : ℕ) (all prefix rest group bytes others : List ℕ) (d : Cursor) → all ≡ prefix ++ rest → solid prefix ≡ group → length group ≡ 4
    → IsGroup padded group bytes → IsRead (nat_lt (length bytes) 3) others (after_to (at p all) rest) d → IsRead padded (bytes ++ others) (at p all) d
more-read padded p all prefix rest group bytes others d is chars four group_is read =
    let t = read.text in
    let after = after-place p all prefix rest is in
    let place = t.place in
    let text_is : all ≡ (prefix ++ t.chars) ++ (125 ∷ 125 ∷ d.rest) =
    is ∙ ap (λ (xs : List ℕ). prefix ++ xs) t.text ∙ sym (append_assoc prefix t.chars (125 ∷ 125 ∷ d.rest)) in
    record {
      text = record {
        chars = prefix ++ t.chars;
        text = text_is;
        place = omega (arith, after, place, length-append prefix t.chars);
        base64 = filter-append (λ b. not (is_white b)) prefix t.chars ∙ rw (chars, t.base64, group_is.base64) (sym joined);
      };
      none = λ late. absurd (false≢true (sym group_is.first ∙ late));
    }
  where
    long : length (encode_of standard bytes) ≡ 4
    long = ap (λ (xs : List ℕ). length xs) (sym group_is.base64) ∙ four

    joined : encode_of standard (bytes ++ others) ≡ encode_of standard bytes ++ encode_of standard others
    joined = elim (cases_Bool (nat_lt (length bytes) 3)) [
      | inl short ↦ rw (read.none short, encode-nil, append-nil, append-nil) refl
      | inr full ↦
          let many : 3 ≤ length bytes = ltb-false (length bytes) 3 full in
          encode_of-append standard bytes others (omega (arith, many, sym (length-encode_of bytes) ∙ long))
    ]

-- what a group of four characters and what stands after it come to
abbrev grouping : ℕ → Limit → ℕ → Bool → Cursor → List ℕ × List ℕ → Got
grouping most limit count padded c g =
    group_bytes padded g.0 >>= (λ bytes. refuse (passes limit (count + length bytes)) ScalarLimit
    >> (groups_for most limit (count + length bytes) (nat_lt (length bytes) 3) (after_to c g.1) >>= (λ others. got (bytes ++ others.0) others.1)))

groups-read : (most : ℕ) (limit : Limit) (count : ℕ) (padded : Bool) (p : ℕ) (all bytes : List ℕ) (d : Cursor) → Octets all
    → groups_for most limit count padded (at p all) ≡ got bytes d → IsRead padded bytes (at p all) d
unfolding groups_for
groups-read zero limit count padded p all bytes d octets e = absurd (cc e)
groups-read (suc most) limit count padded p all bytes d octets e =
    go (λ count padded p all bytes d octets e. groups-read most limit count padded p all bytes d octets e) (nat_lt (length (group_of 4 all).0) 4) refl e
  where
    go : ((count : ℕ) (padded : Bool) (p : ℕ) (all bytes : List ℕ) (d : Cursor) → Octets all → groups_for most limit count padded (at p all) ≡ got bytes d → IsRead padded bytes (at p all) d)
        → (few : Bool) → nat_lt (length (group_of 4 all).0) 4 ≡ few
        → (if few then last_group (group_of 4 all).0 (after_to (at p all) (group_of 4 all).1) else grouping most limit count padded (at p all) (group_of 4 all)) ≡ got bytes d
        → IsRead padded bytes (at p all) d
    go later true few e =
        let g = grouped 4 all in
        let last = last-is (group_of 4 all).0 (p + (length all - length (group_of 4 all).1)) (group_of 4 all).1 bytes d e in
        end-read padded p all g.prefix (group_of 4 all).1 bytes d g.is (g.chars ∙ last.0) last.1 last.2
    go later false few e =
        let g = grouped 4 all in
        let most_four = g.few in
        let four_at_least : 4 ≤ length (group_of 4 all).0 = ltb-false (length (group_of 4 all).0) 4 few in
        let text : Octets (g.prefix ++ (group_of 4 all).1) = subst Octets g.is octets in
        let chars : Octets (group_of 4 all).0 = subst Octets g.chars (All-filter (λ b. not (is_white b)) (λ octet. octet < 256) g.prefix (octets-prefix g.prefix (group_of 4 all).1 text)) in
        let w = went (group_bytes padded (group_of 4 all).0) _ (bytes, d) e in
        let ok = passed (passes limit (count + length w.value)) ScalarLimit _ (bytes, d) w.second in
        let v = went (groups_for most limit (count + length w.value) (nat_lt (length w.value) 3) (after_to (at p all) (group_of 4 all).1)) _ (bytes, d) ok.1 in
        let both : ◌≡◌ {A = List ℕ × Cursor} (w.value ++ v.value.0, v.value.1) (bytes, d) = cc v.second in
        let rest_is : groups_for most limit (count + length w.value) (nat_lt (length w.value) 3) (after_to (at p all) (group_of 4 all).1) ≡ got v.value.0 v.value.1 = v.first in
        let rest = later (count + length w.value) (nat_lt (length w.value) 3) (p + (length all - length (group_of 4 all).1)) (group_of 4 all).1
        v.value.0 v.value.1 (octets-after g.prefix (group_of 4 all).1 text) rest_is in
        let read : IsRead padded (w.value ++ v.value.0) (at p all) v.value.1 =
        more-read padded p all g.prefix (group_of 4 all).1 (group_of 4 all).0 w.value v.value.0 v.value.1 g.is g.chars (omega arith)
        (group-is padded (group_of 4 all).0 w.value chars w.first) rest in
        subst (λ (z : List ℕ × Cursor). IsRead padded z.0 (at p all) z.1) both read

-- ---- a token is a blob

abbrev token : Token → Cursor → Result (Token × Cursor) Reason
token t c = Ok (t, c)

abbrev body : Scalar SymbolAt → Cursor → Result (Scalar SymbolAt × Cursor) Reason
body v d = Ok (v, d)

blob-of : (v w : Scalar SymbolAt) (c d : Cursor) → body v c ≡ body w d → (v ≡ w) × (c ≡ d)
blob-of v w c d e =
    let both : ◌≡◌ {A = Scalar SymbolAt × Cursor} (v, c) (w, d) = cc e in
    (ap (λ (z : Scalar SymbolAt × Cursor). z.0) both, ap (λ (z : Scalar SymbolAt × Cursor). z.1) both)

no-clob : (limit : Limit) (is_long : Bool) (c d : Cursor) (bytes : List ℕ) → lob.clob_at limit is_long c ≡ body (blob bytes) d → ⊥
no-clob limit is_long c d bytes e =
    let w = went (text_at (if is_long then long_quote true else short_quote true) limit c) _ (blob bytes, d) e in
    let v = went (lob.clob_closed_at is_long (after_run (first_is is_white) w.value.1)) _ (blob bytes, d) w.second in
    let is = blob-of (clob w.value.0) (blob bytes) v.value d v.second in
    cc is.0

blob-read : (limit : Limit) (p : ℕ) (all bytes : List ℕ) (d : Cursor) → Octets all → lob.blob_at limit (at p all) ≡ body (blob bytes) d → BlobText bytes (at p all) d
blob-read limit p all bytes d octets e =
    let w = went (groups_for (suc (length all)) limit 0 false (at p all)) (λ b. body (blob b.0) b.1) (blob bytes, d) e in
    let is = blob-of (blob w.value.0) (blob bytes) w.value.1 d w.second in
    let same : w.value.0 ≡ bytes = cc is.0 in
    subst (λ (d : Cursor). BlobText bytes (at p all) d) is.1
    (subst (λ (bytes : List ℕ). BlobText bytes (at p all) w.value.1) same
    (groups-read (suc (length all)) limit 0 false p all w.value.0 w.value.1 octets w.first).text)

lob-in : (limit : Limit) (p : ℕ) (all bytes : List ℕ) (d : Cursor) → Octets all → lob.lob_in limit (at p all) ≡ body (blob bytes) d → BlobText bytes (at p all) d
lob-in limit p all bytes d octets e = go (begins_with (34 ∷ []) all) (begins_with (39 ∷ 39 ∷ 39 ∷ []) all) e
  where
    go : (short long : Bool) → (if short then lob.clob_at limit false (skip 1 (at p all)) else (if long then lob.clob_at limit true (skip 3 (at p all)) else lob.blob_at limit (at p all))) ≡ body (blob bytes) d
        → BlobText bytes (at p all) d
    go true long e = absurd (no-clob limit false (skip 1 (at p all)) d bytes e)
    go false true e = absurd (no-clob limit true (skip 3 (at p all)) d bytes e)
    go false false e = blob-read limit p all bytes d octets e

-- white space in front
record WhitePrefix (bytes : List ℕ) (r : List ℕ × List ℕ) : Type 0 where
  is : bytes ≡ r.0 ++ r.1
  white : solid r.0 ≡ []

white-prefix : (bytes : List ℕ) → WhitePrefix bytes (run_of (first_is is_white) bytes)
white-prefix [] = subst (WhitePrefix []) (sym (run-none (first_is is_white) [] refl)) (record { is = refl; white = refl })
white-prefix (b ∷ bytes) = elim (cases_Bool (is_white b)) [
  | inl white ↦
      let f = white-prefix bytes in
      subst (WhitePrefix (b ∷ bytes)) (sym (run-more (first_is is_white) b bytes white))
      (record { is = ap (λ (xs : List ℕ). b ∷ xs) f.is; white = solid-white b (run_of (first_is is_white) bytes).0 white ∙ f.white })
  | inr dark ↦ subst (WhitePrefix (b ∷ bytes)) (sym (run-none (first_is is_white) (b ∷ bytes) dark)) (record { is = refl; white = refl })
]

prefix-text : (p : ℕ) (all prefix rest bytes : List ℕ) (d : Cursor) → all ≡ prefix ++ rest → solid prefix ≡ [] → BlobText bytes (at (p + length prefix) rest) d → BlobText bytes (at p all) d
prefix-text p all prefix rest bytes d is white t =
    let place = t.place in
    record {
      chars = prefix ++ t.chars;
      text = is ∙ ap (λ (xs : List ℕ). prefix ++ xs) t.text ∙ sym (append_assoc prefix t.chars (125 ∷ 125 ∷ d.rest));
      place = omega (arith, place, length-append prefix t.chars);
      base64 = filter-append (λ b. not (is_white b)) prefix t.chars ∙ ap (λ (xs : List ℕ). xs ++ solid t.chars) white ∙ t.base64;
    }

lob-read : (limit : Limit) (p : ℕ) (all bytes : List ℕ) (d : Cursor) → Octets all → lob.lob_at limit (at p all) ≡ body (blob bytes) d → BlobText bytes (at p all) d
unfolding lob_at
lob-read limit p all bytes d octets e =
    let r : List ℕ × List ℕ = run_of (first_is is_white) all in
    let f = white-prefix all in
    let after : after_run (first_is is_white) (at p all) ≡ at (p + length r.0) r.1 = ap (λ (xs : List ℕ). at (p + length r.0) (drop (length r.0) xs)) f.is ∙ skip-prefix p r.0 r.1 in
    prefix-text p all r.0 r.1 bytes d f.is f.white
    (lob-in limit (p + length r.0) r.1 bytes d (octets-after r.0 r.1 (subst Octets f.is octets)) (subst (λ (c : Cursor). lob.lob_in limit c ≡ body (blob bytes) d) after e))

pub blobs_are_base64 : BlobsAreBase64
unfolding first_at token_of
blobs_are_base64 limit sexp place rest bytes d octets e =
    let w = went (lob.lob_at limit (at (place + 2) rest)) (λ l. token (plain l.0) l.1) (plain (blob bytes), d) e in
    let both : ◌≡◌ {A = Token × Cursor} (plain w.value.0, w.value.1) (plain (blob bytes), d) = cc w.second in
    let same : plain w.value.0 ≡ plain (blob bytes) = ap (λ (z : Token × Cursor). z.0) both in
    let is : w.value.0 ≡ blob bytes = cc same in
    let after : w.value.1 ≡ d = ap (λ (z : Token × Cursor). z.1) both in
    lob-read limit (place + 2) rest bytes d octets (w.first ∙ ap Ok (pair w.value (blob bytes) d is after))
  where
    pair : (u : Scalar SymbolAt × Cursor) (v : Scalar SymbolAt) (d : Cursor) → u.0 ≡ v → u.1 ≡ d → u ≡ (v, d)
    pair u v d is after = rw (← is, ← after) refl

-- ---- base64 is a blob

-- no quote, and neither white space nor a closing brace either
abbrev is_open : ℕ → Bool
is_open b = not (b == 34) && not (b == 39)

abbrev pub is_char : ℕ → Bool
is_char b = not (is_white b) && (not (b == 125) && is_open b)

char-at : (t : List ℕ) (i : ℕ) → all_are is_char t ≡ true → is_char (slice_index t i) ≡ true
char-at [] i all = refl
char-at (b ∷ t) zero all = (and_parts (is_char b) (all_are is_char t) all).0
char-at (b ∷ t) (suc i) all = char-at t i (and_parts (is_char b) (all_are is_char t) all).1

module _ (t : List ℕ) (all : all_are is_char t ≡ true) where
  symbols-chars : (m : List ℕ) → all_are is_char (encode_symbols t m) ≡ true
  unfolding encode_symbols
  symbols-chars [] = refl
  symbols-chars (a ∷ []) = rw (char-at t (a / 4) all, char-at t (a % 4 * 16) all) refl
  symbols-chars (a ∷ b ∷ []) = rw (char-at t (a / 4) all, char-at t (a % 4 * 16 + b / 16) all, char-at t (b % 16 * 4) all) refl
  symbols-chars (a ∷ b ∷ c ∷ m) =
      all-append is_char (encode_group t a b c) (encode_symbols t m)
      (rw (char-at t (a / 4) all, char-at t (a % 4 * 16 + b / 16) all, char-at t (b % 16 * 4 + c / 64) all, char-at t (c % 64) all) refl)
      (symbols-chars m)

padding-chars : (n : ℕ) → all_are is_char (replicate n 61) ≡ true
padding-chars zero = refl
padding-chars (suc n) = padding-chars n

pub base64-chars : (m : List ℕ) → all_are is_char (encode_of standard m) ≡ true
base64-chars m =
    all-append is_char (encode_symbols standard.encode_table m) (replicate (padding_len (length m)) 61)
    (symbols-chars standard.encode_table refl m) (padding-chars (padding_len (length m)))

-- the characters of a group are cut from the front, and what they leave
record Taken (n : ℕ) (chars group tail after : List ℕ) : Type 0 where
  more : List ℕ
  cut : group_of n (chars ++ after) ≡ (group, more ++ after)
  rest : solid more ≡ tail
  fewer : length more + n ≤ length chars

taken : (n : ℕ) (chars group tail after : List ℕ) → solid chars ≡ group ++ tail → length group ≡ n → all_are is_char group ≡ true → Taken n chars group tail after
unfolding group_of
taken zero chars [] tail after e len all = record { more = chars; cut = refl; rest = e; fewer = omega arith }
taken zero chars (g ∷ group) tail after e len all = absurd (omega (arith, len))
taken (suc n) chars [] tail after e len all = absurd (omega (arith, len))
taken (suc n) [] (g ∷ group) tail after e len all = absurd (cc e)
taken (suc n) (b ∷ chars) (g ∷ group) tail after e len all = elim (cases_Bool (is_white b)) [
  | inl white ↦
      let t = taken (suc n) chars (g ∷ group) tail after (sym (solid-white b chars white) ∙ e) len all in
      let fewer = t.fewer in
      record { more = t.more; cut = group-white n b (chars ++ after) white ∙ t.cut; rest = t.rest; fewer = omega (arith, fewer) }
  | inr dark ↦
      let cons : ◌≡◌ {A = List ℕ} (b ∷ solid chars) (g ∷ (group ++ tail)) = sym (solid-char b chars dark) ∙ e in
      let same : b ≡ g = cc cons in
      let later : solid chars ≡ group ++ tail = cc cons in
      let parts = and_parts (is_char g) (all_are is_char group) all in
      let t = taken n chars group tail after later (omega (arith, len)) parts.1 in
      let fewer = t.fewer in
      let no_brace : (b == 125) ≡ false = rw same (not-true (g == 125) (and_parts (not (g == 125)) (is_open g) (and_parts (not (is_white g)) (not (g == 125) && is_open g) parts.0).1).0) in
      record {
        more = t.more;
        cut = group-char n b (chars ++ after) dark no_brace ∙ ap (λ (z : List ℕ × List ℕ). (b ∷ z.0, z.1)) t.cut ∙ ap (λ (g : ℕ). (g ∷ group, t.more ++ after)) same;
        rest = t.rest;
        fewer = omega (arith, fewer);
      }
]

none-taken : (n : ℕ) (chars after : List ℕ) → solid chars ≡ [] → group_of (suc n) (chars ++ 125 ∷ after) ≡ ([], 125 ∷ after)
none-taken n [] after e = group-brace n 125 after refl refl
none-taken n (b ∷ chars) after e = elim (cases_Bool (is_white b)) [
  | inl white ↦ group-white n b (chars ++ 125 ∷ after) white ∙ none-taken n chars after (sym (solid-white b chars white) ∙ e)
  | inr dark ↦ absurd (cc (sym (solid-char b chars dark) ∙ e))
]

pub group-decoded : (bytes : List ℕ) → Octets bytes → group_bytes false (encode_of standard bytes) ≡ Ok bytes
group-decoded bytes octets =
    by-decoded false (encode_of standard bytes)
    ∙ ap (by_decoded false) (decoded_of-ok standard (encode_of standard bytes) bytes (decode_of-encode_of standard bytes refl (octets-IsBytes bytes octets)))

-- the bytes of a group are those in front of the others, and it has four characters
record Split (bytes : List ℕ) : Type 0 where
  prefix : List ℕ
  others : List ℕ
  is : bytes ≡ prefix ++ others
  some : 1 ≤ length prefix
  base64 : encode_of standard bytes ≡ encode_of standard prefix ++ encode_of standard others
  four : length (encode_of standard prefix) ≡ 4
  last : nat_lt (length prefix) 3 ≡ true → others ≡ []

whole-split : (bytes : List ℕ) → 1 ≤ length bytes → length bytes ≤ 3 → Split bytes
whole-split bytes some few = record {
  prefix = bytes;
  others = [];
  is = sym (append-nil bytes);
  some = some;
  base64 = rw encode-nil (sym (append-nil (encode_of standard bytes)));
  four = length-encode_of bytes ∙ omega (arith, some, few);
  last = λ _. refl;
}

split : (b : ℕ) (bytes : List ℕ) → Split (b ∷ bytes)
split b [] = whole-split (b ∷ []) (omega arith) (omega arith)
split b (c ∷ []) = whole-split (b ∷ c ∷ []) (omega arith) (omega arith)
split b (c ∷ d ∷ bytes) = record {
  prefix = b ∷ c ∷ d ∷ [];
  others = bytes;
  is = refl;
  some = omega arith;
  base64 = encode_of-append standard (b ∷ c ∷ d ∷ []) bytes refl;
  four = length-encode_of (b ∷ c ∷ d ∷ []);
  last = λ short. absurd (false≢true short);
}

-- a group is read, and what follows it
one-group : (most : ℕ) (limit : Limit) (count : ℕ) (p : ℕ) (all group rest bytes others : List ℕ) (d : Cursor) → group_of 4 all ≡ (group, rest) → length group ≡ 4
    → group_bytes false group ≡ Ok bytes → Allows limit (count + length bytes)
    → groups_for most limit (count + length bytes) (nat_lt (length bytes) 3) (after_to (at p all) rest) ≡ got others d
    → groups_for (suc most) limit count false (at p all) ≡ got (bytes ++ others) d
unfolding groups_for
one-group most limit count p all group rest bytes others d cut four decoded allows later =
    ap (λ (g : List ℕ × List ℕ). if nat_lt (length g.0) 4 then last_group g.0 (after_to (at p all) g.1) else grouping most limit count false (at p all) g) cut
    ∙ ap (λ (few : Bool). if few then last_group group (after_to (at p all) rest) else grouping most limit count false (at p all) (group, rest)) (le-ltb (length group) 4 (omega (arith, four)))
    ∙ ap (λ (o : Result (List ℕ) Reason). o >>= (λ bytes. refuse (passes limit (count + length bytes)) ScalarLimit
    >> (groups_for most limit (count + length bytes) (nat_lt (length bytes) 3) (after_to (at p all) rest) >>= (λ others. got (bytes ++ others.0) others.1)))) decoded
    ∙ ap (λ (over : Bool). refuse over ScalarLimit
    >> (groups_for most limit (count + length bytes) (nat_lt (length bytes) 3) (after_to (at p all) rest) >>= (λ others. got (bytes ++ others.0) others.1))) (allowed limit (count + length bytes) allows)
    ∙ ap (λ (o : Got). o >>= (λ others. got (bytes ++ others.0) others.1)) later

no-group : (most : ℕ) (limit : Limit) (count : ℕ) (padded : Bool) (p q : ℕ) (all after : List ℕ) → group_of 4 all ≡ ([], 125 ∷ 125 ∷ after)
    → p + (length all - length (125 ∷ 125 ∷ after)) + 2 ≡ q → groups_for (suc most) limit count padded (at p all) ≡ got [] (at q after)
unfolding groups_for
no-group most limit count padded p q all after cut place =
    ap (λ (g : List ℕ × List ℕ). if nat_lt (length g.0) 4 then last_group g.0 (after_to (at p all) g.1) else grouping most limit count padded (at p all) g) cut
    ∙ ap (λ (q : ℕ). got [] (at q after)) place

after-braces : (p : ℕ) (chars after : List ℕ) → p + (length (chars ++ 125 ∷ 125 ∷ after) - length (125 ∷ 125 ∷ after)) + 2 ≡ p + (length chars + 2)
after-braces p chars after = omega (arith, length-append chars (125 ∷ 125 ∷ after))

pub groups-given : (most : ℕ) (limit : Limit) (count : ℕ) (padded : Bool) (p q : ℕ) (bytes chars after : List ℕ) → Octets bytes → IsBase64 chars bytes
    → (padded ≡ true → bytes ≡ []) → Allows limit (count + length bytes) → length chars < most → p + (length chars + 2) ≡ q
    → groups_for most limit count padded (at p (chars ++ 125 ∷ 125 ∷ after)) ≡ got bytes (at q after)
groups-given zero limit count padded p q bytes chars after octets base64 last allows enough place = absurd (omega (arith, enough))
groups-given (suc most) limit count padded p q [] chars after octets base64 last allows enough place =
    no-group most limit count padded p q (chars ++ 125 ∷ 125 ∷ after) after (none-taken 3 chars (125 ∷ after) (base64 ∙ encode-nil)) (after-braces p chars after ∙ place)
groups-given (suc most) limit count true p q (b ∷ bytes) chars after octets base64 last allows enough place = absurd (cc (last refl))
groups-given (suc most) limit count false p q (b ∷ bytes) chars after octets base64 last allows enough place =
    let s = split b bytes in
    let t = taken 4 chars (encode_of standard s.prefix) (encode_of standard s.others) (125 ∷ 125 ∷ after) (base64 ∙ s.base64) s.four (base64-chars s.prefix) in
    let all : Octets (s.prefix ++ s.others) = subst Octets s.is octets in
    let many : length (b ∷ bytes) ≡ length s.prefix + length s.others = ap (λ (xs : List ℕ). length xs) s.is ∙ length-append s.prefix s.others in
    let some = s.some in
    let fewer = t.fewer in
    let later = groups-given most limit (count + length s.prefix) (nat_lt (length s.prefix) 3)
    (p + (length (chars ++ 125 ∷ 125 ∷ after) - length (t.more ++ 125 ∷ 125 ∷ after))) q s.others t.more after
    (octets-after s.prefix s.others all) t.rest s.last
    (subst (Allows limit) (total count (length s.prefix) (length s.others) (length (b ∷ bytes)) many) allows) (omega (arith, enough, fewer)) (omega (arith, place, fewer, length-append chars (125 ∷ 125 ∷ after), length-append t.more (125 ∷ 125 ∷ after))) in
    one-group most limit count p (chars ++ 125 ∷ 125 ∷ after) (encode_of standard s.prefix) (t.more ++ 125 ∷ 125 ∷ after) s.prefix s.others (at q after) t.cut s.four
    (group-decoded s.prefix (octets-prefix s.prefix s.others all))
    (allows-fewer limit (count + length (b ∷ bytes)) (count + length s.prefix) (omega (arith, many)) allows) later
    ∙ ap (λ (xs : List ℕ). got xs (at q after)) (sym s.is)
  where
    total : (count a b n : ℕ) → n ≡ a + b → count + n ≡ count + a + b
    total count a b n e = omega (arith, e)

-- ---- and so is its token

-- the white space in front of the characters, and what stands after it, which does not begin with a quote
record Led (chars tail : List ℕ) : Type 0 where
  white : List ℕ
  more : List ℕ
  is : chars ≡ white ++ more
  run : run_of (first_is is_white) (chars ++ 125 ∷ tail) ≡ (white, more ++ 125 ∷ tail)
  same : solid more ≡ solid chars
  first : first_is is_open (more ++ 125 ∷ tail) ≡ true

led : (chars tail : List ℕ) → all_are is_char (solid chars) ≡ true → Led chars tail
led [] tail all = record { white = []; more = []; is = refl; run = run-none (first_is is_white) (125 ∷ tail) refl; same = refl; first = refl }
led (b ∷ chars) tail all = elim (cases_Bool (is_white b)) [
  | inl white ↦
      let l = led chars tail (subst (λ (xs : List ℕ). all_are is_char xs ≡ true) (solid-white b chars white) all) in
      record {
        white = b ∷ l.white;
        more = l.more;
        is = ap (λ (xs : List ℕ). b ∷ xs) l.is;
        run = run-more (first_is is_white) b (chars ++ 125 ∷ tail) white ∙ ap (λ (z : List ℕ × List ℕ). (b ∷ z.0, z.1)) l.run;
        same = l.same ∙ sym (solid-white b chars white);
        first = l.first;
      }
  | inr dark ↦
      let chars_are : all_are is_char (b ∷ solid chars) ≡ true = subst (λ (xs : List ℕ). all_are is_char xs ≡ true) (solid-char b chars dark) all in
      record {
        white = [];
        more = b ∷ chars;
        is = refl;
        run = run-none (first_is is_white) (b ∷ (chars ++ 125 ∷ tail)) dark;
        same = refl;
        first = (and_parts (not (b == 125)) (is_open b) (and_parts (not (is_white b)) (not (b == 125) && is_open b) (and_parts (is_char b) (all_are is_char (solid chars)) chars_are).0).1).1;
      }
]

no-quote : (bytes : List ℕ) → first_is is_open bytes ≡ true → (begins_with (34 ∷ []) bytes ≡ false) × (begins_with (39 ∷ 39 ∷ 39 ∷ []) bytes ≡ false)
no-quote [] e = absurd (false≢true e)
no-quote (b ∷ bytes) e =
    let parts = and_parts (not (b == 34)) (not (b == 39)) e in
    let short : (34 == b) ≡ false = flip 34 b (not-true (b == 34) parts.0) in
    let long : (39 == b) ≡ false = flip 39 b (not-true (b == 39) parts.1) in
    (rw short refl, rw long refl)
  where
    flip : (a b : ℕ) → (b == a) ≡ false → (a == b) ≡ false
    flip a b e = grind (arith, nat_tests)

lob-given : (limit : Limit) (p q : ℕ) (bytes chars after : List ℕ) → Octets bytes → IsBase64 chars bytes → Allows limit (length bytes)
    → first_is is_open (chars ++ 125 ∷ 125 ∷ after) ≡ true → p + (length chars + 2) ≡ q → lob.lob_in limit (at p (chars ++ 125 ∷ 125 ∷ after)) ≡ body (blob bytes) (at q after)
lob-given limit p q bytes chars after octets base64 allows first place =
    let all : List ℕ = chars ++ 125 ∷ 125 ∷ after in
    let quotes = no-quote (chars ++ 125 ∷ 125 ∷ after) first in
    ap (λ (short : Bool). if short then lob.clob_at limit false (skip 1 (at p all)) else (if begins_with (39 ∷ 39 ∷ 39 ∷ []) all then lob.clob_at limit true (skip 3 (at p all)) else lob.blob_at limit (at p all))) quotes.0
    ∙ ap (λ (long : Bool). if long then lob.clob_at limit true (skip 3 (at p all)) else lob.blob_at limit (at p all)) quotes.1
    ∙ ap (λ (o : Got). o >>= (λ b. body (blob b.0) b.1))
    (groups-given (suc (length (chars ++ 125 ∷ 125 ∷ after))) limit 0 false p q bytes chars after octets base64 (λ late. absurd (false≢true late))
    (subst (Allows limit) (zero-more (length bytes)) allows) (omega (arith, length-append chars (125 ∷ 125 ∷ after))) place)
  where
    zero-more : (n : ℕ) → n ≡ 0 + n
    zero-more n = omega arith

lob_at-given : (limit : Limit) (p q : ℕ) (bytes chars after : List ℕ) → Octets bytes → IsBase64 chars bytes → Allows limit (length bytes)
    → p + (length chars + 2) ≡ q → lob.lob_at limit (at p (chars ++ 125 ∷ 125 ∷ after)) ≡ body (blob bytes) (at q after)
unfolding lob_at
lob_at-given limit p q bytes chars after octets base64 allows place =
    let l = led chars (125 ∷ after) (rw base64 (base64-chars bytes)) in
    let parts : chars ++ 125 ∷ 125 ∷ after ≡ l.white ++ (l.more ++ 125 ∷ 125 ∷ after) = ap (λ (xs : List ℕ). xs ++ 125 ∷ 125 ∷ after) l.is ∙ append_assoc l.white l.more (125 ∷ 125 ∷ after) in
    let start : after_run (first_is is_white) (at p (chars ++ 125 ∷ 125 ∷ after)) ≡ at (p + length l.white) (l.more ++ 125 ∷ 125 ∷ after) =
    ap (λ (z : List ℕ × List ℕ). skip (length z.0) (at p (chars ++ 125 ∷ 125 ∷ after))) l.run
    ∙ ap (λ (xs : List ℕ). skip (length l.white) (at p xs)) parts
    ∙ skip-prefix p l.white (l.more ++ 125 ∷ 125 ∷ after) in
    ap (λ (c : Cursor). lob.lob_in limit c) start
    ∙ lob-given limit (p + length l.white) q bytes l.more after octets (l.same ∙ base64) allows l.first
    (omega (arith, place, length-append l.white l.more, ap (λ (xs : List ℕ). length xs) l.is))

pub base64_is_read : Base64IsRead
unfolding first_at token_of
base64_is_read chars bytes octets base64 limit sexp place rest allows ends =
    let text : (chars ++ 125 ∷ 125 ∷ []) ++ rest ≡ chars ++ 125 ∷ 125 ∷ rest = append_assoc chars (125 ∷ 125 ∷ []) rest in
    ap (λ (xs : List ℕ). lob.lob_at limit (at (place + 2) xs) >>= (λ l. token (plain l.0) l.1)) text
    ∙ ap (λ (o : Result (Scalar SymbolAt × Cursor) Reason). o >>= (λ l. token (plain l.0) l.1))
    (lob_at-given limit (place + 2) (place + length (codes "{{" ++ (chars ++ codes "}}"))) bytes chars rest octets base64 allows (omega (arith, length-append chars (125 ∷ 125 ∷ []))))
