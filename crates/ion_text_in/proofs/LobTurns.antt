-- Groups of a blob that are read in parts: characters one by one, a group, and groups that stand in the window.
use Rattle.std.proofs.Common.{◌≡◌, ℕ, suc, ◌+◌, ◌-◌, ◌%◌, ◌<◌, ◌≤◌, Bool, true, false, not, ◌==◌, nat_lt, if◌then◌else◌, List, [], ◌∷◌, ◌++◌, All, length, take, drop, slice_get, slice_set, Option, Some, None, Result, Ok, Err, IfOk, IfErr, IfSome, IfNone, refl, sym, ap, subst, ◌∙◌, inl, inr, append_assoc, append-nil, arith}
use Rattle.std.proofs.lemmas.Bool.{cases_Bool, and_parts, not-true, le-ltb, lt-ltb, eqb-true}
use Rattle.std.proofs.lemmas.List.{length-append, length-take-le, take_all}
use Rattle.std.proofs.lemmas.List.Elements.{All-take, All-from_get_or}
use Rattle.std.proofs.Math.Seq.{take-suc-set}
use Rattle.std.specs.Result.{result_ok}
use Rattle.base64.specs.Engines.{standard}
use Rattle.base64.specs.GeneralPurpose.{IsBytes, IsDecodedInto, decode_of, decoded_of, encode_of}
use Rattle.base64.specs.declared.decode.DecodeError.{DecodeError}
use Rattle.base64.proofs.EngineFacts.{decode_of_strict, encode_of-append}
use Rattle.ion_meter.specs.declared.device.Input.{Ghosts as InputOf}
use Rattle.ion_meter.specs.declared.fault.Reason.{Reason}
use Rattle.ion_meter.specs.declared.fault.Reason.TheVariants.{BadLob, ScalarLimit}
use Rattle.ion_meter.specs.Sources.{Cursor, cursor, skip, Moves}
use Rattle.ion_meter.specs.Windows.{Incoming, left}
use Rattle.ion_value.specs.Digits.{first_is, all_are}
use Rattle.ion_value.specs.Parts.{refuse, ◌>>=◌, ◌>>◌}
use Rattle.ion_text_in.specs.Blanks.{is_white}
use Rattle.ion_text_in.specs.Limit.{passes}
use Rattle.ion_text_in.specs.Lob.{closed_at, group_of, after_to, last_group, group_bytes, lob_in, lob_at}
use Rattle.ion_text_in.specs.Lobs.{with_groups_after, is_padded, closed_after}
use Rattle.ion_text_in.specs.Meaning.{at}
use Rattle.ion_text_in.specs.Token.{plain, a_lob, token_of}
use Rattle.ion_text_in.specs.Scanning.{Spelled, groups, with_front}
use Rattle.ion_text_in.proofs.Blobs.{Octets, octets-prefix, octets-after, by_decoded, by-decoded, encode-nil, group-white, group-brace, group-char, group-decoded, length-encode_of, is_char, base64-chars}
use Rattle.ion_text_in.proofs.BlankTurns.{after_white, white-first, white-none}
use Rattle.ion_text_in.proofs.Fuel.{groups-first}
use Rattle.ion_text_in.proofs.Gathering.{front-front}
use Rattle.ion_text_in.proofs.TokenCuts.{passes-fewer}

-- ---- characters one by one

pub white-group : (k p : ℕ) (bytes : List ℕ) → group_of (suc k) bytes ≡ group_of (suc k) (after_white (at p bytes)).rest
white-group k p [] = ap (λ (c : Cursor). group_of (suc k) c.rest) (sym (white-none p [] refl))
white-group k p (b ∷ bytes) = elim (cases_Bool (is_white b)) [
  | inl white ↦ group-white k b bytes white ∙ white-group k (p + 1) bytes ∙ ap (λ (c : Cursor). group_of (suc k) c.rest) (sym (white-first p b bytes white))
  | inr dark ↦ ap (λ (c : Cursor). group_of (suc k) c.rest) (sym (white-none p (b ∷ bytes) dark))
]

pub group-ends : (k : ℕ) (bytes : List ℕ) → slice_get bytes 0 ≡ None → group_of (suc k) bytes ≡ ([], bytes)
unfolding group_of
group-ends k [] none = refl
group-ends k (b ∷ bytes) none = absurd (cc none)

pub group-closes : (k b : ℕ) (bytes : List ℕ) → first_is is_white bytes ≡ false → slice_get bytes 0 ≡ Some b → b ≡ 125 → group_of (suc k) bytes ≡ ([], bytes)
group-closes k b [] dark first brace = absurd (cc first)
group-closes k b (c ∷ bytes) dark first brace =
    let same : c ≡ 125 = cc (first, brace) in
    let is : (c == 125) ≡ true = rw same refl in
    group-brace k c bytes dark is

pub group-more : (k b : ℕ) (bytes : List ℕ) → first_is is_white bytes ≡ false → slice_get bytes 0 ≡ Some b → (b ≡ 125 → ⊥)
    → group_of (suc k) bytes ≡ (b ∷ (group_of k (drop 1 bytes)).0, (group_of k (drop 1 bytes)).1)
group-more k b [] dark first other = absurd (cc first)
group-more k b (c ∷ bytes) dark first other =
    let same : c ≡ b = cc first in
    let none : (c == 125) ≡ false = elim (cases_Bool (c == 125)) [ inl is ↦ absurd (other (sym same ∙ eqb-true c 125 is)) | inr none ↦ none ] in
    group-char k c bytes dark none ∙ ap (λ (x : ℕ). (x ∷ (group_of k bytes).0, (group_of k bytes).1)) same

-- with so many before it, of four
step-four : (i : ℕ) → i < 4 → 4 - i ≡ suc (3 - i)
step-four i less = omega (arith, less)

to-white : (i : ℕ) (s w : Cursor) → i < 4 → w ≡ after_white s → group_of (4 - i) s.rest ≡ group_of (suc (3 - i)) w.rest
to-white i s w less after =
    ap (λ (n : ℕ). group_of n s.rest) (step-four i less) ∙ white-group (3 - i) s.place s.rest ∙ ap (λ (d : Cursor). group_of (suc (3 - i)) d.rest) (sym after)

pub characters-end : (i : ℕ) (group : List ℕ) (s w : Cursor) → i < 4 → w ≡ after_white s → group_of (suc (3 - i)) w.rest ≡ ([], w.rest)
    → ◌≡◌ {A = List ℕ × List ℕ} (take i group ++ (group_of (4 - i) s.rest).0, (group_of (4 - i) s.rest).1) (take i group, w.rest)
characters-end i group s w less after ends =
    ap (λ (z : List ℕ × List ℕ). (take i group ++ z.0, z.1)) (to-white i s w less after ∙ ends)
    ∙ ap (λ (l : List ℕ). (l, w.rest)) (append-nil (take i group))

pub characters-on : (i b : ℕ) (group : List ℕ) (s w : Cursor) → i < 4 → length group ≡ 4 → w ≡ after_white s
    → group_of (suc (3 - i)) w.rest ≡ (b ∷ (group_of (3 - i) (drop 1 w.rest)).0, (group_of (3 - i) (drop 1 w.rest)).1)
    → ◌≡◌ {A = List ℕ × List ℕ} (take i group ++ (group_of (4 - i) s.rest).0, (group_of (4 - i) s.rest).1)
    (take (i + 1) (slice_set group i b) ++ (group_of (4 - (i + 1)) (drop 1 w.rest)).0, (group_of (4 - (i + 1)) (drop 1 w.rest)).1)
characters-on i b group s w less four after more =
    let next : 3 - i ≡ 4 - (i + 1) = omega (arith, less) in
    let one : suc i ≡ i + 1 = omega arith in
    ap (λ (z : List ℕ × List ℕ). (take i group ++ z.0, z.1)) (to-white i s w less after ∙ more)
    ∙ ap (λ (l : List ℕ). (l, (group_of (3 - i) (drop 1 w.rest)).1)) (sym (append_assoc (take i group) (b ∷ []) (group_of (3 - i) (drop 1 w.rest)).0))
    ∙ ap (λ (l : List ℕ). (l ++ (group_of (3 - i) (drop 1 w.rest)).0, (group_of (3 - i) (drop 1 w.rest)).1)) (sym (take-suc-set group i b (omega (arith, less, four))))
    ∙ ap (λ (n : ℕ). (take n (slice_set group i b) ++ (group_of (3 - i) (drop 1 w.rest)).0, (group_of (3 - i) (drop 1 w.rest)).1)) one
    ∙ ap (λ (n : ℕ). (take (i + 1) (slice_set group i b) ++ (group_of n (drop 1 w.rest)).0, (group_of n (drop 1 w.rest)).1)) next

pub characters-all : (i : ℕ) (group bytes : List ℕ) → i ≡ 4 → ◌≡◌ {A = List ℕ × List ℕ} (take i group ++ (group_of (4 - i) bytes).0, (group_of (4 - i) bytes).1) (take 4 group, bytes)
unfolding group_of
characters-all i group bytes e = rw e (ap (λ (l : List ℕ). (l, bytes)) (append-nil (take 4 group)))

-- ---- what a call decoded

pub decoded-encodes : (r : Result ℕ DecodeError) (chars old new : List ℕ) → IsBytes chars → IfOk r (λ n. IsDecodedInto standard chars n old new)
    → IfSome (result_ok r) (λ n. chars ≡ encode_of standard (take n new))
decoded-encodes (Ok n) chars old new bytes into = decode_of_strict standard chars (take n new) (refl, refl) bytes into.0
decoded-encodes (Err e) chars old new bytes into = tt

pub decoded-octets : (r : Result ℕ DecodeError) (new : List ℕ) → IsBytes new → IfSome (result_ok r) (λ n. All (λ octet. octet < 256) (take n new))
decoded-octets (Ok n) new bytes = All-take (λ octet. octet < 256) n new (All-from_get_or (λ octet. octet < 256) new 0 (λ i _. bytes i))
decoded-octets (Err e) new bytes = tt

pub decoded-none : (r : Result ℕ DecodeError) (chars : List ℕ) → IfErr r (λ e. decode_of standard chars ≡ Err e) → IfNone (result_ok r) (decoded_of standard chars ≡ None)
unfolding decoded_of
decoded-none (Ok n) chars err = tt
decoded-none (Err e) chars err = ap (λ (r : Result (List ℕ) DecodeError). result_ok r) err

-- ---- a group

-- the group that some bytes begin with, and where it ends
pub record IsCut (c d : Cursor) (group : List ℕ) : Type 0 where
  pub cut : group_of 4 c.rest ≡ (group, d.rest)
  pub after : after_to c d.rest ≡ d

after-cursor : (c d : Cursor) → d.place + length d.rest ≡ c.place + length c.rest → c.place ≤ d.place → after_to c d.rest ≡ d
after-cursor c d total further = let same : c.place + (length c.rest - length d.rest) ≡ d.place = omega (arith, total, further) in ap (λ (p : ℕ). at p d.rest) same

cut-at : {I : Type 0} (device : InputOf I) (s t : Incoming I) (group : List ℕ) → Moves device s t → device.observable s.device → group_of 4 (left device.rest s) ≡ (group, left device.rest t)
    → IsCut (cursor device s) (cursor device t) group
cut-at device s t group moves h is = record { cut = is; after = after-cursor (cursor device s) (cursor device t) (moves.total h) moves.further }

-- what a group comes to, by its bytes
abbrev pub group_then : ℕ → List ℕ → Cursor → Result (List ℕ) Reason → Spelled
group_then limit text d (Ok bytes) = refuse (passes (Some limit) (length text + length bytes)) ScalarLimit >> with_groups_after limit (text ++ bytes) (nat_lt (length bytes) 3) d
group_then limit text d (Err reason) = Err reason

module _ (limit : ℕ) (text : List ℕ) where
  abbrev then_groups : Cursor → Result (List ℕ) Reason → Spelled
  then_groups d o =
      o >>= (λ bytes. refuse (passes (Some limit) (length text + length bytes)) ScalarLimit
      >> with_front bytes (groups (Some limit) (length text + length bytes) (nat_lt (length bytes) 3) d))

  -- what the characters of a group and what stands after it come to
  abbrev cut_then : Bool → Cursor → List ℕ × List ℕ → Spelled
  cut_then padded c g = with_front text (if nat_lt (length g.0) 4 then last_group g.0 (after_to c g.1) else then_groups (after_to c g.1) (group_bytes padded g.0))

  cut-first : (padded : Bool) (c d : Cursor) (group : List ℕ) (few : Bool) → IsCut c d group → nat_lt (length group) 4 ≡ few
      → with_groups_after limit text padded c ≡ with_front text (if few then last_group group d else then_groups d (group_bytes padded group))
  cut-first padded c d group few is e =
      ap (λ (o : Spelled). with_front text o) (groups-first (Some limit) (length text) padded c)
      ∙ ap (cut_then padded c) is.cut
      ∙ ap (λ (b : Bool). with_front text (if b then last_group group (after_to c d.rest) else then_groups (after_to c d.rest) (group_bytes padded group))) e
      ∙ ap (λ (k : Cursor). with_front text (if few then last_group group k else then_groups k (group_bytes padded group))) is.after

  group-read : (padded : Bool) (c d : Cursor) (group : List ℕ) → IsCut c d group → length group ≡ 4
      → with_groups_after limit text padded c ≡ group_then limit text d (group_bytes padded group)
  group-read padded c d group is four = cut-first padded c d group false is (le-ltb (length group) 4 (omega (arith, four))) ∙ by (group_bytes padded group)
    where
      over : (b : Bool) (bytes : List ℕ)
          → with_front text (refuse b ScalarLimit >> with_front bytes (groups (Some limit) (length text + length bytes) (nat_lt (length bytes) 3) d))
          ≡ (refuse b ScalarLimit >> with_groups_after limit (text ++ bytes) (nat_lt (length bytes) 3) d)
      over true bytes = refl
      over false bytes =
          front-front text bytes (groups (Some limit) (length text + length bytes) (nat_lt (length bytes) 3) d)
          ∙ ap (λ (n : ℕ). with_front (text ++ bytes) (groups (Some limit) n (nat_lt (length bytes) 3) d)) (sym (length-append text bytes))

      by : (o : Result (List ℕ) Reason) → with_front text (then_groups d o) ≡ group_then limit text d o
      by (Ok bytes) = over (passes (Some limit) (length text + length bytes)) bytes
      by (Err reason) = refl

  -- fewer than four
  group-last : (padded : Bool) (c d : Cursor) (group : List ℕ) (n : ℕ) → IsCut c d group → length group ≡ n → n < 4
      → with_groups_after limit text padded c ≡ (closed_after n d >>= (λ e. Ok (text, e)))
  group-last padded c d group n is long few =
      cut-first padded c d group true is (lt-ltb (length group) 4 (omega (arith, long, few)))
      ∙ last group ∙ ap (λ (k : ℕ). closed_after k d >>= (λ e. Ok (text, e))) long
    where
      by : (o : Result Cursor Reason) → with_front text (o >>= (λ e. Ok ([], e))) ≡ ((o >>= (λ e. Ok e)) >>= (λ e. Ok (text, e)))
      by (Ok e) = ap (λ (l : List ℕ). Ok (l, e)) (append-nil text)
      by (Err reason) = refl

      bad : (o : Result Cursor Reason) → with_front text (o >> Err BadLob) ≡ ((o >>= (λ (e : Cursor). refuse true BadLob >> Ok e)) >>= (λ e. Ok (text, e)))
      bad (Ok e) = refl
      bad (Err reason) = refl

      last : (group : List ℕ) → with_front text (last_group group d) ≡ (closed_after (length group) d >>= (λ e. Ok (text, e)))
      last [] = by (closed_at d)
      last (b ∷ group) = rw (lt-ltb 0 (suc (length group)) (omega arith)) (bad (closed_at d))

pub cut-last : {I : Type 0} (device : InputOf I) (s t : Incoming I) (limit : ℕ) (text : List ℕ) (padded : Bool) (group : List ℕ) (n : ℕ) → Moves device s t → device.observable s.device
    → group_of 4 (left device.rest s) ≡ (take n group, left device.rest t) → length group ≡ 4 → n < 4
    → with_groups_after limit text padded (cursor device s) ≡ (closed_after n (cursor device t) >>= (λ e. Ok (text, e)))
cut-last device s t limit text padded group n moves h is four few =
    group-last limit text padded (cursor device s) (cursor device t) (take n group) n (cut-at device s t (take n group) moves h is) (length-take-le n group (omega (arith, four, few))) few

-- four characters
pub cut-read : {I : Type 0} (device : InputOf I) (s t : Incoming I) (limit : ℕ) (text : List ℕ) (padded : Bool) (group : List ℕ) (n : ℕ) (o : Result (List ℕ) Reason) → Moves device s t → device.observable s.device
    → group_of 4 (left device.rest s) ≡ (take n group, left device.rest t) → length group ≡ 4 → 4 ≤ n → group_bytes padded group ≡ o
    → with_groups_after limit text padded (cursor device s) ≡ group_then limit text (cursor device t) o
cut-read device s t limit text padded group n o moves h is four le e =
    let all = is ∙ ap (λ (l : List ℕ). (l, left device.rest t)) (take_all n group (omega (arith, four, le))) in
    group-read limit text padded (cursor device s) (cursor device t) group (cut-at device s t group moves h all) four ∙ ap (group_then limit text (cursor device t)) e

-- a group that is not well formed, and one after padding
pub group-bad : (padded : Bool) (group : List ℕ) → decoded_of standard group ≡ None → group_bytes padded group ≡ Err BadLob
group-bad padded group none = by-decoded padded group ∙ ap (by_decoded padded) none

pub group-late : (group : List ℕ) → group_bytes true group ≡ Err BadLob
group-late group = by-decoded true group ∙ by (decoded_of standard group)
  where
    by : (o : Option (List ℕ)) → by_decoded true o ≡ Err BadLob
    by (Some bytes) = refl
    by None = refl

pub group-given : (group bytes : List ℕ) → Octets bytes → group ≡ encode_of standard bytes → group_bytes false group ≡ Ok bytes
group-given group bytes octets base64 = ap (group_bytes false) base64 ∙ group-decoded bytes octets

-- ---- groups that stand in the window

group-taken : (xs rest : List ℕ) → all_are is_char xs ≡ true → group_of (length xs) (xs ++ rest) ≡ (xs, rest)
unfolding group_of
group-taken [] rest all = refl
group-taken (b ∷ xs) rest all =
    let parts = and_parts (is_char b) (all_are is_char xs) all in
    let both = and_parts (not (is_white b)) _ parts.0 in
    group-char (length xs) b (xs ++ rest) (not-true (is_white b) both.0) (not-true (b == 125) (and_parts (not (b == 125)) _ both.1).0)
    ∙ ap (λ (z : List ℕ × List ℕ). (b ∷ z.0, z.1)) (group-taken xs rest parts.1)

-- one group in front of others
one-block : (limit : ℕ) (text : List ℕ) (p : ℕ) (bytes rest : List ℕ) → Octets bytes → length (encode_of standard bytes) ≡ 4
    → passes (Some limit) (length text + length bytes) ≡ false
    → with_groups_after limit text false (at p (encode_of standard bytes ++ rest)) ≡ with_groups_after limit (text ++ bytes) (nat_lt (length bytes) 3) (at (p + 4) rest)
one-block limit text p bytes rest octets four free =
    let chars : List ℕ = encode_of standard bytes in
    let is : group_of 4 (chars ++ rest) ≡ (chars, rest) = subst (λ (n : ℕ). group_of n (chars ++ rest) ≡ (chars, rest)) four (group-taken chars rest (base64-chars bytes)) in
    let cut : IsCut (at p (chars ++ rest)) (at (p + 4) rest) chars =
    record { cut = is; after = after-cursor (at p (chars ++ rest)) (at (p + 4) rest) (omega (arith, length-append chars rest, four)) (omega arith) } in
    group-read limit text false (at p (chars ++ rest)) (at (p + 4) rest) chars cut four
    ∙ ap (group_then limit text (at (p + 4) rest)) (group-decoded bytes octets)
    ∙ ap (λ (over : Bool). refuse over ScalarLimit >> with_groups_after limit (text ++ bytes) (nat_lt (length bytes) 3) (at (p + 4) rest)) free

pub block : (limit : ℕ) (text : List ℕ) (p : ℕ) (bytes rest : List ℕ) → Octets bytes → passes (Some limit) (length text + length bytes) ≡ false
    → with_groups_after limit text false (at p (encode_of standard bytes ++ rest))
    ≡ with_groups_after limit (text ++ bytes) (is_padded (length bytes)) (at (p + length (encode_of standard bytes)) rest)
block limit text p [] rest octets free =
    ap (λ (l : List ℕ). with_groups_after limit text false (at p (l ++ rest))) encode-nil
    ∙ ap (λ (l : List ℕ). with_groups_after limit l false (at p rest)) (sym (append-nil text))
    ∙ ap (λ (n : ℕ). with_groups_after limit (text ++ []) false (at n rest)) (nothing-more p)
    ∙ ap (λ (l : List ℕ). with_groups_after limit (text ++ []) false (at (p + length l) rest)) (sym encode-nil)
  where
    nothing-more : (p : ℕ) → p ≡ p + 0
    nothing-more p = omega arith
block limit text p (a ∷ []) rest octets free =
    one-block limit text p (a ∷ []) rest octets (length-encode_of (a ∷ [])) free
    ∙ ap (λ (n : ℕ). with_groups_after limit (text ++ a ∷ []) true (at (p + n) rest)) (sym (length-encode_of (a ∷ [])))
block limit text p (a ∷ b ∷ []) rest octets free =
    one-block limit text p (a ∷ b ∷ []) rest octets (length-encode_of (a ∷ b ∷ [])) free
    ∙ ap (λ (n : ℕ). with_groups_after limit (text ++ a ∷ b ∷ []) true (at (p + n) rest)) (sym (length-encode_of (a ∷ b ∷ [])))
block limit text p (a ∷ b ∷ c ∷ others) rest octets free =
    let first : List ℕ = a ∷ b ∷ c ∷ [] in
    let four : length (encode_of standard (a ∷ b ∷ c ∷ [])) ≡ 4 = length-encode_of (a ∷ b ∷ c ∷ []) in
    let split : encode_of standard (first ++ others) ≡ encode_of standard first ++ encode_of standard others = encode_of-append standard first others refl in
    let long = length-append (encode_of standard first) (encode_of standard others) in
    let all = ap (λ (l : List ℕ). length l) split in
    let counted : length (text ++ first) + length others ≡ length text + length (first ++ others) = omega (arith, length-append text first) in
    let place : p + 4 + length (encode_of standard others) ≡ p + length (encode_of standard (first ++ others)) = omega (arith, four, long, all) in
    ap (λ (l : List ℕ). with_groups_after limit text false (at p (l ++ rest))) split
    ∙ ap (λ (l : List ℕ). with_groups_after limit text false (at p l)) (append_assoc (encode_of standard first) (encode_of standard others) rest)
    ∙ one-block limit text p first (encode_of standard others ++ rest) (octets-prefix first others octets) four (passes-fewer (Some limit) (length text + 3) (length text + length (first ++ others)) (omega arith) free)
    ∙ block limit (text ++ first) (p + 4) others rest (octets-after first others octets) (ap (passes (Some limit)) counted ∙ free)
    ∙ ap (λ (l : List ℕ). with_groups_after limit l (is_padded (length others)) (at (p + 4 + length (encode_of standard others)) rest)) (append_assoc text first others)
    ∙ ap (λ (b : Bool). with_groups_after limit (text ++ (first ++ others)) b (at (p + 4 + length (encode_of standard others)) rest)) (padded-more (length others))
    ∙ ap (λ (n : ℕ). with_groups_after limit (text ++ (first ++ others)) (is_padded (length (first ++ others))) (at n rest)) place
  where
    padded-more : (n : ℕ) → is_padded n ≡ is_padded (suc (suc (suc n)))
    padded-more n = let same : n % 3 ≡ suc (suc (suc n)) % 3 = omega arith in ap (λ (k : ℕ). not (k == 0)) same

-- the same by its characters
pub block-of : (limit : ℕ) (text : List ℕ) (p : ℕ) (chars bytes rest : List ℕ) → chars ≡ encode_of standard bytes → Octets bytes → passes (Some limit) (length text + length bytes) ≡ false
    → with_groups_after limit text false (at p (chars ++ rest)) ≡ with_groups_after limit (text ++ bytes) (is_padded (length bytes)) (at (p + length chars) rest)
block-of limit text p chars bytes rest is octets free =
    subst (λ (l : List ℕ). with_groups_after limit text false (at p (l ++ rest)) ≡ with_groups_after limit (text ++ bytes) (is_padded (length bytes)) (at (p + length l) rest)) (sym is)
    (block limit text p bytes rest octets free)

-- ---- lobs

-- from after its braces and white space
pub lob-token : (limit : Option ℕ) (c t w : Cursor) → t ≡ skip 2 c → w ≡ after_white t → token_of limit a_lob c ≡ (lob_in limit w >>= (λ l. Ok (plain l.0, l.1)))
unfolding token_of lob_at
lob-token limit c t w first white =
    ap (λ (d : Cursor). lob_in limit d >>= (λ l. Ok (plain l.0, l.1))) (sym (white ∙ ap after_white first))
