-- Words that are simple texts, and the names of fields in a lane.
use Rattle.std.proofs.Common.{◌≡◌, ℕ, zero, suc, ◌+◌, ◌-◌, ◌<◌, ◌≤◌, Bool, true, false, ◌&&◌, ◌==◌, List, [], ◌∷◌, ◌++◌, length, take, drop, get_or, codes, Option, Some, None, IfSome, Ok, refl, sym, ap, subst, ◌∙◌, arith}
use Rattle.std.specs.Prelude.{option_map}
use Rattle.std.specs.Str.{bytes_eq}
use Rattle.std.proofs.lemmas.List.{length-drop}
use Rattle.ion_meter.specs.Sources.{Cursor}
use Rattle.ion_meter.specs.declared.profile.Rules.{Rules}
use Rattle.ion_value.specs.declared.ion_type.Kind.{Kind}
use Rattle.ion_value.specs.declared.ion_type.Kind.TheVariants as a_kind
use Rattle.ion_value.specs.declared.ion_type.IonType.TheVariants as type
use Rattle.ion_value.specs.declared.plain_item.TextAt.{TextAt}
use Rattle.ion_value.specs.Digits.{all_are, first_is}
use Rattle.ion_value.specs.Name.{Keyword, a_null, a_bool, a_nan, is_id, is_identifier_byte, is_identifier_start, is_simple, is_version, keyword}
use Rattle.ion_value.specs.Parts.{Placed, ◌>>=◌}
use Rattle.ion_value.specs.PlainItems.{placed_text, IsRightlyQuoted}
use Rattle.ion_value.specs.Value as value
use Rattle.ion_value.specs.Value.{SymbolAt}
use Rattle.ion_text_in.specs.Feeding.{expected_of, place_in, state, Begins, IfName, IsBegun, IsAfter, IsAfterName, IsNamed, IsNamedAs, IsNext, IsSimpleWord, IsStart, IsStartAs, Onward, PassesBlanks, ToColon}
use Rattle.ion_text_in.specs.declared.expected.Expected.{Expected}
use Rattle.ion_text_in.specs.declared.expected.Expected.TheVariants as codes_of
use Rattle.ion_text_in.specs.declared.feed.spot.Bounds.{Bounds}
use Rattle.ion_text_in.specs.declared.feed.spot.Next.{Next}
use Rattle.ion_text_in.specs.declared.feed.spot.Spot.{Spot}
use Rattle.ion_text_in.specs.declared.feed.spot.Start.{Start}
use Rattle.ion_text_in.specs.declared.scanned.Scanned.TheVariants.{Whole}
use Rattle.ion_text_in.specs.declared.word.Word.{Word}
use Rattle.ion_text_in.specs.declared.word.Word.TheVariants as word
use Rattle.ion_text_in.specs.Expecting.{expected_in, MayExpect}
use Rattle.ion_text_in.specs.Meaning.{at}
use Rattle.ion_text_in.specs.Places.{run_of}
use Rattle.ion_text_in.specs.Positions.{Wants, a_field, a_value}
use Rattle.ion_text_in.specs.Positions as positions
use Rattle.ion_text_in.specs.Reading.{take as taken, may_come, colon_from, colon_of, field_step}
use Rattle.ion_text_in.specs.Runs.{EndAfter}
use Rattle.ion_text_in.specs.Steps.{comes, later}
use Rattle.ion_text_in.specs.Token as tokens
use Rattle.ion_text_in.specs.Token.{First, Token, by_keyword, first_at, in_word, word_of, word_token}
use Rattle.ion_text_in.specs.Views.{AreShown, may_be_keyword, word_token_of}
use Rattle.ion_text_in.proofs.FeedReading.{after-then, some-after, later-token, mark-after, onward-blanks, onward-then, IsToken}
use Rattle.ion_text_in.proofs.ShownTokens.{word-shown}
use Rattle.ion_text_in.proofs.WordTokens.{word-untyped}

-- ---- words

both : (x y : Bool) → x ≡ true → y ≡ true → (x && y) ≡ true
both x y e f = rw (e, f) refl

run-on : (b : ℕ) (bytes : List ℕ) → is_identifier_byte b ≡ true → run_of in_word (b ∷ bytes) ≡ (b ∷ (run_of in_word bytes).0, (run_of in_word bytes).1)
unfolding run_of
run-on b bytes e = rw (e, run_of) refl

run-over : (b : ℕ) (bytes : List ℕ) → is_identifier_byte b ≡ false → run_of in_word (b ∷ bytes) ≡ ([], b ∷ bytes)
unfolding run_of
run-over b bytes e = rw (e, run_of) refl

run-none : run_of in_word [] ≡ ([], [])
unfolding run_of
run-none = refl

run-identifier : (bytes : List ℕ) → all_are is_identifier_byte (run_of in_word bytes).0 ≡ true
run-identifier [] = ap (λ (z : List ℕ × List ℕ). all_are is_identifier_byte z.0) run-none
run-identifier (b ∷ bytes) = by_first (is_identifier_byte b) refl (run-identifier bytes)
  where
    by_first : (test : Bool) → is_identifier_byte b ≡ test → all_are is_identifier_byte (run_of in_word bytes).0 ≡ true → all_are is_identifier_byte (run_of in_word (b ∷ bytes)).0 ≡ true
    by_first true e others =
        ap (λ (z : List ℕ × List ℕ). all_are is_identifier_byte z.0) (run-on b bytes e) ∙ both (is_identifier_byte b) (all_are is_identifier_byte (run_of in_word bytes).0) e others
    by_first false e others = ap (λ (z : List ℕ × List ℕ). all_are is_identifier_byte z.0) (run-over b bytes e)

-- the bytes of a run in a slice
run-taken : (bytes : List ℕ) (n : ℕ) → EndAfter in_word bytes n → all_are is_identifier_byte (take n bytes) ≡ true
run-taken bytes n ends = ap (λ (z : List ℕ × List ℕ). all_are is_identifier_byte z.0) (sym (ends [])) ∙ run-identifier (bytes ++ [])

-- a symbol by its text is no keyword
no-keyword : (k : Option Keyword) (word : List ℕ) → by_keyword k word ≡ Ok (tokens.name false (value.Text word)) → k ≡ None
no-keyword None word e = refl
no-keyword (Some (a_null (Some t))) word e = absurd (cc e)
no-keyword (Some (a_null None)) word e = absurd (cc e)
no-keyword (Some (a_bool b)) word e = absurd (cc e)
no-keyword (Some a_nan) word e = absurd (cc e)

name-keyword : (word : List ℕ) → word_token word ≡ Ok (tokens.name false (value.Text word)) → keyword word ≡ None
unfolding word_token
name-keyword word e = no-keyword (keyword word) word e

null-keyword : (word : List ℕ) → keyword word ≡ None → bytes_eq (codes "null") word ≡ false
null-keyword word none = by (bytes_eq (codes "null") word) refl
  where
    by : (b : Bool) → bytes_eq (codes "null") word ≡ b → bytes_eq (codes "null") word ≡ false
    by false e = e
    by true e = (let k : keyword word ≡ Some (a_null (Some type.Null)) = rw e refl in absurd (cc (k, none)))

-- what begins with no dollar sign is no id and no word of a version
dollar-id : (b : ℕ) (word : List ℕ) → (b == 36) ≡ false → is_id (b ∷ word) ≡ false
dollar-id b word e = rw e refl

pub dollar-version : (b : ℕ) (word : List ℕ) → (b == 36) ≡ false → is_version (b ∷ word) ≡ false
dollar-version b word e = rw (other b e) refl
  where
    other : (b : ℕ) → (b == 36) ≡ false → (36 == b) ≡ false
    other b e = grind (arith, e)

simple-is : (b : ℕ) (word : List ℕ) → is_identifier_start b ≡ true → (b == 36) ≡ false → all_are is_identifier_byte word ≡ true → keyword (b ∷ word) ≡ None → is_simple (b ∷ word) ≡ true
simple-is b word begins dollar all none = rw (begins, all, none, dollar-id b word dollar, dollar-version b word dollar, dollar) refl

pub word-simple : (limit n : ℕ) (first : ℕ) (others : List ℕ) → n < length others → EndAfter in_word others n → is_identifier_start first ≡ true → (first == 36) ≡ false → 1 + n ≤ limit
    → word_token (take (1 + n) (first ∷ others)) ≡ Ok (tokens.name false (value.Text (take (1 + n) (first ∷ others)))) → IsSimpleWord limit (first ∷ others) (1 + n)
word-simple limit n first others within ends begins dollar le token =
    let bytes : List ℕ = first ∷ others in
    let word : List ℕ = take (1 + n) bytes in
    let front : word ≡ first ∷ take n others = (let e : 1 + n ≡ suc n = omega arith in ap (λ (k : ℕ). take k bytes) e) in
    let none = name-keyword word token in
    let no_null = null-keyword word none in
    let shown : AreShown word_of bytes (1 + n) = word-untyped bytes n (omega arith) within ends (ap (λ (b : Bool). b && first_is (λ b. b == 46) (drop (1 + n) bytes)) no_null) in
    let shows = word-shown (λ (w : List ℕ). tokens.name false (value.Text w)) word limit (1 + n) bytes shown le token in
    record {
      some = omega arith;
      within = shows.0;
      simple = ap (λ (l : List ℕ). is_simple l) front ∙ simple-is first (take n others) begins dollar (run-taken others n ends) (ap keyword (sym front) ∙ none);
      shown = shows.1;
    }

pub slice-simple : (limit n : ℕ) (bytes : List ℕ) → 1 ≤ length bytes → n < length (drop 1 bytes) → EndAfter in_word (drop 1 bytes) n → is_identifier_start (get_or bytes 0 0) ≡ true → (get_or bytes 0 0 == 36) ≡ false
    → 1 + n ≤ limit → word_token (take (1 + n) bytes) ≡ Ok (tokens.name false (value.Text (take (1 + n) bytes))) → IsSimpleWord limit bytes (1 + n)
slice-simple limit n [] some within ends begins dollar le token = absurd (omega (arith, some))
slice-simple limit n (b ∷ bytes) some within ends begins dollar le token = word-simple limit n b bytes within ends begins dollar le token

-- a word that was begun, by what it means
pub begun-simple : (limit n : ℕ) (bytes : List ℕ) → IsBegun limit bytes n → word_token (take n bytes) ≡ Ok (tokens.name false (value.Text (take n bytes))) → IsSimpleWord limit bytes n
begun-simple limit n bytes begun token =
    subst (λ (k : ℕ). IsSimpleWord limit bytes k) (sym begun.count)
    (slice-simple limit begun.others bytes begun.some begun.within begun.ends begun.begins begun.no_dollar (let fits = begun.fits in let count = begun.count in omega (arith, fits, count))
    (subst (λ (k : ℕ). word_token (take k bytes) ≡ Ok (tokens.name false (value.Text (take k bytes)))) begun.count token))

-- it begins with no dollar sign
pub begun-dollar : (limit n : ℕ) (bytes : List ℕ) → IsBegun limit bytes n → first_is (λ b. b == 36) (take n bytes) ≡ false
begun-dollar limit n [] begun = absurd (let some = begun.some in omega (arith, some))
begun-dollar limit n (b ∷ bytes) begun =
    let count = begun.count in
    let is : n ≡ suc begun.others = omega (arith, count) in
    subst (λ (k : ℕ). first_is (λ b. b == 36) (take k (b ∷ bytes)) ≡ false) (sym is) begun.no_dollar

-- and with the byte that the slice begins with
pub begun-first : (limit n : ℕ) (bytes : List ℕ) → IsBegun limit bytes n → may_be_keyword (take n bytes) ≡ may_be_keyword bytes
begun-first limit n [] begun = absurd (let some = begun.some in omega (arith, some))
begun-first limit n (b ∷ bytes) begun =
    let count = begun.count in
    let is : n ≡ suc begun.others = omega (arith, count) in
    subst (λ (k : ℕ). may_be_keyword (take k (b ∷ bytes)) ≡ may_be_keyword (b ∷ bytes)) (sym is) refl

-- where no type is after it, it is all of the word
pub begun-shown : (limit n : ℕ) (bytes : List ℕ) → IsBegun limit bytes n → (bytes_eq (codes "null") (take n bytes) && first_is (λ b. b == 46) (drop n bytes)) ≡ false → AreShown word_of bytes n
begun-shown limit n bytes begun none =
    subst (λ (k : ℕ). AreShown word_of bytes k) (sym begun.count)
    (word-untyped bytes begun.others begun.some begun.within begun.ends (subst (λ (k : ℕ). (bytes_eq (codes "null") (take k bytes) && first_is (λ b. b == 46) (drop k bytes)) ≡ false) begun.count none))

pub begun-name : (limit n : ℕ) (bytes : List ℕ) (w : Word) → IsBegun limit bytes n → word_token (take n bytes) ≡ Ok (word_token_of (take n bytes) w) → IfName (IsSimpleWord limit bytes) (Whole w n)
begun-name limit n bytes (word.Null type) begun token = tt
begun-name limit n bytes (word.Bool truth) begun token = tt
begun-name limit n bytes word.Nan begun token = tt
begun-name limit n bytes (word.Id id) begun token = tt
begun-name limit n bytes word.Name begun token = begun-simple limit n bytes begun token

-- ---- names of fields

-- a name stands at the front of some bytes, and these after it
pub record IsName (limits : Rules) (place : ℕ) (bytes : List ℕ) (name : SymbolAt) (rest : List ℕ) : Type 0 where
  pub after : IsAfter bytes rest
  pub fewer : length rest ≤ length bytes
  pub same : (kinds : List Kind) (top q : ℕ) (more : List ℕ) → place + length bytes ≡ q + length rest
      → later limits (state kinds top a_field place (bytes ++ more)) ≡ comes limits (field_step kinds top name (at q (rest ++ more)))

-- a symbol by the text that was read of it
pub read-text : (text : TextAt) (place : ℕ) (word : List ℕ) → text.place ≡ place → text.text.now ≡ word → positions.at (value.Text word) place ≡ placed_text text
read-text text place word here is =
    ap (λ (l : List ℕ). positions.at (value.Text l) place) (sym is) ∙ ap (λ (p : ℕ). positions.at (value.Text text.text.now) p) (sym here)

-- a token that names a field
pub name-token : {limits : Rules} {place : ℕ} {first : First} {token : Token} {name : SymbolAt} {bytes rest : List ℕ} → IsToken limits.scalar first token place bytes rest → may_come a_field first ≡ true
    → ((kinds : List Kind) (top : ℕ) (c : Cursor) → comes limits (taken limits kinds top a_field place token c) ≡ comes limits (field_step kinds top name c)) → IsName limits place bytes name rest
name-token {limits} {place} {first} {token} {name} {bytes} {rest} is may names =
    let fewer = is.fewer in
    record {
      after = is.part;
      fewer = omega (arith, fewer);
      same = λ kinds top q more e. later-token limits kinds top place q a_field bytes rest more first token is.begins may (is.shown q more e) ∙ names kinds top (at q (rest ++ more));
    }

-- a symbol names one
pub symbol-names : (limits : Rules) (place : ℕ) (quoted : Bool) (name : TextAt) (word : List ℕ) → name.place ≡ place → name.text.now ≡ word → (kinds : List Kind) (top : ℕ) (c : Cursor)
    → comes limits (taken limits kinds top a_field place (tokens.name quoted (value.Text word)) c) ≡ comes limits (field_step kinds top (placed_text name) c)
unfolding taken
symbol-names limits place quoted name word here is kinds top c = ap (λ (a : SymbolAt). comes limits (field_step kinds top a c)) (read-text name place word here is)

-- so does a string
pub string-names : (limits : Rules) (place : ℕ) (name : TextAt) (bytes : List ℕ) → name.place ≡ place → name.text.now ≡ bytes → (kinds : List Kind) (top : ℕ) (c : Cursor)
    → comes limits (taken limits kinds top a_field place (tokens.text bytes) c) ≡ comes limits (field_step kinds top (placed_text name) c)
unfolding taken
string-names limits place name bytes here is kinds top c = ap (λ (a : SymbolAt). comes limits (field_step kinds top a c)) (read-text name place bytes here is)

pub may-word : may_come a_field tokens.a_word ≡ true
unfolding may_come
may-word = refl

pub may-quoted : may_come a_field tokens.a_quoted ≡ true
unfolding may_come
may-quoted = refl

pub may-string : may_come a_field tokens.a_short ≡ true
unfolding may_come
may-string = refl

colon-there : (kinds : List Kind) (top : ℕ) (a : SymbolAt) (c : Cursor) (rest more : List ℕ) → 0 < length rest → first_at false (rest ++ more) ≡ tokens.a_colon
    → colon_from kinds top a c (rest ++ more) ≡ colon_of kinds top a c tokens.a_colon
colon-there kinds top a c [] more some first = absurd (omega (arith, some))
colon-there kinds top a c (b ∷ rest) more some first = ap (colon_of kinds top a c) first

-- the name, the colon and the blanks after it
onward-name : (limits : Rules) (kinds : List Kind) (top place : ℕ) (name : SymbolAt) (bytes after colon rest : List ℕ) → IsName limits place bytes name after → ToColon after colon → PassesBlanks (drop 1 colon) rest
    → Onward limits kinds top place a_field bytes (a_value (Some name) []) rest
onward-name limits kinds top place name bytes after colon rest is to_colon passes =
    let first = is.fewer in
    let one = length-drop 1 colon in
    let fewer = to_colon.passes.fewer in
    let there = to_colon.some in
    let last = passes.fewer in
    let wants : Wants = a_value (Some name) [] in
    record {
      part = after-then bytes (drop 1 colon) rest
          (after-then bytes colon (drop 1 colon) (after-then bytes after colon is.after to_colon.passes.part) (some-after colon 1 (omega (arith, there)))) passes.part;
      fewer = omega (arith, first, one, fewer, last);
      same = λ q more e.
          let after_place : ℕ = place + (length bytes - length after) in
          let colon_place : ℕ = after_place + (length after - length colon) in
          let value_place : ℕ = colon_place + 1 in
          is.same kinds top after_place more (omega (arith, first))
          ∙ (ap (λ (o : Placed Cursor). comes limits (o >>= (λ d. colon_from kinds top name d d.rest))) (to_colon.passes.blank after_place colon_place more (omega (arith, fewer)))
          ∙ (ap (comes limits) (colon-there kinds top name (at colon_place (colon ++ more)) colon more there (to_colon.first more))
          ∙ (ap (λ (c : Cursor). later limits (record { kinds = kinds; top = top; wants = wants; cursor = c })) (mark-after colon more colon_place value_place there (omega (arith, one, there)))
          ∙ (onward-blanks limits kinds top value_place wants (drop 1 colon) rest passes).same q more (omega (arith, e, one, there, first, fewer)))));
    }

-- a value begins after the name that was read
pub named-as : (limits : Rules) (place : ℕ) (name : TextAt) (raw : SymbolAt) (bytes after : List ℕ) (start : Start) → IsName limits place bytes raw after → IsRightlyQuoted name → 0 < length bytes
    → IsAfterName name after start → IsNamedAs name raw limits place bytes start
named-as limits place name raw bytes after start is says some h = record {
  is = h.is;
  bare = h.bare;
  says = says;
  some = some;
  onward = λ kinds top. onward-name limits kinds top place raw bytes after h.colon start.next.rest.now is h.to_colon h.passes;
  begins = h.begins;
}

pub named-start : {limits : Rules} {place : ℕ} {bytes after : List ℕ} (name : TextAt) (start : Option Start) → IsName limits place bytes (placed_text name) after → IsRightlyQuoted name → 0 < length bytes
    → IfSome start (IsAfterName name after) → IfSome start (IsNamed limits place bytes)
named-start name None is says some h = tt
named-start {limits} {place} {bytes} {after} name (Some s) is says some h = record { text = name; name = named-as limits place name (placed_text name) bytes after s is says some h }

-- what is known of the next token, where there is one
pub next-begins : {bytes : List ℕ} {next : Next} → IsNext bytes next → 0 < length next.rest.now → Begins next
next-begins is some = record { some = some; tells = is.tells; bare = (is.passes some).bare }

-- it begins within the bytes
pub next-within : {bytes : List ℕ} {next : Next} → IsNext bytes next → length next.rest.now ≤ length bytes
next-within {bytes} {next} is = by (length next.rest.now) refl
  where
    by : (n : ℕ) → length next.rest.now ≡ n → length next.rest.now ≤ length bytes
    by zero e = omega (arith, e)
    by (suc n) e = (is.passes (omega (arith, e))).fewer

-- a value begins after it, where a name must come
pub start-as : (bounds : Bounds) (spot : Spot) (next : Next) (text : TextAt) (raw : SymbolAt) (start : Start) → length spot.rest.now ≤ bounds.end → expected_of spot ≡ codes_of.Field → IsNext spot.rest.now next
    → IsNamedAs text raw bounds.limits (place_in bounds next.rest.now) next.rest.now start → IsStartAs (Some raw) None bounds spot start
start-as bounds spot next text raw start within field is h =
    let passes = is.passes h.some in
    let fewer = passes.fewer in
    let limits = bounds.limits in
    let place = place_in bounds spot.rest.now in
    let named = place_in bounds next.rest.now in
    record {
      known = rw h.is tt;
      free = rw h.bare tt;
      field = rw h.is h.says;
      note = rw h.bare tt;
      second = tt;
      onward = λ kinds may.
          rw (h.bare, field) (onward-then limits kinds spot.top place named a_field a_field (a_value (Some raw) []) spot.rest.now next.rest.now start.next.rest.now (omega (arith, within, fewer))
          (onward-blanks limits kinds spot.top place a_field spot.rest.now next.rest.now passes) (h.onward kinds spot.top));
      named = λ kinds may. rw h.is (sym (subst (λ (e : Expected). MayExpect e kinds None []) field may).0);
      begins = h.begins;
    }

pub start-field : {named : ℕ} (bounds : Bounds) (spot : Spot) (next : Next) (start : Option Start) → named ≡ place_in bounds next.rest.now → length spot.rest.now ≤ bounds.end → expected_of spot ≡ codes_of.Field
    → IsNext spot.rest.now next → IfSome start (IsNamed bounds.limits named next.rest.now) → IfSome start (IsStart bounds spot)
start-field bounds spot next None here within field is h = tt
start-field bounds spot next (Some s) here within field is h =
    let name = subst (λ (p : ℕ). IsNamed bounds.limits p next.rest.now s) here h in
    subst (λ (f : Option TextAt). IsStartAs (option_map placed_text f) None bounds spot s) (sym name.name.is) (start-as bounds spot next name.text (placed_text name.text) s within field is name.name)

-- a name must come where a struct is open and no comma must come
pub expects-field : (spot : Spot) → spot.separator ≡ false → spot.kind ≡ a_kind.Struct → expected_of spot ≡ codes_of.Field
expects-field spot here struct = ap (λ (b : Bool). expected_in b spot.kind) here ∙ ap (λ (k : Kind). expected_in false k) struct

pub not-empty : (bytes : List ℕ) → (length bytes == 0) ≡ false → 0 < length bytes
not-empty [] e = absurd (cc e)
not-empty (b ∷ bytes) e = omega arith

-- no annotation was read there
pub named-bare : (limits : Rules) (place : ℕ) (bytes : List ℕ) (start : Option Start) → IfSome start (IsNamed limits place bytes) → IfSome start (λ s. s.note ≡ None)
named-bare limits place bytes None h = tt
named-bare limits place bytes (Some s) h = h.name.bare
