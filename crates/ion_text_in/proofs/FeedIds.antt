-- Ids in a lane: as the name of a field, and as a value.
use Rattle.std.proofs.Common.{◌≡◌, ℕ, ◌+◌, ◌<◌, ◌≤◌, Bool, true, false, ◌==◌, get_or, List, [], ◌∷◌, ◌++◌, length, take, drop, Option, Some, None, IfSome, Ok, refl, sym, ap, subst, ◌∙◌, arith}
use Rattle.std.specs.Prelude.{option_map}
use Rattle.ion_meter.specs.Sources.{Cursor}
use Rattle.ion_meter.specs.declared.profile.Rules.{Rules}
use Rattle.ion_value.specs.declared.ion_type.Kind.{Kind}
use Rattle.ion_value.specs.declared.plain_item.TextAt.{TextAt}
use Rattle.ion_value.specs.declared.writer.ValueWriter.{Ghosts as WriterOf}
use Rattle.ion_value.specs.Digits.{first_is}
use Rattle.ion_value.specs.Items.{named_at, raw_head, text_or_id}
use Rattle.ion_value.specs.Name.{is_identifier_byte, is_simple}
use Rattle.ion_value.specs.PlainItems.{placed_text, IsRightlyQuoted}
use Rattle.ion_value.specs.Value as value
use Rattle.ion_value.specs.Value.{SymbolAt, map_head}
use Rattle.ion_text_in.specs.Blanks.{blanks}
use Rattle.ion_text_in.specs.declared.expected.Expected.TheVariants as codes_of
use Rattle.ion_text_in.specs.declared.feed.spot.Bounds.{Bounds}
use Rattle.ion_text_in.specs.declared.feed.spot.Found.{Found}
use Rattle.ion_text_in.specs.declared.feed.spot.Next.{Next}
use Rattle.ion_text_in.specs.declared.feed.spot.Spot.{Spot}
use Rattle.ion_text_in.specs.declared.feed.spot.Start.{Start}
use Rattle.ion_text_in.specs.declared.scanned.Scanned.TheVariants.{Whole}
use Rattle.ion_text_in.specs.declared.word.Word.{Word}
use Rattle.ion_text_in.specs.declared.word.Word.TheVariants as word
use Rattle.ion_text_in.specs.Feeding.{expected_of, place_in, BeginsAs, IsAfterName, IsFound, IsFoundBy, IsFoundRead, IsFurther, IsHead, IsHeadAs, IsIdOf, IsNamedBy, IsNext, IsStartBy, IsStartRead, IsZeroId, Lane, Turns, TurnsBy}
use Rattle.ion_text_in.specs.Meaning.{at}
use Rattle.ion_text_in.specs.Places.{run_of}
use Rattle.ion_text_in.specs.Positions as positions
use Rattle.ion_text_in.specs.Positions.{a_field}
use Rattle.ion_text_in.specs.Reading.{take as taken, field_step, tells_version}
use Rattle.ion_text_in.specs.Scanners.{Shows}
use Rattle.ion_text_in.specs.Steps.{comes}
use Rattle.ion_text_in.specs.Token as tokens
use Rattle.ion_text_in.specs.Token.{first_at, in_word, token_of}
use Rattle.ion_text_in.specs.Views.{word_token_of}
use Rattle.ion_text_in.proofs.BlankTurns.{no-slash}
use Rattle.ion_text_in.proofs.FeedHeads.{head-word}
use Rattle.ion_text_in.proofs.FeedItems.{head-seen, text-seen}
use Rattle.ion_text_in.proofs.FeedNames.{named-as, name-token, may-word, start-as}
use Rattle.ion_text_in.proofs.FeedReading.{token-front, IsToken}
use Rattle.ion_text_in.proofs.Meaning.{run-none}
use Rattle.ion_text_in.proofs.ShownFurther.{shown-some}
use Rattle.ion_text_in.proofs.ShownTokens.{word-shown}
use Rattle.ion_text_in.proofs.WordTokens.{word-untyped, dollar-word as dollar-means}

-- ---- a dollar sign

dollar-is : (b : ℕ) → (b == 36) ≡ true → b ≡ 36
dollar-is b e = grind (arith, e)

dollar-word : (sexp : Bool) (bytes : List ℕ) → first_at sexp (36 ∷ bytes) ≡ tokens.a_word
unfolding first_at
dollar-word sexp bytes = refl

-- it begins a word
pub dollar-begins : (bytes : List ℕ) → first_is (λ b. b == 36) bytes ≡ true → BeginsAs tokens.a_word bytes
dollar-begins [] e = absurd (cc e)
dollar-begins (b ∷ bytes) e = record {
  bare = λ p more.
      ap (λ (x : ℕ). blanks (at p (x ∷ (bytes ++ more)))) (dollar-is b e) ∙ (no-slash p 36 (bytes ++ more) refl refl ∙ ap (λ (x : ℕ). Ok (at p (x ∷ (bytes ++ more)))) (sym (dollar-is b e)));
  some = omega arith;
  first = λ sexp more. ap (λ (x : ℕ). first_at sexp (x ∷ (bytes ++ more))) (dollar-is b e) ∙ dollar-word sexp (bytes ++ more);
}

-- ---- `$0`

-- no more than the digit goes on with the word
zero-ends : (next : ℕ) (rest : List ℕ) → is_identifier_byte next ≡ false → run_of in_word (48 ∷ next ∷ rest) ≡ (48 ∷ [], next ∷ rest)
unfolding run_of
zero-ends next rest other = ap (λ (z : List ℕ × List ℕ). (48 ∷ z.0, z.1)) (run-none in_word (next ∷ rest) other)

zero-there : (limit next : ℕ) (bytes : List ℕ) → is_identifier_byte next ≡ false → 2 ≤ limit → IsZeroId limit (36 ∷ 48 ∷ next ∷ bytes)
zero-there limit next bytes other fits =
    let slice : List ℕ = 36 ∷ 48 ∷ next ∷ bytes in
    let there = word-untyped slice 1 (omega arith) (omega arith) (λ more. zero-ends next (bytes ++ more) other) refl in
    let shows = word-shown (word_token_of (36 ∷ 48 ∷ [])) (word.Id 0) limit 2 slice there fits (dollar-means (36 ∷ 48 ∷ []) refl) in
    record { dollar = refl; within = omega arith; shown = λ place more. shows.1 place more }

-- a word that is `$0`
pub zero-id : (limit : ℕ) (bytes : List ℕ) → 3 ≤ length bytes → get_or bytes 0 0 ≡ 36 → get_or bytes 1 0 ≡ 48 → is_identifier_byte (get_or bytes 2 0) ≡ false → 2 ≤ limit → IsZeroId limit bytes
zero-id limit [] some dollar zero other fits = absurd (omega (arith, some))
zero-id limit (a ∷ []) some dollar zero other fits = absurd (omega (arith, some))
zero-id limit (a ∷ b ∷ []) some dollar zero other fits = absurd (omega (arith, some))
zero-id limit (a ∷ b ∷ next ∷ bytes) some dollar zero other fits =
    subst (λ (x : ℕ). IsZeroId limit (x ∷ b ∷ next ∷ bytes)) (sym dollar)
    (subst (λ (x : ℕ). IsZeroId limit (36 ∷ x ∷ next ∷ bytes)) (sym zero) (zero-there limit next bytes other fits))

-- ---- an id by its text

-- a word that is one
pub id-shown : (texts : ℕ → Option (List ℕ)) (limit : ℕ) (bytes text : List ℕ) (x : Word) (id n : ℕ) → 0 < length bytes
    → Shows (word_token_of (take n bytes)) bytes (Whole x n) (token_of (Some limit) tokens.a_word) → x ≡ word.Id id → texts id ≡ Some text → is_simple text ≡ true → IsIdOf texts limit bytes text n
id-shown texts limit bytes text x id n some shows is has simple = record {
  id = id;
  has = has;
  simple = simple;
  some = shown-some (word_token_of (take n bytes)) bytes x n (Some limit) tokens.a_word shows some;
  within = shows.0;
  shown = λ place more. shows.1 place more ∙ ap (λ (w : Word). Ok (word_token_of (take n bytes) w, at (place + n) (drop n bytes ++ more))) is;
}

-- it is seen as its text
id-seen : (texts : ℕ → Option (List ℕ)) (id place : ℕ) (text : List ℕ) → texts id ≡ Some text → named_at texts (positions.at (value.Id id) place) ≡ positions.at (value.Text text) place
id-seen texts id place text has = ap (λ (o : Option (List ℕ)). positions.at (text_or_id id o) place) has

-- ---- the name of a field

id-names : (limits : Rules) (place id : ℕ) (kinds : List Kind) (top : ℕ) (c : Cursor)
    → comes limits (taken limits kinds top a_field place (tokens.name false (value.Id id)) c) ≡ comes limits (field_step kinds top (positions.at (value.Id id) place) c)
unfolding taken
id-names limits place id kinds top c = refl

-- the token
token-id : {texts : ℕ → Option (List ℕ)} {limit place n : ℕ} {bytes text rest : List ℕ} (is : IsIdOf texts limit bytes text n) → rest ≡ drop n bytes → first_is (λ b. b == 36) bytes ≡ true
    → IsToken limit tokens.a_word (tokens.name false (value.Id is.id)) place bytes rest
token-id {bytes} is after dollar = token-front after is.some is.within is.shown (dollar-begins bytes dollar)

-- a value begins after an id that is its name
pub named-id : (texts : ℕ → Option (List ℕ)) (limits : Rules) (place n : ℕ) (name : TextAt) (bytes rest : List ℕ) (start : Option Start) → name.place ≡ place → IsRightlyQuoted name → IsIdOf texts limits.scalar bytes name.text.now n
    → rest ≡ drop n bytes → first_is (λ b. b == 36) bytes ≡ true → IfSome start (IsAfterName name rest) → IfSome start (IsNamedBy texts limits place bytes)
named-id texts limits place n name bytes rest None here says is after dollar h = tt
named-id texts limits place n name bytes rest (Some s) here says is after dollar h =
    let raw = positions.at (value.Id is.id) place in
    record {
      text = name;
      raw = raw;
      seen = id-seen texts is.id place name.text.now is.has ∙ ap (λ (p : ℕ). positions.at (value.Text name.text.now) p) (sym here);
      name = named-as limits place name raw bytes rest s (name-token (token-id is after dollar) may-word (id-names limits place is.id)) says (dollar-begins bytes dollar).some h;
    }

pub start-named : {named : ℕ} (texts : ℕ → Option (List ℕ)) (bounds : Bounds) (spot : Spot) (next : Next) (start : Option Start) → named ≡ place_in bounds next.rest.now → length spot.rest.now ≤ bounds.end → expected_of spot ≡ codes_of.Field → IsNext spot.rest.now next
    → IfSome start (IsNamedBy texts bounds.limits named next.rest.now) → IfSome start (IsStartBy texts None bounds spot)
start-named texts bounds spot next None here within field is h = tt
start-named texts bounds spot next (Some s) here within field is h = let name = subst (λ (p : ℕ). IsNamedBy texts bounds.limits p next.rest.now s) here h in record {
  raw = Some name.raw;
  seen = ap (λ (a : SymbolAt). Some a) name.seen ∙ ap (λ (f : Option TextAt). option_map placed_text f) (sym name.name.is);
  read = start-as bounds spot next name.text name.raw s within field is name.name;
}

-- the name is a text, if there is one
pub text-start : (texts : ℕ → Option (List ℕ)) {second : Option TextAt} {bounds : Bounds} {spot : Spot} {start : Start} → IsFurther second bounds spot start → IsStartBy texts second bounds spot start
text-start texts {start} h = record { raw = option_map placed_text start.field; seen = text-seen texts start.field; read = h }

-- ---- a value

id-marker : (id : ℕ) (k : Option Kind) (annotations : List SymbolAt) → tells_version k annotations false (value.Id id) ≡ false
unfolding tells_version
id-marker id None [] = refl
id-marker id None (a ∷ annotations) = refl
id-marker id (Some k) annotations = refl

-- an id after which a token is told that is no two colons
pub head-id : {texts : ℕ → Option (List ℕ)} {limits : Rules} {place n : ℕ} {bytes text rest : List ℕ} (next : Next) (is : IsIdOf texts limits.scalar bytes text n) → rest ≡ drop n bytes → IsNext rest next → (next.told ≡ 0 → ⊥)
    → first_is (λ b. b == 36) bytes ≡ true → IsHeadAs (value.whole (value.symbol (positions.at (value.Id is.id) place))) limits place bytes (value.whole (value.symbol (positions.at (value.Text text) place))) rest
head-id {text} next is after told_next told dollar = head-word false (value.Id is.id) (value.Text text) next (token-id is after dollar) tt (id-marker is.id) told_next told

-- `$0`, after which such a token is told
pub head-zero : {limits : Rules} {place : ℕ} {bytes rest : List ℕ} (next : Next) → IsZeroId limits.scalar bytes → rest ≡ drop 2 bytes → IsNext rest next → (next.told ≡ 0 → ⊥)
    → IsHead limits place bytes (value.whole (value.symbol (positions.at (value.Id 0) place))) rest
head-zero {bytes} next is after told_next told =
    head-word false (value.Id 0) (value.Id 0) next (token-front after (omega arith) is.within is.shown (dollar-begins bytes is.dollar)) refl (id-marker 0) told_next told

pub head-id-seen : (texts : ℕ → Option (List ℕ)) (id place : ℕ) (text : List ℕ) → texts id ≡ Some text
    → map_head (named_at texts) (value.whole (value.symbol (positions.at (value.Id id) place))) ≡ value.whole (value.symbol (positions.at (value.Text text) place))
head-id-seen texts id place text has = ap (λ (a : SymbolAt). value.whole (value.symbol a)) (id-seen texts id place text has)

-- a head that is no id
pub found-text : (texts : ℕ → Option (List ℕ)) {limits : Rules} {place : ℕ} {bytes : List ℕ} {found : Found} → texts 0 ≡ None → IsFound limits place bytes found → IsFoundBy texts limits place bytes found
found-text texts {found} none h = record { raw = raw_head found.head; seen = head-seen texts (raw_head found.head) none h.head.known; head = h.head; spelled = h.spelled }

-- ---- by the texts that ids have

pub start-seen : {texts : ℕ → Option (List ℕ)} {second : Option TextAt} {bounds : Bounds} {spot : Spot} {start : Start} (s : IsStartBy texts second bounds spot start) (t : ℕ → Option (List ℕ)) → t ≡ texts
    → option_map (named_at t) s.raw ≡ option_map placed_text start.field
start-seen {start} s t is = subst (λ (x : ℕ → Option (List ℕ)). option_map (named_at x) s.raw ≡ option_map placed_text start.field) (sym is) s.seen

pub found-seen : {texts : ℕ → Option (List ℕ)} {limits : Rules} {place : ℕ} {bytes : List ℕ} {found : Found} (f : IsFoundBy texts limits place bytes found) (t : ℕ → Option (List ℕ)) → t ≡ texts
    → map_head (named_at t) f.raw ≡ raw_head found.head
found-seen {found} f t is = subst (λ (x : ℕ → Option (List ℕ)). map_head (named_at x) f.raw ≡ raw_head found.head) (sym is) f.seen

-- ---- however they are read

pub start-read : {second : Option TextAt} {bounds : Bounds} {spot : Spot} {start : Start} → IsFurther second bounds spot start → IsStartRead second bounds spot start
start-read {start} h = record { raw = option_map placed_text start.field; read = h }

pub found-read : {limits : Rules} {place : ℕ} {bytes : List ℕ} {found : Found} → IsFound limits place bytes found → IsFoundRead limits place bytes found
found-read {found} h = record { raw = raw_head found.head; head = h.head; spelled = h.spelled }

-- what a turn moves by any texts it moves whatever they are
turns-any : {W O A : Type 0} {w : WriterOf W O A} {bounds : Bounds} {more : Bool} {l n : Lane W O} → ((texts : ℕ → Option (List ℕ)) → texts 0 ≡ None → TurnsBy w bounds texts more l n) → Turns w bounds more l n
turns-any by =
    let turned = by (λ id. None) refl in
    let one = turned.moved in
    record {
      moved = record {
        feeds = λ texts none more. (by texts none).moved.feeds texts refl more;
        falls = one.falls;
        opens = one.opens;
        part = one.part;
        fewer = one.fewer;
        few = one.few;
        kind = one.kind;
        expects = one.expects;
        takes = one.takes;
        share = one.share;
        stays = one.stays;
        charges = one.charges;
      };
      less = turned.less;
    }

-- so is what name and head are read of, where both are texts
pub turns-text : {W O A : Type 0} {w : WriterOf W O A} {bounds : Bounds} {more : Bool} {l n : Lane W O} {second : Option TextAt} {spot : Spot} {start : Start} {place : ℕ} {bytes : List ℕ} {found : Found}
    → IsFurther second bounds spot start → IsFound bounds.limits place bytes found
    → ((texts : ℕ → Option (List ℕ)) → IsStartBy texts second bounds spot start → IsFoundBy texts bounds.limits place bytes found → TurnsBy w bounds texts more l n) → Turns w bounds more l n
turns-text s f turns = turns-any (λ texts none. turns texts (text-start texts s) (found-text texts none f))
