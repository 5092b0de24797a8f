-- Annotations in a lane.
use Rattle.std.proofs.Common.{◌≡◌, ℕ, ◌+◌, ◌-◌, ◌≤◌, Bool, true, false, ◌==◌, nat_lt, List, [], ◌∷◌, ◌++◌, length, drop, get_or, Option, Some, None, IfSome, Ok, refl, sym, ap, ◌∙◌, arith}
use Rattle.std.specs.Prelude.{is_none, option_map, sum_by}
use Rattle.std.proofs.lemmas.List.{length-drop}
use Rattle.ion_meter.specs.Sources.{Cursor, skip}
use Rattle.ion_meter.specs.declared.profile.Rules.{Rules}
use Rattle.ion_meter.specs.declared.fault.Reason.TheVariants.{AnnotationLimit}
use Rattle.ion_value.specs.declared.ion_type.Kind.{Kind}
use Rattle.ion_value.specs.declared.ion_type.Kind.TheVariants as a_kind
use Rattle.ion_value.specs.declared.plain_item.TextAt.{TextAt}
use Rattle.ion_value.specs.Digits.{first_is}
use Rattle.ion_value.specs.Parts.{part, refuse, ◌>>◌}
use Rattle.ion_value.specs.PlainItems.{placed_text, with_second, HasNoDollar, HaveNoDollar, IsRightlyQuoted, StandsAfter}
use Rattle.ion_value.specs.Value as value
use Rattle.ion_value.specs.Value.{SymbolAt}
use Rattle.ion_text_in.specs.declared.expected.Expected.{Expected}
use Rattle.ion_text_in.specs.declared.expected.Expected.TheVariants as expected
use Rattle.ion_text_in.specs.declared.feed.spot.Bounds.{Bounds}
use Rattle.ion_text_in.specs.declared.feed.spot.Next.{Next}
use Rattle.ion_text_in.specs.declared.feed.spot.Spot.{Spot}
use Rattle.ion_text_in.specs.declared.feed.spot.Start.{Start}
use Rattle.ion_text_in.specs.Blanks.{blanks}
use Rattle.ion_text_in.specs.Expecting.{wanted, MayExpect}
use Rattle.ion_text_in.specs.Feeding.{expected_of, notes, place_in, state, BeginsAs, IsAfter, IsAfterColons, IsAfterNote, IsFurther, IsNoted, IsStart, IsStartAs, Onward}
use Rattle.ion_text_in.specs.Meaning.{at}
use Rattle.ion_text_in.specs.Positions.{Wants, a_value, in_sexp, innermost}
use Rattle.ion_text_in.specs.Reading.{take as taken, after_colons, colons_at, colons_after, cost, onward_step, symbol_step}
use Rattle.ion_text_in.specs.Steps.{comes, later}
use Rattle.ion_text_in.specs.Token as tokens
use Rattle.ion_text_in.specs.Token.{First, first_at}
use Rattle.ion_text_in.proofs.BlankTurns.{no-slash}
use Rattle.ion_text_in.proofs.FeedNames.{read-text}
use Rattle.ion_text_in.proofs.FeedReading.{after-then, later-token, may-value, onward-blanks, onward-then, some-after, IsToken}

not-less : (n m : ℕ) → m ≤ n → nat_lt n m ≡ false
not-less n m h = grind (arith, h)

-- an annotation for which there is room costs no more than may be, with one before it
pub room-costs : (limit : ℕ) (before : Option TextAt) (note : TextAt) → 16 + length note.text.now ≤ limit - sum_by cost (notes before) → sum_by cost (notes before ++ placed_text note ∷ []) ≤ limit
room-costs limit None note fits = omega (arith, fits)
room-costs limit (Some first) note fits = omega (arith, fits)

-- a symbol after which two colons stand is an annotation after those before it
note-stepped : (limits : Rules) (kinds : List Kind) (top place : ℕ) (field : Option SymbolAt) (before : List SymbolAt) (quoted : Bool) (note : TextAt) (c d : Cursor) → after_colons (in_sexp (innermost kinds)) c ≡ Some d
    → sum_by cost (before ++ placed_text note ∷ []) ≤ limits.scalar
    → comes limits (part place (symbol_step limits kinds top field before quoted (placed_text note) c (after_colons (in_sexp (innermost kinds)) c)))
    ≡ later limits (record { kinds = kinds; top = top; wants = a_value field (before ++ placed_text note ∷ []); cursor = d })
note-stepped limits kinds top place field before quoted note c d colons within =
    let a = placed_text note in
    ap (λ (o : Option Cursor). comes limits (part place (symbol_step limits kinds top field before quoted a c o))) colons
    ∙ ap (λ (b : Bool). comes limits (part place (refuse b AnnotationLimit >> Ok (onward_step kinds top (a_value field (before ++ a ∷ [])) d))))
    (not-less limits.scalar (sum_by cost (before ++ a ∷ [])) within)

both-colons : (sexp : Bool) (bytes : List ℕ) → first_at sexp (58 ∷ 58 ∷ bytes) ≡ tokens.two_colons
unfolding first_at
both-colons true bytes = refl
both-colons false bytes = refl

-- two colons show themselves
pub colons-begin : (bytes : List ℕ) → 2 ≤ length bytes → get_or bytes 0 0 ≡ 58 → get_or bytes 1 0 ≡ 58 → BeginsAs tokens.two_colons bytes
colons-begin [] two first second = absurd (omega (arith, two))
colons-begin (a ∷ []) two first second = absurd (omega (arith, two))
colons-begin (a ∷ b ∷ bytes) two first second = record {
  bare = λ p more. ap (λ (x : ℕ). blanks (at p (x ∷ b ∷ (bytes ++ more)))) first ∙ (no-slash p 58 (b ∷ (bytes ++ more)) refl refl ∙ ap (λ (x : ℕ). Ok (at p (x ∷ b ∷ (bytes ++ more)))) (sym first));
  some = omega arith;
  first = λ sexp more. ap (λ (x : ℕ). first_at sexp (x ∷ b ∷ (bytes ++ more))) first ∙ (ap (λ (x : ℕ). first_at sexp (58 ∷ x ∷ (bytes ++ more))) second ∙ both-colons sexp (bytes ++ more));
}

two-after : (bytes more : List ℕ) (p : ℕ) → 2 ≤ length bytes → skip 2 (at p (bytes ++ more)) ≡ at (p + 2) (drop 2 bytes ++ more)
two-after [] more p two = absurd (omega (arith, two))
two-after (a ∷ []) more p two = absurd (omega (arith, two))
two-after (a ∷ b ∷ bytes) more p two = refl

-- a symbol stands at the front of some bytes where a value may begin, after any annotations, and these after it
pub record IsSymbol (limits : Rules) (place : ℕ) (bytes : List ℕ) (text : TextAt) (rest : List ℕ) : Type 0 where
  pub after : IsAfter bytes rest
  pub fewer : length rest ≤ length bytes
  pub quoted : Bool
  pub same : (kinds : List Kind) (top q : ℕ) (field : Option SymbolAt) (before : List SymbolAt) (more : List ℕ) → place + length bytes ≡ q + length rest
      → later limits (state kinds top (a_value field before) place (bytes ++ more))
      ≡ comes limits (part place (symbol_step limits kinds top field before quoted (placed_text text) (at q (rest ++ more)) (after_colons (in_sexp (innermost kinds)) (at q (rest ++ more)))))

symbol-taken : (limits : Rules) (place : ℕ) (quoted : Bool) (text : TextAt) (word : List ℕ) → text.place ≡ place → text.text.now ≡ word → (kinds : List Kind) (top : ℕ) (field : Option SymbolAt) (before : List SymbolAt) (c : Cursor)
    → comes limits (taken limits kinds top (a_value field before) place (tokens.name quoted (value.Text word)) c)
    ≡ comes limits (part place (symbol_step limits kinds top field before quoted (placed_text text) c (after_colons (in_sexp (innermost kinds)) c)))
unfolding taken
symbol-taken limits place quoted text word here is kinds top field before c =
    ap (λ (a : SymbolAt). comes limits (part place (symbol_step limits kinds top field before quoted a c (after_colons (in_sexp (innermost kinds)) c)))) (read-text text place word here is)

pub symbol-token : {limits : Rules} {place : ℕ} {first : First} {word bytes rest : List ℕ} (quoted : Bool) (text : TextAt) → text.place ≡ place → text.text.now ≡ word
    → IsToken limits.scalar first (tokens.name quoted (value.Text word)) place bytes rest → IsSymbol limits place bytes text rest
symbol-token {limits} {place} {first} {word} {bytes} {rest} quoted text here is token =
    let fewer = token.fewer in
    record {
      after = token.part;
      fewer = omega (arith, fewer);
      quoted = quoted;
      same = λ kinds top q field before more e.
          later-token limits kinds top place q (a_value field before) bytes rest more first (tokens.name quoted (value.Text word)) token.begins (may-value field before first) (token.shown q more e)
          ∙ symbol-taken limits place quoted text word here is kinds top field before (at q (rest ++ more));
    }

-- an annotation after others, the two colons and the blanks after them
pub onward-note : (limits : Rules) (kinds : List Kind) (top place : ℕ) (field : Option SymbolAt) (before : List SymbolAt) (note : TextAt) (bytes colon : List ℕ) (next : Next) → IsSymbol limits place bytes note colon
    → sum_by cost (before ++ placed_text note ∷ []) ≤ limits.scalar → IsAfterColons colon next
    → Onward limits kinds top place (a_value field before) bytes (a_value field (before ++ placed_text note ∷ [])) next.rest.now
onward-note limits kinds top place field before note bytes colon next is costs h =
    let rest = next.rest.now in
    let first = is.fewer in
    let two = h.two in
    let after_long = length-drop 2 colon in
    let last = h.passes.fewer in
    let wants : Wants = a_value field (before ++ placed_text note ∷ []) in
    record {
      part = after-then bytes (drop 2 colon) rest (after-then bytes colon (drop 2 colon) is.after (some-after colon 2 two)) h.passes.part;
      fewer = omega (arith, first, after_long, last);
      same = λ q more e.
          let sexp : Bool = in_sexp (innermost kinds) in
          let colons_place : ℕ = place + (length bytes - length colon) in
          let there : after_colons sexp (at colons_place (colon ++ more)) ≡ Some (at (colons_place + 2) (drop 2 colon ++ more)) =
          ap (colons_after sexp) (h.shown.bare colons_place more)
          ∙ (ap (λ (f : First). colons_at f (at colons_place (colon ++ more))) (h.shown.first sexp more) ∙ ap (λ (c : Cursor). Some c) (two-after colon more colons_place two)) in
          is.same kinds top colons_place field before more (omega (arith, first))
          ∙ (note-stepped limits kinds top place field before is.quoted note (at colons_place (colon ++ more)) (at (colons_place + 2) (drop 2 colon ++ more)) there costs
          ∙ (onward-blanks limits kinds top (colons_place + 2) wants (drop 2 colon) rest h.passes).same q more (omega (arith, e, two, after_long, first)));
    }

-- ---- where the value begins

-- what may come, whatever must
some-opened : (e : Expected) → (kinds : List Kind) × MayExpect e kinds None []
some-opened expected.Value = ([], refl)
some-opened expected.Field = (a_kind.Struct ∷ [], (refl, refl, refl))
some-opened expected.Separator = ([], (refl, refl))

-- it begins in what is to come
pub start-part : {raw : Option SymbolAt} {second : Option TextAt} {bounds : Bounds} {spot : Spot} {start : Start} → IsStartAs raw second bounds spot start → IsAfter spot.rest.now start.next.rest.now × (length start.next.rest.now ≤ length spot.rest.now)
start-part {bounds} {spot} is = let opened = some-opened (expected_of spot) in let onward = is.onward opened.0 opened.1 in (onward.part, onward.fewer)

-- a value begins after the annotation that was read
pub note-after : {limits : Rules} {place : ℕ} {note : TextAt} {colon : List ℕ} (start : Start) (noted : Option Start) → IsSymbol limits place start.next.rest.now note colon → IsRightlyQuoted note
    → first_is (λ b. b == 36) note.text.now ≡ false → IfSome noted (IsAfterNote limits start note colon) → IfSome noted (IsNoted limits place start)
note-after start None is says free h = tt
note-after {limits} {place} {note} {colon} start (Some s) is says free h = record {
  text = note;
  is = h.is;
  same = h.same;
  says = says;
  free = free;
  onward = λ kinds top field. onward-note limits kinds top place field (notes start.note) note start.next.rest.now colon s.next is h.costs h.after;
  begins = h.after.begins;
}

both-free : (first : Option TextAt) (text : TextAt) → HaveNoDollar (notes first) → HasNoDollar (value.Text text.text.now) → HaveNoDollar (notes first ++ placed_text text ∷ [])
both-free None text before free = (free, tt)
both-free (Some t) text before free = (before.0, (free, tt))

stands-after : (first : Option TextAt) (text : TextAt) → is_none first ≡ false → IsRightlyQuoted text → StandsAfter first text
stands-after None text some says = absurd (cc some)
stands-after (Some t) text some says = says

-- so it does where a lane stands
start-more : {bounds : Bounds} {spot : Spot} {start noted : Start} (second : Option TextAt) (new : Start) → length spot.rest.now ≤ bounds.end → IsStart bounds spot start
    → (h : IsNoted bounds.limits (place_in bounds start.next.rest.now) start noted) → new.field ≡ start.field → new.next ≡ noted.next → with_second (notes new.note) second ≡ notes start.note ++ placed_text h.text ∷ []
    → IfSome new.note IsRightlyQuoted → IfSome second (StandsAfter new.note) → IsFurther second bounds spot new
start-more {bounds} {spot} {start} {noted} second new within is h field next both note stands =
    let name = option_map placed_text start.field in
    record {
      known = rw field is.known;
      free = rw both (both-free start.note h.text is.free h.free);
      field = rw field is.field;
      note = note;
      second = stands;
      onward = λ kinds may.
          let before = is.onward kinds may in
          let fewer = before.fewer in
          rw (both, field, next) (onward-then bounds.limits kinds spot.top (place_in bounds spot.rest.now) (place_in bounds start.next.rest.now) (wanted (expected_of spot) None []) (a_value name (notes start.note))
          (a_value name (notes start.note ++ placed_text h.text ∷ [])) spot.rest.now start.next.rest.now noted.next.rest.now (omega (arith, fewer, within)) before (h.onward kinds spot.top name));
      named = λ kinds may. rw field (is.named kinds may);
      begins = rw next h.begins;
    }

pub start-noted : {bounds : Bounds} {spot : Spot} {start noted : Start} → length spot.rest.now ≤ bounds.end → IsStart bounds spot start → start.note ≡ None
    → IsNoted bounds.limits (place_in bounds start.next.rest.now) start noted → IsStart bounds spot noted
start-noted {noted} within is bare h = start-more None noted within is h h.same refl (rw (h.is, bare) refl) (rw h.is h.says) tt

pub start-second : {bounds : Bounds} {spot : Spot} {start noted : Start} (new : Start) → new.field ≡ start.field → new.note ≡ start.note → new.next ≡ noted.next → is_none start.note ≡ false
    → IsNoted bounds.limits (place_in bounds start.next.rest.now) start noted → length spot.rest.now ≤ bounds.end → IsStart bounds spot start → IsFurther noted.note bounds spot new
start-second {start} {noted} new field kept next some h within is =
    start-more noted.note new within is h field next (rw (kept, h.is) refl) (rw kept is.note) (rw (h.is, kept) (stands-after start.note h.text some h.says))

-- before the first annotation there is the whole limit
pub first-room : (limit : ℕ) (before : Option TextAt) → before ≡ None → limit ≡ limit - sum_by cost (notes before)
first-room limit before none = rw none (omega arith)
