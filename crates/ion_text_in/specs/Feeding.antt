-- A lane over the bytes of a window: where it stands, what it reads of them, and what it moves.
use Rattle.std.specs.Prelude.{◌≡◌, ℕ, ◌+◌, ◌*◌, ◌-◌, ◌^◌, ◌<◌, ◌≤◌, ◌==◌, max, Bool, get_or, true, false, List, [], ◌∷◌, ◌++◌, take, drop, length, reverse, is_some, sum_by, Option, Some, None, Ok, option_map, IfSome}
use Rattle.ion_meter.specs.Counts.{Counts}
use Rattle.ion_meter.specs.declared.profile.Rules.{Rules}
use Rattle.ion_meter.specs.Rules.{AreSmall}
use Rattle.ion_meter.specs.Sources.{Cursor, skip}
use Rattle.ion_meter.specs.Windows.{Incoming, lent, Outgoing, IsPassed}
use Rattle.ion_value.specs.declared.ion_type.Kind.{Kind}
use Rattle.ion_value.specs.declared.plain_item.TextAt.{TextAt}
use Rattle.ion_value.specs.declared.writer.ValueWriter.{Ghosts as WriterOf}
use Rattle.ion_value.specs.Digits.{first_is}
use Rattle.ion_value.specs.Feeding.{CanTake, Feeds, Joint, StaysWell}
use Rattle.ion_value.specs.Items.{named_at, named_item, raw_head}
use Rattle.ion_value.specs.Outcome.{one_if_closed}
use Rattle.ion_value.specs.Parts.{Placed}
use Rattle.ion_value.specs.PlainItems.{listed, placed_text, with_second, StandsAfter, HasKnownName, HasNoDollar, HaveNoDollar, IsPlainHead, IsRightlyQuoted, IsTextOf}
use Rattle.ion_value.specs.Reading.{More}
use Rattle.ion_value.specs.Shares.{Charges}
use Rattle.ion_value.specs.Standing.{open_after, in_struct, has_field, is_marker, HasPlace, HeadInRange, WritesWithin}
use Rattle.ion_value.specs.Value as value
use Rattle.ion_value.specs.Value.{SymbolAt, Head, PlacedItem, map_head}
use Rattle.ion_text_in.specs.declared.expected.Expected.{Expected}
use Rattle.ion_text_in.specs.declared.reader.TextReader.{TextReader}
use Rattle.ion_text_in.specs.declared.feed.spot.Bounds.{Bounds}
use Rattle.ion_text_in.specs.declared.feed.spot.Spot.{Spot}
use Rattle.ion_text_in.specs.declared.feed.spot.Next.{Next}
use Rattle.ion_text_in.specs.declared.feed.spot.Start.{Start}
use Rattle.ion_text_in.specs.declared.feed.spot.Further.{Further}
use Rattle.ion_text_in.specs.declared.feed.spot.Found.{Found}
use Rattle.ion_text_in.specs.declared.feed.texts.Between.{Between}
use Rattle.ion_text_in.specs.declared.quoted.Quote.{Quote as CodeQuote}
use Rattle.ion_text_in.specs.declared.quoted.Quote.TheVariants as quotes
use Rattle.ion_text_in.specs.declared.scanned.Scanned.{Scanned}
use Rattle.ion_text_in.specs.declared.scanned.Scanned.TheVariants.{Whole, Fault, Cut}
use Rattle.ion_text_in.specs.declared.word.Word.{Word}
use Rattle.ion_text_in.specs.declared.word.Word.TheVariants as word
use Rattle.ion_text_in.specs.Blanks.{blanks}
use Rattle.ion_text_in.specs.Expecting.{expected_in, is_separated, kind_in, wanted, MayExpect}
use Rattle.ion_text_in.specs.Firsts.{numbered}
use Rattle.ion_text_in.specs.Meaning.{at}
use Rattle.ion_text_in.specs.Positions.{State, Wants, a_field, a_value, innermost}
use Rattle.ion_text_in.specs.Quoted.{Quote, text_at}
use Rattle.ion_text_in.specs.Reading.{after_member, cost, item_of, member_of, top_of}
use Rattle.ion_text_in.specs.Runs.{EndAfter}
use Rattle.ion_text_in.specs.Steps.{later}
use Rattle.ion_text_in.specs.Token.{First, a_colon, a_quoted, a_short, a_word, first_at, in_word, name, token_of, two_colons}
use Rattle.ion_value.specs.Name.{is_identifier_start, is_simple}

-- ---- bytes

-- what stands after some of these bytes
pub record IsAfter (bytes rest : List ℕ) : Type 0 where
  pub count : ℕ
  pub within : count ≤ length bytes
  pub same : rest ≡ drop count bytes

-- no blank stands at the front of some bytes, whatever follows
abbrev pub IsBare : List ℕ → Type 0
IsBare bytes = (p : ℕ) (more : List ℕ) → blanks (at p (bytes ++ more)) ≡ Ok (at p (bytes ++ more))

-- blanks stand between the front of some bytes and a rest of them, whatever follows
pub record PassesBlanks (bytes rest : List ℕ) : Type 0 where
  pub part : IsAfter bytes rest
  pub fewer : length rest ≤ length bytes
  pub blank : (p q : ℕ) (more : List ℕ) → p + length bytes ≡ q + length rest → blanks (at p (bytes ++ more)) ≡ Ok (at q (rest ++ more))
  pub bare : IsBare rest

-- what one reading makes of some bytes, the other makes of a rest of them, whatever follows
pub record LeadsTo (one other : ℕ → List ℕ → Placed Cursor) (bytes rest : List ℕ) : Type 0 where
  pub part : IsAfter bytes rest
  pub fewer : length rest ≤ length bytes
  pub same : (p q : ℕ) (more : List ℕ) → p + length bytes ≡ q + length rest → one p (bytes ++ more) ≡ other q (rest ++ more)

-- a token of a kind begins at the front of some bytes, whatever follows
pub record BeginsAs (kind : First) (bytes : List ℕ) : Type 0 where
  pub bare : IsBare bytes
  pub some : 0 < length bytes
  pub first : (in_sexp : Bool) (more : List ℕ) → first_at in_sexp (bytes ++ more) ≡ kind

-- a symbol or a string does, by its quotes
abbrev pub BeginsText : CodeQuote → List ℕ → Type 0
BeginsText quotes.Symbol bytes = BeginsAs a_quoted bytes
BeginsText quotes.Short bytes = BeginsAs a_short bytes
BeginsText quotes.ShortClob bytes = ⊥
BeginsText quotes.Long bytes = ⊥
BeginsText quotes.LongClob bytes = ⊥

-- a text stands between quotes at the front of some bytes, whatever follows
pub record IsBetween (quote : Quote) (limit : ℕ) (bytes : List ℕ) (found : Between) : Type 0 where
  pub part : IsAfter bytes found.rest.now
  pub fewer : length found.rest.now < length bytes
  pub shown : (place q : ℕ) (more : List ℕ) → place + length bytes ≡ q + length found.rest.now
      → text_at quote (Some limit) (skip 1 (at place (bytes ++ more))) ≡ Ok (found.text.now, at q (found.rest.now ++ more))

-- what a slice shows of the next token after blanks, by the number of what its first byte or two tell: 0 is known of nothing
pub record IsNext (bytes : List ℕ) (next : Next) : Type 0 where
  pub passes : 0 < length next.rest.now → PassesBlanks bytes next.rest.now
  pub some : 0 < next.told → 0 < length next.rest.now
  pub tells : 0 < next.told → (in_sexp : Bool) (more : List ℕ) → first_at in_sexp (next.rest.now ++ more) ≡ numbered next.told

-- so many bytes in front are a word that is a simple text, within a limit
pub record IsSimpleWord (limit : ℕ) (bytes : List ℕ) (n : ℕ) : Type 0 where
  pub some : 0 < n
  pub within : n ≤ length bytes
  pub simple : is_simple (take n bytes) ≡ true
  pub shown : (place : ℕ) (more : List ℕ)
      → token_of (Some limit) a_word (at place (bytes ++ more)) ≡ Ok (name false (value.Text (take n bytes)), at (place + n) (drop n bytes ++ more))

-- so many bytes in front are an id, within a limit, that has this text, which is simple
pub record IsIdOf (texts : ℕ → Option (List ℕ)) (limit : ℕ) (bytes text : List ℕ) (n : ℕ) : Type 0 where
  pub id : ℕ
  pub has : texts id ≡ Some text
  pub simple : is_simple text ≡ true
  pub some : 0 < n
  pub within : n ≤ length bytes
  pub shown : (place : ℕ) (more : List ℕ)
      → token_of (Some limit) a_word (at place (bytes ++ more)) ≡ Ok (name false (value.Id id), at (place + n) (drop n bytes ++ more))

-- the first two bytes are the word `$0`, within a limit
pub record IsZeroId (limit : ℕ) (bytes : List ℕ) : Type 0 where
  pub dollar : first_is (λ b. b == 36) bytes ≡ true
  pub within : 2 ≤ length bytes
  pub shown : (place : ℕ) (more : List ℕ) → token_of (Some limit) a_word (at place (bytes ++ more)) ≡ Ok (name false (value.Id 0), at (place + 2) (drop 2 bytes ++ more))

-- so many bytes in front are a word without a type after it, within a limit, and begin as a symbol does, but with no dollar sign
pub record IsBegun (limit : ℕ) (bytes : List ℕ) (n : ℕ) : Type 0 where
  pub others : ℕ
  pub count : n ≡ 1 + others
  pub some : 1 ≤ length bytes
  pub within : others < length (drop 1 bytes)
  pub ends : EndAfter in_word (drop 1 bytes) others
  pub begins : is_identifier_start (get_or bytes 0 0) ≡ true
  pub no_dollar : (get_or bytes 0 0 == 36) ≡ false
  pub fits : n ≤ limit

-- what holds of the bytes of a word where it is a symbol by its text
abbrev pub IfName : (ℕ → Type 0) → Scanned Word → Type 0
IfName P (Whole (word.Null type) n) = Unit {0}
IfName P (Whole (word.Bool truth) n) = Unit {0}
IfName P (Whole word.Nan n) = Unit {0}
IfName P (Whole (word.Id id) n) = Unit {0}
IfName P (Whole word.Name n) = P n
IfName P (Fault reason) = Unit {0}
IfName P Cut = Unit {0}

-- after blanks a colon stands there
pub record ToColon (bytes rest : List ℕ) : Type 0 where
  pub passes : PassesBlanks bytes rest
  pub some : 0 < length rest
  pub first : (more : List ℕ) → first_at false (rest ++ more) ≡ a_colon

-- ---- what reading makes of them

-- where this must come, from a place on
abbrev pub state : List Kind → ℕ → Wants → ℕ → List ℕ → State
state kinds top wants place rest = record { kinds = kinds; top = top; wants = wants; cursor = at place rest }

-- without an item reading goes on from some bytes at a place to a rest of them, whatever follows
pub record Onward (limits : Rules) (kinds : List Kind) (top place : ℕ) (wants : Wants) (bytes : List ℕ) (after : Wants) (rest : List ℕ) : Type 0 where
  pub part : IsAfter bytes rest
  pub fewer : length rest ≤ length bytes
  pub same : (q : ℕ) (more : List ℕ) → place + length bytes ≡ q + length rest
      → later limits (state kinds top wants place (bytes ++ more)) ≡ later limits (state kinds top after q (rest ++ more))

-- what must come after the head of an item that stands where these containers are open
abbrev pub after_head : List Kind → Head SymbolAt → Wants
after_head kinds (value.whole body) = after_member (innermost kinds)
after_head kinds (value.begin kind) = member_of kind
after_head kinds value.end = a_value None []
after_head kinds value.marker = a_value None []

-- an item by its parts
abbrev pub item_in : List Kind → ℕ → Option SymbolAt → List SymbolAt → ℕ → Head SymbolAt → PlacedItem
item_in kinds top field annotations place head = item_of (top_of kinds top annotations place) field annotations place head

-- the annotations of an item that has one at most
abbrev pub notes : Option TextAt → List SymbolAt
notes note = listed (option_map placed_text note)

-- ---- parts of an item

-- a token begins here, of the kind that its first byte or two tell, if they do
pub record Begins (next : Next) : Type 0 where
  pub some : 0 < length next.rest.now
  pub tells : 0 < next.told → (in_sexp : Bool) (more : List ℕ) → first_at in_sexp (next.rest.now ++ more) ≡ numbered next.told
  pub bare : IsBare next.rest.now

-- after a name a colon stands after blanks, and a value begins
pub record IsAfterName (name : TextAt) (bytes : List ℕ) (start : Start) : Type 0 where
  pub colon : List ℕ
  pub is : start.field ≡ Some name
  pub bare : start.note ≡ None
  pub to_colon : ToColon bytes colon
  pub passes : PassesBlanks (drop 1 colon) start.next.rest.now
  pub begins : Begins start.next

-- after a name that stands at the front of some bytes, at a place, and is read as `raw`, and after a colon, a value begins
pub record IsNamedAs (text : TextAt) (raw : SymbolAt) (limits : Rules) (place : ℕ) (bytes : List ℕ) (start : Start) : Type 0 where
  pub is : start.field ≡ Some text
  pub bare : start.note ≡ None
  pub says : IsRightlyQuoted text
  pub some : 0 < length bytes
  pub onward : (kinds : List Kind) (top : ℕ) → Onward limits kinds top place a_field bytes (a_value (Some raw) []) start.next.rest.now
  pub begins : Begins start.next

-- the name is a text
pub record IsNamed (limits : Rules) (place : ℕ) (bytes : List ℕ) (start : Start) : Type 0 where
  pub text : TextAt
  pub name : IsNamedAs text (placed_text text) limits place bytes start

-- the name is a text, or an id of this text
pub record IsNamedBy (texts : ℕ → Option (List ℕ)) (limits : Rules) (place : ℕ) (bytes : List ℕ) (start : Start) : Type 0 where
  pub text : TextAt
  pub raw : SymbolAt
  pub seen : named_at texts raw ≡ placed_text text
  pub name : IsNamedAs text raw limits place bytes start

-- two colons stand here, and a value begins after them
pub record IsAfterColons (colons : List ℕ) (next : Next) : Type 0 where
  pub two : 2 ≤ length colons
  pub shown : BeginsAs two_colons colons
  pub passes : PassesBlanks (drop 2 colons) next.rest.now
  pub begins : Begins next

-- after an annotation two colons stand, its bytes and those of one before it are no more than may be, and a value begins
pub record IsAfterNote (limits : Rules) (start : Start) (note : TextAt) (colons : List ℕ) (noted : Start) : Type 0 where
  pub is : noted.note ≡ Some note
  pub same : noted.field ≡ start.field
  pub costs : sum_by cost (notes start.note ++ placed_text note ∷ []) ≤ limits.scalar
  pub after : IsAfterColons colons noted.next

-- after an annotation that begins at a place, maybe after another, and two colons, a value begins
pub record IsNoted (limits : Rules) (place : ℕ) (start noted : Start) : Type 0 where
  pub text : TextAt
  pub is : noted.note ≡ Some text
  pub same : noted.field ≡ start.field
  pub says : IsRightlyQuoted text
  pub free : HasNoDollar (value.Text text.text.now)
  pub onward : (kinds : List Kind) (top : ℕ) (field : Option SymbolAt)
      → Onward limits kinds top place (a_value field (notes start.note)) start.next.rest.now (a_value field (notes start.note ++ placed_text text ∷ [])) noted.next.rest.now
  pub begins : Begins noted.next

-- the place where bytes begin that a window ends with
abbrev pub place_in : Bounds → List ℕ → ℕ
place_in bounds bytes = bounds.end - length bytes

-- what must come where a lane stands
abbrev pub expected_of : Spot → Expected
expected_of spot = expected_in spot.separator spot.kind

-- a comma is passed over where one must come and stands there
pub record PassesComma (old new : Spot) : Type 0 where
  pub onward : (limits : Rules) (opened : List Kind) (place : ℕ) → kind_in opened ≡ old.kind
      → Onward limits opened old.top place (wanted (expected_of old) None []) old.rest.now (wanted (expected_of new) None []) new.rest.now
  pub expects : (opened : List Kind) → kind_in opened ≡ old.kind → MayExpect (expected_of old) opened None [] → MayExpect (expected_of new) opened None []
  pub same : new ≡ record old { rest = new.rest; separator = new.separator }

-- a value begins here, after the name of a field where one must come, which is read as `raw`, and after its annotations, two at most
pub record IsStartAs (raw : Option SymbolAt) (other : Option TextAt) (bounds : Bounds) (spot : Spot) (start : Start) : Type 0 where
  pub known : HasKnownName (option_map placed_text start.field)
  pub free : HaveNoDollar (with_second (notes start.note) other)
  pub field : IfSome start.field IsRightlyQuoted
  pub note : IfSome start.note IsRightlyQuoted
  pub second : IfSome other (StandsAfter start.note)
  pub onward : (kinds : List Kind) → MayExpect (expected_of spot) kinds None []
      → Onward bounds.limits kinds spot.top (place_in bounds spot.rest.now) (wanted (expected_of spot) None []) spot.rest.now (a_value raw (with_second (notes start.note) other)) start.next.rest.now
  pub named : (kinds : List Kind) → MayExpect (expected_of spot) kinds None [] → is_some start.field ≡ in_struct kinds
  pub begins : Begins start.next

-- the name is a text, and after the annotation another may stand
abbrev pub IsFurther : Option TextAt → Bounds → Spot → Start → Type 0
IsFurther second bounds spot start = IsStartAs (option_map placed_text start.field) second bounds spot start

-- the same of one annotation at most
abbrev pub IsStart : Bounds → Spot → Start → Type 0
IsStart bounds spot start = IsFurther None bounds spot start

-- wherever a lane stands from which a value begins here, it begins further on as well, after a second annotation if there is one
abbrev pub LeadsFurther : Bounds → Start → Further → Type 0
LeadsFurther bounds start further = (spot : Spot) → length spot.rest.now ≤ bounds.end → IsStart bounds spot start → IsFurther further.second bounds spot further.start

-- however the name is read
pub record IsStartRead (second : Option TextAt) (bounds : Bounds) (spot : Spot) (start : Start) : Type 0 where
  pub raw : Option SymbolAt
  pub read : IsStartAs raw second bounds spot start

-- the name is a text, or an id of this text
pub record IsStartBy (texts : ℕ → Option (List ℕ)) (second : Option TextAt) (bounds : Bounds) (spot : Spot) (start : Start) : Type 0 where
  pub raw : Option SymbolAt
  pub seen : option_map (named_at texts) raw ≡ option_map placed_text start.field
  pub read : IsStartAs raw second bounds spot start

-- a head stands at the front of some bytes, and these after it; it is read as `raw`
pub record IsHeadAs (raw : Head SymbolAt) (limits : Rules) (place : ℕ) (bytes : List ℕ) (head : Head SymbolAt) (rest : List ℕ) : Type 0 where
  pub part : IsAfter bytes rest
  pub fewer : length rest < length bytes
  pub known : IsPlainHead head
  pub range : HeadInRange head
  pub member : (kinds : List Kind) → has_field kinds head ≡ in_struct kinds
  pub value : is_marker head ≡ false
  pub gives : (kinds : List Kind) (top q : ℕ) (field : Option SymbolAt) (annotations : List SymbolAt) (more : List ℕ) → HasPlace limits.depth kinds head → place + length bytes ≡ q + length rest
      → later limits (state kinds top (a_value field annotations) place (bytes ++ more))
      ≡ More (item_in kinds top field annotations place raw) (later limits (state (open_after kinds head) (top_of kinds top annotations place) (after_head kinds head) q (rest ++ more)))

-- it is read as it is
abbrev pub IsHead : Rules → ℕ → List ℕ → Head SymbolAt → List ℕ → Type 0
IsHead limits place bytes head rest = IsHeadAs head limits place bytes head rest

-- the same of what the code found, with the head's canonical text where it has that
pub record IsFound (limits : Rules) (place : ℕ) (bytes : List ℕ) (found : Found) : Type 0 where
  pub head : IsHead limits place bytes (raw_head found.head) found.rest.now
  pub spelled : IfSome found.spelled (λ text. IsTextOf text.now (raw_head found.head))

-- so are head and text, however the head is read
pub record IsFoundRead (limits : Rules) (place : ℕ) (bytes : List ℕ) (found : Found) : Type 0 where
  pub raw : Head SymbolAt
  pub head : IsHeadAs raw limits place bytes (raw_head found.head) found.rest.now
  pub spelled : IfSome found.spelled (λ text. IsTextOf text.now (raw_head found.head))

-- the same where a symbol may be read as an id of its text
pub record IsFoundBy (texts : ℕ → Option (List ℕ)) (limits : Rules) (place : ℕ) (bytes : List ℕ) (found : Found) : Type 0 where
  pub raw : Head SymbolAt
  pub seen : map_head (named_at texts) raw ≡ raw_head found.head
  pub head : IsHeadAs raw limits place bytes (raw_head found.head) found.rest.now
  pub spelled : IfSome found.spelled (λ text. IsTextOf text.now (raw_head found.head))

-- ---- a lane

-- what it moves: the reader's part of it, and what items are handed to
pub record Lane (W O : Type 0) : Type 0 where
  pub kinds : List Kind
  pub kind : Kind
  pub expected : Expected
  pub top : ℕ
  pub rest : List ℕ
  pub values : ℕ
  pub writer : W
  pub sink : Outgoing O
  pub meter : Counts

-- where it stands, by the parts of the code
abbrev pub lane : {W O : Type 0} → List Kind → Spot → W → Outgoing O → Counts → Lane W O
lane kinds spot writer sink meter = record {
  kinds = kinds;
  kind = spot.kind;
  expected = expected_of spot;
  top = spot.top;
  rest = spot.rest.now;
  values = spot.values;
  writer = writer;
  sink = sink;
  meter = meter;
}

-- the same as a reader and a writer stand, where the window ends at a place, and with what follows it
abbrev pub joint : {W O : Type 0} → Bounds → List ℕ → Lane W O → Joint W
joint bounds more l = record {
  coming = later bounds.limits (state (reverse l.kinds) l.top (wanted l.expected None []) (place_in bounds l.rest) (l.rest ++ more));
  opened = reverse l.kinds;
  writer = l.writer;
  pending = l.sink.pending;
  values = l.values;
}

-- the counted bytes that it holds
abbrev pub lane_held : {W O A : Type 0} → WriterOf W O A → Lane W O → ℕ
lane_held w l = 16 * length l.kinds + w.own l.writer

-- the most that it may hold
abbrev pub lane_share : {W O A : Type 0} → WriterOf W O A → Rules → Lane W O → ℕ
lane_share w limits l = 16 * limits.depth + w.most l.writer

-- it may go on
pub record CanFeed {W O A : Type 0} (w : WriterOf W O A) (bounds : Bounds) (l : Lane W O) : Type 0 where
  pub room : l.meter.held ≤ 2 ^ 61 + lane_held w l
  pub held : lane_held w l ≤ l.meter.held
  pub countable : l.meter.refused < 2 ^ 64 - 1
  pub checked : AreSmall bounds.limits
  pub within : length l.rest ≤ bounds.end
  pub low : bounds.end ≤ 2 ^ 62
  pub small : l.values + length l.rest ≤ 2 ^ 62
  pub few : length l.kinds ≤ bounds.limits.depth
  pub kind : kind_in (reverse l.kinds) ≡ l.kind
  pub expects : MayExpect l.expected (reverse l.kinds) None []
  pub takes : CanTake w bounds.limits.depth (reverse l.kinds) l.writer l.sink
  pub share : WritesWithin (w.own l.writer) (w.most l.writer)

-- what it does: items go from the bytes to the writer, nothing fails, and the device is not used. The writer has them by the texts that ids have, where
-- `sees` holds of these texts
pub record MovedFor {W O A : Type 0} (w : WriterOf W O A) (bounds : Bounds) (sees : (ℕ → Option (List ℕ)) → Type 0) (old new : Lane W O) : Type 0 where
  pub feeds : (texts : ℕ → Option (List ℕ)) → sees texts → (more : List ℕ) → Feeds w (named_item texts) (Unit {0}) (joint bounds more old) (joint bounds more new)
  pub falls : new.values + length new.rest ≤ old.values + length old.rest
  pub opens : length new.kinds + length new.rest ≤ length old.kinds + length old.rest
  pub part : IsAfter old.rest new.rest
  pub fewer : length new.rest ≤ length old.rest
  pub few : length new.kinds ≤ bounds.limits.depth
  pub kind : kind_in (reverse new.kinds) ≡ new.kind
  pub expects : MayExpect new.expected (reverse new.kinds) None []
  pub takes : CanTake w bounds.limits.depth (reverse new.kinds) new.writer new.sink
  pub share : WritesWithin (w.own new.writer) (w.most new.writer)
  pub stays : StaysWell w old.writer new.writer old.sink new.sink old.meter new.meter
  pub charges : Charges old.meter new.meter (lane_held w old) (lane_held w new) (lane_share w bounds.limits old)

-- whatever texts ids have, but that id 0 has none
abbrev pub Moved : {W O A : Type 0} → WriterOf W O A → Bounds → Lane W O → Lane W O → Type 0
Moved w bounds old new = MovedFor w bounds (λ t. t 0 ≡ None) old new

-- by the texts that ids have
abbrev pub MovedBy : {W O A : Type 0} → WriterOf W O A → Bounds → (ℕ → Option (List ℕ)) → Lane W O → Lane W O → Type 0
MovedBy w bounds texts old new = MovedFor w bounds (λ t. t ≡ texts) old new

-- one turn of it: some bytes are passed over where it goes on
pub record TurnsFor {W O A : Type 0} (w : WriterOf W O A) (bounds : Bounds) (sees : (ℕ → Option (List ℕ)) → Type 0) (goes_on : Bool) (old new : Lane W O) : Type 0 where
  pub moved : MovedFor w bounds sees old new
  pub less : goes_on ≡ true → length new.rest < length old.rest

abbrev pub Turns : {W O A : Type 0} → WriterOf W O A → Bounds → Bool → Lane W O → Lane W O → Type 0
Turns w bounds goes_on old new = TurnsFor w bounds (λ t. t 0 ≡ None) goes_on old new

abbrev pub TurnsBy : {W O A : Type 0} → WriterOf W O A → Bounds → (ℕ → Option (List ℕ)) → Bool → Lane W O → Lane W O → Type 0
TurnsBy w bounds texts goes_on old new = TurnsFor w bounds (λ t. t ≡ texts) goes_on old new

-- ---- one item

-- the kind of container that a head begins, if it does
abbrev pub begun : Head SymbolAt → Option Kind
begun (value.whole body) = None
begun (value.begin kind) = Some kind
begun value.end = None
begun value.marker = None

-- the open containers after it, the innermost last, and what its entry costs
abbrev pub with_begun : List Kind → Option Kind → List Kind
with_begun kinds None = kinds
with_begun kinds (Some kind) = kinds ++ kind ∷ []

abbrev pub begun_cost : Option Kind → ℕ
begun_cost None = 0
begun_cost (Some kind) = 16

-- it is open, so many at most, and its entry counted
pub record Opens (depth : ℕ) (begins : Option Kind) (old new : List Kind) (earlier later : Counts) : Type 0 where
  pub is : new ≡ with_begun old begins
  pub few : length new ≤ depth
  pub held : later.held ≡ earlier.held + begun_cost begins
  pub peak : later.peak ≤ max earlier.peak later.held
  pub rises : earlier.peak ≤ later.peak
  pub refused : later.refused ≡ earlier.refused

-- where a lane stands after an item, where these containers were open
abbrev pub values_after : Option Kind → List Kind → ℕ → ℕ
values_after None opened values = values + one_if_closed opened
values_after (Some kind) opened values = values

abbrev pub separator_after : Option Kind → Kind → Bool
separator_after None kind = is_separated kind
separator_after (Some kind) outer = false

abbrev pub kind_after : Option Kind → Kind → Kind
kind_after None kind = kind
kind_after (Some kind) outer = kind

abbrev pub passed : Option Kind → List Kind → Spot → Found → ℕ → Spot
passed begins opened spot found top = record {
  rest = found.rest;
  top = top;
  values = values_after begins opened spot.values;
  separator = separator_after begins spot.kind;
  kind = kind_after begins spot.kind;
}

-- ---- the lane of a reader

-- where its window ends, within its limit
abbrev pub window_end : {I : Type 0} → Incoming I → ℕ
window_end s = s.place + length (lent s)

-- how far it may go
abbrev pub bounds_of : {I A : Type 0} → TextReader I A → Bounds
bounds_of r = record { limits = r.limits; end = window_end r.source }

-- a lane over what its window lends, where so many values have ended
abbrev pub reader_lane : {I A W O : Type 0} → TextReader I A → ℕ → W → Outgoing O → Counts → Lane W O
reader_lane r values writer sink meter = record {
  kinds = r.kinds;
  kind = kind_in (reverse r.kinds);
  expected = r.expected;
  top = r.top;
  rest = lent r.source;
  values = values;
  writer = writer;
  sink = sink;
  meter = meter;
}

-- bytes that a window lends were passed over
pub record PassedLent {I : Type 0} (old new : Incoming I) : Type 0 where
  pub count : ℕ
  pub within : count ≤ length (lent old)
  pub passed : IsPassed old new count
