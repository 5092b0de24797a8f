-- A lane moves over an item that is taken: a container's end, its beginning, a scalar.
use Rattle.std.proofs.Common.{◌≡◌, ℕ, ◌+◌, ◌*◌, ◌-◌, ◌<◌, ◌≤◌, Bool, true, false, List, [], ◌∷◌, ◌++◌, length, map, reverse, drop, is_some, Option, Some, None, IfSome, MatchOption, refl, sym, ap, subst, ◌∙◌, arith}
use Rattle.std.specs.Prelude.{option_map}
use Rattle.std.proofs.lemmas.List.{length-append, length-drop, length-reverse, reverse-append, reverse-reverse}
use Rattle.ion_meter.specs.Counts.{Counts, Shrinks}
use Rattle.ion_meter.specs.Windows.{Outgoing}
use Rattle.ion_value.specs.declared.ion_type.Kind.{Kind}
use Rattle.ion_value.specs.declared.writer.ValueWriter.{Ghosts as WriterOf}
use Rattle.ion_value.specs.Outcome.{one_if_closed}
use Rattle.ion_value.specs.Shares.{Charges}
use Rattle.ion_value.specs.Standing.{open_after, has_field, in_struct, is_marker, HasAnnotations, HasPlace, HeadInRange}
use Rattle.ion_value.specs.declared.ion_type.Kind.TheVariants as a_kind
use Rattle.ion_value.specs.Items.{named_at, named_item, raw_head}
use Rattle.ion_value.specs.declared.plain_item.TextAt.{TextAt}
use Rattle.ion_value.specs.Value as value
use Rattle.ion_value.specs.Value.{SymbolAt, Head, PlacedItem, map_head}
use Rattle.ion_value.specs.PlainItems.{placed_text, with_second, IsPlainHead, StandsAfter}
use Rattle.ion_value.proofs.Handing.{Stands, Took, item-kept}
use Rattle.ion_text_in.specs.declared.expected.Expected.{Expected}
use Rattle.ion_text_in.specs.declared.expected.Expected.TheVariants as codes
use Rattle.ion_text_in.specs.declared.feed.spot.Bounds.{Bounds}
use Rattle.ion_text_in.specs.declared.feed.spot.Found.{Found}
use Rattle.ion_text_in.specs.declared.feed.spot.Next.{Next}
use Rattle.ion_text_in.specs.declared.feed.spot.Spot.{Spot}
use Rattle.ion_text_in.specs.declared.feed.spot.Start.{Start}
use Rattle.ion_text_in.specs.Expecting.{expected_in, is_separated, kind_in, wanted, MayExpect}
use Rattle.ion_text_in.specs.Feeding.{begun, begun_cost, after_head, expected_of, lane, notes, passed, place_in, state, with_begun, CanFeed, IsAfter, IsHeadAs, IsNext, IsStartAs, Lane, MovedFor, Onward, Opens, PassesComma, Turns, TurnsFor}
use Rattle.ion_text_in.specs.Firsts.{numbered}
use Rattle.ion_text_in.specs.Positions.{innermost}
use Rattle.ion_text_in.specs.Reading.{at_member, after_member, is_same, item_of, top_of}
use Rattle.ion_text_in.specs.Steps.{later}
use Rattle.ion_text_in.specs.Token as tokens
use Rattle.ion_text_in.proofs.FeedReading.{after-then, some-after, end-gives, onward-blanks, MayEnd, at_value, at_field, at_separator}
use Rattle.ion_text_in.proofs.FeedLanes.{can-moved, moved-none, moved-onward, turns-item, turns-then}

-- the entry that was taken off gives its cost back
pub closed-cost : (kinds left : List Kind) (j : Kind) (popped : Option Kind) (x y : Counts) → innermost (reverse kinds) ≡ Some j → MatchOption popped ((kinds ≡ []) × (left ≡ [])) (λ k. kinds ≡ left ++ k ∷ [])
    → MatchOption popped (y ≡ x) (λ _. Shrinks x y 16) → Shrinks x y 16
closed-cost kinds left j None x y some items cost = absurd (cc (ap (λ (l : List Kind). innermost (reverse l)) items.0, some))
closed-cost kinds left j (Some k) x y some items cost = cost

-- an item that was taken, where the meter moves before and after it too
took-over : {W O A : Type 0} {w : WriterOf W O A} {item : PlacedItem} {old new : W} {before after : Outgoing O} {x y : Counts} (m z : Counts) → Took w item old new before after x y → z.refused ≡ m.refused
    → Took w item old new before after m z
took-over m z t same = record {
  sound = t.sound;
  stands = t.stands;
  puts = t.puts;
  failed = t.failed;
  limits = t.limits;
  most = t.most;
  device = t.device;
  fault = t.fault;
  refused = same;
}

-- ---- what must come

-- after a member
after-in : (opened : List Kind)
    → (wanted (expected_in (is_separated (kind_in opened)) (kind_in opened)) None [] ≡ after_member (innermost opened)) × MayExpect (expected_in (is_separated (kind_in opened)) (kind_in opened)) opened None []
after-in [] = (refl, refl)
after-in (a_kind.List ∷ opened) = (refl, (refl, refl))
after-in (a_kind.Sexp ∷ opened) = (refl, refl)
after-in (a_kind.Struct ∷ opened) = (refl, (refl, refl))

is-after : (opened : List Kind) (now : Spot) → kind_in opened ≡ now.kind → now.separator ≡ is_separated now.kind
    → (wanted (expected_of now) None [] ≡ after_member (innermost opened)) × MayExpect (expected_of now) opened None []
is-after opened now inner separator = rw (separator, sym inner) (after-in opened)

-- where a member may begin
member-in : (opened : List Kind) → (wanted (expected_in false (kind_in opened)) None [] ≡ at_member (innermost opened)) × MayExpect (expected_in false (kind_in opened)) opened None []
member-in [] = (refl, refl)
member-in (a_kind.List ∷ opened) = (refl, refl)
member-in (a_kind.Sexp ∷ opened) = (refl, refl)
member-in (a_kind.Struct ∷ opened) = (refl, (refl, refl, refl))

pub is-member : (opened : List Kind) (kind : Kind) → kind_in opened ≡ kind → (wanted (expected_in false kind) None [] ≡ at_member (innermost opened)) × MayExpect (expected_in false kind) opened None []
is-member opened kind inner =
    subst (λ (k : Kind). (wanted (expected_in false k) None [] ≡ at_member (innermost opened)) × MayExpect (expected_in false k) opened None []) inner (member-in opened)

-- between two items nothing is read of the next one
may-end : (e : Expected) → MayEnd (wanted e None [])
may-end codes.Value = at_value
may-end codes.Field = at_field
may-end codes.Separator = at_separator

-- ---- what is seen of an item

-- a name that is a text stays
pub text-seen : (texts : ℕ → Option (List ℕ)) (field : Option TextAt) → option_map (named_at texts) (option_map placed_text field) ≡ option_map placed_text field
text-seen texts None = refl
text-seen texts (Some t) = refl

-- so does a head that is no id but `$0`
pub head-seen : (texts : ℕ → Option (List ℕ)) (head : Head SymbolAt) → texts 0 ≡ None → IsPlainHead head → map_head (named_at texts) head ≡ head
head-seen texts head none known = ap (λ (i : PlacedItem). i.head) (item-kept texts (item_of 0 None [] 0 head) none (record { field = tt; annotations = tt; head = known }))

-- and annotations that are texts
notes-seen : (texts : ℕ → Option (List ℕ)) (note : Option TextAt) (second : Option TextAt) → map (named_at texts) (with_second (notes note) second) ≡ with_second (notes note) second
notes-seen texts None None = refl
notes-seen texts (Some t) None = refl
notes-seen texts None (Some s) = refl
notes-seen texts (Some t) (Some s) = refl

item-seen : (texts : ℕ → Option (List ℕ)) (top place : ℕ) (raw_name field : Option SymbolAt) (note : Option TextAt) (second : Option TextAt) (raw_value head : Head SymbolAt) → option_map (named_at texts) raw_name ≡ field
    → map_head (named_at texts) raw_value ≡ head → named_item texts (item_of top raw_name (with_second (notes note) second) place raw_value) ≡ item_of top field (with_second (notes note) second) place head
item-seen texts top place raw_name field note second raw_value head name_is value_is =
    ap (λ (f : Option SymbolAt). item_of top f (map (named_at texts) (with_second (notes note) second)) place (map_head (named_at texts) raw_value)) name_is
    ∙ (ap (λ (l : List SymbolAt). item_of top field l place (map_head (named_at texts) raw_value)) (notes-seen texts note second)
    ∙ ap (λ (h : Head SymbolAt). item_of top field (with_second (notes note) second) place h) value_is)

-- ---- after an item

begun-long : (kinds : List Kind) (begins : Option Kind) → 16 * length (with_begun kinds begins) ≡ 16 * length kinds + begun_cost begins
begun-long kinds None = omega arith
begun-long kinds (Some k) = omega (arith, length-append kinds (k ∷ []))

-- what is open and what must come after an item
pub record IsPassed (depth : ℕ) (kinds left : List Kind) (spot new : Spot) (head : Head SymbolAt) : Type 0 where
  pub place : HasPlace depth (reverse kinds) head
  pub opened : reverse left ≡ open_after (reverse kinds) head
  pub inner : kind_in (reverse left) ≡ new.kind
  pub wants : wanted (expected_of new) None [] ≡ after_head (reverse kinds) head
  pub expects : MayExpect (expected_of new) (reverse left) None []
  pub counts : new.values ≡ spot.values + one_if_closed (reverse left)

pub item-passed : (depth : ℕ) (kinds left : List Kind) (spot : Spot) (found : Found) (top : ℕ) (head : Head SymbolAt) → HeadInRange head → is_marker head ≡ false → ((l : List Kind) → has_field l head ≡ in_struct l)
    → kind_in (reverse kinds) ≡ spot.kind → left ≡ with_begun kinds (begun head) → length left ≤ depth → IsPassed depth kinds left spot (passed (begun head) (reverse kinds) spot found top) head
item-passed depth kinds left spot found top (value.whole body) range value member inner is few =
    let now : Spot = passed None (reverse kinds) spot found top in
    let after = is-after (reverse kinds) now inner refl in
    record {
      place = range;
      opened = ap (λ (l : List Kind). reverse l) is;
      inner = ap (λ (l : List Kind). kind_in (reverse l)) is ∙ inner;
      wants = after.0;
      expects = subst (λ (l : List Kind). MayExpect (expected_of now) (reverse l) None []) (sym is) after.1;
      counts = ap (λ (l : List Kind). spot.values + one_if_closed (reverse l)) (sym is);
    }
item-passed depth kinds left spot found top (value.begin k) range value member inner is few =
    let long = ap (λ (l : List Kind). length l) is in
    let opened : reverse left ≡ k ∷ reverse kinds = ap (λ (l : List Kind). reverse l) is ∙ reverse-append kinds (k ∷ []) in
    let first : kind_in (reverse left) ≡ k = ap (λ (l : List Kind). kind_in l) opened in
    record {
      place = omega (arith, few, long, length-append kinds (k ∷ []), length-reverse kinds);
      opened = opened;
      inner = first;
      wants = (is-member (k ∷ reverse kinds) k refl).0;
      expects = (is-member (reverse left) k first).1;
      counts = rw opened (omega arith);
    }
item-passed depth kinds left spot found top value.end range value member inner is few = absurd (cc (member (a_kind.Struct ∷ [])))
item-passed depth kinds left spot found top value.marker range value member inner is few = absurd (cc value)

-- ---- a container's end

abbrev end_item : ℕ → ℕ → PlacedItem
end_item top place = item_of top None [] place value.end

end-stands : (depth : ℕ) (kinds : List Kind) (j : Kind) (outer : List Kind) (top place : ℕ) → reverse kinds ≡ j ∷ outer → Stands depth (reverse kinds) (end_item top place)
end-stands depth kinds j outer top place opened = record {
  fits = record { place = rw opened (omega arith); field = refl; annotations = refl };
  value = refl;
  plain = record { field = tt; annotations = tt; head = tt };
}

-- ---- a value, and a container's beginning

some-map : (field : Option TextAt) → is_some (option_map placed_text field) ≡ is_some field
some-map None = refl
some-map (Some t) = refl

-- the first annotation alone says where a value at top level begins
first-top : (kinds : List Kind) (top place : ℕ) (first : Option TextAt) (second : Option TextAt) → IfSome second (StandsAfter first) → top_of kinds top (with_second (notes first) second) place ≡ top_of kinds top (notes first) place
first-top kinds top place first None stands = refl
first-top kinds top place None (Some s) stands = absurd stands
first-top [] top place (Some t) (Some s) stands = refl
first-top (k ∷ kinds) top place (Some t) (Some s) stands = refl

may-note : (head : Head SymbolAt) (annotations : List SymbolAt) → is_marker head ≡ false → ((l : List Kind) → has_field l head ≡ in_struct l) → HasAnnotations {S = SymbolAt} head annotations
may-note (value.whole body) annotations value member = tt
may-note (value.begin k) annotations value member = tt
may-note value.end annotations value member = absurd (cc (member (a_kind.Struct ∷ [])))
may-note value.marker annotations value member = absurd (cc value)

pub head-stands : {bounds : Bounds} {raw_name : Option SymbolAt} {raw_value : Head SymbolAt} {second : Option TextAt} (kinds : List Kind) (spot : Spot) (start : Start) (head : Head SymbolAt) (top at_place : ℕ) (rest : List ℕ) → MayExpect (expected_of spot) (reverse kinds) None []
    → IsStartAs raw_name second bounds spot start → IsHeadAs raw_value bounds.limits at_place start.next.rest.now head rest → HasPlace bounds.limits.depth (reverse kinds) head
    → Stands bounds.limits.depth (reverse kinds) (item_of top (option_map placed_text start.field) (with_second (notes start.note) second) at_place head)
head-stands {second} kinds spot start head top at_place rest may start_is head_is fits = record {
  fits = record {
    place = fits;
    field = some-map start.field ∙ (start_is.named (reverse kinds) may ∙ sym (head_is.member (reverse kinds)));
    annotations = may-note head (with_second (notes start.note) second) head_is.value head_is.member;
  };
  value = head_is.value;
  plain = record { field = start_is.known; annotations = start_is.free; head = head_is.known };
}

module _ {W O A : Type 0} {w : WriterOf W O A} {bounds : Bounds} where
  -- to where a member may begin
  pub moved-member : {sees : (ℕ → Option (List ℕ)) → Type 0} {kinds : List Kind} {spot now : Spot} {writer : W} {sink : Outgoing O} {m : Counts} → PassesComma spot now → CanFeed w bounds (lane kinds spot writer sink m)
      → MovedFor w bounds sees (lane kinds spot writer sink m) (lane kinds now writer sink m)
  moved-member {sees} {kinds} {spot} {now} {writer} {sink} {m} passes can =
      let l = lane kinds spot writer sink m in
      let opened = reverse kinds in
      let there : Spot = record spot { rest = now.rest; separator = now.separator } in
      subst (λ (s : Spot). MovedFor w bounds sees l (lane kinds s writer sink m)) (sym passes.same)
      (moved-onward l (expected_of there) now.rest.now can (subst (λ (s : Spot). MayExpect (expected_of s) opened None []) passes.same (passes.expects opened can.kind can.expects))
      (subst (λ (s : Spot). Onward bounds.limits opened spot.top (place_in bounds spot.rest.now) (wanted (expected_of spot) None []) spot.rest.now (wanted (expected_of s) None []) now.rest.now) passes.same
      (passes.onward bounds.limits opened (place_in bounds spot.rest.now) can.kind)))

  pub can-member : {kinds : List Kind} {spot now : Spot} {writer : W} {sink : Outgoing O} {m : Counts} → PassesComma spot now → CanFeed w bounds (lane kinds spot writer sink m) → CanFeed w bounds (lane kinds now writer sink m)
  can-member passes can = can-moved can (moved-member {sees = λ _. Unit {0}} passes can)

  -- a turn there
  pub turns-member : {sees : (ℕ → Option (List ℕ)) → Type 0} {more : Bool} {kinds : List Kind} {spot now : Spot} {writer : W} {sink : Outgoing O} {m : Counts} {n : Lane W O} → PassesComma spot now
      → CanFeed w bounds (lane kinds spot writer sink m) → TurnsFor w bounds sees more (lane kinds now writer sink m) n → TurnsFor w bounds sees more (lane kinds spot writer sink m) n
  turns-member passes can turns = turns-then can (moved-member passes can) turns

  pub turns-closed : (kinds left : List Kind) (j k : Kind) (spot new : Spot) (next : Next) (place : ℕ) (writer further : W) (sink after : Outgoing O) (m x y : Counts)
      → CanFeed w bounds (lane kinds spot writer sink m) → IsNext spot.rest.now next → 0 < next.told → numbered next.told ≡ tokens.an_end k
      → reverse kinds ≡ j ∷ reverse left → is_same j k ≡ true → place ≡ place_in bounds next.rest.now
      → new.rest.now ≡ drop 1 next.rest.now → new.top ≡ spot.top → kind_in (reverse left) ≡ new.kind → new.separator ≡ is_separated new.kind
      → new.values ≡ spot.values + one_if_closed (reverse left)
      → Took w (end_item spot.top place) writer further sink after m x → Charges m x (w.own writer) (w.own further) (w.most writer) → Shrinks x y 16
      → Turns w bounds true (lane kinds spot writer sink m) (lane left new further after y)
  turns-closed kinds left j k spot new next place writer further sink after m x y can is told ends opened same here rest top inner separator counts took charges shrinks =
      let some = is.some told in
      let passes = is.passes some in
      let fewer = passes.fewer in
      let within = can.within in
      let held = can.held in
      let few = can.few in
      let bytes = next.rest.now in
      let long = length-drop 1 bytes in
      let longer : length new.rest.now ≡ length bytes - 1 = ap (λ (l : List ℕ). length l) rest ∙ long in
      let opened_long = ap (λ (l : List Kind). length l) opened in
      let lengths : length kinds ≡ 1 + length left = omega (arith, opened_long, length-reverse kinds, length-reverse left) in
      let c_held = charges.held in
      let c_share = charges.share in
      let c_peak = charges.peak in
      let c_rises = charges.rises in
      let s_held = shrinks.held in
      let s_peak = shrinks.peak in
      let after_is = is-after (reverse left) new inner separator in
      let item : PlacedItem = end_item spot.top place in
      turns-item (lane kinds spot writer sink m) (lane left new further after y) item item (λ texts _. refl) can (end-stands bounds.limits.depth kinds j (reverse left) spot.top place opened)
      (took-over m y took (shrinks.refused ∙ took.refused))
      (ap (λ (l : List Kind). drop 1 l) (sym opened)) counts
      (after-then spot.rest.now bytes new.rest.now passes.part (subst (λ (l : List ℕ). IsAfter bytes l) (sym rest) (some-after bytes 1 (omega (arith, some))))) (omega (arith, longer, some, fewer)) (omega (arith, lengths, few)) inner after_is.1 c_share
      (record { held = omega (arith, c_held, s_held, lengths); share = omega (arith, c_share, lengths, few); peak = omega (arith, c_peak, s_peak, lengths, few, held); rises = omega (arith, c_rises, s_peak) })
      (λ more.
      (onward-blanks bounds.limits (reverse kinds) spot.top (place_in bounds spot.rest.now) (wanted (expected_of spot) None []) spot.rest.now bytes passes).same (place_in bounds bytes) more (omega (arith, fewer, within))
      ∙ (ap (λ (l : List Kind). later bounds.limits (state l spot.top (wanted (expected_of spot) None []) (place_in bounds bytes) (bytes ++ more))) opened
      ∙ (end-gives bounds.limits j k (reverse left) spot.top (place_in bounds bytes) (place_in bounds new.rest.now) (wanted (expected_of spot) None []) bytes more (may-end (expected_of spot)) same (record { bare = passes.bare; some = some; first = λ sexp rest. is.tells told sexp rest ∙ ends })
      (omega (arith, long, longer, some, fewer, within))
      ∙ rw (here, top, after_is.0, rest) refl)))

  -- its name and its head are seen by the texts that ids have
  pub turns-forward : {sees : (ℕ → Option (List ℕ)) → Type 0} {raw_name : Option SymbolAt} {raw_value : Head SymbolAt} {second : Option TextAt} (kinds left : List Kind) (spot : Spot) (start : Start) (found : Found) (top : ℕ)
      (writer later : W) (sink after : Outgoing O) (m x y : Counts)
      → ((texts : ℕ → Option (List ℕ)) → sees texts → option_map (named_at texts) raw_name ≡ option_map placed_text start.field)
      → ((texts : ℕ → Option (List ℕ)) → sees texts → map_head (named_at texts) raw_value ≡ raw_head found.head)
      → CanFeed w bounds (lane kinds spot writer sink m) → IsStartAs raw_name second bounds spot start
      → IsHeadAs raw_value bounds.limits (place_in bounds start.next.rest.now) start.next.rest.now (raw_head found.head) found.rest.now
      → top ≡ top_of (reverse kinds) spot.top (notes start.note) (place_in bounds start.next.rest.now) → Opens bounds.limits.depth (begun (raw_head found.head)) kinds left m x
      → Took w (item_of top (option_map placed_text start.field) (with_second (notes start.note) second) (place_in bounds start.next.rest.now) (raw_head found.head)) writer later sink after x y
      → Charges x y (w.own writer) (w.own later) (w.most writer)
      → TurnsFor w bounds sees true (lane kinds spot writer sink m) (lane left (passed (begun (raw_head found.head)) (reverse kinds) spot found top) later after y)
  turns-forward {raw_name} {raw_value} {second} kinds left spot start found top writer later sink after m x y name_is value_is can start_is head_is at_top opens took charges =
      let head = raw_head found.head in
      let new : Spot = passed (begun head) (reverse kinds) spot found top in
      let bytes = start.next.rest.now in
      let place = place_in bounds bytes in
      let field = option_map placed_text start.field in
      let passes = item-passed bounds.limits.depth kinds left spot found top head head_is.range head_is.value head_is.member can.kind opens.is opens.few in
      let first = at_top ∙ sym (first-top (reverse kinds) spot.top place start.note second start_is.second) in
      let to_start = start_is.onward (reverse kinds) can.expects in
      let fewer = to_start.fewer in
      let less = head_is.fewer in
      let within = can.within in
      let there = can.held in
      let own = can.share.share in
      let few = opens.few in
      let long = ap (λ (l : List Kind). 16 * length l) opens.is ∙ begun-long kinds (begun head) in
      let held = charges.held in
      let share = charges.share in
      let peak = charges.peak in
      let rises = charges.rises in
      let o_held = opens.held in
      let o_peak = opens.peak in
      let o_rises = opens.rises in
      turns-item (lane kinds spot writer sink m) (lane left new later after y) (item_of top raw_name (with_second (notes start.note) second) place raw_value) (item_of top field (with_second (notes start.note) second) place head)
      (λ texts sees. item-seen texts top place raw_name field start.note second raw_value head (name_is texts sees) (value_is texts sees)) can
      (head-stands kinds spot start head top place found.rest.now can.expects start_is head_is passes.place) (took-over m y took (took.refused ∙ opens.refused)) passes.opened passes.counts
      (after-then spot.rest.now bytes found.rest.now to_start.part head_is.part) (omega (arith, fewer, less)) few passes.inner passes.expects share
      (record {
        held = omega (arith, held, o_held, long);
        share = omega (arith, share, few);
        peak = omega (arith, peak, o_held, o_peak, long, few, there, own);
        rises = omega (arith, rises, o_rises);
      })
      (λ more.
      to_start.same place more (omega (arith, fewer, within))
      ∙ (head_is.gives (reverse kinds) spot.top (place_in bounds found.rest.now) raw_name (with_second (notes start.note) second) more passes.place (omega (arith, fewer, less, within))
      ∙ rw (passes.opened, first, passes.wants) refl))

  -- a container was opened, if one begins, and taken off again
  pub turns-undone : {sees : (ℕ → Option (List ℕ)) → Type 0} {begins : Option Kind} (kinds there left : List Kind) (spot : Spot) (writer next : W) (sink after : Outgoing O) (m x y z : Counts)
      → next ≡ writer → after ≡ sink → left ≡ kinds → Opens bounds.limits.depth begins kinds there m x → y ≡ x → Shrinks y z (begun_cost begins)
      → CanFeed w bounds (lane kinds spot writer sink m) → TurnsFor w bounds sees false (lane kinds spot writer sink m) (lane left spot next after z)
  turns-undone {sees} {begins} kinds there left spot writer next sink after m x y z writes sinks back opens stays shrinks can =
      let l = lane kinds spot writer sink m in
      let none : MovedFor w bounds sees l l = moved-none can in
      let held = can.held in
      let share = can.share.share in
      let few = opens.few in
      let kinds_few = can.few in
      let long = ap (λ (k : List Kind). 16 * length k) opens.is ∙ begun-long kinds begins in
      let o_held = opens.held in
      let o_peak = opens.peak in
      let o_rises = opens.rises in
      let s_held = shrinks.held in
      let s_peak = shrinks.peak in
      let y_held = ap (λ (k : Counts). k.held) stays in
      let y_peak = ap (λ (k : Counts). k.peak) stays in
      let y_refused = ap (λ (k : Counts). k.refused) stays in
      rw (writes, sinks, back) (record {
        moved = record {
          feeds = none.feeds;
          falls = none.falls;
          opens = none.opens;
          part = none.part;
          fewer = none.fewer;
          few = none.few;
          kind = none.kind;
          expects = none.expects;
          takes = none.takes;
          share = none.share;
          stays = record {
            sound = none.stays.sound;
            failed = refl;
            limits = refl;
            most = refl;
            device = refl;
            fault = refl;
            refused = shrinks.refused ∙ (y_refused ∙ opens.refused);
          };
          charges = record {
            held = omega (arith, o_held, s_held, y_held);
            share = omega (arith, kinds_few, share);
            peak = omega (arith, o_held, o_peak, s_peak, y_peak, few, long, held, share);
            rises = omega (arith, o_rises, s_peak, y_peak);
          };
        };
        less = λ goes_on. absurd (cc goes_on);
      })

-- the entry that was pushed last is taken off
pub closed-begun : {pushed left : List Kind} {x y : Counts} (kinds : List Kind) (k : Kind) (popped : Option Kind) → pushed ≡ kinds ++ k ∷ [] → MatchOption popped ((pushed ≡ []) × (left ≡ [])) (λ j. pushed ≡ left ++ j ∷ [])
    → MatchOption popped (y ≡ x) (λ _. Shrinks x y 16) → (left ≡ kinds) × Shrinks x y 16
closed-begun {pushed} {left} {x} {y} kinds k popped is items cost = (off popped items, closed-cost pushed left k popped x y inner items cost)
  where
    inner : innermost (reverse pushed) ≡ Some k
    inner = ap (λ (l : List Kind). innermost (reverse l)) is ∙ ap innermost (reverse-append kinds (k ∷ []))

    off : (popped : Option Kind) → MatchOption popped ((pushed ≡ []) × (left ≡ [])) (λ j. pushed ≡ left ++ j ∷ []) → left ≡ kinds
    off None items = absurd (cc (ap (λ (l : List Kind). innermost (reverse l)) items.0, inner))
    off (Some j) items =
        let all : k ∷ reverse kinds ≡ j ∷ reverse left = sym (reverse-append kinds (k ∷ [])) ∙ (ap (λ (l : List Kind). reverse l) (sym is ∙ items) ∙ reverse-append left (j ∷ [])) in
        let same : reverse left ≡ reverse kinds = sym (ap (λ (l : List Kind). drop 1 l) all) in
        sym (reverse-reverse left) ∙ (ap (λ (l : List Kind). reverse l) same ∙ reverse-reverse kinds)
