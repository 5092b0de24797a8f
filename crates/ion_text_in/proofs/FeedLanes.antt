-- How a lane moves: over bytes that are no item, over an item that is taken, and one move after the other.
use Rattle.std.proofs.Common.{◌≡◌, ℕ, ◌+◌, ◌*◌, ◌-◌, ◌^◌, ◌<◌, ◌≤◌, Bool, true, false, List, [], ◌∷◌, length, reverse, Option, None, refl, sym, ap, subst, ◌∙◌, arith}
use Rattle.std.proofs.lemmas.List.{length-reverse}
use Rattle.ion_value.specs.declared.ion_type.Kind.{Kind}
use Rattle.ion_value.specs.declared.writer.ValueWriter.{Ghosts as WriterOf}
use Rattle.ion_value.specs.Feeding.{Feeds, nothing, more as hands_on, StaysWell}
use Rattle.ion_value.specs.Items.{named_item}
use Rattle.ion_value.specs.Outcome.{one_if_closed}
use Rattle.ion_value.specs.Reading.{Reading, More}
use Rattle.ion_value.specs.Shares.{Charges}
use Rattle.ion_value.specs.Standing.{open_after}
use Rattle.ion_value.specs.Value as value
use Rattle.ion_value.specs.Value.{Head, PlacedItem, SymbolAt}
use Rattle.ion_value.proofs.Handing.{Stands, Took, can-took, feeds-then, hands-seen, stays-then}
use Rattle.ion_text_in.specs.declared.expected.Expected.{Expected}
use Rattle.ion_text_in.specs.declared.feed.spot.Bounds.{Bounds}
use Rattle.ion_text_in.specs.Expecting.{kind_in, wanted, MayExpect}
use Rattle.ion_text_in.specs.Feeding.{joint, lane_held, lane_share, place_in, CanFeed, IsAfter, Lane, Moved, MovedBy, MovedFor, Onward, Turns, TurnsBy, TurnsFor}
use Rattle.ion_text_in.proofs.FeedReading.{after-then, none-after}
use Rattle.ion_text_in.proofs.Holding.{charges-then}

one-most : (kinds : List Kind) → one_if_closed kinds ≤ 1
one-most [] = omega arith
one-most (k ∷ kinds) = omega arith

-- an item opens one container at most
opened-most : (kinds : List Kind) (head : Head SymbolAt) → length (open_after kinds head) ≤ 1 + length kinds
opened-most kinds (value.whole body) = omega arith
opened-most kinds (value.begin k) = omega arith
opened-most [] value.end = omega arith
opened-most (k ∷ kinds) value.end = omega arith
opened-most kinds value.marker = omega arith

module _ {W O A : Type 0} {w : WriterOf W O A} {bounds : Bounds} where
  pub can-held : {l : Lane W O} → CanFeed w bounds l → lane_held w l ≤ lane_share w bounds.limits l
  can-held can = (let few = can.few in let share = can.share.share in omega (arith, few, share))

  stays-same : {l : Lane W O} → CanFeed w bounds l → StaysWell w l.writer l.writer l.sink l.sink l.meter l.meter
  stays-same can = record { sound = can.takes.sound; failed = refl; limits = refl; most = refl; device = refl; fault = refl; refused = refl }

  same-charges : {l : Lane W O} → CanFeed w bounds l → Charges l.meter l.meter (lane_held w l) (lane_held w l) (lane_share w bounds.limits l)
  same-charges can = record { held = refl; share = can-held can; peak = omega arith; rises = omega arith }

  -- nothing is moved
  pub moved-none : {sees : (ℕ → Option (List ℕ)) → Type 0} {l : Lane W O} → CanFeed w bounds l → MovedFor w bounds sees l l
  moved-none {sees} {l} can = record {
    feeds = λ texts at more. nothing;
    falls = omega arith;
    opens = omega arith;
    part = none-after l.rest;
    fewer = omega arith;
    few = can.few;
    kind = can.kind;
    expects = can.expects;
    takes = can.takes;
    share = can.share;
    stays = stays-same can;
    charges = same-charges can;
  }

  -- what it does whatever texts ids have, it does by those that they have
  pub moved-by : (texts : ℕ → Option (List ℕ)) {l n : Lane W O} → texts 0 ≡ None → Moved w bounds l n → MovedBy w bounds texts l n
  moved-by texts none moved = record {
    feeds = λ t is more. moved.feeds t (ap (λ (x : ℕ → Option (List ℕ)). x 0) is ∙ none) more;
    falls = moved.falls;
    opens = moved.opens;
    part = moved.part;
    fewer = moved.fewer;
    few = moved.few;
    kind = moved.kind;
    expects = moved.expects;
    takes = moved.takes;
    share = moved.share;
    stays = moved.stays;
    charges = moved.charges;
  }

  -- it may go on from where it was moved to
  pub can-moved : {sees : (ℕ → Option (List ℕ)) → Type 0} {l n : Lane W O} → CanFeed w bounds l → MovedFor w bounds sees l n → CanFeed w bounds n
  can-moved can moved =
      let room = can.room in
      let held = can.held in
      let charged = moved.charges.held in
      let fewer = moved.fewer in
      let falls = moved.falls in
      let within = can.within in
      let small = can.small in
      record {
        room = omega (arith, room, held, charged);
        held = omega (arith, held, charged);
        countable = subst (λ (k : ℕ). k < 2 ^ 64 - 1) (sym moved.stays.refused) can.countable;
        checked = can.checked;
        within = omega (arith, within, fewer);
        low = can.low;
        small = omega (arith, small, falls);
        few = moved.few;
        kind = moved.kind;
        expects = moved.expects;
        takes = moved.takes;
        share = moved.share;
      }

  -- one move after the other
  pub moved-then : {sees : (ℕ → Option (List ℕ)) → Type 0} {l n r : Lane W O} → CanFeed w bounds l → MovedFor w bounds sees l n → MovedFor w bounds sees n r → MovedFor w bounds sees l r
  moved-then {sees} {l} {n} {r} can f g =
      let first_falls = f.falls in
      let then_falls = g.falls in
      let first_opens = f.opens in
      let then_opens = g.opens in
      let first_fewer = f.fewer in
      let then_fewer = g.fewer in
      let share : lane_share w bounds.limits n ≡ lane_share w bounds.limits l = ap (λ (k : ℕ). 16 * bounds.limits.depth + k) f.stays.most in
      let then_charged : Charges n.meter r.meter (lane_held w n) (lane_held w r) (lane_share w bounds.limits l) =
      subst (λ (k : ℕ). Charges n.meter r.meter (lane_held w n) (lane_held w r) k) share g.charges in
      record {
        feeds = λ texts at more. feeds-then w (f.feeds texts at more) (g.feeds texts at more);
        falls = omega (arith, first_falls, then_falls);
        opens = omega (arith, first_opens, then_opens);
        part = after-then l.rest n.rest r.rest f.part g.part;
        fewer = omega (arith, first_fewer, then_fewer);
        few = g.few;
        kind = g.kind;
        expects = g.expects;
        takes = g.takes;
        share = g.share;
        stays = stays-then w f.stays g.stays;
        charges = charges-then l.meter n.meter r.meter (lane_held w l) (lane_held w n) (lane_held w r) (lane_share w bounds.limits l) can.held f.charges then_charged;
      }

  -- a turn that does not go on
  pub turns-none : {sees : (ℕ → Option (List ℕ)) → Type 0} {l : Lane W O} → CanFeed w bounds l → TurnsFor w bounds sees false l l
  turns-none can = record { moved = moved-none can; less = λ goes_on. absurd (cc goes_on) }

  pub turns-by : (texts : ℕ → Option (List ℕ)) {more goes_on : Bool} {l n : Lane W O} → texts 0 ≡ None → more ≡ goes_on → Turns w bounds more l n → TurnsBy w bounds texts goes_on l n
  turns-by texts none is turns = record { moved = moved-by texts none turns.moved; less = λ goes_on. turns.less (is ∙ goes_on) }

  -- a turn after a move
  pub turns-then : {sees : (ℕ → Option (List ℕ)) → Type 0} {more : Bool} {l n r : Lane W O} → CanFeed w bounds l → MovedFor w bounds sees l n → TurnsFor w bounds sees more n r → TurnsFor w bounds sees more l r
  turns-then can moved turns = record {
    moved = moved-then can moved turns.moved;
    less = λ goes_on. let fewer = moved.fewer in let less = turns.less goes_on in omega (arith, fewer, less);
  }

  -- bytes that are no item are passed over
  pub moved-onward : {sees : (ℕ → Option (List ℕ)) → Type 0} (l : Lane W O) (expected : Expected) (rest : List ℕ) → CanFeed w bounds l → MayExpect expected (reverse l.kinds) None []
      → Onward bounds.limits (reverse l.kinds) l.top (place_in bounds l.rest) (wanted l.expected None []) l.rest (wanted expected None []) rest
      → MovedFor w bounds sees l (record l { expected = expected; rest = rest })
  moved-onward l expected rest can may onward =
      let fewer = onward.fewer in
      let within = can.within in
      record {
        feeds = λ texts at more.
            subst (λ (r : Reading). Feeds w (named_item texts) (Unit {0}) (joint bounds more l) (record { coming = r; opened = reverse l.kinds; writer = l.writer; pending = l.sink.pending; values = l.values }))
            (onward.same (place_in bounds rest) more (omega (arith, fewer, within))) nothing;
        falls = omega (arith, fewer);
        opens = omega (arith, fewer);
        part = onward.part;
        fewer = fewer;
        few = can.few;
        kind = can.kind;
        expects = may;
        takes = can.takes;
        share = can.share;
        stays = stays-same can;
        charges = same-charges can;
      }

  -- an item is taken, as it is seen
  pub turns-item : {sees : (ℕ → Option (List ℕ)) → Type 0} (l n : Lane W O) (item seen : PlacedItem) → ((texts : ℕ → Option (List ℕ)) → sees texts → named_item texts item ≡ seen)
      → CanFeed w bounds l → Stands bounds.limits.depth (reverse l.kinds) seen → Took w seen l.writer n.writer l.sink n.sink l.meter n.meter
      → reverse n.kinds ≡ open_after (reverse l.kinds) seen.head → n.values ≡ l.values + one_if_closed (reverse n.kinds) → IsAfter l.rest n.rest → length n.rest < length l.rest
      → length n.kinds ≤ bounds.limits.depth → kind_in (reverse n.kinds) ≡ n.kind → MayExpect n.expected (reverse n.kinds) None []
      → w.own n.writer ≤ w.most l.writer → Charges l.meter n.meter (lane_held w l) (lane_held w n) (lane_share w bounds.limits l)
      → ((more : List ℕ) → (joint bounds more l).coming ≡ More item (joint bounds more n).coming)
      → TurnsFor w bounds sees true l n
  turns-item l n item seen is can stands took opens counts part less few inner may own charges gives =
      let one = one-most (reverse n.kinds) in
      let longer : length n.kinds ≡ length (open_after (reverse l.kinds) seen.head) = sym (length-reverse n.kinds) ∙ ap (λ (k : List Kind). length k) opens in
      let most = opened-most (reverse l.kinds) seen.head in
      let was = length-reverse l.kinds in
      record {
        moved = record {
          feeds = λ texts at more.
              hands_on (joint bounds more l) (joint bounds more n) nothing
              (hands-seen w (named_item texts) (Unit {0}) bounds.limits.depth (joint bounds more l) (joint bounds more n) l.sink n.sink l.meter n.meter item seen (is texts at) can.takes stands took refl refl (λ _. gives more) opens counts);
          falls = omega (arith, one, counts, less);
          opens = omega (arith, longer, most, was, less);
          part = part;
          fewer = omega (arith, less);
          few = few;
          kind = inner;
          expects = may;
          takes = can-took w bounds.limits.depth (reverse l.kinds) (reverse n.kinds) l.writer n.writer l.sink n.sink l.meter n.meter seen can.takes stands took opens;
          share = record { share = subst (λ (k : ℕ). w.own n.writer ≤ k) (sym took.most) own; small = subst (λ (k : ℕ). k ≤ 2 ^ 59) (sym took.most) can.share.small };
          stays = record {
            sound = took.sound;
            failed = took.failed;
            limits = took.limits;
            most = took.most;
            device = took.device;
            fault = took.fault;
            refused = took.refused;
          };
          charges = charges;
        };
        less = λ _. less;
      }
