-- Items that are counted one after the other.
use Rattle.std.proofs.Common.{◌≡◌, ◌≢◌, ℕ, zero, suc, ◌+◌, ◌-◌, ◌^◌, ◌≤◌, ◌<◌, Bool, false, List, [], ◌∷◌, ◌++◌, length, Option, None, refl, sym, ap, ap₂, subst, ◌∙◌, arith}
use Rattle.std.proofs.lemmas.List.{length-append}
use Rattle.ion_meter.specs.Counts.{Counts}
use Rattle.ion_meter.specs.declared.fault.Reason.{Reason}
use Rattle.ion_value.specs.declared.ion_type.Kind.{Kind}
use Rattle.ion_value.specs.declared.writer.ValueWriter.{Ghosts as WriterOf}
use Rattle.ion_value.specs.Feeding.{Feeds, nothing, more, Joint}
use Rattle.ion_value.specs.Items.{named_at, named_item}
use Rattle.ion_value.specs.PlainItems.{IsPlainHead}
use Rattle.ion_value.specs.Outcome.{Accepted, Rejected, verdict_after}
use Rattle.ion_value.specs.Shares.{Charges}
use Rattle.ion_value.specs.Reading.{Reading, Finished, Stopped, More, items_of, items_then}
use Rattle.ion_value.specs.ReadingLaws.{ending_of}
use Rattle.ion_value.specs.Standing.{is_marker, open_after}
use Rattle.ion_value.specs.Value as value
use Rattle.ion_value.specs.Value.{SymbolAt, Head, PlacedItem, map_head}
use Rattle.ion_value.proofs.Outcomes.{open_after_all-append}
use Rattle.ion_value.proofs.Readings.{items_then-append}
use Rattle.ion_text_in.specs.Firm.{is_firm, ends_firmly}
use Rattle.ion_transcode.specs.PartCalls.{marker_at, HasTaken, HasCount}
use Rattle.ion_transcode.proofs.Following.{Followed}

-- ---- memory

-- two calls on a part, one after the other
pub charges-on : {a b c : Counts} {before now after most_now most : ℕ} → Charges a b before now most → Charges b c now after most_now → most_now ≡ most → before ≤ a.held → Charges a c before after most
charges-on first second e held = record {
  held = omega (arith, first.held, second.held);
  share = omega (arith, second.share);
  peak = omega (arith, first.held, first.peak, second.held, second.peak);
  rises = omega (arith, first.rises, second.rises);
}

-- ---- one more item

ends_firmly-last : (items : List PlacedItem) (item : PlacedItem) → ends_firmly (items ++ item ∷ []) ≡ is_firm item.head
ends_firmly-last [] item = refl
ends_firmly-last (i ∷ []) item = refl
ends_firmly-last (i ∷ j ∷ items) item = ends_firmly-last (j ∷ items) item

marker_at-last : (items : List PlacedItem) (item : PlacedItem) → marker_at (length items) (items ++ item ∷ []) ≡ is_marker item.head
marker_at-last [] item = refl
marker_at-last (i ∷ items) item = marker_at-last items item

marker_at-else : (at : ℕ) (items : List PlacedItem) (item : PlacedItem) → at ≢ length items → marker_at at (items ++ item ∷ []) ≡ marker_at at items
marker_at-else zero [] item other = absurd (other refl)
marker_at-else (suc at) [] item other = refl
marker_at-else zero (i ∷ items) item other = refl
marker_at-else (suc at) (i ∷ items) item other = marker_at-else at items item (λ e. other (ap suc e))

-- where it is the one that is asked about
pub marked-there : (at place : ℕ) (items : List PlacedItem) (item : PlacedItem) (marked : Bool) → place ≡ length items → place ≡ at → marked ≡ is_marker item.head → marked ≡ marker_at at (items ++ item ∷ [])
marked-there at place items item marked all here is =
    is ∙ sym (subst (λ (n : ℕ). marker_at n (items ++ item ∷ []) ≡ is_marker item.head) (sym all ∙ here) (marker_at-last items item))

-- and where it is not
pub marked-else : (at place : ℕ) (items : List PlacedItem) (item : PlacedItem) (was : Bool) → place ≡ length items → place ≢ at → was ≡ marker_at at items → was ≡ marker_at at (items ++ item ∷ [])
marked-else at place items item was all other is = is ∙ sym (marker_at-else at items item (λ e. other (all ∙ sym e)))

-- it is counted
pub taken-more : (path : List PlacedItem) (item : PlacedItem) (n m : ℕ) (firm now : Bool) → HasTaken path n firm → (m < 2 ^ 64 - 1 → m ≡ n + 1) → now ≡ is_firm item.head → HasTaken (path ++ item ∷ []) m now
taken-more path item n m firm now has counts is = λ few.
    let one = counts few in
    let all = (has (omega (arith, few, one))).0 in
    (omega (arith, all, one, length-append path (item ∷ [])), is ∙ sym (ends_firmly-last path item))

-- ---- items by names

firm-named : (f : SymbolAt → SymbolAt) (head : Head SymbolAt) → is_firm (map_head f head) ≡ is_firm head
firm-named f (value.whole (value.null type)) = refl
firm-named f (value.whole (value.bool truth)) = refl
firm-named f (value.whole (value.int number)) = refl
firm-named f (value.whole (value.float number)) = refl
firm-named f (value.whole (value.decimal number)) = refl
firm-named f (value.whole (value.timestamp moment)) = refl
firm-named f (value.whole (value.symbol s)) = refl
firm-named f (value.whole (value.string bytes)) = refl
firm-named f (value.whole (value.clob bytes)) = refl
firm-named f (value.whole (value.blob bytes)) = refl
firm-named f (value.begin kind) = refl
firm-named f value.end = refl
firm-named f value.marker = refl

open-named : (f : SymbolAt → SymbolAt) (kinds : List Kind) (head : Head SymbolAt) → open_after kinds (map_head f head) ≡ open_after kinds head
open-named f kinds (value.whole body) = refl
open-named f kinds (value.begin kind) = refl
open-named f kinds value.end = refl
open-named f kinds value.marker = refl

plain-named : (f : SymbolAt → SymbolAt) (head : Head SymbolAt) → IsPlainHead (map_head f head) → is_marker head ≡ false
plain-named f (value.whole body) known = refl
plain-named f (value.begin kind) known = refl
plain-named f value.end known = refl
plain-named f value.marker known = absurd known

marker_at-plain : (at : ℕ) (items : List PlacedItem) (item : PlacedItem) → is_marker item.head ≡ false → marker_at at (items ++ item ∷ []) ≡ marker_at at items
marker_at-plain zero [] item e = e
marker_at-plain (suc at) [] item e = refl
marker_at-plain zero (i ∷ items) item e = refl
marker_at-plain (suc at) (i ∷ items) item e = marker_at-plain at items item e

-- an item is counted by whatever names
pub taken-named : (texts : ℕ → Option (List ℕ)) (path : List PlacedItem) (item : PlacedItem) (n : ℕ) (firm : Bool) → HasTaken (path ++ named_item texts item ∷ []) n firm → HasTaken (path ++ item ∷ []) n firm
taken-named texts path item n firm has few =
    let other : PlacedItem = named_item texts item in
    let all = (has few).0 in (
      omega (arith, all, length-append path (item ∷ []), length-append path (other ∷ [])),
      (has few).1 ∙ (ends_firmly-last path other ∙ (firm-named (named_at texts) item.head ∙ sym (ends_firmly-last path item))),
    )

-- ---- items that a reader gives and hands on

-- a writer stands after items, and of these it is known whether that at a place is a version marker
pub record Counting (stands : List PlacedItem → Type 0) (reads : Type 0) (kinds : List Kind) (all rest : Reading) (at : ℕ) (marked : Bool) : Type 0 where
  pub followed : Followed stands reads kinds all rest
  pub known : marked ≡ marker_at at followed.path

-- an item more
pub counting-more : {stands later : List PlacedItem → Type 0} {reads : Type 0} {kinds : List Kind} {all rest : Reading} {at : ℕ} {marked : Bool} (f : Counting stands reads kinds all rest at marked)
    (item : PlacedItem) (then : Reading) (kinds_then : List Kind) (marked_then : Bool) → (reads → rest ≡ More item then) → later (f.followed.path ++ item ∷ []) → kinds_then ≡ open_after kinds item.head
    → marked_then ≡ marker_at at (f.followed.path ++ item ∷ []) → Counting later reads kinds_then all then at marked_then
counting-more f item then kinds_then marked_then is stands opens known =
    let k = f.followed in
    record {
      followed = record {
        path = k.path ++ item ∷ [];
        stands_at = stands;
        kinds_at = open_after_all-append [] k.path item ∙ (ap (λ (o : List Kind). open_after o item.head) k.kinds_at ∙ sym opens);
        all_is = λ r. k.all_is r ∙ (ap (items_then k.path) (is r) ∙ sym (items_then-append k.path (item ∷ []) then));
      };
      known = known;
    }

-- what is handed on has no version marker, and by which names is of no matter to a writer that counts
pub counting-feeds : {W O A : Type 0} (w : WriterOf W O A) (texts : ℕ → Option (List ℕ)) (reads : Type 0) (all : Reading) (at : ℕ) (marked : Bool) (old new : Joint W)
    → Feeds w (named_item texts) reads old new → Counting (w.stands old.writer) reads old.opened all old.coming at marked
    → ((writer : W) (path : List PlacedItem) (item : PlacedItem) → w.stands writer (path ++ named_item texts item ∷ []) → w.stands writer (path ++ item ∷ []))
    → Counting (w.stands new.writer) reads new.opened all new.coming at marked
counting-feeds w texts reads all at marked old _ nothing f alike = f
counting-feeds w texts reads all at marked old new (more now _ feeds h) f alike =
    let g = counting-feeds w texts reads all at marked old now feeds f alike in
    let k = g.followed in
    counting-more {later = w.stands new.writer} g h.item new.coming new.opened marked h.gives (alike new.writer k.path h.item (h.stands k.path k.stands_at k.kinds_at))
    (h.opens ∙ open-named (named_at texts) now.opened h.item.head)
    (g.known ∙ sym (marker_at-plain at k.path h.item (plain-named (named_at texts) h.item.head h.plain.head)))

-- ---- readings

-- a reading that is accepted where nothing is refused
pub accepted-ends : (path : List PlacedItem) (r : Reading) (n : ℕ) → verdict_after (λ before item. None) path r ≡ Accepted n → r ≡ items_then (items_of r) Finished
accepted-ends path Finished n e = refl
accepted-ends path (Stopped reason place) n e = absurd (cc e)
accepted-ends path (More item rest) n e = ap (More item) (accepted-ends (path ++ item ∷ []) rest n e)

-- and one that is rejected then
pub rejected-stops : (path : List PlacedItem) (r : Reading) (reason : Reason) (place : ℕ) → verdict_after (λ before item. None) path r ≡ Rejected reason place → ending_of r ≡ Stopped reason place
rejected-stops path Finished reason place e = absurd (cc e)
rejected-stops path (Stopped r p) reason place e =
    let same : r ≡ reason = cc e in
    let there : p ≡ place = cc e in
    ap₂ (λ (x : Reason) (y : ℕ). Stopped x y) same there
rejected-stops path (More item rest) reason place e = rejected-stops (path ++ item ∷ []) rest reason place e

-- so many items has what was accepted
pub has-count : (r : Reading) (n m : ℕ) (firm : Bool) → verdict_after (λ before item. None) [] r ≡ Accepted n → HasTaken (items_of r) m firm → m < 2 ^ 64 - 1 → HasCount r m
has-count r n m firm accepted has few = record {
  items = items_of r;
  read = accepted-ends [] r n accepted;
  count = (has few).0;
}

-- how a reading ends behind items
pub ending-behind : (items : List PlacedItem) (r : Reading) → ending_of (items_then items r) ≡ ending_of r
ending-behind [] r = refl
ending-behind (item ∷ items) r = ending-behind items r
