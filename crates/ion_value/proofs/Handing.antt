-- A plain item that a writer takes goes from a reader to it, and the writer can take what comes after it.
use Rattle.std.proofs.Common.{◌≡◌, ℕ, ◌+◌, false, List, [], ◌∷◌, ◌++◌, map, Option, Some, None, refl, sym, ap, subst, ◌∙◌}
use Rattle.std.specs.Prelude.{option_map}
use Rattle.ion_meter.specs.Counts.{Counts}
use Rattle.ion_meter.specs.Windows.{Outgoing}
use Rattle.ion_meter.specs.declared.limits.Limits.{Limits}
use Rattle.ion_value.specs.declared.ion_type.Kind.{Kind}
use Rattle.ion_value.specs.declared.writer.ValueWriter.{Ghosts as WriterOf}
use Rattle.ion_value.specs.Feeding.{CanTake, Feeds, nothing, more, Hands, Joint, StaysWell}
use Rattle.ion_value.specs.Items.{named, named_at, named_item, text_or_id}
use Rattle.ion_value.specs.Outcome.{one_if_closed}
use Rattle.ion_value.specs.PlainItems.{HasKnownName, HasNoDollar, HaveNoDollar, IsKnown, IsKnownOrZero, IsPlainHead, IsPlainItem}
use Rattle.ion_value.specs.Reading.{Finished, Reading, More}
use Rattle.ion_value.specs.Standing.{open_after, open_after_all, is_marker, Continues, Fits}
use Rattle.ion_value.specs.Value as value
use Rattle.ion_value.specs.Value.{Symbol, SymbolAt, Scalar, Head, PlacedItem, map_head, map_scalar}
use Rattle.ion_value.proofs.Outcomes.{open_after_all-append}

-- ---- texts stay as they are

symbol-kept : (texts : ℕ → Option (List ℕ)) (s : Symbol) → IsKnown s → named texts s ≡ s
symbol-kept texts (value.Text bytes) text = refl
symbol-kept texts (value.Id id) text = absurd text

-- one without a dollar sign in front is a text
pub no_dollar-known : (s : Symbol) → HasNoDollar s → IsKnown s
no_dollar-known (value.Text bytes) free = tt
no_dollar-known (value.Id id) free = absurd free

at-kept : (texts : ℕ → Option (List ℕ)) (s : SymbolAt) → IsKnown s.symbol → named_at texts s ≡ s
at-kept texts s text = ap (λ (x : Symbol). record { symbol = x; place = s.place }) (symbol-kept texts s.symbol text)

name-kept : (texts : ℕ → Option (List ℕ)) (field : Option SymbolAt) → HasKnownName field → option_map (named_at texts) field ≡ field
name-kept texts None known = refl
name-kept texts (Some s) known = ap (λ (x : SymbolAt). Some x) (at-kept texts s known)

all-kept : (texts : ℕ → Option (List ℕ)) (ss : List SymbolAt) → HaveNoDollar ss → map (named_at texts) ss ≡ ss
all-kept texts [] free = refl
all-kept texts (s ∷ ss) free = ap (λ (x : SymbolAt). x ∷ map (named_at texts) ss) (at-kept texts s (no_dollar-known s.symbol free.0)) ∙ ap (λ (l : List SymbolAt). s ∷ l) (all-kept texts ss free.1)

-- nor has `$0` a text
zero-kept : (texts : ℕ → Option (List ℕ)) (s : Symbol) → texts 0 ≡ None → IsKnownOrZero s → named texts s ≡ s
zero-kept texts (value.Text bytes) none known = refl
zero-kept texts (value.Id id) none zero =
    ap (λ (o : Option (List ℕ)). text_or_id id o) (ap texts zero ∙ none)

head-kept : (texts : ℕ → Option (List ℕ)) (head : Head SymbolAt) → texts 0 ≡ None → IsPlainHead head → map_head (named_at texts) head ≡ head
head-kept texts (value.whole (value.null type)) none known = refl
head-kept texts (value.whole (value.bool truth)) none known = refl
head-kept texts (value.whole (value.int number)) none known = refl
head-kept texts (value.whole (value.float number)) none known = refl
head-kept texts (value.whole (value.decimal number)) none known = refl
head-kept texts (value.whole (value.timestamp moment)) none known = refl
head-kept texts (value.whole (value.symbol s)) none known = ap (λ (x : Symbol). value.whole (value.symbol (record { symbol = x; place = s.place }))) (zero-kept texts s.symbol none known)
head-kept texts (value.whole (value.string bytes)) none known = refl
head-kept texts (value.whole (value.clob bytes)) none known = refl
head-kept texts (value.whole (value.blob bytes)) none known = refl
head-kept texts (value.begin kind) none known = refl
head-kept texts value.end none known = refl
head-kept texts value.marker none known = absurd known

pub item-kept : (texts : ℕ → Option (List ℕ)) (item : PlacedItem) → texts 0 ≡ None → IsPlainItem item → named_item texts item ≡ item
item-kept texts item none plain =
    ap (λ (f : Option SymbolAt). record { field = f; annotations = map (named_at texts) item.annotations; head = map_head (named_at texts) item.head; place = item.place; top = item.top })
    (name-kept texts item.field plain.field)
    ∙ (ap (λ (l : List SymbolAt). record { field = item.field; annotations = l; head = map_head (named_at texts) item.head; place = item.place; top = item.top })
    (all-kept texts item.annotations plain.annotations)
    ∙ ap (λ (h : Head SymbolAt). record { field = item.field; annotations = item.annotations; head = h; place = item.place; top = item.top }) (head-kept texts item.head none plain.head))

-- ---- what a writer did that took an item

pub record Took {W O A : Type 0} (w : WriterOf W O A) (item : PlacedItem) (old new : W) (before after : Outgoing O) (earlier later : Counts) : Type 0 where
  pub sound : w.sound new
  pub stands : (path : List PlacedItem) → w.stands old path → Continues (w.limits old) path item → w.stands new (path ++ item ∷ []) × (w.refusal (w.limits old) path item ≡ None)
  pub puts : (path : List PlacedItem) → w.stands old path → Continues (w.limits old) path item → after.pending ≡ before.pending ++ w.adds (w.limits old) path item
  pub failed : w.failed new ≡ w.failed old
  pub limits : w.limits new ≡ w.limits old
  pub most : w.most new ≡ w.most old
  pub device : after.device ≡ before.device
  pub fault : after.fault ≡ before.fault
  pub refused : later.refused ≡ earlier.refused

-- an item that stands where these containers are open, and is no marker
pub record Stands (depth : ℕ) (opened : List Kind) (item : PlacedItem) : Type 0 where
  pub fits : Fits depth opened item
  pub value : is_marker item.head ≡ false
  pub plain : IsPlainItem item

-- the same where the reader is observable for another reason
pub hands-same : {W O A : Type 0} {w : WriterOf W O A} {see : PlacedItem → PlacedItem} {reads now : Type 0} {old new : Joint W} → (now → reads) → Hands w see reads old new → Hands w see now old new
hands-same f h = record {
  item = h.item;
  plain = h.plain;
  fits = h.fits;
  gives = λ n. h.gives (f n);
  opens = h.opens;
  counts = h.counts;
  limits = h.limits;
  stands = h.stands;
  taken = h.taken;
  puts = h.puts;
}

-- after an item the writer can take the next one
pub takes-more : {W O A : Type 0} (w : WriterOf W O A) (see : PlacedItem → PlacedItem) (reads : Type 0) (old new : Joint W) (depth depth_then : ℕ) (from to : Outgoing O) (earlier later : Counts)
    → CanTake w depth old.opened old.writer from → Hands w see reads old new → StaysWell w old.writer new.writer from to earlier later → depth_then ≡ depth → CanTake w depth_then new.opened new.writer to
takes-more w see reads old new depth depth_then from to earlier later t h s e =
    let path = t.after.0 in
    record {
      sound = s.sound;
      fresh = s.failed ∙ t.fresh;
      well = s.fault ∙ t.well;
      depth_of = ap (λ (l : Limits). l.depth) s.limits ∙ (t.depth_of ∙ sym e);
      after = (
        path ++ see h.item ∷ [],
        h.stands path t.after.1 t.after.2,
        open_after_all-append [] path (see h.item) ∙ (ap (λ k. open_after k (see h.item).head) t.after.2 ∙ sym h.opens),
      );
    }

-- where the stream has ended, nothing is handed on
pub finished-feeds : {W O A : Type 0} (w : WriterOf W O A) (see : PlacedItem → PlacedItem) (reads : Type 0) (old new : Joint W) → Feeds w see reads old new → reads → old.coming ≡ Finished → new.coming ≡ Finished
finished-feeds w see reads old _ nothing r ends = ends
finished-feeds w see reads old new (more now _ feeds hands) r ends =
    let over = finished-feeds w see reads old now feeds r ends in
    absurd (no_more (sym (hands.gives r) ∙ over))
  where
    no_more : {item : PlacedItem} {rest : Reading} → More item rest ≡ Finished → ⊥
    no_more e = cc e

module _ {W O A : Type 0} (w : WriterOf W O A) where
  -- it continues each path where these are open
  continues : (limits : Limits) (depth : ℕ) (opened : List Kind) (path : List PlacedItem) (item : PlacedItem) → limits.depth ≡ depth → Stands depth opened item → open_after_all [] path ≡ opened → Continues limits path item
  continues limits depth opened path item deep s kinds = record {
    fits = subst (λ (n : ℕ). Fits n (open_after_all [] path) item) (sym deep) (subst (λ (l : List Kind). Fits depth l item) (sym kinds) s.fits);
    value = s.value;
  }

  -- the writer may be asked
  pub may-take : (depth : ℕ) (opened : List Kind) (writer : W) (sink : Outgoing O) (item : PlacedItem) → CanTake w depth opened writer sink → Stands depth opened item
      → (path : List PlacedItem) × w.stands writer path × Continues (w.limits writer) path item
  may-take depth opened writer sink item can s =
      let b = can.after in
      (b.0, b.1, continues (w.limits writer) depth opened b.0 item can.depth_of s b.2)

  pub can-took : (depth : ℕ) (opened next : List Kind) (old new : W) (before after : Outgoing O) (m k : Counts) (item : PlacedItem) → CanTake w depth opened old before → Stands depth opened item
      → Took w item old new before after m k → next ≡ open_after opened item.head → CanTake w depth next new after
  can-took depth opened next old new before after m k item can s took opens =
      let b = can.after in
      let stood = took.stands b.0 b.1 (continues (w.limits old) depth opened b.0 item can.depth_of s b.2) in
      record {
        sound = took.sound;
        fresh = took.failed ∙ can.fresh;
        well = took.fault ∙ can.well;
        depth_of = ap (λ (l : Limits). l.depth) took.limits ∙ can.depth_of;
        after = (b.0 ++ item ∷ [], stood.0, open_after_all-append [] b.0 item ∙ (ap (λ (l : List Kind). open_after l item.head) b.2 ∙ sym opens));
      }

  -- an item goes to the writer, which has it as it is seen
  pub hands-seen : (see : PlacedItem → PlacedItem) (reads : Type 0) (depth : ℕ) (old new : Joint W) (before after : Outgoing O) (m k : Counts) (item seen : PlacedItem) → see item ≡ seen
      → CanTake w depth old.opened old.writer before → Stands depth old.opened seen → Took w seen old.writer new.writer before after m k → old.pending ≡ before.pending → new.pending ≡ after.pending
      → (reads → old.coming ≡ More item new.coming) → new.opened ≡ open_after old.opened seen.head → new.values ≡ old.values + one_if_closed new.opened
      → Hands w see reads old new
  hands-seen see reads depth old new before after m k item seen is can s took p q gives opens counts = record {
    item = item;
    plain = subst IsPlainItem (sym is) s.plain;
    fits = subst (λ (i : PlacedItem). Fits (w.limits old.writer).depth old.opened i) (sym is) (subst (λ (n : ℕ). Fits n old.opened seen) (sym can.depth_of) s.fits);
    gives = gives;
    opens = opens ∙ ap (λ (i : PlacedItem). open_after old.opened i.head) (sym is);
    counts = counts;
    limits = took.limits;
    stands = λ path at kinds.
        subst (λ (i : PlacedItem). w.stands new.writer (path ++ i ∷ [])) (sym is) (took.stands path at (continues (w.limits old.writer) depth old.opened path seen can.depth_of s kinds)).0;
    taken = λ path at kinds.
        subst (λ (i : PlacedItem). w.refusal (w.limits old.writer) path i ≡ None) (sym is) (took.stands path at (continues (w.limits old.writer) depth old.opened path seen can.depth_of s kinds)).1;
    puts = λ path at kinds.
        subst (λ (i : PlacedItem). new.pending ≡ old.pending ++ w.adds (w.limits old.writer) path i) (sym is)
        (q ∙ (took.puts path at (continues (w.limits old.writer) depth old.opened path seen can.depth_of s kinds)
        ∙ ap (λ (l : List ℕ). l ++ w.adds (w.limits old.writer) path seen) (sym p)));
  }

  -- one after the other
  pub feeds-then : {see : PlacedItem → PlacedItem} {reads : Type 0} {a b c : Joint W} → Feeds w see reads a b → Feeds w see reads b c → Feeds w see reads a c
  feeds-then f nothing = f
  feeds-then f (more now _ g h) = more now _ (feeds-then f g) h

  -- where the reader is observable under another condition
  pub feeds-under : {see : PlacedItem → PlacedItem} {reads now : Type 0} {a b : Joint W} → (now → reads) → Feeds w see reads a b → Feeds w see now a b
  feeds-under f nothing = nothing
  feeds-under f (more at _ feeds hands) = more at _ (feeds-under f feeds) (hands-same f hands)

  pub stays-then : {a b c : W} {p q r : Outgoing O} {x y z : Counts} → StaysWell w a b p q x y → StaysWell w b c q r y z → StaysWell w a c p r x z
  stays-then f g = record {
    sound = g.sound;
    failed = g.failed ∙ f.failed;
    limits = g.limits ∙ f.limits;
    most = g.most ∙ f.most;
    device = g.device ∙ f.device;
    fault = g.fault ∙ f.fault;
    refused = g.refused ∙ f.refused;
  }
