-- Items that a reader hands to a writer one after the other: where the two stand, and what each item changes.
use Rattle.std.specs.Prelude.{◌≡◌, ℕ, ◌+◌, List, [], ◌∷◌, ◌++◌, None}
use Rattle.ion_meter.specs.Counts.{Counts}
use Rattle.ion_meter.specs.Windows.{Outgoing}
use Rattle.ion_value.specs.declared.ion_type.Kind.{Kind}
use Rattle.ion_value.specs.declared.writer.ValueWriter.{Ghosts as WriterOf}
use Rattle.ion_value.specs.Value.{PlacedItem}
use Rattle.ion_value.specs.PlainItems.{IsPlainItem}
use Rattle.ion_value.specs.Reading.{Reading, More}
use Rattle.ion_value.specs.Outcome.{one_if_closed}
use Rattle.ion_value.specs.Standing.{Fits, open_after, open_after_all}

-- where a reader and a writer stand: the items to come, the open containers, the writer, what its sink has not written, and how many values at
-- top level have ended
pub record Joint (W : Type 0) : Type 0 where
  pub coming : Reading
  pub opened : List Kind
  pub writer : W
  pub pending : List ℕ
  pub values : ℕ

-- one item goes from the reader to the writer, which has it by `see`: after whatever path the writer stands it is put, and not refused
pub record Hands {W O A : Type 0} (w : WriterOf W O A) (see : PlacedItem → PlacedItem) (reads : Type 0) (old new : Joint W) : Type 0 where
  pub item : PlacedItem
  pub plain : IsPlainItem (see item)
  pub fits : Fits (w.limits old.writer).depth old.opened (see item)
  -- the reader
  pub gives : reads → old.coming ≡ More item new.coming
  pub opens : new.opened ≡ open_after old.opened (see item).head
  pub counts : new.values ≡ old.values + one_if_closed new.opened
  -- the writer
  pub limits : w.limits new.writer ≡ w.limits old.writer
  pub stands : (path : List PlacedItem) → w.stands old.writer path → open_after_all [] path ≡ old.opened → w.stands new.writer (path ++ see item ∷ [])
  pub taken : (path : List PlacedItem) → w.stands old.writer path → open_after_all [] path ≡ old.opened → w.refusal (w.limits old.writer) path (see item) ≡ None
  pub puts : (path : List PlacedItem) → w.stands old.writer path → open_after_all [] path ≡ old.opened
      → new.pending ≡ old.pending ++ w.adds (w.limits old.writer) path (see item)

-- items go so one after the other
pub data Feeds {W O A : Type 0} (w : WriterOf W O A) (see : PlacedItem → PlacedItem) (reads : Type 0) (old : Joint W) : Joint W → Type 0 where
  nothing : Feeds w see reads old old
  more : (now new : Joint W) → Feeds w see reads old now → Hands w see reads now new → Feeds w see reads old new

-- a writer can take what comes where these containers are open, so many at most
pub record CanTake {W O A : Type 0} (w : WriterOf W O A) (depth : ℕ) (opened : List Kind) (writer : W) (sink : Outgoing O) : Type 0 where
  pub sound : w.sound writer
  pub fresh : w.failed writer ≡ None
  pub well : sink.fault ≡ None
  pub depth_of : (w.limits writer).depth ≡ depth
  pub after : (path : List PlacedItem) × w.stands writer path × (open_after_all [] path ≡ opened)

-- what stays of a writer, its sink and the meter: nothing fails, and the device is not used
pub record StaysWell {W O A : Type 0} (w : WriterOf W O A) (before after : W) (old new : Outgoing O) (earlier later : Counts) : Type 0 where
  pub sound : w.sound after
  pub failed : w.failed after ≡ w.failed before
  pub limits : w.limits after ≡ w.limits before
  pub most : w.most after ≡ w.most before
  pub device : new.device ≡ old.device
  pub fault : new.fault ≡ old.fault
  pub refused : later.refused ≡ earlier.refused
