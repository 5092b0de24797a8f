-- A writer can take what comes after the items that were handed on.
use Rattle.std.proofs.Common.{◌≡◌, ℕ, List, [], ◌∷◌, ◌++◌, None, ap, sym, subst, ◌∙◌}
use Rattle.ion_meter.specs.Counts.{Counts}
use Rattle.ion_meter.specs.Windows.{Outgoing}
use Rattle.ion_meter.specs.declared.limits.Limits.{Limits}
use Rattle.ion_value.specs.declared.ion_type.Kind.{Kind}
use Rattle.ion_value.specs.declared.writer.ValueWriter.{Ghosts as WriterOf}
use Rattle.ion_value.specs.Value.{PlacedItem}
use Rattle.ion_value.specs.Feeding.{CanTake, Joint, Feeds, nothing, more, StaysWell}
use Rattle.ion_value.specs.Standing.{Continues, Fits, is_marker, open_after, open_after_all}
use Rattle.ion_symbols.specs.User.{MayCome}
use Rattle.ion_value.proofs.Outcomes.{open_after_all-append}

-- a writer stands after items that leave these containers open
abbrev StandsIn : {W O A : Type 0} → WriterOf W O A → List Kind → W → Type 0
StandsIn w opened writer = (path : List PlacedItem) × w.stands writer path × (open_after_all [] path ≡ opened)

stands-fed : {W O A : Type 0} (w : WriterOf W O A) (reads : Type 0) (old new : Joint W)
    → Feeds w (λ item. item) reads old new → StandsIn w old.opened old.writer → StandsIn w new.opened new.writer
stands-fed w reads old _ nothing s = s
stands-fed w reads old new (more now _ feeds hands) s =
    let t = stands-fed w reads old now feeds s in
    let path = t.0 in
    let item = hands.item in (
      path ++ item ∷ [],
      hands.stands path t.1 t.2,
      open_after_all-append [] path item ∙ (ap (λ k. open_after k item.head) t.2 ∙ sym hands.opens),
    )

pub takes-fed : {W O A : Type 0} (w : WriterOf W O A) (reads : Type 0) (old new : Joint W) (depth depth_then : ℕ) (from to : Outgoing O) (earlier later : Counts)
    → CanTake w depth old.opened old.writer from → Feeds w (λ item. item) reads old new → StaysWell w old.writer new.writer from to earlier later → depth_then ≡ depth
    → CanTake w depth_then new.opened new.writer to
takes-fed w reads old new depth depth_then from to earlier later t feeds s e =
    record {
      sound = s.sound;
      fresh = s.failed ∙ t.fresh;
      well = s.fault ∙ t.well;
      depth_of = ap (λ (l : Limits). l.depth) s.limits ∙ (t.depth_of ∙ sym e);
      after = stands-fed w reads old new feeds t.after;
    }

-- what comes after these containers may be put
pub may-go-on : {W O A : Type 0} (w : WriterOf W O A) {depth : ℕ} {opened then : List Kind} {old : W} {from : Outgoing O} {item own : PlacedItem}
    → (t : CanTake w depth opened old from) → own ≡ item → MayCome depth opened then item → Continues (w.limits old) t.after.0 own
may-go-on w {depth} {opened} {then} {old} {from} {item} {own} t same comes =
    let as_item : Fits depth opened own = subst (λ (i : PlacedItem). Fits depth opened i) (sym same) comes.fits in
    let as_path : Fits depth (open_after_all [] t.after.0) own = subst (λ (k : List Kind). Fits depth k own) (sym t.after.2) as_item in
    record {
      fits = subst (λ (n : ℕ). Fits n (open_after_all [] t.after.0) own) (sym t.depth_of) as_path;
      value = ap (λ (i : PlacedItem). is_marker i.head) same ∙ comes.value;
    }

-- and after it the next one can be taken
pub takes-put : {W O A : Type 0} (w : WriterOf W O A) {depth depth_then : ℕ} {opened then : List Kind} {old new : W} {from to : Outgoing O} {item own : PlacedItem}
    → (t : CanTake w depth opened old from) → MayCome depth opened then item → own ≡ item → depth_then ≡ depth
    → w.sound new → w.failed new ≡ None → to.fault ≡ None → w.limits new ≡ w.limits old → w.stands new (t.after.0 ++ own ∷ [])
    → CanTake w depth_then then new to
takes-put w {depth} {depth_then} {opened} {then} {old} {new} {from} {to} {item} {own} t comes same e sound fresh well limits stands = record {
  sound = sound;
  fresh = fresh;
  well = well;
  depth_of = ap (λ (l : Limits). l.depth) limits ∙ (t.depth_of ∙ sym e);
  after = (
    t.after.0 ++ own ∷ [],
    stands,
    open_after_all-append [] t.after.0 own ∙ (ap (λ k. open_after k own.head) t.after.2 ∙ (ap (λ (i : PlacedItem). open_after opened i.head) same ∙ sym comes.opens)),
  );
}
