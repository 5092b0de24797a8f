-- Where reading users stops, the raw reading stops so, or one of its items is refused.
use Rattle.std.proofs.Common.{◌≡◌, ℕ, Bool, true, false, List, [], ◌∷◌, Option, Some, None, refl, ap, subst, inl, inr}
use Rattle.std.specs.Prelude.{◌⊎◌, if◌then◌else◌}
use Rattle.ion_meter.specs.declared.fault.Reason.{Reason}
use Rattle.ion_meter.specs.declared.fault.Reason.TheVariants.{BadSymbol, UnknownSymbol}
use Rattle.ion_value.specs.Value as value
use Rattle.ion_value.specs.Value.{Symbol, SymbolAt, Head, PlacedItem}
use Rattle.ion_value.specs.Reading.{Reading, Finished, Stopped, More, Step, Ends, Stops, Gives, GoesOn, Leaves, items_of, items_then}
use Rattle.ion_value.specs.Standing.{is_marker}
use Rattle.ion_symbols.specs.Table as slot
use Rattle.ion_symbols.specs.Table.{Slot, Shared, Table, slot_of, text_at}
use Rattle.ion_symbols.specs.Declaration as declaration
use Rattle.ion_symbols.specs.Declaration.{Ground, Turn, start, turn, item_view}
use Rattle.ion_symbols.specs.Users.{Checked, fine, bad, or_else, slot_checked, symbol_checked, at_checked, field_checked, annotations_checked, head_checked, checked, resolve, State, Mode, plain, declaring, at_start, level_after, begins_declaration, after_check, turned, plain_step, mode_step, user_step, by_step, users}
use Rattle.ion_symbols.specs.Laws.{Among, IsSymbolOf, SymbolAbove, SymbolInGap, SymbolAtFault, IsRefused, AreTaken, AtItem, WhyUsersStop}

-- ---- the symbol that a check finds

-- a symbol at a place is at fault, for a reason
data Faulty (t : Table) (user : Bool) (s : SymbolAt) (place : ℕ) : Reason → Type 0 where
  above : s.place ≡ place → SymbolAbove t s.symbol → Faulty t user s place BadSymbol
  in_gap : s.place ≡ place → SymbolInGap t s.symbol → user ≡ true → Faulty t user s place UnknownSymbol

slot-faulty : (t : Table) (user : Bool) (s : SymbolAt) (id : ℕ) (v : Slot) (reason : Reason) (place : ℕ) → s.symbol ≡ value.Id id → slot_of t id ≡ v
    → slot_checked user s.place v ≡ bad reason place → Faulty t user s place reason
slot-faulty t user s id slot.above reason place is at e =
    let reason_is : BadSymbol ≡ reason = cc e in
    let place_is : s.place ≡ place = cc e in
    subst (λ r. Faulty t user s place r) reason_is (above place_is (rw (is, at) tt))
slot-faulty t true s id slot.gap reason place is at e =
    let reason_is : UnknownSymbol ≡ reason = cc e in
    let place_is : s.place ≡ place = cc e in
    subst (λ r. Faulty t true s place r) reason_is (in_gap place_is (rw (is, at) tt) refl)
slot-faulty t false s id slot.gap reason place is at e = absurd (cc e)
slot-faulty t user s id slot.unknown reason place is at e = absurd (cc e)
slot-faulty t user s id (slot.known text) reason place is at e = absurd (cc e)

symbol-faulty : (t : Table) (user : Bool) (s : SymbolAt) (symbol : Symbol) (reason : Reason) (place : ℕ) → s.symbol ≡ symbol
    → symbol_checked t user s.place symbol ≡ bad reason place → Faulty t user s place reason
symbol-faulty t user s (value.Text bytes) reason place is e = absurd (cc e)
symbol-faulty t user s (value.Id id) reason place is e = slot-faulty t user s id (slot_of t id) reason place is refl e

at-faulty : (t : Table) (user : Bool) (s : SymbolAt) (reason : Reason) (place : ℕ) → at_checked t user s ≡ bad reason place → Faulty t user s place reason
at-faulty t user s reason place e = symbol-faulty t user s s.symbol reason place refl e

-- it is one of the item's
of_item : (t : Table) (user : Bool) (i : PlacedItem) (s : SymbolAt) (reason : Reason) (place : ℕ) → IsSymbolOf s i → Faulty t user s place reason
    → SymbolAtFault t user i place reason
of_item t user i s _ place is (above at h) = SymbolAtFault.above s is at h
of_item t user i s _ place is (in_gap at h k) = SymbolAtFault.in_gap s is at h k

-- the first check that fails is one of the two
else_bad : (a b : Checked) (reason : Reason) (place : ℕ) → or_else a b ≡ bad reason place → (a ≡ bad reason place) ⊎ (b ≡ bad reason place)
else_bad fine b reason place e = inr e
else_bad (bad r p) b reason place e = inl e

annotations-faulty : (t : Table) (user : Bool) (annotations : List SymbolAt) (reason : Reason) (place : ℕ) → annotations_checked t user annotations ≡ bad reason place
    → (s : SymbolAt) × Among s annotations × Faulty t user s place reason
annotations-faulty t user [] reason place e = absurd (cc e)
annotations-faulty t user (s ∷ ss) reason place e =
    elim (else_bad (at_checked t user s) (annotations_checked t user ss) reason place e) [
      | inl h ↦ (s, inl refl, at-faulty t user s reason place h)
      | inr h ↦ let later = annotations-faulty t user ss reason place h in (later.0, inr later.1, later.2)
    ]

field-faulty : (t : Table) (user : Bool) (i : PlacedItem) (f : Option SymbolAt) (reason : Reason) (place : ℕ) → i.field ≡ f → field_checked t user f ≡ bad reason place
    → SymbolAtFault t user i place reason
field-faulty t user i None reason place is e = absurd (cc e)
field-faulty t user i (Some s) reason place is e = of_item t user i s reason place (inl is) (at-faulty t user s reason place e)

head-faulty : (t : Table) (user : Bool) (i : PlacedItem) (h : Head SymbolAt) (reason : Reason) (place : ℕ) → i.head ≡ h → head_checked t user h ≡ bad reason place
    → SymbolAtFault t user i place reason
head-faulty t user i (value.whole (value.symbol s)) reason place is e = of_item t user i s reason place (inr (inr is)) (at-faulty t user s reason place e)
head-faulty t user i h reason place is e = absurd (cc e)

-- an item that fails the check of its symbols has one at fault
item-faulty : (t : Table) (user : Bool) (i : PlacedItem) (reason : Reason) (place : ℕ) → checked t user i ≡ bad reason place → SymbolAtFault t user i place reason
item-faulty t user i reason place e =
    elim (else_bad (field_checked t user i.field) (or_else (annotations_checked t user i.annotations) (head_checked t user i.head)) reason place e) [
      | inl h ↦ field-faulty t user i i.field reason place refl h
      | inr more ↦ elim (else_bad (annotations_checked t user i.annotations) (head_checked t user i.head) reason place more) [
        | inl h ↦ let found = annotations-faulty t user i.annotations reason place h in of_item t user i found.0 reason place (inr (inl found.1)) found.2
        | inr h ↦ head-faulty t user i i.head reason place refl h
      ]
    ]

-- ---- one step

-- a step after a check stops for the check, or by itself
after_check_stops : (c : Checked) (x : Step State) (reason : Reason) (place : ℕ) → after_check c x ≡ Stops reason place
    → (c ≡ bad reason place) ⊎ (x ≡ Stops reason place)
after_check_stops fine x reason place e = inr e
after_check_stops (bad r p) x reason place e = let reason_is : r ≡ reason = cc e in let place_is : p ≡ place = cc e in inl (rw (reason_is, place_is) refl)

turned_stops : (t : Table) (n : Turn) (reason : Reason) (place : ℕ) → turned t n ≡ Stops reason place → n ≡ declaration.stop reason place
turned_stops t (declaration.on d) reason place e = absurd (cc e)
turned_stops t (declaration.made u) reason place e = absurd (cc e)
turned_stops t (declaration.stop r p) reason place e = let reason_is : r ≡ reason = cc e in let place_is : p ≡ place = cc e in rw (reason_is, place_is) refl

module _ (catalog : List Shared) (limit : ℕ) where
  outside_refused : (t : Table) (n : ℕ) (i : PlacedItem) (reason : Reason) (place : ℕ) (m b : Bool) → is_marker i.head ≡ m → begins_declaration t n i ≡ b
      → plain_step t n i ≡ Stops reason place → IsRefused catalog limit t i reason place (plain n)
  outside_refused t n i reason place true b marks begins e = absurd (cc (rw marks at e))
  outside_refused t n i reason place false true marks begins e =
      elim (after_check_stops (checked t false i) (GoesOn (record { table = t; mode = declaring start })) reason place (rw (marks, begins) at e)) [
        | inl h ↦ IsRefused.outside n marks (rw begins (item-faulty t false i reason place h))
        | inr h ↦ absurd (cc h)
      ]
  outside_refused t n i reason place false false marks begins e =
      elim (after_check_stops (checked t true i) (Gives (resolve t i) (record { table = t; mode = plain (level_after n i.head) })) reason place (rw (marks, begins) at e)) [
        | inl h ↦ IsRefused.outside n marks (rw begins (item-faulty t true i reason place h))
        | inr h ↦ absurd (cc h)
      ]

  step_refused : (t : Table) (i : PlacedItem) (m : Mode) (reason : Reason) (place : ℕ) → mode_step catalog limit t i m ≡ Stops reason place
      → IsRefused catalog limit t i reason place m
  step_refused t i (plain n) reason place e = outside_refused t n i reason place (is_marker i.head) (begins_declaration t n i) refl refl e
  step_refused t i (declaring d) reason place e =
      let g : Ground = record { catalog = catalog; limit = limit; old = t } in
      elim (after_check_stops (checked t false i) (turned t (turn g d (item_view (text_at t) i))) reason place e) [
        | inl h ↦ IsRefused.symbol d (item-faulty t false i reason place h)
        | inr h ↦ IsRefused.meaning d (turned_stops t (turn g d (item_view (text_at t) i)) reason place h)
      ]

  -- no step of reading users ends it
  never_ends : (t : Table) (i : PlacedItem) (m : Mode) → mode_step catalog limit t i m ≡ Ends → ⊥
  never_ends t i (plain n) e = plain_goes (is_marker i.head) (begins_declaration t n i) (checked t false i) (checked t true i) e
    where
      plain_goes : (m b : Bool) (c d : Checked)
          → (if m then GoesOn (record { table = slot.system; mode = plain 0 })
          else if b then after_check c (GoesOn (record { table = t; mode = declaring start }))
          else after_check d (Gives (resolve t i) (record { table = t; mode = plain (level_after n i.head) }))) ≡ Ends → ⊥
      plain_goes true b c d e = cc e
      plain_goes false true fine d e = cc e
      plain_goes false true (bad r p) d e = cc e
      plain_goes false false c fine e = cc e
      plain_goes false false c (bad r p) e = cc e
  never_ends t i (declaring d) e =
      declaring_goes (checked t false i) (turn (record { catalog = catalog; limit = limit; old = t }) d (item_view (text_at t) i)) e
    where
      declaring_goes : (c : Checked) (n : Turn) → after_check c (turned t n) ≡ Ends → ⊥
      declaring_goes fine (declaration.on d) e = cc e
      declaring_goes fine (declaration.made u) e = cc e
      declaring_goes fine (declaration.stop r p) e = cc e
      declaring_goes (bad r p) n e = cc e

  -- ---- all of a reading

  -- an item more is taken in before the one that is refused
  later_item : (s after : State) (i : PlacedItem) (rest : Reading) (reason : Reason) (place : ℕ) → Leaves (user_step catalog limit s i) after
      → (rest ≡ items_then (items_of rest) (Stopped reason place)) ⊎ AtItem catalog limit after rest reason place
      → (More i rest ≡ items_then (items_of (More i rest)) (Stopped reason place)) ⊎ AtItem catalog limit s (More i rest) reason place
  later_item s after i rest reason place leaves (inl own) = inl (ap (More i) own)
  later_item s after i rest reason place leaves (inr at) = inr (record {
    before = i ∷ at.before;
    item = at.item;
    rest = at.rest;
    state = at.state;
    raw_is = ap (More i) at.raw_is;
    taken = AreTaken.one s after at.state i at.before leaves at.taken;
    refused = at.refused;
  })

  step_stops : (s : State) (i : PlacedItem) (rest : Reading) (items : List PlacedItem) (reason : Reason) (place : ℕ) (x : Step State)
      → ((after : State) (js : List PlacedItem) → users catalog limit after rest ≡ items_then js (Stopped reason place)
      → (rest ≡ items_then (items_of rest) (Stopped reason place)) ⊎ AtItem catalog limit after rest reason place)
      → user_step catalog limit s i ≡ x → by_step x (λ t. users catalog limit t rest) ≡ items_then items (Stopped reason place)
      → (More i rest ≡ items_then (items_of (More i rest)) (Stopped reason place)) ⊎ AtItem catalog limit s (More i rest) reason place
  step_stops s i rest items reason place Ends more is e = absurd (never_ends s.table i s.mode is)
  step_stops s i rest [] reason place (Stops r p) more is e =
      let reason_is : r ≡ reason = cc e in
      let place_is : p ≡ place = cc e in
      inr (record {
        before = [];
        item = i;
        rest = rest;
        state = s;
        raw_is = refl;
        taken = AreTaken.none s;
        refused = step_refused s.table i s.mode reason place (rw (reason_is, place_is) at is);
      })
  step_stops s i rest (j ∷ items) reason place (Stops r p) more is e = absurd (cc e)
  step_stops s i rest [] reason place (Gives item after) more is e = absurd (cc e)
  step_stops s i rest (j ∷ items) reason place (Gives item after) more is e =
      let left : Leaves (user_step catalog limit s i) after = rw is (Leaves.after_item item after) in
      let goes_on : users catalog limit after rest ≡ items_then items (Stopped reason place) = cc e in
      later_item s after i rest reason place left (more after items goes_on)
  step_stops s i rest items reason place (GoesOn after) more is e =
      let left : Leaves (user_step catalog limit s i) after = rw is (Leaves.after_nothing after) in
      later_item s after i rest reason place left (more after items e)

  stops : (s : State) (raw : Reading) (items : List PlacedItem) (reason : Reason) (place : ℕ) → users catalog limit s raw ≡ items_then items (Stopped reason place)
      → (raw ≡ items_then (items_of raw) (Stopped reason place)) ⊎ AtItem catalog limit s raw reason place
  stops s Finished [] reason place e = absurd (cc e)
  stops s Finished (j ∷ items) reason place e = absurd (cc e)
  stops s (Stopped r p) [] reason place e = inl e
  stops s (Stopped r p) (j ∷ items) reason place e = absurd (cc e)
  stops s (More i rest) items reason place e =
      step_stops s i rest items reason place (user_step catalog limit s i) (λ after js h. stops after rest js reason place h) refl e

-- where reading users stops, the raw reading stops so, or one of its items is refused
pub why_users_stop : WhyUsersStop
why_users_stop catalog limit raw items reason place e = stops catalog limit at_start raw items reason place e
