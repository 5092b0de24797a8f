-- Where a whole stream is accepted, its items lead to the top level.
use Rattle.std.proofs.Common.{◌≡◌, ℕ, suc, ◌+◌, Bool, true, false, ◌&&◌, ◌==◌, if◌then◌else◌, List, [], ◌∷◌, ◌++◌, length, length-drop, Option, Some, None, refl, sym, ap, subst, ◌∙◌, append_assoc, arith}
use Rattle.std.proofs.lemmas.Bool.{eqb-true}
use Rattle.ion_meter.specs.declared.fault.Reason.{Reason}
use Rattle.ion_value.specs.declared.ion_type.Kind.{Kind}
use Rattle.ion_value.specs.Reading.{Reading, Finished, Stopped, Step, Ends, Stops, Gives, GoesOn, items_then}
use Rattle.ion_value.specs.Standing.{is_marker, open_after, open_after_all}
use Rattle.ion_value.specs.Value as value
use Rattle.ion_value.specs.Value.{SymbolAt, Head, Value, Members, Top, PlacedItem, bare_item, value_items, member_items, top_items}
use Rattle.ion_symbols.specs.Buffer.{area_depth, depth_of}
use Rattle.ion_symbols.specs.declared.known_text.Area.{Area}
use Rattle.ion_symbols.specs.declared.known_text.Area.TheVariants as area
use Rattle.ion_symbols.specs.Declaration as d
use Rattle.ion_symbols.specs.Declaration.{Ground, Declaring, Turn, on, made, stop, turn, item_view}
use Rattle.ion_symbols.specs.Onward.{Led, with_own, led_by, led, AcceptedStreamsLeadToTheTop}
use Rattle.ion_symbols.specs.Table.{Shared, Table, system, text_at}
use Rattle.ion_symbols.specs.Users.{Checked, fine, bad, checked, resolve, Mode, plain, declaring, State, at_start, level_after, is_struct, declares, begins_declaration, after_check, turned, mode_step, user_step, by_step, users}
use Rattle.ion_symbols.proofs.Turns.{level-on, level-made}

-- ---- values at top level

-- version markers stand among items where nothing is open
abbrev Markers : List Kind → List PlacedItem → Type 0
Markers kinds [] = Unit {0}
Markers kinds (item ∷ items) = (is_marker item.head ≡ true → kinds ≡ []) × Markers (open_after kinds item.head) items

no-marker : (kinds : List Kind) → false ≡ true → kinds ≡ []
no-marker kinds e = absurd (cc e)

mutual
  value-markers : (x : Value SymbolAt ℕ) (top place : ℕ) (f : Option SymbolAt) (annotations : List SymbolAt) (kinds : List Kind) (rest : List PlacedItem) → Markers kinds rest
      → Markers kinds (value_items top f annotations place x ++ rest)
  value-markers (value.scalar body) top place f annotations kinds rest h = (no-marker kinds, h)
  value-markers (value.container k members last) top place f annotations kinds rest h = (
    no-marker kinds,
    subst (Markers (k ∷ kinds)) (sym (append_assoc (member_items top members) (bare_item value.end last top ∷ []) rest))
        (members-markers members top (k ∷ kinds) (bare_item value.end last top ∷ rest) (no-marker (k ∷ kinds), h)),
  )

  members-markers : (members : Members SymbolAt ℕ) (top : ℕ) (kinds : List Kind) (rest : List PlacedItem) → Markers kinds rest → Markers kinds (member_items top members ++ rest)
  members-markers value.nothing top kinds rest h = h
  members-markers (value.member before f annotations place x) top kinds rest h =
      subst (Markers kinds) (sym (append_assoc (member_items top before) (value_items top f annotations place x) rest))
      (members-markers before top kinds (value_items top f annotations place x ++ rest) (value-markers x top place f annotations kinds rest h))

tops-markers : (tops : List (Top SymbolAt ℕ)) → Markers [] (top_items tops)
tops-markers [] = tt
tops-markers (value.version place ∷ tops) = (λ e. refl, tops-markers tops)
tops-markers (value.tree first annotations place x ∷ tops) = value-markers x first place None annotations [] (top_items tops) (tops-markers tops)

mutual
  value-closes : (x : Value SymbolAt ℕ) (top place : ℕ) (f : Option SymbolAt) (annotations : List SymbolAt) (kinds : List Kind) (rest : List PlacedItem)
      → open_after_all kinds (value_items top f annotations place x ++ rest) ≡ open_after_all kinds rest
  value-closes (value.scalar body) top place f annotations kinds rest = refl
  value-closes (value.container k members last) top place f annotations kinds rest =
      ap (open_after_all (k ∷ kinds)) (append_assoc (member_items top members) (bare_item value.end last top ∷ []) rest)
      ∙ members-close members top (k ∷ kinds) (bare_item value.end last top ∷ rest)

  members-close : (members : Members SymbolAt ℕ) (top : ℕ) (kinds : List Kind) (rest : List PlacedItem) → open_after_all kinds (member_items top members ++ rest) ≡ open_after_all kinds rest
  members-close value.nothing top kinds rest = refl
  members-close (value.member before f annotations place x) top kinds rest =
      ap (open_after_all kinds) (append_assoc (member_items top before) (value_items top f annotations place x) rest)
      ∙ members-close before top kinds (value_items top f annotations place x ++ rest)
      ∙ value-closes x top place f annotations kinds rest

tops-close : (tops : List (Top SymbolAt ℕ)) → open_after_all [] (top_items tops) ≡ []
tops-close [] = refl
tops-close (value.version place ∷ tops) = tops-close tops
tops-close (value.tree first annotations place x ∷ tops) = value-closes x first place None annotations [] (top_items tops) ∙ tops-close tops

-- ---- how many containers are open

-- as many as a mode says
abbrev Level : Mode → List Kind → Type 0
Level (plain n) kinds = n ≡ length kinds
Level (declaring now) kinds = length kinds ≡ depth_of now

-- so it is after a step, which does not end
abbrev StepLevel : Step State → List Kind → Type 0
StepLevel Ends kinds = ⊥
StepLevel (Stops reason place) kinds = Unit {0}
StepLevel (Gives own u) kinds = Level u.mode kinds
StepLevel (GoesOn u) kinds = Level u.mode kinds

marker-open : (kinds : List Kind) (h : Head SymbolAt) → is_marker h ≡ true → open_after kinds h ≡ kinds
marker-open kinds (value.whole body) e = refl
marker-open kinds (value.begin k) e = absurd (cc e)
marker-open kinds value.end e = absurd (cc e)
marker-open kinds value.marker e = refl

struct-open : (kinds : List Kind) (h : Head SymbolAt) → is_struct h ≡ true → length (open_after kinds h) ≡ suc (length kinds)
struct-open kinds (value.whole body) e = absurd (cc e)
struct-open kinds (value.begin k) e = refl
struct-open kinds value.end e = absurd (cc e)
struct-open kinds value.marker e = absurd (cc e)

level-open : (n : ℕ) (kinds : List Kind) (h : Head SymbolAt) → n ≡ length kinds → level_after n h ≡ length (open_after kinds h)
level-open n kinds (value.whole body) e = e
level-open n kinds (value.begin k) e = omega (arith, e)
level-open n kinds value.end e = omega (arith, e, length-drop 1 kinds)
level-open n kinds value.marker e = e

both-first : (a b c : Bool) → (a && (b && c)) ≡ true → (a ≡ true) × (b ≡ true)
both-first true true c e = (refl, refl)
both-first true false c e = absurd (cc e)
both-first false b c e = absurd (cc e)

check-level : (c : Checked) (o : Step State) (kinds : List Kind) → StepLevel o kinds → StepLevel (after_check c o) kinds
check-level fine o kinds h = h
check-level (bad reason place) o kinds h = tt

module _ (catalog : List Shared) (limit : ℕ) where
  plain-level : (t : Table) (n : ℕ) (i : PlacedItem) (kinds : List Kind) → n ≡ length kinds → (is_marker i.head ≡ true → kinds ≡ []) → StepLevel (mode_step catalog limit t i (plain n)) (open_after kinds i.head)
  plain-level t n i kinds level at_top_only = by (is_marker i.head) refl
    where
      otherwise : (b : Bool) → begins_declaration t n i ≡ b
          → StepLevel (if b then after_check (checked t false i) (GoesOn (record { table = t; mode = declaring d.start }))
          else after_check (checked t true i) (Gives (resolve t i) (record { table = t; mode = plain (level_after n i.head) }))) (open_after kinds i.head)
      otherwise true e =
          let is = both-first (n == 0) (is_struct i.head) (declares t i.annotations) e in
          let one : length (open_after kinds i.head) ≡ 1 = omega (arith, struct-open kinds i.head is.1, level, eqb-true n 0 is.0) in
          check-level (checked t false i) (GoesOn (record { table = t; mode = declaring d.start })) (open_after kinds i.head) one
      otherwise false e =
          check-level (checked t true i) (Gives (resolve t i) (record { table = t; mode = plain (level_after n i.head) })) (open_after kinds i.head) (level-open n kinds i.head level)

      by : (b : Bool) → is_marker i.head ≡ b
          → StepLevel (if b then GoesOn (record { table = system; mode = plain 0 })
          else if begins_declaration t n i then after_check (checked t false i) (GoesOn (record { table = t; mode = declaring d.start }))
          else after_check (checked t true i) (Gives (resolve t i) (record { table = t; mode = plain (level_after n i.head) }))) (open_after kinds i.head)
      by true e = sym (ap length (marker-open kinds i.head e ∙ at_top_only e))
      by false e = otherwise (begins_declaration t n i) refl

  abbrev ground : Table → Ground
  ground t = record { catalog = catalog; limit = limit; old = t }

  declaring-level : (t : Table) (now : Declaring) (i : PlacedItem) (kinds : List Kind) → length kinds ≡ depth_of now → StepLevel (mode_step catalog limit t i (declaring now)) (open_after kinds i.head)
  declaring-level t now i kinds level =
      check-level (checked t false i) (turned t (turn (ground t) now (item_view (text_at t) i))) (open_after kinds i.head) (by (turn (ground t) now (item_view (text_at t) i)) refl)
    where
      by : (x : Turn) → turn (ground t) now (item_view (text_at t) i) ≡ x → StepLevel (turned t x) (open_after kinds i.head)
      by (on next) e = level-on (text_at t) (ground t) now next i i kinds (open_after kinds i.head) level refl refl e
      by (made u) e = sym (ap length (level-made (text_at t) (ground t) now u i i kinds (open_after kinds i.head) level refl refl e))
      by (stop reason place) e = tt

  step-level : (t : Table) (m : Mode) (i : PlacedItem) (kinds : List Kind) → Level m kinds → (is_marker i.head ≡ true → kinds ≡ []) → StepLevel (mode_step catalog limit t i m) (open_after kinds i.head)
  step-level t (plain n) i kinds level at_top_only = plain-level t n i kinds level at_top_only
  step-level t (declaring now) i kinds level at_top_only = declaring-level t now i kinds level

  -- ---- an accepted stream

  -- items lead to where as many containers are open
  abbrev Arrives : State → List PlacedItem → List PlacedItem → List Kind → Type 0
  Arrives s items mine kinds = (after : State) × (led catalog limit s items ≡ Some (record { mine = mine; after = after })) × Level after.mode kinds

  stopped-not : {A : Type 0} (reason : Reason) (place : ℕ) (mine : List PlacedItem) → Stopped reason place ≡ items_then mine Finished → A
  stopped-not reason place [] e = absurd (cc e)
  stopped-not reason place (item ∷ mine) e = absurd (cc e)

  step-arrives : (o : Step State) (f : State → Option Led) (k : State → Reading) (kinds later : List Kind) (mine : List PlacedItem) → StepLevel o kinds
      → ((u : State) (others : List PlacedItem) → Level u.mode kinds → k u ≡ items_then others Finished
      → (after : State) × (f u ≡ Some (record { mine = others; after = after })) × Level after.mode later)
      → by_step o k ≡ items_then mine Finished → (after : State) × (led_by o f ≡ Some (record { mine = mine; after = after })) × Level after.mode later
  step-arrives Ends f k kinds later mine level more e = absurd level
  step-arrives (Stops reason place) f k kinds later mine level more e = stopped-not reason place mine e
  step-arrives (Gives own u) f k kinds later [] level more e = absurd (cc e)
  step-arrives (Gives own u) f k kinds later (item ∷ mine) level more e =
      let same : own ≡ item = cc e in
      let rest : k u ≡ items_then mine Finished = cc e in
      let there = more u mine level rest in (
        there.0,
        ap (with_own own) there.1 ∙ ap (λ (i : PlacedItem). Some (record { mine = i ∷ mine; after = there.0 })) same,
        there.2,
      )
  step-arrives (GoesOn u) f k kinds later mine level more e = more u mine level e

  arrives : (items : List PlacedItem) (s : State) (kinds : List Kind) (mine : List PlacedItem) → Level s.mode kinds → Markers kinds items
      → users catalog limit s (items_then items Finished) ≡ items_then mine Finished → Arrives s items mine (open_after_all kinds items)
  arrives [] s kinds [] level markers e = (s, refl, level)
  arrives [] s kinds (item ∷ mine) level markers e = absurd (cc e)
  arrives (i ∷ items) s kinds mine level markers e =
      step-arrives (user_step catalog limit s i) _ _ (open_after kinds i.head) (open_after_all (open_after kinds i.head) items) mine (step-level s.table s.mode i kinds level markers.0)
      (λ u others at is. arrives items u (open_after kinds i.head) others at markers.1 is) e

  closed-mode : (m : Mode) → Level m [] → m ≡ plain 0
  closed-mode (plain n) level = ap plain level
  closed-mode (declaring now) level = by now.area level
    where
      by : (a : Area) → 0 ≡ area_depth a + now.inside → declaring now ≡ plain 0
      by area.Fields e = absurd (omega (arith, e))
      by area.Imports e = absurd (omega (arith, e))
      by area.Symbols e = absurd (omega (arith, e))
      by area.Import e = absurd (omega (arith, e))

pub accepted-streams-lead-to-the-top : AcceptedStreamsLeadToTheTop
accepted-streams-lead-to-the-top catalog limit tops mine e =
    let there = arrives catalog limit (top_items tops) at_start [] mine refl (tops-markers tops) e in
    let mode : there.0.mode ≡ plain 0 = closed-mode catalog limit there.0.mode (subst (Level there.0.mode) (tops-close tops) there.2) in (
      there.0.table,
      there.1 ∙ ap (λ (m : Mode). Some (record { mine = mine; after = record { table = there.0.table; mode = m } })) mode,
    )
