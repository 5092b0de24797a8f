-- Nothing in what a user of a stream is given hangs on where its bytes stand, but the places.
use Rattle.std.proofs.Common.{◌≡◌, ℕ, zero, suc, ◌+◌, ◌-◌, Bool, true, false, ◌&&◌, ◌==◌, nat_le, if◌then◌else◌, List, [], ◌∷◌, ◌++◌, map, length, Option, Some, None, option_map, Ok, Err, inl, inr, ◌⊎◌, refl, sym, ap, ap₂, subst, ◌∙◌}
use Rattle.ion_meter.specs.declared.fault.Reason.{Reason}
use Rattle.ion_meter.specs.declared.fault.Reason.TheVariants.{BadTable}
use Rattle.ion_value.specs.declared.ion_type.Kind.TheVariants as kind
use Rattle.ion_value.specs.Further.{further}
use Rattle.ion_value.specs.Items.{named_at}
use Rattle.ion_value.specs.Reading.{Reading, Finished, Stopped, More, Step, Ends, Stops, Gives, GoesOn}
use Rattle.ion_value.specs.Standing.{is_marker}
use Rattle.ion_value.specs.Value as value
use Rattle.ion_value.specs.Value.{Symbol, SymbolAt, Scalar, Head, PlacedItem, map_scalar, map_head}
use Rattle.ion_symbols.specs.declared.known_text.Area.{Area}
use Rattle.ion_symbols.specs.declared.known_text.Area.TheVariants as area
use Rattle.ion_symbols.specs.declared.known_text.Word.{Word}
use Rattle.ion_symbols.specs.declared.known_text.Word.TheVariants as word
use Rattle.ion_symbols.specs.Declaration as d
use Rattle.ion_symbols.specs.Declaration.{FieldValue, begins, ends, string, int, names, ItemView, field_word, place_in, scalar_view, head_view, item_view, Pending, Ground, Held, Turn, on, made, stop, then_turn, turn, area_turn}
use Rattle.ion_symbols.specs.Onward.{Led, with_own, led_by, led, at_top, placed_by, UsersHangOnNoPlace, TablesHangOnNoPlace}
use Rattle.ion_symbols.specs.Table as slot
use Rattle.ion_symbols.specs.Table.{Slot, Shared, Import, Table, system, slot_of, text_at, most_slots}
use Rattle.ion_symbols.specs.Users.{resolve, Checked, fine, bad, slot_checked, symbol_checked, or_else, at_checked, field_checked, annotations_checked, scalar_checked, head_checked, checked, Mode, plain, declaring, State, at_start, level_after, is_struct, declares, begins_declaration, after_check, turned, plain_step, declaring_step, mode_step, by_step, users}

-- a test of one or the other
chosen : {A B : Type 0} (R : A → B → Type 0) (b : Bool) (x y : A) (u v : B) → R x u → R y v → R (if b then x else y) (if b then u else v)
chosen R true x y u v f g = f
chosen R false x y u v f g = g

module _ (g : ℕ → ℕ) where
  abbrev symbol_by : SymbolAt → SymbolAt
  symbol_by s = record { symbol = s.symbol; place = g s.place }

  -- ---- the symbols of an item

  abbrev check_by : Checked → Checked
  check_by fine = fine
  check_by (bad reason place) = bad reason (g place)

  slot-by : (user : Bool) (place : ℕ) (s : Slot) → slot_checked user (g place) s ≡ check_by (slot_checked user place s)
  slot-by user place slot.above = refl
  slot-by true place slot.gap = refl
  slot-by false place slot.gap = refl
  slot-by user place slot.unknown = refl
  slot-by user place (slot.known t) = refl

  symbol-by : (t : Table) (user : Bool) (place : ℕ) (s : Symbol) → symbol_checked t user (g place) s ≡ check_by (symbol_checked t user place s)
  symbol-by t user place (value.Text bytes) = refl
  symbol-by t user place (value.Id id) = slot-by user place (slot_of t id)

  else-by : (a b : Checked) → or_else (check_by a) (check_by b) ≡ check_by (or_else a b)
  else-by fine b = refl
  else-by (bad reason place) b = refl

  at-by : (t : Table) (user : Bool) (s : SymbolAt) → at_checked t user (symbol_by s) ≡ check_by (at_checked t user s)
  at-by t user s = symbol-by t user s.place s.symbol

  field-by : (t : Table) (user : Bool) (f : Option SymbolAt) → field_checked t user (option_map symbol_by f) ≡ check_by (field_checked t user f)
  field-by t user None = refl
  field-by t user (Some s) = at-by t user s

  annotations-by : (t : Table) (user : Bool) (ss : List SymbolAt) → annotations_checked t user (map symbol_by ss) ≡ check_by (annotations_checked t user ss)
  annotations-by t user [] = refl
  annotations-by t user (s ∷ ss) = ap₂ or_else (at-by t user s) (annotations-by t user ss) ∙ else-by (at_checked t user s) (annotations_checked t user ss)

  scalar-by : (t : Table) (user : Bool) (v : Scalar SymbolAt) → scalar_checked t user (map_scalar symbol_by v) ≡ check_by (scalar_checked t user v)
  scalar-by t user (value.null type) = refl
  scalar-by t user (value.bool truth) = refl
  scalar-by t user (value.int number) = refl
  scalar-by t user (value.float number) = refl
  scalar-by t user (value.decimal number) = refl
  scalar-by t user (value.timestamp moment) = refl
  scalar-by t user (value.symbol s) = at-by t user s
  scalar-by t user (value.string bytes) = refl
  scalar-by t user (value.clob bytes) = refl
  scalar-by t user (value.blob bytes) = refl

  head-by : (t : Table) (user : Bool) (h : Head SymbolAt) → head_checked t user (map_head symbol_by h) ≡ check_by (head_checked t user h)
  head-by t user (value.whole body) = scalar-by t user body
  head-by t user (value.begin kind) = refl
  head-by t user value.end = refl
  head-by t user value.marker = refl

  checked-by : (t : Table) (user : Bool) (i : PlacedItem) → checked t user (placed_by g i) ≡ check_by (checked t user i)
  checked-by t user i =
      ap₂ or_else (field-by t user i.field) (ap₂ or_else (annotations-by t user i.annotations) (head-by t user i.head) ∙ else-by (annotations_checked t user i.annotations) (head_checked t user i.head))
      ∙ else-by (field_checked t user i.field) (or_else (annotations_checked t user i.annotations) (head_checked t user i.head))

  -- ---- an item by the texts of ids

  module _ (texts : ℕ → Option (List ℕ)) where
    field-named : (f : Option SymbolAt) → option_map (named_at texts) (option_map symbol_by f) ≡ option_map symbol_by (option_map (named_at texts) f)
    field-named None = refl
    field-named (Some s) = refl

    annotations-named : (ss : List SymbolAt) → map (named_at texts) (map symbol_by ss) ≡ map symbol_by (map (named_at texts) ss)
    annotations-named [] = refl
    annotations-named (s ∷ ss) = ap (λ (l : List SymbolAt). symbol_by (named_at texts s) ∷ l) (annotations-named ss)

    scalar-named : (v : Scalar SymbolAt) → map_scalar (named_at texts) (map_scalar symbol_by v) ≡ map_scalar symbol_by (map_scalar (named_at texts) v)
    scalar-named (value.null type) = refl
    scalar-named (value.bool truth) = refl
    scalar-named (value.int number) = refl
    scalar-named (value.float number) = refl
    scalar-named (value.decimal number) = refl
    scalar-named (value.timestamp moment) = refl
    scalar-named (value.symbol s) = refl
    scalar-named (value.string bytes) = refl
    scalar-named (value.clob bytes) = refl
    scalar-named (value.blob bytes) = refl

    head-named : (h : Head SymbolAt) → map_head (named_at texts) (map_head symbol_by h) ≡ map_head symbol_by (map_head (named_at texts) h)
    head-named (value.whole body) = ap value.whole (scalar-named body)
    head-named (value.begin kind) = refl
    head-named value.end = refl
    head-named value.marker = refl

    -- what a declaration looks at in it

    head-seen : (h : Head SymbolAt) → head_view texts (map_head symbol_by h) ≡ head_view texts h
    head-seen (value.whole body) = by body
      where
        by : (v : Scalar SymbolAt) → scalar_view texts (map_scalar symbol_by v) ≡ scalar_view texts v
        by (value.null type) = refl
        by (value.bool truth) = refl
        by (value.int number) = refl
        by (value.float number) = refl
        by (value.decimal number) = refl
        by (value.timestamp moment) = refl
        by (value.symbol s) = refl
        by (value.string bytes) = refl
        by (value.clob bytes) = refl
        by (value.blob bytes) = refl
    head-seen (value.begin kind) = refl
    head-seen value.end = refl
    head-seen value.marker = refl

    word-seen : (f : Option SymbolAt) → field_word texts (option_map symbol_by f) ≡ field_word texts f
    word-seen None = refl
    word-seen (Some s) = refl

    -- the place of a field is another too, or there is none
    place-seen : (f : Option SymbolAt) → (place_in (option_map symbol_by f) ≡ g (place_in f)) ⊎ (field_word texts f ≡ word.Other)
    place-seen None = inr refl
    place-seen (Some s) = inl refl

  -- an item by its parts, where another stands elsewhere
  abbrev item_like : PlacedItem → Option SymbolAt → List SymbolAt → Head SymbolAt → PlacedItem
  item_like i f ss h = record { field = f; annotations = ss; head = h; place = g i.place; top = g i.top }

  resolve-by : (t : Table) (i : PlacedItem) → resolve t (placed_by g i) ≡ placed_by g (resolve t i)
  resolve-by t i =
      ap (λ (f : Option SymbolAt). item_like i f (map (named_at (text_at t)) (map symbol_by i.annotations)) (map_head (named_at (text_at t)) (map_head symbol_by i.head))) (field-named (text_at t) i.field)
      ∙ ap (λ (ss : List SymbolAt). item_like i (option_map symbol_by (option_map (named_at (text_at t)) i.field)) ss (map_head (named_at (text_at t)) (map_head symbol_by i.head))) (annotations-named (text_at t) i.annotations)
      ∙ ap (λ (h : Head SymbolAt). item_like i (option_map symbol_by (option_map (named_at (text_at t)) i.field)) (map symbol_by (map (named_at (text_at t)) i.annotations)) h) (head-named (text_at t) i.head)

  -- ---- a declaration

  -- a pending table whose import stands elsewhere
  abbrev other : (ℕ → ℕ) → Pending → Pending
  other h p = record p { entry = record p.entry { place = h p.entry.place } }

  abbrev held_by : (ℕ → ℕ) → Held → Held
  held_by h (Ok p) = Ok (other h p)
  held_by h (Err why) = Err (why.0, g why.1)

  abbrev is_import : Area → Bool
  is_import area.Import = true
  is_import area.Fields = false
  is_import area.Imports = false
  is_import area.Symbols = false

  -- in an import its place is another as all places are
  abbrev InImport : Area → (ℕ → ℕ) → Type 0
  InImport a h = is_import a ≡ true → (q : ℕ) → h q ≡ g q

  data Turns : Turn → Turn → Type 0 where
    goes : (a : Area) (inside : ℕ) (p : Pending) (h : ℕ → ℕ) → InImport a h
        → Turns (on (record { area = a; inside = inside; pending = p })) (on (record { area = a; inside = inside; pending = other h p }))
    makes : (t : Table) → Turns (made t) (made t)
    halts : (reason : Reason) (place : ℕ) → Turns (stop reason place) (stop reason (g place))

  then-turns : (h : ℕ → ℕ) (r w : Held) (f k : Pending → Turn) → w ≡ held_by h r → ((p : Pending) → Turns (f p) (k (other h p))) → Turns (then_turn r f) (then_turn w k)
  then-turns h (Ok p) w f k e more = subst (λ (w : Held). Turns (f p) (then_turn w k)) (sym e) (more p)
  then-turns h (Err why) w f k e more = subst (λ (w : Held). Turns (stop why.0 why.1) (then_turn w k)) (sym e) (halts why.0 why.1)

  either-held : (h : ℕ → ℕ) (b : Bool) (x y u v : Held) → u ≡ held_by h x → v ≡ held_by h y → (if b then u else v) ≡ held_by h (if b then x else y)
  either-held h true x y u v e f = e
  either-held h false x y u v e f = f

  cost-held : (h : ℕ → ℕ) (limit place cost count : ℕ) (p : Pending) → d.add_cost limit (g place) cost count (other h p) ≡ held_by h (d.add_cost limit place cost count p)
  cost-held h limit place cost count p = either-held h (nat_le (p.cost + cost) limit && nat_le (p.count + count) most_slots) _ _ _ _ refl refl

  ignored : (what : FieldValue) (a : Area) (inside : ℕ) (p : Pending) (h : ℕ → ℕ) → InImport a h
      → Turns (on (d.skip_ignored what (record { area = a; inside = inside; pending = p }))) (on (d.skip_ignored what (record { area = a; inside = inside; pending = other h p })))
  ignored (begins k) a inside p h is = goes a (inside + 1) p h is
  ignored ends a inside p h is = goes a (inside - 1) p h is
  ignored d.other a inside p h is = goes a inside p h is
  ignored (string t) a inside p h is = goes a inside p h is
  ignored (int negative n) a inside p h is = goes a inside p h is
  ignored (names w) a inside p h is = goes a inside p h is

  no-import : (a : Area) (h : ℕ → ℕ) → is_import a ≡ false → InImport a h
  no-import a h e is q = absurd (cc e)

  module _ (ground : Ground) where
    -- a field of the declaration
    met-held : (h : ℕ → ℕ) (place far : ℕ) (w : Word) (p : Pending) → (far ≡ g place) ⊎ (w ≡ word.Other) → d.field_met far w (other h p) ≡ held_by h (d.field_met place w p)
    met-held h place far word.Imports p (inl e) =
        ap (λ (q : ℕ). d.field_met q word.Imports (other h p)) e ∙ either-held h p.has_imports _ _ _ _ refl refl
    met-held h place far word.Symbols p (inl e) =
        ap (λ (q : ℕ). d.field_met q word.Symbols (other h p)) e ∙ either-held h p.has_symbols _ _ _ _ refl refl
    met-held h place far word.Imports p (inr e) = absurd (cc e)
    met-held h place far word.Symbols p (inr e) = absurd (cc e)
    met-held h place far word.Name p where_is = refl
    met-held h place far word.Version p where_is = refl
    met-held h place far word.MaxId p where_is = refl
    met-held h place far word.Declaration p where_is = refl
    met-held h place far word.Other p where_is = refl

    field-turns : (h : ℕ → ℕ) (place : ℕ) (w : Word) (what : FieldValue) (p : Pending) → Turns (d.field_value ground place w what p) (d.field_value ground (g place) w what (other h p))
    field-turns h place word.Imports (begins kind.List) p = goes area.Imports 0 p h (no-import area.Imports h refl)
    field-turns h place word.Imports (begins kind.Sexp) p = ignored (begins kind.Sexp) area.Fields 0 p h (no-import area.Fields h refl)
    field-turns h place word.Imports (begins kind.Struct) p = ignored (begins kind.Struct) area.Fields 0 p h (no-import area.Fields h refl)
    field-turns h place word.Imports (names word.Declaration) p =
        then-turns h (d.keeping ground place p) (d.keeping ground (g place) (other h p)) _ _ (cost-held h ground.limit place _ _ (record p { keeps = true }))
        (λ q. goes area.Fields 0 q h (no-import area.Fields h refl))
    field-turns h place word.Symbols (begins kind.List) p = goes area.Symbols 0 p h (no-import area.Symbols h refl)
    field-turns h place word.Symbols (begins kind.Sexp) p = ignored (begins kind.Sexp) area.Fields 0 p h (no-import area.Fields h refl)
    field-turns h place word.Symbols (begins kind.Struct) p = ignored (begins kind.Struct) area.Fields 0 p h (no-import area.Fields h refl)
    field-turns h place w what p = ignored what area.Fields 0 p h (no-import area.Fields h refl)

    element-turns : (h : ℕ → ℕ) (place : ℕ) (what : FieldValue) (p : Pending)
        → Turns (then_turn (d.with_slot ground place (d.string_in what) p) (λ q. on (d.skip_ignored what (d.at area.Symbols q))))
        (then_turn (d.with_slot ground (g place) (d.string_in what) (other h p)) (λ q. on (d.skip_ignored what (d.at area.Symbols q))))
    element-turns h place what p =
        then-turns h (d.with_slot ground place (d.string_in what) p) (d.with_slot ground (g place) (d.string_in what) (other h p)) _ _
        (cost-held h ground.limit place _ 1 (record p { locals = p.locals ++ d.string_in what ∷ [] }))
        (λ q. ignored what area.Symbols 0 q h (no-import area.Symbols h refl))

    imports-turns : (h : ℕ → ℕ) (v w : ItemView) (p : Pending) (what : FieldValue) → w.place ≡ g v.place → Turns (d.imports_turn v p what) (d.imports_turn w (other h p) what)
    imports-turns h v w p ends e = goes area.Fields 0 p h (no-import area.Fields h refl)
    imports-turns h v w p (begins kind.Struct) e =
        subst (λ (q : ℕ). Turns (d.imports_turn v p (begins kind.Struct)) (on (d.at area.Import (record (other h p) { entry = d.new_entry q })))) (sym e)
        (goes area.Import 0 (record p { entry = d.new_entry v.place }) g (λ is q. refl))
    imports-turns h v w p (begins kind.List) e = ignored (begins kind.List) area.Imports 0 p h (no-import area.Imports h refl)
    imports-turns h v w p (begins kind.Sexp) e = ignored (begins kind.Sexp) area.Imports 0 p h (no-import area.Imports h refl)
    imports-turns h v w p d.other e = ignored d.other area.Imports 0 p h (no-import area.Imports h refl)
    imports-turns h v w p (string t) e = ignored (string t) area.Imports 0 p h (no-import area.Imports h refl)
    imports-turns h v w p (int negative n) e = ignored (int negative n) area.Imports 0 p h (no-import area.Imports h refl)
    imports-turns h v w p (names x) e = ignored (names x) area.Imports 0 p h (no-import area.Imports h refl)

    -- a field of an import
    part-held : (h : ℕ → ℕ) (place far : ℕ) (w : Word) (p : Pending) → (far ≡ g place) ⊎ (w ≡ word.Other) → d.part_met far w (other h p) ≡ held_by h (d.part_met place w p)
    part-held h place far word.Name p (inl e) = ap (λ (q : ℕ). d.part_met q word.Name (other h p)) e ∙ either-held h p.entry.has_name _ _ _ _ refl refl
    part-held h place far word.Version p (inl e) = ap (λ (q : ℕ). d.part_met q word.Version (other h p)) e ∙ either-held h p.entry.has_version _ _ _ _ refl refl
    part-held h place far word.MaxId p (inl e) = ap (λ (q : ℕ). d.part_met q word.MaxId (other h p)) e ∙ either-held h p.entry.has_max _ _ _ _ refl refl
    part-held h place far word.Name p (inr e) = absurd (cc e)
    part-held h place far word.Version p (inr e) = absurd (cc e)
    part-held h place far word.MaxId p (inr e) = absurd (cc e)
    part-held h place far word.Imports p where_is = refl
    part-held h place far word.Symbols p where_is = refl
    part-held h place far word.Declaration p where_is = refl
    part-held h place far word.Other p where_is = refl

    part-turns : (h : ℕ → ℕ) → ((q : ℕ) → h q ≡ g q) → (place : ℕ) (w : Word) (what : FieldValue) (p : Pending) → Turns (d.part_value ground place w what p) (d.part_value ground (g place) w what (other h p))
    part-turns h is place word.Name (string t) p =
        then-turns h (d.with_import_name ground place t p) (d.with_import_name ground (g place) t (other h p)) _ _
        (cost-held h ground.limit place (length t) 0 (record p { entry = record p.entry { name = t } }))
        (λ q. goes area.Import 0 q h (λ in_import. is))
    part-turns h is place word.Version what p = ignored what area.Import 0 (d.versioned (d.version_in what) p) h (λ in_import. is)
    part-turns h is place word.MaxId what p = ignored what area.Import 0 (d.cut_to (d.max_id_in what) p) h (λ in_import. is)
    part-turns h is place w what p = ignored what area.Import 0 p h (λ in_import. is)

    import-held : (h : ℕ → ℕ) → ((q : ℕ) → h q ≡ g q) → (p : Pending) (i : Option Import) → d.with_import ground (other h p) i ≡ held_by h (d.with_import ground p i)
    import-held h is p None = ap (λ (q : ℕ). Err (BadTable, q)) (is p.entry.place)
    import-held h is p (Some i) =
        ap (λ (q : ℕ). d.add_cost ground.limit q 32 i.count (other h (d.nameless (record p { imports = p.imports ++ i ∷ [] })))) (is p.entry.place)
        ∙ cost-held h ground.limit p.entry.place 32 i.count (d.nameless (record p { imports = p.imports ++ i ∷ [] }))

    ended-held : (h : ℕ → ℕ) → ((q : ℕ) → h q ≡ g q) → (p : Pending) → d.import_ended ground (other h p) ≡ held_by h (d.import_ended ground p)
    ended-held h is p =
        either-held h (d.is_ignored p.entry.name) _ _ _ _ refl (import-held h is (d.given_back p) (d.import_of ground.catalog p.entry.name p.entry.version p.entry.max_id))

    -- ---- a turn

    area-turns : (a : Area) (h : ℕ → ℕ) (v : ItemView) (far : ℕ) (p : Pending) → InImport a h → (far ≡ g v.field_place) ⊎ (v.field ≡ word.Other)
        → Turns (area_turn ground v p a) (area_turn ground (record { field = v.field; field_place = far; what = v.what; place = g v.place }) (other h p) a)
    area-turns area.Fields h v far p is where_is =
        chosen Turns (d.is_end v.what) _ _ _ _ (keeps p.keeps)
        (then-turns h (d.field_met v.field_place v.field p) (d.field_met far v.field (other h p)) _ _ (met-held h v.field_place far v.field p where_is) (λ q. field-turns h v.place v.field v.what q))
      where
        keeps : (b : Bool) → Turns (made (d.next ground.old p)) (made (d.next ground.old (other h p)))
        keeps b = makes (d.next ground.old p)
    area-turns area.Symbols h v far p is where_is =
        chosen Turns (d.is_end v.what) _ _ _ _ (goes area.Fields 0 p h (no-import area.Fields h refl)) (element-turns h v.place v.what p)
    area-turns area.Imports h v far p is where_is =
        imports-turns h v (record { field = v.field; field_place = far; what = v.what; place = g v.place }) p v.what refl
    area-turns area.Import h v far p is where_is =
        chosen Turns (d.is_end v.what) _ _ _ _
        (then-turns h (d.import_ended ground p) (d.import_ended ground (other h p)) _ _ (ended-held h (is refl) p) (λ q. goes area.Imports 0 q h (no-import area.Imports h refl)))
        (then-turns h (d.part_met v.field_place v.field p) (d.part_met far v.field (other h p)) _ _ (part-held h v.field_place far v.field p where_is) (λ q. part-turns h (is refl) v.place v.field v.what q))

    turn-turns : (a : Area) (inside : ℕ) (h : ℕ → ℕ) (v : ItemView) (far : ℕ) (p : Pending) → InImport a h → (far ≡ g v.field_place) ⊎ (v.field ≡ word.Other)
        → Turns (turn ground (record { area = a; inside = inside; pending = p }) v)
        (turn ground (record { area = a; inside = inside; pending = other h p }) (record { field = v.field; field_place = far; what = v.what; place = g v.place }))
    turn-turns a zero h v far p is where_is = area-turns a h v far p is where_is
    turn-turns a (suc inside) h v far p is where_is = ignored v.what a (suc inside) p h is

  -- ---- a step of user values

  data Modes : Mode → Mode → Type 0 where
    plainly : (n : ℕ) → Modes (plain n) (plain n)
    declares_on : (a : Area) (inside : ℕ) (p : Pending) (h : ℕ → ℕ) → InImport a h
        → Modes (declaring (record { area = a; inside = inside; pending = p })) (declaring (record { area = a; inside = inside; pending = other h p }))

  data Steps : Step State → Step State → Type 0 where
    ends_too : Steps Ends Ends
    stops_too : (reason : Reason) (place : ℕ) → Steps (Stops reason place) (Stops reason (g place))
    gives_too : (own : PlacedItem) (t : Table) (m w : Mode) → Modes m w → Steps (Gives own (record { table = t; mode = m })) (Gives (placed_by g own) (record { table = t; mode = w }))
    goes_too : (t : Table) (m w : Mode) → Modes m w → Steps (GoesOn (record { table = t; mode = m })) (GoesOn (record { table = t; mode = w }))

  check-steps : (c e : Checked) (x y : Step State) → e ≡ check_by c → Steps x y → Steps (after_check c x) (after_check e y)
  check-steps fine e x y is same = subst (λ (e : Checked). Steps x (after_check e y)) (sym is) same
  check-steps (bad reason place) e x y is same = subst (λ (e : Checked). Steps (Stops reason place) (after_check e y)) (sym is) (stops_too reason place)

  turned-steps : (t : Table) (x y : Turn) → Turns x y → Steps (turned t x) (turned t y)
  turned-steps t _ _ (goes a inside p h is) = goes_too t _ _ (declares_on a inside p h is)
  turned-steps t _ _ (makes u) = goes_too u (plain 0) (plain 0) (plainly 0)
  turned-steps t _ _ (halts reason place) = stops_too reason place

  marker-by : (h : Head SymbolAt) → is_marker (map_head symbol_by h) ≡ is_marker h
  marker-by (value.whole body) = refl
  marker-by (value.begin kind) = refl
  marker-by value.end = refl
  marker-by value.marker = refl

  struct-by : (h : Head SymbolAt) → is_struct (map_head symbol_by h) ≡ is_struct h
  struct-by (value.whole body) = refl
  struct-by (value.begin kind.Struct) = refl
  struct-by (value.begin kind.List) = refl
  struct-by (value.begin kind.Sexp) = refl
  struct-by value.end = refl
  struct-by value.marker = refl

  declares-by : (t : Table) (ss : List SymbolAt) → declares t (map symbol_by ss) ≡ declares t ss
  declares-by t [] = refl
  declares-by t (s ∷ ss) = refl

  level-by : (n : ℕ) (h : Head SymbolAt) → level_after n (map_head symbol_by h) ≡ level_after n h
  level-by n (value.whole body) = refl
  level-by n (value.begin kind) = refl
  level-by n value.end = refl
  level-by n value.marker = refl

  begins-by : (t : Table) (n : ℕ) (i : PlacedItem) → begins_declaration t n (placed_by g i) ≡ begins_declaration t n i
  begins-by t n i = ap₂ (λ (a b : Bool). (n == 0) && (a && b)) (struct-by i.head) (declares-by t i.annotations)

  if-steps : (b c : Bool) (x y u v : Step State) → c ≡ b → Steps x u → Steps y v → Steps (if b then x else y) (if c then u else v)
  if-steps b c x y u v e f k = subst (λ (c : Bool). Steps (if b then x else y) (if c then u else v)) (sym e) (chosen Steps b x y u v f k)

  plain-steps : (t : Table) (n : ℕ) (i : PlacedItem) → Steps (plain_step t n i) (plain_step t n (placed_by g i))
  plain-steps t n i =
      if-steps (is_marker i.head) (is_marker (map_head symbol_by i.head)) _ _ _ _ (marker-by i.head) (goes_too system (plain 0) (plain 0) (plainly 0))
      (if-steps (begins_declaration t n i) (begins_declaration t n (placed_by g i)) _ _ _ _ (begins-by t n i)
      (check-steps (checked t false i) (checked t false (placed_by g i)) _ _ (checked-by t false i)
      (goes_too t (declaring d.start) (declaring d.start) (declares_on area.Fields 0 d.nothing_yet (λ q. q) (no-import area.Fields (λ q. q) refl))))
      (check-steps (checked t true i) (checked t true (placed_by g i)) _ _ (checked-by t true i) gives))
    where
      gives : Steps (Gives (resolve t i) (record { table = t; mode = plain (level_after n i.head) }))
          (Gives (resolve t (placed_by g i)) (record { table = t; mode = plain (level_after n (map_head symbol_by i.head)) }))
      gives =
          subst (λ (own : PlacedItem). Steps (Gives (resolve t i) (record { table = t; mode = plain (level_after n i.head) })) (Gives own (record { table = t; mode = plain (level_after n (map_head symbol_by i.head)) })))
          (sym (resolve-by t i))
          (subst (λ (m : ℕ). Steps (Gives (resolve t i) (record { table = t; mode = plain (level_after n i.head) })) (Gives (placed_by g (resolve t i)) (record { table = t; mode = plain m })))
          (sym (level-by n i.head)) (gives_too (resolve t i) t (plain (level_after n i.head)) (plain (level_after n i.head)) (plainly (level_after n i.head))))

  -- what a declaration looks at in an item, by its parts, where the item stands elsewhere
  abbrev view_like : PlacedItem → Word → FieldValue → ItemView
  view_like i w what = record { field = w; field_place = place_in (option_map symbol_by i.field); what = what; place = g i.place }

  -- the turn by an item, and by another view of it
  abbrev From : Ground → Area → ℕ → Pending → (ℕ → ℕ) → PlacedItem → ItemView → Type 0
  From ground a inside p h i w =
      Turns (turn ground (record { area = a; inside = inside; pending = p }) (item_view (text_at ground.old) i)) (turn ground (record { area = a; inside = inside; pending = other h p }) w)

  declaring-steps : (ground : Ground) (a : Area) (inside : ℕ) (p : Pending) (h : ℕ → ℕ) → InImport a h → (i : PlacedItem)
      → Steps (declaring_step ground (record { area = a; inside = inside; pending = p }) i) (declaring_step ground (record { area = a; inside = inside; pending = other h p }) (placed_by g i))
  declaring-steps ground a inside p h is i =
      check-steps (checked ground.old false i) (checked ground.old false (placed_by g i)) _ _ (checked-by ground.old false i) (turned-steps ground.old _ _ seen)
    where
      seen : From ground a inside p h i (item_view (text_at ground.old) (placed_by g i))
      seen =
          subst (λ (w : Word). From ground a inside p h i (view_like i w (head_view (text_at ground.old) (map_head symbol_by i.head)))) (sym (word-seen (text_at ground.old) i.field))
          (subst (λ (what : FieldValue). From ground a inside p h i (view_like i (field_word (text_at ground.old) i.field) what)) (sym (head-seen (text_at ground.old) i.head))
          (turn-turns ground a inside h (item_view (text_at ground.old) i) (place_in (option_map symbol_by i.field)) p is (place-seen (text_at ground.old) i.field)))

  module _ (catalog : List Shared) (limit : ℕ) where
    mode-steps : (t : Table) (m w : Mode) (i : PlacedItem) → Modes m w → Steps (mode_step catalog limit t i m) (mode_step catalog limit t (placed_by g i) w)
    mode-steps t _ _ i (plainly n) = plain-steps t n i
    mode-steps t _ _ i (declares_on a inside p h is) = declaring-steps (record { catalog = catalog; limit = limit; old = t }) a inside p h is i

    -- ---- what items lead to

    data Leads : Option Led → Option Led → Type 0 where
      nowhere : Leads None None
      somewhere : (mine : List PlacedItem) (t : Table) (m w : Mode) → Modes m w
          → Leads (Some (record { mine = mine; after = record { table = t; mode = m } })) (Some (record { mine = map (placed_by g) mine; after = record { table = t; mode = w } }))

    own-leads : (own : PlacedItem) (x y : Option Led) → Leads x y → Leads (with_own own x) (with_own (placed_by g own) y)
    own-leads own _ _ nowhere = nowhere
    own-leads own _ _ (somewhere mine t m w is) = somewhere (own ∷ mine) t m w is

    step-leads : (x y : Step State) (f k : State → Option Led) → Steps x y
        → ((t : Table) (m w : Mode) → Modes m w → Leads (f (record { table = t; mode = m })) (k (record { table = t; mode = w }))) → Leads (led_by x f) (led_by y k)
    step-leads _ _ f k ends_too more = nowhere
    step-leads _ _ f k (stops_too reason place) more = nowhere
    step-leads _ _ f k (gives_too own t m w is) more = own-leads own _ _ (more t m w is)
    step-leads _ _ f k (goes_too t m w is) more = more t m w is

    items-lead : (items : List PlacedItem) (t : Table) (m w : Mode) → Modes m w
        → Leads (led catalog limit (record { table = t; mode = m }) items) (led catalog limit (record { table = t; mode = w }) (map (placed_by g) items))
    items-lead [] t m w is = somewhere [] t m w is
    items-lead (i ∷ items) t m w is =
        step-leads (mode_step catalog limit t i m) (mode_step catalog limit t (placed_by g i) w) _ _ (mode-steps t m w i is) (λ u n v same. items-lead items u n v same)

    -- items that lead to the top level do so where they stand elsewhere, and no others do
    some-led : (x y : Led) → Some x ≡ Some y → x ≡ y
    some-led x y e = cc e

    none-led : {A : Type 0} (x : Led) → None ≡ Some x → A
    none-led x e = absurd (cc e)

    plain-modes : (m w : Mode) → Modes m w → (m ≡ plain 0 → w ≡ plain 0) × (w ≡ plain 0 → m ≡ plain 0)
    plain-modes _ _ (plainly n) = (λ e. e, λ e. e)
    plain-modes _ _ (declares_on a inside p h is) = (λ e. absurd (cc e), λ e. absurd (cc e))

    leads-there : (x y : Option Led) (mine : List PlacedItem) (t : Table) → Leads x y → x ≡ Some (record { mine = mine; after = at_top t })
        → y ≡ Some (record { mine = map (placed_by g) mine; after = at_top t })
    leads-there _ _ mine t nowhere e = none-led _ e
    leads-there _ _ mine t (somewhere own u m w is) e =
        let same = some-led _ _ e in
        let mode : w ≡ plain 0 = (plain-modes m w is).0 (ap (λ (l : Led). l.after.mode) same) in
        ap₂ (λ (l : List PlacedItem) (v : Table). Some (record { mine = map (placed_by g) l; after = record { table = v; mode = w } })) (ap (λ (l : Led). l.mine) same) (ap (λ (l : Led). l.after.table) same)
        ∙ ap (λ (w : Mode). Some (record { mine = map (placed_by g) mine; after = record { table = t; mode = w } })) mode

    leads-back : (x y : Option Led) (mine : List PlacedItem) (t : Table) → Leads x y → y ≡ Some (record { mine = mine; after = at_top t })
        → (own : List PlacedItem) × (x ≡ Some (record { mine = own; after = at_top t })) × (map (placed_by g) own ≡ mine)
    leads-back _ _ mine t nowhere e = none-led _ e
    leads-back _ _ mine t (somewhere own u m w is) e =
        let same = some-led _ _ e in
        let mode : m ≡ plain 0 = (plain-modes m w is).1 (ap (λ (l : Led). l.after.mode) same) in (
          own,
          ap₂ (λ (v : Table) (m : Mode). Some (record { mine = own; after = record { table = v; mode = m } })) (ap (λ (l : Led). l.after.table) same) mode,
          ap (λ (l : Led). l.mine) same,
        )

-- ---- a reading further on

module _ (far : ℕ) (catalog : List Shared) (limit : ℕ) where
  abbrev on_by : ℕ → ℕ
  on_by place = place + far

  users-step : (x y : Step State) (f k : State → Reading) → Steps on_by x y
      → ((t : Table) (m w : Mode) → Modes on_by m w → k (record { table = t; mode = w }) ≡ further far (f (record { table = t; mode = m }))) → by_step y k ≡ further far (by_step x f)
  users-step _ _ f k ends_too more = refl
  users-step _ _ f k (stops_too reason place) more = refl
  users-step _ _ f k (gives_too own t m w is) more = ap (More (placed_by on_by own)) (more t m w is)
  users-step _ _ f k (goes_too t m w is) more = more t m w is

  users-by : (r : Reading) (t : Table) (m w : Mode) → Modes on_by m w
      → users catalog limit (record { table = t; mode = w }) (further far r) ≡ further far (users catalog limit (record { table = t; mode = m }) r)
  users-by Finished t m w is = refl
  users-by (Stopped reason place) t m w is = refl
  users-by (More i r) t m w is =
      users-step (mode_step catalog limit t i m) (mode_step catalog limit t (placed_by on_by i) w) _ _ (mode-steps on_by catalog limit t m w i is) (λ u n v same. users-by r u n v same)

pub users-hang-on-no-place : UsersHangOnNoPlace
users-hang-on-no-place catalog limit t far rest = users-by far catalog limit rest t (plain 0) (plain 0) (plainly 0)

pub tables-hang-on-no-place : TablesHangOnNoPlace
tables-hang-on-no-place catalog limit items others mine t alike leads =
    let none : ℕ → ℕ = λ place. 0 in
    let there = leads-there none catalog limit _ _ mine t (items-lead none catalog limit items system (plain 0) (plain 0) (plainly 0)) leads in
    let same : led catalog limit at_start (map (placed_by none) others) ≡ Some (record { mine = map (placed_by none) mine; after = at_top t }) =
    ap (led catalog limit at_start) (sym alike) ∙ there in
    let back = leads-back none catalog limit _ _ (map (placed_by none) mine) t (items-lead none catalog limit others system (plain 0) (plain 0) (plainly 0)) same in
    (back.0, back.1, sym back.2)
