-- A declaration is refused for a symbol exactly where some id in it is above the table before it, as far as it is read.
use Rattle.std.proofs.Common.{◌≡◌, ℕ, ◌⊎◌, inl, inr, ◌↔◌, refl, Bool, true, false, ◌&&◌, if◌then◌else◌, List, [], ◌∷◌, ◌++◌, Option, Some, None, Ok, Err, nat_le, ◌+◌, length}
use Rattle.ion_meter.specs.declared.fault.Reason.TheVariants.{BadSymbol, BadTable, SymbolLimit}
use Rattle.ion_value.specs.declared.ion_type.Kind.{Kind}
use Rattle.ion_value.specs.declared.ion_type.Kind.TheVariants as kind
use Rattle.ion_value.specs.Value as value
use Rattle.ion_value.specs.Value.{Symbol, SymbolAt, Scalar, Head, Value, Members, scalar, container, nothing, member, PlacedItem, bare_item, value_items, member_items}
use Rattle.ion_symbols.specs.declared.known_text.Word.{Word}
use Rattle.ion_symbols.specs.declared.known_text.Word.TheVariants as word
use Rattle.ion_symbols.specs.Table as slot
use Rattle.ion_symbols.specs.Table.{Slot, Import, Table, slot_of, most_slots, text_at, table_cost, count_of, text_length}
use Rattle.ion_symbols.specs.Declaration.{Ground, Held, Pending, nothing_yet, add_cost, field_met, part_met, with_slot, with_import, import_ended, import_of, is_ignored, nameless, given_back, new_entry, word_in, field_word, place_in, versioned, cut_to}
use Rattle.ion_symbols.specs.Users.{Checked, fine, bad, or_else, slot_checked, symbol_checked, at_checked, field_checked, annotations_checked, scalar_checked, head_checked, checked}
use Rattle.ion_symbols.specs.Tree.{and_then, if_fine, items_checked, head_of, first_of, content_of, check_ignored, element, element_held, elements_held, part_held, parts_held, import_held, imports_held, keeping_by, field_held, fields_held, version_of, max_of}
use Rattle.ion_symbols.specs.Laws.{IsAbove, SymbolAbove, FieldAbove, AnyAbove, ScalarAbove, ValueAbove, SomeAbove}

-- ---- a check tells whether an id is above

abbrev CheckTold : Type 0 → Checked → Type 0
CheckTold A fine = A → ⊥
CheckTold A (bad reason place) = A

record CheckTells (A : Type 0) (c : Checked) : Type 0 where
  so : CheckTold A c

check_none : CheckTells ⊥ fine
check_none = record { so = λ h. h }

no_sum : {A B : Type 0} → (A → ⊥) → (B → ⊥) → A ⊎ B → ⊥
no_sum h k (inl a) = h a
no_sum h k (inr b) = k b

else_tells : {A B : Type 0} (a b : Checked) → CheckTells A a → CheckTells B b → CheckTells (A ⊎ B) (or_else a b)
else_tells fine fine h k = record { so = no_sum h.so k.so }
else_tells fine (bad reason place) h k = record { so = inr k.so }
else_tells (bad reason place) b h k = record { so = inl h.so }

check_same : {A B : Type 0} (c : Checked) → (A → B) → (B → A) → CheckTells A c → CheckTells B c
check_same fine f g h = record { so = λ b. h.so (g b) }
check_same (bad reason place) f g h = record { so = f h.so }

slot_tells : (place : ℕ) (s : Slot) → CheckTells (IsAbove s) (slot_checked false place s)
slot_tells place slot.above = record { so = tt }
slot_tells place slot.gap = check_none
slot_tells place slot.unknown = check_none
slot_tells place (slot.known t) = check_none

symbol_tells : (t : Table) (place : ℕ) (s : Symbol) → CheckTells (SymbolAbove t s) (symbol_checked t false place s)
symbol_tells t place (value.Text bytes) = check_none
symbol_tells t place (value.Id id) = slot_tells place (slot_of t id)

field_tells : (t : Table) (f : Option SymbolAt) → CheckTells (FieldAbove t f) (field_checked t false f)
field_tells t None = check_none
field_tells t (Some s) = symbol_tells t s.place s.symbol

annotations_tell : (t : Table) (annotations : List SymbolAt) → CheckTells (AnyAbove t annotations) (annotations_checked t false annotations)
annotations_tell t [] = check_none
annotations_tell t (s ∷ ss) = else_tells (at_checked t false s) (annotations_checked t false ss) (symbol_tells t s.place s.symbol) (annotations_tell t ss)

scalar_tells : (t : Table) (body : Scalar SymbolAt) → CheckTells (ScalarAbove t body) (scalar_checked t false body)
scalar_tells t (value.symbol s) = symbol_tells t s.place s.symbol
scalar_tells t body = check_none

-- the ids of a value's first item, and those after it
abbrev HeadAbove : Table → Value SymbolAt ℕ → Type 0
HeadAbove t (scalar body) = ScalarAbove t body
HeadAbove t (container k members last) = ⊥

abbrev ContentAbove : Table → Value SymbolAt ℕ → Type 0
ContentAbove t (scalar body) = ⊥
ContentAbove t (container k members last) = SomeAbove t members

abbrev FirstAbove : Table → Option SymbolAt → List SymbolAt → Value SymbolAt ℕ → Type 0
FirstAbove t field annotations x = FieldAbove t field ⊎ (AnyAbove t annotations ⊎ HeadAbove t x)

head_tells : (t : Table) (x : Value SymbolAt ℕ) → CheckTells (HeadAbove t x) (head_checked t false (head_of x))
head_tells t (scalar body) = scalar_tells t body
head_tells t (container k members last) = check_none

first_tells : (t : Table) (top : ℕ) (field : Option SymbolAt) (annotations : List SymbolAt) (place : ℕ) (x : Value SymbolAt ℕ)
    → CheckTells (FirstAbove t field annotations x) (checked t false (first_of top field annotations place x))
first_tells t top field annotations place x =
    else_tells (field_checked t false field) (or_else (annotations_checked t false annotations) (head_checked t false (head_of x))) (field_tells t field)
    (else_tells (annotations_checked t false annotations) (head_checked t false (head_of x)) (annotations_tell t annotations) (head_tells t x))

told : {A : Type 0} (c : Checked) → CheckTells A c → (c ≡ fine) ↔ (A → ⊥)
told fine h = (λ e. h.so, λ no. refl)
told (bad reason place) h = (λ e. absurd (cc e), λ no. absurd (no h.so))

-- the first item of a declaration
pub begins_fine : (t : Table) (top : ℕ) (annotations : List SymbolAt) (place : ℕ) (k : Kind) (members : Members SymbolAt ℕ) (last : ℕ)
    → (checked t false (first_of top None annotations place (container k members last)) ≡ fine) ↔ (AnyAbove t annotations → ⊥)
begins_fine t top annotations place k members last =
    let c : Checked = checked t false (first_of top None annotations place (container k members last)) in
    told c
    (check_same c (λ h. elim h [ inl a ↦ absurd a | inr b ↦ elim b [ inl h ↦ h | inr d ↦ absurd d ] ]) (λ h. inr (inl h))
    (first_tells t top None annotations place (container k members last)))

-- a value is its first item and its content
value_parts : (t : Table) (x : Value SymbolAt ℕ) → HeadAbove t x ⊎ ContentAbove t x → ValueAbove t x
value_parts t (scalar body) (inl h) = h
value_parts t (scalar body) (inr h) = absurd h
value_parts t (container k members last) (inl h) = absurd h
value_parts t (container k members last) (inr h) = h

value_part : (t : Table) (x : Value SymbolAt ℕ) → ValueAbove t x → HeadAbove t x ⊎ ContentAbove t x
value_part t (scalar body) h = inl h
value_part t (container k members last) h = inr h

-- a member more
abbrev OneMore : Table → Members SymbolAt ℕ → Option SymbolAt → List SymbolAt → Value SymbolAt ℕ → Type 0
OneMore t before field annotations x = SomeAbove t before ⊎ (FirstAbove t field annotations x ⊎ ContentAbove t x)

more_in : (t : Table) (before : Members SymbolAt ℕ) (field : Option SymbolAt) (annotations : List SymbolAt) (place : ℕ) (x : Value SymbolAt ℕ)
    → OneMore t before field annotations x → SomeAbove t (member before field annotations place x)
more_in t before field annotations place x (inl h) = inl h
more_in t before field annotations place x (inr (inl (inl h))) = inr (inl h)
more_in t before field annotations place x (inr (inl (inr (inl h)))) = inr (inr (inl h))
more_in t before field annotations place x (inr (inl (inr (inr h)))) = inr (inr (inr (value_parts t x (inl h))))
more_in t before field annotations place x (inr (inr h)) = inr (inr (inr (value_parts t x (inr h))))

in_more : (t : Table) (before : Members SymbolAt ℕ) (field : Option SymbolAt) (annotations : List SymbolAt) (place : ℕ) (x : Value SymbolAt ℕ)
    → SomeAbove t (member before field annotations place x) → OneMore t before field annotations x
in_more t before field annotations place x (inl h) = inl h
in_more t before field annotations place x (inr (inl h)) = inr (inl (inl h))
in_more t before field annotations place x (inr (inr (inl h))) = inr (inl (inr (inl h)))
in_more t before field annotations place x (inr (inr (inr h))) =
    elim (value_part t x h) [ inl a ↦ inr (inl (inr (inr a))) | inr b ↦ inr (inr b) ]

-- ---- the symbols of what is ignored

else_twice : (a b c : Checked) → or_else (or_else a b) c ≡ or_else a (or_else b c)
else_twice fine b c = refl
else_twice (bad reason place) b c = refl

items_checked-append : (t : Table) (is js : List PlacedItem) → items_checked t (is ++ js) ≡ or_else (items_checked t is) (items_checked t js)
items_checked-append t [] js = refl
items_checked-append t (i ∷ is) js = rw (items_checked-append t is js, else_twice (checked t false i) (items_checked t is) (items_checked t js)) refl

-- the members of a container and its end
content_by : (t : Table) (top : ℕ) (k : Kind) (members : Members SymbolAt ℕ) (last : ℕ)
    → CheckTells (SomeAbove t members) (items_checked t (member_items top members))
    → CheckTells (SomeAbove t members) (items_checked t (content_of top (container k members last)))
content_by t top k members last c =
    rw (items_checked-append t (member_items top members) (bare_item value.end last top ∷ []))
    (check_same (or_else (items_checked t (member_items top members)) fine) (λ h. elim h [ inl a ↦ a | inr b ↦ absurd b ]) (λ h. inl h)
    (else_tells (items_checked t (member_items top members)) fine c check_none))

mutual
  members_tell : (t : Table) (top : ℕ) (members : Members SymbolAt ℕ) → CheckTells (SomeAbove t members) (items_checked t (member_items top members))
  members_tell t top nothing = check_none
  members_tell t top (member before field annotations place x) =
      rw (items_checked-append t (member_items top before) (value_items top field annotations place x))
      (check_same (or_else (items_checked t (member_items top before)) (items_checked t (value_items top field annotations place x)))
      (more_in t before field annotations place x) (in_more t before field annotations place x)
      (else_tells (items_checked t (member_items top before)) (items_checked t (value_items top field annotations place x)) (members_tell t top before)
      (one_value_tells t top field annotations place x)))

  one_value_tells : (t : Table) (top : ℕ) (field : Option SymbolAt) (annotations : List SymbolAt) (place : ℕ) (x : Value SymbolAt ℕ)
      → CheckTells (FirstAbove t field annotations x ⊎ ContentAbove t x) (items_checked t (value_items top field annotations place x))
  one_value_tells t top field annotations place (scalar body) =
      else_tells (checked t false (first_of top field annotations place (scalar body))) fine (first_tells t top field annotations place (scalar body)) check_none
  one_value_tells t top field annotations place (container k members last) =
      else_tells (checked t false (first_of top field annotations place (container k members last))) (items_checked t (content_of top (container k members last)))
      (first_tells t top field annotations place (container k members last)) (content_by t top k members last (members_tell t top members))

content_tells : (t : Table) (top : ℕ) (x : Value SymbolAt ℕ) → CheckTells (ContentAbove t x) (items_checked t (content_of top x))
content_tells t top (scalar body) = check_none
content_tells t top (container k members last) = content_by t top k members last (members_tell t top members)

-- ---- a pending table tells it too

abbrev HeldTells : Type 0 → Held → Type 0
HeldTells A (Ok p) = A → ⊥
HeldTells A (Err why) = why.0 ≡ BadSymbol → A

pub record Tells (A : Type 0) (h : Held) : Type 0 where
  pub so : HeldTells A h

tells_then : {A B : Type 0} (h : Held) (later : Pending → Held) → Tells A h → ((p : Pending) → Tells B (later p)) → Tells (A ⊎ B) (and_then h later)
tells_then {A} {B} (Ok p) later c next = by_later (later p) (next p)
  where
    by_later : (k : Held) → Tells B k → Tells (A ⊎ B) k
    by_later (Ok q) d = record { so = no_sum c.so d.so }
    by_later (Err why) d = record { so = λ e. inr (d.so e) }
tells_then (Err why) later c next = record { so = λ e. inl (c.so e) }

tells_same : {A B : Type 0} (h : Held) → (A → B) → (B → A) → Tells A h → Tells B h
tells_same (Ok p) f g c = record { so = λ b. c.so (g b) }
tells_same (Err why) f g c = record { so = λ e. f (c.so e) }

tells_fine : {A B : Type 0} (c : Checked) (h : Held) → CheckTells A c → Tells B h → Tells (A ⊎ B) (if_fine c h)
tells_fine fine (Ok p) k d = record { so = no_sum k.so d.so }
tells_fine fine (Err why) k d = record { so = λ e. inr (d.so e) }
tells_fine (bad reason place) h k d = record { so = λ e. inl k.so }

-- what looks at no symbols
abbrev Quiet : Held → Type 0
Quiet h = Tells ⊥ h

quiet_ok : (p : Pending) → Quiet (Ok p)
quiet_ok p = record { so = λ h. h }

quiet_test : (b : Bool) (p : Pending) (place : ℕ) → Quiet (if b then Ok p else Err (SymbolLimit, place))
quiet_test true p place = quiet_ok p
quiet_test false p place = record { so = λ e. let same : SymbolLimit ≡ BadSymbol = e in absurd (cc same) }

quiet_cost : (limit place cost count : ℕ) (p : Pending) → Quiet (add_cost limit place cost count p)
quiet_cost limit place cost count p =
    quiet_test (nat_le (p.cost + cost) limit && nat_le (p.count + count) most_slots) (record p { cost = p.cost + cost; count = p.count + count }) place

quiet_once : (b : Bool) (p : Pending) (place : ℕ) → Quiet (if b then Err (BadTable, place) else Ok p)
quiet_once true p place = record { so = λ e. let same : BadTable ≡ BadSymbol = e in absurd (cc same) }
quiet_once false p place = quiet_ok p

quiet_field : (place : ℕ) (w : Word) (p : Pending) → Quiet (field_met place w p)
quiet_field place word.Imports p = quiet_once p.has_imports (record p { has_imports = true }) place
quiet_field place word.Symbols p = quiet_once p.has_symbols (record p { has_symbols = true }) place
quiet_field place w p = quiet_ok p

quiet_part : (place : ℕ) (w : Word) (p : Pending) → Quiet (part_met place w p)
quiet_part place word.Name p = quiet_once p.entry.has_name (record p { entry = record p.entry { has_name = true } }) place
quiet_part place word.Version p = quiet_once p.entry.has_version (record p { entry = record p.entry { has_version = true } }) place
quiet_part place word.MaxId p = quiet_once p.entry.has_max (record p { entry = record p.entry { has_max = true } }) place
quiet_part place w p = quiet_ok p

quiet_with : (g : Ground) (p : Pending) (o : Option Import) → Quiet (with_import g p o)
quiet_with g p None = record { so = λ e. let same : BadTable ≡ BadSymbol = e in absurd (cc same) }
quiet_with g p (Some i) = quiet_cost g.limit p.entry.place 32 i.count (nameless (record p { imports = p.imports ++ i ∷ [] }))

quiet_ended : (g : Ground) (p : Pending) → Quiet (import_ended g p)
quiet_ended g p = by_name (is_ignored p.entry.name)
  where
    by_name : (b : Bool)
        → Quiet (if b then Ok (nameless (given_back p)) else with_import g (given_back p) (import_of g.catalog p.entry.name p.entry.version p.entry.max_id))
    by_name true = quiet_ok (nameless (given_back p))
    by_name false = quiet_with g (given_back p) (import_of g.catalog p.entry.name p.entry.version p.entry.max_id)

-- ---- the members of a declaration

ignored_tells : (t : Table) (top : ℕ) (x : Value SymbolAt ℕ) (p : Pending) → Tells (ContentAbove t x) (check_ignored t top x p)
ignored_tells t top x p =
    tells_same (check_ignored t top x p) (λ h. elim h [ inl a ↦ a | inr b ↦ absurd b ]) (λ h. inl h)
    (tells_fine {B = ⊥} (items_checked t (content_of top x)) (Ok p) (content_tells t top x) (quiet_ok p))

-- something quiet before
quiet_then : {A : Type 0} (h : Held) (later : Pending → Held) → Quiet h → ((p : Pending) → Tells A (later p)) → Tells A (and_then h later)
quiet_then h later c next =
    tells_same (and_then h later) (λ k. elim k [ inl a ↦ absurd a | inr b ↦ b ]) (λ k. inr k) (tells_then h later c next)

-- and something quiet after
then_quiet : {A : Type 0} (h : Held) (later : Pending → Held) → Tells A h → ((p : Pending) → Quiet (later p)) → Tells A (and_then h later)
then_quiet h later c next =
    tells_same (and_then h later) (λ k. elim k [ inl a ↦ a | inr b ↦ absurd b ]) (λ k. inl k) (tells_then h later c next)

-- a member more, after its check
member_tells : (t : Table) (top : ℕ) (before : Members SymbolAt ℕ) (field : Option SymbolAt) (annotations : List SymbolAt) (place : ℕ) (x : Value SymbolAt ℕ)
    (h : Held) (later : Pending → Held)
    → Tells (SomeAbove t before) h → ((q : Pending) → Tells (ContentAbove t x) (later q))
    → Tells (SomeAbove t (member before field annotations place x)) (and_then h (λ q. if_fine (checked t false (first_of top field annotations place x)) (later q)))
member_tells t top before field annotations place x h later c next =
    tells_same (and_then h (λ q. if_fine (checked t false (first_of top field annotations place x)) (later q)))
    (more_in t before field annotations place x) (in_more t before field annotations place x)
    (tells_then h (λ q. if_fine (checked t false (first_of top field annotations place x)) (later q)) c
    (λ q. tells_fine (checked t false (first_of top field annotations place x)) (later q) (first_tells t top field annotations place x) (next q)))

elements_tell : (g : Ground) (top : ℕ) (members : Members SymbolAt ℕ) (p : Pending) → Tells (SomeAbove g.old members) (elements_held g top members p)
elements_tell g top nothing p = quiet_ok p
elements_tell g top (member before field annotations place x) p =
    member_tells g.old top before field annotations place x (elements_held g top before p) (λ q. element_held g top place x q) (elements_tell g top before p)
    (λ q. quiet_then (with_slot g place (element x) q) (λ r. check_ignored g.old top x r)
    (quiet_cost g.limit place (16 + text_length (element x)) 1 (record q { locals = q.locals ++ element x ∷ [] })) (λ r. ignored_tells g.old top x r))

part_tells : (g : Ground) (top place : ℕ) (w : Word) (x : Value SymbolAt ℕ) (p : Pending) → Tells (ContentAbove g.old x) (part_held g top place w x p)
part_tells g top place word.Name (scalar (value.string t)) p = quiet_cost g.limit place (length t) 0 (record p { entry = record p.entry { name = t } })
part_tells g top place word.Version x p = ignored_tells g.old top x (versioned (version_of (Some x)) p)
part_tells g top place word.MaxId x p = ignored_tells g.old top x (cut_to (max_of (Some x)) p)
part_tells g top place w x p = ignored_tells g.old top x p

parts_tell : (g : Ground) (top : ℕ) (members : Members SymbolAt ℕ) (p : Pending) → Tells (SomeAbove g.old members) (parts_held g top members p)
parts_tell g top nothing p = quiet_ok p
parts_tell g top (member before field annotations place x) p =
    let w : Word = field_word (text_at g.old) field in
    member_tells g.old top before field annotations place x (parts_held g top before p)
    (λ q. and_then (part_met (place_in field) w q) (λ r. part_held g top place w x r)) (parts_tell g top before p)
    (λ q. quiet_then (part_met (place_in field) w q) (λ r. part_held g top place w x r) (quiet_part (place_in field) w q) (λ r. part_tells g top place w x r))

import_tells : (g : Ground) (top place : ℕ) (x : Value SymbolAt ℕ) (p : Pending) → Tells (ContentAbove g.old x) (import_held g top place x p)
import_tells g top place (container kind.Struct members last) p =
    then_quiet (parts_held g top members (record p { entry = new_entry place })) (λ q. import_ended g q)
    (parts_tell g top members (record p { entry = new_entry place })) (quiet_ended g)
import_tells g top place x p = ignored_tells g.old top x p

imports_tell : (g : Ground) (top : ℕ) (members : Members SymbolAt ℕ) (p : Pending) → Tells (SomeAbove g.old members) (imports_held g top members p)
imports_tell g top nothing p = quiet_ok p
imports_tell g top (member before field annotations place x) p =
    member_tells g.old top before field annotations place x (imports_held g top before p) (λ q. import_held g top place x q) (imports_tell g top before p)
    (λ q. import_tells g top place x q)

keeping_tells : (g : Ground) (place : ℕ) (w : Word) (p : Pending) → Quiet (keeping_by g place w p)
keeping_tells g place word.Declaration p = quiet_cost g.limit place (table_cost g.old) (count_of g.old) (record p { keeps = true })
keeping_tells g place w p = quiet_ok p

field_tells_held : (g : Ground) (top place : ℕ) (w : Word) (x : Value SymbolAt ℕ) (p : Pending) → Tells (ContentAbove g.old x) (field_held g top place w x p)
field_tells_held g top place word.Imports (container kind.List members last) p = imports_tell g top members p
field_tells_held g top place word.Imports (scalar (value.symbol s)) p = keeping_tells g place (word_in (text_at g.old) s.symbol) p
field_tells_held g top place word.Symbols (container kind.List members last) p = elements_tell g top members p
field_tells_held g top place w x p = ignored_tells g.old top x p

-- a declaration
pub fields_tell : (g : Ground) (top : ℕ) (members : Members SymbolAt ℕ) → Tells (SomeAbove g.old members) (fields_held g top members nothing_yet)
fields_tell g top nothing = quiet_ok nothing_yet
fields_tell g top (member before field annotations place x) =
    let w : Word = field_word (text_at g.old) field in
    member_tells g.old top before field annotations place x (fields_held g top before nothing_yet)
    (λ q. and_then (field_met (place_in field) w q) (λ r. field_held g top place w x r)) (fields_tell g top before)
    (λ q. quiet_then (field_met (place_in field) w q) (λ r. field_held g top place w x r) (quiet_field (place_in field) w q)
    (λ r. field_tells_held g top place w x r))
