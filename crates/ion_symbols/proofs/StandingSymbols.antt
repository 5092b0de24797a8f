-- No item of a value is at fault exactly where each of its symbols stands in the table.
use Rattle.std.proofs.Common.{◌≡◌, ℕ, true, List, [], ◌∷◌, Option, Some, None, refl}
use Rattle.std.specs.Prelude.{◌↔◌, ⊤}
use Rattle.std.specs.List.{AllByRecursion}
use Rattle.ion_value.specs.Value as value
use Rattle.ion_value.specs.Value.{Symbol, SymbolAt, Scalar, Value, Members, scalar, container, nothing, member, PlacedItem, value_items, member_items, bare_item}
use Rattle.ion_symbols.specs.Table as slot
use Rattle.ion_symbols.specs.Table.{Slot, Table, slot_of}
use Rattle.ion_symbols.specs.Users.{Checked, fine, bad, or_else, slot_checked, symbol_checked, at_checked, field_checked, annotations_checked, scalar_checked, head_checked, checked}
use Rattle.ion_symbols.specs.Tree.{first_of, head_of}
use Rattle.ion_symbols.specs.Laws.{IsSlot, SymbolStands, Stands, FieldStands, ScalarStands, ValueStands, MembersStand}
use Rattle.ion_symbols.proofs.AllAppended.{AllByRecursion-append, AllByRecursion-before, AllByRecursion-after}

-- an item is not at fault as one of a user value
abbrev pub IsFine : Table → PlacedItem → Type 0
IsFine t i = checked t true i ≡ fine

-- no item is
abbrev pub AllFine : Table → List PlacedItem → Type 0
AllFine t is = AllByRecursion (IsFine t) is

-- one check after another
pub or_else-fine : (a b : Checked) → (or_else a b ≡ fine) ↔ ((a ≡ fine) × (b ≡ fine))
or_else-fine fine b = (λ e. (refl, e), λ h. h.1)
or_else-fine (bad reason place) b = (λ e. absurd (cc e), λ h. absurd (cc h.0))

slot-stands : (place : ℕ) (s : Slot) → (slot_checked true place s ≡ fine) ↔ IsSlot s
slot-stands place slot.above = (λ e. absurd (cc e), λ h. absurd h)
slot-stands place slot.gap = (λ e. absurd (cc e), λ h. absurd h)
slot-stands place slot.unknown = (λ e. tt, λ h. refl)
slot-stands place (slot.known t) = (λ e. tt, λ h. refl)

symbol-stands : (t : Table) (place : ℕ) (s : Symbol) → (symbol_checked t true place s ≡ fine) ↔ SymbolStands t s
symbol-stands t place (value.Text bytes) = (λ e. tt, λ h. refl)
symbol-stands t place (value.Id id) = slot-stands place (slot_of t id)

field-stands : (t : Table) (f : Option SymbolAt) → (field_checked t true f ≡ fine) ↔ FieldStands t f
field-stands t None = (λ e. tt, λ h. refl)
field-stands t (Some s) = symbol-stands t s.place s.symbol

annotations-stand : (t : Table) (annotations : List SymbolAt)
    → (annotations_checked t true annotations ≡ fine) ↔ AllByRecursion (Stands t) annotations
annotations-stand t [] = (λ e. tt, λ h. refl)
annotations-stand t (s ∷ ss) =
    let both = or_else-fine (at_checked t true s) (annotations_checked t true ss) in
    let one = symbol-stands t s.place s.symbol in
    let more = annotations-stand t ss in
    (λ e. (one.0 (both.0 e).0, more.0 (both.0 e).1), λ h. both.1 (one.1 h.0, more.1 h.1))

-- the symbol that a value is
abbrev HeadStands : Table → Value SymbolAt ℕ → Type 0
HeadStands t (scalar body) = ScalarStands t body
HeadStands t (container k members last) = ⊤

scalar-stands : (t : Table) (body : Scalar SymbolAt) → (scalar_checked t true body ≡ fine) ↔ ScalarStands t body
scalar-stands t (value.symbol s) = symbol-stands t s.place s.symbol
scalar-stands t body = (λ e. tt, λ h. refl)

head-stands : (t : Table) (x : Value SymbolAt ℕ) → (head_checked t true (head_of x) ≡ fine) ↔ HeadStands t x
head-stands t (scalar body) = scalar-stands t body
head-stands t (container k members last) = (λ e. tt, λ h. refl)

-- the first item of a value has its field, its annotations and its head
first-stands : (t : Table) (top : ℕ) (field : Option SymbolAt) (annotations : List SymbolAt) (place : ℕ) (x : Value SymbolAt ℕ)
    → IsFine t (first_of top field annotations place x)
    ↔ (FieldStands t field × AllByRecursion (Stands t) annotations × HeadStands t x)
first-stands t top field annotations place x =
    let after : Checked = or_else (annotations_checked t true annotations) (head_checked t true (head_of x)) in
    let others = or_else-fine (annotations_checked t true annotations) (head_checked t true (head_of x)) in
    let all = or_else-fine (field_checked t true field) after in
    let f = field-stands t field in
    let a = annotations-stand t annotations in
    let h = head-stands t x in (
      λ e. let two = others.0 (all.0 e).1 in (f.0 (all.0 e).0, a.0 two.0, h.0 two.1),
      λ s. all.1 (f.1 s.0, others.1 (a.1 s.1, h.1 s.2)),
    )

mutual
  pub value-stands : (t : Table) (top : ℕ) (field : Option SymbolAt) (annotations : List SymbolAt) (place : ℕ)
      (x : Value SymbolAt ℕ)
      → AllFine t (value_items top field annotations place x)
      ↔ (FieldStands t field × AllByRecursion (Stands t) annotations × ValueStands t x)
  value-stands t top field annotations place (scalar body) =
      let first = first-stands t top field annotations place (scalar body) in
      (λ h. first.0 h.0, λ s. (first.1 s, tt))
  value-stands t top field annotations place (container k members last) =
      let first = first-stands t top field annotations place (container k members last) in
      let inside = members-stand t top members in
      let all = member_items top members in
      let last_item = bare_item value.end last top ∷ [] in (
        λ h. let s = first.0 h.0 in (s.0, s.1, inside.0 (AllByRecursion-before (IsFine t) all last_item h.1)),
        λ s. (first.1 (s.0, s.1, tt), AllByRecursion-append (IsFine t) all last_item (inside.1 s.2) (refl, tt)),
      )

  members-stand : (t : Table) (top : ℕ) (members : Members SymbolAt ℕ)
      → AllFine t (member_items top members) ↔ MembersStand t members
  members-stand t top nothing = (λ h. tt, λ s. tt)
  members-stand t top (member before field annotations place x) =
      let earlier = members-stand t top before in
      let own = value-stands t top field annotations place x in
      let is = member_items top before in
      let js = value_items top field annotations place x in (
        λ h.
            let s = own.0 (AllByRecursion-after (IsFine t) is js h) in
            (earlier.0 (AllByRecursion-before (IsFine t) is js h), s.0, s.1, s.2),
        λ s. AllByRecursion-append (IsFine t) is js (earlier.1 s.0) (own.1 (s.1, s.2, s.3)),
      )
