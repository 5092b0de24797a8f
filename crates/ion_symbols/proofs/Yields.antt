-- What comes of reading the members of a declaration: a fact of the pending table, or of the reason why it is refused.
use Rattle.std.proofs.Common.{◌≡◌, ℕ, ◌+◌, ◌⊎◌, inl, inr, refl, Bool, true, false, ◌&&◌, if◌then◌else◌, List, [], ◌∷◌, Option, Some, None, Ok, Err, nat_le}
use Rattle.ion_meter.specs.declared.fault.Reason.{Reason}
use Rattle.ion_meter.specs.declared.fault.Reason.TheVariants.{BadSymbol, BadTable, SymbolLimit}
use Rattle.ion_value.specs.Value as value
use Rattle.ion_value.specs.Value.{Symbol, SymbolAt, Scalar, Head, Value, PlacedItem}
use Rattle.ion_symbols.specs.Table as slot
use Rattle.ion_symbols.specs.Table.{Slot, Table, slot_of, most_slots}
use Rattle.ion_symbols.specs.Declaration.{Held, Pending, add_cost}
use Rattle.ion_symbols.specs.Users.{Checked, fine, bad, or_else, slot_checked, symbol_checked, at_checked, field_checked, annotations_checked, scalar_checked, head_checked, checked}
use Rattle.ion_symbols.specs.Tree.{and_then, if_fine, items_checked, content_of, check_ignored}

-- a symbol id above the table, a limit, or a fault of the declaration itself
abbrev pub Why : Type 0 → Reason → Type 0
Why F reason = (reason ≡ BadSymbol) ⊎ ((reason ≡ SymbolLimit) ⊎ ((reason ≡ BadTable) × F))

-- where this is the pending table, and where a fault
abbrev YieldsTo : (Pending → Type 0) → Type 0 → Held → Type 0
YieldsTo P F (Ok p) = P p
YieldsTo P F (Err why) = Why F why.0

-- the pending table is such a one, or it is refused, for a fault of this kind if not for a symbol or a limit
pub record Yields (P : Pending → Type 0) (F : Type 0) (h : Held) : Type 0 where
  pub so : YieldsTo P F h

-- a pending table that is such a one
pub yields_ok : {P : Pending → Type 0} {F : Type 0} {p : Pending} → P p → Yields P F (Ok p)
yields_ok h = record { so = h }

-- a fault of its own
pub yields_fault : {P : Pending → Type 0} {F : Type 0} (place : ℕ) → F → Yields P F (Err (BadTable, place))
yields_fault place f = record { so = inr (inr (refl, f)) }

-- a fault of a part is one of the whole
pub why_more : {F G : Type 0} → (F → G) → (reason : Reason) → Why F reason → Why G reason
why_more more reason (inl e) = inl e
why_more more reason (inr (inl e)) = inr (inl e)
why_more more reason (inr (inr w)) = inr (inr (w.0, more w.1))

-- one step after another
pub yields_then : {P R : Pending → Type 0} {F G : Type 0} {h : Held} {later : Pending → Held}
    → Yields P F h → (F → G) → ((p : Pending) → P p → Yields R G (later p)) → Yields R G (and_then h later)
yields_then {h = Ok p} c fault next = next p c.so
yields_then {h = Err why} c fault next = record { so = why_more fault why.0 c.so }

-- what follows from it
pub yields_more : {P R : Pending → Type 0} {F G : Type 0} {h : Held} → Yields P F h → (F → G) → ((p : Pending) → P p → R p) → Yields R G h
yields_more {h = Ok p} c fault fact = record { so = fact p c.so }
yields_more {h = Err why} c fault fact = record { so = why_more fault why.0 c.so }

-- ---- symbols alone are never at fault but for an id above the table

-- no fault, or an id above the table
abbrev pub IsSymbolFault : Checked → Type 0
IsSymbolFault fine = Unit {0}
IsSymbolFault (bad reason place) = reason ≡ BadSymbol

-- one check after another
else_fault : (a b : Checked) → IsSymbolFault a → IsSymbolFault b → IsSymbolFault (or_else a b)
else_fault fine b h k = k
else_fault (bad reason place) b h k = h

-- a slot, and a symbol by its slot
slot_fault : (place : ℕ) (s : Slot) → IsSymbolFault (slot_checked false place s)
slot_fault place slot.above = refl
slot_fault place slot.gap = tt
slot_fault place slot.unknown = tt
slot_fault place (slot.known t) = tt

symbol_fault : (t : Table) (place : ℕ) (s : Symbol) → IsSymbolFault (symbol_checked t false place s)
symbol_fault t place (value.Text bytes) = tt
symbol_fault t place (value.Id id) = slot_fault place (slot_of t id)

-- the field, the annotations and the head of an item
field_fault : (t : Table) (f : Option SymbolAt) → IsSymbolFault (field_checked t false f)
field_fault t None = tt
field_fault t (Some s) = symbol_fault t s.place s.symbol

annotations_fault : (t : Table) (annotations : List SymbolAt) → IsSymbolFault (annotations_checked t false annotations)
annotations_fault t [] = tt
annotations_fault t (s ∷ ss) = else_fault (at_checked t false s) (annotations_checked t false ss) (symbol_fault t s.place s.symbol) (annotations_fault t ss)

scalar_fault : (t : Table) (body : Scalar SymbolAt) → IsSymbolFault (scalar_checked t false body)
scalar_fault t (value.null type) = tt
scalar_fault t (value.bool truth) = tt
scalar_fault t (value.int number) = tt
scalar_fault t (value.float number) = tt
scalar_fault t (value.decimal number) = tt
scalar_fault t (value.timestamp moment) = tt
scalar_fault t (value.symbol s) = symbol_fault t s.place s.symbol
scalar_fault t (value.string bytes) = tt
scalar_fault t (value.clob bytes) = tt
scalar_fault t (value.blob bytes) = tt

head_fault : (t : Table) (head : Head SymbolAt) → IsSymbolFault (head_checked t false head)
head_fault t (value.whole body) = scalar_fault t body
head_fault t (value.begin kind) = tt
head_fault t value.end = tt
head_fault t value.marker = tt

-- a whole item, and items
pub item_fault : (t : Table) (i : PlacedItem) → IsSymbolFault (checked t false i)
item_fault t i =
    else_fault (field_checked t false i.field) (or_else (annotations_checked t false i.annotations) (head_checked t false i.head)) (field_fault t i.field)
    (else_fault (annotations_checked t false i.annotations) (head_checked t false i.head) (annotations_fault t i.annotations) (head_fault t i.head))

pub items_fault : (t : Table) (is : List PlacedItem) → IsSymbolFault (items_checked t is)
items_fault t [] = tt
items_fault t (i ∷ is) = else_fault (checked t false i) (items_checked t is) (item_fault t i) (items_fault t is)

-- a check before what it lets through
by_fine : {P : Pending → Type 0} {F : Type 0} {h : Held} (c : Checked) → IsSymbolFault c → Yields P F h → Yields P F (if_fine c h)
by_fine fine k c = c
by_fine (bad reason place) k c = record { so = inl k }

-- the symbols of an item first
pub yields_fine : {P : Pending → Type 0} {F : Type 0} {h : Held} (t : Table) (i : PlacedItem) → Yields P F h → Yields P F (if_fine (checked t false i) h)
yields_fine t i c = by_fine (checked t false i) (item_fault t i) c

-- what is ignored changes nothing
pub yields_ignored : {P : Pending → Type 0} {F : Type 0} (t : Table) (top : ℕ) (x : Value SymbolAt ℕ) (p : Pending) → P p → Yields P F (check_ignored t top x p)
yields_ignored t top x p h = by_fine (items_checked t (content_of top x)) (items_fault t (content_of top x)) (yields_ok h)

-- ---- what is counted, and what stands once

-- the limit is kept, or it isn't
by_counted : {P : Pending → Type 0} {F : Type 0} (place : ℕ) (p : Pending) (b : Bool) → P p → Yields P F (if b then Ok p else Err (SymbolLimit, place))
by_counted place p true h = record { so = h }
by_counted place p false h = record { so = inr (inl refl) }

-- what is counted changes the counts alone
pub yields_counted : {P : Pending → Type 0} {F : Type 0} (limit place cost count : ℕ) (p : Pending)
    → ((c n : ℕ) → P (record p { cost = c; count = n })) → Yields P F (add_cost limit place cost count p)
yields_counted limit place cost count p h =
    by_counted place (record p { cost = p.cost + cost; count = p.count + count }) (nat_le (p.cost + cost) limit && nat_le (p.count + count) most_slots)
    (h (p.cost + cost) (p.count + count))

-- what stands twice is a fault
pub yields_once : {P : Pending → Type 0} {F : Type 0} (place : ℕ) (b : Bool) (p : Pending) (later : Pending → Held)
    → (b ≡ true → F) → (b ≡ false → Yields P F (later p)) → Yields P F (and_then (if b then Err (BadTable, place) else Ok p) later)
yields_once place true p later twice once = yields_fault place (twice refl)
yields_once place false p later twice once = once refl
