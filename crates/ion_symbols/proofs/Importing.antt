-- The import that a slot stands in.
use Rattle.std.proofs.Common.{◌≡◌, ℕ, zero, suc, ◌+◌, ◌-◌, ◌<◌, ◌≤◌, true, false, nat_lt, if◌then◌else◌, List, [], ◌∷◌, length, slice_get, slice_index_or, Bool, Option, Some, None, MatchOption, refl, ap, sym, subst, ◌∙◌, arith, lt-ltb, le-ltb, ltb-false}
use Rattle.ion_symbols.specs.Kept.{text_in}
use Rattle.ion_symbols.specs.Table.{Slot, Slots, Shared, Import, Table, slot_in, slot_of, text_of_slot, text_at, import_slot, local_slot, import_count, count_of}
use Rattle.ion_symbols.specs.Table as slot
use Rattle.ion_symbols.specs.Present.{Present, Starts, imports_in, kept_table, slots_at}
use Rattle.ion_symbols.specs.declared.symbols.FoundImport.{FoundImport}
use Rattle.ion_symbols.proofs.Listed.{got_at}

-- what stands past the last import
abbrev pub no_import : FoundImport
no_import = record { table = None; start = 0; count = 0 }

abbrev pub start_at : List FoundImport → ℕ → ℕ
start_at fs i = (slice_index_or fs i no_import).start

-- the last import that begins at a place or before ends after it
pub ends_past : (from : ℕ) (fs : List FoundImport) (end i place : ℕ) → Starts from fs end → i < length fs → place < end →
    (suc i < length fs → place < start_at fs (suc i)) → place < start_at fs i + (slice_index_or fs i no_import).count
ends_past from [] end i place h k b n = absurd (omega (arith, k))
ends_past from (f ∷ []) end zero place h k b n = omega (arith, h.0, h.1, b)
ends_past from (f ∷ (g ∷ fs)) end zero place h k b n = let m : place < g.start = n (omega arith) in omega (arith, h.0, h.1.0, m)
ends_past from (f ∷ fs) end (suc i) place h k b n = ends_past (from + f.count) fs end i place h.1 (omega (arith, k)) b (λ u. n (omega (arith, u)))

-- a place is within the import, if there is one
abbrev pub Within : ℕ → Option FoundImport → Type 0
Within place o = MatchOption o ⊥ (λ f. (f.start ≤ place) × (place < f.start + f.count))

-- where the halving ends
pub halved : (fs : List FoundImport) (low high place end : ℕ) → Starts 0 fs end → place < end → low < high → high ≤ length fs → high - low ≤ 1 →
    start_at fs low ≤ place → (high < length fs → place < start_at fs high) → Within place (slice_get fs low)
halved fs low high place end h b o w s begins above =
    let k : low < length fs = omega (arith, o, w) in
    let e : high ≡ suc low = omega (arith, o, s) in
    subst (Within place) (sym (got_at no_import fs low k))
    (begins, ends_past 0 fs end low place h k b (subst (λ n. n < length fs → place < start_at fs n) e above))

-- ---- the slot in it

-- an import begins after those before it
later : (from : ℕ) (fs : List FoundImport) (end i : ℕ) → Starts from fs end → i < length fs → from ≤ start_at fs i
later from [] end i h k = absurd (omega (arith, k))
later from (f ∷ fs) end zero h k = omega (arith, h.0)
later from (f ∷ fs) end (suc i) h k = let r : from + f.count ≤ start_at fs i = later (from + f.count) fs end i h.1 (omega (arith, k)) in omega (arith, r)

-- a place within the first import, and one after it
in_first : (catalog : List Shared) (f : FoundImport) (fs : List FoundImport) (locals : Slots) (n : ℕ) → n < f.count →
    slot_in (imports_in catalog (f ∷ fs)) locals n ≡ import_slot (slice_get (slots_at catalog f.table) n)
in_first catalog f fs locals n h = let e : nat_lt n f.count ≡ true = lt-ltb n f.count h in rw e refl

past_first : (catalog : List Shared) (f : FoundImport) (fs : List FoundImport) (locals : Slots) (n : ℕ) → f.count ≤ n →
    slot_in (imports_in catalog (f ∷ fs)) locals n ≡ slot_in (imports_in catalog fs) locals (n - f.count)
past_first catalog f fs locals n h = let e : nat_lt n f.count ≡ false = le-ltb n f.count h in rw e refl

-- the slot at a place is the one of the import that contains it
pub slot_within : (catalog : List Shared) (locals : Slots) (from : ℕ) (fs : List FoundImport) (end i place : ℕ) → Starts from fs end → i < length fs →
    start_at fs i ≤ place → place < start_at fs i + (slice_index_or fs i no_import).count →
    slot_in (imports_in catalog fs) locals (place - from) ≡ import_slot (slice_get (slots_at catalog (slice_index_or fs i no_import).table) (place - start_at fs i))
slot_within catalog locals from [] end i place h k a b = absurd (omega (arith, k))
slot_within catalog locals from (f ∷ fs) end zero place h k a b =
    let e : place - from ≡ place - f.start = omega (arith, h.0) in
    in_first catalog f fs locals (place - from) (omega (arith, h.0, a, b)) ∙ ap (λ n. import_slot (slice_get (slots_at catalog f.table) n)) e
slot_within catalog locals from (f ∷ fs) end (suc i) place h k a b =
    let l : from + f.count ≤ start_at fs i = later (from + f.count) fs end i h.1 (omega (arith, k)) in
    let e : (place - from) - f.count ≡ place - (from + f.count) = omega arith in
    past_first catalog f fs locals (place - from) (omega (arith, l, a))
    ∙ (ap (slot_in (imports_in catalog fs) locals) e
    ∙ slot_within catalog locals (from + f.count) fs end i place h.1 (omega (arith, k)) a b)

-- what an answer that a slot is within an import says
pub is_import : (fs : List FoundImport) (i place : ℕ) → Within place (slice_get fs i) → i < length fs
is_import [] i place w = absurd w
is_import (f ∷ fs) zero place w = omega arith
is_import (f ∷ fs) (suc i) place w = let r : i < length fs = is_import fs i place w in omega (arith, r)

-- where a place is within an import, it is at its start or after, and before its end
pub within_it : (fs : List FoundImport) (i place : ℕ) → Within place (slice_get fs i) →
    (start_at fs i ≤ place) × (place < start_at fs i + (slice_index_or fs i no_import).count)
within_it fs i place w = subst (Within place) (got_at no_import fs i (is_import fs i place w)) w

-- the slot at a place of the imports
pub imported_slot : (catalog : List Shared) (fs : List FoundImport) (end i place : ℕ) (locals : Slots) → Starts 0 fs end → Within place (slice_get fs i) →
    slot_in (imports_in catalog fs) locals place ≡ import_slot (slice_get (slots_at catalog (slice_index_or fs i no_import).table) (place - start_at fs i))
imported_slot catalog fs end i place locals h w =
    let e : place ≡ place - 0 = omega arith in
    ap (slot_in (imports_in catalog fs) locals) e
    ∙ slot_within catalog locals 0 fs end i place h (is_import fs i place w) (within_it fs i place w).0 (within_it fs i place w).1

-- ---- after the imports

-- imports end after where they begin
ends_after : (from : ℕ) (fs : List FoundImport) (end : ℕ) → Starts from fs end → from ≤ end
ends_after from [] end h = omega (arith, h)
ends_after from (f ∷ fs) end h = let r : from + f.count ≤ end = ends_after (from + f.count) fs end h.1 in omega (arith, r)

-- a slot after imports that begin at some place is a local one
past_all : (catalog : List Shared) (locals : Slots) (from : ℕ) (fs : List FoundImport) (end place : ℕ) → Starts from fs end → end ≤ place →
    slot_in (imports_in catalog fs) locals (place - from) ≡ local_slot (slice_get locals (place - end))
past_all catalog locals from [] end place h b = ap (λ n. local_slot (slice_get locals (place - n))) h
past_all catalog locals from (f ∷ fs) end place h b =
    let l : from + f.count ≤ end = ends_after (from + f.count) fs end h.1 in
    let e : (place - from) - f.count ≡ place - (from + f.count) = omega arith in
    past_first catalog f fs locals (place - from) (omega (arith, l, b))
    ∙ (ap (slot_in (imports_in catalog fs) locals) e ∙ past_all catalog locals (from + f.count) fs end place h.1 b)

-- how many slots the imports have
pub counted_imports : (catalog : List Shared) (from : ℕ) (fs : List FoundImport) (end : ℕ) → Starts from fs end → from + import_count (imports_in catalog fs) ≡ end
counted_imports catalog from [] end h = omega (arith, h)
counted_imports catalog from (f ∷ fs) end h =
    let r : (from + f.count) + import_count (imports_in catalog fs) ≡ end = counted_imports catalog (from + f.count) fs end h.1 in omega (arith, r)

-- a slot after the imports
pub past_imports : (catalog : List Shared) (locals : Slots) (fs : List FoundImport) (end place : ℕ) → Starts 0 fs end → end ≤ place →
    slot_in (imports_in catalog fs) locals place ≡ local_slot (slice_get locals (place - end))
past_imports catalog locals fs end place h b =
    let e : place ≡ place - 0 = omega arith in
    ap (slot_in (imports_in catalog fs) locals) e ∙ past_all catalog locals 0 fs end place h b

-- an id after the system table
pub user_id : (t : Table) (id : ℕ) → 10 ≤ id → slot_of t id ≡ slot_in t.imports t.locals (id - 10)
user_id t id h = let e : nat_lt id 10 ≡ false = le-ltb id 10 h in rw e refl

-- ---- a kept table

-- how many slots it has
pub kept_total : (catalog : List Shared) (fs : List FoundImport) (n : ℕ) (locals : Slots) → Starts 0 fs n →
    n + length locals ≡ count_of (record { imports = imports_in catalog fs; locals = locals })
kept_total catalog fs n locals h = let k : 0 + import_count (imports_in catalog fs) ≡ n = counted_imports catalog 0 fs n h in omega (arith, k)

-- ---- texts of ids

-- the text of a system or local slot, and of one of an import
local_text : (o : Option (Option (List ℕ))) → text_in o ≡ text_of_slot (local_slot o)
local_text None = refl
local_text (Some None) = refl
local_text (Some (Some t)) = refl

import_text : (o : Option (Option (List ℕ))) → text_in o ≡ text_of_slot (import_slot o)
import_text None = refl
import_text (Some None) = refl
import_text (Some (Some t)) = refl

module _ (catalog : List Shared) (fs : List FoundImport) (n : ℕ) (locals : Slots) (now : Present) (h : Starts 0 fs n)
    (v : ◌≡◌ {A = Present} (record { table = kept_table catalog fs locals; catalog = catalog }) now) where
  -- how many slots the imports have
  pub total_imports : import_count now.table.imports ≡ n
  total_imports =
      let k : 0 + import_count (imports_in catalog fs) ≡ n = counted_imports catalog 0 fs n h in
      sym (ap (λ (p : Present). import_count p.table.imports) v) ∙ omega (arith, k)

  -- the text of an id of an import
  pub imported_text : (i id : ℕ) → 10 ≤ id → Within (id - 10) (slice_get fs i)
      → text_in (slice_get (slots_at catalog (slice_index_or fs i no_import).table) ((id - 10) - start_at fs i)) ≡ text_at now.table id
  imported_text i id a w =
      import_text (slice_get (slots_at catalog (slice_index_or fs i no_import).table) ((id - 10) - start_at fs i))
      ∙ (sym (ap text_of_slot (user_id (kept_table catalog fs locals) id a ∙ imported_slot catalog fs n i (id - 10) locals h w))
      ∙ ap (λ (p : Present). text_at p.table id) v)

  -- what an id after the imports is, and its text
  pub local_at : (id : ℕ) → 10 ≤ id → n ≤ id - 10 → local_slot (slice_get locals ((id - 10) - n)) ≡ slot_of now.table id
  local_at id a b =
      sym (user_id (kept_table catalog fs locals) id a ∙ past_imports catalog locals fs n (id - 10) h b) ∙ ap (λ (p : Present). slot_of p.table id) v

  pub local_text_at : (id : ℕ) → 10 + n ≤ id → text_in (slice_get locals (id - (10 + n))) ≡ text_at now.table id
  local_text_at id b =
      let e : id - (10 + n) ≡ (id - 10) - n = omega arith in
      ap (λ k. text_in (slice_get locals k)) e
      ∙ (local_text (slice_get locals ((id - 10) - n)) ∙ ap text_of_slot (local_at id (omega (arith, b)) (omega (arith, b))))

-- ---- slots without a text

-- a system or local slot without one
pub unknown_by : (ss : Slots) (i : ℕ) → i < length ss → text_of_slot (local_slot (slice_get ss i)) ≡ None → slot.unknown ≡ local_slot (slice_get ss i)
unknown_by [] i k e = absurd (omega (arith, k))
unknown_by (None ∷ ss) zero k e = refl
unknown_by (Some t ∷ ss) zero k e = absurd (cc e)
unknown_by (s ∷ ss) (suc i) k e = unknown_by ss i (omega (arith, k)) e

-- a slot of imports without one
gap_by : (o : Option (Option (List ℕ))) → text_of_slot (import_slot o) ≡ None → slot.gap ≡ import_slot o
gap_by None e = refl
gap_by (Some None) e = refl
gap_by (Some (Some t)) e = absurd (cc e)

gap_first : (c : Bool) (o : Option (Option (List ℕ))) (s : Slot) → (c ≡ false → text_of_slot s ≡ None → slot.gap ≡ s)
    → text_of_slot (if c then import_slot o else s) ≡ None → slot.gap ≡ (if c then import_slot o else s)
gap_first true o s more e = gap_by o e
gap_first false o s more e = more refl e

gap_within : (is : List Import) (locals : Slots) (place : ℕ) → place < import_count is → text_of_slot (slot_in is locals place) ≡ None
    → slot.gap ≡ slot_in is locals place
gap_within [] locals place b e = absurd (omega (arith, b))
gap_within (i ∷ is) locals place b e =
    gap_first (nat_lt place i.count) (slice_get i.slots place) (slot_in is locals (place - i.count))
    (λ c d. let l : i.count ≤ place = ltb-false place i.count c in gap_within is locals (place - i.count) (omega (arith, b, l)) d) e

pub gap_at : (t : Table) (id : ℕ) → 10 ≤ id → id - 10 < import_count t.imports → text_at t id ≡ None → slot.gap ≡ slot_of t id
gap_at t id a b e = let u = user_id t id a in gap_within t.imports t.locals (id - 10) b (sym (ap text_of_slot u) ∙ e) ∙ sym u
