-- A pending table that takes the place of the present one, or stands after it.
use Rattle.std.proofs.Common.{◌≡◌, ℕ, ◌+◌, ◌*◌, ◌≤◌, Bool, true, false, ◌++◌, length, Result, Ok, Err, OnOk, OnErr, refl, ap, sym, ◌∙◌, arith, length-append}
use Rattle.std.proofs.lemmas.Bool.{true≢false}
use Rattle.ion_meter.specs.Counts.{Counts, Grows, Shrinks}
use Rattle.ion_meter.specs.Entries.{cost_of}
use Rattle.ion_meter.specs.declared.fault.Fault.{Fault}
use Rattle.ion_value.specs.Shares.{Charges}
use Rattle.ion_symbols.specs.Table.{Slots, Table, slots_cost, table_cost}
use Rattle.ion_symbols.specs.Present.{Present, with_locals}
use Rattle.ion_symbols.specs.Buffer.{IsPending, own_of, if_kept}
use Rattle.ion_symbols.specs.Kept.{IsUndone}
use Rattle.ion_symbols.specs.declared.buffer.SymbolBuffer.{SymbolBuffer}
use Rattle.ion_symbols.proofs.Keeping.{cost_append}

-- ---- what is counted

-- what a kept table adds
kept_counts : (keeps : Bool) (n : ℕ) → keeps ≡ true → if_kept keeps n ≡ n
kept_counts true n e = refl
kept_counts false n e = absurd (true≢false (sym e))

-- what a pending table holds, with the cost of a table that is kept, is within the limit
pub both_within : {A : Type 0} (limit : ℕ) (old : Table) (b : SymbolBuffer A) → IsPending limit old b → b.keeps ≡ true → table_cost old + own_of b ≤ limit
both_within limit old b p k =
    let e : if_kept b.keeps (table_cost old) ≡ table_cost old = kept_counts b.keeps (table_cost old) k in
    omega (arith, e, p.exact, p.cheap)

-- ---- after the present table

-- how many slots there are where all were added, or none
pub added_few : (r : Result Unit Fault) (x y z : Slots) (n most : ℕ) → OnOk r (z ≡ x ++ y) → OnErr r (z ≡ x) → (n + length x) + length y ≤ most →
    n + length z ≤ most
added_few (Ok u) x y z n most p q h = let e : length z ≡ length x + length y = ap length p ∙ length-append x y in omega (arith, e, h)
added_few (Err f) x y z n most p q h = let e : length z ≡ length x = ap length q in omega (arith, e, h)

-- the meter, where all were added
grown_charges : (a n p r s : Counts) (table imports more name limit after : ℕ) → Shrinks a n name → Grows n p more → Shrinks p r imports → Shrinks r s more →
    table + (imports + more + name) ≤ limit → table + (imports + more + name) ≤ a.held → after ≡ table + more →
    Charges a s (table + (imports + more + name)) after (2 * limit)
grown_charges a n p r s table imports more name limit after h k l m w v e = record {
  held = omega (arith, h.held, k.held, l.held, m.held, e);
  share = omega (arith, w, e);
  peak = omega (arith, h.held, h.peak, k.held, k.peak, l.peak, m.peak, w, v);
  rises = omega (arith, h.peak, k.peak, l.peak, m.peak);
}

-- the meter, where none was
undone_charges : (a n p r s : Counts) (table imports more name limit after : ℕ) → Shrinks a n name → IsUndone n p more → Shrinks p r imports →
    Shrinks r s more → table + (imports + more + name) ≤ limit → table + (imports + more + name) ≤ a.held → after ≡ table →
    Charges a s (table + (imports + more + name)) after (2 * limit)
undone_charges a n p r s table imports more name limit after h k l m w v e = record {
  held = omega (arith, h.held, k.held, l.held, m.held, e);
  share = omega (arith, w, e);
  peak = omega (arith, h.held, h.peak, k.held, k.peak, l.peak, m.peak, w, v);
  rises = omega (arith, h.peak, k.rises, l.peak, m.peak);
}

-- ---- by the answer of the addition

-- the table is within the limit
pub after_within : (r : Result Unit Fault) (old new : Present) (more : Slots) (limit : ℕ)
    → OnOk r (new ≡ with_locals old more) → OnErr r (new ≡ old) → table_cost old.table + slots_cost more ≤ limit → table_cost new.table ≤ limit
after_within (Ok u) old new more limit ok err h =
    let e : slots_cost (old.table.locals ++ more) ≡ slots_cost old.table.locals + slots_cost more = cost_append old.table.locals more in
    rw ok (omega (arith, e, h))
after_within (Err f) old new more limit ok err h = rw err (omega (arith, h))

-- and the meter has moved by the difference
pub after_charges : {A : Type 0} (r : Result Unit Fault) (limit : ℕ) (a n p q s : Counts) (old new : Present) (b : SymbolBuffer A)
    → OnOk r (new ≡ with_locals old b.slots) → OnErr r (new ≡ old) → OnOk r (Grows n p (slots_cost b.slots)) → OnErr r (IsUndone n p (slots_cost b.slots))
    → Shrinks a n (length b.name) → Shrinks p q (cost_of b.imports) → Shrinks q s (slots_cost b.slots)
    → table_cost old.table + own_of b ≤ limit → table_cost old.table + own_of b ≤ a.held
    → Charges a s (table_cost old.table + own_of b) (table_cost new.table) (2 * limit)
after_charges (Ok u) limit a n p q s old new b ok err grows undone named importing slotted within held =
    let e : slots_cost (old.table.locals ++ b.slots) ≡ slots_cost old.table.locals + slots_cost b.slots = cost_append old.table.locals b.slots in
    grown_charges a n p q s (table_cost old.table) (cost_of b.imports) (slots_cost b.slots) (length b.name) limit
    (table_cost new.table) named grows importing slotted within held (rw ok (omega (arith, e)))
after_charges (Err f) limit a n p q s old new b ok err grows undone named importing slotted within held =
    undone_charges a n p q s (table_cost old.table) (cost_of b.imports) (slots_cost b.slots) (length b.name) limit
    (table_cost new.table) named undone importing slotted within held (rw err refl)
