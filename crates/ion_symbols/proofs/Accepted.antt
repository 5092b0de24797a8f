-- A declaration that leaves a table keeps the limits, has no id above the table before it, and no field twice.
use Rattle.std.proofs.Common.{◌≡◌, ℕ, ◌+◌, ◌*◌, ◌<◌, ◌≤◌, inl, inr, refl, sym, ◌∙◌, subst, Bool, true, false, ◌&&◌, if◌then◌else◌, List, [], ◌∷◌, ◌++◌, length, Option, Some, None, is_some, Ok, Err, nat_le, arith}
use Rattle.std.proofs.lemmas.Bool.{leb-true, and_parts}
use Rattle.std.proofs.lemmas.List.{length-append}
use Rattle.ion_meter.specs.declared.fault.Reason.TheVariants.{BadTable, SymbolLimit}
use Rattle.ion_value.specs.declared.ion_type.Kind.TheVariants as kind
use Rattle.ion_value.specs.Value as value
use Rattle.ion_value.specs.Value.{SymbolAt, Value, Members, scalar, container, nothing, member}
use Rattle.ion_symbols.specs.declared.known_text.Word.{Word}
use Rattle.ion_symbols.specs.declared.known_text.Word.TheVariants as word
use Rattle.ion_symbols.specs.Table.{Import, Table, text_at, most_slots, table_cost, count_of, slots_cost, import_count, text_length}
use Rattle.ion_symbols.specs.Declaration.{Ground, Held, Pending, nothing_yet, next, add_cost, field_met, part_met, with_import, import_ended, import_of, is_ignored, nameless, given_back, new_entry, word_in, field_word, place_in, versioned, cut_to}
use Rattle.ion_symbols.specs.Users.{Checked, fine, bad, checked}
use Rattle.ion_symbols.specs.Tree.{same_word, or_later, value_of, and_then, if_fine, first_of, element, elements_held, part_held, parts_held, import_held, imports_held, keeping_by, field_held, fields_held, version_of, max_of, table_left}
use Rattle.ion_symbols.specs.Laws.{one_if, fields_named, ImportIsDoubled, SomeImport, ListIsDoubled, IsDoubled, SomeAbove, WhatIsAccepted}
use Rattle.ion_symbols.proofs.Keeping.{cost_append, cost_push}
use Rattle.ion_symbols.proofs.Yields.{Yields, yields_ok, yields_fault, yields_then, yields_fine, yields_ignored}
use Rattle.ion_symbols.proofs.IdsAbove.{Tells, fields_tell}
use Rattle.ion_symbols.proofs.DeclarationLists.{or_this, parts_yield, Twice}
use Rattle.ion_symbols.proofs.DeclarationMeaning.{fields_yield}

-- ---- the limits

abbrev kept : Bool → ℕ → ℕ
kept true n = n
kept false n = 0

-- what is counted is at least what the pending table holds, and within the limits
record Bounded (g : Ground) (p : Pending) : Type 0 where
  cost : kept p.keeps (table_cost g.old) + 32 * length p.imports + slots_cost p.locals + length p.entry.name ≤ p.cost
  limit : p.cost ≤ g.limit
  count : kept p.keeps (count_of g.old) + import_count p.imports + length p.locals ≤ p.count
  most : p.count ≤ most_slots

abbrev Keeps : Ground → Held → Type 0
Keeps g h = Yields (Bounded g) (Unit {0}) h

-- what is counted keeps the limits, where it is not refused
counted : (g : Ground) (place cost count : ℕ) (p : Pending)
    → (p.cost + cost ≤ g.limit → p.count + count ≤ most_slots → Bounded g (record p { cost = p.cost + cost; count = p.count + count }))
    → Keeps g (add_cost g.limit place cost count p)
counted g place cost count p h = by_test (nat_le (p.cost + cost) g.limit && nat_le (p.count + count) most_slots) refl
  where
    by_test : (b : Bool) → nat_le (p.cost + cost) g.limit && nat_le (p.count + count) most_slots ≡ b
        → Keeps g (if b then Ok (record p { cost = p.cost + cost; count = p.count + count }) else Err (SymbolLimit, place))
    by_test true e =
        let both = and_parts (nat_le (p.cost + cost) g.limit) (nat_le (p.count + count) most_slots) e in
        yields_ok (h (leb-true _ _ both.0) (leb-true _ _ both.1))
    by_test false e = record { so = inr (inl refl) }

-- what stands once
once : (g : Ground) (place : ℕ) (b : Bool) (p : Pending) → Bounded g p → Keeps g (if b then Err (BadTable, place) else Ok p)
once g place true p h = yields_fault place tt
once g place false p h = yields_ok h

field_keeps : (g : Ground) (place : ℕ) (w : Word) (p : Pending) → Bounded g p → Keeps g (field_met place w p)
field_keeps g place word.Imports p h =
    once g place p.has_imports (record p { has_imports = true }) (record { cost = h.cost; limit = h.limit; count = h.count; most = h.most })
field_keeps g place word.Symbols p h =
    once g place p.has_symbols (record p { has_symbols = true }) (record { cost = h.cost; limit = h.limit; count = h.count; most = h.most })
field_keeps g place w p h = yields_ok h

part_keeps : (g : Ground) (place : ℕ) (w : Word) (p : Pending) → Bounded g p → Keeps g (part_met place w p)
part_keeps g place word.Name p h =
    once g place p.entry.has_name (record p { entry = record p.entry { has_name = true } })
    (record { cost = h.cost; limit = h.limit; count = h.count; most = h.most })
part_keeps g place word.Version p h =
    once g place p.entry.has_version (record p { entry = record p.entry { has_version = true } })
    (record { cost = h.cost; limit = h.limit; count = h.count; most = h.most })
part_keeps g place word.MaxId p h =
    once g place p.entry.has_max (record p { entry = record p.entry { has_max = true } })
    (record { cost = h.cost; limit = h.limit; count = h.count; most = h.most })
part_keeps g place w p h = yields_ok h

import_count-push : (is : List Import) (i : Import) → import_count (is ++ i ∷ []) ≡ import_count is + i.count
import_count-push [] i = omega arith
import_count-push (j ∷ is) i = omega (arith, import_count-push is i)

-- an import is read to its end
ended_keeps : (g : Ground) (p : Pending) → Bounded g p → Keeps g (import_ended g p)
ended_keeps g p h = by_name (is_ignored p.entry.name)
  where
    by_table : (o : Option Import) → Keeps g (with_import g (given_back p) o)
    by_table None = yields_fault p.entry.place tt
    by_table (Some i) =
        counted g p.entry.place 32 i.count (nameless (record (given_back p) { imports = p.imports ++ i ∷ [] })) (λ cost most. record {
          cost = omega (arith, h.cost, length-append p.imports (i ∷ []));
          limit = cost;
          count = omega (arith, h.count, import_count-push p.imports i);
          most = most;
        })

    by_name : (b : Bool)
        → Keeps g (if b then Ok (nameless (given_back p)) else with_import g (given_back p) (import_of g.catalog p.entry.name p.entry.version p.entry.max_id))
    by_name true = yields_ok (record { cost = omega (arith, h.cost); limit = omega (arith, h.limit); count = h.count; most = h.most })
    by_name false = by_table (import_of g.catalog p.entry.name p.entry.version p.entry.max_id)

elements_keep : (g : Ground) (top : ℕ) (members : Members SymbolAt ℕ) (p : Pending) → Bounded g p → Keeps g (elements_held g top members p)
elements_keep g top nothing p h = yields_ok h
elements_keep g top (member before field annotations place x) p h =
    yields_then (elements_keep g top before p h) (λ f. f) (λ q b. yields_fine g.old (first_of top field annotations place x)
    (yields_then (counted g place (16 + text_length (element x)) 1 (record q { locals = q.locals ++ element x ∷ [] }) (λ cost most. record {
      cost = omega (arith, b.cost, cost_push q.locals (element x));
      limit = cost;
      count = omega (arith, b.count, length-append q.locals (element x ∷ []));
      most = most;
    })) (λ f. f) (λ r c. yields_ignored g.old top x r c)))

part_held-keeps : (g : Ground) (top place : ℕ) (w : Word) (x : Value SymbolAt ℕ) (p : Pending) → Bounded g p → Keeps g (part_held g top place w x p)
part_held-keeps g top place word.Name (scalar (value.string t)) p h =
    counted g place (length t) 0 (record p { entry = record p.entry { name = t } }) (λ cost most. record {
      cost = omega (arith, h.cost);
      limit = cost;
      count = omega (arith, h.count);
      most = most;
    })
part_held-keeps g top place word.Version x p h =
    yields_ignored g.old top x (versioned (version_of (Some x)) p) (record { cost = h.cost; limit = h.limit; count = h.count; most = h.most })
part_held-keeps g top place word.MaxId x p h =
    yields_ignored g.old top x (cut_to (max_of (Some x)) p) (record { cost = h.cost; limit = h.limit; count = h.count; most = h.most })
part_held-keeps g top place w x p h = yields_ignored g.old top x p h

parts_keep : (g : Ground) (top : ℕ) (members : Members SymbolAt ℕ) (p : Pending) → Bounded g p → Keeps g (parts_held g top members p)
parts_keep g top nothing p h = yields_ok h
parts_keep g top (member before field annotations place x) p h =
    let w : Word = field_word (text_at g.old) field in
    yields_then (parts_keep g top before p h) (λ f. f) (λ q b. yields_fine g.old (first_of top field annotations place x)
    (yields_then (part_keeps g (place_in field) w q b) (λ f. f) (λ r c. part_held-keeps g top place w x r c)))

import_keeps : (g : Ground) (top place : ℕ) (x : Value SymbolAt ℕ) (p : Pending) → Bounded g p → Keeps g (import_held g top place x p)
import_keeps g top place (container kind.Struct members last) p h =
    yields_then (parts_keep g top members (record p { entry = new_entry place })
    (record { cost = omega (arith, h.cost); limit = h.limit; count = h.count; most = h.most })) (λ f. f) (λ q b. ended_keeps g q b)
import_keeps g top place x p h = yields_ignored g.old top x p h

imports_keep : (g : Ground) (top : ℕ) (members : Members SymbolAt ℕ) (p : Pending) → Bounded g p → Keeps g (imports_held g top members p)
imports_keep g top nothing p h = yields_ok h
imports_keep g top (member before field annotations place x) p h =
    yields_then (imports_keep g top before p h) (λ f. f) (λ q b. yields_fine g.old (first_of top field annotations place x) (import_keeps g top place x q b))

keeping_keeps : (g : Ground) (place : ℕ) (w : Word) (p : Pending) → Bounded g p → Keeps g (keeping_by g place w p)
keeping_keeps g place word.Declaration p h =
    counted g place (table_cost g.old) (count_of g.old) (record p { keeps = true }) (λ cost most. record {
      cost = omega (arith, h.cost);
      limit = cost;
      count = omega (arith, h.count);
      most = most;
    })
keeping_keeps g place w p h = yields_ok h

field_held-keeps : (g : Ground) (top place : ℕ) (w : Word) (x : Value SymbolAt ℕ) (p : Pending) → Bounded g p → Keeps g (field_held g top place w x p)
field_held-keeps g top place word.Imports (container kind.List members last) p h = imports_keep g top members p h
field_held-keeps g top place word.Imports (scalar (value.symbol s)) p h = keeping_keeps g place (word_in (text_at g.old) s.symbol) p h
field_held-keeps g top place word.Symbols (container kind.List members last) p h = elements_keep g top members p h
field_held-keeps g top place w x p h = yields_ignored g.old top x p h

fields_keep : (g : Ground) (top : ℕ) (members : Members SymbolAt ℕ) → Keeps g (fields_held g top members nothing_yet)
fields_keep g top nothing = yields_ok (record { cost = omega arith; limit = omega arith; count = omega arith; most = omega arith })
fields_keep g top (member before field annotations place x) =
    let w : Word = field_word (text_at g.old) field in
    yields_then (fields_keep g top before) (λ f. f) (λ q b. yields_fine g.old (first_of top field annotations place x)
    (yields_then (field_keeps g (place_in field) w q b) (λ f. f) (λ r c. field_held-keeps g top place w x r c)))

-- the table that is left costs no more than what was counted
next_bounded : (g : Ground) (q : Pending) (b : Bool) → q.keeps ≡ b → Bounded g q → (table_cost (next g.old q) ≤ g.limit) × (count_of (next g.old q) ≤ most_slots)
next_bounded g q true e h =
    let cost : kept true (table_cost g.old) + 32 * length q.imports + slots_cost q.locals + length q.entry.name ≤ q.cost = rw e at h.cost in
    let count : kept true (count_of g.old) + import_count q.imports + length q.locals ≤ q.count = rw e at h.count in
    rw e (omega (arith, cost, h.limit, cost_append g.old.locals q.locals), omega (arith, count, h.most, length-append g.old.locals q.locals))
next_bounded g q false e h =
    let cost : kept false (table_cost g.old) + 32 * length q.imports + slots_cost q.locals + length q.entry.name ≤ q.cost = rw e at h.cost in
    let count : kept false (count_of g.old) + import_count q.imports + length q.locals ≤ q.count = rw e at h.count in
    rw e (omega (arith, cost, h.limit), omega (arith, count, h.most))

-- ---- fields stand once

and_then_ok : (h : Held) (later : Pending → Held) (q : Pending) → and_then h later ≡ Ok q → (p : Pending) × (h ≡ Ok p) × (later p ≡ Ok q)
and_then_ok (Ok p) later q e = (p, refl, e)
and_then_ok (Err why) later q e = absurd (cc e)

if_fine_ok : (c : Checked) (h : Held) (q : Pending) → if_fine c h ≡ Ok q → h ≡ Ok q
if_fine_ok fine h q e = e
if_fine_ok (bad reason place) h q e = absurd (cc e)

abbrev once_held : Bool → ℕ → Pending → Held
once_held b place p = if b then Err (BadTable, place) else Ok p

once_ok : (b : Bool) (place : ℕ) (p q : Pending) → once_held b place p ≡ Ok q → b ≡ false
once_ok true place p q e = absurd (cc e)
once_ok false place p q e = refl

-- what holds of what was read
yielded : {P : Pending → Type 0} {F : Type 0} {h : Held} {q : Pending} → Yields P F h → h ≡ Ok q → P q
yielded {P} {h = Ok p} {q} c e =
    let same : p ≡ q = cc e in
    subst P same c.so
yielded {h = Err why} c e = absurd (cc e)

-- a name that no field has
absent_more : (o : Option (Value SymbolAt ℕ)) (n : ℕ) (b : Bool) (x : Value SymbolAt ℕ) → (is_some o ≡ false → n ≡ 0)
    → is_some (or_later o (if b then Some x else None)) ≡ false → n + one_if b ≡ 0
absent_more (Some y) n b x none e = absurd (cc e)
absent_more None n true x none e = absurd (cc e)
absent_more None n false x none e = omega (arith, none refl)

absent : (texts : ℕ → Option (List ℕ)) (w : Word) (members : Members SymbolAt ℕ) → is_some (value_of texts w members) ≡ false → fields_named texts w members ≡ 0
absent texts w nothing e = refl
absent texts w (member before field annotations place x) e =
    absent_more (value_of texts w before) (fields_named texts w before) (same_word (field_word texts field) w) x (absent texts w before) e

-- a field more of a name stands once where the name is new
single_more : (n : ℕ) (b : Bool) → (1 < n → ⊥) → (b ≡ true → n ≡ 0) → 1 < n + one_if b → ⊥
single_more n true once new h = let none : n ≡ 0 = new refl in absurd (omega (arith, h))
single_more n false once new h = once (omega (arith, h))

met_name : (place : ℕ) (w : Word) (p q : Pending) → part_met place w p ≡ Ok q → same_word w word.Name ≡ true → p.entry.has_name ≡ false
met_name place word.Name p q e f = once_ok p.entry.has_name place _ q e
met_name place w p q e f = absurd (cc f)

met_version : (place : ℕ) (w : Word) (p q : Pending) → part_met place w p ≡ Ok q → same_word w word.Version ≡ true → p.entry.has_version ≡ false
met_version place word.Version p q e f = once_ok p.entry.has_version place _ q e
met_version place w p q e f = absurd (cc f)

met_max : (place : ℕ) (w : Word) (p q : Pending) → part_met place w p ≡ Ok q → same_word w word.MaxId ≡ true → p.entry.has_max ≡ false
met_max place word.MaxId p q e f = once_ok p.entry.has_max place _ q e
met_max place w p q e f = absurd (cc f)

met_imports : (place : ℕ) (w : Word) (p q : Pending) → field_met place w p ≡ Ok q → same_word w word.Imports ≡ true → p.has_imports ≡ false
met_imports place word.Imports p q e f = once_ok p.has_imports place _ q e
met_imports place w p q e f = absurd (cc f)

met_symbols : (place : ℕ) (w : Word) (p q : Pending) → field_met place w p ≡ Ok q → same_word w word.Symbols ≡ true → p.has_symbols ≡ false
met_symbols place word.Symbols p q e f = once_ok p.has_symbols place _ q e
met_symbols place w p q e f = absurd (cc f)

parts_single : (g : Ground) (top start : ℕ) (members : Members SymbolAt ℕ) (p q : Pending)
    → parts_held g top members (record p { entry = new_entry start }) ≡ Ok q → Twice (text_at g.old) members → ⊥
parts_single g top start nothing p q e twice = elim twice [ inl h ↦ absurd (omega (arith, h)) | inr more ↦ elim more [ inl h ↦ absurd (omega (arith, h)) | inr h ↦ absurd (omega (arith, h)) ] ]
parts_single g top start (member before field annotations place x) p q e twice =
    let texts : ℕ → Option (List ℕ) = text_at g.old in
    let w : Word = field_word texts field in
    let b = and_then_ok (parts_held g top before (record p { entry = new_entry start })) _ q e in
    let met = and_then_ok (part_met (place_in field) w b.0) _ q (if_fine_ok (checked g.old false (first_of top field annotations place x)) _ q b.2) in
    let says = yielded (parts_yield g top start before p) b.1 in
    let others = parts_single g top start before p b.0 b.1 in
    elim twice [
      | inl h ↦ single_more (fields_named texts word.Name before) (same_word w word.Name) (λ k. others (inl k))
          (λ f. absent texts word.Name before (sym says.has_name ∙ met_name (place_in field) w b.0 met.0 met.1 f)) h
      | inr more ↦ elim more [
        | inl h ↦ single_more (fields_named texts word.Version before) (same_word w word.Version) (λ k. others (inr (inl k)))
            (λ f. absent texts word.Version before (sym says.has_version ∙ met_version (place_in field) w b.0 met.0 met.1 f)) h
        | inr h ↦ single_more (fields_named texts word.MaxId before) (same_word w word.MaxId) (λ k. others (inr (inr k)))
            (λ f. absent texts word.MaxId before (sym says.has_max ∙ met_max (place_in field) w b.0 met.0 met.1 f)) h
      ]
    ]

import_single : (g : Ground) (top place : ℕ) (x : Value SymbolAt ℕ) (p q : Pending) → import_held g top place x p ≡ Ok q → ImportIsDoubled (text_at g.old) x → ⊥
import_single g top place (container kind.Struct members last) p q e doubled =
    let b = and_then_ok (parts_held g top members (record p { entry = new_entry place })) _ q e in
    parts_single g top place members p b.0 b.1 doubled
import_single g top place x p q e doubled = doubled

imports_single : (g : Ground) (top : ℕ) (members : Members SymbolAt ℕ) (p q : Pending) → imports_held g top members p ≡ Ok q → SomeImport (text_at g.old) members → ⊥
imports_single g top nothing p q e some = some
imports_single g top (member before field annotations place x) p q e some =
    let b = and_then_ok (imports_held g top before p) _ q e in
    elim some [
      | inl h ↦ imports_single g top before p b.0 b.1 h
      | inr h ↦ import_single g top place x b.0 q (if_fine_ok (checked g.old false (first_of top field annotations place x)) _ q b.2) h
    ]

list_single : (g : Ground) (top place : ℕ) (w : Word) (x : Value SymbolAt ℕ) (o : Option (Value SymbolAt ℕ)) (p q : Pending) → field_held g top place w x p ≡ Ok q
    → (ListIsDoubled (text_at g.old) o → ⊥) → ListIsDoubled (text_at g.old) (or_this o w word.Imports x) → ⊥
list_single g top place w x (Some y) p q e before doubled = before doubled
list_single g top place word.Imports (container kind.List members last) None p q e before doubled = imports_single g top members p q e doubled
list_single g top place word.Imports x None p q e before doubled = doubled
list_single g top place w x None p q e before doubled = doubled

fields_single : (g : Ground) (top : ℕ) (members : Members SymbolAt ℕ) (q : Pending) → fields_held g top members nothing_yet ≡ Ok q
    → IsDoubled (text_at g.old) members → ⊥
fields_single g top nothing q e doubled = elim doubled [ inl h ↦ absurd (omega (arith, h)) | inr more ↦ elim more [ inl h ↦ absurd (omega (arith, h)) | inr h ↦ h ] ]
fields_single g top (member before field annotations place x) q e doubled =
    let texts : ℕ → Option (List ℕ) = text_at g.old in
    let w : Word = field_word texts field in
    let b = and_then_ok (fields_held g top before nothing_yet) _ q e in
    let met = and_then_ok (field_met (place_in field) w b.0) _ q (if_fine_ok (checked g.old false (first_of top field annotations place x)) _ q b.2) in
    let says = yielded (fields_yield g top before) b.1 in
    let others = fields_single g top before b.0 b.1 in
    elim doubled [
      | inl h ↦ single_more (fields_named texts word.Imports before) (same_word w word.Imports) (λ k. others (inl k))
          (λ f. absent texts word.Imports before (sym says.has_imports ∙ met_imports (place_in field) w b.0 met.0 met.1 f)) h
      | inr more ↦ elim more [
        | inl h ↦ single_more (fields_named texts word.Symbols before) (same_word w word.Symbols) (λ k. others (inr (inl k)))
            (λ f. absent texts word.Symbols before (sym says.has_symbols ∙ met_symbols (place_in field) w b.0 met.0 met.1 f)) h
        | inr h ↦ list_single g top place w x (value_of texts word.Imports before) met.0 q met.2 (λ k. others (inr (inr k))) h
      ]
    ]

-- ---- the law

left_ok : (g : Ground) (h : Held) (t : Table) → table_left g h ≡ Ok t → (q : Pending) × (h ≡ Ok q) × (next g.old q ≡ t)
left_ok g (Ok q) t e = (q, refl, cc e)
left_ok g (Err why) t e = absurd (cc e)

not_above : (A : Type 0) (h : Held) (q : Pending) → Tells A h → h ≡ Ok q → A → ⊥
not_above A (Ok p) q c e = c.so
not_above A (Err why) q c e = absurd (cc e)

pub what_is_accepted : WhatIsAccepted
what_is_accepted g top members t e =
    let left = left_ok g (fields_held g top members nothing_yet) t e in
    let bounds = next_bounded g left.0 left.0.keeps refl (yielded (fields_keep g top members) left.1) in
    record {
      cost = rw left.2 at bounds.0;
      count = rw left.2 at bounds.1;
      below = not_above (SomeAbove g.old members) (fields_held g top members nothing_yet) left.0 (fields_tell g top members) left.1;
      single = fields_single g top members left.0 left.1;
    }
