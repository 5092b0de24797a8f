-- A declaration is refused for a limit only where its members cost more, or are more slots.
use Rattle.std.proofs.Common.{◌≡◌, ℕ, ◌+◌, ◌<◌, ◌≤◌, ◌⊎◌, inl, inr, refl, ap, sym, ◌∙◌, Bool, true, false, ◌&&◌, if◌then◌else◌, List, [], ◌∷◌, ◌++◌, length, Option, Some, None, option_map, Ok, Err, nat_le, arith}
use Rattle.std.proofs.lemmas.Bool.{leb-false, and_cases}
use Rattle.std.proofs.lemmas.List.{length-append}
use Rattle.ion_meter.specs.declared.fault.Reason.{Reason}
use Rattle.ion_meter.specs.declared.fault.Reason.TheVariants.{BadTable, BadSymbol, SymbolLimit}
use Rattle.ion_value.specs.declared.ion_type.Kind.TheVariants as kind
use Rattle.ion_value.specs.Value as value
use Rattle.ion_value.specs.Value.{SymbolAt, Value, Members, PlacedItem, scalar, container, nothing, member}
use Rattle.ion_symbols.specs.declared.known_text.Word.{Word}
use Rattle.ion_symbols.specs.declared.known_text.Word.TheVariants as word
use Rattle.ion_symbols.specs.Table.{Import, text_at, most_slots, table_cost, count_of, slots_cost, text_length}
use Rattle.ion_symbols.specs.Declaration.{Ground, Held, Pending, nothing_yet, add_cost, field_met, part_met, with_import, import_ended, import_of, is_ignored, nameless, given_back, new_entry, word_in, field_word, place_in, versioned, cut_to}
use Rattle.ion_symbols.specs.Users.{Checked, fine, bad, checked}
use Rattle.ion_symbols.specs.Tree.{and_then, if_fine, items_checked, content_of, first_of, check_ignored, element, elements, element_held, elements_held, part_held, parts_held, import_held, imports_held, keeping_by, field_held, fields_held, version_of, max_of, name_of, value_of, import_by, value_import}
use Rattle.ion_symbols.specs.Laws.{name_cost, names_cost, import_cost, imports_cost, if_kept, field_cost, fields_cost, slots_in, imports_slots, field_slots, fields_slots, IsCostly}
use Rattle.ion_symbols.proofs.Keeping.{cost_push}
use Rattle.ion_symbols.proofs.Yields.{Yields, IsSymbolFault, item_fault, items_fault}
use Rattle.ion_symbols.proofs.DeclarationLists.{PartsOf, core, parts_yield}

-- no more than so much is counted, and where a limit refuses more, that is above it
abbrev Weighed : Ground → ℕ → ℕ → Held → Type 0
Weighed g cost count (Ok p) = (p.cost ≤ cost) × (p.count ≤ count)
Weighed g cost count (Err why) = why.0 ≡ SymbolLimit → (g.limit < cost) ⊎ (most_slots < count)

record Weighs (g : Ground) (cost count : ℕ) (h : Held) : Type 0 where
  so : Weighed g cost count h

weighs_ok : (g : Ground) (cost count : ℕ) (p : Pending) → p.cost ≤ cost → p.count ≤ count → Weighs g cost count (Ok p)
weighs_ok g cost count p c n = record { so = (c, n) }

weighs_then : (g : Ground) (cost count more others : ℕ) (h : Held) (later : Pending → Held) → Weighs g cost count h → cost ≤ more → count ≤ others
    → ((p : Pending) → p.cost ≤ cost → p.count ≤ count → Weighs g more others (later p)) → Weighs g more others (and_then h later)
weighs_then g cost count more others (Ok p) later c a b next = next p c.so.0 c.so.1
weighs_then g cost count more others (Err why) later c a b next =
    record { so = λ e. elim (c.so e) [ inl l ↦ inl (omega (arith, l)) | inr l ↦ inr (omega (arith, l)) ] }

weighs_check : (g : Ground) (cost count : ℕ) (c : Checked) (h : Held) → IsSymbolFault c → Weighs g cost count h → Weighs g cost count (if_fine c h)
weighs_check g cost count fine h is w = w
weighs_check g cost count (bad reason place) h is w = record { so = λ e. let same : BadSymbol ≡ SymbolLimit = sym is ∙ e in absurd (cc same) }

weighs_ignored : (g : Ground) (cost count top : ℕ) (x : Value SymbolAt ℕ) (p : Pending) → p.cost ≤ cost → p.count ≤ count
    → Weighs g cost count (check_ignored g.old top x p)
weighs_ignored g cost count top x p c n =
    weighs_check g cost count (items_checked g.old (content_of top x)) (Ok p) (items_fault g.old (content_of top x)) (weighs_ok g cost count p c n)

weighs_counted : (g : Ground) (cost count place c n : ℕ) (p : Pending) → p.cost + c ≤ cost → p.count + n ≤ count
    → Weighs g cost count (add_cost g.limit place c n p)
weighs_counted g cost count place c n p a b = by_test (nat_le (p.cost + c) g.limit && nat_le (p.count + n) most_slots) refl
  where
    by_test : (t : Bool) → nat_le (p.cost + c) g.limit && nat_le (p.count + n) most_slots ≡ t
        → Weighs g cost count (if t then Ok (record p { cost = p.cost + c; count = p.count + n }) else Err (SymbolLimit, place))
    by_test true e = record { so = (a, b) }
    by_test false e =
        record {
          so = λ _. elim (and_cases (nat_le (p.cost + c) g.limit) (nat_le (p.count + n) most_slots) e) [
            | inl f ↦ inl (omega (arith, leb-false _ _ f))
            | inr f ↦ inr (omega (arith, leb-false _ _ f))
          ];
        }

weighs_once : (g : Ground) (cost count place : ℕ) (b : Bool) (p : Pending) → p.cost ≤ cost → p.count ≤ count
    → Weighs g cost count (if b then Err (BadTable, place) else Ok p)
weighs_once g cost count place true p c n = record { so = λ e. let same : BadTable ≡ SymbolLimit = e in absurd (cc same) }
weighs_once g cost count place false p c n = record { so = (c, n) }

weighs_field : (g : Ground) (cost count place : ℕ) (w : Word) (p : Pending) → p.cost ≤ cost → p.count ≤ count → Weighs g cost count (field_met place w p)
weighs_field g cost count place word.Imports p c n = weighs_once g cost count place p.has_imports (record p { has_imports = true }) c n
weighs_field g cost count place word.Symbols p c n = weighs_once g cost count place p.has_symbols (record p { has_symbols = true }) c n
weighs_field g cost count place w p c n = weighs_ok g cost count p c n

weighs_part : (g : Ground) (cost count place : ℕ) (w : Word) (p : Pending) → p.cost ≤ cost → p.count ≤ count → Weighs g cost count (part_met place w p)
weighs_part g cost count place word.Name p c n = weighs_once g cost count place p.entry.has_name (record p { entry = record p.entry { has_name = true } }) c n
weighs_part g cost count place word.Version p c n =
    weighs_once g cost count place p.entry.has_version (record p { entry = record p.entry { has_version = true } }) c n
weighs_part g cost count place word.MaxId p c n = weighs_once g cost count place p.entry.has_max (record p { entry = record p.entry { has_max = true } }) c n
weighs_part g cost count place w p c n = weighs_ok g cost count p c n

-- ---- the members, from a pending table on

elements_weigh : (g : Ground) (top : ℕ) (members : Members SymbolAt ℕ) (p : Pending)
    → Weighs g (p.cost + slots_cost (elements members)) (p.count + length (elements members)) (elements_held g top members p)
elements_weigh g top nothing p = weighs_ok g (p.cost + 0) (p.count + 0) p (omega arith) (omega arith)
elements_weigh g top (member before field annotations place x) p =
    let cost = cost_push (elements before) (element x) in
    let count = length-append (elements before) (element x ∷ []) in
    weighs_then g (p.cost + slots_cost (elements before)) (p.count + length (elements before)) _ _ (elements_held g top before p)
    (λ q. if_fine (checked g.old false (first_of top field annotations place x)) (element_held g top place x q))
    (elements_weigh g top before p) (omega (arith, cost)) (omega (arith, count))
    (λ q c n. weighs_check g _ _ (checked g.old false (first_of top field annotations place x)) (element_held g top place x q) (item_fault g.old (first_of top field annotations place x))
    (weighs_then g (p.cost + slots_cost (elements before ++ element x ∷ [])) (p.count + length (elements before ++ element x ∷ [])) _ _
    (add_cost g.limit place (16 + text_length (element x)) 1 (record q { locals = q.locals ++ element x ∷ [] })) (λ r. check_ignored g.old top x r)
    (weighs_counted g _ _ place (16 + text_length (element x)) 1 (record q { locals = q.locals ++ element x ∷ [] }) (omega (arith, cost, c)) (omega (arith, count, n)))
    (omega arith) (omega arith) (λ r d m. weighs_ignored g _ _ top x r d m)))

part_weighs : (g : Ground) (top place : ℕ) (w : Word) (x : Value SymbolAt ℕ) (p : Pending)
    → Weighs g (p.cost + name_cost w x) p.count (part_held g top place w x p)
part_weighs g top place word.Name (scalar (value.string t)) p =
    weighs_counted g _ _ place (length t) 0 (record p { entry = record p.entry { name = t } }) (omega arith) (omega arith)
part_weighs g top place word.Version x p = weighs_ignored g _ _ top x (versioned (version_of (Some x)) p) (omega arith) (omega arith)
part_weighs g top place word.MaxId x p = weighs_ignored g _ _ top x (cut_to (max_of (Some x)) p) (omega arith) (omega arith)
part_weighs g top place w x p = weighs_ignored g _ _ top x p (omega arith) (omega arith)

-- what weighs no more than one number weighs no more than a greater one
weighs_more : (g : Ground) (cost count more others : ℕ) (h : Held) → Weighs g cost count h → cost ≤ more → count ≤ others → Weighs g more others h
weighs_more g cost count more others (Ok p) c a b = record { so = (omega (arith, c.so.0), omega (arith, c.so.1)) }
weighs_more g cost count more others (Err why) c a b =
    record { so = λ e. elim (c.so e) [ inl l ↦ inl (omega (arith, l)) | inr l ↦ inr (omega (arith, l)) ] }

parts_weigh : (g : Ground) (top : ℕ) (members : Members SymbolAt ℕ) (p : Pending)
    → Weighs g (p.cost + names_cost (text_at g.old) members) p.count (parts_held g top members p)
parts_weigh g top nothing p = weighs_ok g (p.cost + 0) p.count p (omega arith) (omega arith)
parts_weigh g top (member before field annotations place x) p =
    let w : Word = field_word (text_at g.old) field in
    let first : PlacedItem = first_of top field annotations place x in
    let b : ℕ = p.cost + names_cost (text_at g.old) before in
    weighs_then g b p.count _ _ (parts_held g top before p)
    (λ q. if_fine (checked g.old false first) (and_then (part_met (place_in field) w q) (λ r. part_held g top place w x r)))
    (parts_weigh g top before p) (omega arith) (omega arith)
    (λ q c n. weighs_check g _ _ (checked g.old false first) (and_then (part_met (place_in field) w q) (λ r. part_held g top place w x r)) (item_fault g.old first)
    (weighs_then g b p.count _ _ (part_met (place_in field) w q) (λ r. part_held g top place w x r) (weighs_part g b p.count (place_in field) w q c n)
    (omega arith) (omega arith) (λ r d m. weighs_more g (r.cost + name_cost w x) r.count _ _ (part_held g top place w x r) (part_weighs g top place w x r) (omega (arith, d)) m)))

-- an import's end, by what the import is
ended_weighs : (g : Ground) (cost count : ℕ) (name : List ℕ) (version : ℕ) (most : Option ℕ) (q : Pending) → q.entry.name ≡ name → q.entry.version ≡ version
    → q.entry.max_id ≡ most → q.cost ≤ cost → q.count ≤ count
    → Weighs g (cost + 32) (count + slots_in (import_by g.catalog name version most)) (import_ended g q)
ended_weighs g cost count name version most q e v m c n =
    rw (sym e, sym v, sym m) (by_name (is_ignored q.entry.name))
  where
    by_table : (o : Option Import) → Weighs g (cost + 32) (count + slots_in (option_map (λ i. i ∷ []) o)) (with_import g (given_back q) o)
    by_table None = record { so = λ f. let same : BadTable ≡ SymbolLimit = f in absurd (cc same) }
    by_table (Some i) =
        weighs_counted g _ _ q.entry.place 32 i.count (nameless (record (given_back q) { imports = q.imports ++ i ∷ [] })) (omega (arith, c)) (omega (arith, n))

    by_name : (b : Bool) → Weighs g (cost + 32)
        (count + slots_in (if b then Some [] else option_map (λ i. i ∷ []) (import_of g.catalog q.entry.name q.entry.version q.entry.max_id)))
        (if b then Ok (nameless (given_back q)) else with_import g (given_back q) (import_of g.catalog q.entry.name q.entry.version q.entry.max_id))
    by_name true = weighs_ok g _ _ (nameless (given_back q)) (omega (arith, c)) (omega (arith, n))
    by_name false = by_table (import_of g.catalog q.entry.name q.entry.version q.entry.max_id)

-- both what is yielded and what it weighs
weighs_known : (g : Ground) (cost count more others : ℕ) (P : Pending → Type 0) (F : Type 0) (h : Held) (later : Pending → Held) → Weighs g cost count h → Yields P F h
    → cost ≤ more → count ≤ others → ((p : Pending) → P p → p.cost ≤ cost → p.count ≤ count → Weighs g more others (later p)) → Weighs g more others (and_then h later)
weighs_known g cost count more others P F (Ok p) later c y a b next = next p y.so c.so.0 c.so.1
weighs_known g cost count more others P F (Err why) later c y a b next =
    record { so = λ e. elim (c.so e) [ inl l ↦ inl (omega (arith, l)) | inr l ↦ inr (omega (arith, l)) ] }

import_weighs : (g : Ground) (top place : ℕ) (x : Value SymbolAt ℕ) (p : Pending)
    → Weighs g (p.cost + import_cost (text_at g.old) x) (p.count + slots_in (value_import g.catalog (text_at g.old) x)) (import_held g top place x p)
import_weighs g top place (container kind.Struct members last) p =
    let texts : ℕ → Option (List ℕ) = text_at g.old in
    weighs_known g (p.cost + names_cost texts members) p.count _ _ (PartsOf texts members (core p)) _ (parts_held g top members (record p { entry = new_entry place }))
    (λ q. import_ended g q) (parts_weigh g top members (record p { entry = new_entry place })) (parts_yield g top place members p) (omega arith) (omega arith)
    (λ q h c n. weighs_more g (p.cost + names_cost texts members + 32) _ _ _ (import_ended g q)
    (ended_weighs g (p.cost + names_cost texts members) p.count (name_of (value_of texts word.Name members)) (version_of (value_of texts word.Version members))
    (max_of (value_of texts word.MaxId members)) q h.name_is h.version_is h.max_is c n) (omega arith) (omega arith))
import_weighs g top place x p = weighs_ignored g _ _ top x p (omega arith) (omega arith)

imports_weigh : (g : Ground) (top : ℕ) (members : Members SymbolAt ℕ) (p : Pending)
    → Weighs g (p.cost + imports_cost (text_at g.old) members) (p.count + imports_slots g members) (imports_held g top members p)
imports_weigh g top nothing p = weighs_ok g (p.cost + 0) (p.count + 0) p (omega arith) (omega arith)
imports_weigh g top (member before field annotations place x) p =
    let first : PlacedItem = first_of top field annotations place x in
    weighs_then g (p.cost + imports_cost (text_at g.old) before) (p.count + imports_slots g before) _ _ (imports_held g top before p)
    (λ q. if_fine (checked g.old false first) (import_held g top place x q)) (imports_weigh g top before p) (omega arith) (omega arith)
    (λ q c n. weighs_check g _ _ (checked g.old false first) (import_held g top place x q) (item_fault g.old first)
    (weighs_more g _ _ _ _ (import_held g top place x q) (import_weighs g top place x q) (omega (arith, c)) (omega (arith, n))))

keeping_weighs : (g : Ground) (place : ℕ) (w : Word) (p : Pending)
    → Weighs g (p.cost + if_kept w (table_cost g.old)) (p.count + if_kept w (count_of g.old)) (keeping_by g place w p)
keeping_weighs g place word.Declaration p = weighs_counted g _ _ place (table_cost g.old) (count_of g.old) (record p { keeps = true }) (omega arith) (omega arith)
keeping_weighs g place w p = weighs_ok g _ _ p (omega arith) (omega arith)

field_weighs : (g : Ground) (top place : ℕ) (w : Word) (x : Value SymbolAt ℕ) (p : Pending)
    → Weighs g (p.cost + field_cost g w x) (p.count + field_slots g w x) (field_held g top place w x p)
field_weighs g top place word.Imports (container kind.List members last) p = imports_weigh g top members p
field_weighs g top place word.Imports (scalar (value.symbol s)) p = keeping_weighs g place (word_in (text_at g.old) s.symbol) p
field_weighs g top place word.Symbols (container kind.List members last) p = elements_weigh g top members p
field_weighs g top place w x p = weighs_ignored g _ _ top x p (omega arith) (omega arith)

fields_weigh : (g : Ground) (top : ℕ) (members : Members SymbolAt ℕ) → Weighs g (fields_cost g members) (fields_slots g members) (fields_held g top members nothing_yet)
fields_weigh g top nothing = weighs_ok g 0 0 nothing_yet (omega arith) (omega arith)
fields_weigh g top (member before field annotations place x) =
    let w : Word = field_word (text_at g.old) field in
    let first : PlacedItem = first_of top field annotations place x in
    weighs_then g (fields_cost g before) (fields_slots g before) _ _ (fields_held g top before nothing_yet)
    (λ q. if_fine (checked g.old false first) (and_then (field_met (place_in field) w q) (λ r. field_held g top place w x r)))
    (fields_weigh g top before) (omega arith) (omega arith)
    (λ q c n. weighs_check g _ _ (checked g.old false first) (and_then (field_met (place_in field) w q) (λ r. field_held g top place w x r)) (item_fault g.old first)
    (weighs_then g (fields_cost g before) (fields_slots g before) _ _ (field_met (place_in field) w q) (λ r. field_held g top place w x r)
    (weighs_field g (fields_cost g before) (fields_slots g before) (place_in field) w q c n) (omega arith) (omega arith)
    (λ r d m. weighs_more g _ _ _ _ (field_held g top place w x r) (field_weighs g top place w x r) (omega (arith, d)) (omega (arith, m)))))

-- where a limit refuses a declaration, its members are above it
pub costly : (g : Ground) (top : ℕ) (members : Members SymbolAt ℕ) (why : Reason × ℕ) → fields_held g top members nothing_yet ≡ Err why → why.0 ≡ SymbolLimit
    → IsCostly g members
costly g top members why e = by_held (fields_held g top members nothing_yet) (fields_weigh g top members) e
  where
    by_held : (h : Held) → Weighs g (fields_cost g members) (fields_slots g members) h → h ≡ Err why → why.0 ≡ SymbolLimit → IsCostly g members
    by_held (Ok p) c is f = absurd (cc is)
    by_held (Err other) c is f = let same : other ≡ why = cc is in c.so (ap (λ (w : Reason × ℕ). w.0) same ∙ f)
