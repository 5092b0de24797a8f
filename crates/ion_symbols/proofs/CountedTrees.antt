-- A declaration of which no more is counted at once than the limit is not refused for it.
use Rattle.std.proofs.Common.{◌≡◌, ℕ, ◌+◌, ◌≤◌, refl, ap, sym, subst, ◌∙◌, inl, inr, Bool, true, false, ◌&&◌, if◌then◌else◌, List, [], ◌∷◌, ◌++◌, length, Option, Some, None, is_some, option_map, Ok, Err, nat_le, arith}
use Rattle.std.proofs.lemmas.Bool.{leb-false, and_cases}
use Rattle.std.proofs.lemmas.List.{length-append}
use Rattle.ion_meter.specs.declared.fault.Reason.{Reason}
use Rattle.ion_meter.specs.declared.fault.Reason.TheVariants.{BadTable, BadSymbol, SymbolLimit}
use Rattle.ion_value.specs.declared.ion_type.Kind.TheVariants as kind
use Rattle.ion_value.specs.Value as value
use Rattle.ion_value.specs.Value.{SymbolAt, Value, Members, PlacedItem, scalar, container, nothing, member}
use Rattle.ion_symbols.specs.declared.known_text.Word.{Word}
use Rattle.ion_symbols.specs.declared.known_text.Word.TheVariants as word
use Rattle.ion_symbols.specs.Table.{Import, text_at, most_slots, table_cost, count_of, slots_cost, text_length}
use Rattle.ion_symbols.specs.Declaration.{Ground, Held, Pending, nothing_yet, add_cost, field_met, part_met, with_import, import_ended, import_of, is_ignored, nameless, given_back, new_entry, word_in, field_word, place_in, versioned, cut_to}
use Rattle.ion_symbols.specs.Users.{Checked, fine, bad, checked}
use Rattle.ion_symbols.specs.Tree.{and_then, if_fine, items_checked, content_of, first_of, check_ignored, element, elements, element_held, elements_held, or_later, part_held, same_word, parts_held, import_held, imports_held, keeping_by, field_held, fields_held, version_of, max_of, name_of, value_of, import_by, value_import}
use Rattle.ion_symbols.specs.Laws.{if_kept, slots_in, imports_slots, field_slots, fields_slots}
use Rattle.ion_symbols.proofs.Keeping.{cost_push}
use Rattle.ion_symbols.proofs.Yields.{Yields, IsSymbolFault, item_fault, items_fault}
use Rattle.ion_symbols.proofs.DeclarationLists.{PartsOf, core, or_later-none, parts_yield}
use Rattle.ion_symbols.specs.Counted.{name_size, import_kept, imports_kept, NamesFit, field_kept, fields_kept, FieldFits, FieldsFit}

-- no more than so much is counted, or the fault is no limit's
abbrev Weighed : ℕ → ℕ → Held → Type 0
Weighed cost count (Ok p) = (p.cost ≤ cost) × (p.count ≤ count)
Weighed cost count (Err why) = why.0 ≡ SymbolLimit → ⊥

record Weighs (cost count : ℕ) (h : Held) : Type 0 where
  so : Weighed cost count h

weighs_ok : (cost count : ℕ) (p : Pending) → p.cost ≤ cost → p.count ≤ count → Weighs cost count (Ok p)
weighs_ok cost count p c n = record { so = (c, n) }

weighs_then : (cost count more others : ℕ) (h : Held) (later : Pending → Held) → Weighs cost count h
    → ((p : Pending) → p.cost ≤ cost → p.count ≤ count → Weighs more others (later p)) → Weighs more others (and_then h later)
weighs_then cost count more others (Ok p) later c next = next p c.so.0 c.so.1
weighs_then cost count more others (Err why) later c next = record { so = c.so }

-- both what is yielded and what it weighs
weighs_known : (cost count more others : ℕ) (P : Pending → Type 0) (F : Type 0) (h : Held) (later : Pending → Held) → Weighs cost count h → Yields P F h
    → ((p : Pending) → P p → p.cost ≤ cost → p.count ≤ count → Weighs more others (later p)) → Weighs more others (and_then h later)
weighs_known cost count more others P F (Ok p) later c y next = next p y.so c.so.0 c.so.1
weighs_known cost count more others P F (Err why) later c y next = record { so = c.so }

weighs_check : (cost count : ℕ) (c : Checked) (h : Held) → IsSymbolFault c → Weighs cost count h → Weighs cost count (if_fine c h)
weighs_check cost count fine h is w = w
weighs_check cost count (bad reason place) h is w = record { so = λ e. let same : BadSymbol ≡ SymbolLimit = sym is ∙ e in absurd (cc same) }

module _ (g : Ground) where
  weighs_ignored : (cost count top : ℕ) (x : Value SymbolAt ℕ) (p : Pending) → p.cost ≤ cost → p.count ≤ count → Weighs cost count (check_ignored g.old top x p)
  weighs_ignored cost count top x p c n =
      weighs_check cost count (items_checked g.old (content_of top x)) (Ok p) (items_fault g.old (content_of top x)) (weighs_ok cost count p c n)

  weighs_counted : (cost count place c n : ℕ) (p : Pending) → p.cost + c ≤ cost → p.count + n ≤ count → cost ≤ g.limit → count ≤ most_slots
      → Weighs cost count (add_cost g.limit place c n p)
  weighs_counted cost count place c n p a b few small = by_test (nat_le (p.cost + c) g.limit && nat_le (p.count + n) most_slots) refl
    where
      by_test : (t : Bool) → nat_le (p.cost + c) g.limit && nat_le (p.count + n) most_slots ≡ t
          → Weighs cost count (if t then Ok (record p { cost = p.cost + c; count = p.count + n }) else Err (SymbolLimit, place))
      by_test true e = record { so = (a, b) }
      by_test false e =
          record {
            so = λ _. elim (and_cases (nat_le (p.cost + c) g.limit) (nat_le (p.count + n) most_slots) e) [
              | inl f ↦ omega (arith, leb-false _ _ f)
              | inr f ↦ omega (arith, leb-false _ _ f)
            ];
          }

  weighs_once : (cost count place : ℕ) (b : Bool) (p : Pending) → p.cost ≤ cost → p.count ≤ count → Weighs cost count (if b then Err (BadTable, place) else Ok p)
  weighs_once cost count place true p c n = record { so = λ e. let same : BadTable ≡ SymbolLimit = e in absurd (cc same) }
  weighs_once cost count place false p c n = record { so = (c, n) }

  weighs_field : (cost count place : ℕ) (w : Word) (p : Pending) → p.cost ≤ cost → p.count ≤ count → Weighs cost count (field_met place w p)
  weighs_field cost count place word.Imports p c n = weighs_once cost count place p.has_imports (record p { has_imports = true }) c n
  weighs_field cost count place word.Symbols p c n = weighs_once cost count place p.has_symbols (record p { has_symbols = true }) c n
  weighs_field cost count place w p c n = weighs_ok cost count p c n

  -- ---- the elements of `symbols`

  elements_weigh : (top : ℕ) (members : Members SymbolAt ℕ) (p : Pending) → p.cost + slots_cost (elements members) ≤ g.limit → p.count + length (elements members) ≤ most_slots
      → Weighs (p.cost + slots_cost (elements members)) (p.count + length (elements members)) (elements_held g top members p)
  elements_weigh top nothing p few small = weighs_ok (p.cost + 0) (p.count + 0) p (omega arith) (omega arith)
  elements_weigh top (member before field annotations place x) p few small =
      let cost = cost_push (elements before) (element x) in
      let count = length-append (elements before) (element x ∷ []) in
      weighs_then (p.cost + slots_cost (elements before)) (p.count + length (elements before)) _ _ (elements_held g top before p)
      (λ q. if_fine (checked g.old false (first_of top field annotations place x)) (element_held g top place x q))
      (elements_weigh top before p (omega (arith, cost, few)) (omega (arith, count, small)))
      (λ q c n. weighs_check _ _ (checked g.old false (first_of top field annotations place x)) (element_held g top place x q) (item_fault g.old (first_of top field annotations place x))
      (weighs_then (p.cost + slots_cost (elements before ++ element x ∷ [])) (p.count + length (elements before ++ element x ∷ [])) _ _
      (add_cost g.limit place (16 + text_length (element x)) 1 (record q { locals = q.locals ++ element x ∷ [] })) (λ r. check_ignored g.old top x r)
      (weighs_counted _ _ place (16 + text_length (element x)) 1 (record q { locals = q.locals ++ element x ∷ [] }) (omega (arith, cost, c)) (omega (arith, count, n)) few small)
      (λ r d m. weighs_ignored _ _ top x r d m)))

  -- ---- an import

  -- its name, by the value that is the first of its names
  abbrev size : Option (Value SymbolAt ℕ) → ℕ
  size o = length (name_of o)

  first_name : (base count top place : ℕ) (x : Value SymbolAt ℕ) (p : Pending) → p.cost ≤ base → p.count ≤ count → base + size (Some x) ≤ g.limit → count ≤ most_slots
      → Weighs (base + size (Some x)) count (part_held g top place word.Name x p)
  first_name base count top place (scalar (value.string t)) p c n few small =
      weighs_counted _ _ place (length t) 0 (record p { entry = record p.entry { name = t } }) (omega (arith, c)) (omega (arith, n)) few small
  first_name base count top place x p c n few small = weighs_ignored _ _ top x p (omega (arith, c)) n

  name_weighs : (base count top place fp : ℕ) (x : Value SymbolAt ℕ) (o : Option (Value SymbolAt ℕ)) (b : Bool) (q : Pending) → b ≡ is_some o → q.cost ≤ base + size o → q.count ≤ count
      → base + size (or_later o (Some x)) ≤ g.limit → count ≤ most_slots
      → Weighs (base + size (or_later o (Some x))) count
      (and_then (if b then Err (BadTable, fp) else Ok (record q { entry = record q.entry { has_name = true } })) (λ r. part_held g top place word.Name x r))
  name_weighs base count top place fp x o true q e c n few small = record { so = λ f. let same : BadTable ≡ SymbolLimit = f in absurd (cc same) }
  name_weighs base count top place fp x None false q e c n few small =
      first_name base count top place x (record q { entry = record q.entry { has_name = true } }) (omega (arith, c)) n few small
  name_weighs base count top place fp x (Some v) false q e c n few small = absurd (cc e)

  part_weighs : (base count top place fp : ℕ) (w : Word) (x : Value SymbolAt ℕ) (o : Option (Value SymbolAt ℕ)) (q : Pending) → q.entry.has_name ≡ is_some o
      → q.cost ≤ base + size o → q.count ≤ count → (later : Option (Value SymbolAt ℕ)) → later ≡ or_later o (if same_word w word.Name then Some x else None)
      → base + size later ≤ g.limit → count ≤ most_slots
      → Weighs (base + size later) count (and_then (part_met fp w q) (λ r. part_held g top place w x r))
  part_weighs base count top place fp word.Name x o q e c n later is few small =
      rw is (name_weighs base count top place fp x o q.entry.has_name q e c n (subst (λ (l : Option (Value SymbolAt ℕ)). base + size l ≤ g.limit) is few) small)
  part_weighs base count top place fp word.Version x o q e c n later is few small =
      let same : later ≡ o = is ∙ or_later-none o in
      weighs_then (base + size o) count _ _ (part_met fp word.Version q) (λ r. part_held g top place word.Version x r)
      (weighs_once _ _ fp q.entry.has_version (record q { entry = record q.entry { has_version = true } }) c n)
      (λ r d m. weighs_ignored _ _ top x (versioned (version_of (Some x)) r) (omega (arith, d, ap size same)) m)
  part_weighs base count top place fp word.MaxId x o q e c n later is few small =
      let same : later ≡ o = is ∙ or_later-none o in
      weighs_then (base + size o) count _ _ (part_met fp word.MaxId q) (λ r. part_held g top place word.MaxId x r)
      (weighs_once _ _ fp q.entry.has_max (record q { entry = record q.entry { has_max = true } }) c n)
      (λ r d m. weighs_ignored _ _ top x (cut_to (max_of (Some x)) r) (omega (arith, d, ap size same)) m)
  part_weighs base count top place fp word.Imports x o q e c n later is few small =
      let same : later ≡ o = is ∙ or_later-none o in weighs_ignored _ _ top x q (omega (arith, c, ap size same)) n
  part_weighs base count top place fp word.Symbols x o q e c n later is few small =
      let same : later ≡ o = is ∙ or_later-none o in weighs_ignored _ _ top x q (omega (arith, c, ap size same)) n
  part_weighs base count top place fp word.Declaration x o q e c n later is few small =
      let same : later ≡ o = is ∙ or_later-none o in weighs_ignored _ _ top x q (omega (arith, c, ap size same)) n
  part_weighs base count top place fp word.Other x o q e c n later is few small =
      let same : later ≡ o = is ∙ or_later-none o in weighs_ignored _ _ top x q (omega (arith, c, ap size same)) n

  later-longer : (o later : Option (Value SymbolAt ℕ)) → size o ≤ size (or_later o later)
  later-longer None later = omega arith
  later-longer (Some v) later = omega arith

  parts_weigh : (top start : ℕ) (members : Members SymbolAt ℕ) (p : Pending) → p.cost + size (value_of (text_at g.old) word.Name members) ≤ g.limit → p.count ≤ most_slots
      → Weighs (p.cost + size (value_of (text_at g.old) word.Name members)) p.count (parts_held g top members (record p { entry = new_entry start }))
  parts_weigh top start nothing p few small = weighs_ok (p.cost + 0) p.count (record p { entry = new_entry start }) (omega arith) (omega arith)
  parts_weigh top start (member before field annotations place x) p few small =
      let texts : ℕ → Option (List ℕ) = text_at g.old in
      let w : Word = field_word texts field in
      let first : PlacedItem = first_of top field annotations place x in
      let o : Option (Value SymbolAt ℕ) = value_of texts word.Name before in
      let later : Option (Value SymbolAt ℕ) = or_later o (if same_word w word.Name then Some x else None) in
      let longer : size o ≤ size later = later-longer o (if same_word w word.Name then Some x else None) in
      weighs_known (p.cost + size o) p.count _ _ (PartsOf texts before (core p)) _ (parts_held g top before (record p { entry = new_entry start }))
      (λ q. if_fine (checked g.old false first) (and_then (part_met (place_in field) w q) (λ r. part_held g top place w x r)))
      (parts_weigh top start before p (omega (arith, longer, few)) small) (parts_yield g top start before p)
      (λ q h c n. weighs_check _ _ (checked g.old false first) (and_then (part_met (place_in field) w q) (λ r. part_held g top place w x r)) (item_fault g.old first)
      (part_weighs p.cost p.count top place (place_in field) w x o q h.has_name c n later refl few small))

  -- its end, by what it is
  abbrev Ends : ℕ → ℕ → Pending → List ℕ → ℕ → Option ℕ → Type 0
  Ends base count q name version most =
      q.cost ≤ base + length name → q.count ≤ count → base + (if is_ignored name then 0 else 32) ≤ g.limit → count + slots_in (import_by g.catalog name version most) ≤ most_slots
      → Weighs (base + (if is_ignored name then 0 else 32)) (count + slots_in (import_by g.catalog name version most)) (import_ended g q)

  ended : (base count : ℕ) (q : Pending) → Ends base count q q.entry.name q.entry.version q.entry.max_id
  ended base count q c n few small = by_name (is_ignored q.entry.name) few small
    where
      by_table : (o : Option Import) → base + 32 ≤ g.limit → count + slots_in (option_map (λ i. i ∷ []) o) ≤ most_slots
          → Weighs (base + 32) (count + slots_in (option_map (λ i. i ∷ []) o)) (with_import g (given_back q) o)
      by_table None few small = record { so = λ f. let same : BadTable ≡ SymbolLimit = f in absurd (cc same) }
      by_table (Some i) few small =
          weighs_counted _ _ q.entry.place 32 i.count (nameless (record (given_back q) { imports = q.imports ++ i ∷ [] })) (omega (arith, c)) (omega (arith, n)) few small

      by_name : (b : Bool) → base + (if b then 0 else 32) ≤ g.limit
          → count + slots_in (if b then Some [] else option_map (λ i. i ∷ []) (import_of g.catalog q.entry.name q.entry.version q.entry.max_id)) ≤ most_slots
          → Weighs (base + (if b then 0 else 32))
          (count + slots_in (if b then Some [] else option_map (λ i. i ∷ []) (import_of g.catalog q.entry.name q.entry.version q.entry.max_id)))
          (if b then Ok (nameless (given_back q)) else with_import g (given_back q) (import_of g.catalog q.entry.name q.entry.version q.entry.max_id))
      by_name true few small = weighs_ok _ _ (nameless (given_back q)) (omega (arith, c)) (omega (arith, n))
      by_name false few small = by_table (import_of g.catalog q.entry.name q.entry.version q.entry.max_id) few small

  ended_weighs : (base count : ℕ) (name : List ℕ) (version : ℕ) (most : Option ℕ) (q : Pending) → q.entry.name ≡ name → q.entry.version ≡ version
      → q.entry.max_id ≡ most → Ends base count q name version most
  ended_weighs base count name version most q e v m =
      subst (λ (t : List ℕ). Ends base count q t version most) e
      (subst (λ (n : ℕ). Ends base count q q.entry.name n most) v (subst (λ (o : Option ℕ). Ends base count q q.entry.name q.entry.version o) m (ended base count q)))

  import_weighs : (top place : ℕ) (x : Value SymbolAt ℕ) (p : Pending) → p.cost + name_size (text_at g.old) x ≤ g.limit → p.cost + import_kept (text_at g.old) x ≤ g.limit
      → p.count + slots_in (value_import g.catalog (text_at g.old) x) ≤ most_slots
      → Weighs (p.cost + import_kept (text_at g.old) x) (p.count + slots_in (value_import g.catalog (text_at g.old) x)) (import_held g top place x p)
  import_weighs top place (container kind.Struct members last) p named few small =
      let texts : ℕ → Option (List ℕ) = text_at g.old in
      weighs_known (p.cost + size (value_of texts word.Name members)) p.count _ _ (PartsOf texts members (core p)) _ (parts_held g top members (record p { entry = new_entry place }))
      (λ q. import_ended g q) (parts_weigh top place members p named (omega (arith, small))) (parts_yield g top place members p)
      (λ q h c n. ended_weighs p.cost p.count (name_of (value_of texts word.Name members)) (version_of (value_of texts word.Version members))
      (max_of (value_of texts word.MaxId members)) q h.name_is h.version_is h.max_is c n few small)
  import_weighs top place x p named few small = weighs_ignored _ _ top x p (omega arith) (omega arith)

  weighs_more : (cost count more others : ℕ) (h : Held) → Weighs cost count h → cost ≤ more → count ≤ others → Weighs more others h
  weighs_more cost count more others (Ok p) c a b = record { so = (omega (arith, c.so.0), omega (arith, c.so.1)) }
  weighs_more cost count more others (Err why) c a b = record { so = c.so }

  imports_weigh : (top : ℕ) (members : Members SymbolAt ℕ) (base : ℕ) (p : Pending) → p.cost ≤ base → NamesFit g.limit base (text_at g.old) members
      → base + imports_kept (text_at g.old) members ≤ g.limit → p.count + imports_slots g members ≤ most_slots
      → Weighs (base + imports_kept (text_at g.old) members) (p.count + imports_slots g members) (imports_held g top members p)
  imports_weigh top nothing base p c named few small = weighs_ok _ _ p (omega (arith, c)) (omega arith)
  imports_weigh top (member before field annotations place x) base p c named few small =
      let first : PlacedItem = first_of top field annotations place x in
      let own = named.1 in
      weighs_then (base + imports_kept (text_at g.old) before) (p.count + imports_slots g before) _ _ (imports_held g top before p)
      (λ q. if_fine (checked g.old false first) (import_held g top place x q)) (imports_weigh top before base p c named.0 (omega (arith, few)) (omega (arith, small)))
      (λ q d n. weighs_check _ _ (checked g.old false first) (import_held g top place x q) (item_fault g.old first)
      (weighs_more _ _ _ _ (import_held g top place x q) (import_weighs top place x q (omega (arith, d, own)) (omega (arith, d, few)) (omega (arith, n, small))) (omega (arith, d)) (omega (arith, n))))

  -- ---- the fields of the declaration

  keeping_weighs : (place : ℕ) (w : Word) (p : Pending) → p.cost + if_kept w (table_cost g.old) ≤ g.limit → p.count + if_kept w (count_of g.old) ≤ most_slots
      → Weighs (p.cost + if_kept w (table_cost g.old)) (p.count + if_kept w (count_of g.old)) (keeping_by g place w p)
  keeping_weighs place word.Declaration p few small = weighs_counted _ _ place (table_cost g.old) (count_of g.old) (record p { keeps = true }) (omega arith) (omega arith) few small
  keeping_weighs place w p few small = weighs_ok _ _ p (omega arith) (omega arith)

  field_weighs : (top place : ℕ) (w : Word) (x : Value SymbolAt ℕ) (base : ℕ) (p : Pending) → p.cost ≤ base → FieldFits g base w x → base + field_kept g w x ≤ g.limit
      → p.count + field_slots g w x ≤ most_slots
      → Weighs (base + field_kept g w x) (p.count + field_slots g w x) (field_held g top place w x p)
  field_weighs top place word.Imports (container kind.List members last) base p c named few small = imports_weigh top members base p c named few small
  field_weighs top place word.Imports (scalar (value.symbol s)) base p c named few small =
      weighs_more _ _ _ _ _ (keeping_weighs place (word_in (text_at g.old) s.symbol) p (omega (arith, c, few)) small) (omega (arith, c)) (omega arith)
  field_weighs top place word.Symbols (container kind.List members last) base p c named few small =
      weighs_more _ _ _ _ _ (elements_weigh top members p (omega (arith, c, few)) small) (omega (arith, c)) (omega arith)
  field_weighs top place w x base p c named few small = weighs_ignored _ _ top x p (omega (arith, c)) (omega arith)

  fields_weigh : (top : ℕ) (members : Members SymbolAt ℕ) → FieldsFit g members → fields_kept g members ≤ g.limit → fields_slots g members ≤ most_slots
      → Weighs (fields_kept g members) (fields_slots g members) (fields_held g top members nothing_yet)
  fields_weigh top nothing named few small = weighs_ok 0 0 nothing_yet (omega arith) (omega arith)
  fields_weigh top (member before field annotations place x) named few small =
      let w : Word = field_word (text_at g.old) field in
      let first : PlacedItem = first_of top field annotations place x in
      weighs_then (fields_kept g before) (fields_slots g before) _ _ (fields_held g top before nothing_yet)
      (λ q. if_fine (checked g.old false first) (and_then (field_met (place_in field) w q) (λ r. field_held g top place w x r)))
      (fields_weigh top before named.0 (omega (arith, few)) (omega (arith, small)))
      (λ q c n. weighs_check _ _ (checked g.old false first) (and_then (field_met (place_in field) w q) (λ r. field_held g top place w x r)) (item_fault g.old first)
      (weighs_then (fields_kept g before) (fields_slots g before) _ _ (field_met (place_in field) w q) (λ r. field_held g top place w x r)
      (weighs_field (fields_kept g before) (fields_slots g before) (place_in field) w q c n)
      (λ r d m. weighs_more _ _ _ _ (field_held g top place w x r) (field_weighs top place w x (fields_kept g before) r d named.1 few (omega (arith, m, small))) (omega arith) (omega (arith, m)))))

  -- so a limit does not refuse it
  pub no-limit : (top : ℕ) (members : Members SymbolAt ℕ) (why : Reason × ℕ) → FieldsFit g members → fields_kept g members ≤ g.limit → fields_slots g members ≤ most_slots
      → fields_held g top members nothing_yet ≡ Err why → why.0 ≡ SymbolLimit → ⊥
  no-limit top members why named few small e = by_held (fields_held g top members nothing_yet) (fields_weigh top members named few small) e
    where
      by_held : (h : Held) → Weighs (fields_kept g members) (fields_slots g members) h → h ≡ Err why → why.0 ≡ SymbolLimit → ⊥
      by_held (Ok p) c is f = absurd (cc is)
      by_held (Err other) c is f = let same : other ≡ why = cc is in c.so (ap (λ (w : Reason × ℕ). w.0) same ∙ f)
