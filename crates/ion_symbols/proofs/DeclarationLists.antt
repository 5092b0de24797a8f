-- What the lists of a declaration say, and when they are at fault, member by member: `symbols`, and `imports` with its structs.
use Rattle.std.proofs.Common.{◌≡◌, ℕ, ◌+◌, ◌<◌, ◌⊎◌, inl, inr, refl, ap, sym, ◌∙◌, Bool, true, false, if◌then◌else◌, List, [], ◌∷◌, ◌++◌, length, append_assoc, append-nil, Option, Some, None, is_some, option_map, Ok, arith}
use Rattle.ion_value.specs.declared.ion_type.Kind.TheVariants as kind
use Rattle.ion_value.specs.Value as value
use Rattle.ion_value.specs.Value.{SymbolAt, Value, Members, scalar, container, nothing, member}
use Rattle.ion_symbols.specs.declared.known_text.Word.{Word}
use Rattle.ion_symbols.specs.declared.known_text.Word.TheVariants as word
use Rattle.ion_symbols.specs.Table.{Slots, Import, text_at, text_length}
use Rattle.ion_symbols.specs.Declaration.{Ground, Pending, part_met, import_ended, new_entry, field_word, place_in, is_ignored, import_of, with_import, nameless, given_back}
use Rattle.ion_symbols.specs.Tree.{same_word, or_later, value_of, element, elements, name_of, version_of, max_of, import_by, value_import, both, imports_in, and_then, first_of, element_held, elements_held, part_held, parts_held, import_held, imports_held}
use Rattle.ion_symbols.specs.Laws.{one_if, fields_named, IsTwice, ImportIsDoubled, SomeImport}
use Rattle.ion_symbols.proofs.Yields.{Yields, yields_ok, yields_fault, yields_then, yields_more, yields_fine, yields_ignored, yields_counted, yields_once}

-- what a pending table is but for its counts and the import that is being read
pub record Core : Type 0 where
  pub has_imports : Bool
  pub has_symbols : Bool
  pub keeps : Bool
  pub imports : List Import
  pub locals : Slots

abbrev pub core : Pending → Core
core p = record { has_imports = p.has_imports; has_symbols = p.has_symbols; keeps = p.keeps; imports = p.imports; locals = p.locals }

-- ---- the elements of `symbols`

-- some slots more
abbrev pub longer : Core → Slots → Core
longer c slots = record c { locals = c.locals ++ slots }

-- none more, and some more twice
longer-none : (c : Core) → c ≡ longer c []
longer-none c = ap (λ (slots : Slots). record c { locals = slots }) (sym (append-nil c.locals))

longer-twice : (c : Core) (xs ys : Slots) → longer (longer c xs) ys ≡ longer c (xs ++ ys)
longer-twice c xs ys = ap (λ (slots : Slots). record c { locals = slots }) (append_assoc c.locals xs ys)

-- an element is one slot more
element_yields : {F : Type 0} (g : Ground) (top place : ℕ) (x : Value SymbolAt ℕ) (c : Core) (slots : Slots) (q : Pending)
    → core q ≡ longer c slots → Yields (λ r. core r ≡ longer c (slots ++ element x ∷ [])) F (element_held g top place x q)
element_yields g top place x c slots q e =
    yields_then (yields_counted g.limit place (16 + text_length (element x)) 1 (record q { locals = q.locals ++ element x ∷ [] })
    (λ cost count. ap (λ d. longer d (element x ∷ [])) e ∙ longer-twice c slots (element x ∷ [])))
    (λ f. f) (λ r h. yields_ignored g.old top x r h)

-- the elements of `symbols` are so many slots more, and never at fault
pub elements_yield : {F : Type 0} (g : Ground) (top : ℕ) (members : Members SymbolAt ℕ) (p : Pending)
    → Yields (λ q. core q ≡ longer (core p) (elements members)) F (elements_held g top members p)
elements_yield g top nothing p = yields_ok (longer-none (core p))
elements_yield g top (member before field annotations place x) p =
    yields_then (elements_yield g top before p) (λ f. f)
    (λ q e. yields_fine g.old (first_of top field annotations place x) (element_yields g top place x (core p) (elements before) q e))

-- ---- values and numbers of fields

-- the value of the first field of a name, with a field more
abbrev pub or_this : Option (Value SymbolAt ℕ) → Word → Word → Value SymbolAt ℕ → Option (Value SymbolAt ℕ)
or_this o w name x = or_later o (if same_word w name then Some x else None)

-- nothing later
pub or_later-none : (o : Option (Value SymbolAt ℕ)) → or_later o None ≡ o
or_later-none None = refl
or_later-none (Some x) = refl

-- where fields have a value if there is one, the same holds with a field more
found_by : (o : Option (Value SymbolAt ℕ)) (n : ℕ) (b : Bool) (x : Value SymbolAt ℕ) → (is_some o ≡ true → 0 < n)
    → is_some (or_later o (if b then Some x else None)) ≡ true → 0 < n + one_if b
found_by (Some v) n b x h e = omega (arith, h refl)
found_by None n true x h e = omega arith
found_by None n false x h e = cc

-- where a field of a name has a value, one has that name
found : (texts : ℕ → Option (List ℕ)) (w : Word) (members : Members SymbolAt ℕ) → is_some (value_of texts w members) ≡ true → 0 < fields_named texts w members
found texts w nothing e = cc
found texts w (member before field annotations place x) e =
    found_by (value_of texts w before) (fields_named texts w before) (same_word (field_word texts field) w) x (found texts w before) e

-- with a field more of that name two have it
pub again : (texts : ℕ → Option (List ℕ)) (w : Word) (before : Members SymbolAt ℕ) (b : Bool) → is_some (value_of texts w before) ≡ true → b ≡ true
    → 1 < fields_named texts w before + one_if b
again texts w before b e f = rw f (omega (arith, found texts w before e))

-- ---- the fields of an import

-- the import that is being read is what its fields say so far, by the values of its name, version and greatest id
pub record Parts (name version most : Option (Value SymbolAt ℕ)) (c : Core) (q : Pending) : Type 0 where
  pub same : core q ≡ c
  pub has_name : q.entry.has_name ≡ is_some name
  pub has_version : q.entry.has_version ≡ is_some version
  pub has_max : q.entry.has_max ≡ is_some most
  pub name_is : q.entry.name ≡ name_of name
  pub version_is : q.entry.version ≡ version_of version
  pub max_is : q.entry.max_id ≡ max_of most

-- its first name
name_yields : {F : Type 0} (g : Ground) (top place : ℕ) (x : Value SymbolAt ℕ) (v m : Option (Value SymbolAt ℕ)) (c : Core) (q : Pending)
    → Parts None v m c q → Yields (Parts (Some x) v m c) F (part_held g top place word.Name x (record q { entry = record q.entry { has_name = true } }))
name_yields g top place (scalar (value.string t)) v m c q h =
    yields_counted g.limit place (length t) 0 (record q { entry = record q.entry { has_name = true; name = t } }) (λ cost count. record {
      same = h.same;
      has_name = refl;
      has_version = h.has_version;
      has_max = h.has_max;
      name_is = refl;
      version_is = h.version_is;
      max_is = h.max_is;
    })
name_yields g top place x v m c q h =
    yields_ignored g.old top x (record q { entry = record q.entry { has_name = true } }) (record {
      same = h.same;
      has_name = refl;
      has_version = h.has_version;
      has_max = h.has_max;
      name_is = h.name_is;
      version_is = h.version_is;
      max_is = h.max_is;
    })

-- its first version
version_yields : {F : Type 0} (g : Ground) (top place : ℕ) (x : Value SymbolAt ℕ) (n m : Option (Value SymbolAt ℕ)) (c : Core) (q : Pending)
    → Parts n None m c q → Yields (Parts n (Some x) m c) F (part_held g top place word.Version x (record q { entry = record q.entry { has_version = true } }))
version_yields g top place x n m c q h =
    yields_ignored g.old top x (record q { entry = record q.entry { has_version = true; version = version_of (Some x) } }) (record {
      same = h.same;
      has_name = h.has_name;
      has_version = refl;
      has_max = h.has_max;
      name_is = h.name_is;
      version_is = refl;
      max_is = h.max_is;
    })

-- its first greatest id
max_yields : {F : Type 0} (g : Ground) (top place : ℕ) (x : Value SymbolAt ℕ) (n v : Option (Value SymbolAt ℕ)) (c : Core) (q : Pending)
    → Parts n v None c q → Yields (Parts n v (Some x) c) F (part_held g top place word.MaxId x (record q { entry = record q.entry { has_max = true } }))
max_yields g top place x n v c q h =
    yields_ignored g.old top x (record q { entry = record q.entry { has_max = true; max_id = max_of (Some x) } }) (record {
      same = h.same;
      has_name = h.has_name;
      has_version = h.has_version;
      has_max = refl;
      name_is = h.name_is;
      version_is = h.version_is;
      max_is = refl;
    })

-- a field of an import: one that stood before is a fault
part_yields : {F : Type 0} (g : Ground) (top field_place place : ℕ) (w : Word) (x : Value SymbolAt ℕ) (n v m : Option (Value SymbolAt ℕ)) (c : Core) (q : Pending)
    → Parts n v m c q
    → (is_some n ≡ true → same_word w word.Name ≡ true → F) → (is_some v ≡ true → same_word w word.Version ≡ true → F)
    → (is_some m ≡ true → same_word w word.MaxId ≡ true → F)
    → Yields (Parts (or_this n w word.Name x) (or_this v w word.Version x) (or_this m w word.MaxId x) c) F
    (and_then (part_met field_place w q) (λ r. part_held g top place w x r))
part_yields g top field_place place word.Name x None v m c q h name version most =
    rw (or_later-none v, or_later-none m)
    (yields_once field_place q.entry.has_name (record q { entry = record q.entry { has_name = true } }) (λ r. part_held g top place word.Name x r)
    (λ e. let none = h.has_name in cc) (λ e. name_yields g top place x v m c q h))
part_yields g top field_place place word.Name x (Some y) v m c q h name version most =
    rw (or_later-none v, or_later-none m)
    (yields_once field_place q.entry.has_name (record q { entry = record q.entry { has_name = true } }) (λ r. part_held g top place word.Name x r)
    (λ e. name refl refl) (λ e. let some = h.has_name in cc))
part_yields g top field_place place word.Version x n None m c q h name version most =
    rw (or_later-none n, or_later-none m)
    (yields_once field_place q.entry.has_version (record q { entry = record q.entry { has_version = true } }) (λ r. part_held g top place word.Version x r)
    (λ e. let none = h.has_version in cc) (λ e. version_yields g top place x n m c q h))
part_yields g top field_place place word.Version x n (Some y) m c q h name version most =
    rw (or_later-none n, or_later-none m)
    (yields_once field_place q.entry.has_version (record q { entry = record q.entry { has_version = true } }) (λ r. part_held g top place word.Version x r)
    (λ e. version refl refl) (λ e. let some = h.has_version in cc))
part_yields g top field_place place word.MaxId x n v None c q h name version most =
    rw (or_later-none n, or_later-none v)
    (yields_once field_place q.entry.has_max (record q { entry = record q.entry { has_max = true } }) (λ r. part_held g top place word.MaxId x r)
    (λ e. let none = h.has_max in cc) (λ e. max_yields g top place x n v c q h))
part_yields g top field_place place word.MaxId x n v (Some y) c q h name version most =
    rw (or_later-none n, or_later-none v)
    (yields_once field_place q.entry.has_max (record q { entry = record q.entry { has_max = true } }) (λ r. part_held g top place word.MaxId x r)
    (λ e. most refl refl) (λ e. let some = h.has_max in cc))
part_yields g top field_place place w x n v m c q h name version most =
    rw (or_later-none n, or_later-none v, or_later-none m) (yields_ignored g.old top x q h)

-- a field of an import that may stand once stands twice
abbrev pub Twice : (ℕ → Option (List ℕ)) → Members SymbolAt ℕ → Type 0
Twice texts members = IsTwice texts members word.Name ⊎ (IsTwice texts members word.Version ⊎ IsTwice texts members word.MaxId)

-- and with a field more it still does
twice_more : (texts : ℕ → Option (List ℕ)) (before : Members SymbolAt ℕ) (field : Option SymbolAt) (annotations : List SymbolAt) (place : ℕ) (x : Value SymbolAt ℕ)
    → Twice texts before → Twice texts (member before field annotations place x)
twice_more texts before field annotations place x (inl h) = inl (omega arith)
twice_more texts before field annotations place x (inr (inl h)) = inr (inl (omega arith))
twice_more texts before field annotations place x (inr (inr h)) = inr (inr (omega arith))

-- the parts by all fields
abbrev pub PartsOf : (ℕ → Option (List ℕ)) → Members SymbolAt ℕ → Core → Pending → Type 0
PartsOf texts members c q = Parts (value_of texts word.Name members) (value_of texts word.Version members) (value_of texts word.MaxId members) c q

-- the fields of an import
pub parts_yield : (g : Ground) (top start : ℕ) (members : Members SymbolAt ℕ) (p : Pending)
    → Yields (PartsOf (text_at g.old) members (core p)) (Twice (text_at g.old) members) (parts_held g top members (record p { entry = new_entry start }))
parts_yield g top start nothing p =
    yields_ok (record { same = refl; has_name = refl; has_version = refl; has_max = refl; name_is = refl; version_is = refl; max_is = refl })
parts_yield g top start (member before field annotations place x) p =
    let texts : ℕ → Option (List ℕ) = text_at g.old in
    let w : Word = field_word texts field in
    yields_then (parts_yield g top start before p) (twice_more texts before field annotations place x)
    (λ q h. yields_fine g.old (first_of top field annotations place x)
    (part_yields g top (place_in field) place w x (value_of texts word.Name before) (value_of texts word.Version before) (value_of texts word.MaxId before)
    (core p) q h
    (λ e f. inl (again texts word.Name before (same_word w word.Name) e f))
    (λ e f. inr (inl (again texts word.Version before (same_word w word.Version) e f)))
    (λ e f. inr (inr (again texts word.MaxId before (same_word w word.MaxId) e f)))))

-- ---- the elements of `imports`

-- the imports of a pending table are those before and these
pub record Gains (c : Core) (more : Option (List Import)) (q : Pending) : Type 0 where
  pub extra : List Import
  pub are : more ≡ Some extra
  pub is : core q ≡ record c { imports = c.imports ++ extra }

-- no import more
gains-none : (c : Core) (q : Pending) → core q ≡ c → Gains c (Some []) q
gains-none c q e = record { extra = []; are = refl; is = e ∙ ap (λ (imports : List Import). record c { imports = imports }) (sym (append-nil c.imports)) }

-- a table that isn't there is a fault
with_yields : (g : Ground) (c : Core) (p : Pending) (o : Option Import) → core p ≡ c
    → Yields (Gains c (option_map (λ i. i ∷ []) o)) (option_map (λ i. i ∷ []) o ≡ None) (with_import g p o)
with_yields g c p None e = yields_fault p.entry.place refl
with_yields g c p (Some i) e =
    yields_counted g.limit p.entry.place 32 i.count (nameless (record p { imports = p.imports ++ i ∷ [] }))
    (λ cost count. record { extra = i ∷ []; are = refl; is = ap (λ (d : Core). record d { imports = d.imports ++ i ∷ [] }) e })

-- an import that is ignored, and another
ended_by : (g : Ground) (c : Core) (p : Pending) (b : Bool) (o : Option Import) → core p ≡ c
    → Yields (Gains c (if b then Some [] else option_map (λ i. i ∷ []) o)) ((if b then Some [] else option_map (λ i. i ∷ []) o) ≡ None)
    (if b then Ok (nameless p) else with_import g p o)
ended_by g c p true o e = yields_ok (gains-none c (nameless p) e)
ended_by g c p false o e = with_yields g c p o e

-- an import's struct ends
ended_yields : (g : Ground) (c : Core) (name : List ℕ) (version : ℕ) (most : Option ℕ) (q : Pending) → core q ≡ c → q.entry.name ≡ name
    → q.entry.version ≡ version → q.entry.max_id ≡ most
    → Yields (Gains c (import_by g.catalog name version most)) (import_by g.catalog name version most ≡ None) (import_ended g q)
ended_yields g c name version most q e n v m =
    rw (sym n, sym v, sym m) (ended_by g c (given_back q) (is_ignored q.entry.name) (import_of g.catalog q.entry.name q.entry.version q.entry.max_id) e)

-- an element of `imports` is at fault
abbrev ImportFault : Ground → Value SymbolAt ℕ → Type 0
ImportFault g x = ImportIsDoubled (text_at g.old) x ⊎ (value_import g.catalog (text_at g.old) x ≡ None)

-- an element of `imports` is the imports that it stands for
import_yields : (g : Ground) (top place : ℕ) (x : Value SymbolAt ℕ) (p : Pending)
    → Yields (Gains (core p) (value_import g.catalog (text_at g.old) x)) (ImportFault g x) (import_held g top place x p)
import_yields g top place (container kind.Struct members last) p =
    let texts : ℕ → Option (List ℕ) = text_at g.old in
    yields_then (parts_yield g top place members p) inl
    (λ q h. yields_more
    (ended_yields g (core p) (name_of (value_of texts word.Name members)) (version_of (value_of texts word.Version members))
    (max_of (value_of texts word.MaxId members))
    q h.same h.name_is h.version_is h.max_is)
    inr (λ r gains. gains))
import_yields g top place x p = yields_ignored g.old top x p (gains-none (core p) p refl)

-- a list in which the last import isn't there
both-none : (o : Option (List Import)) → both o None ≡ None
both-none None = refl
both-none (Some xs) = refl

-- a list of imports is at fault
abbrev pub ImportsFault : Ground → Members SymbolAt ℕ → Type 0
ImportsFault g members = SomeImport (text_at g.old) members ⊎ (imports_in g.catalog (text_at g.old) members ≡ None)

-- where an element before is, or the last
before_fault : (g : Ground) (before : Members SymbolAt ℕ) (field : Option SymbolAt) (annotations : List SymbolAt) (place : ℕ) (x : Value SymbolAt ℕ)
    → ImportsFault g before → ImportsFault g (member before field annotations place x)
before_fault g before field annotations place x (inl h) = inl (inl h)
before_fault g before field annotations place x (inr h) = inr (rw h refl)

here_fault : (g : Ground) (before : Members SymbolAt ℕ) (field : Option SymbolAt) (annotations : List SymbolAt) (place : ℕ) (x : Value SymbolAt ℕ)
    → ImportFault g x → ImportsFault g (member before field annotations place x)
here_fault g before field annotations place x (inl h) = inl (inr h)
here_fault g before field annotations place x (inr h) = inr (rw h (both-none (imports_in g.catalog (text_at g.old) before)))

-- imports after imports
gains-both : (c : Core) (a b : Option (List Import)) (q r : Pending) → Gains c a q → Gains (core q) b r → Gains c (both a b) r
gains-both c a b q r g h =
    record {
      extra = g.extra ++ h.extra;
      are = rw (g.are, h.are) refl;
      is = h.is
          ∙ ap (λ (d : Core). record d { imports = d.imports ++ h.extra }) g.is
          ∙ ap (λ (imports : List Import). record c { imports = imports }) (append_assoc c.imports g.extra h.extra);
    }

-- the elements of `imports` are the imports that they stand for
pub imports_yield : (g : Ground) (top : ℕ) (members : Members SymbolAt ℕ) (p : Pending)
    → Yields (Gains (core p) (imports_in g.catalog (text_at g.old) members)) (ImportsFault g members) (imports_held g top members p)
imports_yield g top nothing p = yields_ok (gains-none (core p) p refl)
imports_yield g top (member before field annotations place x) p =
    yields_then (imports_yield g top before p) (before_fault g before field annotations place x)
    (λ q h. yields_fine g.old (first_of top field annotations place x)
    (yields_more (import_yields g top place x q) (here_fault g before field annotations place x)
    (λ r gains. gains-both (core p) (imports_in g.catalog (text_at g.old) before) (value_import g.catalog (text_at g.old) x) q r h gains)))
