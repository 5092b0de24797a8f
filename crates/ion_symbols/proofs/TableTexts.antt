-- Whatever is true of the texts of a catalogue, of a table and of the strings of a declaration is true of those of the table that it leaves.
use Rattle.std.proofs.Common.{ℕ, zero, suc, ◌-◌, Bool, true, false, ◌&&◌, nat_lt, if◌then◌else◌, List, [], ◌∷◌, slice_get, Option, None, Some, IfSome, option_map}
use Rattle.std.specs.List.{AllByRecursion}
use Rattle.std.specs.Bool.{⊤}
use Rattle.std.specs.Str.{bytes_eq}
use Rattle.ion_value.specs.declared.ion_type.Kind.TheVariants as kind
use Rattle.ion_value.specs.Value as value
use Rattle.ion_value.specs.Value.{SymbolAt, Value, Members, scalar, container, nothing, member}
use Rattle.ion_symbols.specs.declared.known_text.Word.{Word}
use Rattle.ion_symbols.specs.declared.known_text.Word.TheVariants as word
use Rattle.ion_symbols.specs.Table as slot
use Rattle.ion_symbols.specs.Table.{Slots, Slot, Shared, Import, Table, system, system_slots, local_slot, import_slot, slot_in, slot_of, is_table, find, greater, greatest_from}
use Rattle.ion_symbols.specs.Declaration.{field_word, word_in, slots_found, whole_import, or_greatest, import_of, is_ignored}
use Rattle.ion_symbols.specs.TextsOfUsers.{SlotHas, CatalogHas, ValueHas, MembersHave}
use Rattle.ion_symbols.specs.Tree.{same_word, or_later, value_of, element, elements, locals_of, name_of, version_of, max_of, import_by, value_import, both, imports_in, with_imports, by_word, by_imports, next_table}
use Rattle.ion_symbols.proofs.AllAppended.{AllByRecursion-append}

-- the first of two, and the second where a test holds
pub or_later-if : {A : Type 0} (Q : A → Type 0) (earlier : Option A) (b : Bool) (x : A) → IfSome earlier Q → Q x
    → IfSome (or_later earlier (if b then Some x else None)) Q
or_later-if Q (Some y) b x h k = h
or_later-if Q None true x h k = k
or_later-if Q None false x h k = tt

module _ (P : List ℕ → Type 0) where
  -- of the texts of slots
  abbrev pub SlotsHave : Slots → Type 0
  SlotsHave slots = AllByRecursion (SlotHas P) slots

  -- of the texts of imports
  abbrev ImportsHave : List Import → Type 0
  ImportsHave imports = AllByRecursion (λ (i : Import). SlotsHave i.slots) imports

  -- and of all of a table
  pub record TableHas (t : Table) : Type 0 where
    pub imports : ImportsHave t.imports
    pub locals : SlotsHave t.locals

  -- ---- the slots of a table

  pub system-has : TableHas system
  system-has = record { imports = tt; locals = tt }

  -- a slot's text, where it has one
  abbrev pub KnownHas : Slot → Type 0
  KnownHas (slot.known t) = P t
  KnownHas _ = ⊤

  local_slot-has : (slots : Slots) (place : ℕ) → SlotsHave slots → KnownHas (local_slot (slice_get slots place))
  local_slot-has [] place h = tt
  local_slot-has (None ∷ slots) zero h = tt
  local_slot-has (Some t ∷ slots) zero h = h.0
  local_slot-has (s ∷ slots) (suc place) h = local_slot-has slots place h.1

  import_slot-has : (slots : Slots) (place : ℕ) → SlotsHave slots → KnownHas (import_slot (slice_get slots place))
  import_slot-has [] place h = tt
  import_slot-has (None ∷ slots) zero h = tt
  import_slot-has (Some t ∷ slots) zero h = h.0
  import_slot-has (s ∷ slots) (suc place) h = import_slot-has slots place h.1

  -- one of two slots
  if-has : (b : Bool) (x y : Slot) → KnownHas x → KnownHas y → KnownHas (if b then x else y)
  if-has true x y h k = h
  if-has false x y h k = k

  slot_in-has : (imports : List Import) (locals : Slots) (place : ℕ) → ImportsHave imports → SlotsHave locals
      → KnownHas (slot_in imports locals place)
  slot_in-has [] locals place h k = local_slot-has locals place k
  slot_in-has (i ∷ is) locals place h k =
      if-has (nat_lt place i.count) (import_slot (slice_get i.slots place)) (slot_in is locals (place - i.count))
      (import_slot-has i.slots place h.0) (slot_in-has is locals (place - i.count) h.1 k)

  pub slot_of-has : SlotsHave system_slots → (t : Table) (id : ℕ) → TableHas t → KnownHas (slot_of t id)
  slot_of-has standard t id h =
      if-has (nat_lt id 10) (local_slot (slice_get system_slots id)) (slot_in t.imports t.locals (id - 10))
      (local_slot-has system_slots id standard) (slot_in-has t.imports t.locals (id - 10) h.imports h.locals)

  -- ---- the tables of a catalogue

  -- the texts of a table that was found, if any
  abbrev pub FoundHas : Option Shared → Type 0
  FoundHas found = IfSome found (λ s. SlotsHave s.slots)

  -- one of two such tables
  if-found : (b : Bool) (s t : Option Shared) → FoundHas s → FoundHas t → FoundHas (if b then s else t)
  if-found true s t h k = h
  if-found false s t h k = k

  find-has : (catalog : List Shared) (name : List ℕ) (version : ℕ) → CatalogHas P catalog → FoundHas (find catalog name version)
  find-has [] name version h = tt
  find-has (s ∷ ss) name version h =
      if-found (is_table name version s) (Some s) (find ss name version) h.0 (find-has ss name version h.1)

  greater-has : (name : List ℕ) (best : Option Shared) (s : Shared) → FoundHas best → SlotsHave s.slots
      → FoundHas (greater name best s)
  greater-has name None s h k = if-found (bytes_eq s.name name) (Some s) None k tt
  greater-has name (Some b) s h k = if-found (bytes_eq s.name name && nat_lt b.version s.version) (Some s) (Some b) k h

  greatest_from-has : (name : List ℕ) (best : Option Shared) (catalog : List Shared) → FoundHas best → CatalogHas P catalog
      → FoundHas (greatest_from name best catalog)
  greatest_from-has name best [] h k = h
  greatest_from-has name best (s ∷ ss) h k = greatest_from-has name (greater name best s) ss (greater-has name best s h k.0) k.1

  or_greatest-has : (catalog : List Shared) (name : List ℕ) (found : Option Shared) → CatalogHas P catalog → FoundHas found
      → FoundHas (or_greatest catalog name found)
  or_greatest-has catalog name None h k = greatest_from-has name None catalog tt h
  or_greatest-has catalog name (Some s) h k = k

  -- ---- imports

  whole_import-has : (found : Option Shared) → FoundHas found → IfSome (whole_import found) (λ i. SlotsHave i.slots)
  whole_import-has None h = tt
  whole_import-has (Some s) h = h

  slots_found-has : (found : Option Shared) → FoundHas found → SlotsHave (slots_found found)
  slots_found-has None h = tt
  slots_found-has (Some s) h = h

  import_of-has : (catalog : List Shared) (name : List ℕ) (version : ℕ) (most : Option ℕ) → CatalogHas P catalog
      → IfSome (import_of catalog name version most) (λ i. SlotsHave i.slots)
  import_of-has catalog name version None h = whole_import-has (find catalog name version) (find-has catalog name version h)
  import_of-has catalog name version (Some count) h =
      slots_found-has (or_greatest catalog name (find catalog name version))
      (or_greatest-has catalog name (find catalog name version) h (find-has catalog name version h))

  import_by-has : (catalog : List Shared) (name : List ℕ) (version : ℕ) (most : Option ℕ) → CatalogHas P catalog
      → IfSome (import_by catalog name version most) ImportsHave
  import_by-has catalog name version most h =
      by (is_ignored name) (import_of catalog name version most) (import_of-has catalog name version most h)
    where
      by : (b : Bool) (found : Option Import) → IfSome found (λ i. SlotsHave i.slots)
          → IfSome (if b then Some [] else option_map (λ i. i ∷ []) found) ImportsHave
      by true found k = tt
      by false None k = tt
      by false (Some i) k = (k, tt)

  value_import-has : (catalog : List Shared) (texts : ℕ → Option (List ℕ)) (x : Value SymbolAt ℕ) → CatalogHas P catalog
      → IfSome (value_import catalog texts x) ImportsHave
  value_import-has catalog texts (container kind.Struct members last) h =
      import_by-has catalog (name_of (value_of texts word.Name members)) (version_of (value_of texts word.Version members))
      (max_of (value_of texts word.MaxId members)) h
  value_import-has catalog texts x h = tt

  both-has : (these those : Option (List Import)) → IfSome these ImportsHave → IfSome those ImportsHave
      → IfSome (both these those) ImportsHave
  both-has None those h k = tt
  both-has (Some xs) None h k = tt
  both-has (Some xs) (Some ys) h k = AllByRecursion-append (λ (i : Import). SlotsHave i.slots) xs ys h k

  imports_in-has : (catalog : List Shared) (texts : ℕ → Option (List ℕ)) (members : Members SymbolAt ℕ) → CatalogHas P catalog
      → IfSome (imports_in catalog texts members) ImportsHave
  imports_in-has catalog texts nothing h = tt
  imports_in-has catalog texts (member before field annotations place x) h =
      both-has (imports_in catalog texts before) (value_import catalog texts x) (imports_in-has catalog texts before h)
      (value_import-has catalog texts x h)

  -- ---- local slots

  element-has : (x : Value SymbolAt ℕ) → ValueHas P x → SlotHas P (element x)
  element-has (scalar (value.string t)) h = h
  element-has x h = tt

  elements-has : (members : Members SymbolAt ℕ) → MembersHave P members → SlotsHave (elements members)
  elements-has nothing h = tt
  elements-has (member before field annotations place x) h =
      AllByRecursion-append (SlotHas P) (elements before) (element x ∷ []) (elements-has before h.0) (element-has x h.1, tt)

  locals_of-has : (field : Option (Value SymbolAt ℕ)) → IfSome field (ValueHas P) → SlotsHave (locals_of field)
  locals_of-has (Some (container kind.List members last)) h = elements-has members h
  locals_of-has field h = tt

  value_of-has : (texts : ℕ → Option (List ℕ)) (w : Word) (members : Members SymbolAt ℕ) → MembersHave P members
      → IfSome (value_of texts w members) (ValueHas P)
  value_of-has texts w nothing h = tt
  value_of-has texts w (member before field annotations place x) h =
      or_later-if (ValueHas P) (value_of texts w before) (same_word (field_word texts field) w) x (value_of-has texts w before h.0) h.1

  -- ---- what a declaration leaves

  by_word-has : (old : Table) (locals : Slots) (w : Word) → TableHas old → SlotsHave locals
      → IfSome (by_word old locals w) TableHas
  by_word-has old locals word.Declaration h k =
      record { imports = h.imports; locals = AllByRecursion-append (SlotHas P) old.locals locals h.locals k }
  by_word-has old locals w h k = record { imports = tt; locals = k }

  with_imports-has : (locals : Slots) (imports : Option (List Import)) → SlotsHave locals → IfSome imports ImportsHave
      → IfSome (with_imports locals imports) TableHas
  with_imports-has locals None h k = tt
  with_imports-has locals (Some imports) h k = record { imports = k; locals = h }

  by_imports-has : (catalog : List Shared) (texts : ℕ → Option (List ℕ)) (old : Table) (locals : Slots)
      (field : Option (Value SymbolAt ℕ))
      → CatalogHas P catalog → TableHas old → SlotsHave locals → IfSome (by_imports catalog texts old locals field) TableHas
  by_imports-has catalog texts old locals (Some (container kind.List members last)) c h k =
      with_imports-has locals (imports_in catalog texts members) k (imports_in-has catalog texts members c)
  by_imports-has catalog texts old locals (Some (scalar (value.symbol s))) c h k =
      by_word-has old locals (word_in texts s.symbol) h k
  by_imports-has catalog texts old locals field c h k = record { imports = tt; locals = k }

  pub next_table-has : (catalog : List Shared) (texts : ℕ → Option (List ℕ)) (old : Table) (members : Members SymbolAt ℕ)
      → CatalogHas P catalog → TableHas old → MembersHave P members
      → IfSome (next_table catalog texts old members) TableHas
  next_table-has catalog texts old members c h k =
      by_imports-has catalog texts old (locals_of (value_of texts word.Symbols members)) (value_of texts word.Imports members) c h
      (locals_of-has (value_of texts word.Symbols members) (value_of-has texts word.Symbols members k))
