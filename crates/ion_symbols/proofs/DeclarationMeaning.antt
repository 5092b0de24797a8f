-- What a declaration says, and why it is refused: both laws at once, field by field.
use Rattle.std.proofs.Common.{◌≡◌, ℕ, ◌⊎◌, inl, inr, refl, ap, sym, ◌∙◌, subst, Bool, true, false, if◌then◌else◌, List, [], ◌++◌, Option, Some, None, is_some, Ok, Err, arith}
use Rattle.ion_meter.specs.declared.fault.Reason.{Reason}
use Rattle.ion_meter.specs.declared.fault.Reason.TheVariants.{BadSymbol}
use Rattle.ion_value.specs.declared.ion_type.Kind.TheVariants as kind
use Rattle.ion_value.specs.Value as value
use Rattle.ion_value.specs.Value.{SymbolAt, Value, Members, scalar, container, nothing, member}
use Rattle.ion_symbols.specs.declared.known_text.Word.{Word}
use Rattle.ion_symbols.specs.declared.known_text.Word.TheVariants as word
use Rattle.ion_symbols.specs.Table.{Slots, Shared, Import, Table, text_at, table_cost, count_of}
use Rattle.ion_symbols.specs.Declaration.{Ground, Held, Pending, nothing_yet, next, field_met, word_in, field_word, place_in}
use Rattle.ion_symbols.specs.Users.{is_declaration}
use Rattle.ion_symbols.specs.Tree.{same_word, or_later, value_of, elements, locals_of, imports_in, with_imports, by_word, by_imports, next_table, and_then, first_of, keeping_by, field_held, fields_held, table_left}
use Rattle.ion_symbols.specs.Laws.{WhatIsDeclared, WhyRefused, ListIsDoubled, IsDoubled, SomeAbove}
use Rattle.ion_symbols.proofs.Costly.{costly}
use Rattle.ion_symbols.proofs.IdsAbove.{Tells, fields_tell}
use Rattle.ion_symbols.proofs.Yields.{Yields, Why, why_more, yields_ok, yields_then, yields_more, yields_fine, yields_ignored, yields_counted, yields_once}
use Rattle.ion_symbols.proofs.DeclarationLists.{Core, core, elements_yield, or_this, or_later-none, again, Gains, imports_yield}

-- the field `imports` keeps the present table
abbrev pub kept_by : (ℕ → Option (List ℕ)) → Option (Value SymbolAt ℕ) → Bool
kept_by texts (Some (scalar (value.symbol s))) = is_declaration (word_in texts s.symbol)
kept_by texts _ = false

-- the imports of the field `imports`
abbrev pub imports_by : List Shared → (ℕ → Option (List ℕ)) → Option (Value SymbolAt ℕ) → Option (List Import)
imports_by catalog texts (Some (container kind.List members last)) = imports_in catalog texts members
imports_by catalog texts _ = Some []

-- a pending table is what the fields say so far, by the values of `imports` and `symbols`
pub record Says (g : Ground) (imports symbols : Option (Value SymbolAt ℕ)) (q : Pending) : Type 0 where
  pub has_imports : q.has_imports ≡ is_some imports
  pub has_symbols : q.has_symbols ≡ is_some symbols
  pub keeps : q.keeps ≡ kept_by (text_at g.old) imports
  pub imports_are : imports_by g.catalog (text_at g.old) imports ≡ Some q.imports
  pub locals_are : q.locals ≡ locals_of symbols

-- ---- the field `imports`

-- the present table is kept, or it isn't
keeping_yields : {P : Pending → Type 0} {F : Type 0} (g : Ground) (place : ℕ) (w : Word) (p : Pending) → p.keeps ≡ false
    → ((k : Bool) (cost count : ℕ) → k ≡ is_declaration w → P (record p { keeps = k; cost = cost; count = count })) → Yields P F (keeping_by g place w p)
keeping_yields g place word.Declaration p e h =
    yields_counted g.limit place (table_cost g.old) (count_of g.old) (record p { keeps = true }) (λ cost count. h true cost count refl)
keeping_yields g place w p e h = yields_ok (h p.keeps p.cost p.count e)

-- the list `imports` is at fault
abbrev pub ListFault : Ground → Option (Value SymbolAt ℕ) → Type 0
ListFault g imports = ListIsDoubled (text_at g.old) imports ⊎ (imports_by g.catalog (text_at g.old) imports ≡ None)

-- the list `imports` is read
list_said : (g : Ground) (members : Members SymbolAt ℕ) (last : ℕ) (s : Option (Value SymbolAt ℕ)) (q r : Pending)
    → Says g None s q → Gains (core (record q { has_imports = true })) (imports_in g.catalog (text_at g.old) members) r
    → Says g (Some (container kind.List members last)) s r
list_said g members last s q r h gains =
    let none : [] ≡ q.imports = let e = h.imports_are in cc in
    record {
      has_imports = ap (λ (c : Core). c.has_imports) gains.is;
      has_symbols = ap (λ (c : Core). c.has_symbols) gains.is ∙ h.has_symbols;
      keeps = ap (λ (c : Core). c.keeps) gains.is ∙ h.keeps;
      imports_are = gains.are ∙ ap Some (sym (ap (λ (c : Core). c.imports) gains.is ∙ ap (λ (imports : List Import). imports ++ gains.extra) (sym none)));
      locals_are = ap (λ (c : Core). c.locals) gains.is ∙ h.locals_are;
    }

-- the first field `imports`
imports_said : (g : Ground) (top place : ℕ) (x : Value SymbolAt ℕ) (s : Option (Value SymbolAt ℕ)) (q : Pending)
    → Says g None s q → Yields (Says g (Some x) s) (ListFault g (Some x)) (field_held g top place word.Imports x (record q { has_imports = true }))
imports_said g top place (container kind.List members last) s q h =
    yields_more (imports_yield g top members (record q { has_imports = true })) (λ f. f) (λ r gains. list_said g members last s q r h gains)
imports_said g top place (scalar (value.symbol name)) s q h =
    keeping_yields g place (word_in (text_at g.old) name.symbol) (record q { has_imports = true }) h.keeps
    (λ k cost count e. record { has_imports = refl; has_symbols = h.has_symbols; keeps = e; imports_are = h.imports_are; locals_are = h.locals_are })
imports_said g top place x s q h =
    yields_ignored g.old top x (record q { has_imports = true })
    (record { has_imports = refl; has_symbols = h.has_symbols; keeps = h.keeps; imports_are = h.imports_are; locals_are = h.locals_are })

-- ---- the fields of a declaration

-- the first field `symbols`
symbols_said : {F : Type 0} (g : Ground) (top place : ℕ) (x : Value SymbolAt ℕ) (i : Option (Value SymbolAt ℕ)) (q : Pending)
    → Says g i None q → Yields (Says g i (Some x)) F (field_held g top place word.Symbols x (record q { has_symbols = true }))
symbols_said g top place (container kind.List members last) i q h =
    yields_more (elements_yield g top members (record q { has_symbols = true })) (λ f. f) (λ r e. record {
      has_imports = ap (λ (c : Core). c.has_imports) e ∙ h.has_imports;
      has_symbols = ap (λ (c : Core). c.has_symbols) e;
      keeps = ap (λ (c : Core). c.keeps) e ∙ h.keeps;
      imports_are = h.imports_are ∙ ap Some (sym (ap (λ (c : Core). c.imports) e));
      locals_are = ap (λ (c : Core). c.locals) e ∙ ap (λ (slots : Slots). slots ++ elements members) h.locals_are;
    })
symbols_said g top place x i q h =
    yields_ignored g.old top x (record q { has_symbols = true })
    (record { has_imports = h.has_imports; has_symbols = refl; keeps = h.keeps; imports_are = h.imports_are; locals_are = h.locals_are })

-- a field of the declaration: one that stood before is a fault
field_yields : {F : Type 0} (g : Ground) (top field_place place : ℕ) (w : Word) (x : Value SymbolAt ℕ) (i s : Option (Value SymbolAt ℕ)) (q : Pending)
    → Says g i s q
    → (is_some i ≡ true → same_word w word.Imports ≡ true → F) → (is_some s ≡ true → same_word w word.Symbols ≡ true → F)
    → (ListFault g (or_this i w word.Imports x) → F)
    → Yields (Says g (or_this i w word.Imports x) (or_this s w word.Symbols x)) F (and_then (field_met field_place w q) (λ r. field_held g top place w x r))
field_yields g top field_place place word.Imports x None s q h imports symbols list =
    rw (or_later-none s)
    (yields_once field_place q.has_imports (record q { has_imports = true }) (λ r. field_held g top place word.Imports x r)
    (λ e. let none = h.has_imports in cc) (λ e. yields_more (imports_said g top place x s q h) list (λ r said. said)))
field_yields g top field_place place word.Imports x (Some y) s q h imports symbols list =
    rw (or_later-none s)
    (yields_once field_place q.has_imports (record q { has_imports = true }) (λ r. field_held g top place word.Imports x r)
    (λ e. imports refl refl) (λ e. let some = h.has_imports in cc))
field_yields g top field_place place word.Symbols x i None q h imports symbols list =
    rw (or_later-none i)
    (yields_once field_place q.has_symbols (record q { has_symbols = true }) (λ r. field_held g top place word.Symbols x r)
    (λ e. let none = h.has_symbols in cc) (λ e. symbols_said g top place x i q h))
field_yields g top field_place place word.Symbols x i (Some y) q h imports symbols list =
    rw (or_later-none i)
    (yields_once field_place q.has_symbols (record q { has_symbols = true }) (λ r. field_held g top place word.Symbols x r)
    (λ e. symbols refl refl) (λ e. let some = h.has_symbols in cc))
field_yields g top field_place place w x i s q h imports symbols list =
    rw (or_later-none i, or_later-none s) (yields_ignored g.old top x q h)

-- a declaration is at fault: a field stands twice, or a table isn't there
abbrev pub Fault : Ground → Members SymbolAt ℕ → Type 0
Fault g members = IsDoubled (text_at g.old) members ⊎ (imports_by g.catalog (text_at g.old) (value_of (text_at g.old) word.Imports members) ≡ None)

-- the first field of a name stays the first
list_doubled : (texts : ℕ → Option (List ℕ)) (o later : Option (Value SymbolAt ℕ)) → ListIsDoubled texts o → ListIsDoubled texts (or_later o later)
list_doubled texts None later h = absurd h
list_doubled texts (Some x) later h = h

-- and where a table isn't there for it, the field is there
no_imports : (catalog : List Shared) (texts : ℕ → Option (List ℕ)) (o later : Option (Value SymbolAt ℕ)) → imports_by catalog texts o ≡ None
    → imports_by catalog texts (or_later o later) ≡ None
no_imports catalog texts None later e = cc
no_imports catalog texts (Some x) later e = e

-- a fault stays one with a field more
fault_more : (g : Ground) (before : Members SymbolAt ℕ) (field : Option SymbolAt) (annotations : List SymbolAt) (place : ℕ) (x : Value SymbolAt ℕ)
    → Fault g before → Fault g (member before field annotations place x)
fault_more g before field annotations place x (inl (inl h)) = inl (inl (omega arith))
fault_more g before field annotations place x (inl (inr (inl h))) = inl (inr (inl (omega arith)))
fault_more g before field annotations place x (inl (inr (inr h))) =
    let later : Option (Value SymbolAt ℕ) = if same_word (field_word (text_at g.old) field) word.Imports then Some x else None in
    inl (inr (inr (list_doubled (text_at g.old) (value_of (text_at g.old) word.Imports before) later h)))
fault_more g before field annotations place x (inr e) =
    let later : Option (Value SymbolAt ℕ) = if same_word (field_word (text_at g.old) field) word.Imports then Some x else None in
    inr (no_imports g.catalog (text_at g.old) (value_of (text_at g.old) word.Imports before) later e)

-- a fault of the list is one of the declaration
list_fault : (g : Ground) (members : Members SymbolAt ℕ) → ListFault g (value_of (text_at g.old) word.Imports members) → Fault g members
list_fault g members (inl h) = inl (inr (inr h))
list_fault g members (inr e) = inr e

-- what all fields say
abbrev pub SaidBy : Ground → Members SymbolAt ℕ → Pending → Type 0
SaidBy g members q = Says g (value_of (text_at g.old) word.Imports members) (value_of (text_at g.old) word.Symbols members) q

-- the fields of a declaration
pub fields_yield : (g : Ground) (top : ℕ) (members : Members SymbolAt ℕ) → Yields (SaidBy g members) (Fault g members) (fields_held g top members nothing_yet)
fields_yield g top nothing = yields_ok (record { has_imports = refl; has_symbols = refl; keeps = refl; imports_are = refl; locals_are = refl })
fields_yield g top (member before field annotations place x) =
    let texts : ℕ → Option (List ℕ) = text_at g.old in
    let w : Word = field_word texts field in
    yields_then (fields_yield g top before) (fault_more g before field annotations place x)
    (λ q h. yields_fine g.old (first_of top field annotations place x)
    (field_yields g top (place_in field) place w x (value_of texts word.Imports before) (value_of texts word.Symbols before) q h
    (λ e f. inl (inl (again texts word.Imports before (same_word w word.Imports) e f)))
    (λ e f. inl (inr (inl (again texts word.Symbols before (same_word w word.Symbols) e f))))
    (list_fault g (member before field annotations place x))))

-- ---- the laws

-- the next table, by what is kept and the imports
abbrev by_kept : Table → Slots → Bool → Option (List Import) → Option Table
by_kept old slots true imports = Some (record { imports = old.imports; locals = old.locals ++ slots })
by_kept old slots false imports = with_imports slots imports

-- for a symbol
by_word-kept : (old : Table) (slots : Slots) (w : Word) → by_word old slots w ≡ by_kept old slots (is_declaration w) (Some [])
by_word-kept old slots word.Declaration = refl
by_word-kept old slots w = refl

-- for each value of `imports`
by_imports-kept : (catalog : List Shared) (texts : ℕ → Option (List ℕ)) (old : Table) (slots : Slots) (o : Option (Value SymbolAt ℕ))
    → by_imports catalog texts old slots o ≡ by_kept old slots (kept_by texts o) (imports_by catalog texts o)
by_imports-kept catalog texts old slots (Some (scalar (value.symbol s))) = by_word-kept old slots (word_in texts s.symbol)
by_imports-kept catalog texts old slots (Some (container kind.List members last)) = refl
by_imports-kept catalog texts old slots o = refl

-- there is no next table where a table isn't there
by_imports-none : (catalog : List Shared) (texts : ℕ → Option (List ℕ)) (old : Table) (slots : Slots) (o : Option (Value SymbolAt ℕ))
    → imports_by catalog texts o ≡ None → by_imports catalog texts old slots o ≡ None
by_imports-none catalog texts old slots (Some (container kind.List members last)) e = rw e refl
by_imports-none catalog texts old slots o e = cc

-- the table that a pending table leaves, by what is kept
next_by : (old : Table) (imports : List Import) (locals : Slots) (b : Bool)
    → by_kept old locals b (Some imports)
    ≡ Some (if b then record { imports = old.imports; locals = old.locals ++ locals } else record { imports = imports; locals = locals })
next_by old imports locals true = refl
next_by old imports locals false = refl

-- what is said is the next table
next_said : (g : Ground) (i s : Option (Value SymbolAt ℕ)) (q : Pending) → Says g i s q
    → by_imports g.catalog (text_at g.old) g.old (locals_of s) i ≡ Some (next g.old q)
next_said g i s q h =
    by_imports-kept g.catalog (text_at g.old) g.old (locals_of s) i
    ∙ ap (λ (is : Option (List Import)). by_kept g.old (locals_of s) (kept_by (text_at g.old) i) is) h.imports_are
    ∙ ap (λ (b : Bool). by_kept g.old (locals_of s) b (Some q.imports)) (sym h.keeps)
    ∙ ap (λ (slots : Slots). by_kept g.old slots q.keeps (Some q.imports)) (sym h.locals_are)
    ∙ next_by g.old q.imports q.locals q.keeps

-- a table that is left is the next table
said_by : (g : Ground) (members : Members SymbolAt ℕ) (t : Table) (h : Held) → Yields (SaidBy g members) (Fault g members) h
    → table_left g h ≡ Ok t → next_table g.catalog (text_at g.old) g.old members ≡ Some t
said_by g members t (Ok q) c e =
    let n : next g.old q ≡ t = cc in
    next_said g (value_of (text_at g.old) word.Imports members) (value_of (text_at g.old) word.Symbols members) q c.so ∙ ap Some n
said_by g members t (Err why) c e = cc

-- the table that a declaration leaves is the one that it says
pub what_is_said : WhatIsDeclared
what_is_said g top members t e = said_by g members t (fields_held g top members nothing_yet) (fields_yield g top members) e

-- a field stands twice, or there is no next table
abbrev NoTable : Ground → Members SymbolAt ℕ → Type 0
NoTable g members = IsDoubled (text_at g.old) members ⊎ (next_table g.catalog (text_at g.old) g.old members ≡ None)

-- each fault is one of the two
no_table : (g : Ground) (members : Members SymbolAt ℕ) → Fault g members → NoTable g members
no_table g members (inl h) = inl h
no_table g members (inr e) =
    inr (by_imports-none g.catalog (text_at g.old) g.old (locals_of (value_of (text_at g.old) word.Symbols members))
    (value_of (text_at g.old) word.Imports members) e)

-- a refusal has its reason
refused_by : (g : Ground) (members : Members SymbolAt ℕ) (reason : Reason) (place : ℕ) (h : Held) → Yields (SaidBy g members) (Fault g members) h
    → table_left g h ≡ Err (reason, place) → Why (NoTable g members) reason
refused_by g members reason place (Ok q) c e = cc
refused_by g members reason place (Err why) c e =
    let same : why ≡ (reason, place) = cc in
    subst (Why (NoTable g members)) (ap (λ (w : Reason × ℕ). w.0) same) (why_more (no_table g members) why.0 c.so)

-- where it is a symbol's, an id is above
above_by : (g : Ground) (members : Members SymbolAt ℕ) (reason : Reason) (place : ℕ) (h : Held) → Tells (SomeAbove g.old members) h
    → table_left g h ≡ Err (reason, place) → reason ≡ BadSymbol → SomeAbove g.old members
above_by g members reason place (Ok q) c e f = absurd (cc e)
above_by g members reason place (Err why) c e f =
    let same : why ≡ (reason, place) = cc in
    c.so (ap (λ (w : Reason × ℕ). w.0) same ∙ f)

held_err : (g : Ground) (h : Held) (reason : Reason) (place : ℕ) → table_left g h ≡ Err (reason, place) → h ≡ Err (reason, place)
held_err g (Ok q) reason place e = absurd (cc e)
held_err g (Err why) reason place e = cc

-- a declaration is refused for a symbol id above the table before it, for a limit, for a field that stands twice, or for a table that isn't there
pub why_it_is_refused : WhyRefused
why_it_is_refused g top members reason place e =
    elim (refused_by g members reason place (fields_held g top members nothing_yet) (fields_yield g top members) e) [
      | inl symbol ↦ inl (symbol, above_by g members reason place (fields_held g top members nothing_yet) (fields_tell g top members) e symbol)
      | inr (inl limit) ↦ inr (inl (limit, costly g top members (reason, place) (held_err g (fields_held g top members nothing_yet) reason place e) limit))
      | inr (inr other) ↦ inr (inr other)
    ]
