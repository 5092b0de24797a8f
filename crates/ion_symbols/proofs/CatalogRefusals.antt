-- Why a catalogue is refused, and that values which are tables within the limit are not.
use Rattle.std.proofs.Common.{◌≡◌, ℕ, ◌+◌, ◌<◌, ◌≤◌, ◌⊎◌, inl, inr, Bool, true, false, ◌&&◌, if◌then◌else◌, nat_le, is_some, List, [], ◌∷◌, ◌++◌, Option, Some, None, Ok, Err, refl, ap, sym, subst, ◌∙◌, arith, append_assoc}
use Rattle.std.proofs.lemmas.Bool.{leb-true, leb-false}
use Rattle.ion_meter.specs.declared.fault.Reason.{Reason}
use Rattle.ion_meter.specs.declared.fault.Reason.TheVariants.{CatalogEntry, SymbolLimit}
use Rattle.ion_value.specs.declared.ion_type.Kind.TheVariants as kind
use Rattle.ion_value.specs.Value as value
use Rattle.ion_value.specs.Value.{UserSymbol, Value, Members, scalar, container, nothing, member, Top, tree}
use Rattle.ion_value.specs.Items.{is_none_left}
use Rattle.ion_symbols.specs.declared.known_text.Word.{Word}
use Rattle.ion_symbols.specs.declared.known_text.Word.TheVariants as word
use Rattle.ion_symbols.specs.Table.{Shared, slots_cost, catalog_cost, is_name, may_stand}
use Rattle.ion_symbols.specs.Declaration.{FieldValue, begins, ends, other, string, int, names, string_in, version_in}
use Rattle.ion_symbols.specs.Tree.{or_later}
use Rattle.ion_symbols.specs.CatalogItems.{user_field, is_shared, Draft, Drafted, after_tables, name_cost, counted, within, with_name, with_text, name_met, table_ended}
use Rattle.ion_symbols.specs.CatalogTrees.{seen, value_of, times, fields_fit, text_or_none, name_in, version_of, elements, slots_of, shared_in, shared_of, add_table, and_tables, tables_after, tables_of, and_draft, elements_drafted, symbols_drafted, field_drafted, fields_drafted, top_drafted, tops_drafted, drafted_tables}
use Rattle.ion_symbols.specs.CatalogLaws.{CatalogsAreTables, top_place, entry_cost, EntryAtFault, no_table, costly, EntryRefused, WhyCatalogsAreRefused}
use Rattle.ion_symbols.proofs.Keeping.{cost_append, cost_push}
use Rattle.ion_symbols.proofs.CatalogCosts.{counted-ended}
use Rattle.ion_symbols.proofs.CatalogMeaning.{both-true, with_slots, elements-drawn, Met, meant, Drawn, if_met, once_if, fields-drawn, Tables, GivesTables, top-added, tops-added, catalogs-tables}

-- ---- what is refused

abbrev Why : Type 0
Why = Reason × ℕ

abbrev Refuses : Drafted → Why → Type 0
Refuses r why = r ≡ Err why

abbrev why_or : Why → Drafted → Why
why_or why (Ok d) = why
why_or why (Err w) = w

err-same : (why w : Why) → Refuses (Err w) why → why ≡ w
err-same why w is = sym (ap (why_or why) is)

-- so is the first of two, or the second after it
and_draft-err : (r : Drafted) (later : Draft → Drafted) (why : Why) → and_draft r later ≡ Err why
    → (r ≡ Err why) ⊎ ((f : Draft) × (r ≡ Ok f) × (later f ≡ Err why))
and_draft-err (Ok f) later why is = inr (f, refl, is)
and_draft-err (Err w) later why is = inl is

if-err : (b : Bool) (d : Draft) (w why : Why) → (if b then Ok d else Err w) ≡ Err why → (b ≡ false) × (why ≡ w)
if-err true d w why is = cc
if-err false d w why is = (refl, err-same why w is)

when-err : (b : Bool) (r : Drafted) (w why : Why) → (if b then r else Err w) ≡ Err why → ((b ≡ true) × (r ≡ Err why)) ⊎ ((b ≡ false) × (why ≡ w))
when-err true r w why is = inl (refl, is)
when-err false r w why is = inr (refl, err-same why w is)

not-both : (a b : Bool) → (a && b) ≡ false → a ≡ true → b ≡ true → ⊥
not-both true true e f g = cc
not-both true false e f g = cc
not-both false b e f g = cc

-- it costs more than the limit
abbrev Costly : ℕ → ℕ → Why → Type 0
Costly limit cost why = (why.0 ≡ SymbolLimit) × (limit < cost)

within-costly : (limit place : ℕ) (d : Draft) (why : Why) → within limit place d ≡ Err why → Costly limit (counted d) why
within-costly limit place d why is =
    let both = if-err (nat_le (counted d) limit) d (SymbolLimit, place) why is in
    (ap (λ (w : Why). w.0) both.1, leb-false (counted d) limit both.0)

-- ---- what is counted grows

name-grows : (name more : Met) → name_cost (name_in name) ≤ name_cost (name_in (or_later name more))
name-grows None more = omega arith
name-grows (Some x) more = omega arith

slots-grow : (symbols more : Met) → slots_cost (slots_of symbols) ≤ slots_cost (slots_of (or_later symbols more))
slots-grow None more = omega arith
slots-grow (Some x) more = omega arith

cost-grows : (tables : List Shared) (name version symbols a b c : Met)
    → counted (meant tables name version symbols) ≤ counted (meant tables (or_later name a) (or_later version b) (or_later symbols c))
cost-grows tables name version symbols a b c =
    let n = name-grows name a in
    let s = slots-grow symbols c in
    omega (arith, n, s)

-- ---- the slots

elements-refused : (limit : ℕ) (members : Members UserSymbol ℕ) (d : Draft) (why : Why) → counted d ≤ limit → elements_drafted limit members d ≡ Err why
    → Costly limit (counted (with_slots (d.table.slots ++ elements members) d)) why
elements-refused limit nothing d why cheap is = cc
elements-refused limit (member before field annotations place x) d why cheap is =
    elim (and_draft-err (elements_drafted limit before d) (λ f. within limit place (with_text (string_in (seen x)) f)) why is) [
      | inl e ↦
          let first = elements-refused limit before d why cheap e in
          let all = cost_append d.table.slots (elements before ++ string_in (seen x) ∷ []) in
          let some = cost_append d.table.slots (elements before) in
          let last = cost_push (elements before) (string_in (seen x)) in
          let more = first.1 in
          (first.0, omega (arith, all, some, last, more))
      | inr two ↦
          let drawn = elements-drawn limit before d two.0 cheap two.1 in
          let same : counted (with_text (string_in (seen x)) two.0) ≡ counted (with_slots (d.table.slots ++ elements (member before field annotations place x)) d) =
          ap (λ f. counted (with_text (string_in (seen x)) f)) drawn.0 ∙ ap (λ s. counted (with_slots s d)) (append_assoc d.table.slots (elements before) (string_in (seen x) ∷ [])) in
          subst (λ c. Costly limit c why) same (within-costly limit place (with_text (string_in (seen x)) two.0) why two.2)
    ]

slots-refused : (limit : ℕ) (tables : List Shared) (x : Value UserSymbol ℕ) (name version : Met) (why : Why) → counted (meant tables name version None) ≤ limit
    → symbols_drafted limit x (record (meant tables name version None) { has_symbols = true }) ≡ Err why
    → Costly limit (counted (meant tables name version (Some x))) why
slots-refused limit tables (container kind.List members last) name version why cheap is =
    elements-refused limit members (record (meant tables name version None) { has_symbols = true }) why cheap is
slots-refused limit tables (container kind.Sexp members last) name version why cheap is = cc
slots-refused limit tables (container kind.Struct members last) name version why cheap is = cc
slots-refused limit tables (scalar body) name version why cheap is = cc

-- ---- the fields

-- fields of which a table may be made
record Fits (name version : Met) (n v s i : ℕ) : Type 0 where
  name_once : n ≤ 1
  version_once : v ≤ 1
  symbols_once : s ≤ 1
  no_imports : i ≤ 0
  named : is_some name ≡ true → is_name (name_in name) ≡ true
  small : version_of version ≤ 2147483647

-- so are those before others
fits-before : (name version a b : Met) (n v s i c d e f : ℕ) → Fits (or_later name a) (or_later version b) (n + c) (v + d) (s + e) (i + f) → Fits name version n v s i
fits-before name version a b n v s i c d e f fits = record {
  name_once = let h = fits.name_once in omega (arith, h);
  version_once = let h = fits.version_once in omega (arith, h);
  symbols_once = let h = fits.symbols_once in omega (arith, h);
  no_imports = let h = fits.no_imports in omega (arith, h);
  named = named-before name fits.named;
  small = small-before version fits.small;
}
  where
    named-before : (m : Met) → (is_some (or_later m a) ≡ true → is_name (name_in (or_later m a)) ≡ true) → is_some m ≡ true → is_name (name_in m) ≡ true
    named-before None h = λ e. cc
    named-before (Some x) h = h

    small-before : (m : Met) → version_of (or_later m b) ≤ 2147483647 → version_of m ≤ 2147483647
    small-before None h = omega arith
    small-before (Some x) h = h

-- what is no table, or costs too much
abbrev Refusal : ℕ → ℕ → ℕ → Type 0 → Why → Type 0
Refusal limit cost top fits why = ((why ≡ (CatalogEntry, top)) × (fits → ⊥)) ⊎ Costly limit cost why

-- a name
name-refused : (limit place top : ℕ) (what : FieldValue) (d : Draft) (why : Why) → name_met limit place top what d ≡ Err why
    → ((why ≡ (CatalogEntry, top)) × (is_none_left d.table.name ≡ true → is_name (text_or_none (string_in what)) ≡ true → ⊥))
    ⊎ ((is_none_left d.table.name ≡ true) × Costly limit (counted (with_name (text_or_none (string_in what)) d)) why)
name-refused limit place top (begins k) d why is = inl (err-same why (CatalogEntry, top) is, λ e f. cc)
name-refused limit place top ends d why is = inl (err-same why (CatalogEntry, top) is, λ e f. cc)
name-refused limit place top other d why is = inl (err-same why (CatalogEntry, top) is, λ e f. cc)
name-refused limit place top (int negative m) d why is = inl (err-same why (CatalogEntry, top) is, λ e f. cc)
name-refused limit place top (names u) d why is = inl (err-same why (CatalogEntry, top) is, λ e f. cc)
name-refused limit place top (string t) d why is =
    elim (when-err (is_none_left d.table.name && is_name t) (within limit place (with_name t d)) (CatalogEntry, top) why is) [
      | inl taken ↦ inr ((both-true (is_none_left d.table.name) (is_name t) taken.0).0, within-costly limit place (with_name t d) why taken.1)
      | inr fault ↦ inl (fault.1, not-both (is_none_left d.table.name) (is_name t) fault.0)
    ]

-- a field that was met stood once
abbrev Stood : Met → ℕ → Type 0
Stood o n = is_some o ≡ true → 1 ≤ n

costs-more : (limit c d : ℕ) (why : Why) → c ≤ d → Costly limit c why → Costly limit d why
costs-more limit c d why more h = let past = h.1 in (h.0, omega (arith, more, past))

field-refused : (limit top place : ℕ) (tables : List Shared) (x : Value UserSymbol ℕ) (name version symbols : Met) (n v s i : ℕ) (d : Draft) (w : Word) (why : Why)
    → Drawn limit tables name version symbols n v s i d → Stood name n → Stood version v → Stood symbols s
    → field_drafted limit top place x (meant tables name version symbols) w ≡ Err why
    → Refusal limit (counted (meant tables (or_later name (if_met w word.Name x)) (or_later version (if_met w word.Version x)) (or_later symbols (if_met w word.Symbols x)))) top
    (Fits (or_later name (if_met w word.Name x)) (or_later version (if_met w word.Version x))
    (n + once_if w word.Name) (v + once_if w word.Version) (s + once_if w word.Symbols) (i + once_if w word.Imports)) why
field-refused limit top place tables x None version symbols n v s i d word.Name why f sn sv ss is =
    elim (name-refused limit place top (seen x) (meant tables None version symbols) why is) [
      | inl fault ↦ inl (fault.0, λ fits. fault.1 refl (fits.named refl))
      | inr h ↦ inr (costs-more limit _ _ why (cost-grows tables (Some x) version symbols None None None) h.1)
    ]
field-refused limit top place tables x (Some y) version symbols n v s i d word.Name why f sn sv ss is =
    elim (name-refused limit place top (seen x) (meant tables (Some y) version symbols) why is) [
      | inl fault ↦ inl (fault.0, λ fits. let once = fits.name_once in let one = sn refl in absurd (omega (arith, once, one)))
      | inr h ↦ absurd (let none : Some y ≡ None = f.nameless h.0 in cc)
    ]
field-refused limit top place tables x name None symbols n v s i d word.Version why f sn sv ss is =
    let fault = if-err (nat_le (version_in (seen x)) 2147483647) (meant tables name (Some x) symbols) (CatalogEntry, top) why is in
    let great = leb-false (version_in (seen x)) 2147483647 fault.0 in
    inl (fault.1, λ fits. let small = fits.small in absurd (omega (arith, great, small)))
field-refused limit top place tables x name (Some y) symbols n v s i d word.Version why f sn sv ss is =
    inl (err-same why (CatalogEntry, top) is, λ fits. let once = fits.version_once in let one = sv refl in absurd (omega (arith, once, one)))
field-refused limit top place tables x name version None n v s i d word.Symbols why f sn sv ss is =
    inr (costs-more limit _ _ why (cost-grows tables name version (Some x) None None None) (slots-refused limit tables x name version why f.cheap is))
field-refused limit top place tables x name version (Some z) n v s i d word.Symbols why f sn sv ss is =
    inl (err-same why (CatalogEntry, top) is, λ fits. let once = fits.symbols_once in let one = ss refl in absurd (omega (arith, once, one)))
field-refused limit top place tables x name version symbols n v s i d word.Imports why f sn sv ss is =
    inl (err-same why (CatalogEntry, top) is, λ fits. let none = fits.no_imports in absurd (omega (arith, none)))
field-refused limit top place tables x name version symbols n v s i d word.MaxId why f sn sv ss is = cc
field-refused limit top place tables x name version symbols n v s i d word.Declaration why f sn sv ss is = cc
field-refused limit top place tables x name version symbols n v s i d word.Other why f sn sv ss is = cc

once-met : (o : Met) (b : Bool) (x : Value UserSymbol ℕ) (n : ℕ) → Stood o n → Stood (or_later o (if b then Some x else None)) (n + (if b then 1 else 0))
once-met None true x n h = λ e. omega arith
once-met None false x n h = λ e. cc
once-met (Some y) b x n h = λ e. let one = h refl in omega (arith, one)

stood : (w : Word) (members : Members UserSymbol ℕ) → Stood (value_of w members) (times w members)
stood w nothing = λ e. cc
stood w (member before field annotations place x) = once-met (value_of w before) _ x (times w before) (stood w before)

abbrev meant_all : List Shared → Members UserSymbol ℕ → Draft
meant_all tables members = meant tables (value_of word.Name members) (value_of word.Version members) (value_of word.Symbols members)

abbrev FitsAll : Members UserSymbol ℕ → Type 0
FitsAll members =
    Fits (value_of word.Name members) (value_of word.Version members)
    (times word.Name members) (times word.Version members) (times word.Symbols members) (times word.Imports members)

fields-refused : (limit top : ℕ) (tables : List Shared) (members : Members UserSymbol ℕ) (why : Why) → catalog_cost tables ≤ limit
    → fields_drafted limit top members (after_tables tables) ≡ Err why → Refusal limit (counted (meant_all tables members)) top (FitsAll members) why
fields-refused limit top tables nothing why cheap is = cc
fields-refused limit top tables (member before field annotations place x) why cheap is =
    elim (and_draft-err (fields_drafted limit top before (after_tables tables)) (λ f. field_drafted limit top place x f (user_field field)) why is) [
      | inl e ↦
          elim (fields-refused limit top tables before why cheap e) [
            | inl fault ↦
                inl (
                  fault.0,
                  λ fits. fault.1 (fits-before (value_of word.Name before) (value_of word.Version before)
                      (if_met (user_field field) word.Name x) (if_met (user_field field) word.Version x)
                      (times word.Name before) (times word.Version before) (times word.Symbols before) (times word.Imports before)
                      (once_if (user_field field) word.Name) (once_if (user_field field) word.Version) (once_if (user_field field) word.Symbols) (once_if (user_field field) word.Imports) fits),
                )
            | inr h ↦ inr (costs-more limit _ _ why (cost-grows tables (value_of word.Name before) (value_of word.Version before) (value_of word.Symbols before)
                (if_met (user_field field) word.Name x) (if_met (user_field field) word.Version x) (if_met (user_field field) word.Symbols x)) h)
          ]
      | inr two ↦
          let first = fields-drawn limit top tables before two.0 cheap two.1 in
          field-refused limit top place tables x (value_of word.Name before) (value_of word.Version before) (value_of word.Symbols before)
          (times word.Name before) (times word.Version before) (times word.Symbols before) (times word.Imports before) two.0 (user_field field) why first
          (stood word.Name before) (stood word.Version before) (stood word.Symbols before)
          (subst (λ f. field_drafted limit top place x f (user_field field) ≡ Err why) first.is two.2)
    ]

-- ---- values at top level

fits-of : (tables : List Shared) (members : Members UserSymbol ℕ) → fields_fit members ≡ true → may_stand tables (shared_in members) ≡ true → FitsAll members
fits-of tables members fit stands =
    let name = both-true (nat_le (times word.Name members) 1) _ fit in
    let version = both-true (nat_le (times word.Version members) 1) _ name.1 in
    let symbols = both-true (nat_le (times word.Symbols members) 1) _ version.1 in
    let after_name = both-true (is_name (shared_in members).name) _ stands in
    let after_zero = both-true _ _ after_name.1 in
    let after_most = both-true (nat_le (shared_in members).version 2147483647) _ after_zero.1 in
    record {
      name_once = leb-true (times word.Name members) 1 name.0;
      version_once = leb-true (times word.Version members) 1 version.0;
      symbols_once = leb-true (times word.Symbols members) 1 symbols.0;
      no_imports = leb-true (times word.Imports members) 0 symbols.1;
      named = λ some. after_name.0;
      small = leb-true (shared_in members).version 2147483647 after_most.0;
    }

struct-refused : (limit first : ℕ) (tables : List Shared) (members : Members UserSymbol ℕ) (why : Why) → catalog_cost tables ≤ limit
    → and_draft (fields_drafted limit first members (after_tables tables)) (λ d. table_ended first d) ≡ Err why
    → ((why ≡ (CatalogEntry, first)) × (fields_fit members ≡ true → may_stand tables (shared_in members) ≡ true → ⊥))
    ⊎ Costly limit (counted (meant_all tables members)) why
struct-refused limit first tables members why cheap is =
    elim (and_draft-err (fields_drafted limit first members (after_tables tables)) (λ d. table_ended first d) why is) [
      | inl e ↦
          elim (fields-refused limit first tables members why cheap e) [
            | inl fault ↦ inl (fault.0, λ fit stands. fault.1 (fits-of tables members fit stands))
            | inr h ↦ inr h
          ]
      | inr two ↦
          let drawn = fields-drawn limit first tables members two.0 cheap two.1 in
          let fault = if-err (may_stand tables (shared_in members)) (after_tables (tables ++ shared_in members ∷ [])) (CatalogEntry, first) why (subst (λ f. table_ended first f ≡ Err why) drawn.is two.2) in
          inl (fault.1, λ fit stands. let never : true ≡ false = sym stands ∙ fault.0 in cc)
    ]

none-added : (tables : List Shared) (s : Shared) (b : Bool) → (b ≡ true → may_stand tables s ≡ true → ⊥) → add_table tables (if b then Some s else None) ≡ None
none-added tables s false never = refl
none-added tables s true never = by_test (may_stand tables s) (never refl)
  where
    by_test : (c : Bool) → (c ≡ true → ⊥) → (if c then Some (tables ++ s ∷ []) else None) ≡ None
    by_test true none = absurd (none refl)
    by_test false none = refl

abbrev FaultAt : ℕ → List Shared → Top UserSymbol ℕ → Why → Type 0
FaultAt limit tables u why = EntryAtFault limit tables u why.1 why.0

refused-entry : (limit : ℕ) (tables : List Shared) (u : Top UserSymbol ℕ) (why : Why) → add_table tables (shared_of u) ≡ None → Refuses (Err (CatalogEntry, top_place u)) why
    → FaultAt limit tables u why
refused-entry limit tables u why none is = subst (λ (w : Why). FaultAt limit tables u w) (sym (err-same why (CatalogEntry, top_place u) is)) (no_table refl none)

shared-refused : (limit first place last : ℕ) (tables : List Shared) (annotations : List UserSymbol) (members : Members UserSymbol ℕ) (why : Why) (b : Bool) → is_shared annotations ≡ b
    → catalog_cost tables ≤ limit
    → (if b then and_draft (fields_drafted limit first members (after_tables tables)) (λ d. table_ended first d) else Err (CatalogEntry, first)) ≡ Err why
    → FaultAt limit tables (tree first annotations place (container kind.Struct members last)) why
shared-refused limit first place last tables annotations members why true shared cheap is =
    elim (struct-refused limit first tables members why cheap is) [
      | inl fault ↦
          refused-entry limit tables (tree first annotations place (container kind.Struct members last)) why
          (none-added tables (shared_in members) (is_shared annotations && fields_fit members) (λ both. fault.1 (both-true (is_shared annotations) (fields_fit members) both).1))
          (ap (λ (w : Why). Err w) (sym fault.0))
      | inr h ↦
          subst (λ r. EntryAtFault limit tables (tree first annotations place (container kind.Struct members last)) why.1 r) (sym h.0) (costly h.1)
    ]
shared-refused limit first place last tables annotations members why false shared cheap is =
    refused-entry limit tables (tree first annotations place (container kind.Struct members last)) why
    (ap (λ b. add_table tables (if b && fields_fit members then Some (shared_in members) else None)) shared) is

top-refused : (limit : ℕ) (tables : List Shared) (u : Top UserSymbol ℕ) (why : Why) → catalog_cost tables ≤ limit → top_drafted limit u (after_tables tables) ≡ Err why
    → FaultAt limit tables u why
top-refused limit tables (tree first annotations place (container kind.Struct members last)) why cheap is =
    shared-refused limit first place last tables annotations members why (is_shared annotations) refl cheap is
top-refused limit tables (tree first annotations place (container kind.List members last)) why cheap is = refused-entry limit tables _ why refl is
top-refused limit tables (tree first annotations place (container kind.Sexp members last)) why cheap is = refused-entry limit tables _ why refl is
top-refused limit tables (tree first annotations place (scalar body)) why cheap is = refused-entry limit tables _ why refl is
top-refused limit tables (value.version place) why cheap is = refused-entry limit tables _ why refl is

-- the first of values after tables that is refused
record RefusedAfter (limit : ℕ) (tables : List Shared) (us : List (Top UserSymbol ℕ)) (why : Why) : Type 0 where
  before : List (Top UserSymbol ℕ)
  entry : Top UserSymbol ℕ
  rest : List (Top UserSymbol ℕ)
  more : List Shared
  values_are : us ≡ before ++ entry ∷ rest
  tables_are : tables_after tables before ≡ Some more
  cheap : catalog_cost more ≤ limit
  fault : FaultAt limit more entry why

tops-refused : (limit : ℕ) (tables : List Shared) (us : List (Top UserSymbol ℕ)) (why : Why) → catalog_cost tables ≤ limit → tops_drafted limit us (after_tables tables) ≡ Err why
    → RefusedAfter limit tables us why
tops-refused limit tables [] why cheap is = cc
tops-refused limit tables (u ∷ us) why cheap is =
    elim (and_draft-err (top_drafted limit u (after_tables tables)) (λ d. tops_drafted limit us d) why is) [
      | inl e ↦
          record { before = []; entry = u; rest = us; more = tables; values_are = refl; tables_are = refl; cheap = cheap; fault = top-refused limit tables u why cheap e }
      | inr two ↦
          let one = top-added limit tables u two.0 cheap two.1 in
          let r = tops-refused limit one.more us why one.cheap (subst (λ d. tops_drafted limit us d ≡ Err why) one.is two.2) in
          record {
            before = u ∷ r.before;
            entry = r.entry;
            rest = r.rest;
            more = r.more;
            values_are = ap (λ l. u ∷ l) r.values_are;
            tables_are = ap (λ o. and_tables o (λ more. tables_after more r.before)) one.added ∙ r.tables_are;
            cheap = r.cheap;
            fault = r.fault;
          }
    ]

-- ---- tables within the limit

abbrev Are : Option (List Shared) → List Shared → Type 0
Are o tables = o ≡ Some tables

abbrev tables_in : List Shared → Option (List Shared) → List Shared
tables_in none None = none
tables_in none (Some tables) = tables

same-tables : (s t : List Shared) → Are (Some s) t → t ≡ s
same-tables s t is = sym (ap (tables_in s) is)

and_tables-some : (o : Option (List Shared)) (later : List Shared → Option (List Shared)) (all : List Shared) → and_tables o later ≡ Some all
    → (more : List Shared) × (o ≡ Some more) × (later more ≡ Some all)
and_tables-some None later all is = cc
and_tables-some (Some more) later all is = (more, refl, is)

-- what a table more costs
standing-cost : (tables : List Shared) (s : Shared) (next : List Shared) (b : Bool) → may_stand tables s ≡ b → Are (if b then Some (tables ++ s ∷ []) else None) next
    → catalog_cost next ≡ catalog_cost tables + (name_cost s.name + slots_cost s.slots)
standing-cost tables s next true stands is =
    let all = counted-ended (record { tables = tables; has_version = false; has_symbols = false; table = s }) stands in
    let same : catalog_cost next ≡ catalog_cost (tables ++ s ∷ []) = ap catalog_cost (same-tables (tables ++ s ∷ []) next is) in
    omega (arith, all, same)
standing-cost tables s next false stands is = cc

table-cost : (tables : List Shared) (s : Shared) (next : List Shared) (b : Bool) → Are (add_table tables (if b then Some s else None)) next
    → catalog_cost next ≡ catalog_cost tables + (name_cost s.name + slots_cost s.slots)
table-cost tables s next true is = standing-cost tables s next (may_stand tables s) refl is
table-cost tables s next false is = cc

entry-cost : (tables : List Shared) (u : Top UserSymbol ℕ) (next : List Shared) → Are (add_table tables (shared_of u)) next → catalog_cost next ≡ catalog_cost tables + entry_cost u
entry-cost tables (tree first annotations place (container kind.Struct members last)) next is =
    table-cost tables (shared_in members) next (is_shared annotations && fields_fit members) is
entry-cost tables (tree first annotations place (container kind.List members last)) next is = cc
entry-cost tables (tree first annotations place (container kind.Sexp members last)) next is = cc
entry-cost tables (tree first annotations place (scalar body)) next is = cc
entry-cost tables (value.version place) next is = cc

tables-grow : (tables : List Shared) (us : List (Top UserSymbol ℕ)) (all : List Shared) → tables_after tables us ≡ Some all → catalog_cost tables ≤ catalog_cost all
tables-grow tables [] all is = let same : catalog_cost all ≡ catalog_cost tables = ap catalog_cost (same-tables tables all is) in omega (arith, same)
tables-grow tables (u ∷ us) all is =
    let one = and_tables-some (add_table tables (shared_of u)) (λ more. tables_after more us) all is in
    let cost = entry-cost tables u one.0 one.1 in
    let rest = tables-grow one.0 us all one.2 in
    omega (arith, cost, rest)

append-after : (o : Option (List Shared)) (f g whole : List Shared → Option (List Shared)) → ((more : List Shared) → whole more ≡ and_tables (f more) g)
    → and_tables o whole ≡ and_tables (and_tables o f) g
append-after None f g whole same = refl
append-after (Some more) f g whole same = same more

tables-append : (tables : List Shared) (us vs : List (Top UserSymbol ℕ)) → tables_after tables (us ++ vs) ≡ and_tables (tables_after tables us) (λ more. tables_after more vs)
tables-append tables [] vs = refl
tables-append tables (u ∷ us) vs =
    append-after (add_table tables (shared_of u)) (λ more. tables_after more us) (λ more. tables_after more vs) (λ more. tables_after more (us ++ vs))
    (λ more. tables-append more us vs)

-- no value at fault stands among them
no-fault : (limit : ℕ) (tables : List Shared) (u : Top UserSymbol ℕ) (place : ℕ) (reason : Reason) (us : List (Top UserSymbol ℕ)) (all : List Shared)
    → EntryAtFault limit tables u place reason → tables_after tables (u ∷ us) ≡ Some all → catalog_cost all ≤ limit → ⊥
no-fault limit tables u place _ us all (no_table here none) is cheap =
    let one = and_tables-some (add_table tables (shared_of u)) (λ more. tables_after more us) all is in
    let some : Are (add_table tables (shared_of u)) one.0 = one.1 in
    cc
no-fault limit tables u place _ us all (costly past) is cheap =
    let one = and_tables-some (add_table tables (shared_of u)) (λ more. tables_after more us) all is in
    let cost = entry-cost tables u one.0 one.1 in
    let rest = tables-grow one.0 us all one.2 in
    absurd (omega (arith, past, cost, rest, cheap))

by-drafted : (limit : ℕ) (us : List (Top UserSymbol ℕ)) (tables : List Shared) (r : Drafted) → tops_drafted limit us (after_tables []) ≡ r
    → tables_of us ≡ Some tables → catalog_cost tables ≤ limit → GivesTables (drafted_tables r) tables
by-drafted limit us tables (Ok d) e are cheap =
    let all = tops-added limit [] us d (omega arith) e in
    let same : all.0 ≡ tables = same-tables tables all.0 (sym are ∙ all.1) in
    ap (λ (f : Draft). Ok f.tables) all.2 ∙ ap (λ t. Ok t) same
by-drafted limit us tables (Err why) e are cheap =
    let r = tops-refused limit [] us why (omega arith) e in
    let is : tables_after r.more (r.entry ∷ r.rest) ≡ Some tables =
    sym (ap (λ o. and_tables o (λ more. tables_after more (r.entry ∷ r.rest))) r.tables_are)
    ∙ (sym (tables-append [] r.before (r.entry ∷ r.rest)) ∙ (sym (ap tables_of r.values_are) ∙ are)) in
    absurd (no-fault limit r.more r.entry why.1 why.0 r.rest tables r.fault is cheap)

pub catalogs_are_tables : CatalogsAreTables
catalogs_are_tables limit us tables =
    (catalogs-tables limit us tables, λ are. by-drafted limit us tables (tops_drafted limit us (after_tables [])) refl are.0 are.1)

-- ---- why there is none

abbrev RefusesTables : Tables → Why → Type 0
RefusesTables r why = r ≡ Err why

abbrev why_not_or : Why → Tables → Why
why_not_or why (Ok t) = why
why_not_or why (Err w) = w

refused-at : (limit : ℕ) (us : List (Top UserSymbol ℕ)) (why : Why) (r : Drafted) → tops_drafted limit us (after_tables []) ≡ r → RefusesTables (drafted_tables r) why
    → EntryRefused limit us why.0 why.1
refused-at limit us why (Ok d) e is = cc
refused-at limit us why (Err w) e is =
    let same : w ≡ why = ap (why_not_or why) is in
    let r = tops-refused limit [] us why (omega arith) (e ∙ ap (λ (v : Why). Err v) same) in
    record {
      before = r.before;
      entry = r.entry;
      rest = r.rest;
      tables = r.more;
      values_are = r.values_are;
      tables_are = r.tables_are;
      cheap = r.cheap;
      fault = r.fault;
    }

pub why_catalogs_are_refused : WhyCatalogsAreRefused
why_catalogs_are_refused limit us reason place is = refused-at limit us (reason, place) (tops_drafted limit us (after_tables [])) refl is
