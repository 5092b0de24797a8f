-- A catalogue without a fault has the tables of its values, within the limit.
use Rattle.std.proofs.Common.{◌≡◌, ℕ, ◌+◌, ◌≤◌, Bool, true, false, ◌&&◌, if◌then◌else◌, nat_le, is_some, List, [], ◌∷◌, ◌++◌, Option, Some, None, Result, Ok, Err, refl, ap, sym, subst, ◌∙◌, arith, append_assoc}
use Rattle.std.proofs.lemmas.Bool.{le-leb, leb-true}
use Rattle.std.proofs.lemmas.List.{append-nil}
use Rattle.ion_meter.specs.declared.fault.Reason.{Reason}
use Rattle.ion_meter.specs.declared.fault.Reason.TheVariants.{CatalogEntry, SymbolLimit}
use Rattle.ion_value.specs.declared.ion_type.Kind.TheVariants as kind
use Rattle.ion_value.specs.Value as value
use Rattle.ion_value.specs.Value.{UserSymbol, Value, Members, scalar, container, nothing, member, Top, tree}
use Rattle.ion_value.specs.Items.{is_none_left}
use Rattle.ion_symbols.specs.declared.known_text.Word.{Word}
use Rattle.ion_symbols.specs.declared.known_text.Word.TheVariants as word
use Rattle.ion_symbols.specs.Table.{Slots, Shared, catalog_cost, is_name, may_stand}
use Rattle.ion_symbols.specs.Declaration.{FieldValue, begins, ends, other, string, int, names, string_in, version_in}
use Rattle.ion_symbols.specs.Tree.{same_word, or_later}
use Rattle.ion_symbols.specs.CatalogItems.{user_field, is_shared, Draft, Drafted, after_tables, counted, within, with_name, with_text, name_met, version_met, symbols_met, table_ended}
use Rattle.ion_symbols.specs.CatalogTrees.{seen, value_of, times, fields_fit, text_or_none, name_in, version_of, elements, slots_of, shared_in, shared_of, add_table, and_tables, tables_after, tables_of, and_draft, elements_drafted, symbols_drafted, field_drafted, fields_drafted, top_drafted, tops_drafted, drafted_tables, catalog_of}
use Rattle.ion_symbols.proofs.CatalogCosts.{counted-ended}

-- ---- what is without a fault

abbrev Gives : Drafted → Draft → Type 0
Gives r e = r ≡ Ok e

abbrev draft_or : Draft → Drafted → Draft
draft_or d (Ok e) = e
draft_or d (Err why) = d

ok-same : (d e : Draft) → Gives (Ok d) e → e ≡ d
ok-same d e is = sym (ap (draft_or d) is)

-- so is the first of two
and_draft-ok : (r : Drafted) (later : Draft → Drafted) (e : Draft) → and_draft r later ≡ Ok e → (f : Draft) × (r ≡ Ok f) × (later f ≡ Ok e)
and_draft-ok (Ok f) later e is = (f, refl, is)
and_draft-ok (Err why) later e is = cc

if-ok : (b : Bool) (d e : Draft) (why : Reason × ℕ) → (if b then Ok d else Err why) ≡ Ok e → (b ≡ true) × (e ≡ d)
if-ok true d e why is = (refl, ok-same d e is)
if-ok false d e why is = cc

when-ok : (b : Bool) (r : Drafted) (e : Draft) (why : Reason × ℕ) → (if b then r else Err why) ≡ Ok e → (b ≡ true) × (r ≡ Ok e)
when-ok true r e why is = (refl, is)
when-ok false r e why is = cc

within-ok : (limit place : ℕ) (d e : Draft) → within limit place d ≡ Ok e → (e ≡ d) × (counted d ≤ limit)
within-ok limit place d e is =
    let both = if-ok (nat_le (counted d) limit) d e (SymbolLimit, place) is in
    (both.1, leb-true (counted d) limit both.0)

pub both-true : (a b : Bool) → (a && b) ≡ true → (a ≡ true) × (b ≡ true)
both-true true b e = (refl, e)
both-true false b e = cc

-- ---- the slots

abbrev pub with_slots : Slots → Draft → Draft
with_slots slots d = record d { table = record d.table { slots = slots } }

pub elements-drawn : (limit : ℕ) (members : Members UserSymbol ℕ) (d e : Draft) → counted d ≤ limit → elements_drafted limit members d ≡ Ok e
    → (e ≡ with_slots (d.table.slots ++ elements members) d) × (counted e ≤ limit)
elements-drawn limit nothing d e cheap is =
    let same = ok-same d e is in
    (same ∙ ap (λ s. with_slots s d) (sym (append-nil d.table.slots)), subst (λ x. counted x ≤ limit) (sym same) cheap)
elements-drawn limit (member before field annotations place x) d e cheap is =
    let two = and_draft-ok (elements_drafted limit before d) (λ f. within limit place (with_text (string_in (seen x)) f)) e is in
    let first = elements-drawn limit before d two.0 cheap two.1 in
    let last = within-ok limit place (with_text (string_in (seen x)) two.0) e two.2 in (
      last.0 ∙ (ap (λ f. with_text (string_in (seen x)) f) first.0
          ∙ ap (λ s. with_slots s d) (append_assoc d.table.slots (elements before) (string_in (seen x) ∷ []))),
      subst (λ f. counted f ≤ limit) (sym last.0) last.1,
    )

-- ---- the fields

abbrev pub Met : Type 0
Met = Option (Value UserSymbol ℕ)

-- a draft by the fields that were met
abbrev pub meant : List Shared → Met → Met → Met → Draft
meant tables name version symbols =
    record { tables = tables; has_version = is_some version; has_symbols = is_some symbols; table = record { name = name_in name; version = version_of version; slots = slots_of symbols } }

-- a draft is that of the fields, within the limit, and each stood once at most
pub record Drawn (limit : ℕ) (tables : List Shared) (name version symbols : Met) (n v s i : ℕ) (e : Draft) : Type 0 where
  pub is : e ≡ meant tables name version symbols
  pub cheap : counted (meant tables name version symbols) ≤ limit
  pub nameless : is_none_left (name_in name) ≡ true → name ≡ None
  pub no_name : name ≡ None → n ≡ 0
  pub no_version : version ≡ None → v ≡ 0
  pub no_symbols : symbols ≡ None → s ≡ 0
  pub name_once : n ≤ 1
  pub version_once : v ≤ 1
  pub symbols_once : s ≤ 1
  pub no_imports : i ≤ 0

kept : {limit : ℕ} {tables : List Shared} {n v s i : ℕ} {e : Draft} (name version symbols : Met) → Drawn limit tables name version symbols n v s i e
    → Drawn limit tables (or_later name None) (or_later version None) (or_later symbols None) n v s i e
kept None None None d = d
kept None None (Some z) d = d
kept None (Some y) None d = d
kept None (Some y) (Some z) d = d
kept (Some x) None None d = d
kept (Some x) None (Some z) d = d
kept (Some x) (Some y) None d = d
kept (Some x) (Some y) (Some z) d = d

-- the same numbers
recount : {limit : ℕ} {tables : List Shared} {name version symbols : Met} {n v s i : ℕ} {e : Draft} (m w t j : ℕ) → Drawn limit tables name version symbols n v s i e
    → m ≡ n → w ≡ v → t ≡ s → j ≡ i → Drawn limit tables name version symbols m w t j e
recount m w t j d en ev es ei = record {
  is = d.is;
  cheap = d.cheap;
  nameless = d.nameless;
  no_name = λ e. en ∙ d.no_name e;
  no_version = λ e. ev ∙ d.no_version e;
  no_symbols = λ e. es ∙ d.no_symbols e;
  name_once = let h = d.name_once in omega (arith, h, en);
  version_once = let h = d.version_once in omega (arith, h, ev);
  symbols_once = let h = d.symbols_once in omega (arith, h, es);
  no_imports = let h = d.no_imports in omega (arith, h, ei);
}

-- the name
not_empty : (t : List ℕ) → is_name t ≡ true → is_none_left t ≡ true → ⊥
not_empty [] name empty = cc
not_empty (b ∷ bs) name empty = cc

name-drawn : (limit place top : ℕ) (tables : List Shared) (x : Value UserSymbol ℕ) (what : FieldValue) (version symbols : Met) (n v s i : ℕ) (d e : Draft) → seen x ≡ what
    → Drawn limit tables None version symbols n v s i d → name_met limit place top what (meant tables None version symbols) ≡ Ok e
    → Drawn limit tables (Some x) version symbols (n + 1) v s i e
name-drawn limit place top tables x (begins k) version symbols n v s i d e w f is = cc
name-drawn limit place top tables x ends version symbols n v s i d e w f is = cc
name-drawn limit place top tables x other version symbols n v s i d e w f is = cc
name-drawn limit place top tables x (string t) version symbols n v s i d e w f is =
    let named = when-ok (is_name t) (within limit place (with_name t (meant tables None version symbols))) e (CatalogEntry, top) is in
    let whole = within-ok limit place (with_name t (meant tables None version symbols)) e named.1 in
    let same : t ≡ name_in (Some x) = ap (λ u. text_or_none (string_in u)) (sym w) in
    let none : n ≡ 0 = f.no_name refl in
    record {
      is = whole.0 ∙ ap (λ t. with_name t (meant tables None version symbols)) same;
      cheap = subst (λ t. counted (with_name t (meant tables None version symbols)) ≤ limit) same whole.1;
      nameless = λ empty. absurd (not_empty t named.0 (ap is_none_left same ∙ empty));
      no_name = λ e. cc;
      no_version = f.no_version;
      no_symbols = f.no_symbols;
      name_once = omega (arith, none);
      version_once = f.version_once;
      symbols_once = f.symbols_once;
      no_imports = f.no_imports;
    }
name-drawn limit place top tables x (int negative m) version symbols n v s i d e w f is = cc
name-drawn limit place top tables x (names u) version symbols n v s i d e w f is = cc

-- a second name
name-again : (limit place top : ℕ) (tables : List Shared) (x y : Value UserSymbol ℕ) (what : FieldValue) (version symbols : Met) (n v s i : ℕ) (d e : Draft)
    → Drawn limit tables (Some y) version symbols n v s i d → name_met limit place top what (meant tables (Some y) version symbols) ≡ Ok e → ⊥
name-again limit place top tables x y (begins k) version symbols n v s i d e f is = cc
name-again limit place top tables x y ends version symbols n v s i d e f is = cc
name-again limit place top tables x y other version symbols n v s i d e f is = cc
name-again limit place top tables x y (string t) version symbols n v s i d e f is =
    let named = when-ok (is_none_left (name_in (Some y)) && is_name t) (within limit place (with_name t (meant tables (Some y) version symbols))) e (CatalogEntry, top) is in
    let none : Some y ≡ None = f.nameless (both-true (is_none_left (name_in (Some y))) (is_name t) named.0).0 in
    cc
name-again limit place top tables x y (int negative m) version symbols n v s i d e f is = cc
name-again limit place top tables x y (names u) version symbols n v s i d e f is = cc

-- the version
version-drawn : (limit top : ℕ) (tables : List Shared) (x : Value UserSymbol ℕ) (name symbols : Met) (n v s i : ℕ) (d e : Draft)
    → Drawn limit tables name None symbols n v s i d → version_met top (seen x) (meant tables name None symbols) ≡ Ok e
    → Drawn limit tables name (Some x) symbols n (v + 1) s i e
version-drawn limit top tables x name symbols n v s i d e f is =
    let fits = if-ok (nat_le (version_in (seen x)) 2147483647) (meant tables name (Some x) symbols) e (CatalogEntry, top) is in
    let none : v ≡ 0 = f.no_version refl in
    record {
      is = fits.1;
      cheap = f.cheap;
      nameless = f.nameless;
      no_name = f.no_name;
      no_version = λ e. cc;
      no_symbols = f.no_symbols;
      name_once = f.name_once;
      version_once = omega (arith, none);
      symbols_once = f.symbols_once;
      no_imports = f.no_imports;
    }

-- the slots
slots-drawn : (limit : ℕ) (tables : List Shared) (x : Value UserSymbol ℕ) (name version : Met) (e : Draft) → counted (meant tables name version None) ≤ limit
    → symbols_drafted limit x (record (meant tables name version None) { has_symbols = true }) ≡ Ok e
    → (e ≡ meant tables name version (Some x)) × (counted (meant tables name version (Some x)) ≤ limit)
slots-drawn limit tables (container kind.List members last) name version e cheap is =
    let all = elements-drawn limit members (record (meant tables name version None) { has_symbols = true }) e cheap is in
    (all.0, subst (λ d. counted d ≤ limit) all.0 all.1)
slots-drawn limit tables (container kind.Sexp members last) name version e cheap is = (ok-same _ e is, cheap)
slots-drawn limit tables (container kind.Struct members last) name version e cheap is = (ok-same _ e is, cheap)
slots-drawn limit tables (scalar body) name version e cheap is = (ok-same _ e is, cheap)

symbols-drawn : (limit top : ℕ) (tables : List Shared) (x : Value UserSymbol ℕ) (name version : Met) (n v s i : ℕ) (d e : Draft)
    → Drawn limit tables name version None n v s i d
    → and_draft (symbols_met top (meant tables name version None)) (λ f. symbols_drafted limit x f) ≡ Ok e
    → Drawn limit tables name version (Some x) n v (s + 1) i e
symbols-drawn limit top tables x name version n v s i d e f is =
    let all = slots-drawn limit tables x name version e f.cheap is in
    let none : s ≡ 0 = f.no_symbols refl in
    record {
      is = all.0;
      cheap = all.1;
      nameless = f.nameless;
      no_name = f.no_name;
      no_version = f.no_version;
      no_symbols = λ e. cc;
      name_once = f.name_once;
      version_once = f.version_once;
      symbols_once = omega (arith, none);
      no_imports = f.no_imports;
    }

-- a field that means nothing
nothing-drawn : (limit : ℕ) (tables : List Shared) (name version symbols : Met) (n v s i : ℕ) (d e : Draft) → Drawn limit tables name version symbols n v s i d
    → Gives (Ok (meant tables name version symbols)) e → Drawn limit tables (or_later name None) (or_later version None) (or_later symbols None) n v s i e
nothing-drawn limit tables name version symbols n v s i d e f is =
    kept name version symbols (record {
      is = ok-same (meant tables name version symbols) e is;
      cheap = f.cheap;
      nameless = f.nameless;
      no_name = f.no_name;
      no_version = f.no_version;
      no_symbols = f.no_symbols;
      name_once = f.name_once;
      version_once = f.version_once;
      symbols_once = f.symbols_once;
      no_imports = f.no_imports;
    })

-- one that may
abbrev pub if_met : Word → Word → Value UserSymbol ℕ → Met
if_met w v x = if same_word w v then Some x else None

abbrev pub once_if : Word → Word → ℕ
once_if w v = if same_word w v then 1 else 0

field-drawn : (limit top place : ℕ) (tables : List Shared) (x : Value UserSymbol ℕ) (name version symbols : Met) (n v s i : ℕ) (d e : Draft) (w : Word)
    → Drawn limit tables name version symbols n v s i d → field_drafted limit top place x (meant tables name version symbols) w ≡ Ok e
    → Drawn limit tables (or_later name (if_met w word.Name x)) (or_later version (if_met w word.Version x)) (or_later symbols (if_met w word.Symbols x))
    (n + once_if w word.Name) (v + once_if w word.Version) (s + once_if w word.Symbols) (i + once_if w word.Imports) e
field-drawn limit top place tables x None version symbols n v s i d e word.Name f is =
    recount (n + 1) (v + 0) (s + 0) (i + 0) (kept (Some x) version symbols (name-drawn limit place top tables x (seen x) version symbols n v s i d e refl f is))
    refl (omega arith) (omega arith) (omega arith)
field-drawn limit top place tables x (Some y) version symbols n v s i d e word.Name f is =
    absurd (name-again limit place top tables x y (seen x) version symbols n v s i d e f is)
field-drawn limit top place tables x name None symbols n v s i d e word.Version f is =
    recount (n + 0) (v + 1) (s + 0) (i + 0) (kept name (Some x) symbols (version-drawn limit top tables x name symbols n v s i d e f is))
    (omega arith) refl (omega arith) (omega arith)
field-drawn limit top place tables x name (Some y) symbols n v s i d e word.Version f is = cc
field-drawn limit top place tables x name version None n v s i d e word.Symbols f is =
    recount (n + 0) (v + 0) (s + 1) (i + 0) (kept name version (Some x) (symbols-drawn limit top tables x name version n v s i d e f is))
    (omega arith) (omega arith) refl (omega arith)
field-drawn limit top place tables x name version (Some z) n v s i d e word.Symbols f is = cc
field-drawn limit top place tables x name version symbols n v s i d e word.Imports f is = cc
field-drawn limit top place tables x name version symbols n v s i d e word.MaxId f is =
    recount (n + 0) (v + 0) (s + 0) (i + 0) (nothing-drawn limit tables name version symbols n v s i d e f is) (omega arith) (omega arith) (omega arith) (omega arith)
field-drawn limit top place tables x name version symbols n v s i d e word.Declaration f is =
    recount (n + 0) (v + 0) (s + 0) (i + 0) (nothing-drawn limit tables name version symbols n v s i d e f is) (omega arith) (omega arith) (omega arith) (omega arith)
field-drawn limit top place tables x name version symbols n v s i d e word.Other f is =
    recount (n + 0) (v + 0) (s + 0) (i + 0) (nothing-drawn limit tables name version symbols n v s i d e f is) (omega arith) (omega arith) (omega arith) (omega arith)

abbrev FieldsDrawn : ℕ → List Shared → Members UserSymbol ℕ → Draft → Type 0
FieldsDrawn limit tables members e =
    Drawn limit tables (value_of word.Name members) (value_of word.Version members) (value_of word.Symbols members)
    (times word.Name members) (times word.Version members) (times word.Symbols members) (times word.Imports members) e

pub fields-drawn : (limit top : ℕ) (tables : List Shared) (members : Members UserSymbol ℕ) (e : Draft) → catalog_cost tables ≤ limit
    → fields_drafted limit top members (after_tables tables) ≡ Ok e → FieldsDrawn limit tables members e
fields-drawn limit top tables nothing e cheap is = record {
  is = ok-same (after_tables tables) e is;
  cheap = omega (arith, cheap);
  nameless = λ empty. refl;
  no_name = λ none. refl;
  no_version = λ none. refl;
  no_symbols = λ none. refl;
  name_once = omega arith;
  version_once = omega arith;
  symbols_once = omega arith;
  no_imports = omega arith;
}
fields-drawn limit top tables (member before field annotations place x) e cheap is =
    let two = and_draft-ok (fields_drafted limit top before (after_tables tables)) (λ f. field_drafted limit top place x f (user_field field)) e is in
    let first = fields-drawn limit top tables before two.0 cheap two.1 in
    field-drawn limit top place tables x (value_of word.Name before) (value_of word.Version before) (value_of word.Symbols before)
    (times word.Name before) (times word.Version before) (times word.Symbols before) (times word.Imports before) two.0 e (user_field field) first
    (subst (λ f. field_drafted limit top place x f (user_field field) ≡ Ok e) first.is two.2)

-- ---- values at top level

fit : (limit : ℕ) (tables : List Shared) (members : Members UserSymbol ℕ) (e : Draft) → FieldsDrawn limit tables members e → fields_fit members ≡ true
fit limit tables members e d =
    ap (λ b. b && (nat_le (times word.Version members) 1 && (nat_le (times word.Symbols members) 1 && nat_le (times word.Imports members) 0))) (le-leb (times word.Name members) 1 d.name_once)
    ∙ (ap (λ b. b && (nat_le (times word.Symbols members) 1 && nat_le (times word.Imports members) 0)) (le-leb (times word.Version members) 1 d.version_once)
    ∙ (ap (λ b. b && nat_le (times word.Imports members) 0) (le-leb (times word.Symbols members) 1 d.symbols_once)
    ∙ le-leb (times word.Imports members) 0 d.no_imports))

-- a table was added after others
pub record Added (limit : ℕ) (tables : List Shared) (s : Option Shared) (e : Draft) : Type 0 where
  pub more : List Shared
  pub added : add_table tables s ≡ Some more
  pub is : e ≡ after_tables more
  pub cheap : catalog_cost more ≤ limit

struct-added : (limit first : ℕ) (tables : List Shared) (members : Members UserSymbol ℕ) (e : Draft) → catalog_cost tables ≤ limit
    → and_draft (fields_drafted limit first members (after_tables tables)) (λ d. table_ended first d) ≡ Ok e
    → (fields_fit members ≡ true) × Added limit tables (Some (shared_in members)) e
struct-added limit first tables members e cheap is =
    let two = and_draft-ok (fields_drafted limit first members (after_tables tables)) (λ d. table_ended first d) e is in
    let drawn = fields-drawn limit first tables members two.0 cheap two.1 in
    let d = meant tables (value_of word.Name members) (value_of word.Version members) (value_of word.Symbols members) in
    let whole = if-ok (may_stand tables (shared_in members)) (after_tables (tables ++ shared_in members ∷ [])) e (CatalogEntry, first) (subst (λ f. table_ended first f ≡ Ok e) drawn.is two.2) in
    let same : counted (after_tables (tables ++ shared_in members ∷ [])) ≡ counted d = counted-ended d whole.0 in
    let within_limit = drawn.cheap in (
      fit limit tables members two.0 drawn,
      record {
        more = tables ++ shared_in members ∷ [];
        added = ap (λ b. if b then Some (tables ++ shared_in members ∷ []) else None) whole.0;
        is = whole.1;
        cheap = omega (arith, same, within_limit);
      },
    )

shared-added : (limit first last : ℕ) (tables : List Shared) (annotations : List UserSymbol) (members : Members UserSymbol ℕ) (e : Draft) (b : Bool) → is_shared annotations ≡ b
    → catalog_cost tables ≤ limit
    → (if b then and_draft (fields_drafted limit first members (after_tables tables)) (λ d. table_ended first d) else Err (CatalogEntry, first)) ≡ Ok e
    → Added limit tables (if is_shared annotations && fields_fit members then Some (shared_in members) else None) e
shared-added limit first last tables annotations members e true shared cheap is =
    let both = struct-added limit first tables members e cheap is in
    let yes : (is_shared annotations && fields_fit members) ≡ true = ap (λ b. b && fields_fit members) shared ∙ both.0 in
    subst (λ b. Added limit tables (if b then Some (shared_in members) else None) e) (sym yes) both.1
shared-added limit first last tables annotations members e false shared cheap is = cc

pub top-added : (limit : ℕ) (tables : List Shared) (u : Top UserSymbol ℕ) (e : Draft) → catalog_cost tables ≤ limit → top_drafted limit u (after_tables tables) ≡ Ok e
    → Added limit tables (shared_of u) e
top-added limit tables (tree first annotations place (container kind.Struct members last)) e cheap is =
    shared-added limit first last tables annotations members e (is_shared annotations) refl cheap is
top-added limit tables (tree first annotations place (container kind.List members last)) e cheap is = cc
top-added limit tables (tree first annotations place (container kind.Sexp members last)) e cheap is = cc
top-added limit tables (tree first annotations place (scalar body)) e cheap is = cc
top-added limit tables (value.version place) e cheap is = cc

pub tops-added : (limit : ℕ) (tables : List Shared) (us : List (Top UserSymbol ℕ)) (e : Draft) → catalog_cost tables ≤ limit → tops_drafted limit us (after_tables tables) ≡ Ok e
    → (all : List Shared) × (tables_after tables us ≡ Some all) × (e ≡ after_tables all) × (catalog_cost all ≤ limit)
tops-added limit tables [] e cheap is = (tables, refl, ok-same (after_tables tables) e is, cheap)
tops-added limit tables (u ∷ us) e cheap is =
    let two = and_draft-ok (top_drafted limit u (after_tables tables)) (λ d. tops_drafted limit us d) e is in
    let one = top-added limit tables u two.0 cheap two.1 in
    let rest = tops-added limit one.more us e one.cheap (subst (λ d. tops_drafted limit us d ≡ Ok e) one.is two.2) in
    (rest.0, ap (λ o. and_tables o (λ more. tables_after more us)) one.added ∙ rest.1, rest.2, rest.3)

abbrev pub Tables : Type 0
Tables = Result (List Shared) (Reason × ℕ)

abbrev pub GivesTables : Tables → List Shared → Type 0
GivesTables r tables = r ≡ Ok tables

abbrev tables_or : List Shared → Tables → List Shared
tables_or none (Ok t) = t
tables_or none (Err why) = none

tables-same : (s t : List Shared) → GivesTables (Ok s) t → s ≡ t
tables-same s t is = ap (tables_or s) is

of-drafted : (limit : ℕ) (us : List (Top UserSymbol ℕ)) (tables : List Shared) (r : Drafted) → tops_drafted limit us (after_tables []) ≡ r → GivesTables (drafted_tables r) tables
    → (tables_of us ≡ Some tables) × (catalog_cost tables ≤ limit)
of-drafted limit us tables (Ok d) e is =
    let all = tops-added limit [] us d (omega arith) e in
    let same : all.0 ≡ tables = ap (λ (x : Draft). x.tables) (sym all.2) ∙ tables-same d.tables tables is in
    (all.1 ∙ ap (λ t. Some t) same, subst (λ t. catalog_cost t ≤ limit) same all.3)
of-drafted limit us tables (Err why) e is = cc

pub catalogs-tables : (limit : ℕ) (us : List (Top UserSymbol ℕ)) (tables : List Shared) → catalog_of limit us ≡ Ok tables
    → (tables_of us ≡ Some tables) × (catalog_cost tables ≤ limit)
catalogs-tables limit us tables is = of-drafted limit us tables (tops_drafted limit us (after_tables [])) refl is
