-- A stream that is accepted where nothing is written, and whose user values are tables within the limit, is their catalogue.
use Rattle.std.proofs.Common.{◌≡◌, ℕ, ◌≤◌, List, [], ◌∷◌, ◌++◌, Option, Some, None, Result, Ok, Err, refl, ap, sym, ◌∙◌}
use Rattle.std.proofs.lemmas.List.{map-append}
use Rattle.ion_meter.specs.declared.fault.Reason.{Reason}
use Rattle.ion_meter.specs.declared.limits.Limits.{Limits}
use Rattle.ion_meter.specs.Rules.{strict}
use Rattle.ion_value.specs.Value.{SymbolAt, UserSymbol, Top, Item, PlacedItem, user_item, user_items, top_items}
use Rattle.ion_value.specs.Outcome.{Verdict, Accepted}
use Rattle.ion_symbols.specs.declared.catalog_builder.Stage.TheVariants as stage
use Rattle.ion_symbols.specs.Table.{Shared, catalog_cost, system}
use Rattle.ion_symbols.specs.Tree.{user_tops}
use Rattle.ion_symbols.specs.Users as users
use Rattle.ion_symbols.specs.Laws.{UsersAreRead}
use Rattle.ion_symbols.specs.CatalogItems.{Drafted, Loading, Loaded, entry_view, after_tables, at, then_load, and_load, load_step, load_from, loaded, nothing_loaded, why_not}
use Rattle.ion_symbols.specs.CatalogTrees.{tables_of, tops_drafted, drafted_tables}
use Rattle.ion_symbols.specs.CatalogLaws.{CatalogsAreRead, CatalogsAreTables}
use Rattle.ion_transcode.specs.declared.to.Form.{Form}
use Rattle.ion_transcode.specs.declared.to.Form.TheVariants as form
use Rattle.ion_transcode.specs.declared.to.To.TheVariants as to
use Rattle.ion_transcode.specs.Encoding.{Encoding}
use Rattle.ion_transcode.specs.Outputs.{to_nothing, resolved}
use Rattle.ion_transcode.specs.Forms.{form_of, encoding_of}
use Rattle.ion_transcode.specs.Verdict.{Faultless, nothing, goes_on, taken_in, user, HasVerdictFrom, HasVerdictAs, whole}
use Rattle.ion_transcode.specs.Laws.{OneSpelling}
use Rattle.ion_transcode.specs.Catalogues.{as_catalog, IsCatalogIn, TablesAreCatalogs, OneCatalog}
use Rattle.ion_transcode.proofs.Faultless.{faultless-prefixes, faultless-tops}
use Rattle.ion_transcode.proofs.Loading.{WholeOf, whole-of}

-- ---- what is loaded without a fault, so is what goes before

abbrev Leads : Loaded → Loading → Type 0
Leads r s = r ≡ Ok s

first-leads : (r : Loaded) (f g : Loading → Loaded) (t : Loading) → ((a : Loading) → Leads (g a) t → (b : Loading) × Leads (f a) b) → Leads (and_load r g) t
    → (b : Loading) × Leads (and_load r f) b
first-leads (Ok a) f g t next is = next a is
first-leads (Err why) f g t next is = cc

before-loaded : (limit : ℕ) (is js : List (Item UserSymbol ℕ)) (s t : Loading) → Leads (load_from limit s (is ++ js)) t → (b : Loading) × Leads (load_from limit s is) b
before-loaded limit [] js s t e = (s, refl)
before-loaded limit (i ∷ is) js s t e =
    first-leads (load_step limit s (entry_view i)) (λ a. load_from limit a is) (λ a. load_from limit a (is ++ js)) t (λ a. before-loaded limit is js a t) e

path-loaded : (limit : ℕ) (mine : List PlacedItem) (own : PlacedItem) (t : Loading) → Leads (loaded limit (user_items (mine ++ own ∷ []))) t
    → (b : Loading) × Leads (loaded limit (user_items mine)) b
path-loaded limit mine own t e =
    before-loaded limit (user_items mine) (user_items (own ∷ [])) nothing_loaded t (sym (ap (loaded limit) (map-append user_item mine (own ∷ []))) ∙ e)

-- so no rule of a catalogue holds at an item
as-catalog : (e : Encoding) (limits : Limits) (bytes : List ℕ) (items : List PlacedItem) (s : e.State) (u : users.State) (mine : List PlacedItem) (t : Loading)
    → Faultless e to_nothing [] limits bytes items s u mine → Leads (loaded limits.symbols (user_items mine)) t → Faultless e (as_catalog limits) [] limits bytes items s u mine
as-catalog e limits bytes _ _ _ _ left nothing is = nothing
as-catalog e limits bytes _ _ _ _ left (goes_on items mine s t u f step) is = goes_on items mine s t u (as-catalog e limits bytes items s u mine left f is) step
as-catalog e limits bytes _ _ _ _ left (taken_in items mine item s t u v f step turn) is =
    taken_in items mine item s t u v (as-catalog e limits bytes items s u mine left f is) step turn
as-catalog e limits bytes _ _ _ _ left (user items mine item own s t u v f step turn fine) is =
    let before = path-loaded limits.symbols mine own left is in
    user items mine item own s t u v (as-catalog e limits bytes items s u mine before.0 f before.1) step turn (ap why_not is)

-- ---- tables within the limit are loaded

abbrev Gives : Result (List Shared) (Reason × ℕ) → List Shared → Type 0
Gives r tables = r ≡ Ok tables

drafted-leads : (r : Drafted) (tables : List Shared) → Gives (drafted_tables r) tables → (t : Loading) × Leads (then_load r (λ d. Ok (at stage.Outside d))) t
drafted-leads (Ok d) tables is = (at stage.Outside d, refl)
drafted-leads (Err why) tables is = cc

values-loaded : CatalogsAreRead → CatalogsAreTables → (limit : ℕ) (us : List (Top UserSymbol ℕ)) (tables : List Shared) → tables_of us ≡ Some tables
    → catalog_cost tables ≤ limit → (t : Loading) × Leads (loaded limit (top_items us)) t
values-loaded read meant limit us tables are cheap =
    let is = drafted-leads (tops_drafted limit us (after_tables [])) tables ((meant limit us tables).1 (are, cheap)) in
    (is.0, read limit us ∙ is.1)

abbrev Are : Option (List (Top UserSymbol ℕ)) → List (Top UserSymbol ℕ) → Type 0
Are o us = o ≡ Some us

abbrev values_or : List (Top UserSymbol ℕ) → Option (List (Top UserSymbol ℕ)) → List (Top UserSymbol ℕ)
values_or us None = us
values_or us (Some ws) = ws

same-values : (o : Option (List (Top UserSymbol ℕ))) (us ws : List (Top UserSymbol ℕ)) → Are o us → Are o ws → ws ≡ us
same-values o us ws is e = ap (values_or us) (sym e ∙ is)

of-tables : UsersAreRead → CatalogsAreRead → CatalogsAreTables → (e : Encoding) (limits : Limits) (bytes : List ℕ) (tops : List (Top SymbolAt ℕ)) (us : List (Top UserSymbol ℕ))
    (tables : List Shared) (w : WholeOf e to_nothing limits bytes) → w.tops ≡ tops → user_tops [] system tops ≡ Some us → tables_of us ≡ Some tables
    → catalog_cost tables ≤ limits.symbols → IsCatalogIn e limits bytes tables
of-tables users_read read meant e limits bytes tops us tables w same users_are are cheap =
    let prefix = faultless-prefixes e to_nothing [] limits bytes (top_items w.tops) w.s w.u w.mine w.faultless in
    let values = faultless-tops e to_nothing [] limits users_read bytes w.tops w.s w.u w.mine prefix w.ends in
    let mine_are : user_tops [] system w.tops ≡ Some us = ap (user_tops [] system) same ∙ users_are in
    let items : user_items w.mine ≡ top_items us = values.2 ∙ ap top_items (same-values (user_tops [] system w.tops) us values.0 mine_are values.1) in
    let all = values-loaded read meant limits.symbols us tables are cheap in
    record {
      tops = w.tops;
      values = us;
      spelled = w.spelled;
      users_are = mine_are;
      tables_are = are;
      cheap = cheap;
      accepted = whole w.tops us w.mine w.s w.u w.spelled
          (as-catalog e limits bytes (top_items w.tops) w.s w.u w.mine all.0 w.faultless (ap (loaded limits.symbols) items ∙ all.1)) w.ends mine_are;
    }

-- ---- by the form of the stream

written-to-nothing : (f : Form) (limits : Limits) (bytes : List ℕ) (v : Verdict) (out : List ℕ) → HasVerdictAs strict (resolved f to.Nothing) f [] limits bytes v out
    → HasVerdictFrom (encoding_of strict f) to_nothing [] limits bytes v out
written-to-nothing form.Binary limits bytes v out has = has
written-to-nothing form.Text limits bytes v out has = has

pub tables_are_catalogs : OneSpelling → UsersAreRead → CatalogsAreRead → CatalogsAreTables → TablesAreCatalogs
tables_are_catalogs once users_read read meant limits bytes tops us tables count out has spelled users_are are cheap =
    let e = encoding_of strict (form_of bytes) in
    let w = whole-of e to_nothing limits bytes (Accepted count) out count (written-to-nothing (form_of bytes) limits bytes (Accepted count) out has) refl in
    of-tables users_read read meant e limits bytes tops us tables w ((once strict (form_of bytes)).stream bytes w.tops tops w.spelled spelled) users_are are cheap

-- ---- one catalogue

same-tables : (o : Option (List Shared)) (s t : List Shared) → o ≡ Some s → o ≡ Some t → s ≡ t
same-tables o s t is e = ap (λ (r : Option (List Shared)). elim r [ None ↦ s | Some k ↦ k ]) (sym is ∙ e)

pub one_catalog : OneSpelling → OneCatalog
one_catalog once limits bytes s t a b =
    let tops : a.tops ≡ b.tops = (once strict (form_of bytes)).stream bytes a.tops b.tops a.spelled b.spelled in
    let values : a.values ≡ b.values = same-values (user_tops [] system b.tops) b.values a.values b.users_are (sym (ap (user_tops [] system) tops) ∙ a.users_are) in
    same-tables (tables_of b.values) s t (sym (ap tables_of values) ∙ a.tables_are) b.tables_are
