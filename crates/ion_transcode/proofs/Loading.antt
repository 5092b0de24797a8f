-- A stream's catalogue is that of its reading.
use Rattle.std.proofs.Common.{◌≡◌, ℕ, suc, ◌+◌, ◌≤◌, List, [], ◌∷◌, ◌++◌, Option, Some, None, Ok, Err, refl, ap, sym, subst, ◌∙◌, arith, append-nil}
use Rattle.ion_meter.specs.declared.fault.Reason.{Reason}
use Rattle.ion_meter.specs.declared.limits.Limits.{Limits}
use Rattle.ion_meter.specs.Rules.{strict}
use Rattle.ion_value.specs.Value.{SymbolAt, UserSymbol, Top, PlacedItem, user_items, top_items}
use Rattle.ion_value.specs.Reading.{Reading, Finished, Stopped, More, items_of, items_then, Ends}
use Rattle.ion_value.specs.Outcome.{Verdict, Accepted, output_with, output_after}
use Rattle.ion_value.proofs.Readings.{reading_for-enough, items_of-items_then}
use Rattle.ion_symbols.specs.declared.catalog_builder.Stage.TheVariants as stage
use Rattle.ion_symbols.specs.Table.{Shared, catalog_cost}
use Rattle.ion_symbols.specs.Users as users
use Rattle.ion_symbols.specs.Users.{at_start}
use Rattle.ion_symbols.specs.Laws.{UsersAreRead}
use Rattle.ion_symbols.specs.CatalogItems.{Drafted, Loading, Loaded, after_tables, at, then_load, loaded}
use Rattle.ion_symbols.specs.CatalogTrees.{tables_of, tops_drafted, drafted_tables}
use Rattle.ion_symbols.specs.CatalogLaws.{CatalogsAreRead, CatalogsAreTables}
use Rattle.ion_transcode.specs.declared.to.Form.{Form}
use Rattle.ion_transcode.specs.declared.to.Form.TheVariants as form
use Rattle.ion_transcode.specs.Encoding.{Encoding, IsSound}
use Rattle.ion_transcode.specs.Outputs.{Outputs, Agrees}
use Rattle.ion_transcode.specs.Forms.{IsBinary, form_of, encoding_of, reading_of}
use Rattle.ion_transcode.specs.Verdict.{Faultless, HasVerdictFrom, whole, refused}
use Rattle.ion_transcode.specs.Laws.{BinaryIsSound, TextIsSound}
use Rattle.ion_transcode.specs.Catalogues.{as_catalog, IsCatalogIn, catalog_users, catalog_verdict, Loads, CatalogVerdictsAreRead, CatalogsAreLoaded, OneCatalogVerdict}
use Rattle.ion_transcode.proofs.Faultless.{raw_in, user-step, faultless-prefixes, faultless-tops}
use Rattle.ion_transcode.proofs.Reached.{reading-reached}
use Rattle.ion_transcode.proofs.Streams.{first_byte}
use Rattle.ion_transcode.proofs.VerdictUnique.{one_has_verdict}

-- nothing is written
agrees : (limits : Limits) → Agrees (as_catalog limits)
agrees limits mine us e = refl

output_with-nothing : (o : Option (Reason × ℕ)) (rest : List ℕ) → rest ≡ [] → output_with o [] rest ≡ []
output_with-nothing None rest e = e
output_with-nothing (Some why) rest e = refl

nothing_written : (refusal : List PlacedItem → PlacedItem → Option (Reason × ℕ)) (path : List PlacedItem) (r : Reading) → output_after (λ mine. []) refusal path r ≡ []
nothing_written refusal path Finished = refl
nothing_written refusal path (Stopped reason place) = refl
nothing_written refusal path (More item rest) = output_with-nothing (refusal path item) _ (nothing_written refusal (path ++ item ∷ []) rest)

-- ---- the tables of what was read

-- of a stream that is accepted
pub record WholeOf (e : Encoding) (target : Outputs) (limits : Limits) (bytes : List ℕ) : Type 0 where
  pub tops : List (Top SymbolAt ℕ)
  pub mine : List PlacedItem
  pub s : e.State
  pub u : users.State
  pub spelled : e.Stream bytes tops
  pub faultless : Faultless e target [] limits bytes (top_items tops) s u mine
  pub ends : e.step limits s ≡ Ends

pub whole-of : (e : Encoding) (target : Outputs) (limits : Limits) (bytes : List ℕ) (v : Verdict) (out : List ℕ) (n : ℕ) → HasVerdictFrom e target [] limits bytes v out → v ≡ Accepted n
    → WholeOf e target limits bytes
whole-of e target limits bytes _ _ n (whole tops us mine s u spelled faultless ends users_are) is =
    record { tops = tops; mine = mine; s = s; u = u; spelled = spelled; faultless = faultless; ends = ends }
whole-of e target limits bytes _ _ n (refused path mine s u reason place at_path faultless fault) is = cc

abbrev loading_or : Loading → Loaded → Loading
loading_or s (Ok t) = t
loading_or s (Err why) = s

abbrev Leads : Loaded → Loading → Type 0
Leads r s = r ≡ Ok s

-- what leads to a state has its tables
drafted : (r : Drafted) (left : Loading) → Leads (then_load r (λ d. Ok (at stage.Outside d))) left → drafted_tables r ≡ Ok left.draft.tables
drafted (Ok d) left is = ap (λ (s : Loading). Ok s.draft.tables) (ap (loading_or left) is)
drafted (Err why) left is = cc

-- values whose items lead to a state are its tables
values-meant : CatalogsAreRead → CatalogsAreTables → (limit : ℕ) (mine : List PlacedItem) (us : List (Top UserSymbol ℕ)) (left : Loading) → user_items mine ≡ top_items us
    → Leads (loaded limit (user_items mine)) left → (tables_of us ≡ Some left.draft.tables) × (catalog_cost left.draft.tables ≤ limit)
values-meant read meant limit mine us left same is =
    (meant limit us left.draft.tables).0 (drafted (tops_drafted limit us (after_tables [])) left (sym (read limit us) ∙ (sym (ap (loaded limit) same) ∙ is)))

module _ (users_read : UsersAreRead) (e : Encoding) (IsOf : List ℕ → Type 0) (reading : Limits → List ℕ → Reading) (sound : IsSound e IsOf reading)
    (limits : Limits) (bytes : List ℕ) (is_of : IsOf bytes) where
  -- the stream has the verdict of its reading
  pub reached : HasVerdictFrom e (as_catalog limits) [] limits bytes (catalog_verdict limits (reading limits bytes)) []
  reached =
      subst (λ out. HasVerdictFrom e (as_catalog limits) [] limits bytes (catalog_verdict limits (reading limits bytes)) out)
      (nothing_written (as_catalog limits).refusal [] (catalog_users limits (reading limits bytes)))
      (reading-reached users_read e IsOf reading sound (as_catalog limits) (agrees limits) [] limits bytes is_of)

  -- where it is accepted its user items are those of the stream
  all_mine : (w : WholeOf e (as_catalog limits) limits bytes) → items_of (catalog_users limits (reading limits bytes)) ≡ w.mine
  all_mine w =
      let prefix = faultless-prefixes e (as_catalog limits) [] limits bytes (top_items w.tops) w.s w.u w.mine w.faultless in
      let fuel = suc (sound.size (e.start bytes)) in
      let enough : reading limits bytes ≡ raw_in e (as_catalog limits) [] limits (prefix.steps + fuel) (e.start bytes) =
      sound.reads limits bytes ∙ reading_for-enough (e.step limits) sound.size (sound.falls limits) fuel (prefix.steps + fuel) (e.start bytes) (omega arith) (omega arith) in
      let all : catalog_users limits (reading limits bytes) ≡ items_then w.mine Finished =
      ap (catalog_users limits) enough ∙ (prefix.own fuel ∙ ap (items_then w.mine) (user-step e (as_catalog limits) [] limits (sound.size (e.start bytes)) w.s w.u Ends w.ends)) in
      ap items_of all ∙ (items_of-items_then w.mine Finished ∙ append-nil w.mine)

  of-whole : CatalogsAreRead → CatalogsAreTables → (tables : List Shared) → Loads limits (reading limits bytes) tables → WholeOf e (as_catalog limits) limits bytes → IsCatalogIn e limits bytes tables
  of-whole read meant tables loads w =
      let prefix = faultless-prefixes e (as_catalog limits) [] limits bytes (top_items w.tops) w.s w.u w.mine w.faultless in
      let values = faultless-tops e (as_catalog limits) [] limits users_read bytes w.tops w.s w.u w.mine prefix w.ends in
      let is : Leads (loaded limits.symbols (user_items w.mine)) loads.left = ap (λ items. loaded limits.symbols (user_items items)) (sym (all_mine w)) ∙ loads.read in
      let found = values-meant read meant limits.symbols w.mine values.0 loads.left values.2 is in
      record {
        tops = w.tops;
        values = values.0;
        spelled = w.spelled;
        users_are = values.1;
        tables_are = found.0 ∙ ap (λ t. Some t) loads.tables_are;
        cheap = subst (λ t. catalog_cost t ≤ limits.symbols) loads.tables_are found.1;
        accepted = whole w.tops values.0 w.mine w.s w.u w.spelled w.faultless w.ends values.1;
      }

  -- and its tables
  pub catalog-loaded : CatalogsAreRead → CatalogsAreTables → (tables : List Shared) → Loads limits (reading limits bytes) tables → IsCatalogIn e limits bytes tables
  catalog-loaded read meant tables loads = of-whole read meant tables loads (whole-of e (as_catalog limits) limits bytes _ [] loads.count reached loads.accepted)

-- ---- by the form of the stream

module _ (binary_sound : BinaryIsSound) (text_sound : TextIsSound) (users_read : UsersAreRead) where
  verdict-read : (f : Form) (limits : Limits) (bytes : List ℕ) → (f ≡ form.Binary → IsBinary bytes)
      → HasVerdictFrom (encoding_of strict f) (as_catalog limits) [] limits bytes (catalog_verdict limits (reading_of strict f limits bytes)) []
  verdict-read form.Binary limits bytes is =
      reached users_read (encoding_of strict form.Binary) IsBinary (reading_of strict form.Binary) (binary_sound strict) limits bytes (is refl)
  verdict-read form.Text limits bytes is =
      reached users_read (encoding_of strict form.Text) (λ b. Unit {0}) (reading_of strict form.Text) (text_sound strict) limits bytes tt

  loaded-read : CatalogsAreRead → CatalogsAreTables → (f : Form) (limits : Limits) (bytes : List ℕ) (tables : List Shared) → (f ≡ form.Binary → IsBinary bytes)
      → Loads limits (reading_of strict f limits bytes) tables → IsCatalogIn (encoding_of strict f) limits bytes tables
  loaded-read read meant form.Binary limits bytes tables is loads =
      catalog-loaded users_read (encoding_of strict form.Binary) IsBinary (reading_of strict form.Binary) (binary_sound strict) limits bytes (is refl) read meant tables loads
  loaded-read read meant form.Text limits bytes tables is loads =
      catalog-loaded users_read (encoding_of strict form.Text) (λ b. Unit {0}) (reading_of strict form.Text) (text_sound strict) limits bytes tt read meant tables loads

  pub verdicts_read : CatalogVerdictsAreRead
  verdicts_read limits bytes = verdict-read (form_of bytes) limits bytes (first_byte bytes)

  pub catalogs_loaded : CatalogsAreRead → CatalogsAreTables → CatalogsAreLoaded
  catalogs_loaded read meant limits bytes tables loads = loaded-read read meant (form_of bytes) limits bytes tables (first_byte bytes) loads

-- ---- one verdict

pub one_verdict : UsersAreRead → OneCatalogVerdict
one_verdict users_read limits bytes v w c d =
    (one_has_verdict users_read (encoding_of strict (form_of bytes)) (as_catalog limits) (agrees limits) [] limits bytes v w [] [] c d).0
