-- The user items of a faultless path are those of its path of user values, so that what is written of a refused stream is what such a path has.
use Rattle.std.specs.Prelude.{⊤}
use Rattle.std.proofs.Common.{◌≡◌, ℕ, List, [], ◌∷◌, Option, Some, None, refl, ap, sym, ◌∙◌, subst}
use Rattle.ion_meter.specs.declared.fault.Reason.{Reason}
use Rattle.ion_meter.specs.declared.limits.Limits.{Limits}
use Rattle.ion_meter.specs.declared.profile.Profile.{Profile}
use Rattle.ion_value.specs.Value.{SymbolAt, UserSymbol, Members, Top, PlacedItem, top_items, user_items}
use Rattle.ion_value.specs.Path.{Path, Nest, closed, opened, path_items}
use Rattle.ion_value.specs.Reading.{Reading, Finished, More, items_then, Step, Ends, Stops, Gives, GoesOn}
use Rattle.ion_value.specs.Outcome.{Verdict, Accepted, Rejected}
use Rattle.ion_symbols.specs.Table.{Shared, Table, system}
use Rattle.ion_symbols.specs.Users as users
use Rattle.ion_symbols.specs.Users.{at_start, by_step, user_step}
use Rattle.ion_symbols.specs.Tree.{user_at, user_tops}
use Rattle.ion_symbols.specs.Laws.{UsersAreRead, OpenUsersAreRead, table_after, map_nest, open_declaration}
use Rattle.ion_binary.specs.Canonical.{binary}
use Rattle.ion_binary.specs.Refusals.{refused_after}
use Rattle.ion_text_out.specs.Laws.{EachTextIsThatOfItems}
use Rattle.ion_text_out.specs.Layout.{canonical, pretty}
use Rattle.ion_text_out.specs.Text.{items_text_by}
use Rattle.ion_transcode.specs.declared.to.Form.{Form}
use Rattle.ion_transcode.specs.declared.to.Target.{Target}
use Rattle.ion_transcode.specs.declared.to.Target.TheVariants as target
use Rattle.ion_transcode.specs.Encoding.{Encoding}
use Rattle.ion_transcode.specs.Outputs.{Outputs, outputs_of, whole_tops}
use Rattle.ion_transcode.specs.Forms.{form_of, encoding_of}
use Rattle.ion_transcode.specs.Verdict.{Faultless, nothing, goes_on, taken_in, user, step_fault, next_fault, HasVerdictFrom, whole, refused, HasVerdictAs}
use Rattle.ion_transcode.specs.UserPaths.{none_open, value_open, declaration_open, UsersAlong, FaultlessPathsAreRead, IsRefusedOutput, RefusedOutputIsThatOfAPath, path_output, path_refusal}
use Rattle.ion_transcode.proofs.Agreeing.{path-is}
use Rattle.ion_value.proofs.Readings.{items_then-append}

-- what is read of users in items that are faultless, whatever stands after them
faultless-users : (e : Encoding) (target : Outputs) (catalog : List Shared) (limits : Limits) (bytes : List ℕ) (items : List PlacedItem) (s : e.State)
    (u : users.State) (mine : List PlacedItem) → Faultless e target catalog limits bytes items s u mine → (rest : Reading)
    → users.users catalog limits.symbols at_start (items_then items rest) ≡ items_then mine (users.users catalog limits.symbols u rest)
faultless-users e target catalog limits bytes _ _ _ _ nothing rest = refl
faultless-users e target catalog limits bytes _ _ _ _ (goes_on items mine s t u f is) rest = faultless-users e target catalog limits bytes items s u mine f rest
faultless-users e target catalog limits bytes _ _ _ _ (taken_in items mine item s t u v f is g) rest =
    ap (users.users catalog limits.symbols at_start) (items_then-append items (item ∷ []) rest)
    ∙ (faultless-users e target catalog limits bytes items s u mine f (More item rest)
    ∙ ap (λ o. items_then mine (by_step o (λ w. users.users catalog limits.symbols w rest))) g)
faultless-users e target catalog limits bytes _ _ _ _ (user items mine item own s t u v f is g fine) rest =
    ap (users.users catalog limits.symbols at_start) (items_then-append items (item ∷ []) rest)
    ∙ (faultless-users e target catalog limits bytes items s u mine f (More item rest)
    ∙ (ap (λ o. items_then mine (by_step o (λ w. users.users catalog limits.symbols w rest))) g
    ∙ sym (items_then-append mine (own ∷ []) (users.users catalog limits.symbols v rest))))

-- where containers are open
users-open : (catalog : List Shared) (tops : List (Top SymbolAt ℕ)) (us : List (Top UserSymbol ℕ)) (t : Table) (first : ℕ) (nest : Nest SymbolAt ℕ) (mine : List PlacedItem)
    → user_tops catalog system tops ≡ Some us → table_after catalog system tops ≡ Some t
    → (open_declaration t nest ≡ None → user_items mine ≡ path_items (opened us first (map_nest (user_at t) nest)))
    → ((members : Members SymbolAt ℕ) → open_declaration t nest ≡ Some members → user_items mine ≡ top_items us)
    → (d : Option (Members SymbolAt ℕ)) → open_declaration t nest ≡ d → UsersAlong catalog (opened tops first nest) mine
users-open catalog tops us t first nest mine says after_is value declaration None is = record {
  user_path = opened us first (map_nest (user_at t) nest);
  is_user_path = value_open tops us t first nest says after_is is;
  items = value is;
}
users-open catalog tops us t first nest mine says after_is value declaration (Some members) is = record {
  user_path = closed us;
  is_user_path = declaration_open tops us t first nest members says after_is is;
  items = declaration members is;
}

module _ (users_read : UsersAreRead) (open_users_read : OpenUsersAreRead) where
  -- what is read of users along a path, to its end
  pub users-along : (catalog : List Shared) (limit : ℕ) (path : Path SymbolAt ℕ) (mine : List PlacedItem)
      → users.users catalog limit at_start (items_then (path_items path) Finished) ≡ items_then mine Finished → UsersAlong catalog path mine
  users-along catalog limit (closed tops) mine e =
      let r = users_read catalog limit tops mine e in
      record { user_path = closed r.0; is_user_path = none_open tops r.0 r.1; items = r.2 }
  users-along catalog limit (opened tops first nest) mine e =
      let r = open_users_read catalog limit tops first nest mine e in
      users-open catalog tops r.0 r.1 first nest mine r.2 r.3 r.4 r.5 (open_declaration r.1 nest) refl

  pub faultless_paths_are_read : FaultlessPathsAreRead
  faultless_paths_are_read profile form target catalog limits bytes path mine s u faultless =
      users-along catalog limits.symbols path mine
      (faultless-users (encoding_of profile form) (outputs_of target limits) catalog limits bytes (path_items path) s u mine faultless Finished)

-- ---- what is refused

-- what is written of user items, and refused after them, is that of their path
output-is : EachTextIsThatOfItems → (to : Target) (limits : Limits) (path : Path UserSymbol ℕ) (mine : List PlacedItem) → user_items mine ≡ path_items path
    → (outputs_of to limits).open_output mine ≡ path_output to limits path
output-is texts target.Text limits path mine e = ap (items_text_by canonical []) e ∙ (texts canonical).1 path
output-is texts target.Pretty limits path mine e = ap (items_text_by pretty []) e ∙ (texts pretty).1 path
output-is texts target.Binary limits path mine e = ap (λ (p : Path UserSymbol ℕ). binary limits.symbols (whole_tops p)) (path-is path mine e)
output-is texts target.Nothing limits path mine e = refl

refusal-is : (to : Target) (limits : Limits) (path : Path UserSymbol ℕ) (mine : List PlacedItem) (own : PlacedItem) → user_items mine ≡ path_items path
    → path_refusal to limits path own ≡ (outputs_of to limits).refusal mine own
refusal-is target.Text limits path mine own e = refl
refusal-is target.Pretty limits path mine own e = refl
refusal-is target.Binary limits path mine own e = ap (λ (p : Path UserSymbol ℕ). refused_after limits p own) (sym (path-is path mine e))
refusal-is target.Nothing limits path mine own e = refl

-- where two writers refuse the same, an item has the same first fault
step_fault-same : {T : Type 0} (a b : PlacedItem → Option (Reason × ℕ)) → ((item : PlacedItem) → a item ≡ b item) → (o : Step T)
    → step_fault a o ≡ step_fault b o
step_fault-same a b same Ends = refl
step_fault-same a b same (Stops reason place) = refl
step_fault-same a b same (Gives item after) = same item
step_fault-same a b same (GoesOn after) = refl

next_fault-same : (e : Encoding) (catalog : List Shared) (limits : Limits) (s : e.State) (u : users.State)
    (a b : PlacedItem → Option (Reason × ℕ)) → ((own : PlacedItem) → a own ≡ b own) → next_fault e a catalog limits s u ≡ next_fault e b catalog limits s u
next_fault-same e catalog limits s u a b same =
    step_fault-same _ _ (λ item. step_fault-same a b same (user_step catalog limits.symbols u item)) (e.step limits s)

module _ (read : FaultlessPathsAreRead) (texts : EachTextIsThatOfItems) (profile : Profile) (form : Form) (to : Target) (catalog : List Shared) (limits : Limits) (bytes : List ℕ) where
  abbrev e : Encoding
  e = encoding_of profile form

  -- what there is after a path that is faultless
  refused-after : (path : Path SymbolAt ℕ) (mine : List PlacedItem) (s : e.State) (u : users.State) (reason : Reason) (place : ℕ)
      → e.At bytes path s → Faultless e (outputs_of to limits) catalog limits bytes (path_items path) s u mine
      → next_fault e ((outputs_of to limits).refusal mine) catalog limits s u ≡ Some (reason, place)
      → IsRefusedOutput e to catalog limits bytes reason place ((outputs_of to limits).open_output mine)
  refused-after path mine s u reason place at faultless fault =
      let along = read profile form to catalog limits bytes path mine s u faultless in
      record {
        path = path;
        user_path = along.user_path;
        mine = mine;
        state = s;
        user_state = u;
        spelled = at;
        faultless = faultless;
        fault = next_fault-same e catalog limits s u _ _ (λ own. refusal-is to limits along.user_path mine own along.items) ∙ fault;
        is_user_path = along.is_user_path;
        output = output-is texts to limits along.user_path mine along.items;
      }

  -- of the verdicts of a stream those that refuse
  abbrev RefusedAs : Verdict → List ℕ → Type 0
  RefusedAs (Accepted count) out = ⊤
  RefusedAs (Rejected reason place) out = IsRefusedOutput e to catalog limits bytes reason place out

  refused-as : (v : Verdict) (out : List ℕ) → HasVerdictFrom e (outputs_of to limits) catalog limits bytes v out → RefusedAs v out
  refused-as _ _ (whole tops us mine s u stream faultless ends told) = tt
  refused-as _ _ (refused path mine s u reason place at faultless fault) = refused-after path mine s u reason place at faultless fault

pub refused_output_is_that_of_a_path : FaultlessPathsAreRead → EachTextIsThatOfItems → RefusedOutputIsThatOfAPath
refused_output_is_that_of_a_path read texts profile catalog limits to bytes target reason place out is has =
    refused-as read texts profile (form_of bytes) target catalog limits bytes (Rejected reason place) out
    (subst (λ r. HasVerdictAs profile r (form_of bytes) catalog limits bytes (Rejected reason place) out) is has)
