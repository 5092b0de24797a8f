-- The paths of user values that paths of raw items mean, and what is proved of the output of a stream that is refused: laws that contracts cite.
use Rattle.std.specs.Prelude.{◌≡◌, ℕ, List, [], Option, Some, None}
use Rattle.ion_meter.specs.declared.fault.Reason.{Reason}
use Rattle.ion_meter.specs.declared.limits.Limits.{Limits}
use Rattle.ion_meter.specs.declared.profile.Profile.{Profile}
use Rattle.ion_value.specs.Value.{SymbolAt, UserSymbol, Members, Top, PlacedItem, user_items}
use Rattle.ion_value.specs.Path.{Path, Nest, closed, opened, path_items}
use Rattle.ion_value.specs.Outcome.{Rejected}
use Rattle.ion_symbols.specs.Table.{Shared, Table, system}
use Rattle.ion_symbols.specs.Users as users
use Rattle.ion_symbols.specs.Tree.{user_at, user_tops}
use Rattle.ion_symbols.specs.Laws.{table_after, map_nest, open_declaration}
use Rattle.ion_binary.specs.Canonical.{binary}
use Rattle.ion_binary.specs.Refusals.{refused_after}
use Rattle.ion_text_out.specs.Layout.{pretty}
use Rattle.ion_text_out.specs.Text.{path_text, path_text_by}
use Rattle.ion_transcode.specs.declared.to.Form.{Form}
use Rattle.ion_transcode.specs.declared.to.To.{To}
use Rattle.ion_transcode.specs.declared.to.Target.{Target}
use Rattle.ion_transcode.specs.declared.to.Target.TheVariants as target
use Rattle.ion_transcode.specs.Encoding.{Encoding}
use Rattle.ion_transcode.specs.Outputs.{outputs_of, resolved, whole_tops}
use Rattle.ion_transcode.specs.Forms.{form_of, encoding_of}
use Rattle.ion_transcode.specs.Verdict.{Faultless, next_fault, HasVerdictWith}

-- the user values of a path: its whole values without version markers and declarations, and the containers that are open with their symbols as
-- they are in the table after these, unless they are a declaration's
pub data IsUserPath (catalog : List Shared) : Path SymbolAt ℕ → Path UserSymbol ℕ → Type 0 where
  none_open : (tops : List (Top SymbolAt ℕ)) (us : List (Top UserSymbol ℕ)) → user_tops catalog system tops ≡ Some us
      → IsUserPath catalog (closed tops) (closed us)
  value_open : (tops : List (Top SymbolAt ℕ)) (us : List (Top UserSymbol ℕ)) (t : Table) (first : ℕ) (nest : Nest SymbolAt ℕ)
      → user_tops catalog system tops ≡ Some us → table_after catalog system tops ≡ Some t → open_declaration t nest ≡ None
      → IsUserPath catalog (opened tops first nest) (opened us first (map_nest (user_at t) nest))
  declaration_open : (tops : List (Top SymbolAt ℕ)) (us : List (Top UserSymbol ℕ)) (t : Table) (first : ℕ) (nest : Nest SymbolAt ℕ)
      (members : Members SymbolAt ℕ)
      → user_tops catalog system tops ≡ Some us → table_after catalog system tops ≡ Some t → open_declaration t nest ≡ Some members
      → IsUserPath catalog (opened tops first nest) (closed us)

-- the user items of a path are those of a path of user values
pub record UsersAlong (catalog : List Shared) (path : Path SymbolAt ℕ) (mine : List PlacedItem) : Type 0 where
  pub user_path : Path UserSymbol ℕ
  pub is_user_path : IsUserPath catalog path user_path
  pub items : user_items mine ≡ path_items user_path

-- so it is with every path that is faultless, of each form, whatever is written
abbrev pub FaultlessPathsAreRead : Type 0
FaultlessPathsAreRead =
    (profile : Profile) (form : Form) (target : Target) (catalog : List Shared) (limits : Limits) (bytes : List ℕ) (path : Path SymbolAt ℕ) (mine : List PlacedItem)
    (s : (encoding_of profile form).State) (u : users.State)
    → Faultless (encoding_of profile form) (outputs_of target limits) catalog limits bytes (path_items path) s u mine → UsersAlong catalog path mine

-- ---- what is refused

-- what is written of a path of user values
abbrev pub path_output : Target → Limits → Path UserSymbol ℕ → List ℕ
path_output target.Text limits path = path_text path
path_output target.Pretty limits path = path_text_by pretty path
path_output target.Binary limits path = binary limits.symbols (whole_tops path)
path_output target.Nothing limits path = []

-- the reason and the place for which the target's writer refuses an item after a path of user values, if it does
abbrev pub path_refusal : Target → Limits → Path UserSymbol ℕ → PlacedItem → Option (Reason × ℕ)
path_refusal target.Text limits path item = None
path_refusal target.Pretty limits path item = None
path_refusal target.Binary limits path item = refused_after limits path item
path_refusal target.Nothing limits path item = None

-- the output of a stream that is refused is that of the user values of a path that its bytes spell, which is faultless, and after
-- which the next item has this fault as its first one
pub record IsRefusedOutput (e : Encoding) (to : Target) (catalog : List Shared) (limits : Limits) (bytes : List ℕ) (reason : Reason) (place : ℕ) (out : List ℕ) : Type 0 where
  pub path : Path SymbolAt ℕ
  pub user_path : Path UserSymbol ℕ
  pub mine : List PlacedItem
  pub state : e.State
  pub user_state : users.State
  pub spelled : e.At bytes path state
  pub faultless : Faultless e (outputs_of to limits) catalog limits bytes (path_items path) state user_state mine
  pub fault : next_fault e (path_refusal to limits user_path) catalog limits state user_state ≡ Some (reason, place)
  pub is_user_path : IsUserPath catalog path user_path
  pub output : out ≡ path_output to limits user_path

-- so it is with every stream that is refused, whatever is written of it
abbrev pub RefusedOutputIsThatOfAPath : Type 0
RefusedOutputIsThatOfAPath =
    (profile : Profile) (catalog : List Shared) (limits : Limits) (to : To) (bytes : List ℕ) (target : Target) (reason : Reason) (place : ℕ) (out : List ℕ)
    → resolved (form_of bytes) to ≡ Some target → HasVerdictWith profile catalog limits to bytes (Rejected reason place) out
    → IsRefusedOutput (encoding_of profile (form_of bytes)) target catalog limits bytes reason place out
