-- Which streams are accepted: those that are read to their end under the limits and the profile, whose symbols are resolved, and of whose user values the writer
-- refuses nothing. Laws that contracts cite.
use Rattle.std.specs.Prelude.{◌≡◌, ℕ, List, [], length, Some, ⊤}
use Rattle.ion_meter.specs.declared.fault.Reason.{Reason}
use Rattle.ion_meter.specs.declared.limits.Limits.{Limits}
use Rattle.ion_meter.specs.declared.profile.Profile.{Profile}
use Rattle.ion_meter.specs.declared.profile.Rules.{Rules}
use Rattle.ion_meter.specs.Rules.{rules}
use Rattle.ion_value.specs.ReadingLaws.{ArePermitted}
use Rattle.ion_value.specs.Value.{SymbolAt, UserSymbol, Top, top_items}
use Rattle.ion_value.specs.Path.{Path, closed, path_items}
use Rattle.ion_value.specs.Reading.{Finished, items_then}
use Rattle.ion_value.specs.Outcome.{Accepted}
use Rattle.ion_symbols.specs.Table.{Shared, system}
use Rattle.ion_symbols.specs.Resolved.{AreResolved}
use Rattle.ion_symbols.specs.Tree.{user_tops}
use Rattle.ion_binary.specs.Laws as binary_laws
use Rattle.ion_binary.specs.Paths as binary_paths
use Rattle.ion_binary.specs.Positions as binary_positions
use Rattle.ion_binary.specs.Refusals.{AreWithin}
use Rattle.ion_text_in.specs.Laws as text_laws
use Rattle.ion_text_in.specs.Paths as text_paths
use Rattle.ion_text_in.specs.Positions as text_positions
use Rattle.ion_transcode.specs.declared.to.Form.{Form}
use Rattle.ion_transcode.specs.declared.to.Form.TheVariants as form
use Rattle.ion_transcode.specs.declared.to.Target.{Target}
use Rattle.ion_transcode.specs.declared.to.Target.TheVariants as target
use Rattle.ion_transcode.specs.declared.to.To.{To}
use Rattle.ion_transcode.specs.Forms.{encoding_of, form_of, reading_of}
use Rattle.ion_transcode.specs.Outputs.{outputs_of, resolved}
use Rattle.ion_transcode.specs.Verdict.{HasVerdictWith}

-- the reading of a stream passes no limit at any place where it may stand
abbrev pub PassesNoLimit : Form → Rules → List ℕ → Type 0
PassesNoLimit form.Binary limits bytes =
    (path : Path SymbolAt ℕ) (s : binary_positions.State) (reason : Reason) (place : ℕ) → binary_paths.At bytes path s
    → binary_laws.Passes limits s place reason → ⊥
PassesNoLimit form.Text limits bytes =
    (path : Path SymbolAt ℕ) (s : text_positions.State) (reason : Reason) (place : ℕ) → text_paths.At bytes path s
    → text_laws.Passes limits s place reason → ⊥

-- user values of which the writer of a target refuses nothing: that of binary has limits of its own
abbrev pub AreTaken : Target → Limits → List (Top UserSymbol ℕ) → Type 0
AreTaken target.Text limits us = ⊤
AreTaken target.Pretty limits us = ⊤
AreTaken target.Binary limits us = AreWithin limits [] us
AreTaken target.Nothing limits us = ⊤

-- a stream that is read to its end, whose symbols are resolved, and of whose user values the writer refuses nothing, is accepted: as many values as
-- there are, with their output
abbrev pub WhatIsReadIsAccepted : Type 0
WhatIsReadIsAccepted =
    (profile : Profile) (catalog : List Shared) (limits : Limits) (to : To) (bytes : List ℕ) (target : Target) (tops : List (Top SymbolAt ℕ)) (us : List (Top UserSymbol ℕ))
    → resolved (form_of bytes) to ≡ Some target → reading_of profile (form_of bytes) limits bytes ≡ items_then (path_items (closed tops)) Finished
    → AreResolved catalog limits.symbols system tops → user_tops catalog system tops ≡ Some us → AreTaken target limits us
    → HasVerdictWith profile catalog limits to bytes (Accepted (length us)) ((outputs_of target limits).whole_output us)

-- so is a stream of the grammar of its form that the profile permits and that passes no limit, has its symbols resolved, and values of which the writer refuses nothing
abbrev pub GoodStreamsAreAccepted : Type 0
GoodStreamsAreAccepted =
    (profile : Profile) (catalog : List Shared) (limits : Limits) (to : To) (bytes : List ℕ) (target : Target) (tops : List (Top SymbolAt ℕ)) (us : List (Top UserSymbol ℕ))
    → resolved (form_of bytes) to ≡ Some target → (encoding_of profile (form_of bytes)).Stream bytes tops
    → ArePermitted (rules limits profile) (top_items tops) → PassesNoLimit (form_of bytes) (rules limits profile) bytes
    → AreResolved catalog limits.symbols system tops → user_tops catalog system tops ≡ Some us → AreTaken target limits us
    → HasVerdictWith profile catalog limits to bytes (Accepted (length us)) ((outputs_of target limits).whole_output us)

-- an accepted stream: it is read to its end, its symbols are resolved, the writer refuses nothing of its user values, and these are counted and put
pub record IsReadWhole (profile : Profile) (catalog : List Shared) (limits : Limits) (target : Target) (bytes : List ℕ) (n : ℕ) (out : List ℕ) : Type 0 where
  pub tops : List (Top SymbolAt ℕ)
  pub us : List (Top UserSymbol ℕ)
  pub stream : (encoding_of profile (form_of bytes)).Stream bytes tops
  pub read : reading_of profile (form_of bytes) limits bytes ≡ items_then (path_items (closed tops)) Finished
  pub resolved_are : AreResolved catalog limits.symbols system tops
  pub users_are : user_tops catalog system tops ≡ Some us
  pub taken : AreTaken target limits us
  pub count : n ≡ length us
  pub output : out ≡ (outputs_of target limits).whole_output us

-- so it is with each stream that is accepted
abbrev pub WhatIsAcceptedIsRead : Type 0
WhatIsAcceptedIsRead =
    (profile : Profile) (catalog : List Shared) (limits : Limits) (to : To) (bytes : List ℕ) (target : Target) (n : ℕ) (out : List ℕ) → resolved (form_of bytes) to ≡ Some target
    → HasVerdictWith profile catalog limits to bytes (Accepted n) out → IsReadWhole profile catalog limits target bytes n out
