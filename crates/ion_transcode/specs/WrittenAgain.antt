-- What was written as binary is accepted under the limits and the profile of its run, and shows what the text shows. Laws that contracts cite.
use Rattle.std.specs.Prelude.{◌≡◌, ◌⊎◌, ℕ, ◌≤◌, List, [], Some, None}
use Rattle.std.specs.List.{AllByRecursion}
use Rattle.ion_meter.specs.Limits.{AreChecked}
use Rattle.ion_meter.specs.declared.limits.Limits.{Limits}
use Rattle.ion_meter.specs.declared.profile.Profile.{Profile}
use Rattle.ion_meter.specs.Rules.{rules}
use Rattle.ion_value.specs.Outcome.{Accepted}
use Rattle.ion_value.specs.Value.{SymbolAt, UserSymbol, Top}
use Rattle.ion_value.specs.Writable.{AreBytes}
use Rattle.ion_symbols.specs.Table.{Shared, system}
use Rattle.ion_symbols.specs.Output.{system_id}
use Rattle.ion_symbols.specs.TextsOfUsers.{CatalogHas, IsShort, UserTopHas}
use Rattle.ion_symbols.specs.Tree.{user_tops}
use Rattle.ion_symbols.specs.UserValues.{CatalogIsText}
use Rattle.ion_binary.specs.WrittenLimits.{AllowDeclarations, FitsBinary}
use Rattle.ion_transcode.specs.declared.to.Form.{Form}
use Rattle.ion_transcode.specs.declared.to.Form.TheVariants as form
use Rattle.ion_transcode.specs.declared.to.Target.TheVariants as target
use Rattle.ion_transcode.specs.declared.to.To.{To}
use Rattle.ion_transcode.specs.declared.to.To.TheVariants as to
use Rattle.ion_transcode.specs.Forms.{encoding_of, form_of}
use Rattle.ion_transcode.specs.Outputs.{resolved}
use Rattle.ion_transcode.specs.RoundTrip.{IsShown}
use Rattle.ion_transcode.specs.Verdict.{HasVerdictWith}

-- ---- what is declared when values are written as binary: each text of their symbols that the system symbol table has not

-- a text that it has
abbrev pub IsSystem : List ℕ → Type 0
IsSystem bytes = system_id bytes ≡ None → ⊥

-- no symbol of these values has another
abbrev pub DeclareNothing : List (Top UserSymbol ℕ) → Type 0
DeclareNothing us = AllByRecursion (UserTopHas IsSystem) us

-- no text that is declared is longer than the limit on scalars: since no other of the values' symbols is, or no other of the
-- catalogue's, or since the limit on symbols is no higher
abbrev pub TextsFit : Limits → List Shared → List (Top UserSymbol ℕ) → Type 0
TextsFit limits catalog us =
    AllByRecursion (UserTopHas (IsShort limits.scalar)) us ⊎ (CatalogHas (IsShort limits.scalar) catalog ⊎ limits.symbols ≤ limits.scalar)

-- limits allow what is declared, if anything is
abbrev pub DeclarationsFit : Profile → Limits → List Shared → List (Top UserSymbol ℕ) → Type 0
DeclarationsFit profile limits catalog us = DeclareNothing us ⊎ (AllowDeclarations (rules limits profile) × TextsFit limits catalog us)

-- limits allow what is written of these values: 16 octets of a scalar, so that each number fits that a text has, and each id, and
-- what is declared, if anything is; or, whatever the limits are, the values fit by their own lengths and numbers, and
-- the profile permits them
abbrev pub WrittenFits : Profile → Limits → List Shared → List (Top UserSymbol ℕ) → Type 0
WrittenFits profile limits catalog us =
    ((16 ≤ limits.scalar) × DeclarationsFit profile limits catalog us) ⊎ AllByRecursion (FitsBinary (rules limits profile)) us

-- so it is of what is written of a text; of what is written of binary by the values' own lengths and numbers alone, since their
-- symbols may have had shorter ids
abbrev pub WrittenFitsFrom : Form → Profile → Limits → List Shared → List (Top UserSymbol ℕ) → Type 0
WrittenFitsFrom form.Text profile limits catalog us = WrittenFits profile limits catalog us
WrittenFitsFrom form.Binary profile limits catalog us = AllByRecursion (FitsBinary (rules limits profile)) us

-- something is true of the user values of a stream
abbrev pub OfUsers : Profile → List Shared → List ℕ → (List (Top UserSymbol ℕ) → Type 0) → Type 0
OfUsers profile catalog bytes P =
    (tops : List (Top SymbolAt ℕ)) (us : List (Top UserSymbol ℕ)) → (encoding_of profile (form_of bytes)).Stream bytes tops
    → user_tops catalog system tops ≡ Some us → P us

-- ---- the law

-- of a stream with these user values: a run to text accepts it, and writes their text by its layout; so does one over the binary that
-- was written of it, whatever the catalogue is by which that is read; and one to nothing accepts it too. All count as many values
pub record IsAcceptedAgain (profile : Profile) (catalog other : List Shared) (limits : Limits) (bytes written : List ℕ) (n : ℕ) : Type 0 where
  pub tops : List (Top SymbolAt ℕ)
  pub us : List (Top UserSymbol ℕ)
  pub stream : (encoding_of profile (form_of bytes)).Stream bytes tops
  pub users_are : user_tops catalog system tops ≡ Some us
  pub shown : IsShown profile catalog limits (form_of bytes) bytes n us
  pub as_text : IsShown profile other limits form.Binary written n us
  pub as_nothing : HasVerdictWith profile other limits to.Nothing written (Accepted n) []

-- so it is with each run to binary that accepts its stream, a text or binary of bytes, under checked limits that allow what is
-- written
abbrev pub WrittenBinaryIsAccepted : Type 0
WrittenBinaryIsAccepted =
    (profile : Profile) (catalog other : List Shared) (limits : Limits) (asked : To) (bytes written : List ℕ) (n : ℕ)
    → CatalogIsText catalog → AreChecked limits → (form_of bytes ≡ form.Binary → AreBytes bytes)
    → OfUsers profile catalog bytes (WrittenFitsFrom (form_of bytes) profile limits catalog)
    → resolved (form_of bytes) asked ≡ Some target.Binary → HasVerdictWith profile catalog limits asked bytes (Accepted n) written
    → IsAcceptedAgain profile catalog other limits bytes written n
