-- What is read of a catalogue: a stream of shared tables, and nothing else. It is read under the strict profile.
use Rattle.std.specs.Prelude.{◌≡◌, ◌≢◌, ℕ, ◌+◌, ◌<◌, ◌≤◌, List, [], length, Some, Result, Ok, Err, max}
use Rattle.ion_meter.specs.Counts.{Counts}
use Rattle.ion_meter.specs.declared.fault.Fault.{Fault}
use Rattle.ion_meter.specs.declared.fault.Fault.TheVariants.{Refused, Memory, ReadFault, WriteFault, InputLimit}
use Rattle.ion_meter.specs.declared.fault.Reason.{Reason}
use Rattle.ion_meter.specs.declared.limits.Limits.{Limits}
use Rattle.ion_meter.specs.Rules.{strict}
use Rattle.ion_value.specs.Value.{SymbolAt, UserSymbol, Top, user_items}
use Rattle.ion_value.specs.Reading.{Reading, items_of}
use Rattle.ion_value.specs.Outcome.{Verdict, Accepted, Rejected}
use Rattle.ion_value.specs.Writable.{AreBytes}
use Rattle.ion_symbols.specs.Table.{Shared, catalog_cost, system}
use Rattle.ion_symbols.specs.Tree.{user_tops}
use Rattle.ion_symbols.specs.UserValues.{CatalogIsText}
use Rattle.ion_symbols.specs.Users.{at_start, users}
use Rattle.ion_symbols.specs.CatalogItems.{Loading, loaded, catalog_refusal}
use Rattle.ion_symbols.specs.CatalogTrees.{tables_of}
use Rattle.ion_transcode.specs.declared.to.To.TheVariants as to
use Rattle.ion_transcode.specs.declared.to.Form.TheVariants as form
use Rattle.ion_transcode.specs.Bound.{bound}
use Rattle.ion_transcode.specs.Encoding.{Encoding}
use Rattle.ion_transcode.specs.Outputs.{Outputs}
use Rattle.ion_transcode.specs.Forms.{form_of, encoding_of, reading_of}
use Rattle.ion_transcode.specs.Verdict.{HasVerdictFrom, HasVerdict}
use Rattle.ion_transcode.specs.ByItem.{verdict}

-- nothing is written, and what is no shared table, or costs more than the limit with those before it, is refused at its item
abbrev pub as_catalog : Limits → Outputs
as_catalog limits = record { whole_output = λ us. []; open_output = λ mine. []; refusal = catalog_refusal limits }

-- the verdict on a stream as a catalogue: that on its form where nothing is written, under the empty catalogue, with these fault rules
abbrev pub HasCatalogVerdict : Limits → List ℕ → Verdict → Type 0
HasCatalogVerdict limits bytes v = HasVerdictFrom (encoding_of strict (form_of bytes)) (as_catalog limits) [] limits bytes v []

-- the stream is accepted, and its user values are these tables in order, within the limit
pub record IsCatalogIn (e : Encoding) (limits : Limits) (bytes : List ℕ) (tables : List Shared) : Type 0 where
  pub tops : List (Top SymbolAt ℕ)
  pub values : List (Top UserSymbol ℕ)
  pub spelled : e.Stream bytes tops
  pub users_are : user_tops [] system tops ≡ Some values
  pub tables_are : tables_of values ≡ Some tables
  pub cheap : catalog_cost tables ≤ limits.symbols
  pub accepted : HasVerdictFrom e (as_catalog limits) [] limits bytes (Accepted (length values)) []

-- so it is in the form that the stream's first byte tells
abbrev pub IsCatalog : Limits → List ℕ → List Shared → Type 0
IsCatalog limits bytes tables = IsCatalogIn (encoding_of strict (form_of bytes)) limits bytes tables

-- ---- as it is read item by item

-- the raw items of a stream and how they end, in the form that its first byte tells
abbrev pub catalog_reading : Limits → List ℕ → Reading
catalog_reading limits bytes = reading_of strict (form_of bytes) limits bytes

-- the user items of a raw reading, under the empty catalogue
abbrev pub catalog_users : Limits → Reading → Reading
catalog_users limits raw = users [] limits.symbols at_start raw

-- the verdict on a raw reading with the fault rules of a catalogue, its user items being those under the empty catalogue
abbrev pub catalog_verdict : Limits → Reading → Verdict
catalog_verdict limits raw = verdict (as_catalog limits) [] limits raw

-- a raw reading gives these tables
pub record Loads (limits : Limits) (raw : Reading) (tables : List Shared) : Type 0 where
  pub count : ℕ
  pub left : Loading
  pub accepted : catalog_verdict limits raw ≡ Accepted count
  pub read : loaded limits.symbols (user_items (items_of (catalog_users limits raw))) ≡ Ok left
  pub tables_are : left.draft.tables ≡ tables

-- ---- what calls answer

-- an answer says which tables there are, or why there are none
pub record SaysCatalog (limits : Limits) (raw : Reading) (answer : Result (List Shared) Fault) : Type 0 where
  pub loads : (tables : List Shared) → answer ≡ Ok tables → Loads limits raw tables
  pub rejected : (r : Reason) (p : ℕ) → answer ≡ Err (Refused r p) → catalog_verdict limits raw ≡ Rejected r p

-- what an answer holds
abbrev pub kept_in : Result (List Shared) Fault → ℕ
kept_in (Ok tables) = catalog_cost tables
kept_in (Err fault) = 0

-- why a call fails: memory, where it was refused; a read fault, where the device failed once more; the input limit, where the input goes past it;
-- a count that is not told of stays as it was
pub record LoadCauses {T : Type 0} (answer : Result T Fault) (old new : Counts) (reads_old reads_new : ℕ) (exceeds : Type 0) : Type 0 where
  pub memory : answer ≡ Err Memory → old.refused < new.refused
  pub counted : answer ≢ Err Memory → new.refused ≡ old.refused
  pub read : answer ≡ Err ReadFault → reads_new ≡ reads_old + 1
  pub reads_steady : answer ≢ Err ReadFault → reads_new ≡ reads_old
  pub no_writes : answer ≢ Err WriteFault
  pub limit : answer ≡ Err InputLimit → exceeds

-- the most that is held while a catalogue is loaded: what a run to nothing holds, and the catalogue
abbrev pub load_bound : Limits → ℕ
load_bound limits = bound limits form.Text to.Nothing + limits.symbols

-- what the loading of a catalogue leaves held, and what it holds at most
pub record LoadCharges (limits : Limits) (kept : ℕ) (old new : Counts) : Type 0 where
  pub cheap : kept ≤ limits.symbols
  pub held : new.held ≡ old.held + kept
  pub peak : new.peak ≤ max old.peak (old.held + load_bound limits)

-- ---- laws

-- what reading item by item says is the stream's verdict as a catalogue
abbrev pub CatalogVerdictsAreRead : Type 0
CatalogVerdictsAreRead = (limits : Limits) (bytes : List ℕ) → HasCatalogVerdict limits bytes (catalog_verdict limits (catalog_reading limits bytes))

-- and it loads the stream's catalogue
abbrev pub CatalogsAreLoaded : Type 0
CatalogsAreLoaded = (limits : Limits) (bytes : List ℕ) (tables : List Shared) → Loads limits (catalog_reading limits bytes) tables → IsCatalog limits bytes tables

-- the texts of the catalogue of a stream of bytes are UTF-8
abbrev pub CatalogsAreText : Type 0
CatalogsAreText =
    (limits : Limits) (bytes : List ℕ) (tables : List Shared) → AreBytes bytes → IsCatalog limits bytes tables → CatalogIsText tables

-- where a run to nothing under the empty catalogue accepts a stream, and its user values are tables within the limit, it is their catalogue
abbrev pub TablesAreCatalogs : Type 0
TablesAreCatalogs =
    (limits : Limits) (bytes : List ℕ) (tops : List (Top SymbolAt ℕ)) (us : List (Top UserSymbol ℕ)) (tables : List Shared) (count : ℕ) (out : List ℕ)
    → HasVerdict [] limits to.Nothing bytes (Accepted count) out
    → (encoding_of strict (form_of bytes)).Stream bytes tops → user_tops [] system tops ≡ Some us → tables_of us ≡ Some tables → catalog_cost tables ≤ limits.symbols
    → IsCatalog limits bytes tables

-- a stream has one verdict as a catalogue at most
abbrev pub OneCatalogVerdict : Type 0
OneCatalogVerdict = (limits : Limits) (bytes : List ℕ) (v w : Verdict) → HasCatalogVerdict limits bytes v → HasCatalogVerdict limits bytes w → v ≡ w

-- and one catalogue at most
abbrev pub OneCatalog : Type 0
OneCatalog = (limits : Limits) (bytes : List ℕ) (s t : List Shared) → IsCatalog limits bytes s → IsCatalog limits bytes t → s ≡ t
