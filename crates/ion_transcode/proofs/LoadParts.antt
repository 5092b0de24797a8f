-- What loading a catalogue answers, by what the calls that it is made of do.
use Rattle.std.proofs.Common.{◌≡◌, ℕ, List, [], ◌∷◌, Option, Result, Ok, Err, ap, sym, subst, ◌∙◌}
use Rattle.std.specs.Prelude.{slice_get}
use Rattle.ion_meter.specs.declared.fault.Fault.{Fault}
use Rattle.ion_meter.specs.declared.limits.Limits.{Limits}
use Rattle.ion_meter.specs.Rules.{strict}
use Rattle.ion_value.specs.Value.{user_items}
use Rattle.ion_value.specs.Reading.{Reading, items_of}
use Rattle.ion_value.specs.Outcome.{Verdict, Accepted, verdict_after}
use Rattle.ion_symbols.specs.Table.{Shared}
use Rattle.ion_symbols.specs.Users.{at_start, users}
use Rattle.ion_symbols.specs.CatalogItems.{Loading, loaded, catalog_refusal}
use Rattle.ion_transcode.specs.declared.to.Form.{Form}
use Rattle.ion_transcode.specs.Forms.{form_by_first, form_of, reading_of}
use Rattle.ion_transcode.specs.Catalogues.{Loads, SaysCatalog, catalog_reading, catalog_verdict}

-- the verdict by a catalogue that is empty, and by limits that are the same
pub verdict-by : (limits given : Limits) (raw : Reading) (empty : List Shared) (v : Verdict) → given ≡ limits → empty ≡ []
    → verdict_after (catalog_refusal given) [] (users empty limits.symbols at_start raw) ≡ v → catalog_verdict limits raw ≡ v
verdict-by limits given raw empty v same none is =
    sym (ap (λ (l : Limits). verdict_after (catalog_refusal l) [] (users empty limits.symbols at_start raw)) same
    ∙ ap (λ (k : List Shared). verdict_after (catalog_refusal limits) [] (users k limits.symbols at_start raw)) none) ∙ is

-- the items that were read are those of the tables
pub loads-by : (limits given kept : Limits) (raw : Reading) (empty : List Shared) (n : ℕ) (left : Loading) (tables : List Shared) → given ≡ limits → kept ≡ given → empty ≡ []
    → verdict_after (catalog_refusal given) [] (users empty limits.symbols at_start raw) ≡ Accepted n
    → loaded kept.symbols (user_items (items_of (users empty limits.symbols at_start raw))) ≡ Ok left → left.draft.tables ≡ tables → Loads limits raw tables
loads-by limits given kept raw empty n left tables same stays none is read tables_are = record {
  count = n;
  left = left;
  accepted = verdict-by limits given raw empty (Accepted n) same none is;
  read = sym (ap (λ (l : Limits). loaded l.symbols (user_items (items_of (users empty limits.symbols at_start raw)))) (stays ∙ same)
      ∙ ap (λ (k : List Shared). loaded limits.symbols (user_items (items_of (users k limits.symbols at_start raw)))) none) ∙ read;
  tables_are = tables_are;
}

-- a fault that is not the answer's is not the outcome's
abbrev fault_or : {T : Type 0} → Fault → Result T Fault → Fault
fault_or fault (Ok x) = fault
fault_or fault (Err other) = other

abbrev pub Answers : {T : Type 0} → Result T Fault → Fault → Type 0
Answers r fault = r ≡ Err fault

pub same-fault : {T : Type 0} (r : Result T Fault) (fault other : Fault) → Answers r fault → Answers r other → fault ≡ other
same-fault r fault other is e = sym (ap (fault_or fault) is) ∙ ap (fault_or fault) e

-- by the form of the stream
pub form-first : (bytes : List ℕ) (first : Option ℕ) → slice_get bytes 0 ≡ first → form_of bytes ≡ form_by_first first
form-first [] first is = ap form_by_first is
form-first (b ∷ bytes) first is = ap form_by_first is

pub says-as : (limits : Limits) (bytes : List ℕ) (f : Form) (raw : Reading) (answer : Result (List Shared) Fault) → form_of bytes ≡ f
    → raw ≡ reading_of strict f limits bytes → SaysCatalog limits raw answer → SaysCatalog limits (catalog_reading limits bytes) answer
says-as limits bytes f raw answer form_is is says =
    subst (λ (g : Form). SaysCatalog limits (reading_of strict g limits bytes) answer) (sym form_is) (subst (λ (r : Reading). SaysCatalog limits r answer) is says)
