-- What an error of `clap` says of the words.
use Rattle.std.proofs.Common.{arith, ◌≡◌, ◌⊎◌, ◌∙◌, ℕ, false, List, [], ◌∷◌, length, map, Option, inl, inr, sym, subst}
use Rattle.std.specs.Prelude.{◌≢◌, ◌==◌}
use Rattle.clap.specs.Words.{HasKind, IsAmong, Text, fault_of, kind_of}
use Rattle.clap.specs.Kinds.{Kinds}
use Rattle.clap.specs.declared.error.Error.{Error}
use Rattle.clap.specs.declared.error.kind.ErrorKind.{ErrorKind}
use Rattle.clap.specs.declared.error.kind.ErrorKind.TheVariants.{DisplayHelp, DisplayVersion, OutOfMemory}
use Rattle.ion_meter.specs.declared.limits.Limits.{Limits}
use Rattle.ion_tool.specs.declared.words.Task.{Task}
use Rattle.ion_tool.specs.declared.words.Request.{Request}
use Rattle.ion_tool.specs.declared.words.Request.TheVariants.{Run, Help, Usage}
use Rattle.ion_tool.specs.Words.{ion_app, AnswersError, Asks, AsksRun, IsRun}

-- the kind of an error that is not want of memory is among the kinds that may come
among : (kinds : Kinds) (e : Error) → HasKind kinds e → kind_of e ≢ OutOfMemory → IsAmong (kind_of e) kinds
among kinds e (inl memory) other = absurd (other memory)
among kinds e (inr is) other = is

some_kind : (kinds : Kinds) (k : ErrorKind) → IsAmong k kinds → kinds ≢ []
some_kind [] k is none = is
some_kind (x ∷ xs) k is none = cc none

-- words at which a fault is found ask for no run
no_run : (words : List Text) → words ≢ [] → fault_of ion_app words ≢ [] → (task : Task) (limits : Limits) (catalog : Option Text) (files : List Text)
    → IsRun words task limits catalog files → ⊥
no_run words some fault task limits catalog files (inl none) = some none.0
no_run words some fault task limits catalog files (inr names) = fault names.faultless

help_kind : (k : ErrorKind) → (k ≡ DisplayHelp) ⊎ (k ≡ DisplayVersion) → k ≢ OutOfMemory
help_kind k (inl help) memory = cc (sym help ∙ memory)
help_kind k (inr version) memory = cc (sym version ∙ memory)

help_among : (k : ErrorKind) (kinds : Kinds) → (k ≡ DisplayHelp) ⊎ (k ≡ DisplayVersion) → IsAmong k kinds → IsAmong DisplayHelp kinds ⊎ IsAmong DisplayVersion kinds
help_among k kinds (inl help) is = inl (subst (λ (x : ErrorKind). IsAmong x kinds) help is)
help_among k kinds (inr version) is = inr (subst (λ (x : ErrorKind). IsAmong x kinds) version is)

pub asks_error : (words : List Text) (e : Error) → words ≢ [] → HasKind (fault_of ion_app words) e → (r : Request) → AnswersError (kind_of e) r → Asks words r
asks_error words e some has (Run catalog job) a = absurd a
asks_error words e some has (Help text) a =
    let is = among (fault_of ion_app words) e has (help_kind (kind_of e) a.0) in (
      λ (asks : AsksRun words). no_run words some (some_kind (fault_of ion_app words) (kind_of e) is) asks.0 asks.1 asks.2 asks.3 asks.4,
      help_among (kind_of e) (fault_of ion_app words) a.0 is,
      a.1,
    )
asks_error words e some has (Usage text) a =
    let is = among (fault_of ion_app words) e has a.0 in (
      λ (asks : AsksRun words). no_run words some (some_kind (fault_of ion_app words) (kind_of e) is) asks.0 asks.1 asks.2 asks.3 asks.4,
      inr (kind_of e, is, a.1, a.2),
      a.3,
    )

-- the texts of some words are some
pub some_words : {T : Type 0} (f : T → Text) (words : List T) → (length words == 0) ≡ false → map f words ≢ []
some_words f [] e none = cc e
some_words f (w ∷ words) e none = cc none

-- a status that is 0 or 3
pub not_two : (n : ℕ) → (n ≡ 0) ⊎ (n ≡ 3) → n ≡ 2 → ⊥
not_two n (inl zero) two = omega arith
not_two n (inr three) two = omega arith
