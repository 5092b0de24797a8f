-- The words after the program's name, as `clap` reads them.
use Rattle.std.specs.Prelude.{◌≡◌, ◌≢◌, ◌⊎◌, ℕ, List, [], ◌∷◌, Option, Some, None, Bool, true, false, codes, string_bytes, if◌then◌else◌}
use Rattle.std.specs.Prelude.{map, unwrap_or, option_map, option_and_then, bytes_eq, ◌&&◌, count_by, is_none, nat_le}
use Rattle.std.specs.Borrow.{Bor}
use Rattle.std.specs.Option.{option_map_or}
use Rattle.std.specs.Str.Parse.{digits_value, without_leading_plus}
use Rattle.clap.specs.ValueTests.{accepts}
use Rattle.clap.specs.Words.{App, Row, Rule, Text, new_app, new_rule, with_rule, with_subcommand}
use Rattle.clap.specs.Words.{subcommand_of, fault_of, all_of, first_of, one_of, IsAmong}
use Rattle.clap.specs.declared.builder.action.ArgAction.TheVariants.{Append, SetTrue}
use Rattle.clap.specs.declared.builder.value_parser.ValueParser.TheVariants.{Unsigned}
use Rattle.clap.specs.declared.error.kind.ErrorKind.{ErrorKind}
use Rattle.clap.specs.declared.error.kind.ErrorKind.TheVariants.{DisplayHelp, DisplayVersion, OutOfMemory}
use Rattle.ion_meter.specs.Limits.{AreChecked, default_limits}
use Rattle.ion_meter.specs.declared.limits.Limits.{Limits}
use Rattle.ion_meter.specs.declared.profile.Profile.{Profile}
use Rattle.ion_meter.specs.Rules.{strict}
use Rattle.ion_transcode.specs.declared.to.Form.{Form}
use Rattle.ion_transcode.specs.declared.to.Form.TheVariants as form
use Rattle.ion_tool.specs.declared.words.Action.{Action}
use Rattle.ion_tool.specs.declared.words.Action.TheVariants.{Show, ShowPretty, Check, Convert, ConvertPretty, Rewrite}
use Rattle.ion_tool.specs.declared.words.Task.{Task}
use Rattle.ion_tool.specs.declared.words.Request.{Request}
use Rattle.ion_tool.specs.declared.words.Request.TheVariants.{Run, Help, Usage}

-- `--NAME N`, where N is at most this number
abbrev pub limit_rule : Text → ℕ → Rule
limit_rule name most = record (new_rule name) { long = Some name; parser = Some (Unsigned 0 most); value_names = 1 }

-- `--to FORM`
abbrev pub form_rule : Rule
form_rule = record (new_rule (codes "to")) { long = Some (codes "to"); value_names = 1 }

-- `--catalog FILE`
abbrev pub catalog_rule : Rule
catalog_rule = record (new_rule (codes "catalog")) { long = Some (codes "catalog"); value_names = 1 }

-- `--pretty`
abbrev pub pretty_rule : Rule
pretty_rule = record (new_rule (codes "pretty")) { long = Some (codes "pretty"); action = Some SetTrue }

-- `--rewrite`
abbrev pub rewrite_rule : Rule
rewrite_rule = record (new_rule (codes "rewrite")) { long = Some (codes "rewrite"); action = Some SetTrue }

-- `--floats`
abbrev pub floats_rule : Rule
floats_rule = record (new_rule (codes "floats")) { long = Some (codes "floats"); action = Some SetTrue }

-- `--lines`
abbrev pub lines_rule : Rule
lines_rule = record (new_rule (codes "lines")) { long = Some (codes "lines"); action = Some SetTrue }

-- `[FILE]..`
abbrev pub files_rule : Rule
files_rule = record (new_rule (codes "FILE")) { action = Some Append }

-- the options for the limits after what a subcommand has already
abbrev pub with_limits : App → App
with_limits app =
    with_rule (with_rule (with_rule (with_rule app
    (limit_rule (codes "depth") 65535))
    (limit_rule (codes "scalar") 1073741824))
    (limit_rule (codes "symbols") 1073741824))
    (limit_rule (codes "value") 1073741824)

-- a subcommand after what it has of its own: `[--floats] [--catalog FILE] [--lines] [--depth N] [--scalar N] [--symbols N] [--value N] [FILE]..`
abbrev pub action_app : App → App
action_app app = with_rule (with_limits (with_rule (with_rule (with_rule app floats_rule) catalog_rule) lines_rule)) files_rule

-- the program's name, before its subcommands, of which one has to be named; it has a version
abbrev pub bare_app : App
bare_app = let a = new_app (codes "ion") in record a { top = record a.top { no_binary_name = true; subcommand_required = true; has_version = true } }

-- `ion show [--pretty]`, `ion check`, `ion convert [--to FORM] [--pretty] [--rewrite]`
abbrev pub ion_app : App
ion_app =
    with_subcommand (with_subcommand (with_subcommand bare_app (action_app (with_rule (new_app (codes "show")) pretty_rule)).top) (action_app (new_app (codes "check"))).top)
    (action_app (with_rule (with_rule (with_rule (new_app (codes "convert")) form_rule) pretty_rule) rewrite_rule)).top

-- the subcommand for an action
abbrev pub action_name : Action → Text
action_name Show = codes "show"
action_name ShowPretty = codes "show"
action_name Check = codes "check"
action_name (Convert to) = codes "convert"
action_name ConvertPretty = codes "convert"
action_name Rewrite = codes "convert"

-- the word for a form
abbrev pub form_name : Form → Text
form_name form.Text = codes "text"
form_name form.Binary = codes "binary"

-- the word that `--to` has for an action, where that names a form
abbrev pub form_word : Action → Option Text
form_word Show = None
form_word ShowPretty = None
form_word Check = None
form_word (Convert to) = option_map form_name to
form_word ConvertPretty = Some (form_name form.Text)
form_word Rewrite = Some (form_name form.Binary)

-- whether `--pretty` stands for an action
abbrev pub is_pretty : Action → Bool
is_pretty Show = false
is_pretty ShowPretty = true
is_pretty Check = false
is_pretty (Convert to) = false
is_pretty ConvertPretty = true
is_pretty Rewrite = false

-- whether `--rewrite` stands for an action
abbrev pub is_rewritten : Action → Bool
is_rewritten Show = false
is_rewritten ShowPretty = false
is_rewritten Check = false
is_rewritten (Convert to) = false
is_rewritten ConvertPretty = false
is_rewritten Rewrite = true

-- the number of a text that the option takes: digits, of a number that is at most this one
abbrev pub number_in : ℕ → Text → Option ℕ
number_in most text = if accepts false (Unsigned 0 most) text then Some (digits_value 10 (without_leading_plus text)) else None

-- the number that the option of this name is given, or else the usual one
abbrev pub limit_in : Text → ℕ → ℕ → List Row → Option ℕ
limit_in name most usual rows = option_map_or (number_in most) (one_of name rows) (Some usual)

-- the limits that the options of a subcommand give
abbrev pub limits_in : List Row → Option Limits
limits_in rows =
    option_and_then (λ depth. option_and_then (λ scalar. option_and_then (λ symbols. option_map (λ value.
    record { depth = depth; scalar = scalar; symbols = symbols; value = value; input = default_limits.input })
    (limit_in (codes "value") 1073741824 default_limits.value rows))
    (limit_in (codes "symbols") 1073741824 default_limits.symbols rows))
    (limit_in (codes "scalar") 1073741824 default_limits.scalar rows))
    (limit_in (codes "depth") 65535 default_limits.depth rows)

-- a flag stands where its one word is "true"
abbrev pub is_set : Option Text → Bool
is_set None = false
is_set (Some word) = bytes_eq word (codes "true")

-- which values a subcommand accepts: floats where `--floats` stands
abbrev pub profile_in : List Row → Profile
profile_in rows = record { floats = is_set (first_of (codes "floats") rows) }

-- whether the line on a refusal says the line and the column too: where `--lines` stands
abbrev pub lines_in : List Row → Bool
lines_in rows = is_set (first_of (codes "lines") rows)

-- whether a subcommand is given `--pretty`
abbrev pub pretty_in : List Row → Bool
pretty_in rows = is_set (first_of (codes "pretty") rows)

-- whether a subcommand is given `--rewrite`
abbrev pub rewrite_in : List Row → Bool
rewrite_in rows = is_set (first_of (codes "rewrite") rows)

-- the word of `--to`, where a subcommand is given one
abbrev pub form_in : List Row → Option Text
form_in rows = first_of (codes "to") rows

-- the name of the file with the catalogue, where a subcommand is given one
abbrev pub catalog_in : List Row → Option Text
catalog_in rows = first_of (codes "catalog") rows

-- the file for a word: the word `-` names none, but standard input
abbrev pub file_for : Text → Option Text
file_for word = if bytes_eq word (codes "-") then None else Some word

-- the words for files that a subcommand is given
abbrev pub files_in : List Row → List Text
files_in rows = unwrap_or (all_of (codes "FILE") rows) []

-- the texts of such words, if there are any
abbrev pub all_named : Option (Bor (List (Bor Text))) → List Text
all_named words = unwrap_or (option_map (λ s. map (λ t. t.now) s.now) words) []

-- several files are converted to one form: each to its other one would be no stream
abbrev pub has_one_form : Action → List Text → Bool
has_one_form (Convert None) (first ∷ second ∷ rest) = false
has_one_form (Convert None) (first ∷ []) = true
has_one_form (Convert None) [] = true
has_one_form (Convert (Some form)) files = true
has_one_form ConvertPretty files = true
has_one_form Rewrite files = true
has_one_form Show files = true
has_one_form ShowPretty files = true
has_one_form Check files = true

-- the word for standard input stands once at most among the words for files
abbrev pub reads_input_once : List Text → Bool
reads_input_once files = nat_le (count_by (λ word. is_none (file_for word)) files) 1

-- these files can be read one after another
abbrev pub go_together : Action → List Text → Bool
go_together action files = has_one_form action files && reads_input_once files

-- `clap` finds no fault in the words, and they name the subcommand, the form and the layout for the task's action, its profile, and what is said of its fault, with these
-- limits, this catalogue and these words for files
pub record Names (words : List Text) (task : Task) (limits : Limits) (catalog : Option Text) (files : List Text) : Type 0 where
  pub rows : List Row
  pub faultless : fault_of ion_app words ≡ []
  pub named : subcommand_of ion_app words ≡ Some (action_name task.action, rows)
  pub formed : form_in rows ≡ form_word task.action
  pub laid_out : pretty_in rows ≡ is_pretty task.action
  pub rewritten : rewrite_in rows ≡ is_rewritten task.action
  pub profiled : profile_in rows ≡ task.profile
  pub lined : lines_in rows ≡ task.lines
  pub limited : limits_in rows ≡ Some limits
  pub catalogued : catalog_in rows ≡ catalog
  pub filed : files_in rows ≡ files
  pub joined : go_together task.action files ≡ true

-- the words ask for this run: there are none, for standard input to be shown with the usual limits and no tables, or they name it
abbrev pub IsRun : List Text → Task → Limits → Option Text → List Text → Type 0
IsRun words task limits catalog files =
    ((words ≡ []) × (task ≡ record { action = Show; profile = strict; lines = false }) × (limits ≡ default_limits) × (catalog ≡ None) × (files ≡ [])) ⊎ Names words task limits catalog files

-- the words ask for some run
abbrev pub AsksRun : List Text → Type 0
AsksRun words = (task : Task) × (limits : Limits) × (catalog : Option Text) × (files : List Text) × IsRun words task limits catalog files

-- the words may ask `clap` for its help or its version
abbrev pub IsHelp : List Text → Type 0
IsHelp words = IsAmong DisplayHelp (fault_of ion_app words) ⊎ IsAmong DisplayVersion (fault_of ion_app words)

-- the words are wrong: `clap` may find a fault in them that asks for neither, or it finds none and `--to` names no form, or is not there for several files, or not text with `--pretty`, or not binary
-- with `--rewrite`, or standard input is named twice
abbrev pub IsUsage : List Text → Type 0
IsUsage words =
    (fault_of ion_app words ≡ []) ⊎ ((kind : ErrorKind) × IsAmong kind (fault_of ion_app words) × (kind ≢ DisplayHelp) × (kind ≢ DisplayVersion))

-- what the words ask for
abbrev pub Asks : List Text → Request → Type 0
Asks words (Run catalog job) =
    IsRun words job.task job.limits (option_map string_bytes catalog) (map string_bytes job.files.items) × AreChecked job.limits
Asks words (Help text) = (¬ AsksRun words) × IsHelp words × (string_bytes text ≢ [])
Asks words (Usage text) = (¬ AsksRun words) × IsUsage words × (string_bytes text ≢ [])

-- what is answered for an error of `clap`, by its kind
abbrev pub AnswersError : ErrorKind → Request → Type 0
AnswersError kind (Run catalog job) = ⊥
AnswersError kind (Help text) = ((kind ≡ DisplayHelp) ⊎ (kind ≡ DisplayVersion)) × (string_bytes text ≢ [])
AnswersError kind (Usage text) = (kind ≢ OutOfMemory) × (kind ≢ DisplayHelp) × (kind ≢ DisplayVersion) × (string_bytes text ≢ [])

-- a request for the run with this task, these limits, this catalogue and these words for files
abbrev pub IsRequestFor : Task → Limits → Option Text → List Text → Request → Type 0
IsRequestFor task limits catalog files (Run own job) =
    (job.task ≡ task) × (job.limits ≡ limits) × (option_map string_bytes own ≡ catalog) × (map string_bytes job.files.items ≡ files)
IsRequestFor task limits catalog files (Help text) = ⊥
IsRequestFor task limits catalog files (Usage text) = ⊥
