-- What some words ask for, worked out.
use Rattle.std.proofs.Common.{refl, [], ◌∷◌, codes, ◌≡◌, ◌∙◌, sym, ap, subst, inl, inr, Some, None, List, Option}
use Rattle.std.specs.Prelude.{Bool, true, false, ◌&&◌}
use Rattle.clap.proofs.OnLiterals.{clap_on_literals}
use Rattle.clap.specs.Words.{Row, Text, fault_of, subcommand_of}
use Rattle.clap.specs.declared.error.kind.ErrorKind.TheVariants.{DisplayVersion, UnknownArgument, ValueValidation}
use Rattle.ion_meter.specs.declared.limits.Limits.{Limits}
use Rattle.ion_meter.specs.Limits.{default_limits}
use Rattle.ion_meter.specs.Rules.{floats, strict}
use Rattle.ion_tool.specs.Words.{action_name, file_for, files_in, form_in, form_word, go_together, has_one_form, ion_app, limits_in, AsksRun, IsRun, Names}
use Rattle.ion_tool.proofs.OneRun.{some_is}
use Rattle.ion_transcode.specs.declared.to.Form.TheVariants as form
use Rattle.ion_tool.specs.declared.words.Action.{Action}
use Rattle.ion_tool.specs.declared.words.Action.TheVariants.{Show, ShowPretty, Check, Convert, ConvertPretty, Rewrite}
use Rattle.ion_tool.specs.declared.words.Task.{Task}

-- without options the limits are the usual ones
pub usual_limits : limits_in [] ≡ Some default_limits
usual_limits = refl

-- without `--floats` no floats are read
abbrev strictly : Action → Task
strictly a = record { action = a; profile = strict; lines = false }

-- the one word `show` names what no words ask for
pub show_is_named : Names (codes "show" ∷ []) (strictly Show) default_limits None []
unfolding clap_on_literals
show_is_named = record { rows = _; faultless = refl; named = refl; formed = refl; laid_out = refl; rewritten = refl; profiled = refl; lined = refl; limited = refl; catalogued = refl; filed = refl; joined = refl }

-- with it they are
pub floats_are_named : Names (codes "show" ∷ codes "--floats" ∷ codes "data.ion" ∷ []) (record { action = Show; profile = floats; lines = false }) default_limits None (codes "data.ion" ∷ [])
unfolding clap_on_literals
floats_are_named = record { rows = _; faultless = refl; named = refl; formed = refl; laid_out = refl; rewritten = refl; profiled = refl; lined = refl; limited = refl; catalogued = refl; filed = refl; joined = refl }

-- with `--lines` the line on a refusal says the line and the column too
pub lines_are_named : Names (codes "check" ∷ codes "--lines" ∷ codes "data.ion" ∷ []) (record { action = Check; profile = strict; lines = true }) default_limits None (codes "data.ion" ∷ [])
unfolding clap_on_literals
lines_are_named = record { rows = _; faultless = refl; named = refl; formed = refl; laid_out = refl; rewritten = refl; profiled = refl; lined = refl; limited = refl; catalogued = refl; filed = refl; joined = refl }

abbrev words : List Text
words = codes "check" ∷ codes "--depth" ∷ codes "65535" ∷ codes "--scalar=0" ∷ codes "data.10n" ∷ []

abbrev limits : Limits
limits = record default_limits { depth = 65535; scalar = 0 }

-- options change their limits, and a word more is the file
pub check_is_named : Names words (strictly Check) limits None (codes "data.10n" ∷ [])
unfolding clap_on_literals
check_is_named = record { rows = _; faultless = refl; named = refl; formed = refl; laid_out = refl; rewritten = refl; profiled = refl; lined = refl; limited = refl; catalogued = refl; filed = refl; joined = refl }

-- the word `convert` is the third action
pub convert_is_named : Names (codes "convert" ∷ codes "data.ion" ∷ []) (strictly (Convert None)) default_limits None (codes "data.ion" ∷ [])
unfolding clap_on_literals
convert_is_named = record { rows = _; faultless = refl; named = refl; formed = refl; laid_out = refl; rewritten = refl; profiled = refl; lined = refl; limited = refl; catalogued = refl; filed = refl; joined = refl }

-- with `--to` it has the form that is named
pub text_is_named : Names (codes "convert" ∷ codes "--to" ∷ codes "text" ∷ codes "data.10n" ∷ []) (strictly (Convert (Some form.Text))) default_limits None (codes "data.10n" ∷ [])
unfolding clap_on_literals
text_is_named = record { rows = _; faultless = refl; named = refl; formed = refl; laid_out = refl; rewritten = refl; profiled = refl; lined = refl; limited = refl; catalogued = refl; filed = refl; joined = refl }

pub binary_is_named : Names (codes "convert" ∷ codes "--to=binary" ∷ []) (strictly (Convert (Some form.Binary))) default_limits None []
unfolding clap_on_literals
binary_is_named = record { rows = _; faultless = refl; named = refl; formed = refl; laid_out = refl; rewritten = refl; profiled = refl; lined = refl; limited = refl; catalogued = refl; filed = refl; joined = refl }

-- `--pretty` stands for text for people, after `show` and after `--to text`
pub pretty_is_named : Names (codes "show" ∷ codes "--pretty" ∷ codes "data.ion" ∷ []) (strictly ShowPretty) default_limits None (codes "data.ion" ∷ [])
unfolding clap_on_literals
pretty_is_named = record { rows = _; faultless = refl; named = refl; formed = refl; laid_out = refl; rewritten = refl; profiled = refl; lined = refl; limited = refl; catalogued = refl; filed = refl; joined = refl }

pub pretty_text_is_named : Names (codes "convert" ∷ codes "--pretty" ∷ codes "--to" ∷ codes "text" ∷ []) (strictly ConvertPretty) default_limits None []
unfolding clap_on_literals
pretty_text_is_named = record { rows = _; faultless = refl; named = refl; formed = refl; laid_out = refl; rewritten = refl; profiled = refl; lined = refl; limited = refl; catalogued = refl; filed = refl; joined = refl }

-- `--rewrite` stands for binary also of binary, after `--to binary`
pub rewrite_is_named : Names (codes "convert" ∷ codes "--to" ∷ codes "binary" ∷ codes "--rewrite" ∷ []) (strictly Rewrite) default_limits None []
unfolding clap_on_literals
rewrite_is_named = record { rows = _; faultless = refl; named = refl; formed = refl; laid_out = refl; rewritten = refl; profiled = refl; lined = refl; limited = refl; catalogued = refl; filed = refl; joined = refl }

-- `show` does not have it
pub show_does_not_rewrite : fault_of ion_app (codes "show" ∷ codes "--rewrite" ∷ []) ≡ UnknownArgument ∷ []
unfolding clap_on_literals
show_does_not_rewrite = refl

-- `check` does not have it
pub check_is_not_pretty : fault_of ion_app (codes "check" ∷ codes "--pretty" ∷ []) ≡ UnknownArgument ∷ []
unfolding clap_on_literals
check_is_not_pretty = refl

-- no other subcommand has that option
pub show_has_one_form : fault_of ion_app (codes "show" ∷ codes "--to" ∷ codes "text" ∷ []) ≡ UnknownArgument ∷ []
unfolding clap_on_literals
show_has_one_form = refl

pub check_has_none : fault_of ion_app (codes "check" ∷ codes "--to=binary" ∷ []) ≡ UnknownArgument ∷ []
unfolding clap_on_literals
check_has_none = refl

-- after it a word that is no form's asks for no run
abbrev others : List Text
others = codes "convert" ∷ codes "--to" ∷ codes "bin" ∷ []

other_word : (action : Action) → Some (codes "bin") ≡ form_word action → ⊥
other_word Show e = cc e
other_word ShowPretty e = cc e
other_word Check e = cc e
other_word (Convert None) e = cc e
other_word (Convert (Some form.Text)) e = cc e
other_word (Convert (Some form.Binary)) e = cc e
other_word ConvertPretty e = cc e
other_word Rewrite e = cc e

word_of_others : (name : Text) (rows : List Row) → subcommand_of ion_app others ≡ Some (name, rows) → form_in rows ≡ Some (codes "bin")
unfolding clap_on_literals
word_of_others name rows e = ap (λ (p : Text × List Row). form_in p.1) (some_is (sym e))

no_run_of_others : (task : Task) (limits : Limits) (catalog : Option Text) (files : List Text) → IsRun others task limits catalog files → ⊥
no_run_of_others task limits catalog files (inl none) = cc none.0
no_run_of_others task limits catalog files (inr n) = other_word task.action (sym (word_of_others (action_name task.action) n.rows n.named) ∙ n.formed)

pub no_such_form : AsksRun others → ⊥
no_such_form asks = no_run_of_others asks.0 asks.1 asks.2 asks.3 asks.4

-- the catalogue has its option
pub catalog_is_named : Names (codes "show" ∷ codes "--catalog" ∷ codes "tables.ion" ∷ codes "-" ∷ []) (strictly Show) default_limits (Some (codes "tables.ion")) (codes "-" ∷ [])
unfolding clap_on_literals
catalog_is_named = record { rows = _; faultless = refl; named = refl; formed = refl; laid_out = refl; rewritten = refl; profiled = refl; lined = refl; limited = refl; catalogued = refl; filed = refl; joined = refl }

-- and the word `-` names no file
pub dash_is_input : file_for (codes "-") ≡ None
dash_is_input = refl

-- several words are several files
pub files_are_named : Names (codes "check" ∷ codes "a" ∷ codes "--floats" ∷ codes "-" ∷ codes "a" ∷ []) (record { action = Check; profile = floats; lines = false }) default_limits None (codes "a" ∷ codes "-" ∷ codes "a" ∷ [])
unfolding clap_on_literals
files_are_named = record { rows = _; faultless = refl; named = refl; formed = refl; laid_out = refl; rewritten = refl; profiled = refl; lined = refl; limited = refl; catalogued = refl; filed = refl; joined = refl }

-- standard input may be among them, but not twice
abbrev twice : List Text
twice = codes "check" ∷ codes "-" ∷ codes "a" ∷ codes "-" ∷ []

files_of_twice : (name : Text) (rows : List Row) → subcommand_of ion_app twice ≡ Some (name, rows) → files_in rows ≡ codes "-" ∷ codes "a" ∷ codes "-" ∷ []
unfolding clap_on_literals
files_of_twice name rows e = ap (λ (p : Text × List Row). files_in p.1) (some_is (sym e))

not_with_false : (b : Bool) → (b && false) ≡ true → ⊥
not_with_false true e = cc e
not_with_false false e = cc e

no_run_of_twice : (task : Task) (limits : Limits) (catalog : Option Text) (files : List Text) → IsRun twice task limits catalog files → ⊥
no_run_of_twice task limits catalog files (inl none) = cc none.0
no_run_of_twice task limits catalog files (inr n) =
    let are = sym n.filed ∙ files_of_twice (action_name task.action) n.rows n.named in
    not_with_false (has_one_form task.action (codes "-" ∷ codes "a" ∷ codes "-" ∷ [])) (subst (λ (f : List Text). go_together task.action f ≡ true) are n.joined)

pub input_twice : AsksRun twice → ⊥
input_twice asks = no_run_of_twice asks.0 asks.1 asks.2 asks.3 asks.4

-- after that option `-` is a name as any other
pub dash_is_named : Names (codes "show" ∷ codes "--catalog" ∷ codes "-" ∷ []) (strictly Show) default_limits (Some (codes "-")) []
unfolding clap_on_literals
dash_is_named = record { rows = _; faultless = refl; named = refl; formed = refl; laid_out = refl; rewritten = refl; profiled = refl; lined = refl; limited = refl; catalogued = refl; filed = refl; joined = refl }

-- the version is asked for before any subcommand
pub version_is_asked : fault_of ion_app (codes "--version" ∷ []) ≡ DisplayVersion ∷ []
unfolding clap_on_literals
version_is_asked = refl

-- a number past its limit is a fault
pub past_limit : fault_of ion_app (codes "show" ∷ codes "--depth" ∷ codes "65536" ∷ []) ≡ ValueValidation ∷ []
unfolding clap_on_literals
past_limit = refl
