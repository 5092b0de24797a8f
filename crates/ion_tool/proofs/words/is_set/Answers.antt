use Rattle.std.proofs.Common.{◌≡◌, ◌∙◌, sym, ap, Some, None, option_map}
use Rattle.clap.proofs.WalkLemmas.{first_value-rows}
use Rattle.clap.specs.Words.{found_of, rows_of, first_of}
use Rattle.ion_tool.specs.Words.{is_set}
use Rattle.ion_tool.proofs.words.is_set.Goals as goal

pub returns-in-Some : goal.returns-in-Some
returns-in-Some c =
    let found = found_of c.args.options.now in
    let name = c.args.name.now in
    let first : first_of name (rows_of found) ≡ Some c.in-Some.word.now =
    sym (first_value-rows found name) ∙ (sym c.get_str.ensures ∙ ap (option_map (λ s. s.now)) c.in-Some.is) in
    c.eq.ensures ∙ sym (ap is_set first)

pub returns-in-None : goal.returns-in-None
returns-in-None c =
    let found = found_of c.args.options.now in
    let name = c.args.name.now in
    let first : first_of name (rows_of found) ≡ None =
    sym (first_value-rows found name) ∙ (sym c.get_str.ensures ∙ ap (option_map (λ s. s.now)) c.in-None.is) in
    sym (ap is_set first)
