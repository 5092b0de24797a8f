use Rattle.std.proofs.Common.{[], Bool, rules, unwrap_or, ap₂, ◌≡◌, Some, ap, sym, ◌∙◌, codes}
use Rattle.std.specs.Prelude.{true, false}
use Rattle.clap.proofs.WalkLemmas.{first_value-rows, raw_values-rows}
use Rattle.clap.specs.Words.{found_of, rows_of, subcommand_rows_of}
use Rattle.ion_tool.specs.Words.{action_name, all_named, files_in, form_in, form_word, go_together, is_pretty, is_rewritten, pretty_in, rewrite_in}
use Rattle.ion_tool.proofs.OneRun.{action_is, some_is}
use Rattle.ion_tool.proofs.words.asked_by.Goals as goal

pub returns-clause-some : goal.returns-clause-some
returns-clause-some c =
    let found = found_of c.in_ok-name.options.now in
    let filed : files_in (rows_of found) ≡ all_named c.get_strs-files.result =
    ap (λ o. unwrap_or o []) (sym (c.get_strs-files.ensures ∙ raw_values-rows found (codes "FILE"))) in (
      rows_of found,
      search rules,
      sym (first_value-rows found (codes "to")) ∙ (sym c.get_str.ensures ∙ c.in_ok-action.ensures.some.1),
      sym c.is_set-pretty.ensures ∙ c.in_ok-action.ensures.some.2,
      sym c.is_set-rewrite.ensures ∙ c.in_ok-action.ensures.some.3,
      sym (ap (λ (b : Bool). record { floats = b }) c.is_set.ensures),
      sym c.is_set-lines.ensures,
      search rules,
      search rules,
      sym (c.get_str-catalog.ensures ∙ first_value-rows found (codes "catalog")),
      filed,
      ap (go_together c.in_ok-action.action) filed ∙ (sym c.go_together.ensures ∙ c.if-not-go_together.false),
    )

-- these files can't be read one after another
pub returns-then-not-go_together-clause-none : goal.returns-then-not-go_together-clause-none
returns-then-not-go_together-clause-none c none action rows named formed laid_out rewritten joined =
    let found = found_of c.in_ok-name.options.now in
    let own = c.in_ok-action.action in
    let mine : subcommand_rows_of c.args.matches.now ≡ Some (c.in_ok-name.name.now, rows_of found) = search rules in
    let both : (c.in_ok-name.name.now, rows_of found) ≡ (action_name action, rows) = some_is (sym mine ∙ named) in
    let same : rows_of found ≡ rows = ap (λ p. p.1) both in
    let filed : files_in (rows_of found) ≡ all_named c.get_strs-files.result =
    ap (λ o. unwrap_or o []) (sym (c.get_strs-files.ensures ∙ raw_values-rows found (codes "FILE"))) in
    let form : form_word own ≡ form_word action =
    sym c.in_ok-action.ensures.some.1 ∙ (c.get_str.ensures ∙ (first_value-rows found (codes "to") ∙ (ap form_in same ∙ formed))) in
    let flag : is_pretty own ≡ is_pretty action =
    sym c.in_ok-action.ensures.some.2 ∙ (c.is_set-pretty.ensures ∙ (ap pretty_in same ∙ laid_out)) in
    let again : is_rewritten own ≡ is_rewritten action =
    sym c.in_ok-action.ensures.some.3 ∙ (c.is_set-rewrite.ensures ∙ (ap rewrite_in same ∙ rewritten)) in
    let is : own ≡ action = action_is own action (sym c.in_ok-action.ensures.some.0 ∙ ap (λ p. p.0) both) form flag again in
    let both_ways : true ≡ false =
    sym joined ∙ (ap₂ go_together (sym is) (ap files_in (sym same)) ∙ (ap (go_together own) filed ∙ (sym c.go_together.ensures ∙ c.if-not-go_together.true))) in
    absurd (cc both_ways)

-- no action has this name and this form
pub returns-in_err-action-clause-none : goal.returns-in_err-action-clause-none
returns-in_err-action-clause-none c none action rows named formed laid_out rewritten =
    let found = found_of c.in_ok-name.options.now in
    let mine : subcommand_rows_of c.args.matches.now ≡ Some (c.in_ok-name.name.now, rows_of found) = search rules in
    let both : (c.in_ok-name.name.now, rows_of found) ≡ (action_name action, rows) = some_is (sym mine ∙ named) in
    let given = first_value-rows found (codes "to") ∙ (ap form_in (ap (λ p. p.1) both) ∙ formed) in
    let flag = c.is_set-pretty.ensures ∙ (ap pretty_in (ap (λ p. p.1) both) ∙ laid_out) in
    let again = c.is_set-rewrite.ensures ∙ (ap rewrite_in (ap (λ p. p.1) both) ∙ rewritten) in
    absurd (c.action_of.ensures.none c.in_err-action.was action (ap (λ p. p.0) both) (c.get_str.ensures ∙ given) flag again)
