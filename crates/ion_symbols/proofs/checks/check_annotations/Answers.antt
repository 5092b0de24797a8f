use Rattle.std.proofs.Common.{◌<◌, length, ap, subst, ◌∙◌, arith}
use Rattle.std.proofs.lemmas.Grind.{common_steps}
use Rattle.ion_value.specs.Items.{raw_annotations, raw_field, symbol_at}
use Rattle.ion_symbols.specs.Users.{annotations_checked, at_checked}
use Rattle.ion_symbols.specs.User.{CheckedAs}
use Rattle.ion_symbols.proofs.Checking.{returned, got_plain, annotations_going, annotations_bad, annotations_end, got_within}
use Rattle.ion_symbols.proofs.checks.check_annotations.Goals as goal

pub returns-in_err-check_symbol : goal.returns-in_err-check_symbol
returns-in_err-check_symbol g c =
    let there = got_plain (raw_annotations c.args.annotations) c.loop-at.i (raw_field c.get.result) c.get.ensures ∙ ap raw_field c.in-Some.is in
    subst (CheckedAs (annotations_checked c.args.symbols.now.table c.args.user (raw_annotations c.args.annotations))) (returned c.from_residual.result c.in_err-check_symbol.field-0.0 c.from_residual.ensures)
    (annotations_bad c.args.symbols.now.table c.args.user (raw_annotations c.args.annotations) c.loop-at.i (symbol_at c.in-Some.at) _ c.loop-at.invariant.checked
    there (subst (λ x. CheckedAs (at_checked c.args.symbols.now.table c.args.user (symbol_at c.in-Some.at)) x) c.in_err-check_symbol.was c.check_symbol.ensures))

pub loop-at-smaller : goal.loop-at-smaller
loop-at-smaller g c =
    let there = got_plain (raw_annotations c.args.annotations) c.loop-at.i (raw_field c.get.result) c.get.ensures ∙ ap raw_field c.in-Some.is in
    let within : c.loop-at.i < length (raw_annotations c.args.annotations) = got_within (raw_annotations c.args.annotations) c.loop-at.i (symbol_at c.in-Some.at) there in
    omega (arith, within)

pub loop-at-preserved : goal.loop-at-preserved
loop-at-preserved g c =
    let there = got_plain (raw_annotations c.args.annotations) c.loop-at.i (raw_field c.get.result) c.get.ensures ∙ ap raw_field c.in-Some.is in
    let within : c.loop-at.i < length (raw_annotations c.args.annotations) = got_within (raw_annotations c.args.annotations) c.loop-at.i (symbol_at c.in-Some.at) there in
    record {
      within = omega (arith, within);
      checked = annotations_going c.args.symbols.now.table c.args.user (raw_annotations c.args.annotations) c.loop-at.i (symbol_at c.in-Some.at) c.loop-at.invariant.checked
          there (subst (λ x. CheckedAs (at_checked c.args.symbols.now.table c.args.user (symbol_at c.in-Some.at)) x) c.in_ok-check_symbol.was c.check_symbol.ensures);
    }

pub returns : goal.returns
returns g c =
    let there = got_plain (raw_annotations c.args.annotations) c.loop-at.i (raw_field c.get.result) c.get.ensures ∙ ap raw_field c.in_default.is in
    annotations_end c.args.symbols.now.table c.args.user (raw_annotations c.args.annotations) c.loop-at.i c.loop-at.invariant.checked there

pub overflow_add-i : goal.overflow_add-i
overflow_add-i g c = grind (arith, common_steps)
