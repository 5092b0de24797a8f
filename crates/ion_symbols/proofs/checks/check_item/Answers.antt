use Rattle.std.proofs.Common.{Err, sym, subst, ◌∙◌}
use Rattle.ion_value.specs.Items.{raw_annotations, raw_field, raw_head, raw_item}
use Rattle.ion_symbols.specs.Users.{checked, or_else, field_checked, annotations_checked, head_checked}
use Rattle.ion_symbols.specs.User.{CheckedAs}
use Rattle.ion_symbols.proofs.Checking.{returned, or_bad, or_fine, item_checked, plain_annotations, plain_head}
use Rattle.ion_symbols.proofs.checks.check_item.Goals as goal

pub returns-in_err-check_annotations : goal.returns-in_err-check_annotations
returns-in_err-check_annotations g c =
    let t = c.args.symbols.now.table in
    let i = raw_item c.args.item.now in
    subst (CheckedAs (checked t c.args.user i)) (returned c.from_residual-in_err-check_annotations.result c.in_err-check_annotations.field-0.0 c.from_residual-in_err-check_annotations.ensures)
    (item_checked t c.args.user i (raw_field c.field.result) (raw_annotations c.annotations.result) i.head (Err _)
    c.field.ensures (sym (plain_annotations (raw_annotations c.annotations.result)) ∙ c.annotations.ensures) (sym (plain_head i.head))
    (or_fine (field_checked t c.args.user (raw_field c.field.result)) (or_else (annotations_checked t c.args.user (raw_annotations c.annotations.result)) (head_checked t c.args.user i.head))
    (Err _) c.in_ok-check_field.ensures
    (or_bad (annotations_checked t c.args.user (raw_annotations c.annotations.result)) (head_checked t c.args.user i.head) _ c.in_err-check_annotations.ensures)))

pub returns : goal.returns
returns g c =
    let t = c.args.symbols.now.table in
    let i = raw_item c.args.item.now in
    item_checked t c.args.user i (raw_field c.field.result) (raw_annotations c.annotations.result) (raw_head c.head.result) c.check_head.result
    c.field.ensures (sym (plain_annotations (raw_annotations c.annotations.result)) ∙ c.annotations.ensures) c.head.ensures
    (or_fine (field_checked t c.args.user (raw_field c.field.result)) (or_else (annotations_checked t c.args.user (raw_annotations c.annotations.result)) (head_checked t c.args.user (raw_head c.head.result)))
    c.check_head.result c.in_ok-check_field.ensures
    (or_fine (annotations_checked t c.args.user (raw_annotations c.annotations.result)) (head_checked t c.args.user (raw_head c.head.result)) c.check_head.result c.in_ok-check_annotations.ensures c.check_head.ensures))
