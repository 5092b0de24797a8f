use Rattle.std.proofs.Common.{arith}
use Rattle.std.proofs.lemmas.Bool.{eqb-false}
use Rattle.std.proofs.lemmas.Bool.Decides.{nat_tests}
use Rattle.std.proofs.lemmas.Grind.{common_steps}
use Rattle.ion_text_in.proofs.Declarations.{none-declared, shown-id, shown-long}
use Rattle.ion_text_in.proofs.waiting.may_be_declaration.Goals as goal

pub returns-in_default-2 : goal.returns-in_default-2
returns-in_default-2 c _ some = none-declared c.args.bytes.now some (grind (arith, common_steps)) (grind (arith, common_steps))

pub returns-in_default-3 : goal.returns-in_default-3
returns-in_default-3 c _ some = none-declared c.args.bytes.now some (grind (arith, common_steps)) (grind (arith, common_steps))

pub returns-in_default-4 : goal.returns-in_default-4
returns-in_default-4 c _ some = none-declared c.args.bytes.now some (grind (arith, common_steps)) (grind (arith, common_steps))

pub returns-in-Whole-Id-default : goal.returns-in-Whole-Id-default
returns-in-Whole-Id-default c e some =
    let told = c.in-Whole-Id-default in
    shown-id c.args.bytes.now told.field-0 told.id told.field-1 told.field-0-is (grind (arith, common_steps)) told.ensures.shows (eqb-false told.id 3 e)

pub returns-in-Whole-Name-default : goal.returns-in-Whole-Name-default
returns-in-Whole-Name-default c e some =
    let told = c.in-Whole-Name-default in
    shown-long c.args.bytes.now told.field-0 told.count told.field-0-is (grind (arith, common_steps)) told.ensures.shows (grind (arith, nat_tests))
