use Rattle.std.proofs.Common.{refl}
use Rattle.std.proofs.lemmas.Bool.{le-leb, lt-leb}
use Rattle.clap.specs.Words.{found_of}
use Rattle.ion_tool.proofs.LimitsRead.{limit_read}
use Rattle.ion_tool.proofs.words.limit_of.Goals as goal

pub returns-in-Ok-Some-clause-value : goal.returns-in-Ok-Some-clause-value
returns-in-Ok-Some-clause-value c =
    let try = c.try_get_one in
    rw (limit_read (found_of c.args.options.now) c.args.name.now c.args.most c.args.usual try.result try.ensures.none try.ensures.value, c.in-Ok-Some.is, c.in-Ok-Some.field-0-is, le-leb _ _ c.if-number-most.true) refl

pub returns-in-Ok-None-clause-value : goal.returns-in-Ok-None-clause-value
returns-in-Ok-None-clause-value c =
    let try = c.try_get_one in
    rw (limit_read (found_of c.args.options.now) c.args.name.now c.args.most c.args.usual try.result try.ensures.none try.ensures.value, c.in-Ok-None.is, c.in-Ok-None.field-0-is) refl

pub returns-in_default-clause-value : goal.returns-in_default-clause-value
returns-in_default-clause-value c =
    let try = c.try_get_one in
    rw (limit_read (found_of c.args.options.now) c.args.name.now c.args.most c.args.usual try.result try.ensures.none try.ensures.value, c.in-Ok-Some.is, c.in-Ok-Some.field-0-is, lt-leb _ _ c.if-number-most.false) refl

pub returns-in_default-2-clause-value : goal.returns-in_default-2-clause-value
returns-in_default-2-clause-value c =
    let try = c.try_get_one in
    rw (limit_read (found_of c.args.options.now) c.args.name.now c.args.most c.args.usual try.result try.ensures.none try.ensures.value, c.in_default.is) refl
