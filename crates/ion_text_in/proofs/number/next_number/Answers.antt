use Rattle.std.proofs.Common.{Some, arith}
use Rattle.std.proofs.lemmas.Grind.{common_steps}
use Rattle.ion_text_in.specs.Token.{a_run, token_of}
use Rattle.ion_text_in.specs.Views.{numeral_token}
use Rattle.ion_text_in.proofs.Shown.{shown-whole, shown-fault}
use Rattle.ion_text_in.proofs.ShownFurther.{shown-further}
use Rattle.ion_text_in.proofs.number.next_number.Goals as goal

pub returns-in-Whole-clause-gives : goal.returns-in-Whole-clause-gives
returns-in-Whole-clause-gives g c = λ h.
    shown-whole g.I.Input numeral_token c.args.source.now c.consume.new.self c.in-Whole.number c.in-Whole.count (token_of (Some c.args.limits.scalar) a_run) (rw c.buffer.ensures at c.in-Whole.ensures.shows) c.consume.ensures

pub returns-in-Fault-clause-gives : goal.returns-in-Fault-clause-gives
returns-in-Fault-clause-gives g c = λ h.
    (shown-fault g.I.Input numeral_token c.args.source.now c.in-Fault.reason (token_of (Some c.args.limits.scalar) a_run) (rw c.buffer.ensures at c.in-Fault.ensures.shows), c.place.ensures)

pub returns-in-Whole-clause-further : goal.returns-in-Whole-clause-further
returns-in-Whole-clause-further g c =
    shown-further numeral_token c.args.source.now c.consume.new.self c.in-Whole.number c.in-Whole.count (Some c.args.limits.scalar) a_run (rw c.buffer.ensures at c.in-Whole.ensures.shows) c.requires.there c.consume.ensures

pub returns-in-Whole-clause-reads : goal.returns-in-Whole-clause-reads
returns-in-Whole-clause-reads g c = grind (arith, common_steps) steps 400000

pub returns-in-Fault-clause-reads : goal.returns-in-Fault-clause-reads
returns-in-Fault-clause-reads g c = grind (arith, common_steps) steps 400000

pub consume-requires : goal.consume-requires
consume-requires g c = grind (arith, common_steps) steps 400000
