use Rattle.std.proofs.Common.{None, Option, IfSome, subst}
use Rattle.ion_meter.specs.declared.fault.Reason.TheVariants as reasons
use Rattle.ion_value.specs.declared.float.Float64.{Float64}
use Rattle.ion_value.specs.Float.{IsFloat, value_of}
use Rattle.std.specs.Prelude.{option_map}
use Rattle.ion_text_in.proofs.ReaderCalls.{steps-refused, steps-same}
use Rattle.ion_text_in.proofs.ReaderFloats.{float-given, float-off, float-past}
use Rattle.ion_text_in.proofs.reader.TextReader.float.Goals as goal

pub returns-then-not-self : goal.returns-then-not-self
returns-then-not-self g c = λ m can value.
    let r = c.args.self.now in
    steps-refused g.I.Input r m None _ 0 reasons.Float c.args.place can.sized can.held (λ d. float-off r (option_map value_of c.args.number) c.args.place d value c.if-not-self.true)

pub returns-in-Some : goal.returns-in-Some
returns-in-Some g c = λ m can value.
    let r = c.args.self.now in
    rw c.in-Some.is
    (steps-same g.I.Input _ r c.give.new.self m m None _ _ 0 (λ d. float-given r c.in-Some.number c.args.place d value c.if-not-self.false)
    (c.give.ensures m can value (subst (λ (o : Option Float64). IfSome o (λ f. IsFloat (value_of f))) c.in-Some.is c.requires.range)))

pub returns-in-None : goal.returns-in-None
returns-in-None g c = λ m can value.
    let r = c.args.self.now in
    rw c.in-None.is (steps-refused g.I.Input r m None _ 0 reasons.Range c.args.place can.sized can.held (λ d. float-past r c.args.place d value c.if-not-self.false))
