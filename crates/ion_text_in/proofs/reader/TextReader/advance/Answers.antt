use Rattle.std.proofs.Common.{◌≡◌, refl, sym, ◌∙◌, Err, None, Ok, false, true}
use Rattle.ion_meter.specs.declared.fault.Fault.TheVariants.{Refused}
use Rattle.ion_meter.specs.declared.fault.Reason.TheVariants.{Truncated}
use Rattle.ion_text_in.specs.declared.reader.StepResult.TheVariants as step_result
use Rattle.ion_text_in.specs.Steps.{to_come_by}
use Rattle.ion_text_in.proofs.Holding.{handed-on}
use Rattle.ion_text_in.proofs.ReaderCalls.{advanced, advanced-then, so-far-can, so-far-then, steps-refused}
use Rattle.ion_text_in.proofs.reader.TextReader.advance.Goals as goal

pub returns-in-Some : goal.returns-in-Some
returns-in-Some g c =
    let r = c.args.self.now in
    let can = c.requires in
    advanced g.I.Input (Err (Refused Truncated c.in-Some.start)) r r c.args.meter.now c.args.meter.now
    (steps-refused g.I.Input r c.args.meter.now None (λ _. to_come_by g.I.Input r) 0 Truncated c.in-Some.start can.sized can.held (λ d. rw c.in-Some.is refl)) (λ e. absurd (cc e))

pub step-requires : goal.step-requires
step-requires g c = so-far-can g.I.Input c.args.self.now c.steps.self c.args.meter.now c.steps.meter c.requires c.steps.invariant

pub steps-preserved : goal.steps-preserved
steps-preserved g c =
    so-far-then g.I.Input (Ok step_result.Passed) c.args.self.now c.steps.self c.step.new.self c.args.meter.now c.steps.meter c.step.new.meter c.requires c.steps.invariant
    (rw c.in-Passed.is at c.in_ok-step.ensures.steps)

pub returns-in_err-step : goal.returns-in_err-step
returns-in_err-step g c =
    rw (handed-on c.from_residual.result c.in_err-step.field-0.0 c.from_residual.ensures)
    (advanced-then g.I.Input (Err c.in_err-step.field-0.0) c.args.self.now c.steps.self c.step.new.self c.args.meter.now c.steps.meter c.step.new.meter c.requires c.steps.invariant c.in_err-step.ensures.steps
    (λ e. absurd (cc e)))

pub returns-in-Ended : goal.returns-in-Ended
returns-in-Ended g c =
    advanced-then g.I.Input (Ok false) c.args.self.now c.steps.self c.step.new.self c.args.meter.now c.steps.meter c.step.new.meter c.requires c.steps.invariant (rw c.in-Ended.is at c.in_ok-step.ensures.steps)
    (λ e. absurd (cc e))

pub returns-in-Item : goal.returns-in-Item
returns-in-Item g c =
    let item : step_result.Item ≡ step_result.Ended → ⊥ = λ e. cc e in
    advanced-then g.I.Input (Ok true) c.args.self.now c.steps.self c.step.new.self c.args.meter.now c.steps.meter c.step.new.meter c.requires c.steps.invariant (rw c.in-Item.is at c.in_ok-step.ensures.steps)
    (λ _. c.in_ok-step.ensures.further c.in_ok-step.field-0 refl (λ e. item (sym c.in-Item.is ∙ e)))
