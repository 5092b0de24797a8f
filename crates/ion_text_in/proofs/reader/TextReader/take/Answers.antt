use Rattle.std.proofs.Common.{◌∙◌, Option, None, sym, ap, subst, arith}
use Rattle.ion_value.specs.declared.ion_type.Kind.{Kind}
use Rattle.ion_text_in.specs.declared.token.Token.{Token}
use Rattle.ion_text_in.specs.Reading.{at_member, take}
use Rattle.ion_text_in.specs.Tokens.{TokenInRange}
use Rattle.ion_text_in.specs.Steps.{opened_in}
use Rattle.ion_text_in.proofs.ReaderCalls.{steps-more, steps-same}
use Rattle.ion_text_in.proofs.ReaderSteps.{steps-comma, taken-as}
use Rattle.ion_text_in.proofs.reader.TextReader.take.Goals as goal

pub returns-in-Separator-Comma : goal.returns-in-Separator-Comma
returns-in-Separator-Comma g c =
    let r = c.args.self.now in
    let e = c.after_comma-self.ensures in
    let inner = c.innermost.ensures in
    rw c.in-Separator-Comma.is-1
    (steps-comma g.I.Input r c.after_comma-self.result c.args.place c.args.meter.now c.in-Separator-Comma.is-0 (e.is ∙ ap (λ (k : Option Kind). at_member k) inner) (e.may (opened_in r) (sym inner)) c.requires.can_step)

pub returns-in-Field-Symbol : goal.returns-in-Field-Symbol
unfolding take
returns-in-Field-Symbol g c =
    let r = c.args.self.now in
    let m = c.args.meter.now in
    let field = c.in-Field-Symbol.is-0 in
    rw c.in-Field-Symbol.is-1
    (steps-same g.I.Input c.named.result r c.named.new.self m m None _ _ _ (λ d. taken-as r _ _ c.args.place d field)
    (steps-more g.I.Input c.named.result r c.named.new.self m m None _ 0 _ (omega arith) (c.named.ensures m c.requires.can_step field)))

pub returns-in-Value-Operator : goal.returns-in-Value-Operator
unfolding take
returns-in-Value-Operator g c =
    let r = c.args.self.now in
    let m = c.args.meter.now in
    let value = c.in-Value-Operator.is-0 in
    rw c.in-Value-Operator.is-1
    (steps-same g.I.Input _ r c.give-in-Value-Operator.new.self m m None _ _ 0 (λ d. taken-as r _ _ c.args.place d value) (c.give-in-Value-Operator.ensures m c.requires.can_step value tt))

pub returns-in-Value-String : goal.returns-in-Value-String
unfolding take
returns-in-Value-String g c =
    let r = c.args.self.now in
    let m = c.args.meter.now in
    let value = c.in-Value-String.is-0 in
    rw c.in-Value-String.is-1
    (steps-same g.I.Input _ r c.give.new.self m m _ _ _ 0 (λ d. taken-as r _ _ c.args.place d value) (c.give.ensures m c.requires.can_step value tt))

pub returns-in-Value-Plain : goal.returns-in-Value-Plain
unfolding take
returns-in-Value-Plain g c =
    let r = c.args.self.now in
    let m = c.args.meter.now in
    let value = c.in-Value-Plain.is-0 in
    rw c.in-Value-Plain.is-1
    (steps-same g.I.Input _ r c.give-in-Value-Plain.new.self m m None _ _ 0 (λ d. taken-as r _ _ c.args.place d value) (c.give-in-Value-Plain.ensures m c.requires.can_step value (subst (λ (t : Token). TokenInRange t) c.in-Value-Plain.is-1 c.requires.range)))

pub returns-in-None : goal.returns-in-None
unfolding take
returns-in-None g c =
    let r = c.args.self.now in
    let m = c.args.meter.now in
    let field = c.in-Field-String.is-0 in
    rw (c.in-Field-String.is-1, c.in-None.is)
    (steps-same g.I.Input c.named-in-None.result r c.named-in-None.new.self m m None _ _ 0 (λ d. taken-as r _ _ c.args.place d field) (c.named-in-None.ensures m c.requires.can_step field))

pub returns-in-Value-Float : goal.returns-in-Value-Float
unfolding take
returns-in-Value-Float g c =
    let r = c.args.self.now in
    let m = c.args.meter.now in
    rw c.in-Value-Float.is-1 (c.float.ensures m c.requires.can_step c.in-Value-Float.is-0)
