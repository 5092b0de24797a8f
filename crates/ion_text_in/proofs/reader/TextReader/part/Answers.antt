use Rattle.std.proofs.Common.{◌∙◌, None, ℕ, sym, ap, arith}
use Rattle.ion_meter.specs.Sources.{cursor}
use Rattle.ion_text_in.specs.Firsts.{first_of}
use Rattle.ion_text_in.specs.Expecting.{wanted}
use Rattle.ion_text_in.specs.Reading.{take}
use Rattle.ion_text_in.specs.Symbols.{prepaid}
use Rattle.ion_text_in.specs.Tokens.{overrun_of, token_view}
use Rattle.ion_text_in.specs.Steps.{annotations_in, comes, field_in, opened_in, part_by, state_at, taking}
use Rattle.ion_text_in.proofs.ReaderCalls.{reached-text, steps-after}
use Rattle.ion_text_in.proofs.ReaderSteps.{part-token}
use Rattle.ion_text_in.proofs.reader.TextReader.part.Goals as goal

pub returns-clause-steps : goal.returns-clause-steps
returns-clause-steps g c =
    let r = c.args.self.now in
    let s = c.next_token.new.source in
    let t = c.next_token.new.text in
    let q = record r { source = s; text = t } in
    let token = c.in_ok-token.token in
    let e = c.in_ok-token.ensures in
    let can = c.requires.can_step in
    let here = cursor g.I.Input r.source in
    steps-after g.I.Input c.take.result r q c.take.new.self c.args.meter.now c.next_token.new.meter c.take.new.meter None (overrun_of token) (λ _. part_by g.I.Input r (first_of c.args.first))
    (taking q c.place-place.result (token_view t c.place-place.result token)) 0 (prepaid t token) can.held (reached-text g.I.Input r s t c.args.meter.now c.next_token.new.meter token can.sized can.held e.reads.into)
    (λ h d blank.
    let o = e.gives h in (
      o.0,
      (
        o.2,
        part-token r.limits (state_at here r) here o.0 (first_of c.args.first) (token_view t r.source.place token) (sym (c.may_come.ensures (field_in r) (annotations_in r)) ∙ c.if-not-may_come.false) o.1
            ∙ ap (λ (p : ℕ). comes r.limits (take r.limits (opened_in r) r.top (wanted r.expected (field_in r) (annotations_in r)) p (token_view t p token) o.0)) (sym c.place-place.ensures),
      ),
    ))
    (record { own = omega (arith, e.paid); peak = omega (arith, e.goes.peak) }) c.take.ensures
