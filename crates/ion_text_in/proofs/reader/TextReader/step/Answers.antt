use Rattle.std.proofs.Common.{None, refl}
use Rattle.ion_meter.specs.Sources.{cursor}
use Rattle.ion_text_in.specs.Firsts.{first_of}
use Rattle.ion_text_in.specs.Steps.{ending, part_by, to_come_in}
use Rattle.ion_text_in.proofs.ReaderCalls.{steps-ahead}
use Rattle.ion_text_in.proofs.ReaderSteps.{ended-ahead, part-ahead}
use Rattle.ion_text_in.proofs.reader.TextReader.step.Goals as goal

pub returns-in-Some-clause-steps : goal.returns-in-Some-clause-steps
returns-in-Some-clause-steps g c =
    let r = c.args.self.now in
    let t = c.next_ahead.new.source in
    let e = c.in_ok-ahead.ensures in
    let first = c.in-Some.first in
    steps-ahead g.I.Input c.part.result r c.part.new.self t c.args.meter.now c.part.new.meter c.in_ok-ahead.ahead None (λ _. to_come_in g.I.Input r) (λ _. part_by g.I.Input (record r { source = t }) (first_of first)) 0
    c.requires e.reads (λ h d blank. (cursor g.I.Input t, (refl, part-ahead g.I.Input r t c.in_sexp-in_sexp.result c.in_ok-ahead.ahead first c.in_sexp-in_sexp.ensures (e.ahead h) e.wide c.in-Some.is))) (λ _. c.part.ensures.steps)

pub returns-in-None-clause-steps : goal.returns-in-None-clause-steps
returns-in-None-clause-steps g c =
    let r = c.args.self.now in
    let t = c.next_ahead.new.source in
    let e = c.in_ok-ahead.ensures in
    let m = c.args.meter.now in
    let a = c.in_ok-ahead.ahead in
    let ended = ended-ahead g.I.Input r t c.in_sexp-in_sexp.result a in
    steps-ahead g.I.Input c.end.result r (record r { source = t }) t m m a None (λ _. to_come_in g.I.Input r) (λ _. ending (record r { source = t }) a.unfinished) 0
    c.requires e.reads (λ h d blank. (cursor g.I.Input t, (refl, (ended (e.ahead h) c.in-None.is).1))) (λ can. c.end.ensures.steps m can (λ h. (ended (e.ahead (e.reads.moves.still_observable.0 h)) c.in-None.is).0))
