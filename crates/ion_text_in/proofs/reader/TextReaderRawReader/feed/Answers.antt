use Rattle.std.proofs.Common.{◌≡◌, ◌∙◌, None, sym, ap, subst, arith}
use Rattle.std.proofs.lemmas.Grind.{common_steps}
use Rattle.ion_meter.specs.Devices.{IsReadOn}
use Rattle.ion_meter.specs.Sources.{BytesAreLeft, Stands}
use Rattle.ion_meter.specs.Windows.{Incoming}
use Rattle.ion_meter.proofs.ReadOn.{read_on-not, reads_on-is}
use Rattle.ion_value.specs.Feeding.{nothing, Feeds, Joint}
use Rattle.ion_value.specs.Items.{named_item}
use Rattle.ion_value.proofs.Passing.{IsPassed-moves}
use Rattle.ion_text_in.specs.declared.reader.TextReader.{TextReader}
use Rattle.ion_text_in.specs.Steps.{opened_in, to_come_by}
use Rattle.ion_text_in.proofs.FeedReader.{feeds-reader}
use Rattle.ion_text_in.proofs.ReaderSteps.{none-is}
use Rattle.ion_text_in.proofs.reader.TextReaderRawReader.feed.Goals as goal

pub returns-then-self-clause-feeds : goal.returns-then-self-clause-feeds
returns-then-self-clause-feeds g c = nothing

pub returns-clause-feeds : goal.returns-clause-feeds
returns-clause-feeds g c =
    let w = g.W.ValueWriter in
    let r = c.args.self.now in
    let f = c.forget.new.self in
    let n = c.feed_window-values.new.self in
    let e = c.feed_window-values.ensures in
    let cleared = c.forget.ensures.cleared in
    let finished : f.unfinished ≡ None = ap (λ (x : TextReader g.row.I.Denot g.row.A.Denot). x.unfinished) cleared ∙ none-is r.unfinished (sym c.is_some.ensures ∙ c.if-is_some.false) in
    let still : n.unfinished ≡ None = ap (λ (x : TextReader g.row.I.Denot g.row.A.Denot). x.unfinished) e.same ∙ finished in
    let same : n.limits ≡ f.limits = ap (λ (x : TextReader g.row.I.Denot g.row.A.Denot). x.limits) e.same in
    let source : f.source ≡ r.source = ap (λ (x : TextReader g.row.I.Denot g.row.A.Denot). x.source) cleared in
    let stands = subst (λ (s : Incoming g.row.I.Denot). Stands s) (sym source) (c.requires.sound.0.ready c.requires.fresh).stands in
    let new : Joint g.row.W.Denot = record {
      coming = to_come_by g.I.Input n;
      opened = opened_in n;
      writer = c.feed_window-values.new.writer;
      pending = c.feed_window-values.new.sink.pending;
      values = c.feed_window-values.result;
    } in
    subst (λ (x : TextReader g.row.I.Denot g.row.A.Denot). Feeds w (named_item (g.N.Names.text c.args.names.now)) (g.I.Input.observable r.source.device)
    (record { coming = to_come_by g.I.Input x; opened = opened_in x; writer = c.args.writer.now; pending = c.args.sink.now.pending; values = 0 }) new) cleared
    (feeds-reader w g.I.Input f n (g.N.Names.text c.args.names.now) (g.I.Input.observable r.source.device) c.feed_window-values.result c.args.writer.now c.feed_window-values.new.writer
    c.args.sink.now c.feed_window-values.new.sink c.forget.new.meter c.feed_window-values.new.meter finished still same e.passed stands e.moved)

pub returns-then-self-clause-read_on : goal.returns-then-self-clause-read_on
returns-then-self-clause-read_on g c = read_on-not g.I.Input c.args.self.now.source.device

pub returns-clause-read_on : goal.returns-clause-read_on
returns-clause-read_on g c =
    let n = c.feed_window-values.new.self in
    let p = c.feed_window-values.ensures.passed in
    let source : c.forget.new.self.source ≡ c.args.self.now.source = ap (λ (x : TextReader g.row.I.Denot g.row.A.Denot). x.source) c.forget.ensures.cleared in
    subst (λ (s : Incoming g.row.I.Denot). IsReadOn g.I.Input s.device n.source.device) source
    (reads_on-is g.I.Input c.forget.new.self.source.device n.source.device (IsPassed-moves g.I.Input c.forget.new.self.source n.source p.count p.within p.passed).read_on)

pub returns-clause-bytes_left : goal.returns-clause-bytes_left
returns-clause-bytes_left g c =
    let r = c.args.self.now in
    let n = c.feed_window-values.new.self in
    let p = c.feed_window-values.ensures.passed in
    let source : c.forget.new.self.source ≡ r.source = ap (λ (x : TextReader g.row.I.Denot g.row.A.Denot). x.source) c.forget.ensures.cleared in
    subst (λ (s : Incoming g.row.I.Denot). BytesAreLeft g.I.Input n.source → BytesAreLeft g.I.Input s) source (IsPassed-moves g.I.Input c.forget.new.self.source n.source p.count p.within p.passed).bytes

pub returns-clause-falls : goal.returns-clause-falls
returns-clause-falls g c = grind (arith, common_steps) steps 400000

pub returns-clause-sound : goal.returns-clause-sound
returns-clause-sound g c = grind (arith, common_steps)

pub returns-clause-writer : goal.returns-clause-writer
returns-clause-writer g c = grind (arith, common_steps) steps 400000

pub returns-clause-charges : goal.returns-clause-charges
returns-clause-charges g c = grind (arith, common_steps) steps 400000

pub returns-clause-observable : goal.returns-clause-observable
returns-clause-observable g c = grind (arith, common_steps) steps 400000

pub overflow_cast-result-2 : goal.overflow_cast-result-2
overflow_cast-result-2 g c = grind (arith, common_steps) steps 400000

pub returns-then-self-clause-level : goal.returns-then-self-clause-level
returns-then-self-clause-level g c = grind (arith, common_steps) steps 400000

pub returns-clause-goes : goal.returns-clause-goes
returns-clause-goes g c = grind (arith, common_steps) steps 400000

pub returns-clause-level : goal.returns-clause-level
returns-clause-level g c = grind (arith, common_steps)

pub feed_window-values-requires-clause-can : goal.feed_window-values-requires-clause-can
feed_window-values-requires-clause-can g c = grind (arith, common_steps)

pub returns-clause-exceeds : goal.returns-clause-exceeds
returns-clause-exceeds g c = grind (arith, common_steps)

pub returns-then-self-clause-writer : goal.returns-then-self-clause-writer
returns-then-self-clause-writer g c = grind (arith, common_steps) steps 400000

pub returns-clause-same : goal.returns-clause-same
returns-clause-same g c = grind (arith, common_steps)

pub returns-then-self-clause-charges : goal.returns-then-self-clause-charges
returns-then-self-clause-charges g c = grind (arith, common_steps)

pub returns-clause-ended : goal.returns-clause-ended
returns-clause-ended g c = grind (arith, common_steps)

pub returns-then-self-clause-exceeds : goal.returns-then-self-clause-exceeds
returns-then-self-clause-exceeds g c = grind (arith, common_steps)

pub feed_window-values-requires-clause-stands : goal.feed_window-values-requires-clause-stands
feed_window-values-requires-clause-stands g c = grind (arith, common_steps)
