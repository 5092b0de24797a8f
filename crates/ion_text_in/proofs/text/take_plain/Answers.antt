use Rattle.std.proofs.Common.{ℕ, ◌≤◌, List, length, take, Ok, Err, sym, ap, subst, ◌∙◌, arith}
use Rattle.std.proofs.lemmas.Grind.{common_steps}
use Rattle.ion_meter.specs.Windows.{lent}
use Rattle.ion_meter.specs.Sources.{Cursor, cursor, skip}
use Rattle.ion_value.proofs.Passing.{IsPassed-cursor}
use Rattle.ion_text_in.specs.Quotes.{quote_of}
use Rattle.ion_text_in.specs.Gathered.{onward}
use Rattle.ion_text_in.proofs.Gathering.{continues-err, continues-puts, plain-lent}
use Rattle.ion_text_in.proofs.Holding.{handed-on}
use Rattle.ion_text_in.proofs.text.take_plain.Goals as goal

pub returns-in_err-put-clause-gives : goal.returns-in_err-put-clause-gives
returns-in_err-put-clause-gives g c = λ h.
    let limit = c.args.limits.scalar in
    let s = c.args.source.now in
    let f = c.in_err-put.field-0.0 in
    let on = λ (l : List ℕ). onward (quote_of c.args.quote) limit l (skip c.plain_length-plain.result (cursor g.I.Input s)) in
    let run = plain-lent g.I.Input.rest c.args.quote limit c.args.text.now s c.buffer-bytes.result.now c.plain_length-plain.result c.requires.can_gather.grows.share c.buffer-bytes.ensures c.plain_length-plain.ensures.within
    c.plain_length-plain.ensures.plain in
    rw (handed-on c.from_residual.result f c.from_residual.ensures) (continues-err _ _ f c.args.place (λ e k. run ∙ k)
    (continues-puts {T = Unit {0}} (Err f) c.args.text.now c.put.new.text (take c.plain_length-plain.result c.buffer-bytes.result.now) limit c.args.place on c.in_err-put.ensures.puts))

pub returns-clause-gives : goal.returns-clause-gives
returns-clause-gives g c = λ h.
    let limit = c.args.limits.scalar in
    let s = c.args.source.now in
    let q = quote_of c.args.quote in
    let n = c.plain_length-plain.result in
    let bytes = c.buffer-bytes.result.now in
    let on = λ (l : List ℕ). onward (quote_of c.args.quote) limit l (skip n (cursor g.I.Input s)) in
    let there : n ≤ length (lent s) = subst (λ (l : List ℕ). n ≤ length l) c.buffer-bytes.ensures c.plain_length-plain.ensures.within in
    plain-lent g.I.Input.rest c.args.quote limit c.args.text.now s bytes n c.requires.can_gather.grows.share c.buffer-bytes.ensures c.plain_length-plain.ensures.within c.plain_length-plain.ensures.plain
    ∙ continues-puts (Ok c.in_ok-put.field-0) c.args.text.now c.put.new.text (take n bytes) limit c.args.place on c.in_ok-put.ensures.puts
    ∙ ap (λ (d : Cursor). onward q limit c.put.new.text d) (sym (IsPassed-cursor g.I.Input s c.consume.new.self n there c.consume.ensures))

pub consume-requires : goal.consume-requires
consume-requires g c = grind (arith, common_steps)

pub returns-clause-longer : goal.returns-clause-longer
returns-clause-longer g c = grind (arith, common_steps)
