use Rattle.std.proofs.Common.{rules, ◌≡◌, Ok, true}
use Rattle.ion_binary_tests.proofs.Handed.{takes-fed, may-go-on, takes-put}
use Rattle.ion_binary_tests.proofs.fast_path.turn.Goals as goal

pub feed-fed-requires-clause-writer : goal.feed-fed-requires-clause-writer
feed-fed-requires-clause-writer g c =
    let w = g.W.ValueWriter in
    let t = c.requires.writer in
    let taken : c.next.result ≡ Ok true = search rules in
    let comes = c.next.ensures.comes taken in
    let may = may-go-on w t c.item-item.ensures comes in
    takes-put w t comes c.item-item.ensures c.next.ensures.kept.0 c.item.ensures.sound c.in_default-item.ensures.failed (c.in_default-item.ensures.well t.well) c.item.ensures.limits
    (c.in_default-item.ensures.stands t.after.0 t.after.1 may).0

pub returns-clause-writer : goal.returns-clause-writer
returns-clause-writer g c = λ _.
    let w = g.W.ValueWriter in
    let t = c.requires.writer in
    let taken : c.next.result ≡ Ok true = search rules in
    let comes = c.next.ensures.comes taken in
    let may = may-go-on w t c.item-item.ensures comes in
    let put = takes-put w t comes c.item-item.ensures c.next.ensures.kept.0 c.item.ensures.sound c.in_default-item.ensures.failed (c.in_default-item.ensures.well t.well) c.item.ensures.limits
    (c.in_default-item.ensures.stands t.after.0 t.after.1 may).0 in
    takes-fed w _ _ _ _ _ _ _ _ _ put c.feed-fed.ensures.feeds c.feed-fed.ensures.writer c.feed-fed.ensures.kept.0
