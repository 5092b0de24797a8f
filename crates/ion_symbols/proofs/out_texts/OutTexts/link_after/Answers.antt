use Rattle.std.proofs.Common.{arith}
use Rattle.ion_symbols.proofs.LinkedTexts.{links_first, links_second}
use Rattle.ion_symbols.proofs.out_texts.OutTexts.link_after.Goals as goal

pub returns-then-digits-eq1 : goal.returns-then-digits-eq1
returns-then-digits-eq1 g c =
    links_second c.args.self.now c.set.new.self c.args.number c.args.digits c.args.last c.requires.within c.requires.long c.if-digits-eq1.true c.set.ensures.items c.set.ensures.cost

pub returns : goal.returns
returns g c =
    links_first c.args.self.now c.set-2.new.self c.as_slice.result.now c.args.number c.args.digits c.args.last (record { from = 0; to = 0; next = 0 }) c.requires.within
    (omega (arith, c.if-digits-eq1.false)) c.as_slice.ensures c.set-2.ensures.items c.set-2.ensures.cost
