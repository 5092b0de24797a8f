use Rattle.ion_binary.proofs.Contents.{content-ok, late-ok}
use Rattle.ion_binary.proofs.held_octets.HeldOctets.extend.Goals as goal

pub invariant_of-self : goal.invariant_of-self
invariant_of-self g c =
    let s = c.self.inside in
    let inv = c.self.invariant in
    (inv.0, inv.1, late-ok c.extend.result s.late.items s.there c.args.octets.now c.extend.new.self c.extend.ensures.ok c.extend.ensures.err inv.2)

pub returns-clause-ok : goal.returns-clause-ok
returns-clause-ok g c =
    let s = c.self.inside in
    content-ok c.extend.result s.late.items s.there c.args.octets.now c.extend.new.self c.args.self.now c.self.view_is c.self.invariant.2 c.extend.ensures.ok
