use Rattle.ion_binary.proofs.Contents.{content-more, late-if}
use Rattle.ion_binary.proofs.held_octets.HeldOctets.extend_with.Goals as goal

pub invariant_of-self : goal.invariant_of-self
invariant_of-self g c =
    let s = c.self.inside in
    let inv = c.self.invariant in
    (inv.0, inv.1, late-if c.push_with.result s.late.items s.there (c.args.octets.now) c.push_with.new.others c.push_with.ensures.octets (λ e. (c.push_with.ensures.declines e).1) inv.2)

pub returns-clause-octets : goal.returns-clause-octets
returns-clause-octets g c is =
    let s = c.self.inside in
    content-more s.late.items s.there (c.args.octets.now) c.push_with.new.others c.args.self.now c.self.view_is c.self.invariant.2 (c.push_with.ensures.octets is)
