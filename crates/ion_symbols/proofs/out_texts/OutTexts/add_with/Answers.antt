use Rattle.std.proofs.Common.{◌≡◌, None, subst, ◌∙◌, arith}
use Rattle.std.proofs.lemmas.Grind.{common_steps}
use Rattle.ion_symbols.specs.Output.{position}
use Rattle.ion_symbols.specs.OutTexts.{IsSpot, texts_of}
use Rattle.ion_symbols.proofs.LinkedTexts.{added_texts, can_link_pushed, is_added, place_after, place_small}
use Rattle.ion_symbols.proofs.out_texts.OutTexts.add_with.Goals as goal

pub overflow_cast-stands : goal.overflow_cast-stands
overflow_cast-stands g c = let s = place_small c.args.self.now c.as_slice-from.result.now c.args.added.bytes.now c.requires.kept c.as_slice-from.ensures c.requires.small in omega (arith, s)

pub overflow_cast-stands-2 : goal.overflow_cast-stands-2
overflow_cast-stands-2 g c = let s = place_small c.args.self.now c.as_slice-from.result.now c.args.added.bytes.now c.requires.kept c.as_slice-from.ensures c.requires.small in omega (arith, s)

pub link_last-requires : goal.link_last-requires
link_last-requires g c =
    let at : (position (texts_of c.args.self.now) c.args.added.bytes.now ≡ None) × IsSpot c.args.self.now c.args.added.bytes.now c.in-Free.spot
    = subst (λ k. (position (texts_of k) c.args.added.bytes.now ≡ None) × IsSpot k c.args.added.bytes.now c.in-Free.spot) c.probe-probe.ensures.of c.in-Free.ensures.seeks in
    can_link_pushed c.args.self.now (record c.args.self.now { bytes = c.push_together.new.bytes; places = c.push_together.new.self; ids = c.push_together.new.others }) c.args.added.bytes.now c.in-Free.spot
    (place_after c.as_slice-from.result.now c.args.added.bytes.now) c.requires.kept (record { absent = at.0; no_system = c.requires.no_system }) at.1
    (is_added c.args.self.now c.as_slice-from.result.now c.push_together.new.bytes c.args.added.bytes.now c.push_together.new.self c.push_together.new.others c.as_slice-from.ensures
    (c.push_together.ensures.bytes c.if-not-push_together.false) (c.push_together.ensures.items c.if-not-push_together.false) c.push_together.ensures.same_cost c.push_together.ensures.same_other_cost)
    c.requires.small c.if-self.false (c.push_together.ensures.others c.if-not-push_together.false)

pub returns-clause-added : goal.returns-clause-added
returns-clause-added g c =
    λ _. c.link_last.ensures.texts
    ∙ added_texts c.args.self.now (record c.args.self.now { bytes = c.push_together.new.bytes; places = c.push_together.new.self; ids = c.push_together.new.others }) c.args.added.bytes.now
    (place_after c.as_slice-from.result.now c.args.added.bytes.now) c.requires.kept
    (is_added c.args.self.now c.as_slice-from.result.now c.push_together.new.bytes c.args.added.bytes.now c.push_together.new.self c.push_together.new.others c.as_slice-from.ensures
    (c.push_together.ensures.bytes c.if-not-push_together.false) (c.push_together.ensures.items c.if-not-push_together.false) c.push_together.ensures.same_cost c.push_together.ensures.same_other_cost)

pub returns-clause-grows : goal.returns-clause-grows
returns-clause-grows g c = grind (arith, common_steps)

pub returns-then-not-push_together-clause-kept : goal.returns-then-not-push_together-clause-kept
returns-then-not-push_together-clause-kept g c = grind (arith, common_steps)

pub returns-in_default : goal.returns-in_default
returns-in_default g c = grind (arith, common_steps)

pub returns-clause-octets : goal.returns-clause-octets
returns-clause-octets g c = grind (arith, common_steps)

pub returns-then-not-push_together-clause-octets : goal.returns-then-not-push_together-clause-octets
returns-then-not-push_together-clause-octets g c = grind (arith, common_steps)

pub returns-clause-order : goal.returns-clause-order
returns-clause-order g c = grind (arith, common_steps)

pub returns-clause-kept : goal.returns-clause-kept
returns-clause-kept g c = grind (arith, common_steps)

pub returns-then-not-push_together-clause-grows : goal.returns-then-not-push_together-clause-grows
returns-then-not-push_together-clause-grows g c = grind (arith, common_steps)

pub returns-then-not-push_together-clause-order : goal.returns-then-not-push_together-clause-order
returns-then-not-push_together-clause-order g c = grind (arith, common_steps)

pub returns-clause-declines : goal.returns-clause-declines
returns-clause-declines g c = grind (arith, common_steps)
