use Rattle.std.proofs.Common.{◌∙◌, length, ap, subst, arith}
use Rattle.std.proofs.lemmas.Grind.{common_steps}
use Rattle.ion_symbols.specs.Hash.{bucket_in}
use Rattle.ion_symbols.specs.OutTexts.{CanLink}
use Rattle.ion_symbols.proofs.LinkedTexts.{linked_after, linked_in_front, linked_in_order}
use Rattle.ion_symbols.proofs.out_texts.OutTexts.link_last.Goals as goal

pub returns-in-After-clause-kept : goal.returns-in-After-clause-kept
returns-in-After-clause-kept g c =
    linked_after c.args.self.now c.link_after.new.self c.args.text.now c.in-After.number c.in-After.digits _ (subst (λ s. CanLink c.args.self.now c.args.text.now s) c.in-After.is c.requires)
    c.link_after.ensures (ap length c.as_slice.ensures)

pub returns-then-self-of-gt0-clause-kept : goal.returns-then-self-of-gt0-clause-kept
returns-then-self-of-gt0-clause-kept g c =
    linked_in_order c.args.self.now c.args.text.now c.args.spot c.bucket-of.result c.requires c.in_default.not-After (c.bucket-of.ensures.of ∙ ap bucket_in c.hash.ensures) c.if-self-of-gt0.true

pub returns-clause-kept : goal.returns-clause-kept
returns-clause-kept g c =
    linked_in_front c.args.self.now c.args.text.now c.args.spot c.bucket-of.result (length c.as_slice.result.now) c.requires c.in_default.not-After (c.bucket-of.ensures.of ∙ ap bucket_in c.hash.ensures)
    c.bucket-of.ensures.within (omega (arith, c.if-self-of-gt0.false)) (ap length c.as_slice.ensures)

pub returns-in-After-clause-order : goal.returns-in-After-clause-order
returns-in-After-clause-order g c = ap (λ k. k.is_ordered) c.link_after.ensures.rest

pub link_after-requires-clause-within : goal.link_after-requires-clause-within
link_after-requires-clause-within g c = grind (arith, common_steps)
