use Rattle.std.proofs.Common.{ℕ, length, ap, ◌∙◌, arith}
use Rattle.std.proofs.lemmas.Grind.{common_steps}
use Rattle.std.specs.List.{insert}
use Rattle.ion_symbols.specs.OutTexts.{texts_of}
use Rattle.ion_symbols.proofs.LinkedTexts.{added_texts, can_link_put, charges_add, is_added, place_after, place_small}
use Rattle.ion_symbols.proofs.out_texts.OutTexts.add.Goals as goal

pub overflow_cast-stands : goal.overflow_cast-stands
overflow_cast-stands g c = let s = place_small c.args.self.now c.as_slice-from.result.now c.args.text.now c.requires.kept c.as_slice-from.ensures c.requires.small in omega (arith, s)

pub overflow_cast-stands-2 : goal.overflow_cast-stands-2
overflow_cast-stands-2 g c = let s = place_small c.args.self.now c.as_slice-from.result.now c.args.text.now c.requires.kept c.as_slice-from.ensures c.requires.small in omega (arith, s)

pub link_last-requires : goal.link_last-requires
link_last-requires g c =
    can_link_put c.args.self.now (record c.args.self.now { bytes = c.extend.new.self; places = c.push_and_insert.new.self; ids = c.push_and_insert.new.others }) c.args.text.now c.args.spot
    (place_after c.as_slice-from.result.now c.args.text.now) (length c.as_slice-number.result.now) c.requires.kept c.requires.new c.requires.spot
    (is_added c.args.self.now c.as_slice-from.result.now c.extend.new.self c.args.text.now c.push_and_insert.new.self c.push_and_insert.new.others c.as_slice-from.ensures c.in_ok-extend.ensures.ok
    c.in_default.ensures.added c.push_and_insert.ensures.same_cost c.push_and_insert.ensures.same_other_cost)
    c.requires.small (ap length c.as_slice-number.ensures) (c.in_default.ensures.inserted ∙ ap (λ (e : ℕ × ℕ). insert c.args.self.now.ids.items e.0 e.1) c.entry-at.ensures)

pub returns-clause-added : goal.returns-clause-added
returns-clause-added g c =
    c.link_last.ensures.texts
    ∙ added_texts c.args.self.now (record c.args.self.now { bytes = c.extend.new.self; places = c.push_and_insert.new.self; ids = c.push_and_insert.new.others }) c.args.text.now
    (place_after c.as_slice-from.result.now c.args.text.now) c.requires.kept
    (is_added c.args.self.now c.as_slice-from.result.now c.extend.new.self c.args.text.now c.push_and_insert.new.self c.push_and_insert.new.others c.as_slice-from.ensures c.in_ok-extend.ensures.ok
    c.in_default.ensures.added c.push_and_insert.ensures.same_cost c.push_and_insert.ensures.same_other_cost)

pub returns-clause-charges : goal.returns-clause-charges
returns-clause-charges g c =
    charges_add c.args.meter.now c.extend.new.meter c.push_and_insert.new.meter (texts_of c.args.self.now) (texts_of c.link_last.new.self) c.args.text.now c.args.self.now.places.cost c.args.self.now.ids.cost
    c.in_ok-extend.ensures.cost c.in_default.ensures.cost c.requires.kept.place_cost c.requires.kept.id_cost c.requires.can_add.held
    (c.link_last.ensures.texts
    ∙ added_texts c.args.self.now (record c.args.self.now { bytes = c.extend.new.self; places = c.push_and_insert.new.self; ids = c.push_and_insert.new.others }) c.args.text.now
    (place_after c.as_slice-from.result.now c.args.text.now) c.requires.kept
    (is_added c.args.self.now c.as_slice-from.result.now c.extend.new.self c.args.text.now c.push_and_insert.new.self c.push_and_insert.new.others c.as_slice-from.ensures c.in_ok-extend.ensures.ok
    c.in_default.ensures.added c.push_and_insert.ensures.same_cost c.push_and_insert.ensures.same_other_cost))

pub returns-in-Err-clause-charges : goal.returns-in-Err-clause-charges
returns-in-Err-clause-charges g c = grind (arith, common_steps)

pub push_and_insert-requires-clause-within : goal.push_and_insert-requires-clause-within
push_and_insert-requires-clause-within g c = grind (arith, common_steps)

pub returns-in-Err-clause-kept : goal.returns-in-Err-clause-kept
returns-in-Err-clause-kept g c = grind (arith, common_steps)

pub truncate-requires : goal.truncate-requires
truncate-requires g c = grind (arith, common_steps)

pub returns-in-Err-clause-memory : goal.returns-in-Err-clause-memory
returns-in-Err-clause-memory g c = grind (arith, common_steps)

pub overflow_cast-number : goal.overflow_cast-number
overflow_cast-number g c = grind (arith, common_steps)

pub returns-clause-grows : goal.returns-clause-grows
returns-clause-grows g c = grind (arith, common_steps)

pub returns-in-Err-clause-order : goal.returns-in-Err-clause-order
returns-in-Err-clause-order g c = grind (arith, common_steps)

pub returns-clause-kept : goal.returns-clause-kept
returns-clause-kept g c = grind (arith, common_steps)

pub returns-clause-order : goal.returns-clause-order
returns-clause-order g c = grind (arith, common_steps)
