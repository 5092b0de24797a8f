use Rattle.std.proofs.Common.{◌<◌, ◌≤◌, length, sym, subst, arith}
use Rattle.std.proofs.lemmas.Grind.{common_steps}
use Rattle.ion_symbols.specs.OutTexts.{firsts, texts_of}
use Rattle.ion_symbols.proofs.Placing.{first_there, link_first, link_second}
use Rattle.ion_symbols.proofs.Seeking.{texts_length}
use Rattle.ion_symbols.proofs.out_texts.OutTexts.link.Goals as goal

pub returns-then-digits-eq0-clause-link : goal.returns-then-digits-eq0-clause-link
returns-then-digits-eq0-clause-link g c =
    let l : c.args.number < length c.args.self.now.places.items = omega (arith, texts_length c.args.self.now, c.requires.within) in
    link_first c.args.self.now.places.items c.as_slice.result.now c.args.self.now.ids.items c.args.number c.args.digits (record { from = 0; to = 0; next = 0 }) c.as_slice.ensures l c.if-digits-eq0.true

pub returns-then-digits-eq0-clause-within : goal.returns-then-digits-eq0-clause-within
returns-then-digits-eq0-clause-within g c =
    let l : c.args.number < length c.args.self.now.places.items = omega (arith, texts_length c.args.self.now, c.requires.within) in
    subst (λ n. n ≤ length (texts_of c.args.self.now)) (sym (first_there c.args.self.now.places.items c.as_slice.result.now c.args.number (record { from = 0; to = 0; next = 0 }) c.as_slice.ensures l))
    ((c.requires.kept.links c.requires.linked).first_within c.args.number)

pub returns-else-digits-eq0-clause-link : goal.returns-else-digits-eq0-clause-link
returns-else-digits-eq0-clause-link g c =
    link_second (firsts c.args.self.now.places.items) c.args.self.now.ids.items c.as_slice-2.result.now c.args.number c.args.digits c.as_slice-2.ensures (omega (arith, c.if-digits-eq0.false))

pub bounds-as_slice-number : goal.bounds-as_slice-number
bounds-as_slice-number g c = grind (arith, common_steps)

pub bounds-as_slice-number-2 : goal.bounds-as_slice-number-2
bounds-as_slice-number-2 g c = grind (arith, common_steps)

pub returns-else-digits-eq0-clause-within : goal.returns-else-digits-eq0-clause-within
returns-else-digits-eq0-clause-within g c = grind (arith, common_steps)
