use Rattle.std.proofs.Common.{◌+◌, ◌-◌, ◌/◌, ◌≤◌, length, arith, ◌∙◌}
use Rattle.std.proofs.lemmas.Grind.{common_steps}
use Rattle.ion_symbols.specs.Output.{binary_digits}
use Rattle.ion_symbols.proofs.TextOrder.{answers_less, answers_greater, answers_equal}
use Rattle.ion_symbols.proofs.Halving.{half_digits, few_digits}
use Rattle.ion_symbols.proofs.Probes.{probes_less, probes_greater, probes_equal}
use Rattle.ion_symbols.proofs.search.place_of.Goals as goal

pub compare-requires-clause-countable : goal.compare-requires-clause-countable
compare-requires-clause-countable c =
    let h = c.loop-low.invariant in
    omega (arith, h.probes, h.few, few_digits (length c.args.search.now.texts))

pub loop-low-preserved-in-Less : goal.loop-low-preserved-in-Less
loop-low-preserved-in-Less c =
    let h = c.loop-low.invariant in
    let size = c.loop-low.high - c.loop-low.low in
    let d : 1 + binary_digits (c.loop-low.high - (c.loop-low.low + size / 2 + 1)) ≤ binary_digits size
    = half_digits size (c.loop-low.high - (c.loop-low.low + size / 2 + 1)) (omega (arith, c.loop-low-test.true)) (omega (arith, c.loop-low-test.true)) in
    let e = c.in-Less.ensures in
    record {
      texts = e.texts ∙ h.texts;
      few = h.few;
      below = omega (arith, c.loop-low-test.true);
      within = h.within;
      before = answers_less c.loop-low.search.texts c.args.search.now.texts (c.loop-low.low + size / 2) c.args.text.now h.texts e.ascend (omega (arith, c.loop-low-test.true, h.within)) e.order;
      after = h.after;
      probes = omega (arith, d, h.probes, e.probes);
      exact = omega (arith, probes_less c.loop-low.search.texts c.args.search.now.texts c.loop-low.low c.loop-low.high c.args.text.now h.texts c.loop-low-test.true h.within e.order, h.exact, e.probes);
    }

pub loop-low-preserved : goal.loop-low-preserved
loop-low-preserved c =
    let h = c.loop-low.invariant in
    let size = c.loop-low.high - c.loop-low.low in
    let d : 1 + binary_digits ((c.loop-low.low + size / 2) - c.loop-low.low) ≤ binary_digits size
    = half_digits size ((c.loop-low.low + size / 2) - c.loop-low.low) (omega (arith, c.loop-low-test.true)) (omega (arith, c.loop-low-test.true)) in
    let e = c.in-Greater.ensures in
    record {
      texts = e.texts ∙ h.texts;
      few = h.few;
      below = omega arith;
      within = omega (arith, c.loop-low-test.true, h.within);
      before = h.before;
      after = answers_greater c.loop-low.search.texts c.args.search.now.texts (c.loop-low.low + size / 2) c.args.text.now h.texts e.ascend e.order;
      probes = omega (arith, d, h.probes, e.probes);
      exact = omega (arith, probes_greater c.loop-low.search.texts c.args.search.now.texts c.loop-low.low c.loop-low.high c.args.text.now h.texts c.loop-low-test.true h.within e.order, h.exact, e.probes);
    }

pub returns-in-Equal-clause-found : goal.returns-in-Equal-clause-found
returns-in-Equal-clause-found c = answers_equal c.loop-low.search.texts c.args.search.now.texts _ c.args.text.now c.loop-low.invariant.texts c.in-Equal.ensures.order

pub returns-in-Equal-clause-probes : goal.returns-in-Equal-clause-probes
returns-in-Equal-clause-probes c =
    let h = c.loop-low.invariant in
    let size = c.loop-low.high - c.loop-low.low in
    let d : 1 + binary_digits 0 ≤ binary_digits size = half_digits size 0 (omega (arith, c.loop-low-test.true)) (omega arith) in
    omega (arith, d, h.probes, c.in-Equal.ensures.probes)

pub returns-in-Equal-clause-exact : goal.returns-in-Equal-clause-exact
returns-in-Equal-clause-exact c =
    let h = c.loop-low.invariant in
    omega (arith, probes_equal c.loop-low.search.texts c.args.search.now.texts c.loop-low.low c.loop-low.high c.args.text.now h.texts c.loop-low-test.true h.within c.in-Equal.ensures.order, h.exact, c.in-Equal.ensures.probes)

pub loop-low-init : goal.loop-low-init
loop-low-init c = grind (arith, common_steps)
