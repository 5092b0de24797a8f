use Rattle.std.proofs.Common.{arith, ◌≡◌, ◌∙◌, ℕ, ap, false, length, sym}
use Rattle.std.proofs.lemmas.List.{length-append, length-replicate}
use Rattle.std.specs.Prelude.{is_err}
use Rattle.ion_tool.proofs.MarksOf.{first-zero, on_ok}
use Rattle.ion_tool.proofs.marks.LineMarks.new.Goals as goal

pub loop-preserved : goal.loop-preserved
loop-preserved c =
    let i = c.loop.invariant in
    let fine : is_err c.extend.result ≡ false = sym c.is_err.ensures.value ∙ c.if-is_err.false in
    let items = on_ok c.extend.result fine c.extend.ensures.ok in
    let grows = on_ok c.extend.result fine c.extend.ensures.cost in
    let held = rw i.cost at grows.held in
    record {
      cost = c.extend.ensures.same_cost ∙ i.cost;
      entries = omega (arith, ap length items, length-append {A = ℕ}, length-replicate {A = ℕ}, i.entries);
      first = rw items (first-zero c.loop.begins.items 512 i.first);
      held = omega (arith, held, i.held);
      rises = omega (arith, held, grows.peak, i.rises);
      peak = omega (arith, held, grows.peak, i.peak, i.held, c.loop-test.true);
      refused = grows.refused ∙ i.refused;
    }
