use Rattle.std.proofs.lemmas.Grind.{common_steps}
use Rattle.std.proofs.Common.{◌+◌, ◌-◌, ◌/◌, ◌<◌, ◌≡◌, length, arith}
use Rattle.std.proofs.lemmas.List.{length-drop, length-map}
use Rattle.ion_symbols.specs.Ranks.{key_of}
use Rattle.ion_symbols.proofs.Ranking.{ranked_less, ranked_greater, ranked_equal, place_in}
use Rattle.ion_symbols.proofs.ranks.rank_of.Goals as goal

pub loop-low-preserved-in-Less : goal.loop-low-preserved-in-Less
loop-low-preserved-in-Less g c =
    let h = c.loop-low.invariant in
    let middle = c.loop-low.low + (c.loop-low.high - c.loop-low.low) / 2 in
    let l : middle < length c.args.order.now = omega (arith, c.loop-low-test.true, h.within) in
    record {
      below = omega (arith, c.loop-low-test.true);
      within = h.within;
      before = ranked_less c.args.tables.now c.args.order.now (key_of c.args.name.now c.args.version) middle c.index-tables-order.result c.requires l c.index-tables-order.is c.in-Less.ensures;
      after = h.after;
    }

pub loop-low-preserved : goal.loop-low-preserved
loop-low-preserved g c =
    let h = c.loop-low.invariant in
    let middle = c.loop-low.low + (c.loop-low.high - c.loop-low.low) / 2 in
    let l : middle < length c.args.order.now = omega (arith, c.loop-low-test.true, h.within) in
    record {
      below = omega arith;
      within = omega (arith, c.loop-low-test.true, h.within);
      before = h.before;
      after = ranked_greater c.args.tables.now c.args.order.now (key_of c.args.name.now c.args.version) middle c.index-tables-order.result c.requires l c.index-tables-order.is c.in-Greater.ensures;
    }

pub returns-in-Equal-clause-found : goal.returns-in-Equal-clause-found
returns-in-Equal-clause-found g c =
    let middle = c.loop-low.low + (c.loop-low.high - c.loop-low.low) / 2 in
    let l : middle < length c.args.order.now = omega (arith, c.loop-low-test.true, c.loop-low.invariant.within) in
    ranked_equal c.args.tables.now c.args.order.now (key_of c.args.name.now c.args.version) middle c.index-tables-order.result c.requires l c.index-tables-order.is c.in-Equal.ensures

pub returns-clause-belongs : goal.returns-clause-belongs
returns-clause-belongs g c =
    let h = c.loop-low.invariant in
    let same : c.loop-low.high ≡ c.loop-low.low = omega (arith, c.loop-low-test.false, h.below) in
    record {
      within = simp length-map (omega (arith, h.below, h.within));
      before = h.before;
      after = rw (← same) h.after;
    }

pub loop-low-init : goal.loop-low-init
loop-low-init g c = record {
  below = omega arith;
  within = omega arith;
  before = λ k d l. absurd (omega (arith, l));
  after = λ k d l. let m = simp (length-drop, length-map) at l in absurd (omega (arith, m));
}

pub bounds-tables-order : goal.bounds-tables-order
bounds-tables-order g c =
    let middle = c.loop-low.low + (c.loop-low.high - c.loop-low.low) / 2 in
    let l : middle < length c.args.order.now = omega (arith, c.loop-low-test.true, c.loop-low.invariant.within) in
    place_in c.args.tables.now c.args.order.now middle c.requires l

pub offset_bounds-tables-order : goal.offset_bounds-tables-order
offset_bounds-tables-order g c =
    let middle = c.loop-low.low + (c.loop-low.high - c.loop-low.low) / 2 in
    let l : middle < length c.args.order.now = omega (arith, c.loop-low-test.true, c.loop-low.invariant.within) in
    let p = place_in c.args.tables.now c.args.order.now middle c.requires l in
    omega (arith, p)

pub overflow_add-low : goal.overflow_add-low
overflow_add-low g c = grind (arith, common_steps)
