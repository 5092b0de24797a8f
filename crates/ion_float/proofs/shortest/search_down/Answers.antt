use Rattle.std.proofs.Common.{◌+◌, ◌-◌, refl, sym, ◌∙◌, arith}
use Rattle.std.specs.Prelude.{from_bits}
use Rattle.std.specs.Float.{binary64}
use Rattle.std.proofs.lemmas.Bool.{false≢true}
use Rattle.ion_value.specs.Shortest.{reads, near, shortest}
use Rattle.ion_float.proofs.Down.{found, found_above, passed_on, least, few_here, few_passed}
use Rattle.ion_float.proofs.Few.{first_near}
use Rattle.ion_float.proofs.shortest.search_down.Goals as goal
use Rattle.ion_float.proofs.shortest.search_down.Goals.{then-row-eq0-via-then-row-eq0, then-row-eq0-via-else-row-eq0+then-reads_back}

pub loop-row-init : goal.loop-row-init
unfolding shortest
loop-row-init c = record { some = omega arith; within = omega arith; same = refl; few = first_near c.args.bits c.requires.1 }

pub nearest-digits-requires : goal.nearest-digits-requires
nearest-digits-requires c =
    let l = c.loop-row in
    let few = few_here c.args.bits l.row (near (from_bits binary64 c.args.bits) (l.row - 1)) c.requires l.invariant.some refl l.invariant.few in
    omega (arith, few, c.new.ensures)

pub returns-then-row-eq0-clause-exact : goal.returns-then-row-eq0-clause-exact
returns-then-row-eq0-clause-exact c =
    let l = c.loop-row in
    let d = c.nearest-digits.result in
    let same = c.nearest-digits.ensures ∙ c.new.ensures in
    found c.args.bits l.row d c.requires l.invariant.some same l.invariant.same
    (elim c.then-row-eq0.branch [
      | then-row-eq0-via-then-row-eq0 w ↦ least c.args.bits l.row d c.requires l.invariant.some same w.if-row-eq0.true
      | then-row-eq0-via-else-row-eq0+then-reads_back w ↦ w.reads_back.ensures.0 w.if-reads_back.true
    ])

pub returns-then-row-eq0-clause-few : goal.returns-then-row-eq0-clause-few
returns-then-row-eq0-clause-few c =
    let l = c.loop-row in
    omega (arith, few_here c.args.bits l.row c.nearest-digits.result c.requires l.invariant.some (c.nearest-digits.ensures ∙ c.new.ensures) l.invariant.few)

pub overflow_add-digits : goal.overflow_add-digits
overflow_add-digits c =
    let l = c.loop-row in
    let few = few_here c.args.bits l.row c.nearest-digits.result c.requires l.invariant.some (c.nearest-digits.ensures ∙ c.new.ensures) l.invariant.few in
    record { fits = omega (arith, few) }

pub overflow_add-result : goal.overflow_add-result
overflow_add-result c =
    let l = c.loop-row in
    let few = few_here c.args.bits l.row c.nearest-digits.result c.requires l.invariant.some (c.nearest-digits.ensures ∙ c.new.ensures) l.invariant.few in
    record { fits = omega (arith, few) }

pub returns-then-reads_back-2-clause-exact : goal.returns-then-reads_back-2-clause-exact
returns-then-reads_back-2-clause-exact c =
    let l = c.loop-row in
    found_above c.args.bits l.row c.nearest-digits.result c.requires l.invariant.some (c.nearest-digits.ensures ∙ c.new.ensures) l.invariant.same
    (λ h. false≢true (sym c.if-reads_back.false ∙ c.reads_back.ensures.1 h)) (c.reads_back-in-loop-row.ensures.0 c.if-reads_back-2.true)

pub returns-then-reads_back-2-clause-few : goal.returns-then-reads_back-2-clause-few
returns-then-reads_back-2-clause-few c =
    let l = c.loop-row in
    few_here c.args.bits l.row c.nearest-digits.result c.requires l.invariant.some (c.nearest-digits.ensures ∙ c.new.ensures) l.invariant.few

pub loop-row-preserved : goal.loop-row-preserved
loop-row-preserved c =
    let l = c.loop-row in
    let d = c.nearest-digits.result in
    let same = c.nearest-digits.ensures ∙ c.new.ensures in
    let here : ¬ (reads d (l.row - 1) c.args.bits) = λ h. false≢true (sym c.if-reads_back.false ∙ c.reads_back.ensures.1 h) in
    let above : ¬ (reads (d + 1) (l.row - 1) c.args.bits) = λ h. false≢true (sym c.if-reads_back-2.false ∙ c.reads_back-in-loop-row.ensures.1 h) in
    record {
      some = omega arith;
      within = omega arith;
      same = passed_on c.args.bits l.row d c.requires l.invariant.some same l.invariant.same here above;
      few = few_passed c.args.bits l.row d c.requires l.invariant.some same here;
    }
