use Rattle.std.proofs.Common.{ℕ, List, take, sym, ap, ◌∙◌, arith}
use Rattle.std.proofs.lemmas.Grind.{common_steps}
use Rattle.ion_meter.specs.Windows.{left}
use Rattle.ion_meter.specs.Sources.{Cursor}
use Rattle.ion_value.proofs.Cursors.{cursor-extends}
use Rattle.ion_value.specs.Digits.{first_is}
use Rattle.ion_text_in.specs.Places.{after_run}
use Rattle.ion_text_in.specs.Overrun.{stays_in}
use Rattle.ion_text_in.proofs.BlankTurns.{after-none, after-over}
use Rattle.ion_text_in.proofs.Runs.{no-byte, ends-shown}
use Rattle.ion_text_in.proofs.Turns.{turn, turn-then, turn-after, gone-then}
use Rattle.ion_text_in.proofs.blank.pass_run.Goals as goal

pub returns-in_default-clause-after : goal.returns-in_default-clause-after
returns-in_default-clause-after g c = λ h.
    let inv = c.run.invariant in
    let s = c.run.source in
    let test = stays_in c.args.comment in
    let there = inv.gone.moves.still_observable.1 h in
    let none = no-byte (left g.I.Input.rest s) (sym (c.in_ok-peek.ensures.gives there) ∙ c.in_default.is) in
    cursor-extends g.I.Input s c.peek.new.self c.in_ok-peek.ensures.kept there
    ∙ sym (after-none test s.place (left g.I.Input.rest s) (ap (λ (l : List ℕ). first_is test l) none))
    ∙ inv.after h

pub run-preserved : goal.run-preserved
run-preserved g c =
    let inv = c.run.invariant in
    let s = c.run.source in
    let t = c.consume.new.self in
    let peek = c.in_ok-peek.ensures in
    let test = stays_in c.args.comment in
    let after = λ (d : Cursor). after_run (first_is test) d in
    let bytes : List ℕ = c.buffer-bytes.result.now in
    let n = c.run_in-count.result in
    let run = c.run_in-count.ensures in
    let passed = turn g.I.Input s c.peek.new.self t bytes n inv.gone.stands peek.kept peek.well.1 (rw inv.gone.stands.well at peek.count) c.buffer-bytes.ensures run.within c.consume.ensures in
    let over = after-over test s.place (take n bytes) (left g.I.Input.rest t) run.run in
    record {
      gone = gone-then g.I.Input c.args.source.now s t inv.gone passed.gone;
      after = λ h. sym (turn-then g.I.Input s t (take n bytes) after after passed (inv.gone.moves.still_observable.1 h) over) ∙ inv.after h;
    }

pub returns-then-ends-clause-after : goal.returns-then-ends-clause-after
returns-then-ends-clause-after g c = λ h.
    let inv = c.run.invariant in
    let s = c.run.source in
    let p = c.peek.new.self in
    let t = c.consume.new.self in
    let peek = c.in_ok-peek.ensures in
    let test = stays_in c.args.comment in
    let before = λ (d : Cursor). after_run (first_is test) d in
    let bytes : List ℕ = c.buffer-bytes.result.now in
    let n = c.run_in-count.result in
    let run = c.run_in-count.ensures in
    let passed = turn g.I.Input s p t bytes n inv.gone.stands peek.kept peek.well.1 (rw inv.gone.stands.well at peek.count) c.buffer-bytes.ensures run.within c.consume.ensures in
    let over = after-over test s.place (take n bytes) (left g.I.Input.rest t) run.run in
    let after = turn-after g.I.Input p t bytes n c.buffer-bytes.ensures run.within c.consume.ensures in
    let off = ap (λ (l : List ℕ). first_is test l) after.1 ∙ ends-shown test bytes after.0 n c.if-ends.true run.ends in
    sym (after-none test t.place (left g.I.Input.rest t) off)
    ∙ sym (turn-then g.I.Input s t (take n bytes) before before passed (inv.gone.moves.still_observable.1 h) over)
    ∙ inv.after h

pub returns-then-ends-clause-reads : goal.returns-then-ends-clause-reads
returns-then-ends-clause-reads g c = grind (arith, common_steps)

pub consume-requires : goal.consume-requires
consume-requires g c = grind (arith, common_steps)

pub run-smaller : goal.run-smaller
run-smaller g c = grind (arith, common_steps)
