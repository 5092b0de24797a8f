use Rattle.std.proofs.Common.{◌∙◌, ap, sym, ℕ, List, ◌++◌, ◌*◌, ◌≤◌, length, Some, Ok, Err, arith}
use Rattle.std.proofs.lemmas.Grind.{common_steps}
use Rattle.ion_meter.specs.Counts.{Counts}
use Rattle.ion_meter.specs.declared.device.Input.{Ghosts as InputOf}
use Rattle.ion_meter.specs.declared.profile.Rules.{Rules}
use Rattle.ion_meter.specs.Sources.{Cursor, cursor, skip}
use Rattle.ion_meter.specs.Windows.{Incoming}
use Rattle.ion_meter.proofs.Lent.{lent-take}
use Rattle.ion_value.specs.Calls.{passed_over, Reads, ReadsInto}
use Rattle.ion_value.specs.Shares.{GrowsWithin}
use Rattle.ion_value.proofs.Passing.{IsPassed-cursor, lent-there}
use Rattle.ion_value.proofs.Cursors.{cursor-extends}
use Rattle.ion_text_in.specs.Gathered.{Gathers}
use Rattle.ion_text_in.specs.Runs.{with_run}
use Rattle.ion_text_in.proofs.Gathered.{answers-over, run-done, run-on, run-over-limit}
use Rattle.ion_text_in.proofs.Holding.{handed-on}
use Rattle.ion_text_in.proofs.gather.gather.Goals as goal

pub returns-then-count-eq0-clause-gives : goal.returns-then-count-eq0-clause-gives
returns-then-count-eq0-clause-gives g c = λ h.
    let inv = c.parts.invariant in
    let part = c.in_ok-count.ensures in
    let p = c.next_part.new.source in
    let run = c.args.run in
    let hs = inv.gathers.reads.moves.still_observable.1 h in
    inv.same h
    ∙ ap (λ (d : Cursor). with_run run (Some c.args.limits.scalar) c.parts.text d) (sym (cursor-extends g.I.Input c.parts.source p part.kept hs))
    ∙ run-done run c.args.limits.scalar c.parts.text (cursor g.I.Input p) inv.gathers.reads.charges.share (part.ends hs (ap Ok c.if-count-eq0.true))

pub returns-in_err-append-clause-gives : goal.returns-in_err-append-clause-gives
returns-in_err-append-clause-gives g c = λ h.
    let inv = c.parts.invariant in
    let part = c.in_ok-count.ensures in
    let p = c.next_part.new.source in
    let n = c.in_ok-count.count in
    let run = c.args.run in
    let most = c.args.limits.scalar in
    let hs = inv.gathers.reads.moves.still_observable.1 h in
    rw (handed-on c.from_residual-in_err-append.result c.in_err-append.field-0.0 c.from_residual-in_err-append.ensures) (answers-over {T = Unit {0}} (λ _. c.append.new.text) _ (cursor g.I.Input c.append.new.source) most c.args.place (length c.parts.text) n _ (λ reason at e. c.in_err-append.ensures.over reason at (ap Err e))
    (λ over. inv.same h
    ∙ ap (λ (d : Cursor). with_run run (Some most) c.parts.text d) (sym (cursor-extends g.I.Input c.parts.source p part.kept hs))
    ∙ run-over-limit run most n c.parts.text (cursor g.I.Input p) (lent-there g.I.Input.rest p n part.there) (part.goes hs) over))

-- a part was looked at, and put after the text
part-after : {I N T : Type 0} (device : InputOf I) (limits : Rules) (s t u v : Incoming I) (a b c : Counts) (k l n : List ℕ) (x : N) (y : T) → length k ≤ a.held → Gathers {T = Unit {0}} device limits s t a b k l (Ok tt)
    → Reads device t u (Ok x) → ReadsInto device u v b c (length l) (length n) limits.scalar (Ok y) → GrowsWithin b c (length l) (length n) (8 * passed_over u v) → Gathers {T = Unit {0}} device limits s v a c k n (Ok tt)
part-after device limits s t u v a b c k l n x y holds one looked added grows = record { reads = grind (arith, common_steps); goes = grind (arith, common_steps) }

pub parts-preserved : goal.parts-preserved
parts-preserved g c =
    let device = g.I.Input in
    let inv = c.parts.invariant in
    let part = c.in_ok-count.ensures in
    let added = c.in_ok-append.ensures in
    let s = c.parts.source in
    let p = c.next_part.new.source in
    let t = c.append.new.source in
    let n = c.in_ok-count.count in
    let text : List ℕ = c.parts.text in
    let after : List ℕ = c.append.new.text in
    record {
      gathers = part-after device c.args.limits c.args.source.now s p t c.args.meter.now c.parts.meter c.append.new.meter c.args.text.now text after n _ c.requires.can_append.holds inv.gathers part.reads added.reads added.goes;
      same = λ h.
          let hs = inv.gathers.reads.moves.still_observable.1 h in
          let run = c.args.run in
          let limit = Some c.args.limits.scalar in
          inv.same h
          ∙ ap (λ (d : Cursor). with_run run limit text d) (sym (cursor-extends device s p part.kept hs))
          ∙ run-on run limit text n (cursor device p) (lent-there device.rest p n part.there) (part.goes hs)
          ∙ ap (λ (l : List ℕ). with_run run limit (text ++ l) (skip n (cursor device p))) (lent-take device.rest p n part.there)
          ∙ ap (λ (l : List ℕ). with_run run limit l (skip n (cursor device p))) (sym added.appends.text)
          ∙ ap (λ (d : Cursor). with_run run limit after d) (sym (IsPassed-cursor device p t n part.there added.appends.passed));
    }

pub parts-smaller : goal.parts-smaller
parts-smaller g c = grind (arith, common_steps)
