use Rattle.std.proofs.Common.{◌≡◌, ◌≤◌, ◌∙◌, ap, sym, ℕ, List, ◌++◌, length, take, Some, arith}
use Rattle.std.proofs.lemmas.Grind.{common_steps}
use Rattle.ion_meter.specs.Windows.{left, lent}
use Rattle.ion_meter.specs.Sources.{Cursor, cursor, skip}
use Rattle.ion_meter.proofs.Lent.{lent-take}
use Rattle.ion_value.proofs.Passing.{lent-there, IsPassed-cursor}
use Rattle.ion_text_in.specs.Runs.{with_run}
use Rattle.ion_text_in.proofs.Gathered.{first-then, answers-same}
use Rattle.ion_text_in.proofs.ShownFurther.{on-ok}
use Rattle.ion_text_in.proofs.gather.gather_token.Goals as goal

pub returns-clause-gives : goal.returns-clause-gives
returns-clause-gives g c = λ h.
    let s = c.args.source.now in
    let t = c.append.new.source in
    let added = c.in_ok-append.ensures in
    let limit = Some c.args.limits.scalar in
    let one = c.requires.there in
    let there : cursor g.I.Input t ≡ skip 1 (cursor g.I.Input s) = IsPassed-cursor g.I.Input s t 1 one added.appends.passed in
    let text : c.append.new.text ≡ take 1 (left g.I.Input.rest s) =
    added.appends.text ∙ (ap (λ (l : List ℕ). l ++ take 1 (lent s)) c.clear.ensures.bytes ∙ sym (lent-take g.I.Input.rest s 1 one)) in
    let some : 1 ≤ length (left g.I.Input.rest s) = lent-there g.I.Input.rest s 1 one in
    let same = ap (λ (l : List ℕ). with_run c.args.run limit l (cursor g.I.Input t)) text
    ∙ (ap (λ (d : Cursor). with_run c.args.run limit (take 1 (left g.I.Input.rest s)) d) there ∙ first-then c.args.run limit (cursor g.I.Input s) some) in
    answers-same (λ (x : Unit {0}). c.gather.new.text) c.gather.result (cursor g.I.Input c.gather.new.source) c.place-place.result s.place _ _
    (c.gather.ensures.gives (added.reads.moves.still_observable.1 h)) c.place-place.ensures same

pub returns-clause-further : goal.returns-clause-further
returns-clause-further g c =
    let passed = c.in_ok-append.ensures.appends.passed.place in
    let further = c.gather.ensures.reads.moves.further in
    on-ok c.gather.result (omega (arith, passed, further))

pub returns-in_err-append-clause-gives : goal.returns-in_err-append-clause-gives
returns-in_err-append-clause-gives g c = grind (arith, common_steps)
