use Rattle.std.proofs.Common.{◌≡◌, ◌≤◌, ◌==◌, ◌∙◌, ap, sym, Some, true, List, ℕ, ◌++◌, length, take, refl, arith}
use Rattle.ion_meter.specs.Windows.{left, lent}
use Rattle.ion_meter.specs.Sources.{cursor, skip}
use Rattle.ion_meter.proofs.Lent.{lent-take, lent-IsGiven}
use Rattle.ion_value.proofs.Cursors.{cursor-extends}
use Rattle.ion_value.proofs.Passing.{IsPassed-cursor}
use Rattle.ion_text_in.specs.Views.{is_point}
use Rattle.ion_text_in.proofs.Gathered.{answers-same}
use Rattle.ion_text_in.proofs.TypedWords.{name-gathered, point-first, point-given}
use Rattle.ion_text_in.proofs.word.gather_type.Goals as goal

pub returns-clause-gives : goal.returns-clause-gives
returns-clause-gives g c = λ h.
    let s = c.args.source.now in
    let p = c.peek.new.self in
    let t = c.append.new.source in
    let peek = c.in_ok-peek.ensures in
    let added = c.in_ok-append.ensures in
    let is : is_point c.in_ok-peek.field-0 ≡ true = ap is_point c.in-Some-eq46.is ∙ ap (λ (b : ℕ). b == 46) c.in-Some-eq46.field-0-test in
    let given = (point-given c.in_ok-peek.field-0 _ is peek.byte).1 in
    let one : 1 ≤ length (lent p) = omega (arith, lent-IsGiven p 0 peek.well.1 given.0) in
    let there : cursor g.I.Input t ≡ skip 1 (cursor g.I.Input s) = IsPassed-cursor g.I.Input p t 1 one added.appends.passed ∙ ap (skip 1) (cursor-extends g.I.Input s p peek.kept h) in
    let text : c.append.new.text ≡ c.args.text.now ++ take 1 (left g.I.Input.rest s) =
    added.appends.text ∙ ap (λ (l : List ℕ). c.args.text.now ++ l) (sym (lent-take g.I.Input.rest p 1 one) ∙ ap (λ (l : List ℕ). take 1 l) (peek.kept.same_left h)) in
    let point = sym (point-first (left g.I.Input.rest s)) ∙ ap is_point (sym (peek.gives h)) ∙ is in
    answers-same (λ (x : Unit {0}). c.gather.new.text) c.gather.result (cursor g.I.Input c.gather.new.source) c.args.place c.args.place _ _
    (c.gather.ensures.gives (added.reads.moves.still_observable.1 (peek.kept.still_observable.1 h))) refl
    (name-gathered (Some c.args.limits.scalar) c.args.text.now c.append.new.text (cursor g.I.Input s) (cursor g.I.Input t) point text there)
