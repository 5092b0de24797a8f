use Rattle.std.proofs.Common.{◌≡◌, ◌∙◌, ◌≤◌, ap, sym, subst, List, ℕ, length, slice_get, arith}
use Rattle.ion_meter.specs.Windows.{left, lent}
use Rattle.ion_meter.proofs.Lent.{lent-IsGiven}
use Rattle.ion_text_in.specs.Runs.{goes_on, opens_comment, GoOn, EndAfter}
use Rattle.ion_text_in.proofs.Shown.{lent-left}
use Rattle.ion_text_in.proofs.RunEnds.{run-empty, go-left, end-left, slash-left, slash-ends, slash-stays}
use Rattle.ion_text_in.proofs.gather.next_part.Goals.{then-extent-via-then-extent, then-extent-via-else-extent+then-extent-gt0}
use Rattle.ion_text_in.proofs.gather.next_part.Goals as goal

pub returns-in_default-clause-ends : goal.returns-in_default-clause-ends
returns-in_default-clause-ends g c = λ h e.
    let peek = rw c.in_default.is at c.in_ok-peek.ensures in
    let rest : List ℕ = left g.I.Input.rest c.peek.new.self in
    run-empty (goes_on c.args.run) rest (peek.gives h ∙ ap (λ (l : List ℕ). slice_get l 0) (sym (peek.kept.same_left h)))

pub returns-then-extent-clause-goes : goal.returns-then-extent-clause-goes
returns-then-extent-clause-goes g c = λ h.
    let p = c.peek.new.self in
    let n = c.run_extent-extent.result.len in
    let test = goes_on c.args.run in
    let goes : GoOn test (lent p) n = subst (λ (l : List ℕ). GoOn test l n) c.buffer.ensures c.run_extent-extent.ensures.goes in
    let within : n ≤ length (lent p) = subst (λ (l : List ℕ). n ≤ length l) c.buffer.ensures c.run_extent-extent.ensures.within in
    go-left test (lent p) _ (left g.I.Input.rest p) n within (lent-left g.I.Input.rest p) goes

pub returns-then-extent-clause-ends : goal.returns-then-extent-clause-ends
returns-then-extent-clause-ends g c = λ h e.
    let p = c.peek.new.self in
    let n = c.run_extent-extent.result.len in
    let test = goes_on c.args.run in
    let none : n ≡ 0 = cc e in
    elim c.then-extent.branch [
      | then-extent-via-then-extent w ↦
          let ends : EndAfter test (lent p) n = subst (λ (l : List ℕ). EndAfter test l n) c.buffer.ensures (c.run_extent-extent.ensures.ends w.if-extent.true) in
          end-left test (lent p) _ (left g.I.Input.rest p) n none (lent-left g.I.Input.rest p) ends
      | then-extent-via-else-extent+then-extent-gt0 w ↦ let some = w.if-extent-gt0.true in absurd (omega (arith, some, none))
    ]

pub returns-then-opens_comment-clause-ends : goal.returns-then-opens_comment-clause-ends
returns-then-opens_comment-clause-ends g c = λ h e.
    let p = c.peek.new.self in
    let peek = rw c.in-Some.is at c.in_ok-peek.ensures in
    let next = c.in_ok-peek-2.ensures in
    let there = peek.kept.still_observable.1 h in
    let some = lent-IsGiven p 0 peek.well.1 peek.byte.0 in
    let slash = slash-left c.args.run (lent p) c.run_extent-extent.result.len (omega (arith, c.if-extent-gt0.false)) (omega (arith, some)) (rw c.buffer.ensures at (c.run_extent-extent.ensures.unsure c.if-extent.false)) in
    rw (next.kept.same_left there) (slash-ends c.args.run (lent p) _ (left g.I.Input.rest p) slash.0 slash.1 (lent-left g.I.Input.rest p) (ap opens_comment (sym (next.gives there)) ∙ (sym c.opens_comment.ensures ∙ c.if-opens_comment.true)))

pub returns-clause-goes : goal.returns-clause-goes
returns-clause-goes g c = λ h.
    let p = c.peek.new.self in
    let peek = rw c.in-Some.is at c.in_ok-peek.ensures in
    let next = c.in_ok-peek-2.ensures in
    let there = peek.kept.still_observable.1 h in
    let some = lent-IsGiven p 0 peek.well.1 peek.byte.0 in
    let slash = slash-left c.args.run (lent p) c.run_extent-extent.result.len (omega (arith, c.if-extent-gt0.false)) (omega (arith, some)) (rw c.buffer.ensures at (c.run_extent-extent.ensures.unsure c.if-extent.false)) in
    rw (next.kept.same_left there) (slash-stays c.args.run (lent p) _ (left g.I.Input.rest p) slash.0 slash.1 (lent-left g.I.Input.rest p) (ap opens_comment (sym (next.gives there)) ∙ (sym c.opens_comment.ensures ∙ c.if-opens_comment.false)))
