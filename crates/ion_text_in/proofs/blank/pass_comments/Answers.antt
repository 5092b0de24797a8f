use Rattle.std.proofs.Common.{◌≡◌, ℕ, ◌+◌, ◌≤◌, List, [], length, drop, refl, Option, None, Some, IfSome, Ok, slice_get, false, sym, ap, ◌∙◌, arith}
use Rattle.std.proofs.lemmas.Grind.{common_steps}
use Rattle.ion_meter.specs.Windows.{Incoming, left, lent, IsGiven}
use Rattle.ion_meter.specs.Sources.{Cursor, cursor}
use Rattle.ion_meter.proofs.Extending.{extends-then}
use Rattle.ion_meter.proofs.Lent.{lent-IsGiven}
use Rattle.ion_value.proofs.Cursors.{cursor-extends}
use Rattle.ion_value.proofs.Passing.{Passed-lent}
use Rattle.ion_value.specs.Digits.{first_is}
use Rattle.ion_text_in.specs.Meaning.{at}
use Rattle.ion_text_in.specs.declared.blank.Comment.{Comment}
use Rattle.ion_text_in.specs.Overrun.{begun, overrun, stays_in, within}
use Rattle.ion_text_in.specs.Places.{after_run}
use Rattle.ion_text_in.proofs.BlankTurns.{after-ends, ends-before, turned-off, turned-on, within-after, within-end}
use Rattle.ion_text_in.proofs.Runs.{first-off, no-byte}
use Rattle.ion_text_in.proofs.Turns.{given-kept, gone-then, reads-gone, gone-more, gone-reads}
use Rattle.ion_text_in.proofs.blank.pass_comments.Goals as goal

pub returns-in_default-clause-gives : goal.returns-in_default-clause-gives
returns-in_default-clause-gives g c = λ h.
    let s = c.blanks.source in
    let w = c.pass_run.new.source in
    let there = c.blanks.invariant.gone.moves.still_observable.1 h in
    let at_run = c.in_ok-pass_run.ensures.reads.moves.still_observable.1 there in
    let none = no-byte (left g.I.Input.rest w) (sym (c.in_ok-first.ensures.gives at_run) ∙ c.in_default.is) in
    let after = c.in_ok-pass_run.ensures.after there in
    c.blanks.invariant.after h
    ∙ within-after c.blanks.comment c.blanks.start s.place (left g.I.Input.rest s)
    ∙ ap (λ (d : Cursor). within c.blanks.comment c.blanks.start d) (sym after ∙ ap (λ (l : List ℕ). at w.place l) none)
    ∙ within-end c.blanks.comment c.blanks.start w.place
    ∙ ap (λ (o : Option ℕ). overrun o (at w.place [])) (sym c.cut_at.ensures)
    ∙ ap (λ (d : Cursor). overrun c.cut_at.result d) (ap (λ (l : List ℕ). at w.place l) (sym none) ∙ sym (cursor-extends g.I.Input w c.peek.new.self c.in_ok-first.ensures.kept at_run))

if-some : (o : Option ℕ) (P : Type 0) → P → IfSome o (λ _. P)
if-some None P h = tt
if-some (Some p) P h = h

pub returns-in_default-clause-used_up : goal.returns-in_default-clause-used_up
returns-in_default-clause-used_up g c = λ h.
    let w = c.pass_run.new.source in
    let at_run = c.in_ok-pass_run.ensures.reads.moves.still_observable.1 (c.blanks.invariant.gone.moves.still_observable.1 h) in
    if-some c.cut_at.result _ (c.in_ok-first.ensures.kept.same_left at_run ∙ no-byte (left g.I.Input.rest w) (sym (c.in_ok-first.ensures.gives at_run) ∙ c.in_default.is))

-- what is read on is read on after a run, which no byte goes on with
run-passed : (c : Comment) (start : ℕ) (s w : Cursor) → w ≡ after_run (first_is (stays_in c)) s → (within c start s ≡ within c start w) × (first_is (stays_in c) w.rest ≡ false)
run-passed c start s w e = (
  within-after c start s.place s.rest ∙ ap (λ (d : Cursor). within c start d) (sym e),
  ap (λ (d : Cursor). first_is (stays_in c) d.rest) e ∙ after-ends (stays_in c) s.place s.rest,
)

pub returns-then-ends_blanks-clause-gives : goal.returns-then-ends_blanks-clause-gives
returns-then-ends_blanks-clause-gives g c = λ h.
    let device = g.I.Input in
    let w = c.pass_run.new.source in
    let there = c.blanks.invariant.gone.moves.still_observable.1 h in
    let at_run = c.in_ok-pass_run.ensures.reads.moves.still_observable.1 there in
    let run = run-passed c.blanks.comment c.blanks.start (cursor device c.blanks.source) (cursor device w) (c.in_ok-pass_run.ensures.after there) in
    c.blanks.invariant.after h
    ∙ run.0
    ∙ ends-before c.blanks.comment c.blanks.start w.place c.in-Some.first (left device.rest w) run.1 (sym c.ends_blanks.ensures ∙ c.if-ends_blanks.true) (sym (c.in_ok-first.ensures.gives at_run) ∙ c.in-Some.is)
    ∙ ap (λ (d : Cursor). Ok d) (sym (cursor-extends device w c.peek.new.self c.in_ok-first.ensures.kept at_run))

pub returns-in_default-turn-clause-gives : goal.returns-in_default-turn-clause-gives
returns-in_default-turn-clause-gives g c = λ h.
    let device = g.I.Input in
    let w = c.pass_run.new.source in
    let p = c.peek.new.self in
    let q = c.peek-in-blanks.new.self in
    let comment = c.blanks.comment in
    let kept = c.in_ok-first.ensures.kept in
    let there = c.blanks.invariant.gone.moves.still_observable.1 h in
    let at_run = c.in_ok-pass_run.ensures.reads.moves.still_observable.1 there in
    let run = run-passed comment c.blanks.start (cursor device c.blanks.source) (cursor device w) (c.in_ok-pass_run.ensures.after there) in
    let first = sym (c.in_ok-first.ensures.gives at_run) ∙ c.in-Some.is in
    let second = ap (λ (l : List ℕ). slice_get l 1) (sym (kept.same_left at_run)) ∙ sym (c.in_ok-peek.ensures.gives (kept.still_observable.1 at_run)) in
    let off = first-off (stays_in comment) (left device.rest w) c.in-Some.first first run.1 in
    c.blanks.invariant.after h
    ∙ run.0
    ∙ turned-off comment c.in-Some.first c.in_ok-peek.field-0 off (sym c.ends_blanks.ensures ∙ c.if-ends_blanks.false) (sym c.turn.ensures.is ∙ c.in_default-turn.is) c.blanks.start w.place (left device.rest w) first second
    ∙ ap (λ (d : Cursor). Ok d) (sym (cursor-extends device w q (extends-then device w p q kept c.in_ok-peek.ensures.kept) at_run))

taken : {I : Type 0} (q : Incoming I) (second : Option ℕ) (count : ℕ) → q.fault ≡ None → IsGiven q 0 → IfSome second (λ b. IsGiven q 1 × (slice_get q.buffered 1 ≡ Some b)) → count ≤ 2 → (second ≡ None → count ≡ 1)
    → count ≤ length (lent q)
taken q None count well one two most few = let there = lent-IsGiven q 0 well one in let is = few refl in omega (arith, there, is)
taken q (Some b) count well one two most few = let there = lent-IsGiven q 1 well two.0 in omega (arith, there, most)

pub blanks-preserved : goal.blanks-preserved
blanks-preserved g c =
    let device = g.I.Input in
    let s0 = c.args.source.now in
    let s = c.blanks.source in
    let w = c.pass_run.new.source in
    let p = c.peek.new.self in
    let q = c.peek-in-blanks.new.self in
    let u = c.consume.new.self in
    let comment = c.blanks.comment in
    let next = c.in-Some-turn.next in
    let count = c.in-Some-turn.count in
    let reads = c.in_ok-pass_run.ensures.reads in
    let one = c.in_ok-first.ensures in
    let two = c.in_ok-peek.ensures in
    let few = c.in-Some-turn.ensures.few in
    let kept = extends-then device w p q one.kept two.kept in
    let fits = taken q c.in_ok-peek.field-0 count two.well.1 (given-kept device p q 0 two.kept (rw c.in-Some.is at one.byte).0) two.byte few.1 few.2 in
    let over = Passed-lent device w q u count reads.stands kept two.well.1 fits c.consume.ensures in
    let before = rw reads.stands.well at one.count in
    let later = rw one.well.1 at two.count in
    let still : device.failure_count q.device ≡ device.failure_count w.device = omega (arith, before, later) in
    record {
      gone = gone-then device s0 w u (gone-then device s0 s w c.blanks.invariant.gone (reads-gone device s w c.in_ok-pass_run.field-0 reads))
          (record { stands = over.stands; moves = over.moves; steady = ap device.failure_count c.consume.ensures.device ∙ still });
      after = λ h.
          let there = c.blanks.invariant.gone.moves.still_observable.1 h in
          let at_run = reads.moves.still_observable.1 there in
          let run = run-passed comment c.blanks.start (cursor device s) (cursor device w) (c.in_ok-pass_run.ensures.after there) in
          let first = sym (one.gives at_run) ∙ c.in-Some.is in
          let second = ap (λ (l : List ℕ). slice_get l 1) (sym (one.kept.same_left at_run)) ∙ sym (two.gives (one.kept.still_observable.1 at_run)) in
          let off = first-off (stays_in comment) (left device.rest w) c.in-Some.first first run.1 in
          c.blanks.invariant.after h
          ∙ run.0
          ∙ turned-on comment c.in-Some.first c.in_ok-peek.field-0 (next, count) off (sym c.ends_blanks.ensures ∙ c.if-ends_blanks.false) (sym c.turn.ensures.is ∙ c.in-Some-turn.is) c.blanks.start w.place (left device.rest w) first second
          ∙ ap (λ (n : ℕ). within next n (at (w.place + count) (drop count (left device.rest w)))) (sym (c.begun-start.ensures ∙ ap (begun comment c.blanks.start) (c.place.ensures ∙ kept.place)))
          ∙ ap (λ (n : ℕ). within next c.begun-start.result (at n (drop count (left device.rest w)))) (sym over.place)
          ∙ ap (λ (l : List ℕ). within next c.begun-start.result (at u.place l)) (sym (over.after at_run));
    }

pub consume-requires : goal.consume-requires
consume-requires g c = grind (arith, common_steps)

pub returns-then-ends_blanks-clause-reads : goal.returns-then-ends_blanks-clause-reads
returns-then-ends_blanks-clause-reads g c =
    let device = g.I.Input in
    let s = c.args.source.now in
    let b = c.blanks.source in
    let r = c.pass_run.new.source in
    let p = c.peek.new.self in
    let first = c.in_ok-first.ensures in
    let run = gone-then device s b r c.blanks.invariant.gone (reads-gone device b r c.in_ok-pass_run.field-0 c.in_ok-pass_run.ensures.reads) in
    let seen = gone-then device s r p run (gone-more device r p run.stands first.kept first.well.1 (rw run.stands.well at first.count)) in
    gone-reads device s p seen

pub returns-in_default-clause-reads : goal.returns-in_default-clause-reads
returns-in_default-clause-reads g c =
    let device = g.I.Input in
    let s = c.args.source.now in
    let b = c.blanks.source in
    let r = c.pass_run.new.source in
    let p = c.peek.new.self in
    let first = c.in_ok-first.ensures in
    let run = gone-then device s b r c.blanks.invariant.gone (reads-gone device b r c.in_ok-pass_run.field-0 c.in_ok-pass_run.ensures.reads) in
    let seen = gone-then device s r p run (gone-more device r p run.stands first.kept first.well.1 (rw run.stands.well at first.count)) in
    gone-reads device s p seen

pub returns-in_default-turn-clause-reads : goal.returns-in_default-turn-clause-reads
returns-in_default-turn-clause-reads g c =
    let device = g.I.Input in
    let s = c.args.source.now in
    let b = c.blanks.source in
    let r = c.pass_run.new.source in
    let p = c.peek.new.self in
    let first = c.in_ok-first.ensures in
    let run = gone-then device s b r c.blanks.invariant.gone (reads-gone device b r c.in_ok-pass_run.field-0 c.in_ok-pass_run.ensures.reads) in
    let seen = gone-then device s r p run (gone-more device r p run.stands first.kept first.well.1 (rw run.stands.well at first.count)) in
    let q = c.peek-in-blanks.new.self in
    let next = c.in_ok-peek.ensures in
    gone-reads device s q (gone-then device s p q seen (gone-more device p q seen.stands next.kept next.well.1 (rw seen.stands.well at next.count)))
