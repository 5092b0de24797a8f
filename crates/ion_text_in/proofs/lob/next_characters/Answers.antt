use Rattle.std.proofs.Common.{◌≡◌, ℕ, ◌+◌, ◌-◌, ◌++◌, List, take, drop, slice_set, sym, ap, ◌∙◌, arith}
use Rattle.std.proofs.lemmas.Grind.{common_steps}
use Rattle.std.proofs.lemmas.List.{length-set}
use Rattle.ion_meter.specs.Windows.{left}
use Rattle.ion_meter.specs.Sources.{Cursor, cursor}
use Rattle.ion_value.specs.Digits.{first_is}
use Rattle.ion_text_in.specs.Blanks.{is_white}
use Rattle.ion_text_in.specs.Lob.{group_of}
use Rattle.ion_text_in.proofs.BlankTurns.{white-ends}
use Rattle.ion_text_in.proofs.LobTurns.{group-ends, group-closes, group-more, characters-end, characters-on, characters-all}
use Rattle.ion_text_in.proofs.Turns.{gone-then, reads-gone, gone-passed, passed-cursor}
use Rattle.ion_text_in.proofs.lob.next_characters.Goals as goal

pub returns-in_default-clause-gives : goal.returns-in_default-clause-gives
returns-in_default-clause-gives g c = λ h.
    let inv = c.loop-i.invariant in
    let s = c.loop-i.source in
    let w = c.pass_white.new.source in
    let there = inv.gone.moves.still_observable.1 h in
    let after = c.in_ok-pass_white.ensures.after there in
    let white = c.in_ok-pass_white.ensures.reads.moves.still_observable.1 there in
    let found = sym (c.in_ok-byte.ensures.gives white) ∙ c.in_default.is in
    inv.group h
    ∙ characters-end c.loop-i.i c.loop-i.group (cursor g.I.Input s) (cursor g.I.Input w) c.loop-i-test.true after (group-ends (3 - c.loop-i.i) (left g.I.Input.rest w) found)
    ∙ ap (λ (l : List ℕ). (take c.loop-i.i c.loop-i.group, l)) (sym (c.in_ok-byte.ensures.kept.same_left white))

pub returns-then-byte-eq125-clause-gives : goal.returns-then-byte-eq125-clause-gives
returns-then-byte-eq125-clause-gives g c = λ h.
    let inv = c.loop-i.invariant in
    let s = c.loop-i.source in
    let w = c.pass_white.new.source in
    let there = inv.gone.moves.still_observable.1 h in
    let after = c.in_ok-pass_white.ensures.after there in
    let white = c.in_ok-pass_white.ensures.reads.moves.still_observable.1 there in
    let dark = ap (λ (d : Cursor). first_is is_white d.rest) after ∙ white-ends s.place (left g.I.Input.rest s) in
    let found = sym (c.in_ok-byte.ensures.gives white) ∙ c.in-Some.is in
    inv.group h
    ∙ characters-end c.loop-i.i c.loop-i.group (cursor g.I.Input s) (cursor g.I.Input w) c.loop-i-test.true after
    (group-closes (3 - c.loop-i.i) c.in-Some.byte (left g.I.Input.rest w) dark found c.if-byte-eq125.true)
    ∙ ap (λ (l : List ℕ). (take c.loop-i.i c.loop-i.group, l)) (sym (c.in_ok-byte.ensures.kept.same_left white))

pub loop-i-preserved : goal.loop-i-preserved
loop-i-preserved g c =
    let inv = c.loop-i.invariant in
    let s = c.loop-i.source in
    let w = c.pass_white.new.source in
    let t = c.advance.new.self in
    let peek = c.in_ok-byte.ensures in
    let given = (rw c.in-Some.is at peek.byte).0 in
    let white = reads-gone g.I.Input s w c.in_ok-pass_white.field-0 c.in_ok-pass_white.ensures.reads in
    let one = gone-passed g.I.Input w c.peek.new.self t 0 white.stands peek.kept peek.well.1 (rw white.stands.well at peek.count) given c.advance.ensures in
    let onward = white.moves.further in
    record {
      gone = gone-then g.I.Input c.args.source.now s t inv.gone (gone-then g.I.Input s w t white one.0);
      taken = let place = one.1 in omega (arith, inv.taken, onward, place);
      four = length-set c.loop-i.group c.loop-i.i c.in-Some.byte ∙ inv.four;
      group = λ h.
          let there = inv.gone.moves.still_observable.1 h in
          let after = c.in_ok-pass_white.ensures.after there in
          let at_white = white.moves.still_observable.1 there in
          let dark = ap (λ (d : Cursor). first_is is_white d.rest) after ∙ white-ends s.place (left g.I.Input.rest s) in
          let found = sym (peek.gives at_white) ∙ c.in-Some.is in
          let passed = passed-cursor g.I.Input w c.peek.new.self t 0 white.stands peek.kept peek.well.1 given c.advance.ensures at_white in
          let rest : drop 1 (left g.I.Input.rest w) ≡ left g.I.Input.rest t = sym (ap (λ (d : Cursor). d.rest) passed) in
          let now : List ℕ = slice_set c.loop-i.group c.loop-i.i c.in-Some.byte in
          inv.group h
          ∙ characters-on c.loop-i.i c.in-Some.byte c.loop-i.group (cursor g.I.Input s) (cursor g.I.Input w) c.loop-i-test.true inv.four after
          (group-more (3 - c.loop-i.i) c.in-Some.byte (left g.I.Input.rest w) dark found c.if-byte-eq125.false)
          ∙ ap (λ (l : List ℕ). (take (c.loop-i.i + 1) now ++ (group_of (4 - (c.loop-i.i + 1)) l).0, (group_of (4 - (c.loop-i.i + 1)) l).1)) rest;
    }

pub returns-clause-gives : goal.returns-clause-gives
returns-clause-gives g c = λ h.
    let all : c.loop-i.i ≡ 4 = omega (arith, c.loop-i-test.false, c.loop-i.auto.i-end) in
    c.loop-i.invariant.group h ∙ characters-all c.loop-i.i c.loop-i.group (left g.I.Input.rest c.loop-i.source) all

pub returns-in_default-clause-reads : goal.returns-in_default-clause-reads
returns-in_default-clause-reads g c = grind (arith, common_steps)

pub returns-then-byte-eq125-clause-reads : goal.returns-then-byte-eq125-clause-reads
returns-then-byte-eq125-clause-reads g c = grind (arith, common_steps)
