use Rattle.std.proofs.Common.{◌≡◌, ◌∙◌, List, ℕ, [], MatchOption, sym, ap, subst, arith}
use Rattle.std.proofs.lemmas.Grind.{common_steps}
use Rattle.ion_meter.specs.Windows.{left, lent}
use Rattle.ion_value.proofs.Cursors.{cursor-extends}
use Rattle.ion_text_in.specs.Firsts.{first_of}
use Rattle.ion_text_in.specs.Overrun.{overrun}
use Rattle.ion_text_in.specs.Token.{first_at}
use Rattle.ion_meter.specs.Sources.{Cursor}
use Rattle.ion_text_in.proofs.FirstTokens.{first-left}
use Rattle.ion_text_in.proofs.Looking.{lent-all}
use Rattle.ion_text_in.proofs.Shown.{lent-left}
use Rattle.ion_text_in.proofs.Turns.{gone-then, gone-more, gone-reads}
use Rattle.ion_text_in.proofs.first.next_ahead.Goals as goal

pub returns-in-Some-clause-ahead : goal.returns-in-Some-clause-ahead
returns-in-Some-clause-ahead g c = λ h.
    let s = c.more.source in
    let inv = c.more.invariant in
    record {
      blank = inv.blank h;
      used_up = inv.used_up h;
      first = first-left c.args.in_sexp c.buffer-bytes.result.now (lent s) _ (left g.I.Input.rest s) _ (lent-left g.I.Input.rest s) c.buffer-bytes.ensures c.in-Some.ensures.shows;
    }

pub returns-in_default-2-clause-ahead : goal.returns-in_default-2-clause-ahead
returns-in_default-2-clause-ahead g c = λ h.
    let s = c.more.source in
    let t = c.peek.new.self in
    let inv = c.more.invariant in
    let peek = c.in_ok-peek.ensures in
    let seen = inv.gone.moves.still_observable.1 h in
    let here = sym (cursor-extends g.I.Input s t peek.kept seen) in
    let all = lent-all g.I.Input s t peek.kept peek.well.0 peek.well.1 seen (rw (c.in_default-2.is, c.buffer-bytes.ensures) at (peek.gives seen)) ∙ sym (peek.kept.same_left seen) in
    record {
      blank = inv.blank h ∙ ap (λ (d : Cursor). overrun c.in_ok-unfinished.unfinished d) here;
      used_up = rw (peek.kept.same_left seen) (inv.used_up h);
      first = subst (λ (l : List ℕ). MatchOption c.ended_first-first.result (l ≡ []) (λ f. first_at c.args.in_sexp l ≡ first_of f)) (c.buffer.ensures ∙ all) c.ended_first-first.ensures.first;
    }

pub more-smaller : goal.more-smaller
more-smaller g c = grind (arith, common_steps)

pub more-init : goal.more-init
more-init g c = grind (arith, common_steps)

pub returns-in-Some-clause-reads : goal.returns-in-Some-clause-reads
returns-in-Some-clause-reads g c = gone-reads g.I.Input c.args.source.now c.more.source c.more.invariant.gone

pub returns-in_default-2-clause-reads : goal.returns-in_default-2-clause-reads
returns-in_default-2-clause-reads g c =
    let device = g.I.Input in
    let s = c.args.source.now in
    let t = c.more.source in
    let p = c.peek.new.self in
    let gone = c.more.invariant.gone in
    let peek = c.in_ok-peek.ensures in
    gone-reads device s p (gone-then device s t p gone (gone-more device t p gone.stands peek.kept peek.well.1 (rw gone.stands.well at peek.count)))
