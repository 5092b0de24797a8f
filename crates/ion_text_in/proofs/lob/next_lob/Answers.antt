use Rattle.std.proofs.Common.{Some, Ok, Result, refl, ap, ◌∙◌, arith}
use Rattle.ion_meter.specs.Sources.{Cursor, cursor}
use Rattle.ion_meter.proofs.Extending.{extends-not}
use Rattle.ion_meter.specs.declared.fault.Reason.{Reason}
use Rattle.ion_value.specs.Parts.{◌>>=◌}
use Rattle.ion_value.specs.Value.{SymbolAt, Scalar}
use Rattle.ion_text_in.specs.Tokens.{as_scalar}
use Rattle.ion_text_in.specs.Token.{plain}
use Rattle.ion_text_in.proofs.LobTurns.{lob-token}
use Rattle.ion_text_in.proofs.TextTokens.{continues-answers}
use Rattle.ion_text_in.proofs.Turns.{passed-cursor, gone-passed}
use Rattle.ion_text_in.proofs.ShownFurther.{on-ok}
use Rattle.ion_text_in.proofs.lob.next_lob.Goals as goal

pub returns-clause-gives : goal.returns-clause-gives
returns-clause-gives g c = λ h.
    let s = c.args.source.now in
    let t = c.consume.new.self in
    let well = c.requires.can_read.stands.well in
    let limit = Some c.args.limits.scalar in
    let first = passed-cursor g.I.Input s s t 1 c.requires.can_read.stands (extends-not g.I.Input s) well c.requires.braces c.consume.ensures h in
    let one = gone-passed g.I.Input s s t 1 c.requires.can_read.stands (extends-not g.I.Input s) well (omega arith) c.requires.braces c.consume.ensures in
    let at_first = one.0.moves.still_observable.1 h in
    let at_white = c.in_ok-pass_white.ensures.reads.moves.still_observable.1 at_first in
    let token = lob-token limit (cursor g.I.Input s) (cursor g.I.Input t) (cursor g.I.Input c.pass_white.new.source) first (c.in_ok-pass_white.ensures.after at_first) in
    let made = λ (o : Result (Scalar SymbolAt × Cursor) Reason). o >>= (λ l. Ok (plain l.0, l.1)) in
    continues-answers (λ lob. plain (as_scalar c.next_opened.new.text s.place lob)) c.next_opened.result (cursor g.I.Input c.next_opened.new.source) s.place s.place _ _ _ refl
    (λ _ k. token ∙ ap made k) (λ _ k. token ∙ ap made k) (rw c.place-place.ensures at (c.next_opened.ensures.gives at_white))

pub returns-clause-further : goal.returns-clause-further
returns-clause-further g c = λ _.
    let passed = c.consume.ensures.place in
    let white = c.in_ok-pass_white.ensures.reads.moves.further in
    let further = c.next_opened.ensures.gathers.reads.moves.further in
    on-ok c.next_opened.result (omega (arith, passed, white, further))
