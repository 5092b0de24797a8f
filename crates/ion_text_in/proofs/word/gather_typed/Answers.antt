use Rattle.std.proofs.Common.{◌≡◌, ◌∙◌, ap, sym, Some, true, List, ℕ, codes}
use Rattle.std.specs.Str.{bytes_eq}
use Rattle.ion_meter.specs.Sources.{cursor}
use Rattle.ion_text_in.proofs.Gathered.{answers-same}
use Rattle.ion_text_in.proofs.TypedWords.{null-spelled}
use Rattle.ion_text_in.proofs.word.gather_typed.Goals as goal

pub returns-clause-gives : goal.returns-clause-gives
returns-clause-gives g c = λ h.
    let s = c.args.source.now in
    let token = c.in_ok-gather_token.ensures in
    let text : List ℕ = c.gather_token.new.text in
    let null : bytes_eq (codes "null") text ≡ true = ap (bytes_eq (codes "null")) (sym c.as_slice.ensures) ∙ (sym c.is_text.ensures ∙ c.if-not-is_text.false) in
    answers-same (λ (x : Unit {0}). c.gather_type.new.text) c.gather_type.result (cursor g.I.Input c.gather_type.new.source) c.place-place.result s.place _ _
    (c.gather_type.ensures.gives (token.reads.moves.still_observable.1 h)) c.place-place.ensures
    (null-spelled (Some c.args.limits.scalar) (cursor g.I.Input s) (cursor g.I.Input c.gather_token.new.source) text (token.gives h) null)
