use Rattle.std.proofs.Common.{◌≡◌, ◌∙◌, [], ap, sym, take, Some, Result, Ok, List, ℕ, subst, arith}
use Rattle.std.proofs.lemmas.Grind.{common_steps}
use Rattle.ion_meter.specs.Windows.{lent}
use Rattle.ion_meter.specs.Sources.{Cursor, cursor}
use Rattle.ion_meter.specs.declared.fault.Reason.{Reason}
use Rattle.ion_text_in.specs.declared.scanned.Scanned.TheVariants as scanned
use Rattle.ion_text_in.specs.Scanners.{Shows}
use Rattle.ion_text_in.specs.Token as tokens
use Rattle.ion_text_in.specs.Token.{Token, an_operator, token_of}
use Rattle.ion_text_in.specs.Runs.{IsAppended}
use Rattle.ion_text_in.proofs.Shown.{shown-whole, shown-fault}
use Rattle.ion_text_in.proofs.ShownTokens.{operator-spelled, operator-refused}
use Rattle.ion_text_in.proofs.Gathered.{answers-then, answers-copied}
use Rattle.ion_text_in.proofs.ShownFurther.{on-ok-map, shown-further}
use Rattle.ion_text_in.proofs.number.next_operator.Goals as goal

abbrev operator_with : Cursor → List ℕ → Result (Token × Cursor) Reason
operator_with d l = Ok (tokens.operator l, d)

same-operator : {xs ys : List ℕ} (d : Cursor) → xs ≡ ys → operator_with d xs ≡ operator_with d ys
same-operator d e = ap (operator_with d) e

pub returns-in-Whole-clause-gives : goal.returns-in-Whole-clause-gives
returns-in-Whole-clause-gives g c = λ h.
    let s = c.args.source.now in
    let t = c.copy.new.source in
    let n = c.in-Whole.count in
    let reading = token_of (Some c.args.limits.scalar) an_operator in
    let view = λ (u : Unit {0}). tokens.operator (take n (lent s)) in
    let shows = subst (λ (l : List ℕ). Shows (λ (u : Unit {0}). tokens.operator (take n l)) l (scanned.Whole tt n) reading) c.buffer.ensures c.in-Whole.ensures.shows in
    answers-copied (tokens.operator c.copy.new.text) (IsAppended [] c.copy.new.text s t n) c.copy.result (cursor g.I.Input t) s.place (reading (cursor g.I.Input s)) c.copy.ensures.copies c.copy.ensures.memory
    (λ copied. shown-whole g.I.Input view s t tt n reading shows copied.passed ∙ same-operator (cursor g.I.Input t) (sym copied.text))

pub returns-in-Fault-clause-gives : goal.returns-in-Fault-clause-gives
returns-in-Fault-clause-gives g c = λ h.
    let reading = token_of (Some c.args.limits.scalar) an_operator in
    let shows = subst (λ (l : List ℕ). Shows (λ (u : Unit {0}). tokens.comma) l (scanned.Fault c.in-Fault.reason) reading) c.buffer.ensures c.in-Fault.ensures.shows in
    (shown-fault g.I.Input (λ (u : Unit {0}). tokens.comma) c.args.source.now c.in-Fault.reason reading shows, c.place.ensures)

pub returns-in-Cut-clause-gives : goal.returns-in-Cut-clause-gives
returns-in-Cut-clause-gives g c = λ h.
    let limit = Some c.args.limits.scalar in
    let from = cursor g.I.Input c.args.source.now in
    let to = cursor g.I.Input c.gather_token.new.source in
    let text : List ℕ = c.gather_token.new.text in
    answers-then (λ (u : Unit {0}). text) (λ (u : Unit {0}). tokens.operator text) c.gather_token.result to c.args.source.now.place _ _
    (λ x e. operator-spelled limit from to text e) (λ reason e. operator-refused limit from reason e) (c.gather_token.ensures.gives h)

pub returns-in-Whole-clause-further : goal.returns-in-Whole-clause-further
returns-in-Whole-clause-further g c =
    let s = c.args.source.now in
    let t = c.copy.new.source in
    let n = c.in-Whole.count in
    let reading = token_of (Some c.args.limits.scalar) an_operator in
    let view = λ (u : Unit {0}). tokens.operator (take n (lent s)) in
    let shows = subst (λ (l : List ℕ). Shows (λ (u : Unit {0}). tokens.operator (take n l)) l (scanned.Whole tt n) reading) c.buffer.ensures c.in-Whole.ensures.shows in
    on-ok-map c.copy.result c.copy.ensures.copies (λ (copied : IsAppended [] c.copy.new.text s t n). shown-further view s t tt n (Some c.args.limits.scalar) an_operator shows c.requires.there copied.passed)

pub returns-in-Fault-clause-reads : goal.returns-in-Fault-clause-reads
returns-in-Fault-clause-reads g c = grind (arith, common_steps) steps 400000
