use Rattle.std.proofs.Common.{◌≡◌, ℕ, ◌∙◌, ◌++◌, List, take, Some, Ok, refl, sym, ap, subst, arith}
use Rattle.std.proofs.lemmas.Grind.{common_steps}
use Rattle.ion_meter.specs.Sources.{Cursor, cursor}
use Rattle.ion_meter.specs.Windows.{lent}
use Rattle.ion_text_in.specs.Gathered.{Continues}
use Rattle.ion_text_in.specs.declared.scanned.Scanned.TheVariants.{Whole, Fault}
use Rattle.ion_text_in.specs.Quoted.{text_at}
use Rattle.ion_text_in.specs.Quotes.{quote_of}
use Rattle.ion_text_in.specs.Scanners.{Shows}
use Rattle.ion_text_in.specs.Scanning.{Spelled}
use Rattle.ion_text_in.proofs.Shown.{shown-whole, shown-fault}
use Rattle.ion_text_in.proofs.SegmentTexts.{short-text}
use Rattle.ion_text_in.proofs.text.next_short_text.Goals as goal

pub returns-in_ok-extend-in-Whole-clause-gives : goal.returns-in_ok-extend-in-Whole-clause-gives
returns-in_ok-extend-in-Whole-clause-gives g c = λ h.
    let s = c.args.source.now in
    let reading = λ (d : Cursor). text_at (quote_of c.args.quote) (Some c.args.limits.scalar) d in
    let shows = subst (λ (l : List ℕ). Shows (λ (n : ℕ). take n l) l (Whole c.in-Whole.plain c.in-Whole.taken) reading) c.buffer-bytes.ensures c.in-Whole.ensures.shows in
    let text : c.extend.new.self ≡ take c.in-Whole.plain (lent s) =
    c.in_ok-extend-in-Whole.ensures.ok ∙ ap (λ (l : List ℕ). l ++ take c.in-Whole.plain c.buffer-bytes.result.now) c.clear.ensures.bytes
    ∙ ap (λ (l : List ℕ). take c.in-Whole.plain l) c.buffer-bytes.ensures in
    shown-whole g.I.Input (λ (n : ℕ). take n (lent s)) s c.consume.new.self c.in-Whole.plain c.in-Whole.taken reading shows c.consume.ensures
    ∙ ap (λ (l : List ℕ). Ok (l, cursor g.I.Input c.consume.new.self)) (sym text)

pub returns-in-Fault-clause-gives : goal.returns-in-Fault-clause-gives
returns-in-Fault-clause-gives g c = λ h.
    let s = c.args.source.now in
    let reading = λ (d : Cursor). text_at (quote_of c.args.quote) (Some c.args.limits.scalar) d in
    let shows = subst (λ (l : List ℕ). Shows (λ (n : ℕ). take n l) l (Fault c.in-Fault.reason) reading) c.buffer-bytes.ensures c.in-Fault.ensures.shows in
    (shown-fault g.I.Input (λ (n : ℕ). take n (lent s)) s c.in-Fault.reason reading shows, refl)

pub returns-in-Cut-clause-gives : goal.returns-in-Cut-clause-gives
returns-in-Cut-clause-gives g c = λ h.
    subst (λ (o : Spelled). Continues c.next_segment.result c.args.place o (λ _. Ok (c.next_segment.new.text, cursor g.I.Input c.next_segment.new.source)))
    (short-text (quote_of c.args.quote) c.args.limits.scalar c.clear.new.self (cursor g.I.Input c.args.source.now) c.requires.short c.clear.ensures.bytes)
    (c.next_segment.ensures.gives h)

pub consume-requires : goal.consume-requires
consume-requires g c = grind (arith, common_steps)

pub returns-in-Cut-clause-gathers : goal.returns-in-Cut-clause-gathers
returns-in-Cut-clause-gathers g c = grind (arith, common_steps)

pub returns-in-Fault-clause-gathers : goal.returns-in-Fault-clause-gathers
returns-in-Fault-clause-gathers g c = grind (arith, common_steps)

pub returns-in_ok-extend-in-Whole-clause-fresh : goal.returns-in_ok-extend-in-Whole-clause-fresh
returns-in_ok-extend-in-Whole-clause-fresh g c = grind (arith, common_steps)

pub returns-in_ok-extend-in-Whole-clause-gathers : goal.returns-in_ok-extend-in-Whole-clause-gathers
returns-in_ok-extend-in-Whole-clause-gathers g c = grind (arith, common_steps)
