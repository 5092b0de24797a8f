use Rattle.std.proofs.Common.{◌≡◌, ℕ, eqb, false, not, Option, Some, None, IfSome, slice_get, arith}
use Rattle.std.specs.Option.{option_eq}
use Rattle.std.proofs.lemmas.Grind.{common_steps}
use Rattle.ion_meter.specs.Windows.{IsGiven}
use Rattle.ion_text_in.proofs.Turns.{gone-then, gone-more, gone-passed, gone-reads}
use Rattle.ion_text_in.proofs.text.pass_quotes.Goals.{then-ne-via-then-ne, then-ne-via-else-ne+in_ok-peek-2+then-ne-2, then-ne-via-else-ne+in_ok-peek-2+else-ne-2+in_ok-peek-3+then-ne-3}
use Rattle.ion_text_in.proofs.text.pass_quotes.Goals as goal

-- what is known of a byte that was found to be this one
byte-given : (found : Option ℕ) (P : ℕ → Type 0) → IfSome found P → false ≡ not (option_eq eqb found (Some 39)) → (b : ℕ) × P b
byte-given None P h e = absurd (cc e)
byte-given (Some b) P h e = (b, h)

pub consume-requires : goal.consume-requires
consume-requires g c = grind (arith, common_steps)

pub returns-clause-plain : goal.returns-clause-plain
returns-clause-plain g c = grind (arith, common_steps)

pub returns-then-ne-clause-plain : goal.returns-then-ne-clause-plain
returns-then-ne-clause-plain g c = grind (arith, common_steps)

pub returns-clause-reads : goal.returns-clause-reads
returns-clause-reads g c =
    let device = g.I.Input in
    let s = c.args.source.now in
    let p = c.peek.new.self in
    let q = c.peek-else-ne.new.self in
    let r = c.peek-else-ne-2.new.self in
    let t = c.consume.new.self in
    let one = c.in_ok-peek.ensures in
    let two = c.in_ok-peek-2.ensures in
    let three = c.in_ok-peek-3.ensures in
    let given = byte-given c.in_ok-peek-3.field-0 (λ b. IsGiven r 2 × (slice_get r.buffered 2 ≡ Some b)) three.byte c.if-ne-3.ensures in
    let first = gone-more device s p c.requires.stands one.kept one.well.1 (rw c.requires.stands.well at one.count) in
    let second = gone-more device p q first.stands two.kept two.well.1 (rw first.stands.well at two.count) in
    let third = gone-passed device q r t 2 second.stands three.kept three.well.1 (rw second.stands.well at three.count) given.1.0 c.consume.ensures in
    gone-reads device s t (gone-then device s p t first (gone-then device p q t second third.0))

pub returns-then-ne-clause-reads : goal.returns-then-ne-clause-reads
returns-then-ne-clause-reads g c =
    let device = g.I.Input in
    let s = c.args.source.now in
    let p = c.peek.new.self in
    let one = c.in_ok-peek.ensures in
    let first = gone-more device s p c.requires.stands one.kept one.well.1 (rw c.requires.stands.well at one.count) in
    elim c.then-ne.branch [
      | then-ne-via-then-ne w ↦ rw w.source-is (gone-reads device s p first)
      | then-ne-via-else-ne+in_ok-peek-2+then-ne-2 w ↦
          let q = w.peek-else-ne.new.self in
          let two = w.in_ok-peek-2.ensures in
          let second = gone-more device p q first.stands two.kept two.well.1 (rw first.stands.well at two.count) in
          rw w.source-is (gone-reads device s q (gone-then device s p q first second))
      | then-ne-via-else-ne+in_ok-peek-2+else-ne-2+in_ok-peek-3+then-ne-3 w ↦
          let q = w.peek-else-ne.new.self in
          let r = w.peek-else-ne-2.new.self in
          let two = w.in_ok-peek-2.ensures in
          let three = w.in_ok-peek-3.ensures in
          let second = gone-more device p q first.stands two.kept two.well.1 (rw first.stands.well at two.count) in
          let third = gone-more device q r second.stands three.kept three.well.1 (rw second.stands.well at three.count) in
          rw w.source-is (gone-reads device s r (gone-then device s p r first (gone-then device p q r second third)))
    ]
