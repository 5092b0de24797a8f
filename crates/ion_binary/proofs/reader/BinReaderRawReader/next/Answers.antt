use Rattle.ion_binary.proofs.Below.{arith, ap, Ok, not-true, common_steps, read_on-not, reads_on-is}
use Rattle.ion_binary.proofs.reader.BinReaderRawReader.next.Goals as goal

pub returns-in-Ok-clause-read_on : goal.returns-in-Ok-clause-read_on
returns-in-Ok-clause-read_on g c = reads_on-is g.I.Input c.args.self.now.source.device c.advance-outcome.new.self.source.device c.advance-outcome.ensures.stepped.moves.read_on

pub returns-in-Err-clause-read_on : goal.returns-in-Err-clause-read_on
returns-in-Err-clause-read_on g c = reads_on-is g.I.Input c.args.self.now.source.device c.advance-outcome.new.self.source.device c.advance-outcome.ensures.stepped.moves.read_on

pub returns-in-Ok-clause-ended : goal.returns-in-Ok-clause-ended
returns-in-Ok-clause-ended g c = grind (arith, common_steps) steps 400000

pub returns-in-Err-clause-refuses : goal.returns-in-Err-clause-refuses
returns-in-Err-clause-refuses g c = grind (arith, common_steps) steps 400000

pub returns-in-Err-clause-causes : goal.returns-in-Err-clause-causes
returns-in-Err-clause-causes g c = grind (arith, common_steps) steps 400000

pub returns-in-Err-clause-sound : goal.returns-in-Err-clause-sound
returns-in-Err-clause-sound g c = grind (arith, common_steps) steps 400000

pub returns-in-Err-clause-again : goal.returns-in-Err-clause-again
returns-in-Err-clause-again g c = grind (arith, common_steps) steps 400000

pub returns-in-Err-clause-depth : goal.returns-in-Err-clause-depth
returns-in-Err-clause-depth g c = grind (arith, common_steps) steps 400000

pub returns-in-Err-clause-most : goal.returns-in-Err-clause-most
returns-in-Err-clause-most g c = grind (arith, common_steps) steps 400000

pub returns-in-Err-clause-falls : goal.returns-in-Err-clause-falls
returns-in-Err-clause-falls g c = grind (arith, common_steps) steps 400000

pub returns-in-Err-clause-stays : goal.returns-in-Err-clause-stays
returns-in-Err-clause-stays g c = grind (arith, common_steps) steps 400000

pub returns-in-Err-clause-charges : goal.returns-in-Err-clause-charges
returns-in-Err-clause-charges g c = grind (arith, common_steps) steps 400000

pub returns-in-Err-clause-ends : goal.returns-in-Err-clause-ends
returns-in-Err-clause-ends g c = grind (arith, common_steps) steps 400000

pub returns-in-Err-clause-goes : goal.returns-in-Err-clause-goes
returns-in-Err-clause-goes g c = grind (arith, common_steps) steps 400000

pub returns-in-Ok-clause-sound : goal.returns-in-Ok-clause-sound
returns-in-Ok-clause-sound g c = (
  grind (arith, common_steps) steps 400000,
  λ over o. let ends = c.in-Ok.ensures.ends (c.in-Ok.ensures.stepped.moves.still_observable.0 o) (ap Ok (not-true c.in-Ok.more over)) in (ends.1, ends.2),
)

pub returns-in-Ok-clause-ends : goal.returns-in-Ok-clause-ends
returns-in-Ok-clause-ends g c = grind (arith, common_steps) steps 400000

pub returns-in-Ok-clause-causes : goal.returns-in-Ok-clause-causes
returns-in-Ok-clause-causes g c = grind (arith, common_steps) steps 400000

pub returns-in-Ok-clause-depth : goal.returns-in-Ok-clause-depth
returns-in-Ok-clause-depth g c = grind (arith, common_steps) steps 400000

pub returns-in-Ok-clause-falls : goal.returns-in-Ok-clause-falls
returns-in-Ok-clause-falls g c = grind (arith, common_steps) steps 400000

pub returns-in-Ok-clause-most : goal.returns-in-Ok-clause-most
returns-in-Ok-clause-most g c = grind (arith, common_steps) steps 400000

pub returns-in-Ok-clause-stays : goal.returns-in-Ok-clause-stays
returns-in-Ok-clause-stays g c = grind (arith, common_steps) steps 400000

pub returns-in-Ok-clause-again : goal.returns-in-Ok-clause-again
returns-in-Ok-clause-again g c = grind (arith, common_steps) steps 400000

pub returns-in-Ok-clause-charges : goal.returns-in-Ok-clause-charges
returns-in-Ok-clause-charges g c = grind (arith, common_steps) steps 400000

pub returns-in-Ok-clause-refuses : goal.returns-in-Ok-clause-refuses
returns-in-Ok-clause-refuses g c = grind (arith, common_steps) steps 400000

pub returns-in-Some : goal.returns-in-Some
returns-in-Some g c = let on = read_on-not g.I.Input c.args.self.now.source.device in grind (arith, common_steps, on) steps 400000

pub returns-then-self : goal.returns-then-self
returns-then-self g c = let on = read_on-not g.I.Input c.args.self.now.source.device in grind (arith, common_steps, on) steps 400000

pub returns-in-Ok-clause-goes : goal.returns-in-Ok-clause-goes
returns-in-Ok-clause-goes g c = grind (arith, common_steps) steps 400000
