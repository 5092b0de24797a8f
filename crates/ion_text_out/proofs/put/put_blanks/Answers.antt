use Rattle.ion_text_out.proofs.Below.{arith, onward_as, onward_then, onward_cut}
use Rattle.ion_text_out.proofs.Gaps.{blanks_last, blanks_then}
use Rattle.ion_text_out.proofs.put.put_blanks.Goals as goal

pub levels-init : goal.levels-init
levels-init g c = record { well = c.requires.well; then = λ new result put. put }

pub returns-in-Err : goal.returns-in-Err
returns-in-Err g c = onward_cut _ (onward_as c.levels.invariant (blanks_then c.levels.left (omega (arith, c.levels-test.true)))) c.in-Err.is c.put.ensures

pub levels-preserved : goal.levels-preserved
levels-preserved g c = onward_then (onward_as c.levels.invariant (blanks_then c.levels.left (omega (arith, c.levels-test.true)))) c.in_default.is c.put.ensures

pub returns : goal.returns
returns g c = c.levels.invariant.then _ _ (rw (blanks_last c.levels.left (omega (arith, c.levels-test.false))) at c.put-2.ensures)
