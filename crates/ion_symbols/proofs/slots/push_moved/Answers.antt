use Rattle.std.proofs.Common.{false, arith}
use Rattle.std.proofs.lemmas.Grind.{common_steps}
use Rattle.ion_value.specs.declared.quoting.Quoting.TheVariants.{Bare}
use Rattle.ion_symbols.proofs.Keeping.{tile_at}
use Rattle.ion_symbols.proofs.slots.push_moved.Goals as goal

pub overflow_add-moved : goal.overflow_add-moved
overflow_add-moved g c =
    let t = tile_at (record { from = 0; to = 0; known = false; quoting = Bare }) 0 c.args.more.now c.requires.fits.0 c.loop-part.part-index c.requires.fits.1.0 c.loop-part-test.true in
    omega (arith, t.0, t.1, c.requires.fits.1.1)

pub overflow_add-moved-in-loop-part : goal.overflow_add-moved-in-loop-part
overflow_add-moved-in-loop-part g c =
    let t = tile_at (record { from = 0; to = 0; known = false; quoting = Bare }) 0 c.args.more.now c.requires.fits.0 c.loop-part.part-index c.requires.fits.1.0 c.loop-part-test.true in
    omega (arith, t.1, c.requires.fits.1.1)

pub truncate-requires : goal.truncate-requires
truncate-requires g c = grind (arith, common_steps)

pub returns-in-Err-clause-err : goal.returns-in-Err-clause-err
returns-in-Err-clause-err g c = grind (arith, common_steps)

pub returns-in-Err-clause-undone : goal.returns-in-Err-clause-undone
returns-in-Err-clause-undone g c = grind (arith, common_steps)

pub loop-part-preserved : goal.loop-part-preserved
loop-part-preserved g c = grind (arith, common_steps)

pub returns-clause-ok : goal.returns-clause-ok
returns-clause-ok g c = grind (arith, common_steps)
