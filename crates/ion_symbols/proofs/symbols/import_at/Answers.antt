use Rattle.std.proofs.Common.{arith}
use Rattle.std.proofs.lemmas.Grind.{common_steps}
use Rattle.ion_symbols.proofs.Importing.{halved}
use Rattle.ion_symbols.proofs.symbols.import_at.Goals as goal

pub returns : goal.returns
returns c =
    let i = c.loop-high.invariant in
    halved c.args.imports.now c.loop-high.low c.loop-high.high c.args.place c.requires.0 c.requires.1.0 c.requires.1.1 i.order i.within c.loop-high-test.false i.begins i.above

pub loop-high-preserved : goal.loop-high-preserved
loop-high-preserved c = grind (arith, common_steps) steps 400000

pub loop-high-init : goal.loop-high-init
loop-high-init c = grind (arith, common_steps)
