use Rattle.std.proofs.Common.{ℕ, List, drop, take, arith, ◌++◌}
use Rattle.std.proofs.lemmas.Grind.{common_steps}
use Rattle.ion_meter.specs.Windows.{AreBytes}
use Rattle.ion_meter.proofs.Window.{bytes-before}
use Rattle.ion_meter.proofs.source.Source.consume.Goals as goal

pub returns : goal.returns
returns g c =
    let s = c.self.inside in
    let buffered : List ℕ = drop s.start (take s.end s.window.value) in
    let all : AreBytes buffered = grind (arith, common_steps) in
    let bytes : (more : List ℕ) → AreBytes (drop c.args.count buffered ++ more) → AreBytes (buffered ++ more) = λ more. bytes-before buffered more c.args.count all in
    grind (arith, common_steps, bytes) steps 400000

pub invariant_of-self : goal.invariant_of-self
invariant_of-self g c = grind (arith, common_steps)
