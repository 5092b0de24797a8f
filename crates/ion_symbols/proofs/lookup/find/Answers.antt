use Rattle.std.proofs.Common.{◌-◌, [], get_or, refl, sym, arith}
use Rattle.ion_symbols.specs.OutTexts.{texts_of}
use Rattle.ion_symbols.proofs.Positions.{compared_same}
use Rattle.ion_symbols.proofs.Seeking.{seek_found}
use Rattle.ion_symbols.proofs.lookup.find.Goals as goal

pub returns-then-is_same-clause-finds : goal.returns-then-is_same-clause-finds
returns-then-is_same-clause-finds g c =
    sym (seek_found c.args.probe.now.kept.now c.args.text.now (c.front-front.result - 1) c.requires.kept (omega (arith, c.front-front.ensures.within, c.if-front-eq0.false))
    (compared_same (get_or (texts_of c.args.probe.now.kept.now) (c.front-front.result - 1) []) c.args.text.now _ c.is_same.result refl c.is_same.ensures.same c.if-is_same.true))
