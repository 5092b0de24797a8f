use Rattle.std.proofs.Common.{ap, subst}
use Rattle.ion_meter.specs.Counts.{Shrinks}
use Rattle.ion_symbols.specs.Output.{Output, texts_cost}
use Rattle.ion_symbols.proofs.KeptTexts.{same_share}
use Rattle.ion_symbols.proofs.output.OutSymbols.release.Goals as goal

pub release-requires-clause-held : goal.release-requires-clause-held
release-requires-clause-held g c = same_share _ _ _ (ap (λ (s : Output). s.texts) c.self.view_is) c.requires

pub returns : goal.returns
returns g c = subst (λ (s : Output). Shrinks c.args.meter.now c.release.new.meter (texts_cost s.texts)) c.self.view_is c.release.ensures
