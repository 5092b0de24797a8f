use Rattle.std.proofs.Common.{refl, ◌∙◌}
use Rattle.ion_symbols.proofs.OutputTexts.{texts_since, from_since}
use Rattle.ion_symbols.proofs.out_texts.OutTexts.since.Goals as goal

pub new-requires : goal.new-requires
new-requires g c = from_since _ _ _ _ _ _ c.as_slice.ensures c.as_slice-places.ensures c.requires.kept.texts.follow

pub returns : goal.returns
returns g c = c.new.ensures ∙ texts_since _ _ _ _ _ _ _ _ c.as_slice.ensures c.as_slice-places.ensures refl refl c.min.ensures
