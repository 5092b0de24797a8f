use Rattle.ion_symbols.proofs.LinkedTexts.{ordered_kept}
use Rattle.ion_symbols.proofs.out_texts.OutTexts.search.Goals as goal

pub new-requires : goal.new-requires
new-requires g c = ordered_kept c.args.self.now _ _ _ c.requires.kept c.requires.ordered c.as_slice.ensures c.as_slice-2.ensures c.as_slice-3.ensures
