use Rattle.ion_text_in.proofs.ElsewhereSteps.{nothing-hangs-on-places, parts-are-texts}
use Rattle.ion_text_in.proofs.laws.nothing_hangs_on_places.Goals as goal

pub returns : goal.returns
returns c = record { anywhere = nothing-hangs-on-places; alone = parts-are-texts }
