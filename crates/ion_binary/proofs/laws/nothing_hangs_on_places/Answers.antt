use Rattle.ion_binary.proofs.Elsewhere.{nothing-hangs-on-places, parts-are-read}
use Rattle.ion_binary.proofs.laws.nothing_hangs_on_places.Goals as goal

pub returns : goal.returns
returns c = record { anywhere = nothing-hangs-on-places; alone = parts-are-read }
