-- What a catalogue looks at in an item, by the first of its annotations.
use Rattle.std.proofs.Common.{◌≡◌, List, [], ◌∷◌, map, option_map, refl}
use Rattle.std.specs.Prelude.{slice_get}
use Rattle.ion_value.specs.Value.{SymbolAt, user_symbol_at}
use Rattle.ion_symbols.specs.CatalogItems.{is_shared}
use Rattle.ion_symbols.specs.Building.{names_first}

-- the annotations are those of a shared table where the first is
pub shared_first : (annotations : List SymbolAt) → is_shared (map user_symbol_at annotations) ≡ names_first (option_map user_symbol_at (slice_get annotations 0))
shared_first [] = refl
shared_first (a ∷ annotations) = refl
