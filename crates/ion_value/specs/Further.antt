-- Readings of what stands further on: their items and their end, at greater places.
use Rattle.std.specs.Prelude.{ℕ, ◌+◌}
use Rattle.ion_value.specs.Value.{SymbolAt, PlacedItem, map_item}
use Rattle.ion_value.specs.Reading.{Reading, Finished, Stopped, More}

-- a symbol so many bytes further on
abbrev pub symbol_further : ℕ → SymbolAt → SymbolAt
symbol_further far s = record { symbol = s.symbol; place = s.place + far }

-- an item so many bytes further on, with its symbols and its top-level value
abbrev pub item_further : ℕ → PlacedItem → PlacedItem
item_further far item = map_item (symbol_further far) (λ place. place + far) item

-- a reading so many bytes further on
abbrev pub further : ℕ → Reading → Reading
further far Finished = Finished
further far (Stopped reason place) = Stopped reason (place + far)
further far (More item rest) = More (item_further far item) (further far rest)
