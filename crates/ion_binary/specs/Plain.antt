-- What contracts see of plain items that are taken at once.
use Rattle.std.specs.Prelude.{◌≡◌, ℕ, ◌/◌, ◌<◌, ◌≤◌, ◌⊎◌, Bool, true, false, List, [], ◌∷◌, ◌++◌, length, option_map, Option, None, ⊤}
use Rattle.ion_meter.specs.Counts.{Counts}
use Rattle.ion_meter.specs.Windows.{Outgoing}
use Rattle.ion_value.specs.Items.{raw_head}
use Rattle.ion_value.specs.PlainItems.{listed, placed_text, with_second}
use Rattle.ion_value.specs.Value as value
use Rattle.ion_value.specs.Value.{SymbolAt, user_symbol_at, Head, PlacedItem}
use Rattle.ion_value.specs.declared.plain_item.TextAt.{TextAt}
use Rattle.ion_binary.specs.declared.writer.BinWriter.{BinWriter}
use Rattle.ion_binary.specs.declared.writer.single.SingleItem.{SingleItem}
use Rattle.ion_symbols.specs.Output.{texts_cost}
use Rattle.ion_binary.specs.Canonical.{with_symbol}
use Rattle.ion_binary.specs.Held.{value_held, value_put}
use Rattle.ion_binary.specs.Opening.{IsOpen}
use Rattle.ion_binary.specs.Writer.{Taken, added, held_in, item_refusal}

-- the item
abbrev pub as_item : SingleItem → PlacedItem
as_item item = record {
  field = option_map placed_text item.field;
  annotations = listed (option_map placed_text item.annotation);
  head = raw_head item.head;
  place = item.place;
  top = item.top;
}

-- an item with one more annotation, of this text, that stands at a place
abbrev pub with_note : PlacedItem → List ℕ → ℕ → PlacedItem
with_note item text place = record item { annotations = item.annotations ++ record { symbol = value.Text text; place = place } ∷ [] }

-- an item with a second annotation, if there is one
abbrev pub as_pair : SingleItem → Option TextAt → PlacedItem
as_pair item second = record (as_item item) { annotations = with_second (as_item item).annotations second }

-- a head is a scalar
abbrev pub IsWhole : {S : Type 0} → Head S → Type 0
IsWhole (value.whole body) = ⊤
IsWhole (value.begin kind) = ⊥
IsWhole value.end = ⊥
IsWhole value.marker = ⊥

-- an item has neither a field nor annotations
pub record IsBare (item : PlacedItem) : Type 0 where
  pub field : item.field ≡ None
  pub annotations : item.annotations ≡ []

-- each of these symbols has its id
abbrev pub HaveIds : List (List ℕ) → List SymbolAt → Type 0
HaveIds texts [] = ⊤
HaveIds texts (s ∷ ss) = (with_symbol texts (user_symbol_at s) ≡ texts) × HaveIds texts ss

-- the item was added to a value that is open after it, no text being forgotten as it comes, and is not refused; or it was declined, and
-- nothing is changed
pub record AddsPlain {A : Type 0} (old new : BinWriter A) (before after : Counts) (item : PlacedItem) (result : Bool) : Type 0 where
  pub held : result ≡ true → held_in new ≡ added (held_in old) item
  pub is_open : result ≡ true → IsOpen new.limits new.open_value
  pub passes : result ≡ true → item_refusal old.limits (held_in old) item ≡ None
  pub keeps : result ≡ true → (0 < length old.open_value.headers) ⊎ (texts_cost old.symbols.texts ≤ old.limits.symbols / 2)
  pub inside : result ≡ true → 0 < length new.open_value.headers
  pub declines : result ≡ false → (new ≡ old) × (after ≡ before)
  pub taken : Taken old new before after None

-- nothing stands before the next value: no container is open, no version marker is due, all texts have been declared, and none is forgotten
pub record IsSettled {A : Type 0} (w : BinWriter A) : Type 0 where
  pub due : w.due ≡ false
  pub headers : w.open_value.headers ≡ []
  pub octets : w.open_value.octets.all ≡ []
  pub all : w.declared ≡ length w.symbols.texts
  pub few : texts_cost w.symbols.texts ≤ w.limits.symbols / 2

-- the item is a value at top level, which was put, and is not refused; or it was declined, and nothing is changed. The writer is the same
pub record PutsWhole {A O : Type 0} (w : BinWriter A) (old new : Outgoing O) (item : PlacedItem) (result : Bool) : Type 0 where
  pub held : result ≡ true → held_in w ≡ value_held (added (held_in w) item) (added (held_in w) item).headers (added (held_in w) item).octets
  pub puts : result ≡ true → new.pending ≡ old.pending ++ value_put (added (held_in w) item) (added (held_in w) item).headers (added (held_in w) item).octets
  pub passes : result ≡ true → item_refusal w.limits (held_in w) item ≡ None
  pub keeps : result ≡ true → texts_cost w.symbols.texts ≤ w.limits.symbols / 2
  pub declines : result ≡ false → new ≡ old
  pub device : new.device ≡ old.device
  pub fault : new.fault ≡ old.fault

-- the item was taken, no text being forgotten as it comes, and is not refused: a value at top level that is whole by it was put. Or it was
-- declined, and nothing is changed
pub record TakesPlain {A O : Type 0} (old new : BinWriter A) (before after : Counts) (sink put : Outgoing O) (item : PlacedItem) (result : Bool) : Type 0 where
  pub held : result ≡ true → held_in new ≡ value_held (added (held_in old) item) (added (held_in old) item).headers (added (held_in old) item).octets
  pub puts : result ≡ true → put.pending ≡ sink.pending ++ value_put (added (held_in old) item) (added (held_in old) item).headers (added (held_in old) item).octets
  pub is_open : result ≡ true → IsOpen new.limits new.open_value
  pub passes : result ≡ true → item_refusal old.limits (held_in old) item ≡ None
  pub keeps : result ≡ true → (0 < length old.open_value.headers) ⊎ (texts_cost old.symbols.texts ≤ old.limits.symbols / 2)
  pub declines : result ≡ false → (new ≡ old) × (put ≡ sink) × (after ≡ before)
  pub device : put.device ≡ sink.device
  pub fault : put.fault ≡ sink.fault
  pub taken : Taken old new before after None
