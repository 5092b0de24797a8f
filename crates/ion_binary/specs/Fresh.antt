-- A scalar of which one text has no id yet.
use Rattle.std.specs.Prelude.{◌≡◌, ℕ, ◌<◌, List, [], ◌∷◌, ◌++◌, length, map, None}
use Rattle.ion_meter.specs.Counts.{Counts}
use Rattle.ion_symbols.specs.Output.{known_id}
use Rattle.ion_value.specs.Value.{PlacedItem, user_item, user_symbol_at}
use Rattle.ion_value.specs.Writable.{field_symbols}
use Rattle.ion_binary.specs.declared.writer.BinWriter.{BinWriter}
use Rattle.ion_binary.specs.declared.writer.fresh.Fresh.{Fresh}
use Rattle.ion_binary.specs.Canonical.{annotation_octets, field_octets, id_in, with_symbols}
use Rattle.ion_binary.specs.Held.{counted_ids}
use Rattle.ion_binary.specs.ItemOctets.{head_name, head_octets}
use Rattle.ion_binary.specs.Opening.{MayCome, name_octets, noted}
use Rattle.ion_binary.specs.Plain.{HaveIds, IsWhole}
use Rattle.ion_binary.specs.Writer.{CanTake}
use Rattle.ion_binary.specs.Writing.{head_symbols, item_symbols}

-- the texts with one more, with which the item's field and a symbol value have these ids
pub record IsFresh (texts : List (List ℕ)) (item : PlacedItem) (fresh : Fresh) : Type 0 where
  pub is_new : known_id texts fresh.text.now ≡ None
  pub field : HaveIds (texts ++ fresh.text.now ∷ []) (field_symbols item.field)
  pub head : HaveIds (texts ++ fresh.text.now ∷ []) (head_symbols item.head)
  pub name : name_octets fresh.name ≡ field_octets (id_in (texts ++ fresh.text.now ∷ [])) (user_item item).field
  pub symbol : fresh.symbol ≡ head_name (id_in (texts ++ fresh.text.now ∷ [])) (user_item item).head
  pub one : HaveIds texts item.annotations → with_symbols texts (map user_symbol_at (item_symbols item)) ≡ texts ++ fresh.text.now ∷ []

-- the text that is given may be new, and then the item is fresh
abbrev pub MayBeFresh : List (List ℕ) → PlacedItem → Fresh → Type 0
MayBeFresh texts item fresh = known_id texts fresh.text.now ≡ None → IsFresh texts item fresh

-- with the new text these are the octets of the item, after the ids of its field and of its annotation
abbrev pub AreFresh : List (List ℕ) → PlacedItem → Fresh → ℕ → List ℕ → Type 0
AreFresh texts item fresh note octets =
    known_id texts fresh.text.now ≡ None
    → octets ≡ noted fresh.name note (head_octets (id_in (texts ++ fresh.text.now ∷ [])) (user_item item).head)

-- a scalar may be put in an open value, where its annotation has this id, or there is none and it is 0
pub record CanPutFresh {A : Type 0} (w : BinWriter A) (meter : Counts) (item : PlacedItem) (fresh : Fresh) (note : ℕ) : Type 0 where
  pub can_take : CanTake w meter
  pub comes : MayCome w.limits w.open_value item
  pub inside : 0 < length w.open_value.headers
  pub whole : IsWhole item.head
  pub text : MayBeFresh w.symbols.texts item fresh
  pub known : HaveIds w.symbols.texts item.annotations
  pub annotation : counted_ids (name_octets note) ≡ annotation_octets (id_in w.symbols.texts) (user_item item).annotations
