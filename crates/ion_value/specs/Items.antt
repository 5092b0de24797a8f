-- What is seen of the items of the code.
use Rattle.std.specs.Prelude.{ℕ, Bool, true, false, List, [], ◌∷◌, map, Option, Some, None, option_map, slice_range}
use Rattle.ion_value.specs.declared.item.Sym.{Sym}
use Rattle.ion_value.specs.declared.item.Sym.TheVariants as sym
use Rattle.ion_value.specs.declared.item.SymAt.{SymAt}
use Rattle.ion_value.specs.declared.item.Annotation.{Annotation}
use Rattle.ion_value.specs.declared.item.Annotation.TheVariants as annotation
use Rattle.ion_value.specs.declared.item.Head.{Head}
use Rattle.ion_value.specs.declared.item.Head.TheVariants as code
use Rattle.ion_value.specs.declared.item.Annotations.{Annotations}
use Rattle.ion_value.specs.declared.item.Item.{Item}
use Rattle.ion_value.specs.Float.{value_of}
use Rattle.ion_value.specs.Value as value
use Rattle.ion_value.specs.Value.{Symbol, SymbolAt, PlacedItem, map_item}

-- a symbol of the code as definitions see it: the bytes of its text, or its id
abbrev pub symbol_of : Sym → Symbol
symbol_of (sym.Text bytes) = value.Text bytes.now
symbol_of (sym.Id id) = value.Id id

-- the same with the place of its first byte
abbrev pub symbol_at : SymAt → SymbolAt
symbol_at at = record { symbol = symbol_of at.sym; place = at.place }

-- the field of an item, if it has one, an id being left as it is
abbrev pub raw_field : Option SymAt → Option SymbolAt
raw_field field = option_map symbol_at field

-- an annotation, whose text is a range of the bytes that are given first; an id is left as it is
abbrev pub raw_annotation : List ℕ → Annotation → SymbolAt
raw_annotation texts (annotation.Text from to place) = record { symbol = value.Text (slice_range texts from to); place = place }
raw_annotation texts (annotation.Id id place) = record { symbol = value.Id id; place = place }

-- the head of an item, an id being left as it is
abbrev pub raw_head : Head → value.Head SymbolAt
raw_head (code.Null type) = value.whole (value.null type)
raw_head (code.Bool truth) = value.whole (value.bool truth)
raw_head (code.Int number) = value.whole (value.int number)
raw_head (code.Float float) = value.whole (value.float (value_of float))
raw_head (code.Decimal number) = value.whole (value.decimal number)
raw_head (code.Timestamp moment) = value.whole (value.timestamp moment)
raw_head (code.Symbol at) = value.whole (value.symbol (symbol_at at))
raw_head (code.String bytes) = value.whole (value.string bytes.now)
raw_head (code.Clob bytes) = value.whole (value.clob bytes.now)
raw_head (code.Blob bytes) = value.whole (value.blob bytes.now)
raw_head (code.Begin kind) = value.begin kind
raw_head code.End = value.end
raw_head code.Marker = value.marker

-- the annotations of an item in order, with their ids as they are
abbrev pub raw_annotations : {N : Type 0} → Annotations N → List SymbolAt
raw_annotations annotations = map (raw_annotation annotations.texts.now) annotations.entries.now

-- what has the texts of their ids
abbrev pub names_of : {N : Type 0} → Annotations N → N
names_of annotations = annotations.names.now

-- and those of an item's
abbrev pub item_names : {N : Type 0} → Item N → N
item_names item = names_of item.annotations

-- the item with its ids as they are
abbrev pub raw_item : {N : Type 0} → Item N → PlacedItem
raw_item item = record {
  field = raw_field item.field;
  annotations = raw_annotations item.annotations;
  head = raw_head item.head;
  place = item.place;
  top = item.top;
}

-- an id as the text that it has, if any
abbrev pub text_or_id : ℕ → Option (List ℕ) → Symbol
text_or_id id None = value.Id id
text_or_id id (Some bytes) = value.Text bytes

-- a symbol by the texts of ids: an id that has a text becomes this text, and all else stays
abbrev pub named : (ℕ → Option (List ℕ)) → Symbol → Symbol
named texts (value.Text bytes) = value.Text bytes
named texts (value.Id id) = text_or_id id (texts id)

-- the same of a symbol with its place, which stays
abbrev pub named_at : (ℕ → Option (List ℕ)) → SymbolAt → SymbolAt
named_at texts at = record { symbol = named texts at.symbol; place = at.place }

-- the same of each symbol of an item: its field, its annotations, and the symbol that it is
abbrev pub named_item : (ℕ → Option (List ℕ)) → PlacedItem → PlacedItem
named_item texts item = map_item (named_at texts) (λ place. place) item

-- the annotations of an item in order, each id that has a text by the item's own names being that text
abbrev pub annotations_of : {N : Type 0} → (N → ℕ → Option (List ℕ)) → Annotations N → List SymbolAt
annotations_of text annotations = map (named_at (text (names_of annotations))) (raw_annotations annotations)

-- the item by the texts that its own names have for ids
abbrev pub item_of : {N : Type 0} → (N → ℕ → Option (List ℕ)) → Item N → PlacedItem
item_of text item = named_item (text (item_names item)) (raw_item item)

-- whether a list has no element
abbrev pub is_none_left : {T : Type 0} → List T → Bool
is_none_left [] = true
is_none_left (x ∷ xs) = false
