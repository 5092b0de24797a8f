-- What is true of the canonical form: laws that contracts cite.
use Rattle.std.specs.Prelude.{◌≡◌, ℕ, ◌<◌, ◌≤◌, ◌++◌, List, [], ◌∷◌, length, Option, Some, None, false}
use Rattle.ion_meter.specs.declared.fault.Reason.{Reason}
use Rattle.ion_meter.specs.declared.limits.Limits.{Limits}
use Rattle.ion_value.specs.declared.ion_type.Kind.{Kind}
use Rattle.ion_value.specs.Path.{Nest, outermost, inner, Path, closed, opened, closing, path_items, with_item}
use Rattle.ion_value.specs.Standing.{Fits, is_marker}
use Rattle.ion_value.specs.Value.{UserSymbol, Known, Top, version, tree, Item, PlacedItem, top_items}
use Rattle.ion_symbols.specs.Output.{id_given, texts_cost}
use Rattle.ion_binary.specs.Canonical.{binary, id_in, member_octets, value_octets, with_symbol}
use Rattle.ion_binary.specs.Writing.{after_all, at_begin, binary_adds, binary_puts, binary_refusal, closed_size, with_ids_given}

-- the items of whole values put the canonical form of the values, whatever the limit of symbol tables
abbrev pub ItemsPutTheForm : Type 0
ItemsPutTheForm = (limit : ℕ) (tops : List (Top UserSymbol ℕ)) → (after_all limit at_begin (top_items tops)).octets ≡ binary limit tops

-- after them the items of a value that is open put nothing, no version marker that is due either
abbrev pub OpenItemsPutWhatIsWhole : Type 0
OpenItemsPutWhatIsWhole =
    (limit : ℕ) (tops : List (Top UserSymbol ℕ)) (first : ℕ) (nest : Nest UserSymbol ℕ)
    → (after_all limit at_begin (path_items (opened tops first nest))).octets ≡ binary limit tops

-- an item that is not refused adds what it puts
abbrev pub ItemsAddTheirOctets : Type 0
ItemsAddTheirOctets =
    (limits : Limits) (path : List PlacedItem) (item : PlacedItem) → binary_refusal limits path item ≡ None
    → binary_puts limits (path ++ item ∷ []) ≡ binary_puts limits path ++ binary_adds limits path item

-- an item that is refused adds nothing
abbrev pub RefusedItemsAddNothing : Type 0
RefusedItemsAddNothing =
    (limits : Limits) (path : List PlacedItem) (item : PlacedItem) (why : Reason × ℕ) → binary_refusal limits path item ≡ Some why
    → binary_adds limits path item ≡ []

-- ---- the closed size

-- the kinds of the open containers of a path, the innermost first
abbrev pub nest_kinds : {S P : Type 0} → Nest S P → List Kind
nest_kinds (outermost annotations place kind members) = kind ∷ []
nest_kinds (inner around f annotations place kind members) = kind ∷ nest_kinds around

-- the kinds of the open containers of a path, the innermost first; none where nothing is open
abbrev pub path_kinds : {S P : Type 0} → Path S P → List Kind
path_kinds (closed tops) = []
path_kinds (opened tops first nest) = nest_kinds nest

-- the length of a value at top level, and 0 of a version marker
abbrev pub top_size : {P : Type 0} → (UserSymbol → ℕ) → Top UserSymbol P → ℕ
top_size ids (version place) = 0
top_size ids (tree first annotations place x) = length (member_octets ids None annotations (value_octets ids x))

-- the length of the last of these, value or version marker, and `size` where there are none
abbrev pub size_after : {P : Type 0} → (UserSymbol → ℕ) → ℕ → List (Top UserSymbol P) → ℕ
size_after ids size [] = size
size_after ids size (t ∷ ts) = size_after ids (top_size ids t) ts

-- the length of the last of these, value or version marker, and 0 where there are none
abbrev pub last_size : {P : Type 0} → (UserSymbol → ℕ) → List (Top UserSymbol P) → ℕ
last_size ids tops = size_after ids 0 tops

-- the closed size of a path with an item is the length of its last value where all that is open after the item is closed there
abbrev pub ClosedSizeIsThatOfTheClosing : Type 0
ClosedSizeIsThatOfTheClosing =
    (limit depth last : ℕ) (path : Path UserSymbol ℕ) (item : Item UserSymbol ℕ) → Fits depth (path_kinds path) item → is_marker item.head ≡ false
    → closed_size limit (after_all limit at_begin (path_items path)) item
    ≡ last_size (id_in (with_ids_given limit (after_all limit at_begin (path_items path)) item).texts) (closing last (with_item path item))

-- ---- ids

-- what the symbol table of an output gives of a text, with the texts afterwards: its id among them, or none where they would cost too much
abbrev pub IsGiven : ℕ → List (List ℕ) → List ℕ → Option ℕ → List (List ℕ) → Type 0
IsGiven limit texts t (Some id) after = (after ≡ with_symbol texts (Known t)) × (id ≡ id_in after (Known t)) × (texts_cost after ≤ limit)
IsGiven limit texts t None after = (after ≡ texts) × (limit < texts_cost (with_symbol texts (Known t)))

-- so it is of each text, wherever the texts before it cost no more than the limit
abbrev pub IdsAreGiven : Type 0
IdsAreGiven = (limit : ℕ) (texts : List (List ℕ)) (t : List ℕ) → texts_cost texts ≤ limit → IsGiven limit texts t (id_given limit texts t).0 (id_given limit texts t).1
