-- What the limits of a writer refuse, over trees: the texts that have ids after values, and how long the value is that an item belongs to. Laws say
-- that the streaming definition refuses the same, and which values it refuses nothing of.
use Rattle.std.specs.Prelude.{◌≡◌, ◌↔◌, ℕ, ◌≤◌, List, [], ◌∷◌, ◌++◌, length, Option, None, ⊤}
use Rattle.ion_meter.specs.declared.fault.Reason.{Reason}
use Rattle.ion_meter.specs.declared.limits.Limits.{Limits}
use Rattle.ion_value.specs.Path.{Path, closed, opened, closing, path_items, with_item}
use Rattle.ion_value.specs.Value.{UserSymbol, Top, version, tree, Item, PlacedItem, top_items, user_item, user_items}
use Rattle.ion_value.specs.Writable.{value_symbols}
use Rattle.ion_symbols.specs.Output.{texts_cost}
use Rattle.ion_binary.specs.Canonical.{id_in, is_over, member_octets, texts_kept, value_octets, with_symbols}
use Rattle.ion_binary.specs.Writing.{binary_refusal, first_over, item_symbols, refused_by}
use Rattle.ion_binary.specs.WritingLaws.{last_size}

-- ---- the texts that have ids

-- of texts those with which the next value at top level begins
abbrev pub texts_left : ℕ → List (List ℕ) → List (List ℕ)
texts_left limit texts = texts_kept (is_over limit texts) texts

-- after values at top level, where these have ids before the first
abbrev pub texts_after : {P : Type 0} → ℕ → List (List ℕ) → List (Top UserSymbol P) → List (List ℕ)
texts_after limit texts [] = texts
texts_after limit texts (version place ∷ ts) = texts_after limit texts ts
texts_after limit texts (tree first annotations place x ∷ ts) =
    texts_after limit (with_symbols (texts_left limit texts) (value_symbols None annotations x)) ts

-- before an item after a path: those of the symbols that the open value has so far, and of what was kept as it began; where no value is open the
-- next one begins
abbrev pub path_texts : {P : Type 0} → ℕ → Path UserSymbol P → List (List ℕ)
path_texts limit (closed tops) = texts_left limit (texts_after limit [] tops)
path_texts limit (opened tops first nest) = texts_after limit [] (closing first (opened tops first nest))

-- ---- what is refused

-- the length of the last value of a path with an item, where all that is open after the item is closed there
abbrev pub size_with : {P : Type 0} → ℕ → Path UserSymbol P → Item UserSymbol P → ℕ
size_with limit path item =
    let tops = closing item.place (with_item path item) in
    last_size (id_in (texts_after limit [] tops)) tops

-- an item is refused at the first of its symbols with which the texts cost more than their limit; or else, where its value at top level so closed
-- is longer than the limit on values, at the first byte of that value
abbrev pub refused_after : Limits → Path UserSymbol ℕ → PlacedItem → Option (Reason × ℕ)
refused_after limits path item =
    refused_by limits.value (size_with limits.symbols path (user_item item)) item.top
    (first_over limits.symbols (path_texts limits.symbols path) (item_symbols item))

-- item by item the same is refused, after the items of each path with which the item makes another
abbrev pub ItemsAreRefusedAsInTrees : Type 0
ItemsAreRefusedAsInTrees =
    (limits : Limits) (path : Path UserSymbol ℕ) (before : List PlacedItem) (item : PlacedItem) → user_items before ≡ path_items path
    → path_items (with_item path (user_item item)) ≡ path_items path ++ user_item item ∷ []
    → binary_refusal limits before item ≡ refused_after limits path item

-- ---- what is not refused

-- none of the items is refused after those before it
abbrev pub NoneIsRefused : Limits → List PlacedItem → Type 0
NoneIsRefused limits items = (before rest : List PlacedItem) (item : PlacedItem) → items ≡ before ++ item ∷ rest → binary_refusal limits before item ≡ None

-- the texts of each value, with those that are kept before it, cost no more than their limit, and no value is longer than the limit on values
abbrev pub AreWithin : {P : Type 0} → Limits → List (List ℕ) → List (Top UserSymbol P) → Type 0
AreWithin limits texts [] = ⊤
AreWithin limits texts (version place ∷ ts) = AreWithin limits texts ts
AreWithin limits texts (tree first annotations place x ∷ ts) =
    let all = with_symbols (texts_left limits.symbols texts) (value_symbols None annotations x) in
    (texts_cost all ≤ limits.symbols)
    × (length (member_octets (id_in all) None annotations (value_octets (id_in all) x)) ≤ limits.value)
    × AreWithin limits all ts

-- the items of whole values are refused nowhere exactly where the values are within the limits
abbrev pub NoneIsRefusedWithin : Type 0
NoneIsRefusedWithin =
    (limits : Limits) (items : List PlacedItem) (tops : List (Top UserSymbol ℕ)) → user_items items ≡ top_items tops
    → NoneIsRefused limits items ↔ AreWithin limits [] tops
