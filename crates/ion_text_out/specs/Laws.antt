-- What is true of the definitions of text: laws that contracts cite.
use Rattle.std.specs.Prelude.{◌≡◌, ℕ, List, [], ◌∷◌, ◌++◌}
use Rattle.ion_value.specs.Value.{UserSymbol, Top, Item, top_items}
use Rattle.ion_value.specs.Path.{Path, path_items}
use Rattle.ion_text_out.specs.Layout.{Layout, IsLayout, canonical, pretty}
use Rattle.ion_text_out.specs.Text.{item_text, items_text_by, open_after_all, path_text_by, text_by}

-- an item more adds its text
abbrev pub ItemsAddTheirText : Type 0
ItemsAddTheirText =
    (layout : Layout) (items : List (Item UserSymbol ℕ)) (item : Item UserSymbol ℕ)
    → items_text_by layout [] (items ++ item ∷ []) ≡ items_text_by layout [] items ++ item_text layout (open_after_all [] items) item

-- the text of whole values by a layout is that of their items
abbrev pub TextIsThatOfItemsBy : Layout → Type 0
TextIsThatOfItemsBy layout = (tops : List (Top UserSymbol ℕ)) → items_text_by layout [] (top_items tops) ≡ text_by layout tops

-- so is that of a path whose containers are still open
abbrev pub PathTextIsThatOfItemsBy : Layout → Type 0
PathTextIsThatOfItemsBy layout = (path : Path UserSymbol ℕ) → items_text_by layout [] (path_items path) ≡ path_text_by layout path

-- and both are by each layout
abbrev pub EachTextIsThatOfItems : Type 0
EachTextIsThatOfItems = (layout : Layout) → TextIsThatOfItemsBy layout × PathTextIsThatOfItemsBy layout

-- canonical text
abbrev pub TextIsThatOfItems : Type 0
TextIsThatOfItems = TextIsThatOfItemsBy canonical

abbrev pub PathTextIsThatOfItems : Type 0
PathTextIsThatOfItems = PathTextIsThatOfItemsBy canonical

-- both layouts put only white space and what the grammar asks for
abbrev pub AreLayouts : Type 0
AreLayouts = IsLayout canonical × IsLayout pretty
