-- The laws of what a writer of text puts by a layout.
use Rattle.std.proofs.Common.{◌≡◌, ℕ, ◌*◌, List, [], ◌∷◌, ◌++◌, None, refl, arith, ap, sym, ◌∙◌, append_assoc, append-nil}
use Rattle.ion_meter.specs.declared.limits.Limits.{Limits}
use Rattle.ion_value.specs.Value.{PlacedItem, UserSymbol, Item}
use Rattle.ion_value.specs.Standing.{WritesWithin}
use Rattle.ion_text_out.specs.Layout.{Layout}
use Rattle.ion_text_out.specs.Text.{Open, item_text, items_text_by, open_after, open_after_all}
use Rattle.ion_text_out.specs.Writing.{text_adds, text_puts, text_refusal, IsReady}
use Rattle.ion_value.specs.Value.{user_item, user_items}

-- the text of items after others
pub items_append : (layout : Layout) (cs : Open) (is js : List (Item UserSymbol ℕ)) → items_text_by layout cs (is ++ js) ≡ items_text_by layout cs is ++ items_text_by layout (open_after_all cs is) js
items_append layout cs [] js = refl
items_append layout cs (i ∷ is) js =
    ap (λ t. item_text layout cs i ++ t) (items_append layout (open_after cs i.head) is js)
    ∙ sym (append_assoc (item_text layout cs i) (items_text_by layout (open_after cs i.head) is) (items_text_by layout (open_after_all (open_after cs i.head) is) js))

-- an item more adds its text
pub one_more : (layout : Layout) (is : List (Item UserSymbol ℕ)) (i : Item UserSymbol ℕ) → items_text_by layout [] (is ++ i ∷ []) ≡ items_text_by layout [] is ++ item_text layout (open_after_all [] is) i
one_more layout is i = items_append layout [] is (i ∷ []) ∙ ap (λ t. items_text_by layout [] is ++ t) (append-nil (item_text layout (open_after_all [] is) i))

-- items and one more, as a user knows them, are those items and then that one
pub user_items-append : (path : List PlacedItem) (item : PlacedItem) → user_items (path ++ item ∷ []) ≡ user_items path ++ user_item item ∷ []
user_items-append [] item = refl
user_items-append (i ∷ path) item = ap (λ (l : List (Item UserSymbol ℕ)). user_item i ∷ l) (user_items-append path item)

-- after what is put for items comes what one more adds
pub text_grows : (layout : Layout) (limits : Limits) (path : List PlacedItem) (item : PlacedItem) → text_refusal limits path item ≡ None → text_puts layout limits (path ++ item ∷ []) ≡ text_puts layout limits path ++ text_adds layout limits path item
text_grows layout limits path item none = ap (λ (l : List (Item UserSymbol ℕ)). items_text_by layout [] l) (user_items-append path item) ∙ one_more layout (user_items path) (user_item item)

-- with `level` containers open a writer holds no more than its limits allow, which is 2^59 at most
pub text-within : (limits : Limits) (level : ℕ) → IsReady limits level → WritesWithin (16 * level) (16 * limits.depth)
text-within limits level ready = record { share = omega (arith, ready.deep); small = omega (arith, ready.checked.depth) }
