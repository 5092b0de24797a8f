-- An item of which no id is named is seen as it is.
use Rattle.std.proofs.Common.{◌≡◌, None, ap}
use Rattle.ion_value.specs.declared.item.Item.{Item}
use Rattle.ion_value.specs.Items.{raw_item, item_of}
use Rattle.ion_value.proofs.Items.{named_item-none}

-- its field
pub field_unnamed : {N : Type 0} (item : Item N) → (item_of (λ _ _. None) item).field ≡ (raw_item item).field
field_unnamed item = ap (λ i. i.field) (named_item-none (raw_item item))

-- and its head
pub head_unnamed : {N : Type 0} (item : Item N) → (item_of (λ _ _. None) item).head ≡ (raw_item item).head
head_unnamed item = ap (λ i. i.head) (named_item-none (raw_item item))
