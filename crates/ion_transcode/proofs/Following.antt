-- The items that a writer took are those in front of what is to come.
use Rattle.std.proofs.Common.{◌≡◌, List, [], ◌∷◌, ◌++◌, ap, sym, subst, ◌∙◌, append-nil}
use Rattle.ion_value.specs.declared.ion_type.Kind.{Kind}
use Rattle.ion_value.specs.Value.{PlacedItem}
use Rattle.ion_value.specs.Reading.{Reading, Finished, More, items_of, items_then}
use Rattle.ion_value.specs.Standing.{open_after, open_after_all}
use Rattle.ion_value.proofs.Outcomes.{open_after_all-append}
use Rattle.ion_value.proofs.Readings.{items_then-append, items_of-items_then}

-- a writer stands after items, and the rest of a reading does
pub record Followed (stands : List PlacedItem → Type 0) (reads : Type 0) (kinds : List Kind) (all rest : Reading) : Type 0 where
  pub path : List PlacedItem
  pub stands_at : stands path
  pub kinds_at : open_after_all [] path ≡ kinds
  pub all_is : reads → all ≡ items_then path rest

-- an item more
pub followed-more : {stands later : List PlacedItem → Type 0} {reads : Type 0} {kinds : List Kind} {all rest : Reading} (f : Followed stands reads kinds all rest)
    (item : PlacedItem) (more : Reading) (kinds_then : List Kind) → (reads → rest ≡ More item more) → later (f.path ++ item ∷ []) → kinds_then ≡ open_after kinds item.head
    → Followed later reads kinds_then all more
followed-more f item more kinds_then is stands opens = record {
  path = f.path ++ item ∷ [];
  stands_at = stands;
  kinds_at = open_after_all-append [] f.path item ∙ (ap (λ k. open_after k item.head) f.kinds_at ∙ sym opens);
  all_is = λ r. f.all_is r ∙ (ap (items_then f.path) (is r) ∙ sym (items_then-append f.path (item ∷ []) more));
}

-- at the end these are all items
pub followed-all : {stands : List PlacedItem → Type 0} {reads : Type 0} {kinds : List Kind} {all rest : Reading} (f : Followed stands reads kinds all rest)
    → reads → rest ≡ Finished → stands (items_of all)
followed-all {stands = stands} f r ends =
    subst stands (sym (ap items_of (f.all_is r ∙ ap (items_then f.path) ends) ∙ (items_of-items_then f.path Finished ∙ append-nil f.path))) f.stands_at
