-- What is seen of the annotations of an item, one by one.
use Rattle.std.proofs.Common.{◌≡◌, ℕ, ◌<◌, ap, refl, ◌∙◌, map, List, [], ◌∷◌, length, get_or, slice_get, Option, Some, None}
use Rattle.std.specs.Prelude.{option_map}
use Rattle.std.proofs.lemmas.Option.{slice_get-map, slice_get-get_or}
use Rattle.ion_value.specs.Value.{Symbol, Text, Id, SymbolAt, PlacedItem, Head, whole, begin, end, marker, null, bool, int, float, decimal, timestamp, symbol, string, clob, blob, map_head}
use Rattle.ion_value.specs.Items.{named_at, named_item}

-- a mapped list has the mapped element
pub slice_get-two_maps : {A B C : Type 0} (f : B → C) (g : A → B) (xs : List A) (i : ℕ) (d : A) → i < length xs → slice_get (map f (map g xs)) i ≡ Some (f (g (get_or xs i d)))
slice_get-two_maps f g xs i d lt =
    slice_get-map f (map g xs) i ∙ ap (option_map f) (slice_get-map g xs i ∙ ap (option_map g) (slice_get-get_or xs i d lt))

-- ---- names that have no text leave an item as it is

named_at-none : (at : SymbolAt) → named_at (λ _. None) at ≡ at
named_at-none at = named_symbol at.symbol at.place
  where
    named_symbol : (symbol : Symbol) (place : ℕ) → named_at (λ _. None) (record { symbol = symbol; place = place }) ≡ record { symbol = symbol; place = place }
    named_symbol (Text bytes) place = refl
    named_symbol (Id id) place = refl

named_field-none : (field : Option SymbolAt) → option_map (named_at (λ _. None)) field ≡ field
named_field-none None = refl
named_field-none (Some at) = ap Some (named_at-none at)

named_list-none : (annotations : List SymbolAt) → map (named_at (λ _. None)) annotations ≡ annotations
named_list-none [] = refl
named_list-none (at ∷ annotations) = rw (named_at-none at, named_list-none annotations) refl

named_head-none : (head : Head SymbolAt) → map_head (named_at (λ _. None)) head ≡ head
named_head-none (whole (null type)) = refl
named_head-none (whole (bool truth)) = refl
named_head-none (whole (int number)) = refl
named_head-none (whole (float number)) = refl
named_head-none (whole (decimal number)) = refl
named_head-none (whole (timestamp moment)) = refl
named_head-none (whole (symbol name)) = ap (λ n. whole (symbol n)) (named_at-none name)
named_head-none (whole (string bytes)) = refl
named_head-none (whole (clob bytes)) = refl
named_head-none (whole (blob bytes)) = refl
named_head-none (begin kind) = refl
named_head-none end = refl
named_head-none marker = refl

pub named_item-none : (item : PlacedItem) → named_item (λ _. None) item ≡ item
named_item-none item = rw (named_field-none item.field, named_list-none item.annotations, named_head-none item.head) refl
