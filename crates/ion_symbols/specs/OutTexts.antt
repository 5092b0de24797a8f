-- How the texts of an output are kept: in order of id, each found by the binary digits of its hash, or all in order of bytes.
use Rattle.std.specs.Prelude.{◌≡◌, ℕ, zero, suc, ◌+◌, ◌/◌, ◌%◌, ◌^◌, ◌<◌, ◌≤◌, ◌==◌, ◌⊎◌, if◌then◌else◌, true, false, List, [], ◌∷◌, ◌++◌, length, map, slice_index, slice_index_or, Some, None}
use Rattle.ion_symbols.specs.declared.ordered.Place.{Place}
use Rattle.ion_symbols.specs.declared.out_texts.OutTexts.{OutTexts}
use Rattle.ion_symbols.specs.declared.out_texts.Spot.{Spot}
use Rattle.ion_symbols.specs.declared.out_texts.Spot.TheVariants.{InOrder, First, After}
use Rattle.ion_symbols.specs.declared.out_texts.Sought.{Sought}
use Rattle.ion_symbols.specs.declared.out_texts.Sought.TheVariants.{At, Free, TooFar}
use Rattle.ion_symbols.specs.Hash.{hash_of, bucket_in, digits_in}
use Rattle.ion_symbols.specs.Output.{Belongs, IsNew, position, system_id}
use Rattle.ion_symbols.specs.Ordered.{Follow, Orders, in_order, texts_in}

-- the texts in order of id
abbrev pub texts_of : {A : Type 0} → OutTexts A → List (List ℕ)
texts_of k = texts_in k.bytes k.places.items

-- each stands after the one before it, no two are alike, and none is of the system table
pub record AreDistinct (bytes : List ℕ) (places : List Place) : Type 0 where
  pub follow : Follow 0 places (length bytes)
  pub few : length places < 2 ^ 31
  pub distinct : (i j : ℕ) → i < length places → j < length places
      → slice_index_or (texts_in bytes places) i [] ≡ slice_index_or (texts_in bytes places) j [] → i ≡ j
  pub no_system : (i : ℕ) → i < length places → system_id (slice_index_or (texts_in bytes places) i []) ≡ None

-- ---- texts that are linked

-- the first links
abbrev pub firsts : List Place → List ℕ
firsts places = map (λ p. p.next) places

-- the link of a text, given by its number, that the last of some binary digits says: one more than the number of another text, or 0
unfoldable pub link_of : List ℕ → List ℕ → ℕ → ℕ → ℕ
link_of first second i digits = if digits % 2 == 0 then slice_index_or first i 0 else slice_index_or second i 0

-- a text is come to from another, which is given by one more than its number, by digits and over at most so many texts, itself counted
unfoldable pub IsReached : List ℕ → List ℕ → ℕ → ℕ → ℕ → ℕ → Type 0
IsReached first second zero digits at i = ⊥
IsReached first second (suc most) digits zero i = ⊥
IsReached first second (suc most) digits (suc k) i = (k ≡ i) ⊎ IsReached first second most (digits / 2) (link_of first second k digits) i

-- each text is come to by its digits from the first of its bucket
pub record AreLinked (texts : List (List ℕ)) (first second buckets : List ℕ) : Type 0 where
  pub first_within : (i : ℕ) → slice_index_or first i 0 ≤ length texts
  pub second_within : (i : ℕ) → slice_index_or second i 0 ≤ length texts
  pub reached : (i : ℕ) → i < length texts
      → IsReached first second 32 (digits_in (hash_of (slice_index_or texts i []))) (slice_index buckets (bucket_in (hash_of (slice_index_or texts i [])))) i

-- links that are not 0 stay
pub record Extend (first second first2 second2 : List ℕ) : Type 0 where
  pub kept : (i digits : ℕ) → 0 < link_of first second i digits → link_of first2 second2 i digits ≡ link_of first second i digits

-- ---- all of it

pub record AreKept {A : Type 0} (k : OutTexts A) : Type 0 where
  pub texts : AreDistinct k.bytes k.places.items
  pub place_cost : k.places.cost ≡ 12
  pub id_cost : k.ids.cost ≡ 4
  pub long : length k.ids.items ≡ length k.places.items
  pub many : length k.buckets ≡ 512
  pub fronts : (b : ℕ) → b < 512 → slice_index k.buckets b ≤ length k.places.items
  pub order : k.is_ordered ≡ true → Orders (texts_of k) k.ids.items
  pub links : k.is_ordered ≡ false → AreLinked (texts_of k) (firsts k.places.items) k.ids.items k.buckets

-- where it is linked from there a text is come to
pub record IsAfter {A : Type 0} (k : OutTexts A) (t : List ℕ) (number digits : ℕ) : Type 0 where
  pub linked : k.is_ordered ≡ false
  pub within : number < length k.places.items
  pub free : link_of (firsts k.places.items) k.ids.items number digits ≡ 0
  pub reaches : (first2 second2 : List ℕ) (i : ℕ) → Extend (firsts k.places.items) k.ids.items first2 second2
      → link_of first2 second2 number digits ≡ i + 1
      → IsReached first2 second2 32 (digits_in (hash_of t)) (slice_index k.buckets (bucket_in (hash_of t))) i

-- a spot is the one of a text that is new
abbrev pub IsSpot : {A : Type 0} → OutTexts A → List ℕ → Spot → Type 0
IsSpot k t (InOrder place) = (k.is_ordered ≡ true) × Belongs (in_order (texts_of k) k.ids.items) t place
IsSpot k t First = (k.is_ordered ≡ false) × (slice_index k.buckets (bucket_in (hash_of t)) ≡ 0)
IsSpot k t (After number digits) = IsAfter k t number digits

-- what is found by the links is right
abbrev pub Seeks : {A : Type 0} → OutTexts A → List ℕ → Sought → Type 0
Seeks k t (At number) = position (texts_of k) t ≡ Some number
Seeks k t (Free spot) = (position (texts_of k) t ≡ None) × IsSpot k t spot
Seeks k t TooFar = position (texts_of k) t ≡ None

-- ---- a text more

-- where the id of a text that is put at a spot stands among the others, and the id: its number, or no link
abbrev pub entry_at : Spot → ℕ → ℕ × ℕ
entry_at (InOrder place) number = (place, number)
entry_at First number = (number, 0)
entry_at (After other digits) number = (number, 0)

-- a text was put after the others, at a spot where it is not linked yet
pub record CanLink {A : Type 0} (now : OutTexts A) (t : List ℕ) (spot : Spot) : Type 0 where
  pub before : OutTexts A
  pub kept : AreKept before
  pub is_new : IsNew (texts_of before) t
  pub free : IsSpot before t spot
  pub texts : texts_of now ≡ texts_of before ++ t ∷ []
  pub follow : Follow 0 now.places.items (length now.bytes)
  pub few : length now.places.items < 2 ^ 31
  pub place_cost : now.places.cost ≡ 12
  pub id_cost : now.ids.cost ≡ 4
  pub long : length now.ids.items ≡ length now.places.items
  pub buckets : now.buckets ≡ before.buckets
  pub ordered : now.is_ordered ≡ before.is_ordered
  pub order : before.is_ordered ≡ true → Orders (texts_of now) now.ids.items
  pub first : firsts now.places.items ≡ firsts before.places.items ++ 0 ∷ []
  pub second : before.is_ordered ≡ false → now.ids.items ≡ before.ids.items ++ 0 ∷ []

-- a link is set
pub record Links {A : Type 0} (old new : OutTexts A) (number digits last : ℕ) : Type 0 where
  pub rest : new ≡ record old { places = new.places; ids = new.ids }
  pub texts : texts_of new ≡ texts_of old
  pub follow : Follow 0 old.places.items (length old.bytes) → Follow 0 new.places.items (length new.bytes)
  pub place_cost : new.places.cost ≡ old.places.cost
  pub id_cost : new.ids.cost ≡ old.ids.cost
  pub long : length new.ids.items ≡ length old.ids.items
  pub places : length new.places.items ≡ length old.places.items
  pub is_set : link_of (firsts new.places.items) new.ids.items number digits ≡ last
  pub kept : link_of (firsts old.places.items) old.ids.items number digits ≡ 0
      → Extend (firsts old.places.items) old.ids.items (firsts new.places.items) new.ids.items
  pub first_within : (i : ℕ) → (slice_index_or (firsts new.places.items) i 0 ≡ slice_index_or (firsts old.places.items) i 0)
      ⊎ (slice_index_or (firsts new.places.items) i 0 ≡ last)
  pub second_within : (i : ℕ) → (slice_index_or new.ids.items i 0 ≡ slice_index_or old.ids.items i 0) ⊎ (slice_index_or new.ids.items i 0 ≡ last)
