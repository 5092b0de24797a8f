-- Where items may stand.
use Rattle.std.specs.Prelude.{◌≡◌, ℕ, ◌^◌, ◌<◌, ◌≤◌, Bool, true, false, List, [], ◌∷◌, length, drop, is_some, fold, ⊤}
use Rattle.ion_meter.specs.declared.limits.Limits.{Limits}
use Rattle.ion_value.specs.declared.ion_type.Kind.{Kind}
use Rattle.ion_value.specs.declared.ion_type.Kind.TheVariants.{Struct}
use Rattle.ion_value.specs.Int.{IsInt}
use Rattle.ion_value.specs.Decimal.{IsDecimal}
use Rattle.ion_value.specs.Float.{IsFloat}
use Rattle.ion_value.specs.Timestamp.{IsTimestamp}
use Rattle.ion_value.specs.Value.{Scalar, null, bool, int, float, decimal, timestamp, symbol, string, clob, blob, Head, whole, begin, end, marker, Item, PlacedItem}

-- the kinds of the open containers after an item, the innermost first
abbrev pub open_after : {S : Type 0} → List Kind → Head S → List Kind
open_after kinds (whole body) = kinds
open_after kinds (begin kind) = kind ∷ kinds
open_after kinds end = drop 1 kinds
open_after kinds marker = kinds

-- whether the innermost of these containers is a struct
abbrev pub in_struct : List Kind → Bool
in_struct [] = false
in_struct (Struct ∷ kinds) = true
in_struct (_ ∷ kinds) = false

-- numbers and timestamps are those of this library
abbrev pub InRange : {S : Type 0} → Scalar S → Type 0
InRange (int number) = IsInt number
InRange (float number) = IsFloat number
InRange (decimal number) = IsDecimal number
InRange (timestamp moment) = IsTimestamp moment
InRange (null type) = ⊤
InRange (bool truth) = ⊤
InRange (symbol name) = ⊤
InRange (string bytes) = ⊤
InRange (clob bytes) = ⊤
InRange (blob bytes) = ⊤

-- so are those of an item
abbrev pub HeadInRange : {S : Type 0} → Head S → Type 0
HeadInRange (whole body) = InRange body
HeadInRange (begin kind) = ⊤
HeadInRange end = ⊤
HeadInRange marker = ⊤

-- so many containers may be open, and of these kinds there are some: none ends that did not begin, and a version marker stands at top level
abbrev pub HasPlace : {S : Type 0} → ℕ → List Kind → Head S → Type 0
HasPlace depth kinds (whole body) = InRange body
HasPlace depth kinds (begin kind) = length kinds < depth
HasPlace depth kinds end = 0 < length kinds
HasPlace depth kinds marker = kinds ≡ []

-- a field stands at a struct's members alone
abbrev pub has_field : {S : Type 0} → List Kind → Head S → Bool
has_field kinds (whole body) = in_struct kinds
has_field kinds (begin kind) = in_struct kinds
has_field kinds end = false
has_field kinds marker = false

-- and an end or a marker has no annotations
abbrev pub HasAnnotations : {S : Type 0} → Head S → List S → Type 0
HasAnnotations (whole body) annotations = ⊤
HasAnnotations (begin kind) annotations = ⊤
HasAnnotations end annotations = annotations ≡ []
HasAnnotations marker annotations = annotations ≡ []

-- an item may come where these containers are open
pub record Fits {S P : Type 0} (depth : ℕ) (kinds : List Kind) (item : Item S P) : Type 0 where
  pub place : HasPlace depth kinds item.head
  pub field : is_some item.field ≡ has_field kinds item.head
  pub annotations : HasAnnotations item.head item.annotations

-- whether the head of an item is a version marker
abbrev pub is_marker : {S : Type 0} → Head S → Bool
is_marker marker = true
is_marker (whole body) = false
is_marker (begin kind) = false
is_marker end = false

-- the open containers after items, the innermost first
abbrev pub open_after_all : List Kind → List PlacedItem → List Kind
open_after_all kinds items = fold (λ k i. open_after k i.head) kinds items

-- an item that is no marker may come after these items
pub record Continues (limits : Limits) (path : List PlacedItem) (item : PlacedItem) : Type 0 where
  pub fits : Fits limits.depth (open_after_all [] path) item
  pub value : is_marker item.head ≡ false

-- what every reader has that has not gone wrong: it holds no more than its cap, and no more containers are open than may be
pub record ReadsWithin (own most depth opened left : ℕ) : Type 0 where
  pub share : own ≤ most
  pub small : most ≤ 2 ^ 59
  pub deep : depth ≤ 65535
  pub level : opened ≤ depth
  pub few : left ≤ 2 ^ 60

-- and every writer
pub record WritesWithin (own most : ℕ) : Type 0 where
  pub share : own ≤ most
  pub small : most ≤ 2 ^ 59
