-- What an Ion value is: a tree of annotations and values, and its items in order (Ion specification, "The Ion Data Model").
use Rattle.std.specs.Prelude.{ℕ, Bool, List, [], ◌∷◌, ◌++◌, map, Option, None, option_map, ⊤}
use Rattle.ion_value.specs.declared.ion_type.IonType.{IonType}
use Rattle.ion_value.specs.declared.ion_type.Kind.{Kind}
use lib.Ieee.{Float}
use Rattle.ion_value.specs.declared.int.Int.{Int}
use Rattle.ion_value.specs.declared.decimal.Decimal.{Decimal}
use Rattle.ion_value.specs.declared.timestamp.Timestamp.{Timestamp}

-- a symbol as a stream has it: a text, or an id, which is 2^31 for every id above 2^31 - 1
pub data Symbol : Type 0 where
  Text : (bytes : List ℕ) → Symbol
  Id : (id : ℕ) → Symbol

-- a symbol with the place of its first byte
pub record SymbolAt : Type 0 where
  pub symbol : Symbol
  pub place : ℕ

-- a symbol as a user of the stream knows it
pub data UserSymbol : Type 0 where
  Known : (bytes : List ℕ) → UserSymbol
  Unknown : UserSymbol

-- a value that holds no other, where symbols are of some type
pub data Scalar (S : Type 0) : Type 0 where
  null : (type : IonType) → Scalar S
  bool : (truth : Bool) → Scalar S
  int : (number : Int) → Scalar S
  float : (number : Float) → Scalar S
  decimal : (number : Decimal) → Scalar S
  timestamp : (moment : Timestamp) → Scalar S
  symbol : (name : S) → Scalar S
  string : (bytes : List ℕ) → Scalar S
  clob : (bytes : List ℕ) → Scalar S
  blob : (bytes : List ℕ) → Scalar S

-- values without their annotations, and what a container holds, in order: each a field in a struct, annotations, the place of the value
-- after them, and the value. Places are of some type too, so that trees may do without. A container has the place of its end.
mutual
  pub data Value (S P : Type 0) : Type 0 where
    scalar : (body : Scalar S) → Value S P
    container : (kind : Kind) → (members : Members S P) → (last : P) → Value S P

  -- the members of a container: none, or one after those before it
  pub data Members (S P : Type 0) : Type 0 where
    nothing : Members S P
    member : (before : Members S P) → (field : Option S) → (annotations : List S) → (place : P) → (value : Value S P) → Members S P

-- a value at top level with the place of its first byte, or a version marker
pub data Top (S P : Type 0) : Type 0 where
  version : (place : P) → Top S P
  tree : (first : P) → (annotations : List S) → (place : P) → (value : Value S P) → Top S P

-- ---- items

-- what an item is: a scalar, a container's beginning or end, or a version marker
pub data Head (S : Type 0) : Type 0 where
  whole : (body : Scalar S) → Head S
  begin : (kind : Kind) → Head S
  end : Head S
  marker : Head S

-- a scalar, a container's beginning or end, or a version marker, with the places of its head and of its top-level value
pub record Item (S P : Type 0) : Type 0 where
  pub field : Option S
  pub annotations : List S
  pub head : Head S
  pub place : P
  pub top : P

-- an item without field and annotations: its head, its place, and that of its top-level value
abbrev pub bare_item : {S P : Type 0} → Head S → P → P → Item S P
bare_item head place top = record { field = None; annotations = []; head = head; place = place; top = top }

abbrev mutual
  -- the items of a value, in the top-level value that begins at a place
  pub value_items : {S P : Type 0} → P → Option S → List S → P → Value S P → List (Item S P)
  value_items top f annotations place (scalar body) = record { field = f; annotations = annotations; head = whole body; place = place; top = top } ∷ []
  value_items top f annotations place (container kind members last) =
      record { field = f; annotations = annotations; head = begin kind; place = place; top = top } ∷ (member_items top members ++ bare_item end last top ∷ [])

  -- the items of a container's members, in order
  pub member_items : {S P : Type 0} → P → Members S P → List (Item S P)
  member_items top nothing = []
  member_items top (member before f annotations place value) = member_items top before ++ value_items top f annotations place value

-- the items of a value at top level, or the one that is a version marker
abbrev pub one_top : {S P : Type 0} → Top S P → List (Item S P)
one_top (version place) = bare_item marker place place ∷ []
one_top (tree first annotations place value) = value_items first None annotations place value

-- the items of all values and version markers at top level, in order
abbrev pub top_items : {S P : Type 0} → List (Top S P) → List (Item S P)
top_items [] = []
top_items (t ∷ ts) = one_top t ++ top_items ts

-- the items that readers give and writers take
abbrev pub PlacedItem : Type 0
PlacedItem = Item SymbolAt ℕ

-- ---- the same with other symbols and places

-- a scalar with another symbol where it is one
abbrev pub map_scalar : {S T : Type 0} → (S → T) → Scalar S → Scalar T
map_scalar f (null type) = null type
map_scalar f (bool truth) = bool truth
map_scalar f (int number) = int number
map_scalar f (float number) = float number
map_scalar f (decimal number) = decimal number
map_scalar f (timestamp moment) = timestamp moment
map_scalar f (symbol name) = symbol (f name)
map_scalar f (string bytes) = string bytes
map_scalar f (clob bytes) = clob bytes
map_scalar f (blob bytes) = blob bytes

-- the head of an item with another symbol where it is one
abbrev pub map_head : {S T : Type 0} → (S → T) → Head S → Head T
map_head f (whole body) = whole (map_scalar f body)
map_head f (begin kind) = begin kind
map_head f end = end
map_head f marker = marker

-- an item with other symbols, by the first function, and other places, by the second
abbrev pub map_item : {S T P Q : Type 0} → (S → T) → (P → Q) → Item S P → Item T Q
map_item f g i =
    record { field = option_map f i.field; annotations = map f i.annotations; head = map_head f i.head; place = g i.place; top = g i.top }

abbrev mutual
  -- the same of a value and all that it contains
  pub map_value : {S T P Q : Type 0} → (S → T) → (P → Q) → Value S P → Value T Q
  map_value f g (scalar body) = scalar (map_scalar f body)
  map_value f g (container kind members last) = container kind (map_members f g members) (g last)

  -- the same of the members of a container
  pub map_members : {S T P Q : Type 0} → (S → T) → (P → Q) → Members S P → Members T Q
  map_members f g nothing = nothing
  map_members f g (member before field annotations place value) =
      member (map_members f g before) (option_map f field) (map f annotations) (g place) (map_value f g value)

-- a place is forgotten, so that trees are compared without their places
abbrev pub no_place : {P : Type 0} → P → ⊤
no_place place = tt

-- a value at top level without its places
abbrev pub unplaced_top : {S P : Type 0} → Top S P → Top S ⊤
unplaced_top (version place) = version tt
unplaced_top (tree first annotations place value) = tree tt annotations tt (map_value (λ s. s) no_place value)

-- what a symbol is to a user who knows no other texts: an id is unknown
abbrev pub user_symbol : Symbol → UserSymbol
user_symbol (Text bytes) = Known bytes
user_symbol (Id id) = Unknown

-- ---- items of user values

-- a symbol with its place as a user of the stream knows it
abbrev pub user_symbol_at : SymbolAt → UserSymbol
user_symbol_at s = user_symbol s.symbol

-- an item with its symbols as a user knows them
abbrev pub user_item : PlacedItem → Item UserSymbol ℕ
user_item item = map_item user_symbol_at (λ place. place) item

-- items with their symbols as a user knows them
abbrev pub user_items : List PlacedItem → List (Item UserSymbol ℕ)
user_items items = map user_item items
