-- Open paths: the whole values at top level so far, and the containers that are open after them.
use Rattle.std.specs.Prelude.{List, [], ◌∷◌, ◌++◌, Option, None, fold}
use Rattle.ion_value.specs.declared.ion_type.Kind.{Kind}
use Rattle.ion_value.specs.Value.{Value, scalar, container, Members, nothing, member, Top, version, tree, Head, whole, begin, end, marker, Item, member_items, top_items}

-- open containers, each with its annotations, place, kind and whole members, and after the first with its field
pub data Nest (S P : Type 0) : Type 0 where
  outermost : (annotations : List S) → (place : P) → (kind : Kind) → (members : Members S P) → Nest S P
  inner : (around : Nest S P) → (field : Option S) → (annotations : List S) → (place : P) → (kind : Kind) → (members : Members S P) → Nest S P

-- nothing is open, or a top-level value that begins at a place
pub data Path (S P : Type 0) : Type 0 where
  closed : (tops : List (Top S P)) → Path S P
  opened : (tops : List (Top S P)) → (first : P) → (nest : Nest S P) → Path S P

-- the item with which a container begins: the place of its top-level value, field, annotations, its own place and kind
abbrev pub begin_item : {S P : Type 0} → P → Option S → List S → P → Kind → Item S P
begin_item top f annotations place kind = record { field = f; annotations = annotations; head = begin kind; place = place; top = top }

-- the items of open containers and of their members so far, in the top-level value that begins at a place
abbrev pub nest_items : {S P : Type 0} → P → Nest S P → List (Item S P)
nest_items top (outermost annotations place kind members) = begin_item top None annotations place kind ∷ member_items top members
nest_items top (inner around f annotations place kind members) =
    nest_items top around ++ begin_item top f annotations place kind ∷ member_items top members

-- the items of a path, which has none for the ends of its open containers
abbrev pub path_items : {S P : Type 0} → Path S P → List (Item S P)
path_items (closed tops) = top_items tops
path_items (opened tops first nest) = top_items tops ++ nest_items first nest

-- ---- one item more

-- open containers with one more member in the innermost: its field, annotations, place and value
abbrev pub with_member : {S P : Type 0} → Nest S P → Option S → List S → P → Value S P → Nest S P
with_member (outermost annotations place kind members) f own at value = outermost annotations place kind (member members f own at value)
with_member (inner around g annotations place kind members) f own at value = inner around g annotations place kind (member members f own at value)

-- the path after a container's beginning and some of its members
abbrev pub open_in : {S P : Type 0} → Path S P → P → Option S → List S → P → Kind → Members S P → Path S P
open_in (closed tops) first f annotations place kind members = opened tops first (outermost annotations place kind members)
open_in (opened tops first nest) top f annotations place kind members = opened tops first (inner nest f annotations place kind members)

-- the path after the innermost container's end: whole top-level values, the open one's place, its containers, the end's place
abbrev pub with_end : {S P : Type 0} → List (Top S P) → P → Nest S P → P → Path S P
with_end tops first (outermost annotations place kind members) last = closed (tops ++ tree first annotations place (container kind members last) ∷ [])
with_end tops first (inner around f annotations place kind members) last =
    opened tops first (with_member around f annotations place (container kind members last))

-- a path and one item more: its field, annotations, place, the place of its top-level value, and its head
abbrev pub with_head : {S P : Type 0} → Path S P → Option S → List S → P → P → Head S → Path S P
with_head (closed tops) f annotations place top (whole body) = closed (tops ++ tree top annotations place (scalar body) ∷ [])
with_head (closed tops) f annotations place top (begin kind) = opened tops top (outermost annotations place kind nothing)
with_head (closed tops) f annotations place top end = closed tops
with_head (closed tops) f annotations place top marker = closed (tops ++ version place ∷ [])
with_head (opened tops first nest) f annotations place top (whole body) = opened tops first (with_member nest f annotations place (scalar body))
with_head (opened tops first nest) f annotations place top (begin kind) = opened tops first (inner nest f annotations place kind nothing)
with_head (opened tops first nest) f annotations place top end = with_end tops first nest place
with_head (opened tops first nest) f annotations place top marker = opened tops first nest

-- a path and one item more; an end or a marker where none may stand changes nothing
abbrev pub with_item : {S P : Type 0} → Path S P → Item S P → Path S P
with_item path item = with_head path item.field item.annotations item.place item.top item.head

-- the path that items lead to
abbrev pub path_of : {S P : Type 0} → List (Item S P) → Path S P
path_of items = fold with_item (closed []) items

-- ---- all that is open closes at a place

-- the top-level values with the one that is open, each container closed after what is added to its members
abbrev pub close_all : {S P : Type 0} → List (Top S P) → P → P → (Members S P → Members S P) → Nest S P → List (Top S P)
close_all tops first last add (outermost annotations place kind members) = tops ++ tree first annotations place (container kind (add members) last) ∷ []
close_all tops first last add (inner around f annotations place kind members) =
    close_all tops first last (λ before. member before f annotations place (container kind (add members) last)) around

-- the top-level values of a path, with all open containers closed at a place
abbrev pub closing : {S P : Type 0} → P → Path S P → List (Top S P)
closing last (closed tops) = tops
closing last (opened tops first nest) = close_all tops first last (λ members. members) nest
