-- The text of values by a layout, of whole ones, and of a path whose containers are still open; and canonical text, which is that by the layout `canonical`.
use Rattle.std.specs.Prelude.{ℕ, suc, Bool, true, false, if◌then◌else◌, List, [], ◌∷◌, ◌++◌, length, drop, fold, Option, Some, None, codes}
use Rattle.std.specs.List.{flat_map}
use Rattle.base64.specs.Engines.{standard}
use Rattle.base64.specs.GeneralPurpose.{encode_of}
use Rattle.ion_value.specs.declared.ion_type.Kind.{Kind}
use Rattle.ion_value.specs.declared.ion_type.Kind.TheVariants.{List as list, Sexp as sexp, Struct as struct}
use Rattle.ion_value.specs.Name.{bool_text, is_plain, null_text}
use Rattle.ion_value.specs.Int.{int_text}
use Rattle.ion_value.specs.Decimal.{decimal_text}
use Rattle.ion_value.specs.FloatText.{float_text}
use Rattle.ion_value.specs.Timestamp.{timestamp_text}
use Rattle.ion_value.specs.Value as v
use Rattle.ion_value.specs.Value.{UserSymbol, Known, Unknown, Scalar, Value, Members, scalar, container, nothing, member, Top, tree, Head, Item}
use Rattle.ion_value.specs.Path.{Nest, outermost, inner, Path, closed, opened}
use Rattle.ion_text_out.specs.Escape.{between_quotes}
use Rattle.ion_text_out.specs.Layout.{Layout, further_in, canonical}
pub use Rattle.ion_text_out.specs.Layout.{before_next, separator}

-- a symbol stands without quotes where its text is an identifier that means nothing else; one of unknown text is `$0`
abbrev pub symbol_text : UserSymbol → List ℕ
symbol_text (Known t) = if is_plain t then t else between_quotes 39 256 t
symbol_text Unknown = codes "$0"

-- the text of a scalar, without field and annotations
abbrev pub scalar_text : Scalar UserSymbol → List ℕ
scalar_text (v.null type) = null_text type
scalar_text (v.bool truth) = bool_text truth
scalar_text (v.int number) = int_text number
scalar_text (v.float number) = float_text number
scalar_text (v.decimal number) = decimal_text number
scalar_text (v.timestamp moment) = timestamp_text moment
scalar_text (v.symbol s) = symbol_text s
scalar_text (v.string bytes) = between_quotes 34 256 bytes
scalar_text (v.clob bytes) = codes "{{" ++ (between_quotes 34 128 bytes ++ codes "}}")
scalar_text (v.blob bytes) = codes "{{" ++ (encode_of standard bytes ++ codes "}}")

-- a field's name and what a layout has after it, and nothing where there is no field
abbrev pub field_text_by : Layout → Option UserSymbol → List ℕ
field_text_by layout None = []
field_text_by layout (Some s) = symbol_text s ++ layout.after_name

-- an annotation and its two colons
abbrev pub annotation_text : UserSymbol → List ℕ
annotation_text s = symbol_text s ++ codes "::"

-- the bracket that opens a container of a kind
abbrev pub opener : Kind → List ℕ
opener list = codes "["
opener sexp = codes "("
opener struct = codes "{"

-- the bracket that closes a container of a kind
abbrev pub closer : Kind → List ℕ
closer list = codes "]"
closer sexp = codes ")"
closer struct = codes "}"

-- there are no members
abbrev pub is_empty : {S P : Type 0} → Members S P → Bool
is_empty nothing = true
is_empty (member before field annotations place value) = false

-- ---- whole values

abbrev mutual
  -- the text of a value, without field and annotations; depths are counted from where it stands
  pub value_text_by : {P : Type 0} → Layout → Value UserSymbol P → List ℕ
  value_text_by layout (scalar body) = scalar_text body
  value_text_by layout (container kind members last) =
      opener kind ++ (members_text_by (further_in 1 layout) kind members ++ (layout.before_closer (is_empty members) 0 ++ closer kind))

  -- the text of the members of a container of this kind, each after what the layout has before it
  pub members_text_by : {P : Type 0} → Layout → Kind → Members UserSymbol P → List ℕ
  members_text_by layout kind nothing = []
  members_text_by layout kind (member before field annotations place value) =
      members_text_by layout kind before
      ++ (layout.before_member kind (is_empty before) 0 ++ (field_text_by layout field ++ (flat_map annotation_text annotations ++ value_text_by layout value)))

-- each value at top level ends its line; version markers have no text
abbrev pub top_text_by : {P : Type 0} → Layout → Top UserSymbol P → List ℕ
top_text_by layout (v.version place) = []
top_text_by layout (tree first annotations place value) = flat_map annotation_text annotations ++ (value_text_by layout value ++ codes "\n")

-- the text of values at top level, in lines for each
abbrev pub text_by : {P : Type 0} → Layout → List (Top UserSymbol P) → List ℕ
text_by layout tops = flat_map (top_text_by layout) tops

-- ---- paths whose containers are still open

-- the kind of the innermost open container
abbrev pub inner_kind : {S P : Type 0} → Nest S P → Kind
inner_kind (outermost annotations place kind members) = kind
inner_kind (inner around field annotations place kind members) = kind

-- the members so far of the innermost open container
abbrev pub inner_members : {S P : Type 0} → Nest S P → Members S P
inner_members (outermost annotations place kind members) = members
inner_members (inner around field annotations place kind members) = members

-- how many containers are open
abbrev pub nest_depth : {S P : Type 0} → Nest S P → ℕ
nest_depth (outermost annotations place kind members) = 1
nest_depth (inner around field annotations place kind members) = suc (nest_depth around)

-- each open container with its members so far, after what is around it, and no bracket closed
abbrev pub nest_text_by : {P : Type 0} → Layout → Nest UserSymbol P → List ℕ
nest_text_by layout (outermost annotations place kind members) =
    flat_map annotation_text annotations ++ (opener kind ++ members_text_by (further_in 1 layout) kind members)
nest_text_by layout (inner around field annotations place kind members) =
    nest_text_by layout around
    ++ (layout.before_member (inner_kind around) (is_empty (inner_members around)) (nest_depth around)
    ++ (field_text_by layout field
    ++ (flat_map annotation_text annotations ++ (opener kind ++ members_text_by (further_in (suc (nest_depth around)) layout) kind members))))

-- the text of a path: its whole values, and after them what is open
abbrev pub path_text_by : {P : Type 0} → Layout → Path UserSymbol P → List ℕ
path_text_by layout (closed tops) = text_by layout tops
path_text_by layout (opened tops first nest) = text_by layout tops ++ nest_text_by layout nest

-- ---- the streaming definition, item by item

-- the open containers, the innermost first, and whether each has no member yet
abbrev pub Open : Type 0
Open = List (Kind × Bool)

-- what stands before a value: where a container is open, what the layout has before a member of the innermost
abbrev pub before_item : Layout → Open → List ℕ
before_item layout [] = []
before_item layout (c ∷ cs) = layout.before_member c.0 c.1 (suc (length cs))

-- what stands after a whole value: the end of its line at top level
abbrev pub after_value : Open → List ℕ
after_value [] = codes "\n"
after_value (c ∷ cs) = []

-- the open containers, of which the innermost has a member now
abbrev pub with_member : Open → Open
with_member [] = []
with_member (c ∷ cs) = (c.0, false) ∷ cs

-- what a container's end adds: the bracket that closes the innermost after what the layout has before it, and the line's end where none is open around
-- that
abbrev pub end_text : Layout → Open → List ℕ
end_text layout [] = []
end_text layout (c ∷ cs) = layout.before_closer c.1 (length cs) ++ (closer c.0 ++ after_value cs)

-- what an item adds, by its head; `prefix` is the text of its field and annotations
abbrev pub head_text : Layout → Open → List ℕ → Head UserSymbol → List ℕ
head_text layout cs prefix (v.whole body) = before_item layout cs ++ (prefix ++ (scalar_text body ++ after_value cs))
head_text layout cs prefix (v.begin kind) = before_item layout cs ++ (prefix ++ opener kind)
head_text layout cs prefix v.end = end_text layout cs
head_text layout cs prefix v.marker = []

-- what an item adds: what parts it from the one before it stands first, and a line's end after a value at top level
abbrev pub item_text : {P : Type 0} → Layout → Open → Item UserSymbol P → List ℕ
item_text layout cs i = head_text layout cs (field_text_by layout i.field ++ flat_map annotation_text i.annotations) i.head

-- the open containers after an item
abbrev pub open_after : Open → Head UserSymbol → Open
open_after cs (v.whole body) = with_member cs
open_after cs (v.begin kind) = (kind, true) ∷ with_member cs
open_after cs v.end = drop 1 cs
open_after cs v.marker = cs

-- the open containers after items
abbrev pub open_after_all : {P : Type 0} → Open → List (Item UserSymbol P) → Open
open_after_all cs items = fold (λ c i. open_after c i.head) cs items

-- the text of the items of a path: of whole values at top level, and of those that are open, with no closing bracket
abbrev pub items_text_by : {P : Type 0} → Layout → Open → List (Item UserSymbol P) → List ℕ
items_text_by layout cs [] = []
items_text_by layout cs (i ∷ is) = item_text layout cs i ++ items_text_by layout (open_after cs i.head) is

-- ---- canonical text

abbrev pub field_text : Option UserSymbol → List ℕ
field_text field = field_text_by canonical field

abbrev pub value_text : {P : Type 0} → Value UserSymbol P → List ℕ
value_text value = value_text_by canonical value

abbrev pub members_text : {P : Type 0} → Kind → Members UserSymbol P → List ℕ
members_text kind members = members_text_by canonical kind members

abbrev pub top_text : {P : Type 0} → Top UserSymbol P → List ℕ
top_text top = top_text_by canonical top

abbrev pub text : {P : Type 0} → List (Top UserSymbol P) → List ℕ
text tops = text_by canonical tops

abbrev pub path_text : {P : Type 0} → Path UserSymbol P → List ℕ
path_text path = path_text_by canonical path

abbrev pub items_text : {P : Type 0} → Open → List (Item UserSymbol P) → List ℕ
items_text cs items = items_text_by canonical cs items
