-- What a writer of text puts by a layout, and what is seen of it.
use Rattle.std.specs.Prelude.{◌≡◌, ℕ, ◌<◌, ◌≤◌, Bool, true, false, List, [], ◌∷◌, ◌++◌, length, map, reverse, slice_get, Option, Some, None, ⊤}
use Rattle.std.specs.List.{flat_map}
use Rattle.ion_meter.specs.declared.fault.Reason.{Reason}
use Rattle.ion_meter.specs.declared.limits.Limits.{Limits}
use Rattle.ion_meter.specs.Limits.{AreChecked}
use Rattle.ion_value.specs.declared.ion_type.Kind.{Kind}
use Rattle.ion_value.specs.Value as v
use Rattle.ion_value.specs.Value.{SymbolAt, UserSymbol, user_symbol, user_symbol_at, user_item, user_items, map_head, Head, PlacedItem}
use Rattle.ion_text_out.specs.declared.layout.Gap.{Gap}
use Rattle.ion_text_out.specs.Layout.{Layout, new_line}
use Rattle.ion_text_out.specs.Text.{Open, annotation_text, before_item, after_value, closer, item_text, items_text_by, open_after_all, opener, scalar_text, symbol_text}

-- what is put for items
abbrev pub text_puts : Layout → Limits → List PlacedItem → List ℕ
text_puts layout limits path = items_text_by layout [] (user_items path)

-- what an item after others adds
abbrev pub text_adds : Layout → Limits → List PlacedItem → PlacedItem → List ℕ
text_adds layout limits path item = item_text layout (open_after_all [] (user_items path)) (user_item item)

-- the refusal of an item after others: there is none
abbrev pub text_refusal : Limits → List PlacedItem → PlacedItem → Option (Reason × ℕ)
text_refusal limits path item = None

-- ---- the open containers of a writer, the outermost first

-- all but the innermost have a member; that has none where it is said to be empty
abbrev pub shown_in : List Kind → Bool → Open
shown_in [] empty = []
shown_in (kind ∷ kinds) empty = (kind, empty) ∷ map (λ k. (k, false)) kinds

-- the open containers as the definitions have them, the innermost first; it alone may be empty
abbrev pub shown : List Kind → Bool → Open
shown kinds empty = shown_in (reverse kinds) empty

-- the kind of the innermost of these containers, where there is one
abbrev pub innermost : List Kind → Option Kind
innermost kinds = slice_get (reverse kinds) 0

-- ---- the parts of an item's text

-- what stands before the bracket that the innermost container ends with, and nothing where none is open
abbrev pub before_end : Layout → Open → List ℕ
before_end layout [] = []
before_end layout (c ∷ cs) = layout.before_closer c.1 (length cs)

-- that bracket, and nothing where none is open
abbrev pub closing : Open → List ℕ
closing [] = []
closing (c ∷ cs) = closer c.0

-- the first part of an item's text: what stands before a value, and the bracket that a container ends with after what stands before that
abbrev pub first_text : {S : Type 0} → Layout → Open → Head S → List ℕ
first_text layout cs (v.whole body) = before_item layout cs
first_text layout cs (v.begin kind) = before_item layout cs
first_text layout cs v.end = before_end layout cs ++ closing cs
first_text layout cs v.marker = []

-- what stands after the bracket that closes
abbrev pub after_end : Open → List ℕ
after_end [] = []
after_end (c ∷ cs) = after_value cs

-- the last part of an item's text: after a whole value at top level the end of its line, and else nothing
abbrev pub last_text : {S : Type 0} → Open → Head S → List ℕ
last_text cs (v.whole body) = after_value cs
last_text cs (v.begin kind) = []
last_text cs v.end = after_end cs
last_text cs v.marker = []

-- the text of a scalar, or the bracket that opens a container; nothing of an end or a marker
abbrev pub body_text : Head UserSymbol → List ℕ
body_text (v.whole body) = scalar_text body
body_text (v.begin kind) = opener kind
body_text v.end = []
body_text v.marker = []

-- annotations, each with its two colons
abbrev pub annotations_text : List SymbolAt → List ℕ
annotations_text annotations = flat_map annotation_text (map user_symbol_at annotations)

-- a symbol and a mark after it, and nothing where there is none
abbrev pub marked_text : List ℕ → Option SymbolAt → List ℕ
marked_text mark None = []
marked_text mark (Some at) = symbol_text (user_symbol at.symbol) ++ mark

-- a scalar or a container's beginning: of other items nothing stands between the first part and the last
abbrev pub is_value : {S : Type 0} → Head S → Bool
is_value (v.whole body) = true
is_value (v.begin kind) = true
is_value v.end = false
is_value v.marker = false

-- this text, where an item is or begins a value, and else nothing
abbrev pub where_value : Bool → List ℕ → List ℕ
where_value true text = text
where_value false text = []

-- a field and annotations, and then a scalar or the bracket that opens a container
abbrev pub value_text : Layout → Option SymbolAt → List SymbolAt → Head SymbolAt → List ℕ
value_text layout field annotations head = marked_text layout.after_name field ++ (annotations_text annotations ++ body_text (map_head user_symbol_at head))

-- the part of an item's text between the first and the last: nothing of an end or a marker
abbrev pub middle_text : Layout → PlacedItem → List ℕ
middle_text layout item = where_value (is_value item.head) (value_text layout item.field item.annotations item.head)

-- ---- what stands between parts

-- a byte, or nothing
abbrev pub byte_in : Option ℕ → List ℕ
byte_in None = []
byte_in (Some b) = b ∷ []

-- a new line with so many containers open, or nothing
abbrev pub line_in : Option ℕ → List ℕ
line_in None = []
line_in (Some depth) = new_line depth

-- the one, and then the other
abbrev pub gap_text : Gap → List ℕ
gap_text gap = byte_in gap.mark ++ line_in gap.line

-- ---- the writer

-- limits are checked, and no more containers are open than may be
pub record IsReady (limits : Limits) (level : ℕ) : Type 0 where
  pub checked : AreChecked limits
  pub deep : level ≤ limits.depth

-- there is room for one container more where one begins
abbrev pub HasRoom : {S : Type 0} → ℕ → ℕ → Head S → Type 0
HasRoom depth level (v.whole body) = ⊤
HasRoom depth level (v.begin kind) = level < depth
HasRoom depth level v.end = ⊤
HasRoom depth level v.marker = ⊤

-- the containers that it has open are those of the path
abbrev pub Shows : List Kind → Bool → List PlacedItem → Type 0
Shows kinds empty path = open_after_all [] (user_items path) ≡ shown kinds empty
