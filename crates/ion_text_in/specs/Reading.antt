-- Reading a text: its items in order, and how they end. In each part of an item the first line that refuses is its fault.
use Rattle.std.specs.Prelude.{ℕ, ◌+◌, Bool, true, false, not, ◌||◌, nat_le, nat_lt, if◌then◌else◌, List, [], ◌∷◌, ◌++◌, length, sum_by, Option, Some, None, Result, Ok, Err}
use Rattle.std.specs.Str.{bytes_eq}
use lib.Ieee.{Float}
use Rattle.ion_meter.specs.declared.fault.Reason.{Reason}
use Rattle.ion_meter.specs.declared.fault.Reason.TheVariants as reason
use Rattle.ion_meter.specs.declared.fault.Reason.TheVariants.{Truncated, BadToken, BadVersion, Range, DepthLimit, AnnotationLimit}
use Rattle.ion_meter.specs.declared.profile.Rules.{Rules}
use Rattle.ion_value.specs.declared.ion_type.Kind.{Kind}
use Rattle.ion_value.specs.declared.ion_type.Kind.TheVariants as kind
use Rattle.ion_value.specs.Name.{is_version, version_word}
use Rattle.ion_value.specs.Value as value
use Rattle.ion_value.specs.Value.{Symbol, SymbolAt, Scalar, Head, PlacedItem}
use Rattle.ion_value.specs.Reading.{Reading, Step, Ends, Stops, Gives, GoesOn, reading_by}
use Rattle.ion_meter.specs.Sources.{Cursor, skip}
use Rattle.ion_value.specs.Parts.{Placed, part, refuse, ◌>>=◌, ◌>>◌}
use Rattle.ion_text_in.specs.Positions.{Wants, a_value, a_field, a_separator, State, innermost, in_sexp, has_commas, at, first_place}
use Rattle.ion_text_in.specs.Blanks.{blanks}
use Rattle.ion_text_in.specs.Token.{First, a_word, a_quoted, a_short, a_long, a_run, a_lob, an_operator, an_infinity, a_begin, an_end, a_comma, a_colon, two_colons, no_token, first_at, Token, plain, float, name, text, operator, begin, end, comma, token_of}

-- ---- members

-- where a member may begin
abbrev pub member_of : Kind → Wants
member_of kind.Struct = a_field
member_of kind.List = a_value None []
member_of kind.Sexp = a_value None []

-- what must come where a member of a container of this kind may begin, or a value at top level
abbrev pub at_member : Option Kind → Wants
at_member None = a_value None []
at_member (Some k) = member_of k

-- after a member a comma must come where there are commas, or the container's end
abbrev pub after_member : Option Kind → Wants
after_member k = if has_commas k then a_separator else a_value None []

-- ---- which tokens may come

-- what begins brackets, commas and colons, and what begins no token at all
abbrev pub is_punctuation : First → Bool
is_punctuation (a_begin k) = true
is_punctuation (an_end k) = true
is_punctuation a_comma = true
is_punctuation a_colon = true
is_punctuation two_colons = true
is_punctuation no_token = true
is_punctuation a_run = false
is_punctuation a_word = false
is_punctuation a_quoted = false
is_punctuation a_short = false
is_punctuation a_long = false
is_punctuation a_lob = false
is_punctuation an_operator = false
is_punctuation an_infinity = false

-- what begins a token that may name a field: a word, a symbol in quotes or a string
abbrev pub names_field : First → Bool
names_field a_word = true
names_field a_quoted = true
names_field a_short = true
names_field a_long = true
names_field a_run = false
names_field a_lob = false
names_field an_operator = false
names_field an_infinity = false
names_field (a_begin k) = false
names_field (an_end k) = false
names_field a_comma = false
names_field a_colon = false
names_field two_colons = false
names_field no_token = false

-- a token that so begins is read, and may have faults of its own, before it is found not to belong here
unfoldable pub may_come : Wants → First → Bool
may_come (a_value field annotations) first = true
may_come a_field first = is_punctuation first || names_field first
may_come a_separator first = is_punctuation first

-- ---- items

-- the place of the top-level value that an item is in: its own first byte at top level, and `top` in a container
abbrev pub top_of : List Kind → ℕ → List SymbolAt → ℕ → ℕ
top_of [] top annotations place = first_place annotations place
top_of (k ∷ kinds) top annotations place = top

-- an item by its parts: its head begins at `place`, in the top-level value that begins at `top`
abbrev pub item_of : ℕ → Option SymbolAt → List SymbolAt → ℕ → Head SymbolAt → PlacedItem
item_of top field annotations place head = record { field = field; annotations = annotations; head = head; place = place; top = top }

-- an item whose head begins at a place, and what must come after it
abbrev pub item_step : List Kind → ℕ → Option SymbolAt → List SymbolAt → ℕ → Head SymbolAt → List Kind → Wants → Cursor → Step State
item_step kinds top field annotations place head after wants c =
    Gives (item_of (top_of kinds top annotations place) field annotations place head)
    (record { kinds = after; top = top_of kinds top annotations place; wants = wants; cursor = c })

-- the step that gives a scalar, which begins at `place`
abbrev pub scalar_step : List Kind → ℕ → Option SymbolAt → List SymbolAt → ℕ → Scalar SymbolAt → Cursor → Step State
scalar_step kinds top field annotations place body c =
    item_step kinds top field annotations place (value.whole body) kinds
    (after_member (innermost kinds)) c

-- a float that was read, whose digits must not round to infinity
abbrev pub in_range : Option Float → Result Float Reason
in_range (Some x) = Ok x
in_range None = Err Range

-- the step of a float, which is refused where floats are not read
abbrev pub float_step : Rules → List Kind → ℕ → Option SymbolAt → List SymbolAt → ℕ → Option Float → Cursor → Result (Step State) Reason
float_step limits kinds top field annotations place number c = do
  refuse (not limits.floats) reason.Float
  x ← in_range number
  Ok (scalar_step kinds top field annotations place (value.float x) c)

-- a step that gives no item; this must come from the cursor on
abbrev pub onward_step : List Kind → ℕ → Wants → Cursor → Step State
onward_step kinds top wants c = GoesOn (record { kinds = kinds; top = top; wants = wants; cursor = c })

-- ---- symbols where a value may stand

-- what an annotation costs
abbrev pub cost : SymbolAt → ℕ
cost a = cost_of a.symbol where
  cost_of : Symbol → ℕ
  cost_of (value.Text bytes) = 16 + length bytes
  cost_of (value.Id id) = 16

-- the step of one more annotation, refused where all of them together cost more than the limit on scalars
abbrev pub with_annotation : Rules → List Kind → ℕ → Option SymbolAt → List SymbolAt → SymbolAt → Cursor → Result (Step State) Reason
with_annotation limits kinds top field annotations a c = do
  refuse (nat_lt limits.scalar (sum_by cost (annotations ++ a ∷ []))) AnnotationLimit
  Ok (onward_step kinds top (a_value field (annotations ++ a ∷ [])) c)

-- a version's word without quotes and annotations at top level
unfoldable pub tells_version : Option Kind → List SymbolAt → Bool → Symbol → Bool
tells_version None [] false (value.Text word) = is_version word
tells_version _ _ _ _ = false

-- a symbol whose text is `$ion_1_0`
abbrev pub is_marker : Symbol → Bool
is_marker (value.Text word) = bytes_eq version_word word
is_marker (value.Id id) = false

-- the step of a version marker, whose word must be that of Ion 1.0
abbrev pub version_step : List Kind → ℕ → Option SymbolAt → List SymbolAt → SymbolAt → Cursor → Result (Step State) Reason
version_step kinds top field annotations a c = do
  refuse (not (is_marker a.symbol)) BadVersion
  Ok (item_step kinds top field annotations a.place value.marker kinds (after_member (innermost kinds)) c)

-- the step of a symbol with no two colons after it: a version marker where the last argument says so, and else a value
abbrev pub value_or_version : List Kind → ℕ → Option SymbolAt → List SymbolAt → SymbolAt → Cursor → Bool → Result (Step State) Reason
value_or_version kinds top field annotations a c true =
    version_step kinds top field annotations a c
value_or_version kinds top field annotations a c false = Ok (scalar_step kinds top field annotations a.place (value.symbol a) c)

-- after the two colons, where they are the next token
abbrev pub colons_at : First → Cursor → Option Cursor
colons_at two_colons c = Some (skip 2 c)
colons_at _ c = None

-- after two colons, where they are the next token after blanks that end here
abbrev pub colons_after : Bool → Placed Cursor → Option Cursor
colons_after sexp (Ok c) = colons_at (first_at sexp c.rest) c
colons_after sexp (Err fault) = None

-- after two colons, where they are the next token from the cursor on; the first argument says whether in a sexp
abbrev pub after_colons : Bool → Cursor → Option Cursor
after_colons sexp c = colons_after sexp (blanks c)

-- an annotation where two colons follow, else the value or a version marker
abbrev pub symbol_step : Rules → List Kind → ℕ → Option SymbolAt → List SymbolAt → Bool → SymbolAt → Cursor → Option Cursor → Result (Step State) Reason
symbol_step limits kinds top field annotations quoted a c (Some after) = with_annotation limits kinds top field annotations a after
symbol_step limits kinds top field annotations quoted a c None =
    value_or_version kinds top field annotations a c (tells_version (innermost kinds) annotations quoted a.symbol)

-- ---- brackets, commas and fields

-- two containers are of one kind
abbrev pub is_same : Kind → Kind → Bool
is_same kind.List kind.List = true
is_same kind.Sexp kind.Sexp = true
is_same kind.Struct kind.Struct = true
is_same _ _ = false

-- the step of a closing bracket at `place`: the innermost open container must be of its kind
abbrev pub end_step : List Kind → ℕ → Kind → ℕ → Cursor → Result (Step State) Reason
end_step [] top k place c = Err BadToken
end_step (j ∷ kinds) top k place c = do
  refuse (not (is_same j k)) BadToken
  Ok (Gives (item_of top None [] place value.end) (record { kinds = kinds; top = top; wants = after_member (innermost kinds); cursor = c }))

-- nothing closes after a field or an annotation
abbrev pub bare_end_step : Option SymbolAt → List SymbolAt → List Kind → ℕ → Kind → ℕ → Cursor → Result (Step State) Reason
bare_end_step None [] kinds top k place c = end_step kinds top k place c
bare_end_step _ _ kinds top k place c = Err BadToken

-- the step of an opening bracket at `place`: refused where as many containers are open as may be
abbrev pub begin_step : Rules → List Kind → ℕ → Option SymbolAt → List SymbolAt → Kind → ℕ → Cursor → Result (Step State) Reason
begin_step limits kinds top field annotations k place c = do
  refuse (nat_le limits.depth (length kinds)) DepthLimit
  Ok (item_step kinds top field annotations place (value.begin k) (k ∷ kinds) (member_of k) c)

-- after a field's name
abbrev pub colon_of : List Kind → ℕ → SymbolAt → Cursor → First → Placed (Step State)
colon_of kinds top a c a_colon = Ok (onward_step kinds top (a_value (Some a) []) (skip 1 c))
colon_of kinds top a c _ = Err (BadToken, c.place)

-- the step after a field's name and blanks: a colon must be the next token
abbrev pub colon_from : List Kind → ℕ → SymbolAt → Cursor → List ℕ → Placed (Step State)
colon_from kinds top a c [] = Err (Truncated, c.place)
colon_from kinds top a c (b ∷ bytes) = colon_of kinds top a c (first_at false (b ∷ bytes))

-- the step after a field's name: blanks, and then the colon that must come
abbrev pub field_step : List Kind → ℕ → SymbolAt → Cursor → Placed (Step State)
field_step kinds top a c = do
  d ← blanks c
  colon_from kinds top a d d.rest

-- ---- a part

-- what a token that begins at a place makes of what must come
unfoldable pub take : Rules → List Kind → ℕ → Wants → ℕ → Token → Cursor → Placed (Step State)
take limits kinds top a_separator place (end k) c = part place (end_step kinds top k place c)
take limits kinds top a_separator place comma c = Ok (onward_step kinds top (at_member (innermost kinds)) c)
take limits kinds top a_field place (end k) c = part place (end_step kinds top k place c)
take limits kinds top a_field place (name quoted symbol) c = field_step kinds top (at symbol place) c
take limits kinds top a_field place (text bytes) c = field_step kinds top (at (value.Text bytes) place) c
take limits kinds top (a_value field annotations) place (end k) c = part place (bare_end_step field annotations kinds top k place c)
take limits kinds top (a_value field annotations) place (plain body) c = Ok (scalar_step kinds top field annotations place body c)
take limits kinds top (a_value field annotations) place (float number) c = part place (float_step limits kinds top field annotations place number c)
take limits kinds top (a_value field annotations) place (text bytes) c = Ok (scalar_step kinds top field annotations place (value.string bytes) c)
take limits kinds top (a_value field annotations) place (operator bytes) c =
    Ok (scalar_step kinds top field annotations place (value.symbol (at (value.Text bytes) place)) c)
take limits kinds top (a_value field annotations) place (name quoted symbol) c =
    part place (symbol_step limits kinds top field annotations quoted (at symbol place) c (after_colons (in_sexp (innermost kinds)) c))
take limits kinds top (a_value field annotations) place (begin k) c = part place (begin_step limits kinds top field annotations k place c)
take limits kinds top _ place _ c = Err (BadToken, place)

-- the stream ends where nothing is open and a value may begin
abbrev pub final_step : List Kind → Wants → ℕ → Placed (Step State)
final_step [] (a_value None []) place = Ok Ends
final_step _ _ place = Err (Truncated, place)

-- the step by the token that so begins at the cursor, refused unread where the last argument says that none such may come
abbrev pub next_part : Rules → State → Cursor → First → Bool → Placed (Step State)
next_part limits s c first false = Err (BadToken, c.place)
next_part limits s c first true = do
  t ← part c.place (token_of (Some limits.scalar) first c)
  take limits s.kinds s.top s.wants c.place t.0 t.1

-- the step by the token that so begins at the cursor
abbrev pub part_from : Rules → State → Cursor → First → Placed (Step State)
part_from limits s c first = next_part limits s c first (may_come s.wants first)

-- the step where blanks end: at the end of the input, or by the token that begins there
abbrev pub part_after : Rules → State → Cursor → List ℕ → Placed (Step State)
part_after limits s c [] = final_step s.kinds s.wants c.place
part_after limits s c (b ∷ bytes) = part_from limits s c (first_at (in_sexp (innermost s.kinds)) (b ∷ bytes))

-- what the reading does next at a state, or its fault and the place of that
unfoldable pub part_at : Rules → State → Placed (Step State)
part_at limits s = do
  c ← blanks s.cursor
  part_after limits s c c.rest

-- ---- the stream

-- a fault as the step that stops there
abbrev pub step_of : Placed (Step State) → Step State
step_of (Ok s) = s
step_of (Err fault) = Stops fault.0 fault.1

-- what the reading does next at a state, under limits
unfoldable pub step : Rules → State → Step State
step limits s = step_of (part_at limits s)

-- each part takes a byte
abbrev pub size : State → ℕ
size s = length s.cursor.rest

-- the state in which a reading begins here: nothing is open, and a value may come
abbrev pub start_at : Cursor → State
start_at c = record { kinds = []; top = 0; wants = a_value None []; cursor = c }

-- all that a reader gives from here on
abbrev pub reading_from : Rules → Cursor → Reading
reading_from limits c = reading_by (step limits) size (start_at c)

-- the state before the first of these bytes, at place 0
abbrev pub start : List ℕ → State
start bytes = start_at (record { place = 0; rest = bytes })

-- all that a reader gives of these bytes
unfoldable pub reading : Rules → List ℕ → Reading
reading limits bytes = reading_by (step limits) size (start bytes)
