-- Open paths of a text: what stands before a place, with the containers that are open there.
use Rattle.std.specs.Prelude.{◌≡◌, ℕ, Bool, true, false, List, [], ◌∷◌, ◌++◌, Option, None, Ok}
use Rattle.ion_value.specs.declared.ion_type.Kind.{Kind}
use Rattle.ion_value.specs.declared.ion_type.Kind.TheVariants as kind
use Rattle.ion_value.specs.Value.{SymbolAt, Members, Top}
use Rattle.ion_value.specs.Path.{Path, closed, opened, path_items, open_in}
use Rattle.ion_value.specs.Reading.{Step, Ends, Stops, Gives, GoesOn}
use Rattle.ion_meter.specs.Sources.{Cursor}
use Rattle.ion_text_in.specs.Blanks.{blanks}
use Rattle.ion_text_in.specs.Token.{begin}
use Rattle.ion_text_in.specs.Positions.{Wants, a_value, a_field, a_separator, State, innermost, in_sexp, first_place}
use Rattle.ion_text_in.specs.Grammar.{Tok, Annotations, Field, Inside, Tops, start_of}

-- between the cursors b and c stand the items of the path, of which these containers are open; where the innermost is
-- full, a comma or its end comes next
pub data Spells (b : Cursor) : Path SymbolAt ℕ → List Kind → Bool → Cursor → Type 0 where
  top : {tops : List (Top SymbolAt ℕ)} {c : Cursor} → Tops b tops c → Spells b (closed tops) [] false c
  inside : (path : Path SymbolAt ℕ) (field : Option SymbolAt) (annotations : List SymbolAt) (p : ℕ) (k : Kind)
      (members : Members SymbolAt ℕ) {kinds : List Kind} {c d e f g : Cursor} {full : Bool}
      → Spells b path kinds false c → Field (innermost kinds) c field d → Annotations (in_sexp (innermost kinds)) d annotations e
      → Tok (in_sexp (innermost kinds)) e (begin k) p f → Inside k f members full g
      → Spells b (open_in path (first_place annotations p) field annotations p k members) (k
      ∷ kinds) full g

-- the bytes before a place spell the path
pub record IsPath (bytes : List ℕ) (q : ℕ) (path : Path SymbolAt ℕ) : Type 0 where
  pub kinds : List Kind
  pub full : Bool
  pub after : Cursor
  pub place : q ≡ after.place
  pub spells : Spells (start_of bytes) path kinds full after

-- ---- what a reading stands at

-- what is read of an item from after a path on: a field and annotations; and what must come
pub data Begun (c : Cursor) : List Kind → Bool → Wants → Cursor → Type 0 where
  at_separator : {kinds : List Kind} → Begun c kinds true a_separator c
  at_field : {kinds : List Kind} → Begun c (kind.Struct ∷ kinds) false a_field c
  in_item : {kinds : List Kind} {d e : Cursor} {field : Option SymbolAt}
      {annotations : List SymbolAt}
      → Field (innermost kinds) c field d → Annotations (in_sexp (innermost kinds)) d annotations e
      → Begun c kinds false (a_value field annotations) e

-- the place of the open top-level value, where one is
abbrev pub IsTop : Path SymbolAt ℕ → ℕ → Type 0
IsTop (closed tops) place = Unit {0}
IsTop (opened tops first nest) place = first ≡ place

-- the reading stands after the path and the front of an item
pub record At (bytes : List ℕ) (path : Path SymbolAt ℕ) (s : State) : Type 0 where
  pub full : Bool
  pub after : Cursor
  pub spells : Spells (start_of bytes) path s.kinds full after
  pub begun : Begun after s.kinds full s.wants s.cursor
  pub top : IsTop path s.top

-- a step gives an item, and a path that has it after the items so far, or it keeps the path; it ends where nothing is
-- open, nothing of an item is read, and nothing is left
abbrev pub Follows : List ℕ → Path SymbolAt ℕ → State → Step State → Type 0
Follows bytes path s Ends =
    (s.kinds ≡ []) × (s.wants ≡ a_value None []) × (end : Cursor) × (blanks s.cursor ≡ Ok end) × (end.rest ≡ [])
Follows bytes path s (Stops reason place) = Unit {0}
Follows bytes path s (Gives item after) =
    (next : Path SymbolAt ℕ) × At bytes next after × (path_items next ≡ path_items path ++ item ∷ [])
Follows bytes path s (GoesOn after) = At bytes path after
