-- Which tokens spell which values, each with the place of its first byte: the text form as a grammar over tokens.
use Rattle.std.specs.Prelude.{◌≡◌, ℕ, Bool, true, false, List, [], ◌∷◌, ◌++◌, Option, Some, None, Ok}
use lib.Ieee.{Float}
use Rattle.ion_value.specs.declared.ion_type.Kind.{Kind}
use Rattle.ion_value.specs.declared.ion_type.Kind.TheVariants as kind
use Rattle.ion_value.specs.Name.{is_version, version_word}
use Rattle.ion_value.specs.Value as value
use Rattle.ion_value.specs.Value.{Symbol, SymbolAt, Scalar, Value, Members, Top}
use Rattle.ion_meter.specs.Sources.{Cursor}
use Rattle.ion_text_in.specs.Blanks.{blanks}
use Rattle.ion_text_in.specs.Token.{Token, plain, float, name, text, operator, begin, end, comma, colon, colons, cut, next_token}
use Rattle.ion_text_in.specs.Positions.{is_sexp, in_sexp, has_commas, at, first_place}

-- between the cursors c and d stand blanks and the token t, whose first byte is at p; in a sexp it may be an operator
abbrev pub Tok : Bool → Cursor → Token → ℕ → Cursor → Type 0
Tok sexp c t p d = next_token None sexp c ≡ Ok (cut t p d)

-- the next token is not two colons; so too where the input ends, or a comment has no end
abbrev pub NoColons : Bool → Cursor → Type 0
NoColons sexp c = (p : ℕ) (d : Cursor) → Tok sexp c colons p d → ⊥

-- annotations, each a symbol and two colons
pub data Annotations (sexp : Bool) (c : Cursor) : List SymbolAt → Cursor → Type 0 where
  nothing : Annotations sexp c [] c
  then : {annotations : List SymbolAt} {d e f : Cursor} {p q : ℕ} {quoted : Bool} {symbol : Symbol}
      → Annotations sexp c annotations d → Tok sexp d (name quoted symbol) p e
      → Tok sexp e colons q f
      → Annotations sexp c (annotations ++ at symbol p ∷ []) f

-- a member's field in a struct, a symbol or a string before a colon, and nothing elsewhere
pub data Field : Option Kind → Cursor → Option SymbolAt → Cursor → Type 0 where
  at_top : {c : Cursor} → Field None c None c
  in_list : {c : Cursor} → Field (Some kind.List) c None c
  in_a_sexp : {c : Cursor} → Field (Some kind.Sexp) c None c
  named : {c d e : Cursor} {p q : ℕ} {quoted : Bool} {symbol : Symbol}
      → Tok false c (name quoted symbol) p d → Tok false d colon q e
      → Field (Some kind.Struct) c (Some (at symbol p)) e
  in_quotes : {c d e : Cursor} {p q : ℕ} {bytes : List ℕ}
      → Tok false c (text bytes) p d → Tok false d colon q e
      → Field (Some kind.Struct) c (Some (at (value.Text bytes) p)) e

-- a version's word stands at top level, without quotes and annotations
pub data IsVersionWord : Option Kind → List SymbolAt → Bool → Symbol → Type 0 where
  bare : {word : List ℕ} → is_version word ≡ true → IsVersionWord None [] false (value.Text word)

mutual
  -- annotations and a value, which stands at a place; a symbol is a value where no two colons follow it, and it is no
  -- version's word
  pub data Txt : Option Kind → Cursor → List SymbolAt → ℕ → Value SymbolAt ℕ → Cursor → Type 0 where
    of_plain : {k : Option Kind} {c d e : Cursor} {annotations : List SymbolAt} {p : ℕ} {v : Scalar SymbolAt}
        → Annotations (in_sexp k) c annotations d → Tok (in_sexp k) d (plain v) p e
        → Txt k c annotations p (value.scalar v) e
    of_float : {k : Option Kind} {c d e : Cursor} {annotations : List SymbolAt} {p : ℕ} {x : Float}
        → Annotations (in_sexp k) c annotations d → Tok (in_sexp k) d (float (Some x)) p e
        → Txt k c annotations p (value.scalar (value.float x)) e
    of_text : {k : Option Kind} {c d e : Cursor} {annotations : List SymbolAt} {p : ℕ}
        {bytes : List ℕ}
        → Annotations (in_sexp k) c annotations d → Tok (in_sexp k) d (text bytes) p e
        → Txt k c annotations p (value.scalar (value.string bytes)) e
    of_operator : {k : Option Kind} {c d e : Cursor} {annotations : List SymbolAt} {p : ℕ} {bytes : List ℕ}
        → Annotations (in_sexp k) c annotations d → Tok (in_sexp k) d (operator bytes) p e
        → Txt k c annotations p (value.scalar (value.symbol (at (value.Text bytes) p))) e
    of_symbol : {k : Option Kind} {c d e : Cursor} {annotations : List SymbolAt} {p : ℕ} {quoted : Bool} {symbol : Symbol}
        → Annotations (in_sexp k) c annotations d → Tok (in_sexp k) d (name quoted symbol) p e
        → NoColons (in_sexp k) e → (IsVersionWord k annotations quoted symbol → ⊥)
        → Txt k c annotations p (value.scalar (value.symbol (at symbol p))) e
    of_members : {k : Option Kind} {c d e f g : Cursor} {annotations : List SymbolAt} {p q : ℕ}
        {j : Kind}
        {members : Members SymbolAt ℕ} {full : Bool}
        → Annotations (in_sexp k) c annotations d → Tok (in_sexp k) d (begin j) p e → Inside j e members full f
        → Tok (is_sexp j) f (end j) q g → Txt k c annotations p (value.container j members q) g

  -- members of a container; where it is full, no other may follow before a comma
  pub data Inside : Kind → Cursor → Members SymbolAt ℕ → Bool → Cursor → Type 0 where
    nothing : {k : Kind} {c : Cursor} → Inside k c value.nothing false c
    with_value : {k : Kind} {c d e f : Cursor} {members : Members SymbolAt ℕ} {field : Option SymbolAt}
        {annotations : List SymbolAt} {p : ℕ} {v : Value SymbolAt ℕ}
        → Inside k c members false d → Field (Some k) d field e → Txt (Some k) e annotations p v f
        → Inside k c (value.member members field annotations p v) (has_commas (Some k)) f
    with_comma : {k : Kind} {c d e : Cursor} {members : Members SymbolAt ℕ} {p : ℕ}
        → Inside k c members true d → Tok (is_sexp k) d comma p e
        → Inside k c members false e

-- values and version markers at top level
pub data Tops (c : Cursor) : List (Top SymbolAt ℕ) → Cursor → Type 0 where
  nothing : Tops c [] c
  marker : {tops : List (Top SymbolAt ℕ)} {d e : Cursor} {p : ℕ}
      → Tops c tops d → Tok false d (name false (value.Text version_word)) p e → NoColons false e
      → Tops c (tops ++ value.version p ∷ []) e
  with_value : {tops : List (Top SymbolAt ℕ)} {d e : Cursor} {annotations : List SymbolAt} {p : ℕ} {v : Value SymbolAt ℕ}
      → Tops c tops d → Txt None d annotations p v e
      → Tops c (tops ++ value.tree (first_place annotations p) annotations p v ∷ []) e

-- the cursor before the first of these bytes, at place 0
abbrev pub start_of : List ℕ → Cursor
start_of bytes = record { place = 0; rest = bytes }

-- the bytes are values and version markers, with blanks between them and after the last
pub record Stream (bytes : List ℕ) (tops : List (Top SymbolAt ℕ)) : Type 0 where
  pub last : Cursor
  pub spells : Tops (start_of bytes) tops last
  pub end : Cursor
  pub blank : blanks last ≡ Ok end
  pub nothing_left : end.rest ≡ []
