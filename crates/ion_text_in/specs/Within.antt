-- What limits allow of what bytes spell: tokens that count no more, annotations that cost no more, and containers no deeper; and floats
-- where these are read.
use Rattle.std.specs.Prelude.{◌≡◌, ℕ, suc, ◌<◌, ◌≤◌, Bool, true, false, List, length, sum_by, Option, Some, ⊤}
use Rattle.ion_meter.specs.declared.profile.Rules.{Rules}
use Rattle.ion_meter.specs.Sources.{Cursor}
use Rattle.ion_value.specs.declared.ion_type.Kind.{Kind}
use Rattle.ion_value.specs.Path.{Path}
use Rattle.ion_value.specs.Name.{version_word}
use Rattle.ion_value.specs.Value as value
use Rattle.ion_value.specs.Value.{SymbolAt, Value, Members, Top}
use Rattle.ion_text_in.specs.Grammar.{Annotations, Field, Txt, Inside, Tops}
use Rattle.ion_text_in.specs.Meaning.{counts}
use Rattle.ion_text_in.specs.Paths.{Spells}
use Rattle.ion_text_in.specs.Reading.{cost}
use Rattle.ion_text_in.specs.Token.{Token, plain, float, name, text, operator}

-- a token that begins at a place and ends before a cursor
abbrev pub TokenWithin : Rules → Token → ℕ → Cursor → Type 0
TokenWithin limits t p d = counts t p d.place ≤ limits.scalar

-- each of some annotations
abbrev pub NamesWithin : (limits : Rules) {sexp : Bool} {c d : Cursor} {annotations : List SymbolAt}
    → Annotations sexp c annotations d → Type 0
NamesWithin limits Annotations.nothing = ⊤
NamesWithin limits (Annotations.then {e = e} {p = p} {quoted = quoted} {symbol = symbol} before tok colons) =
    NamesWithin limits before × TokenWithin limits (name quoted symbol) p e

-- and what they cost together
abbrev pub AnnotationsWithin : (limits : Rules) {sexp : Bool} {c d : Cursor} {annotations : List SymbolAt}
    → Annotations sexp c annotations d → Type 0
AnnotationsWithin limits {annotations = annotations} ns = (sum_by cost annotations ≤ limits.scalar) × NamesWithin limits ns

-- the name of a field
abbrev pub FieldWithin : (limits : Rules) {k : Option Kind} {c d : Cursor} {field : Option SymbolAt} → Field k c field d → Type 0
FieldWithin limits Field.at_top = ⊤
FieldWithin limits Field.in_list = ⊤
FieldWithin limits Field.in_a_sexp = ⊤
FieldWithin limits (Field.named {d = d} {p = p} {quoted = quoted} {symbol = symbol} tok colon) =
    TokenWithin limits (name quoted symbol) p d
FieldWithin limits (Field.in_quotes {d = d} {p = p} {bytes = bytes} tok colon) = TokenWithin limits (text bytes) p d

abbrev mutual
  -- a value inside so many containers, with all that it contains
  pub TxtWithin : (limits : Rules) → ℕ → {k : Option Kind} {c d : Cursor} {annotations : List SymbolAt} {p : ℕ} {v : Value SymbolAt ℕ}
      → Txt k c annotations p v d → Type 0
  TxtWithin limits depth (Txt.of_plain {e = e} {p = p} {v = v} ns tok) =
      AnnotationsWithin limits ns × TokenWithin limits (plain v) p e
  TxtWithin limits depth (Txt.of_float {e = e} {p = p} {x = x} ns tok) =
      AnnotationsWithin limits ns × (TokenWithin limits (float (Some x)) p e × (limits.floats ≡ true))
  TxtWithin limits depth (Txt.of_text {e = e} {p = p} {bytes = bytes} ns tok) =
      AnnotationsWithin limits ns × TokenWithin limits (text bytes) p e
  TxtWithin limits depth (Txt.of_operator {e = e} {p = p} {bytes = bytes} ns tok) =
      AnnotationsWithin limits ns × TokenWithin limits (operator bytes) p e
  TxtWithin limits depth (Txt.of_symbol {e = e} {p = p} {quoted = quoted} {symbol = symbol} ns tok alone no_version) =
      AnnotationsWithin limits ns × TokenWithin limits (name quoted symbol) p e
  TxtWithin limits depth (Txt.of_members ns tok inside last) =
      AnnotationsWithin limits ns × ((depth < limits.depth) × InsideWithin limits (suc depth) inside)

  -- members inside so many containers
  pub InsideWithin : (limits : Rules) → ℕ → {k : Kind} {c d : Cursor} {members : Members SymbolAt ℕ} {full : Bool}
      → Inside k c members full d → Type 0
  InsideWithin limits depth Inside.nothing = ⊤
  InsideWithin limits depth (Inside.with_value before own txt) =
      InsideWithin limits depth before × (FieldWithin limits own × TxtWithin limits depth txt)
  InsideWithin limits depth (Inside.with_comma before comma) = InsideWithin limits depth before

-- values and version markers at top level
abbrev pub TopsWithin : (limits : Rules) {c d : Cursor} {tops : List (Top SymbolAt ℕ)} → Tops c tops d → Type 0
TopsWithin limits Tops.nothing = ⊤
TopsWithin limits (Tops.marker {e = e} {p = p} before tok alone) =
    TopsWithin limits before × TokenWithin limits (name false (value.Text version_word)) p e
TopsWithin limits (Tops.with_value before txt) = TopsWithin limits before × TxtWithin limits 0 txt

-- a path
abbrev pub PathWithin : (limits : Rules) {b c : Cursor} {path : Path SymbolAt ℕ} {kinds : List Kind} {full : Bool}
    → Spells b path kinds full c → Type 0
PathWithin limits (Spells.top t) = TopsWithin limits t
PathWithin limits (Spells.inside path field annotations p k members {kinds = kinds} before own ns tok inside) =
    PathWithin limits before × (FieldWithin limits own
    × (AnnotationsWithin limits ns × ((length kinds < limits.depth) × InsideWithin limits (suc (length kinds)) inside)))
