-- What the grammar and the reading share: open containers, the places of symbols and values, and where a reading stands.
use Rattle.std.specs.Prelude.{ℕ, Bool, true, false, List, [], ◌∷◌, Option, Some, None}
use Rattle.ion_value.specs.declared.ion_type.Kind.{Kind}
use Rattle.ion_value.specs.declared.ion_type.Kind.TheVariants as kind
use Rattle.ion_value.specs.Value.{Symbol, SymbolAt}
use Rattle.ion_meter.specs.Sources.{Cursor}

-- ---- open containers

-- the one kind of container in which operators may stand
abbrev pub is_sexp : Kind → Bool
is_sexp kind.Sexp = true
is_sexp kind.List = false
is_sexp kind.Struct = false

-- the kind of the container that an item stands in, and none at top level
abbrev pub innermost : List Kind → Option Kind
innermost [] = None
innermost (k ∷ kinds) = Some k

-- the innermost open container is a sexp
abbrev pub in_sexp : Option Kind → Bool
in_sexp None = false
in_sexp (Some k) = is_sexp k

-- commas stand in lists and structs
abbrev pub has_commas : Option Kind → Bool
has_commas None = false
has_commas (Some kind.List) = true
has_commas (Some kind.Sexp) = false
has_commas (Some kind.Struct) = true

-- ---- places

-- a symbol with the place of its first byte
abbrev pub at : Symbol → ℕ → SymbolAt
at symbol place = record { symbol = symbol; place = place }

-- a top-level value begins at its first annotation, or at its head
abbrev pub first_place : List SymbolAt → ℕ → ℕ
first_place [] place = place
first_place (a ∷ annotations) place = a.place

-- ---- where a reading stands

-- what must come: a value, after what is read of its item; a field; or what separates two members
pub data Wants : Type 0 where
  a_value : (field : Option SymbolAt) → (annotations : List SymbolAt) → Wants
  a_field : Wants
  a_separator : Wants

-- the open containers, the innermost first; the place of the present top-level value; what must come; what is to be read
pub record State : Type 0 where
  pub kinds : List Kind
  pub top : ℕ
  pub wants : Wants
  pub cursor : Cursor
