-- What the grammar and the reading share: where a stream is read, and what a symbol's place is.
use Rattle.std.specs.Prelude.{ℕ, List}
use Rattle.ion_meter.specs.Sources.{Cursor}
use Rattle.ion_value.specs.declared.ion_type.Kind.{Kind}
use Rattle.ion_value.specs.Name.{raw_id}
use Rattle.ion_value.specs.Value.{Symbol, Id, SymbolAt, Scalar, map_scalar}

-- an open container, known by the place of its end
pub record Frame : Type 0 where
  pub kind : Kind
  pub end : ℕ

-- the open containers, the innermost first; the place of the present top-level value; and what is to be read
pub record State : Type 0 where
  pub frames : List Frame
  pub top : ℕ
  pub cursor : Cursor

-- a symbol whose id stands at a place
abbrev pub symbol_id : ℕ → ℕ → SymbolAt
symbol_id id place = record { symbol = Id (raw_id id); place = place }

-- a scalar whose symbol stands at a place
abbrev pub placed_scalar : ℕ → Scalar Symbol → Scalar SymbolAt
placed_scalar place v = map_scalar (λ s. record { symbol = s; place = place }) v
