-- What is seen of the scalars of the code.
use Rattle.std.specs.Prelude.{◌≤◌, List, ℕ}
use Rattle.ion_value.specs.Float.{value_of}
use Rattle.ion_value.specs.Value as value
use Rattle.ion_value.specs.Value.{Symbol, Id, Scalar}
use Rattle.ion_binary.specs.declared.body.Body.{Body}
use Rattle.ion_binary.specs.declared.body.Body.TheVariants as code

-- a scalar, the bytes of a string or lob standing beside it
abbrev pub as_scalar : List ℕ → Body → Scalar Symbol
as_scalar text (code.Null type) = value.null type
as_scalar text (code.Bool truth) = value.bool truth
as_scalar text (code.Int number) = value.int number
as_scalar text (code.Float float) = value.float (value_of float)
as_scalar text (code.Decimal number) = value.decimal number
as_scalar text (code.Timestamp moment) = value.timestamp moment
as_scalar text (code.Symbol id) = value.symbol (Id id)
as_scalar text code.String = value.string text
as_scalar text code.Clob = value.clob text
as_scalar text code.Blob = value.blob text

-- the type codes of all scalars that have bodies: numbers, timestamps, symbols, strings, clobs and blobs
abbrev pub IsBodyTypeCode : ℕ → Type 0
IsBodyTypeCode type_code = (2 ≤ type_code) × (type_code ≤ 10)
