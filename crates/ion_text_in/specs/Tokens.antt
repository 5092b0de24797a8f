-- What is seen of the tokens of the code, and what the calls that read them answer and keep.
use Rattle.std.specs.Prelude.{◌≡◌, ℕ, ◌<◌, List, length, Option, Some, None, Result, Ok, Err, OnOk, IfOk, IfSome, option_map, ⊤}
use Rattle.ion_meter.specs.Counts.{Counts}
use Rattle.ion_meter.specs.declared.device.Input.{Ghosts as InputOf}
use Rattle.ion_meter.specs.declared.fault.Fault.{Fault}
use Rattle.ion_meter.specs.declared.fault.Fault.TheVariants.{Refused, Memory, ReadFault, WriteFault, InputLimit}
use Rattle.ion_meter.specs.declared.fault.Reason.{Reason}
use Rattle.ion_meter.specs.declared.fault.Reason.TheVariants.{Truncated}
use Rattle.ion_meter.specs.declared.profile.Rules.{Rules}
use Rattle.ion_meter.specs.Windows.{Incoming}
use Rattle.ion_meter.specs.Sources.{Cursor}
use Rattle.ion_value.specs.Calls.{ReadsInto}
use Rattle.ion_value.specs.Float.{IsFloat, value_of}
use Rattle.ion_value.specs.Parts.{Placed}
use Rattle.ion_value.specs.Standing.{InRange}
use Rattle.ion_value.specs.Value as value
use Rattle.ion_value.specs.Value.{Scalar, SymbolAt}
use Rattle.ion_text_in.specs.declared.token.Symbol.{Symbol}
use Rattle.ion_text_in.specs.declared.token.Symbol.TheVariants as symbol
use Rattle.ion_text_in.specs.declared.token.Body.{Body}
use Rattle.ion_text_in.specs.declared.token.Body.TheVariants as body
use Rattle.ion_text_in.specs.declared.token.Token.{Token}
use Rattle.ion_text_in.specs.declared.token.Token.TheVariants as code
use Rattle.ion_text_in.specs.Blanks.{blanks}
use Rattle.ion_text_in.specs.Positions.{at}
use Rattle.ion_text_in.specs.Token as tokens

-- ---- what is seen, bytes standing beside it

-- a symbol from the code, whose text is `text` where it is no id
abbrev pub as_symbol : List ℕ → Symbol → value.Symbol
as_symbol text symbol.Text = value.Text text
as_symbol text (symbol.Id id) = value.Id id

-- a scalar from the code: `text` has the bytes of a symbol, string or lob, and `place` is where it begins
abbrev pub as_scalar : List ℕ → ℕ → Body → Scalar SymbolAt
as_scalar text place (body.Null type) = value.null type
as_scalar text place (body.Bool truth) = value.bool truth
as_scalar text place (body.Int number) = value.int number
as_scalar text place (body.Float number) = value.float (value_of number)
as_scalar text place (body.Decimal number) = value.decimal number
as_scalar text place (body.Timestamp moment) = value.timestamp moment
as_scalar text place (body.Symbol name) = value.symbol (at (as_symbol text name) place)
as_scalar text place body.String = value.string text
as_scalar text place body.Clob = value.clob text
as_scalar text place body.Blob = value.blob text

-- a token from the code: `text` has its bytes, and `place` is where it begins
abbrev pub token_view : List ℕ → ℕ → Token → tokens.Token
token_view text place (code.Plain scalar) = tokens.plain (as_scalar text place scalar)
token_view text place (code.Symbol symbol quoted) = tokens.name quoted (as_symbol text symbol)
token_view text place (code.String start) = tokens.text text
token_view text place code.Operator = tokens.operator text
token_view text place (code.Float number) = tokens.float (option_map value_of number)
token_view text place (code.Begin kind) = tokens.begin kind
token_view text place (code.End kind) = tokens.end kind
token_view text place code.Comma = tokens.comma
token_view text place code.Colon = tokens.colon
token_view text place code.Colons = tokens.colons

-- numbers and timestamps are those of this library
abbrev pub BodyInRange : Body → Type 0
BodyInRange (body.Int number) = InRange {S = SymbolAt} (value.int number)
BodyInRange (body.Float number) = InRange {S = SymbolAt} (value.float (value_of number))
BodyInRange (body.Decimal number) = InRange {S = SymbolAt} (value.decimal number)
BodyInRange (body.Timestamp moment) = InRange {S = SymbolAt} (value.timestamp moment)
BodyInRange (body.Null type) = ⊤
BodyInRange (body.Bool truth) = ⊤
BodyInRange (body.Symbol name) = ⊤
BodyInRange body.String = ⊤
BodyInRange body.Clob = ⊤
BodyInRange body.Blob = ⊤

-- so are those of a token
abbrev pub TokenInRange : Token → Type 0
TokenInRange (code.Plain scalar) = BodyInRange scalar
TokenInRange (code.Symbol symbol quoted) = ⊤
TokenInRange (code.String start) = ⊤
TokenInRange code.Operator = ⊤
TokenInRange (code.Float number) = IfSome number (λ f. IsFloat (value_of f))
TokenInRange (code.Begin kind) = ⊤
TokenInRange (code.End kind) = ⊤
TokenInRange code.Comma = ⊤
TokenInRange code.Colon = ⊤
TokenInRange code.Colons = ⊤

-- ---- blanks that were passed over after a token

-- where a comment begins among them that does not end
abbrev pub overrun_of : Token → Option ℕ
overrun_of (code.Plain scalar) = None
overrun_of (code.Symbol symbol quoted) = None
overrun_of (code.String start) = start
overrun_of code.Operator = None
overrun_of (code.Float number) = None
overrun_of (code.Begin kind) = None
overrun_of (code.End kind) = None
overrun_of code.Comma = None
overrun_of code.Colon = None
overrun_of code.Colons = None

-- where blanks end that were passed over up to a cursor, or up to the input's end where a comment does not end
abbrev pub going : Option ℕ → Cursor → Placed Cursor
going None c = blanks c
going (Some start) c = Err (Truncated, start)

-- ---- what a call answers and keeps

-- a token and where it ends, blanks after it being passed over up to where the source stands
abbrev pub TokenGives : List ℕ → ℕ → Result Token Fault → Cursor → Result (tokens.Token × Cursor) Reason → Type 0
TokenGives text place (Ok token) after given = (d : Cursor) × (given ≡ Ok (token_view text place token, d)) × (blanks d ≡ going (overrun_of token) after)
TokenGives text place (Err (Refused reason at)) after given = (given ≡ Err reason) × (at ≡ place)
TokenGives text place (Err Memory) after given = Unit {0}
TokenGives text place (Err ReadFault) after given = Unit {0}
TokenGives text place (Err WriteFault) after given = Unit {0}
TokenGives text place (Err InputLimit) after given = Unit {0}

-- whatever it answers
pub record ReadsToken {I : Type 0} (device : InputOf I) (limits : Rules) (old new : Incoming I) (earlier later : Counts) (before after : List ℕ) (result : Result Token Fault) : Type 0 where
  pub range : IfOk result TokenInRange
  pub further : OnOk result (old.place < new.place)
  pub into : ReadsInto device old new earlier later (length before) (length after) limits.scalar result
