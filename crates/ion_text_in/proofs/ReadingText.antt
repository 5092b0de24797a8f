-- A reading as text, in which worked rows show it: the items, and how they end. An item has its place, after a slash that of
-- its top-level value where this is another one, its field, its annotations and its head. A symbol has its place after an `@`.
-- A byte that is no printable character, a quote or a backslash is two hex digits after a backslash.
use Rattle.std.specs.Prelude.{◌≡◌, map, codes, decimal, ℕ, ◌+◌, ◌/◌, ◌%◌, Bool, true, false, not, ◌&&◌, ◌==◌, nat_lt, if◌then◌else◌, List, [], ◌∷◌, ◌++◌, Option, Some, None}
use Rattle.std.specs.List.{flat_map}
use Rattle.std.specs.Str.{is_utf8, chars}
use Rattle.std.specs.Fmt.{digits}
use Prim.Native.String.{String}
use lib.Ieee.{round, to_bits, of_bits}
use lib.Utf8.{encode}
use Rattle.base64.specs.GeneralPurpose.{decoded_of}
use Rattle.base64.specs.Rfc4648.{encode_symbols}
use Rattle.base64.specs.Decode.{groups_error, scan_steps, groups_bytes}
use Rattle.ion_meter.specs.Reasons.{name_of}
use Rattle.ion_meter.specs.declared.profile.Rules.{Rules}
use Rattle.ion_value.specs.declared.ion_type.Kind.{Kind}
use Rattle.ion_value.specs.declared.ion_type.Kind.TheVariants as kind
use Rattle.ion_value.specs.Digits.{is_between, cut_at, fixed_digits}
use Rattle.ion_value.specs.Name.{null_text, bool_text, is_one_of}
use Rattle.ion_value.specs.Number.{digits_within}
use Rattle.ion_value.specs.Int.{int_of_text, int_text}
use Rattle.ion_value.specs.FloatText.{float_text, float_of_text}
use Rattle.ion_value.specs.Shortest.{shortest, search, reads_as}
use Rattle.ion_value.specs.Decimal.{decimal_of_text, decimal_text, parts_of}
use Rattle.ion_value.specs.Timestamp.{timestamp_of_text, timestamp_text, minute_number, utc_of, local_of}
use Rattle.ion_value.specs.Scalar.{scalar_of_run}
use Rattle.ion_value.specs.Value as value
use Rattle.ion_value.specs.Value.{Symbol, SymbolAt, Scalar, Head, PlacedItem}
use Rattle.ion_value.specs.Reading.{Reading, Finished, Stopped, More}
use Rattle.ion_text_in.specs.Places.{run_of}
use Rattle.ion_text_in.specs.Blanks.{blanks_at, in_line, opening, in_block, closing}
use Rattle.ion_text_in.specs.Quoted.{hex_after, piece_at, pieces_for, segment_at, segments_for}
use Rattle.ion_text_in.specs.Lob.{group_of, groups_for, lob_at}
use Rattle.ion_text_in.specs.Token.{first_at, word_token, token_of}
use Rattle.ion_text_in.specs.Reading.{may_come, tells_version, take, part_at, step, reading}

-- ---- how a reading is shown

abbrev pub hex_digit : ℕ → ℕ
hex_digit n = if nat_lt n 10 then 48 + n else 87 + n

abbrev pub byte_shown : ℕ → List ℕ
byte_shown b =
    if is_between 32 126 b && not (is_one_of (codes "\"'\\") b) then b ∷ []
    else 92 ∷ hex_digit (b / 16) ∷ hex_digit (b % 16) ∷ []

abbrev pub quoted : String → List ℕ → List ℕ
quoted quote bytes = codes quote ++ (flat_map byte_shown bytes ++ codes quote)

abbrev pub symbol_shown : Symbol → List ℕ
symbol_shown (value.Text bytes) = quoted "'" bytes
symbol_shown (value.Id id) = codes "$" ++ decimal id

abbrev pub placed : SymbolAt → List ℕ
placed s = symbol_shown s.symbol ++ (codes "@" ++ decimal s.place)

abbrev pub scalar_shown : Scalar SymbolAt → List ℕ
scalar_shown (value.null type) = null_text type
scalar_shown (value.bool truth) = bool_text truth
scalar_shown (value.int number) = int_text number
scalar_shown (value.float number) = float_text number
scalar_shown (value.decimal number) = decimal_text number
scalar_shown (value.timestamp moment) = timestamp_text moment
scalar_shown (value.symbol s) = placed s
scalar_shown (value.string bytes) = quoted "\"" bytes
scalar_shown (value.clob bytes) = codes "clob " ++ quoted "\"" bytes
scalar_shown (value.blob bytes) = codes "blob " ++ quoted "\"" bytes

abbrev pub bracket : Kind → List ℕ
bracket kind.List = codes "["
bracket kind.Sexp = codes "("
bracket kind.Struct = codes "{"

abbrev pub head_shown : Head SymbolAt → List ℕ
head_shown (value.whole body) = scalar_shown body
head_shown (value.begin k) = bracket k
head_shown value.end = codes "end"
head_shown value.marker = codes "version"

abbrev pub field_shown : Option SymbolAt → List ℕ
field_shown None = []
field_shown (Some s) = placed s ++ codes ":"

abbrev pub places_shown : ℕ → ℕ → List ℕ
places_shown place top = decimal place ++ (if place == top then [] else codes "/" ++ decimal top)

abbrev pub item_shown : PlacedItem → List ℕ
item_shown i =
    places_shown i.place i.top ++ (codes " " ++ (field_shown i.field
    ++ (flat_map (λ a. placed a ++ codes "::") i.annotations ++ head_shown i.head)))

abbrev pub reading_shown : Reading → List ℕ
reading_shown Finished = codes "done"
reading_shown (Stopped reason place) = name_of reason ++ (codes " at " ++ decimal place)
reading_shown (More item rest) = item_shown item ++ (codes "; " ++ reading_shown rest)

abbrev pub rules_of : ℕ → ℕ → Bool → Rules
rules_of depth scalar floats = record { depth = depth; scalar = scalar; floats = floats }

-- what is read with so many containers open at most, and scalars of so many bytes, where floats are read or not
unfoldable pub read_within : ℕ → ℕ → Bool → String → List ℕ
unfolding encode_symbols groups_error scan_steps groups_bytes is_utf8 chars digits encode decoded_of cut_at fixed_digits digits_within int_of_text decimal_of_text parts_of timestamp_of_text timestamp_text minute_number utc_of local_of scalar_of_run float_of_text round to_bits of_bits shortest search reads_as run_of blanks_at in_line opening in_block closing hex_after piece_at pieces_for segment_at segments_for group_of groups_for lob_at first_at word_token token_of may_come tells_version take part_at step reading
read_within depth scalar floats text =
    reading_shown (reading (rules_of depth scalar floats) (codes text))

-- ---- rows

-- under these limits, by a name, a text, what is read of it, and what this is to be
abbrev pub row_within : ℕ → ℕ → String → String → String → List ℕ × List ℕ
row_within depth scalar name text shown = (read_within depth scalar false text, codes shown)

-- where floats are read
abbrev pub float_row_within : ℕ → ℕ → String → String → String → List ℕ × List ℕ
float_row_within depth scalar name text shown = (read_within depth scalar true text, codes shown)

abbrev pub float_row : String → String → String → List ℕ × List ℕ
float_row name text shown = float_row_within 64 1048576 name text shown

abbrev pub row : String → String → String → List ℕ × List ℕ
row name text shown = row_within 64 1048576 name text shown

abbrev pub AreRead : List (List ℕ × List ℕ) → Type 0
AreRead rows = map (λ r. r.0) rows ≡ map (λ r. r.1) rows
