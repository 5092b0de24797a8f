-- Blobs and clobs (Ion specification, "Blobs", "Clobs").
use Rattle.std.specs.Prelude.{ℕ, zero, suc, ◌+◌, ◌-◌, Bool, true, false, not, ◌&&◌, ◌||◌, ◌==◌, nat_lt, if◌then◌else◌, List, [], ◌∷◌, ◌++◌, length, Option, Some, None, Result, Ok, Err}
use Rattle.base64.specs.Engines.{standard}
use Rattle.base64.specs.GeneralPurpose.{decoded_of}
use Rattle.std.specs.Str.{bytes_eq}
use Rattle.ion_meter.specs.declared.fault.Reason.{Reason}
use Rattle.ion_meter.specs.declared.fault.Reason.TheVariants.{Truncated, BadLob, ScalarLimit}
use Rattle.ion_value.specs.Digits.{first_is}
use Rattle.ion_value.specs.Name.{begins_with}
use Rattle.ion_value.specs.Value.{Scalar, clob, blob}
use Rattle.ion_meter.specs.Sources.{Cursor, skip}
use Rattle.ion_value.specs.Parts.{refuse, ◌>>=◌, ◌>>◌}
use Rattle.ion_text_in.specs.Places.{after_run}
use Rattle.ion_text_in.specs.Limit.{passes}
use Rattle.ion_text_in.specs.Blanks.{is_white}
use Rattle.ion_text_in.specs.Quoted.{short_quote, long_quote, text_at}

-- the braces that close a lob; a brace alone may be cut by the input's end
abbrev pub braces : List ℕ → Result (Unit {0}) Reason
braces [] = Err Truncated
braces (b ∷ []) = if b == 125 then Err Truncated else Err BadLob
braces (b ∷ c ∷ bytes) = refuse (not (b == 125 && c == 125)) BadLob

-- the cursor after the closing braces, which must stand here
abbrev pub closed_at : Cursor → Result Cursor Reason
closed_at c = do
  braces c.rest
  Ok (skip 2 c)

-- ---- blobs

-- so many characters, white space apart, or fewer where a brace or the input's end comes before; and what stands after them
unfoldable pub group_of : ℕ → List ℕ → List ℕ × List ℕ
group_of zero bytes = ([], bytes)
group_of (suc more) [] = ([], [])
group_of (suc more) (b ∷ bytes) = elim (is_white b) [
  | true ↦ group_of (suc more) bytes
  | false ↦ elim (b == 125) [ true ↦ ([], b ∷ bytes) | false ↦ (b ∷ (group_of more bytes).0, (group_of more bytes).1) ]
]

-- the cursor further on, where `rest` is all that is left
abbrev pub after_to : Cursor → List ℕ → Cursor
after_to c rest = record { place = c.place + (length c.rest - length rest); rest = rest }

-- what fewer than four characters and what stands after them come to: the braces, where there is none of them
abbrev pub last_group : List ℕ → Cursor → Result (List ℕ × Cursor) Reason
last_group [] c = do
  d ← closed_at c
  Ok ([], d)
last_group (b ∷ group) c = do
  closed_at c
  Err BadLob

-- a group of four characters: its bytes, unless another was padded before it
abbrev pub group_bytes : Bool → List ℕ → Result (List ℕ) Reason
group_bytes padded group = elim (decoded_of standard group) [ Some bytes ↦ if padded then Err BadLob else Ok bytes | None ↦ Err BadLob ]

-- the groups of a blob, where so many bytes came before; the first number is how many there are at most
unfoldable pub groups_for : ℕ → Option ℕ → ℕ → Bool → Cursor → Result (List ℕ × Cursor) Reason
groups_for zero limit count padded c = Err Truncated
groups_for (suc most) limit count padded c =
    let g = group_of 4 c.rest in
    if nat_lt (length g.0) 4 then last_group g.0 (after_to c g.1)
    else (do
      bytes ← group_bytes padded g.0
      refuse (passes limit (count + length bytes)) ScalarLimit
      others ← groups_for most limit (count + length bytes) (nat_lt (length bytes) 3) (after_to c g.1)
      Ok (bytes ++ others.0, others.1))

-- a blob from its first character to after its closing braces, of whose bytes a limit may say how many there may be
abbrev pub blob_at : {S : Type 0} → Option ℕ → Cursor → Result (Scalar S × Cursor) Reason
blob_at limit c = do
  b ← groups_for (suc (length c.rest)) limit 0 false c
  Ok (blob b.0, b.1)

-- ---- clobs

-- one quote or two at the input's end, which may begin a further segment
abbrev pub are_cut_quotes : List ℕ → Bool
are_cut_quotes bytes = bytes_eq (39 ∷ []) bytes || bytes_eq (39 ∷ 39 ∷ []) bytes

-- the braces after the text of a clob
abbrev pub clob_closed_at : Bool → Cursor → Result Cursor Reason
clob_closed_at is_long c = do
  refuse (is_long && are_cut_quotes c.rest) Truncated
  closed_at c

-- a clob from after the quotes that open its text, long or short, to after its closing braces
abbrev pub clob_at : {S : Type 0} → Option ℕ → Bool → Cursor → Result (Scalar S × Cursor) Reason
clob_at limit is_long c = do
  t ← text_at (if is_long then long_quote true else short_quote true) limit c
  d ← clob_closed_at is_long (after_run (first_is is_white) t.1)
  Ok (clob t.0, d)

-- a lob after its opening braces and white space: quotes open a clob, and anything else is a blob
abbrev pub lob_in : {S : Type 0} → Option ℕ → Cursor → Result (Scalar S × Cursor) Reason
lob_in limit c =
    if begins_with (34 ∷ []) c.rest then clob_at limit false (skip 1 c)
    else (if begins_with (39 ∷ 39 ∷ 39 ∷ []) c.rest then clob_at limit true (skip 3 c)
    else blob_at limit c)

-- a lob from after its opening braces on: white space may stand before its text
unfoldable pub lob_at : {S : Type 0} → Option ℕ → Cursor → Result (Scalar S × Cursor) Reason
lob_at limit c = lob_in limit (after_run (first_is is_white) c)
