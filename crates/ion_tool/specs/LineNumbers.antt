-- The lines of a text. A line ends with the byte LF, as `awk` counts: CR alone ends none, and CR LF ends one by its LF.
use Rattle.std.specs.Prelude.{ℕ, ◌+◌, ◌==◌, Bool, not, List, [], ◌++◌, take, count_by, codes, decimal}
use Rattle.std.specs.List.{suffix_len}
use Rattle.ion_transcode.specs.declared.to.Form.{Form}
use Rattle.ion_transcode.specs.declared.to.Form.TheVariants as form

-- the byte that ends a line
abbrev pub is_line_end : ℕ → Bool
is_line_end byte = byte == 10

-- how many lines end in these bytes
abbrev pub line_ends : List ℕ → ℕ
line_ends bytes = count_by is_line_end bytes

-- how many bytes stand after the last end of a line in these bytes, or in all where no line ends
abbrev pub since_line_end : List ℕ → ℕ
since_line_end bytes = suffix_len (λ byte. not (is_line_end byte)) bytes

-- the line of a place, counted from 1
abbrev pub line_at : List ℕ → ℕ → ℕ
line_at bytes place = 1 + line_ends (take place bytes)

-- the column of a place in its line, in bytes and counted from 1
abbrev pub column_at : List ℕ → ℕ → ℕ
column_at bytes place = 1 + since_line_end (take place bytes)

-- what is said of a place in a text
abbrev pub position_text : ℕ → ℕ → List ℕ
position_text line column = codes " (line " ++ decimal line ++ codes ", column " ++ decimal column ++ codes ")"

-- what is said of a place of a stream beside its offset: of a text its line and column
abbrev pub place_text : Form → List ℕ → ℕ → List ℕ
place_text form.Text bytes place = position_text (line_at bytes place) (column_at bytes place)
place_text form.Binary bytes place = []
