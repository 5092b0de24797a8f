-- Lines and columns, worked out.
use Rattle.std.proofs.Common.{refl, ◌≡◌, [], ◌∷◌, codes, List, ℕ}
use Rattle.std.specs.Fmt.{digits}
use Rattle.ion_transcode.specs.declared.to.Form.TheVariants as form
use Rattle.ion_tool.specs.LineNumbers.{column_at, line_at, place_text}

-- three lines that end with LF, of which one is empty, and one that does not end
abbrev text : List ℕ
text = codes "ab\nc\n\nd"

-- the first byte stands at line 1, column 1
pub first_line : line_at text 0 ≡ 1
first_line = refl

pub first_column : column_at text 0 ≡ 1
first_column = refl

-- an LF is the last byte of its own line
pub line_of_an_end : line_at text 2 ≡ 1
line_of_an_end = refl

pub column_of_an_end : column_at text 2 ≡ 3
column_of_an_end = refl

-- the byte after it begins the next
pub line_after_an_end : line_at text 3 ≡ 2
line_after_an_end = refl

pub column_after_an_end : column_at text 3 ≡ 1
column_after_an_end = refl

-- a line may be empty
pub line_of_none : line_at text 5 ≡ 3
line_of_none = refl

pub column_of_none : column_at text 5 ≡ 1
column_of_none = refl

-- the place after the last byte
pub last_line : line_at text 7 ≡ 4
last_line = refl

pub last_column : column_at text 7 ≡ 2
last_column = refl

-- after an LF at the end a line begins that has no byte
pub line_after_all : line_at (codes "ab\n") 3 ≡ 2
line_after_all = refl

pub column_after_all : column_at (codes "ab\n") 3 ≡ 1
column_after_all = refl

-- CR LF ends one line, and CR is a byte of it
pub line_of_cr_lf : line_at (codes "a\r\nb") 3 ≡ 2
line_of_cr_lf = refl

pub column_of_lf : column_at (codes "a\r\nb") 2 ≡ 3
column_of_lf = refl

-- CR alone ends none
pub line_of_cr : line_at (codes "a\rb\rc") 4 ≡ 1
line_of_cr = refl

pub column_of_cr : column_at (codes "a\rb\rc") 4 ≡ 5
column_of_cr = refl

-- columns count bytes: the two of `é` are two
pub column_of_bytes : column_at (34 ∷ 195 ∷ 169 ∷ 34 ∷ []) 3 ≡ 4
column_of_bytes = refl

-- what stands after the offset
pub said_of_text : place_text form.Text text 4 ≡ codes " (line 2, column 2)"
unfolding digits
said_of_text = refl

pub said_of_binary : place_text form.Binary text 4 ≡ []
said_of_binary = refl
