-- What calls that pass over blanks answer: the runs of bytes that they take together, what stands between these, and what is left to pass over.
use Rattle.std.specs.Prelude.{◌≡◌, ℕ, ◌≤◌, Bool, true, false, not, ◌||◌, ◌==◌, if◌then◌else◌, List, length, take, drop, Option, None, Some, Ok, Err}
use Rattle.ion_meter.specs.declared.fault.Reason.TheVariants.{Truncated}
use Rattle.ion_meter.specs.Sources.{Cursor}
use Rattle.ion_value.specs.Digits.{all_are, first_is}
use Rattle.ion_value.specs.Parts.{Placed}
use Rattle.ion_text_in.specs.declared.blank.Comment.{Comment}
use Rattle.ion_text_in.specs.declared.blank.Comment.TheVariants as comment
use Rattle.ion_text_in.specs.Blanks.{is_white, blanks, in_line, in_block}

-- neither of two bytes
abbrev pub is_neither : ℕ → ℕ → ℕ → Bool
is_neither first second b = not (b == first || b == second)

-- so many bytes at the front of some pass a test, and the next one, where there is one, does not
pub record IsRun (test : ℕ → Bool) (bytes : List ℕ) (n : ℕ) : Type 0 where
  pub within : n ≤ length bytes
  pub run : all_are test (take n bytes) ≡ true
  pub ends : first_is test (drop n bytes) ≡ false

-- so many bytes at the front of some are white space, and the next one begins no comment
pub record EndsWhite (bytes : List ℕ) (n : ℕ) : Type 0 where
  pub run : IsRun is_white bytes n
  pub other : first_is (λ b. not (b == 47)) (drop n bytes) ≡ true

-- a byte that goes on with a comment, or with white space where there is none, whatever follows it
abbrev pub stays_in : Comment → ℕ → Bool
stays_in comment.None b = is_white b
stays_in comment.Line b = is_neither 10 13 b
stays_in comment.Block b = is_neither 42 42 b

-- another byte before which blanks end, whatever follows it
abbrev pub ends_blanks : Comment → ℕ → Bool
ends_blanks comment.None b = not (b == 47)
ends_blanks comment.Line b = false
ends_blanks comment.Block b = false

-- where blanks end, read on within a comment that begins at a place, or where there is none
abbrev pub within : Comment → ℕ → Cursor → Placed Cursor
within comment.None start c = blanks c
within comment.Line start c = in_line c.place c.rest
within comment.Block start c = in_block start c.place c.rest

-- where the comment begins that stands after a place
abbrev pub begun : Comment → ℕ → ℕ → ℕ
begun comment.None start place = place
begun comment.Line start place = start
begun comment.Block start place = start

-- where the comment begins that the end of the input cuts
abbrev pub cut_at : Comment → ℕ → Option ℕ
cut_at comment.None start = None
cut_at comment.Line start = None
cut_at comment.Block start = Some start

-- what the byte after another tells where the first is a slash, the end of a line or a star: which comment goes on after so many of
-- them, and nothing where blanks end before them
abbrev pub turned : Comment → Option ℕ → Option (Comment × ℕ)
turned comment.None (Some b) = if b == 47 then Some (comment.Line, 2) else (if b == 42 then Some (comment.Block, 2) else None)
turned comment.None None = None
turned comment.Line second = Some (comment.None, 1)
turned comment.Block (Some b) = if b == 47 then Some (comment.None, 2) else Some (comment.Block, 1)
turned comment.Block None = Some (comment.Block, 1)

-- blanks end where the source stands, or a comment that begins at a place does not end
abbrev pub overrun : Option ℕ → Cursor → Placed Cursor
overrun None c = Ok c
overrun (Some start) c = Err (Truncated, start)
