-- What stands between tokens and is ignored: white space and comments (Ion specification, "Text Encoding").
use Rattle.std.specs.Prelude.{ℕ, suc, Bool, true, false, ◌&&◌, ◌||◌, ◌==◌, if◌then◌else◌, List, [], ◌∷◌, Ok, Err}
use Rattle.ion_meter.specs.declared.fault.Reason.TheVariants.{Truncated}
use Rattle.ion_value.specs.Digits.{is_between, first_is}
use Rattle.ion_meter.specs.Sources.{Cursor}
use Rattle.ion_value.specs.Parts.{Placed}

-- space, and from tab to carriage return
abbrev pub is_white : ℕ → Bool
is_white b = b == 32 || is_between 9 13 b

-- LF and CR, each of which ends a line
abbrev pub is_line_end : ℕ → Bool
is_line_end b = b == 10 || b == 13

-- what begins at a byte with the bytes after it
pub data Begins : Type 0 where
  white : Begins
  line_comment : Begins
  block_comment : Begins
  no_blank : Begins

-- which blank begins at the byte b, if any does; `bytes` stand after it
abbrev pub blank_at : ℕ → List ℕ → Begins
blank_at b bytes =
    if is_white b then white
    else (if b == 47 && first_is (λ c. c == 47) bytes then line_comment
    else (if b == 47 && first_is (λ c. c == 42) bytes then block_comment
    else no_blank))

-- a comment begins
abbrev pub is_comment : Begins → Bool
is_comment line_comment = true
is_comment block_comment = true
is_comment white = false
is_comment no_blank = false

-- a comment begins at the first of these bytes
abbrev pub begins_comment : List ℕ → Bool
begins_comment [] = false
begins_comment (b ∷ bytes) = is_comment (blank_at b bytes)

-- `*/`
abbrev pub ends_block : ℕ → List ℕ → Bool
ends_block b bytes = b == 42 && first_is (λ c. c == 47) bytes

-- the cursor at the place p, where these bytes are still to come, without a fault
abbrev pub here : ℕ → List ℕ → Placed Cursor
here p bytes = Ok (record { place = p; rest = bytes })

-- after all blanks from a place on; a comment in a block that does not end is refused where it begins
unfoldable mutual
  pub blanks_at : ℕ → List ℕ → Placed Cursor
  blanks_at p [] = here p []
  blanks_at p (b ∷ bytes) = elim (blank_at b bytes) [
    | white ↦ blanks_at (suc p) bytes
    | line_comment ↦ in_line (suc p) bytes
    | block_comment ↦ opening p (suc p) bytes
    | no_blank ↦ here p (b ∷ bytes)
  ]

  -- in a comment up to the end of its line
  pub in_line : ℕ → List ℕ → Placed Cursor
  in_line p [] = here p []
  in_line p (b ∷ bytes) = elim (is_line_end b) [ true ↦ blanks_at (suc p) bytes | false ↦ in_line (suc p) bytes ]

  -- at the star that opens a comment in a block
  pub opening : ℕ → ℕ → List ℕ → Placed Cursor
  opening start p [] = Err (Truncated, start)
  opening start p (b ∷ bytes) = in_block start (suc p) bytes

  -- inside a comment in a block that began at `start`, up to the star that closes it
  pub in_block : ℕ → ℕ → List ℕ → Placed Cursor
  in_block start p [] = Err (Truncated, start)
  in_block start p (b ∷ bytes) = elim (ends_block b bytes) [ true ↦ closing (suc p) bytes | false ↦ in_block start (suc p) bytes ]

  -- at the slash that closes it
  pub closing : ℕ → List ℕ → Placed Cursor
  closing p [] = here p []
  closing p (b ∷ bytes) = blanks_at (suc p) bytes

-- after all blanks from a cursor on, or the fault of a comment in a block that does not end
abbrev pub blanks : Cursor → Placed Cursor
blanks c = blanks_at c.place c.rest
