-- How far numbers, timestamps, words and operators go (Ion specification, "Text Encoding").
use Rattle.std.specs.Prelude.{◌≡◌, ℕ, ◌+◌, ◌-◌, ◌^◌, ◌<◌, ◌≤◌, ◌⊎◌, Bool, true, false, not, ◌&&◌, ◌||◌, ◌==◌, nat_lt, List, [], ◌∷◌, ◌++◌, length, take, drop, codes, Option, Some, None, Result, Ok}
use Rattle.ion_meter.specs.declared.fault.Reason.{Reason}
use Rattle.ion_meter.specs.declared.fault.Reason.TheVariants.{ScalarLimit}
use Rattle.ion_meter.specs.declared.profile.Rules.{Rules}
use Rattle.ion_meter.specs.Counts.{Counts}
use Rattle.ion_meter.specs.Sources.{Cursor, skip, Stands}
use Rattle.ion_meter.specs.Windows.{Incoming, lent, IsPassed}
use Rattle.ion_value.specs.Parts.{refuse, ◌>>◌}
use Rattle.ion_text_in.specs.Limit.{passes}
use Rattle.ion_value.specs.Name.{is_identifier_byte, is_one_of, is_operator_byte}
use Rattle.ion_text_in.specs.declared.run.Extent.{Extent}
use Rattle.ion_text_in.specs.declared.run.Run.{Run}
use Rattle.ion_text_in.specs.declared.run.Run.TheVariants.{Number, Word, Operator}
use Rattle.ion_text_in.specs.Places.{run_of}
use Rattle.ion_text_in.specs.Blanks.{is_white}
use Rattle.ion_text_in.specs.Token.{in_run, in_word, in_operator}

-- what goes on with a token after its first byte
abbrev pub goes_on : Run → List ℕ → Bool
goes_on Number bytes = in_run bytes
goes_on Word bytes = in_word bytes
goes_on Operator bytes = in_operator bytes

-- a byte that goes on whatever follows it
abbrev pub stays : Run → ℕ → Bool
stays Number b = not (is_one_of (codes "{}[](),\"'") b || is_white b) && not (b == 47)
stays Word b = is_identifier_byte b
stays Operator b = is_operator_byte b && not (b == 47)

-- a byte that goes on with a number or a timestamp whatever follows it, as few tests tell; some that do go on fail them
abbrev pub is_sure_in_number : ℕ → Bool
is_sure_in_number b = not (nat_lt b 43 || is_one_of (codes ",/{}[]") b)

-- a slash goes on unless it begins a comment
abbrev pub has_slashes : Run → Bool
has_slashes Number = true
has_slashes Word = false
has_slashes Operator = true

-- so many bytes at the front of a slice go on, whatever follows the slice
abbrev pub GoOn : (List ℕ → Bool) → List ℕ → ℕ → Type 0
GoOn test bytes n =
    (more : List ℕ) → run_of test (bytes ++ more) ≡ (take n bytes ++ (run_of test (drop n bytes ++ more)).0, (run_of test (drop n bytes ++ more)).1)

-- and no more
abbrev pub EndAfter : (List ℕ → Bool) → List ℕ → ℕ → Type 0
EndAfter test bytes n = (more : List ℕ) → run_of test (bytes ++ more) ≡ (take n bytes, drop n bytes ++ more)

-- a byte, where there is one, after a slash that begins a comment
abbrev pub opens_comment : Option ℕ → Bool
opens_comment (Some b) = b == 47 || b == 42
opens_comment None = false

-- it is not shown whether a token goes on: nothing stands there, or a slash that may begin a comment
abbrev pub IsOpen : Run → List ℕ → Type 0
IsOpen run rest = (rest ≡ []) ⊎ ((has_slashes run ≡ true) × (rest ≡ 47 ∷ []))

-- how far a token goes on in a slice, and whether the slice shows that it goes no further
pub record IsExtent (run : Run) (bytes : List ℕ) (extent : Extent) : Type 0 where
  pub within : extent.len ≤ length bytes
  pub after : extent.ended ≡ true → extent.len < length bytes
  pub goes : GoOn (goes_on run) bytes extent.len
  pub ends : extent.ended ≡ true → EndAfter (goes_on run) bytes extent.len
  pub unsure : extent.ended ≡ false → IsOpen run (drop extent.len bytes)

-- so many bytes at the front of some go on
abbrev pub GoesOver : (List ℕ → Bool) → List ℕ → ℕ → Type 0
GoesOver test bytes n = run_of test bytes ≡ (take n bytes ++ (run_of test (drop n bytes)).0, (run_of test (drop n bytes)).1)

-- ---- bytes that are gathered

-- some bytes after others, of which a limit may say how many there may be in all, and what stands after them
abbrev pub joined : Option ℕ → List ℕ → List ℕ → Cursor → Result (List ℕ × Cursor) Reason
joined limit before bytes c = do
  refuse (passes limit (length before + length bytes)) ScalarLimit
  Ok (before ++ bytes, skip (length bytes) c)

-- the bytes that go on with a token, after those before them
abbrev pub with_run : Run → Option ℕ → List ℕ → Cursor → Result (List ℕ × Cursor) Reason
with_run run limit before c = joined limit before (run_of (goes_on run) c.rest).0 c

-- bytes may be added to a text, up to a limit
pub record CanAppend {I : Type 0} (limits : Rules) (source : Incoming I) (text : List ℕ) (meter : Counts) : Type 0 where
  pub stands : Stands source
  pub holds : length text ≤ meter.held
  pub room : meter.held + (limits.scalar - length text) < 2 ^ 63
  pub countable : meter.refused < 2 ^ 64 - 1
  pub checked : limits.scalar ≤ 2 ^ 30
  pub share : length text ≤ limits.scalar

-- bytes of a window are added to a text within a limit, and passed over
pub record IsAppended {I : Type 0} (before after : List ℕ) (old new : Incoming I) (count : ℕ) : Type 0 where
  pub text : after ≡ before ++ take count (lent old)
  pub passed : IsPassed old new count

-- a fault is that so many bytes more pass the limit, in a token that begins at a place
pub record IsOver (limit place before count : ℕ) (reason : Reason) (at : ℕ) : Type 0 where
  pub is_limit : reason ≡ ScalarLimit
  pub is_place : at ≡ place
  pub more : limit < before + count
