-- What is kept of the lines of an input while it is read.
use Rattle.std.specs.Prelude.{◌≡◌, ◌⊎◌, ℕ, ◌+◌, ◌-◌, ◌%◌, ◌^◌, ◌<◌, ◌≤◌, Bool, true, false, max, List, [], ◌++◌, length, take, drop, slice_index, slice_set, Option, None, Some, Result, Ok, Err}
use Rattle.ion_meter.specs.Devices.{IsReadOn}
use Rattle.ion_meter.specs.Windows.{HasPrefix}
use Rattle.ion_meter.specs.declared.device.Input.{Ghosts as InputOf}
use Rattle.ion_meter.specs.declared.fault.Fault.{Fault}
use Rattle.ion_meter.specs.declared.fault.Fault.TheVariants.{Refused, Memory, ReadFault, WriteFault, InputLimit}
use Rattle.ion_transcode.specs.Forms.{form_by, form_of}
use Rattle.ion_transcode.specs.declared.to.Form.TheVariants as form
use Rattle.ion_transcode.specs.declared.to.Summary.{Summary}
use Rattle.ion_tool.specs.LineNumbers.{is_line_end, line_ends, since_line_end}
use Rattle.ion_tool.specs.declared.marks.Position.{Position}

-- what is kept of bytes that were counted: how many they are, how many lines end in them, whether the first is E0, and where the last 65,536 lines begin, the one
-- with n lines before it at n modulo 65,536
pub record Marks : Type 0 where
  pub count : ℕ
  pub ends : ℕ
  pub is_binary : Bool
  pub begins : List ℕ

-- the line with so many lines before it begins at this offset of the bytes
pub record BeginsAt (bytes : List ℕ) (before offset : ℕ) : Type 0 where
  pub within : offset ≤ length bytes
  pub lines : line_ends (take offset bytes) ≡ before
  pub after_end : 0 < offset → is_line_end (slice_index bytes (offset - 1)) ≡ true

-- these are the marks of these bytes, but for their first
pub record HasMarks (bytes : List ℕ) (m : Marks) : Type 0 where
  pub count : m.count ≡ length bytes
  pub ends : m.ends ≡ line_ends bytes
  pub begins : (line : ℕ) → line ≤ m.ends → m.ends < line + 65536 → BeginsAt bytes line (slice_index m.begins (line % 65536))

-- the marks of a beginning of what was read: of all of it, while that is less than can be counted
pub record HasCounted (read : List ℕ) (m : Marks) : Type 0 where
  pub counted : List ℕ
  pub prefix : HasPrefix read counted
  pub whole : m.count < 2 ^ 64 - 1 → counted ≡ read
  pub marks : HasMarks counted m
  pub form : form_of read ≡ form_by m.is_binary

-- marks after bytes more, of which the last ends a line and no other does
abbrev pub with_line : Marks → ℕ → Marks
with_line m bytes = record m {
  count = m.count + bytes;
  ends = m.ends + 1;
  begins = slice_set m.begins ((m.ends + 1) % 65536) (m.count + bytes);
}

-- what was found of a place in what was read: of a text how many lines end before it and how many bytes of its line stand before it, or nothing where 65,536 lines or
-- more end from there on; of binary nothing
abbrev pub Finds : List ℕ → ℕ → Option Position → Type 0
Finds read place None = (form_of read ≡ form.Binary) ⊎ (65536 ≤ line_ends (drop place read))
Finds read place (Some p) = (form_of read ≡ form.Text) × (p.lines ≡ line_ends (take place read)) × (p.bytes ≡ since_line_end (take place read))

-- an input, and what is kept of its lines where they are counted
pub record Counting (I : Type 0) : Type 0 where
  pub device : I
  pub marks : Option Marks

-- what was counted after a read is what was counted before, with the bytes that it gave
abbrev pub CountsOn : Option Marks → List ℕ → Option Marks → Type 0
CountsOn None more None = Unit {0}
CountsOn None more (Some new) = ⊥
CountsOn (Some old) more None = ⊥
CountsOn (Some old) more (Some new) =
    ((new.count ≡ old.count + length more) ⊎ (2 ^ 64 - 1 ≤ new.count)) × ((read : List ℕ) → HasCounted read old → HasCounted (read ++ more) new)

-- an input of which the lines are counted as it is read
abbrev pub counter_input : {I : Type 0} → InputOf I → InputOf (Counting I)
counter_input device = record {
  rest = λ c. device.rest c.device;
  failure_count = λ c. device.failure_count c.device;
  observable = λ c. device.observable c.device;
  yields = λ old more new. device.yields old.device more new.device × CountsOn old.marks more new.marks;
}

-- what is kept of an input before it is read: nothing where its lines are not counted
abbrev pub StartsCount : Bool → Option Marks → Type 0
StartsCount false None = Unit {0}
StartsCount false (Some m) = ⊥
StartsCount true None = ⊥
StartsCount true (Some m) = HasCounted [] m

-- where bytes are counted, so many were, or none are left
abbrev pub IsReached : {I : Type 0} → InputOf I → ℕ → I → Option Marks → Type 0
IsReached device place input None = Unit {0}
IsReached device place input (Some m) = (place ≤ m.count) ⊎ (device.observable input → device.rest input ≡ [])

-- what was found of a place: nothing where no bytes are counted
abbrev pub Locates : ℕ → Option Marks → Option Position → Type 0
Locates place None found = found ≡ None
Locates place (Some m) found = (read : List ℕ) → HasCounted read m → Finds read place found

-- an input was read on up to this place, and what was found of it
pub record IsLocated {I : Type 0} (device : InputOf I) (place : ℕ) (new : Counting I) (found : Option Position) : Type 0 where
  pub reached : IsReached device (max place 1) new.device new.marks
  pub located : Locates place new.marks found

-- an answer as it was, and nothing found
pub record IsUnplaced {I : Type 0} (old new : Counting I) (answer result : Result Summary Fault) (found : Option Position) : Type 0 where
  pub same : result ≡ answer
  pub input : new ≡ old
  pub nothing : found ≡ None

-- a refusal, with what was found of its place; or the input failed that was read on for that
pub record IsPlaced {I : Type 0} (device : InputOf I) (place : ℕ) (old new : Counting I) (answer result : Result Summary Fault) (found : Option Position) : Type 0 where
  pub reads : IsReadOn (counter_input device) old new
  pub placed : ((result ≡ answer) × (device.failure_count new.device ≡ device.failure_count old.device) × IsLocated device place new found)
      ⊎ ((result ≡ Err ReadFault) × (device.failure_count new.device ≡ device.failure_count old.device + 1) × (found ≡ None))

-- by the answer: what was found of the place that it blames
abbrev pub Places : {I : Type 0} → InputOf I → Counting I → Counting I → Result Summary Fault → Result Summary Fault → Option Position → Type 0
Places device old new (Ok summary) result found = IsUnplaced old new (Ok summary) result found
Places device old new (Err (Refused reason place)) result found = IsPlaced device place old new (Err (Refused reason place)) result found
Places device old new (Err InputLimit) result found = IsUnplaced old new (Err InputLimit) result found
Places device old new (Err Memory) result found = IsUnplaced old new (Err Memory) result found
Places device old new (Err ReadFault) result found = IsUnplaced old new (Err ReadFault) result found
Places device old new (Err WriteFault) result found = IsUnplaced old new (Err WriteFault) result found
