-- What is true of the grammar and the reading: laws that contracts cite.
use Rattle.std.specs.Prelude.{◌≡◌, ℕ, ◌<◌, ◌≤◌, ◌⊎◌, Bool, true, false, List, [], ◌∷◌, ◌++◌, length, sum_by, Option, Some, Err}
use Rattle.std.specs.List.{AllByRecursion}
use lib.Ieee.{Float}
use Rattle.ion_meter.specs.declared.fault.Reason.{Reason}
use Rattle.ion_meter.specs.declared.fault.Reason.TheVariants as reasons
use Rattle.ion_meter.specs.declared.fault.Reason.TheVariants.{DepthLimit, ScalarLimit, AnnotationLimit}
use Rattle.ion_meter.specs.declared.limits.Limits.{Limits}
use Rattle.ion_meter.specs.declared.profile.Rules.{Rules}
use Rattle.ion_meter.specs.Rules.{floats, rules, strictly}
use Rattle.ion_value.specs.declared.ion_type.Kind.{Kind}
use Rattle.ion_value.specs.Value.{Symbol, SymbolAt, Top}
use Rattle.ion_value.specs.Writable.{IsRaw}
use Rattle.ion_value.specs.Path.{Path, closed, path_items}
use Rattle.ion_value.specs.Reading.{Reading, Finished, Stopped, Shrinks, items_of, items_then, reading_by}
use Rattle.ion_value.specs.ReadingLaws.{ending_of, IsLimit, Allows, AreWithin, ArePermitted, IsBegun}
use Rattle.ion_meter.specs.Sources.{Cursor}
use Rattle.ion_text_in.specs.Token as tokens
use Rattle.ion_text_in.specs.Token.{name, begin, colons, next_token}
use Rattle.ion_text_in.specs.Positions.{State, a_value, innermost, in_sexp, at}
use Rattle.ion_text_in.specs.Reading.{cost, step, size, reading}
use Rattle.ion_text_in.specs.Grammar.{Tok, Stream}
use Rattle.ion_text_in.specs.Paths.{IsPath, At, Follows}
use Rattle.ion_text_in.specs.Within.{PathWithin, TopsWithin}

-- what is read is a path of the bytes, of what the rules permit, and a stream where reading finishes
pub record IsRead (limits : Rules) (bytes : List ℕ) (r : Reading) : Type 0 where
  pub path : Path SymbolAt ℕ
  pub place : ℕ
  pub is_path : IsPath bytes place path
  pub items : items_of r ≡ path_items path
  pub permitted : ArePermitted limits (items_of r)
  pub whole : ending_of r ≡ Finished → (tops : List (Top SymbolAt ℕ)) × (path ≡ closed tops) × Stream bytes tops

-- so it is of all bytes, under all rules
abbrev pub Sound : Type 0
Sound = (limits : Rules) (bytes : List ℕ) → IsRead limits bytes (reading limits bytes)

-- a step from after a path and the front of an item gives an item and the path with it, or it keeps the path; it ends
-- where nothing is open and nothing but blanks is left
abbrev pub EachStepFollows : Type 0
EachStepFollows =
    (limits : Rules) (bytes : List ℕ) (path : Path SymbolAt ℕ) (s : State) → At bytes path s → Follows bytes path s (step limits s)

-- each step takes a byte
abbrev pub EachStepFalls : Type 0
EachStepFalls = (limits : Rules) → Shrinks (step limits) size

-- whatever path the bytes have, its items are read first where the limits allow them and the rules permit them
abbrev pub Complete : Type 0
Complete =
    (limits : Rules) (bytes : List ℕ) (q : ℕ) (path : Path SymbolAt ℕ) → Allows limits bytes → ArePermitted limits (path_items path)
    → IsPath bytes q path
    → (rest : Reading) × (reading limits bytes ≡ items_then (path_items path) rest)

-- and a stream is read to its end
abbrev pub StreamsAreRead : Type 0
StreamsAreRead =
    (limits : Rules) (bytes : List ℕ) (tops : List (Top SymbolAt ℕ)) → Allows limits bytes
    → ArePermitted limits (path_items (closed tops)) → Stream bytes tops
    → reading limits bytes ≡ items_then (path_items (closed tops)) Finished

-- a path is read first under rules that allow what stands in it: tokens, annotations, depth and floats
abbrev pub PathsWithinAreRead : Type 0
PathsWithinAreRead =
    (limits : Rules) (bytes : List ℕ) (q : ℕ) (path : Path SymbolAt ℕ) (is : IsPath bytes q path) → PathWithin limits is.spells
    → (rest : Reading) × (reading limits bytes ≡ items_then (path_items path) rest)

-- and so is a stream to its end
abbrev pub StreamsWithinAreRead : Type 0
StreamsWithinAreRead =
    (limits : Rules) (bytes : List ℕ) (tops : List (Top SymbolAt ℕ)) (is : Stream bytes tops) → TopsWithin limits is.spells
    → reading limits bytes ≡ items_then (path_items (closed tops)) Finished

-- a limit is passed where a reading stands, at the place of the next token: by this token, by the container that it
-- begins, or by the annotations with the one that it is; or the token is a float, where floats are not read
pub data Passes (limits : Rules) (s : State) (place : ℕ) : Reason → Type 0 where
  token : next_token (Some limits.scalar) (in_sexp (innermost s.kinds)) s.cursor ≡ Err (ScalarLimit, place)
      → Passes limits s place ScalarLimit
  container : (k : Kind) (d : Cursor) → Tok (in_sexp (innermost s.kinds)) s.cursor (begin k) place d
      → limits.depth ≤ length s.kinds → Passes limits s place DepthLimit
  annotations : (field : Option SymbolAt) (annotations : List SymbolAt) (quoted : Bool) (symbol : Symbol) (q : ℕ) (d e : Cursor)
      → s.wants ≡ a_value field annotations → Tok (in_sexp (innermost s.kinds)) s.cursor (name quoted symbol) place d
      → Tok (in_sexp (innermost s.kinds)) d colons q e → limits.scalar < sum_by cost (annotations ++ at symbol place ∷ [])
      → Passes limits s place AnnotationLimit
  float : (field : Option SymbolAt) (annotations : List SymbolAt) (number : Option Float) (d : Cursor) → s.wants ≡ a_value field annotations
      → Tok (in_sexp (innermost s.kinds)) s.cursor (tokens.float number) place d → limits.floats ≡ false
      → Passes limits s place reasons.Float

-- a stream that passes no limit at any place is read to its end
abbrev pub WithinLimitsAreRead : Type 0
WithinLimitsAreRead =
    (limits : Rules) (bytes : List ℕ) (tops : List (Top SymbolAt ℕ)) → Stream bytes tops
    → ((path : Path SymbolAt ℕ) (s : State) (reason : Reason) (place : ℕ) → At bytes path s → Passes limits s place reason → ⊥)
    → reading limits bytes ≡ items_then (path_items (closed tops)) Finished

-- two readings come to one state with the same items; there one stops, since its limits are passed, and the other goes
-- on
pub record IsCut (limits wide : Rules) (bytes : List ℕ) : Type 0 where
  pub path : Path SymbolAt ℕ
  pub state : State
  pub stands : At bytes path state
  pub reason : Reason
  pub place : ℕ
  pub passes : Passes limits state place reason
  pub wider : reason ≡ reasons.Float → wide.floats ≡ true
  pub short : reading limits bytes ≡ items_then (path_items path) (Stopped reason place)
  pub long : reading wide bytes ≡ items_then (path_items path) (reading_by (step wide) size state)

-- narrower rules change nothing, or cut the reading short where they are passed
abbrev pub Narrow : Type 0
Narrow =
    (limits wide : Rules) (bytes : List ℕ) → AreWithin limits wide
    → (reading limits bytes ≡ reading wide bytes) ⊎ IsCut limits wide bytes

-- a reading stops after a path and the front of an item, since a limit is passed there
pub record StopsAtLimit (limits : Rules) (bytes : List ℕ) (reason : Reason) (place : ℕ) : Type 0 where
  pub path : Path SymbolAt ℕ
  pub state : State
  pub stands : At bytes path state
  pub passes : Passes limits state place reason
  pub read : reading limits bytes ≡ items_then (path_items path) (Stopped reason place)

-- a reading stops at a limit only where it is passed
abbrev pub ExactLimits : Type 0
ExactLimits =
    (limits : Rules) (bytes : List ℕ) (reason : Reason) (place : ℕ)
    → ending_of (reading limits bytes) ≡ Stopped reason place → IsLimit reason → StopsAtLimit limits bytes reason place

-- where a reading stops, and not at a limit, the bytes are no stream of what the rules permit
abbrev pub RightlyRefused : Type 0
RightlyRefused =
    (limits : Rules) (bytes : List ℕ) (reason : Reason) (place : ℕ) (tops : List (Top SymbolAt ℕ))
    → ending_of (reading limits bytes) ≡ Stopped reason place → (IsLimit reason → ⊥) → ArePermitted limits (path_items (closed tops))
    → Stream bytes tops → ⊥

-- what strict rules read to its end is read alike where floats are read
abbrev pub StrictIsReadAlike : Type 0
StrictIsReadAlike =
    (limits : Limits) (bytes : List ℕ) → ending_of (reading (strictly limits) bytes) ≡ Finished
    → reading (rules limits floats) bytes ≡ reading (strictly limits) bytes

-- of two paths of the same bytes the items of one begin the other's
abbrev pub OnePath : Type 0
OnePath =
    (bytes : List ℕ) (q r : ℕ) (a b : Path SymbolAt ℕ) → IsPath bytes q a → IsPath bytes r b
    → IsBegun (path_items a) (path_items b) ⊎ IsBegun (path_items b) (path_items a)

-- the same bytes are one list of version markers and values
abbrev pub OneStream : Type 0
OneStream = (bytes : List ℕ) (a b : List (Top SymbolAt ℕ)) → Stream bytes a → Stream bytes b → a ≡ b

-- what a stream has at top level is raw: numbers in range, texts in UTF-8, lobs of bytes, fields in structs alone
abbrev pub StreamsAreRaw : Type 0
StreamsAreRaw = (bytes : List ℕ) (tops : List (Top SymbolAt ℕ)) → Stream bytes tops → AllByRecursion IsRaw tops
