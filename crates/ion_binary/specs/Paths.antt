-- Open paths of a binary stream: the bytes up to a place, with the containers that are open there.
use Rattle.std.specs.Prelude.{◌≡◌, ℕ, ◌+◌, ◌≤◌, List, [], ◌∷◌, ◌++◌, length, Option, None}
use Rattle.ion_value.specs.declared.ion_type.Kind.{Kind}
use Rattle.ion_value.specs.Value.{SymbolAt, Members, Top}
use Rattle.ion_value.specs.Path.{Path, closed, opened, path_items, open_in}
use Rattle.ion_value.specs.Reading.{Step, Ends, Stops, Gives, GoesOn}
use Rattle.ion_binary.specs.Positions.{Frame, State}
use Rattle.ion_meter.specs.Sources.{Cursor}
use Rattle.ion_binary.specs.Grammar.{Field, Header, Annotated, Inside, Tops}

-- what stands before a value where containers are open: a field where the innermost of them is a struct
abbrev pub FieldIn : List Frame → ℕ → Option SymbolAt → List ℕ → Type 0
FieldIn [] q f b = (f ≡ None) × (b ≡ [])
FieldIn (frame ∷ frames) q f b = Field frame.kind q f b

-- a place is not past the end of the innermost open container
abbrev pub Within : List Frame → ℕ → Type 0
Within [] q = Unit {0}
Within (frame ∷ frames) q = q ≤ frame.end

-- an open container by its kind and the place of its end
abbrev pub frame_of : Kind → ℕ → Frame
frame_of k end = record { kind = k; end = end }

-- the bytes spell the path, whose open containers end at these places, which the input may not reach; each lies within those around it
pub data Spells : Path SymbolAt ℕ → List Frame → List ℕ → Type 0 where
  top : (ts : List (Top SymbolAt ℕ)) (b : List ℕ) → Tops ts b → Spells (closed ts) [] b
  inside : (path : Path SymbolAt ℕ) (frames : List Frame) (f : Option SymbolAt) (annotations : List SymbolAt) (k : Kind) (ms : Members SymbolAt ℕ) (n : ℕ)
      (b x w header c : List ℕ)
      → Spells path frames b → FieldIn frames (length b) f x → Annotated (length (b ++ x)) annotations (length header + n) w → Header k n header
      → Inside k (length ((b ++ x) ++ (w ++ header))) ms c → length c ≤ n → Within frames (length ((b ++ x) ++ (w ++ header)) + n)
      → Spells (open_in path (length b) f annotations (length ((b ++ x) ++ w)) k ms) (frame_of k (length ((b ++ x) ++ (w ++ header)) + n) ∷ frames)
      (((b ++ x) ++ (w ++ header)) ++ c)

-- the bytes before a place spell the path
pub record IsPath (bytes : List ℕ) (q : ℕ) (path : Path SymbolAt ℕ) : Type 0 where
  pub frames : List Frame
  pub before : List ℕ
  pub rest : List ℕ
  pub split : bytes ≡ before ++ rest
  pub place : q ≡ length before
  pub spells : Spells path frames before

-- ---- what a reading stands at

-- the bytes before a cursor spell the path, of which the frames are the open containers
pub record IsSpelledTo (bytes : List ℕ) (path : Path SymbolAt ℕ) (frames : List Frame) (c : Cursor) : Type 0 where
  pub before : List ℕ
  pub split : bytes ≡ before ++ c.rest
  pub place : c.place ≡ length before
  pub spells : Spells path frames before

-- the place of the open top-level value, where one is
abbrev pub IsTop : Path SymbolAt ℕ → ℕ → Type 0
IsTop (closed ts) place = Unit {0}
IsTop (opened ts first nest) place = first ≡ place

-- the reading stands after the path: the bytes before its cursor spell it, and its top is the open value's place
abbrev pub At : List ℕ → Path SymbolAt ℕ → State → Type 0
At bytes path s = IsSpelledTo bytes path s.frames s.cursor × IsTop path s.top

-- a step gives an item, and a path that has it after the items so far, or it keeps the path; it ends where nothing is open and nothing is left
abbrev pub Follows : List ℕ → Path SymbolAt ℕ → List Frame → Cursor → Step State → Type 0
Follows bytes path frames c Ends = (frames ≡ []) × (c.rest ≡ [])
Follows bytes path frames c (Stops reason place) = Unit {0}
Follows bytes path frames c (Gives item after) = (next : Path SymbolAt ℕ) × At bytes next after × (path_items next ≡ path_items path ++ item ∷ [])
Follows bytes path frames c (GoesOn after) = At bytes path after
