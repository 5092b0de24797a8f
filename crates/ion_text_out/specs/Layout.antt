-- Layouts: what a text has between the parts of its values, by which no value is told from another.
use Rattle.std.specs.Prelude.{◌≡◌, ◌≢◌, ℕ, ◌+◌, ◌*◌, Bool, true, false, ◌==◌, ◌||◌, if◌then◌else◌, List, [], ◌∷◌, ◌++◌, replicate, codes}
use Rattle.ion_value.specs.Digits.{all_are, is_between}
use Rattle.ion_value.specs.declared.ion_type.Kind.{Kind}
use Rattle.ion_value.specs.declared.ion_type.Kind.TheVariants.{List as list, Sexp as sexp, Struct as struct}

-- what stands before a member of a container of this kind, by whether it is the first, with so many containers open around it; what stands between the
-- name of a field and its value; and what stands before the bracket that closes a container, by whether that is empty, with so many open around it
pub record Layout : Type 0 where
  pub before_member : Kind → Bool → ℕ → List ℕ
  pub after_name : List ℕ
  pub before_closer : Bool → ℕ → List ℕ

-- a layout where so many containers more are open: depths are counted from there
abbrev pub further_in : ℕ → Layout → Layout
further_in n layout = record {
  before_member = λ kind first depth. layout.before_member kind first (n + depth);
  after_name = layout.after_name;
  before_closer = λ empty depth. layout.before_closer empty (n + depth);
}

-- ---- canonical text: each value on one line

-- what stands between two members of a container of a kind: a comma, and in a sexp a space
abbrev pub separator : Kind → List ℕ
separator list = codes ","
separator sexp = codes " "
separator struct = codes ","

-- a separator stands before each member but the first
abbrev pub before_next : Kind → Bool → List ℕ
before_next kind true = []
before_next kind false = separator kind

abbrev pub canonical : Layout
canonical = record {
  before_member = λ kind first depth. before_next kind first;
  after_name = codes ":";
  before_closer = λ empty depth. [];
}

-- ---- pretty text: each member on a line of its own

-- the end of a line, and two blanks for each open container
abbrev pub new_line : ℕ → List ℕ
new_line depth = codes "\n" ++ replicate (2 * depth) 32

-- the comma after a member of a container of a kind: there is none in a sexp
abbrev pub comma : Kind → List ℕ
comma list = codes ","
comma sexp = []
comma struct = codes ","

-- it stands before each member but the first
abbrev pub comma_before : Kind → Bool → List ℕ
comma_before kind true = []
comma_before kind false = comma kind

abbrev pub pretty : Layout
pretty = record {
  before_member = λ kind first depth. comma_before kind first ++ new_line depth;
  after_name = codes ": ";
  before_closer = λ empty depth. if empty then [] else new_line depth;
}

-- ---- what a layout has to be, so that its text has the values that it is the text of

-- white space as Ion has it
abbrev pub is_white : ℕ → Bool
is_white b = b == 32 || is_between 9 13 b

abbrev pub AreWhite : List ℕ → Type 0
AreWhite text = all_are is_white text ≡ true

-- this mark, and then white space or nothing
abbrev pub AreMarked : ℕ → List ℕ → Type 0
AreMarked mark [] = ⊥
AreMarked mark (b ∷ bytes) = (b ≡ mark) × AreWhite bytes

-- what may stand between two members of a container of a kind: a comma and white space, and in a sexp white space
abbrev pub MayPart : Kind → List ℕ → Type 0
MayPart list text = AreMarked 44 text
MayPart sexp text = (text ≢ []) × AreWhite text
MayPart struct text = AreMarked 44 text

-- before the first member there may be white space
abbrev pub MayPrecede : Kind → Bool → List ℕ → Type 0
MayPrecede kind true text = AreWhite text
MayPrecede kind false text = MayPart kind text

-- it puts only white space, and the comma and the colon where the grammar asks for them
pub record IsLayout (layout : Layout) : Type 0 where
  pub members : (kind : Kind) (first : Bool) (depth : ℕ) → MayPrecede kind first (layout.before_member kind first depth)
  pub name : AreMarked 58 layout.after_name
  pub closer : (empty : Bool) (depth : ℕ) → AreWhite (layout.before_closer empty depth)
