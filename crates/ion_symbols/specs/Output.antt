-- The texts of an output that have been given ids, and how they are found.
use Rattle.std.specs.Prelude.{◌≡◌, ℕ, zero, suc, ◌+◌, ◌-◌, ◌^◌, ◌<◌, ◌≤◌, ◌/◌, nat_le, if◌then◌else◌, Bool, List, [], ◌∷◌, ◌++◌, length, take, drop, slice_get, slice_index_or, All, ⊤, Option, Some, None, option_map, codes}
use Rattle.std.specs.Str.{bytes_eq}
use Rattle.ion_meter.specs.Counts.{Counts}
use Rattle.std.specs.Cmp.Lexicographic.{slice_cmp}
use Rattle.std.specs.Ordering.{nat_cmp}
use Rattle.std.specs.declared.cmp.Ordering.{Ordering}
use Rattle.std.specs.declared.cmp.Ordering.TheVariants.{Less, Equal, Greater}

-- the place of a text in a list of texts, counted from 0
abbrev pub position : List (List ℕ) → List ℕ → Option ℕ
position [] t = None
position (s ∷ ss) t = if bytes_eq s t then Some 0 else option_map (λ place. place + 1) (position ss t)

-- the texts of the system table, from id 1 on
abbrev pub system_texts : List (List ℕ)
system_texts =
    codes "$ion" ∷ codes "$ion_1_0" ∷ codes "$ion_symbol_table" ∷ codes "name" ∷ codes "version" ∷ codes "imports" ∷ codes "symbols"
    ∷ codes "max_id" ∷ codes "$ion_shared_symbol_table" ∷ []

-- the id of a system text
abbrev pub system_id : List ℕ → Option ℕ
system_id t = option_map (λ place. place + 1) (position system_texts t)

-- the system table's id, or else 10 and a place among the texts that were given an id
abbrev pub or_given : Option ℕ → Option ℕ → Option ℕ
or_given (Some id) place = Some id
or_given None place = option_map (λ n. n + 10) place

-- the id of a text: that of the system table, or else 10 and its place among the texts that were given one
abbrev pub known_id : List (List ℕ) → List ℕ → Option ℕ
known_id texts t = or_given (system_id t) (position texts t)

-- 16 a text, and its length
abbrev pub texts_cost : List (List ℕ) → ℕ
texts_cost [] = 0
texts_cost (t ∷ ts) = (16 + length t) + texts_cost ts

-- the id that a text has so far, or else a new one, where the limit allows it; and the texts afterwards
abbrev pub id_or_new : ℕ → List (List ℕ) → List ℕ → Option ℕ → Option ℕ × List (List ℕ)
id_or_new limit texts t (Some id) = (Some id, texts)
id_or_new limit texts t None =
    if nat_le (texts_cost texts + (16 + length t)) limit then (Some (length texts + 10), texts ++ t ∷ []) else (None, texts)

-- the id that a text is given, and the texts afterwards: one that is new is added, where the limit allows it
abbrev pub id_given : ℕ → List (List ℕ) → List ℕ → Option ℕ × List (List ℕ)
id_given limit texts t = id_or_new limit texts t (known_id texts t)

-- the texts in order of id, the limit of their cost, the probes of the last search of id_of, and whether the texts are in order of their bytes too
pub record Output : Type 0 where
  pub texts : List (List ℕ)
  pub limit : ℕ
  pub probes : ℕ
  pub is_ordered : Bool

-- a text has no id, of the system table or of the texts
pub record IsNew (texts : List (List ℕ)) (t : List ℕ) : Type 0 where
  pub absent : position texts t ≡ None
  pub no_system : system_id t ≡ None

-- a text can be added, where memory and the limit allow it
pub record CanAdd (texts : List (List ℕ)) (meter : Counts) : Type 0 where
  pub room : meter.held ≤ 2 ^ 62 + 2 ^ 31
  pub held : texts_cost texts ≤ meter.held
  pub countable : meter.refused < 2 ^ 64 - 1

-- ---- the search by halving

-- texts in order of their bytes, and how often one was compared
pub record Searched : Type 0 where
  pub texts : List (List ℕ)
  pub probes : ℕ

-- whether a text is less than another, equal to it or greater, in order of bytes
abbrev pub text_cmp : List ℕ → List ℕ → Ordering
text_cmp s t = slice_cmp nat_cmp s t

-- a text belongs at a place: the texts before it are less, and those from it on greater
pub record Belongs (texts : List (List ℕ)) (t : List ℕ) (place : ℕ) : Type 0 where
  pub within : place ≤ length texts
  pub before : All (λ s. text_cmp s t ≡ Less) (take place texts)
  pub after : All (λ s. text_cmp s t ≡ Greater) (drop place texts)

-- one text greater than the other
abbrev pub Ascend : List (List ℕ) → Type 0
Ascend [] = ⊤
Ascend (t ∷ ts) = All (λ u. text_cmp t u ≡ Less) ts × Ascend ts

-- a list has a text at some place
abbrev pub Has : List (List ℕ) → List ℕ → Type 0
Has texts t = (place : ℕ) × (slice_get texts place ≡ Some t)

-- the same texts in order of their bytes, no two alike
pub record IsSorted (sorted texts : List (List ℕ)) : Type 0 where
  pub ascend : Ascend sorted
  pub long : length sorted ≡ length texts
  pub all : (t : List ℕ) → Has texts t → Has sorted t
  pub no_other : (t : List ℕ) → Has sorted t → Has texts t

-- how many binary digits a number has, of which at most so many are counted
abbrev pub digits_within : ℕ → ℕ → ℕ
digits_within zero n = 0
digits_within (suc most) zero = 0
digits_within (suc most) (suc n) = 1 + digits_within most (suc n / 2)

-- the number of binary digits of a number, 0 for 0
abbrev pub binary_digits : ℕ → ℕ
binary_digits n = digits_within n n

-- the probes that follow a comparison: after the middle, or before it, or none
abbrev pub probes_by : Ordering → ℕ → ℕ → ℕ
probes_by Less after before = after
probes_by Equal after before = 0
probes_by Greater after before = before

-- how often a text is compared among texts in order by halving: with the one in the middle, and then among those after it or before it
abbrev pub probes_within : ℕ → List (List ℕ) → List ℕ → ℕ
probes_within zero texts t = 0
probes_within (suc most) [] t = 0
probes_within (suc most) (s ∷ ss) t =
    1
    + probes_by (text_cmp (slice_index_or (s ∷ ss) (length (s ∷ ss) / 2) []) t)
    (probes_within most (drop (length (s ∷ ss) / 2 + 1) (s ∷ ss)) t)
    (probes_within most (take (length (s ∷ ss) / 2) (s ∷ ss)) t)

-- among the texts of a list
abbrev pub probes_for : List (List ℕ) → List ℕ → ℕ
probes_for texts t = probes_within (length texts) texts t
