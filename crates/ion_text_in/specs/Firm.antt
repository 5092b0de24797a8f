-- Where a text may be cut so that each part is read by itself: at the end of a line that what follows it cannot change.
use Rattle.std.specs.Prelude.{◌≡◌, ℕ, ◌+◌, Bool, true, false, not, ◌||◌, ◌==◌, List, [], ◌∷◌, ◌++◌, length, codes, is_some}
use Rattle.ion_meter.specs.declared.profile.Rules.{Rules}
use Rattle.ion_meter.specs.Sources.{Cursor}
use Rattle.ion_value.specs.Further.{further}
use Rattle.ion_value.specs.Name.{is_one_of}
use Rattle.ion_value.specs.Reading.{Finished, items_then}
use Rattle.ion_value.specs.Value as value
use Rattle.ion_value.specs.Value.{SymbolAt, Scalar, Head, PlacedItem}
use Rattle.ion_text_in.specs.Blanks.{is_white}
use Rattle.ion_text_in.specs.Meaning.{at}
use Rattle.ion_text_in.specs.Quoted.{long_quote, next_segment}
use Rattle.ion_text_in.specs.Reading.{after_colons, reading, reading_from}

-- ---- before a cut

-- there is no byte, or LF stands last
abbrev pub ends_line : List ℕ → Bool
ends_line [] = true
ends_line (b ∷ []) = b == 10
ends_line (b ∷ c ∷ bytes) = ends_line (c ∷ bytes)

-- a scalar that ends with its token: two colons make a symbol an annotation, and a string may have further segments
abbrev pub is_firm_scalar : Scalar SymbolAt → Bool
is_firm_scalar (value.symbol s) = false
is_firm_scalar (value.string bytes) = false
is_firm_scalar body = true

-- so does an item end, but a version marker, whose word may be an annotation too
abbrev pub is_firm : Head SymbolAt → Bool
is_firm (value.whole body) = is_firm_scalar body
is_firm (value.begin kind) = true
is_firm value.end = true
is_firm value.marker = false

-- the last of some items does, where there is one
abbrev pub ends_firmly : List PlacedItem → Bool
ends_firmly [] = true
ends_firmly (item ∷ []) = is_firm item.head
ends_firmly (item ∷ next ∷ items) = ends_firmly (next ∷ items)

-- ---- after a cut

-- no value before these bytes can go on with them: a byte is there, and it is no white space, no slash that may begin a comment, no colon
-- and no quote
abbrev pub cannot_go_on : List ℕ → Bool
cannot_go_on [] = false
cannot_go_on (b ∷ bytes) = not (is_white b || is_one_of (codes "'/:") b)

-- what a scalar may go on with stands after blanks: two colons, or the quotes of a further segment
abbrev pub scalar_goes_on : Scalar SymbolAt → Cursor → Bool
scalar_goes_on (value.symbol s) c = is_some (after_colons false c)
scalar_goes_on (value.string bytes) c = is_some (next_segment (long_quote false) c)
scalar_goes_on body c = false

-- what an item may go on with does
abbrev pub head_goes_on : Head SymbolAt → Cursor → Bool
head_goes_on (value.whole body) c = scalar_goes_on body c
head_goes_on (value.begin kind) c = false
head_goes_on value.end c = false
head_goes_on value.marker c = is_some (after_colons false c)

-- what the last of some items may go on with does, where there is one
abbrev pub last_goes_on : List PlacedItem → Cursor → Bool
last_goes_on [] c = false
last_goes_on (item ∷ []) c = head_goes_on item.head c
last_goes_on (item ∷ next ∷ items) c = last_goes_on (next ∷ items) c

-- ---- laws

-- bytes that are read to their end are read so, where others follow, and then these are read from there on
abbrev pub AreReadApart : Rules → ℕ → List ℕ → List ℕ → List PlacedItem → Type 0
AreReadApart limits place y z items =
    reading_from limits (at place y) ≡ items_then items Finished
    → reading_from limits (at place (y ++ z)) ≡ items_then items (reading_from limits (at (place + length y) z))

-- so it is at each place where a line ends, unless the last value before it goes on after it
abbrev pub LinesAreReadApart : Type 0
LinesAreReadApart =
    (limits : Rules) (place : ℕ) (y z : List ℕ) (items : List PlacedItem) → ends_line y ≡ true → last_goes_on items (at (place + length y) z) ≡ false
    → AreReadApart limits place y z items

-- where that test holds, none goes on
abbrev pub NoneGoesOn : Type 0
NoneGoesOn = (place : ℕ) (z : List ℕ) (items : List PlacedItem) → cannot_go_on z ≡ true → last_goes_on items (at place z) ≡ false

-- nor does a firm value go on with anything
abbrev pub FirmEnds : Type 0
FirmEnds = (c : Cursor) (items : List PlacedItem) → ends_firmly items ≡ true → last_goes_on items c ≡ false

-- so a text may be cut where a line ends and no value can go on after it
abbrev pub CutWhereOneBegins : Type 0
CutWhereOneBegins =
    (limits : Rules) (y z : List ℕ) (items : List PlacedItem) → reading limits y ≡ items_then items Finished → ends_line y ≡ true → cannot_go_on z ≡ true
    → reading limits (y ++ z) ≡ items_then items (reading_from limits (at (length y) z))

-- and, whatever stands after it, where a line ends and the last value before it is firm
abbrev pub CutAfterFirm : Type 0
CutAfterFirm =
    (limits : Rules) (y z : List ℕ) (items : List PlacedItem) → reading limits y ≡ items_then items Finished → ends_line y ≡ true → ends_firmly items ≡ true
    → reading limits (y ++ z) ≡ items_then items (reading_from limits (at (length y) z))

-- nothing in what is read hangs on where its bytes begin, but the places
abbrev pub NothingHangsOnPlaces : Type 0
NothingHangsOnPlaces =
    (limits : Rules) (place far : ℕ) (rest : List ℕ) → reading_from limits (at (place + far) rest) ≡ further far (reading_from limits (at place rest))

-- so a part is read as a text of its own, but for its places
abbrev pub PartsAreTexts : Type 0
PartsAreTexts = (limits : Rules) (place : ℕ) (rest : List ℕ) → reading_from limits (at place rest) ≡ further place (reading limits rest)
