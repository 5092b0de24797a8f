-- A stream that is cut behind whole values: its reading, and what a user is given of it.
use Rattle.std.proofs.Common.{◌≡◌, ◌⊎◌, ℕ, Bool, true, false, ◌&&◌, ◌||◌, List, [], ◌∷◌, ◌++◌, length, inl, inr, refl, ap, ◌∙◌}
use Rattle.ion_meter.specs.Rules.{rules}
use Rattle.ion_meter.specs.Windows.{HasPrefix}
use Rattle.ion_meter.specs.declared.limits.Limits.{Limits}
use Rattle.ion_meter.specs.declared.profile.Profile.{Profile}
use Rattle.ion_value.specs.Further.{further}
use Rattle.ion_value.specs.Items.{is_none_left}
use Rattle.ion_value.specs.Reading.{Finished, items_then}
use Rattle.ion_value.specs.Value.{PlacedItem}
use Rattle.ion_symbols.specs.Onward.{at_top, UsersReadOn, UsersHangOnNoPlace}
use Rattle.ion_symbols.specs.Table.{Shared, Table}
use Rattle.ion_symbols.specs.Users.{at_start, users}
use Rattle.ion_binary.specs.Cuts.{WholeValuesAreCut, PartsAreRead}
use Rattle.ion_text_in.specs.Firm.{ends_line, ends_firmly, cannot_go_on, CutWhereOneBegins, CutAfterFirm, PartsAreTexts}
use Rattle.ion_transcode.specs.declared.to.Form.{Form}
use Rattle.ion_transcode.specs.declared.to.Form.TheVariants as form
use Rattle.ion_transcode.specs.Forms.{form_of, reading_of}
use Rattle.ion_transcode.specs.InParts.{is_cut, Leaves}

-- ---- cuts

-- one test and one of two others
three : (a b c : Bool) → (a && (b || c)) ≡ true → (a ≡ true) × ((b ≡ true) ⊎ (c ≡ true))
three true true c e = (refl, inl refl)
three true false true e = (refl, inr refl)
three true false false e = absurd (cc e)
three false b c e = absurd (cc e)

with_one : (a b c d : Bool) → (c ≡ true → d ≡ true) → (a && (b || c)) ≡ true → (a && (b || d)) ≡ true
with_one true true c d more e = refl
with_one true false c d more e = more e
with_one false b c d more e = absurd (cc e)

begins-more : (next bytes : List ℕ) → HasPrefix bytes next → cannot_go_on next ≡ true → cannot_go_on bytes ≡ true
begins-more [] bytes is e = absurd (cc e)
begins-more (b ∷ next) bytes is e = ap cannot_go_on is.1 ∙ e

-- with more bytes behind it a cut stays one
pub cut-more : (f : Form) (items : List PlacedItem) (bytes next all : List ℕ) → HasPrefix all next → is_cut f items bytes next ≡ true → is_cut f items bytes all ≡ true
cut-more form.Binary items bytes next all is e = refl
cut-more form.Text items bytes next all is e = with_one (ends_line bytes) (ends_firmly items) (cannot_go_on next) (cannot_go_on all) (begins-more next all is) e

-- where none follow a cut is one whatever follows
none-first : (bytes : List ℕ) → HasPrefix bytes []
none-first bytes = (bytes, refl)

pub cut-always : (f : Form) (items : List PlacedItem) (bytes all : List ℕ) → is_cut f items bytes [] ≡ true → is_cut f items bytes all ≡ true
cut-always f items bytes all e = cut-more f items bytes [] all (none-first all) e

-- ---- the form

pub form-more : (xs ys : List ℕ) → is_none_left xs ≡ false → form_of (xs ++ ys) ≡ form_of xs
form-more [] ys e = absurd (cc e)
form-more (x ∷ xs) ys e = refl

pub some-more : (xs ys : List ℕ) → is_none_left ys ≡ false → is_none_left (xs ++ ys) ≡ false
some-more [] ys e = e
some-more (x ∷ xs) ys e = refl

module _ (whole_cut : WholeValuesAreCut) (parts_read : PartsAreRead) (begun : CutWhereOneBegins) (firm : CutAfterFirm) (parts_texts : PartsAreTexts) (read_on : UsersReadOn) (no_place : UsersHangOnNoPlace) where
  -- ---- readings

  pub reading-cut : (profile : Profile) (f : Form) (limits : Limits) (y z : List ℕ) (items : List PlacedItem) → reading_of profile f limits y ≡ items_then items Finished
      → is_cut f items y z ≡ true → reading_of profile f limits (y ++ z) ≡ items_then items (further (length y) (reading_of profile f limits z))
  reading-cut profile form.Binary limits y z items e is =
      whole_cut (rules limits profile) y z items e ∙ ap (items_then items) (parts_read (rules limits profile) (length y) z)
  reading-cut profile form.Text limits y z items e is =
      let tests = three (ends_line y) (ends_firmly items) (cannot_go_on z) is in
      by tests.0 tests.1
    where
      by : ends_line y ≡ true → (ends_firmly items ≡ true) ⊎ (cannot_go_on z ≡ true)
          → reading_of profile form.Text limits (y ++ z) ≡ items_then items (further (length y) (reading_of profile form.Text limits z))
      by line (inl last) = firm (rules limits profile) y z items e line last ∙ ap (items_then items) (parts_texts (rules limits profile) (length y) z)
      by line (inr next) = begun (rules limits profile) y z items e line next ∙ ap (items_then items) (parts_texts (rules limits profile) (length y) z)

  -- ---- users

  module _ (profile : Profile) (catalog : List Shared) (limits : Limits) (f : Form) (y next : List ℕ) (mine : List PlacedItem) (t : Table) (leaves : Leaves profile catalog limits f y next mine t) where
    -- all that a user is given of the bytes
    pub users-whole : users catalog limits.symbols at_start (reading_of profile f limits y) ≡ items_then mine Finished
    users-whole =
        ap (users catalog limits.symbols at_start) leaves.read
        ∙ read_on catalog limits.symbols at_start leaves.items (record { mine = mine; after = at_top t }) Finished leaves.leads

    -- and of what follows, from the table that they leave
    pub users-cut : (z : List ℕ) → HasPrefix z next → users catalog limits.symbols at_start (reading_of profile f limits (y ++ z))
        ≡ items_then mine (further (length y) (users catalog limits.symbols (at_top t) (reading_of profile f limits z)))
    users-cut z is =
        ap (users catalog limits.symbols at_start) (reading-cut profile f limits y z leaves.items leaves.read (cut-more f leaves.items y next z is leaves.cut))
        ∙ read_on catalog limits.symbols at_start leaves.items (record { mine = mine; after = at_top t }) (further (length y) (reading_of profile f limits z)) leaves.leads
        ∙ ap (items_then mine) (no_place catalog limits.symbols t (length y) (reading_of profile f limits z))
