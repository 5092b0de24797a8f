-- The round trip: what is written of the user values of a stream, as text or as binary, is a stream of these values. Laws that
-- contracts cite.
use Rattle.std.specs.Prelude.{◌≡◌, ℕ, List, [], length, map, Some}
use Rattle.ion_meter.specs.Limits.{AreChecked}
use Rattle.ion_meter.specs.declared.limits.Limits.{Limits}
use Rattle.ion_meter.specs.declared.profile.Profile.{Profile}
use Rattle.ion_value.specs.Outcome.{Accepted}
use Rattle.ion_value.specs.Value.{SymbolAt, UserSymbol, Top, unplaced_top}
use Rattle.ion_value.specs.Writable.{AreBytes}
use Rattle.ion_symbols.specs.Table.{Shared, system}
use Rattle.ion_symbols.specs.Tree.{user_tops}
use Rattle.ion_symbols.specs.UserValues.{AreUsers, CatalogIsText}
use Rattle.ion_binary.specs.Spelling.{AreShort, IsRead}
use Rattle.ion_text_in.specs.Grammar as text_grammar
use Rattle.ion_text_out.specs.Layout.{Layout, IsLayout, canonical, pretty}
use Rattle.ion_text_out.specs.Text.{text_by}
use Rattle.ion_transcode.specs.declared.to.Form.{Form}
use Rattle.ion_transcode.specs.declared.to.Form.TheVariants as form
use Rattle.ion_transcode.specs.declared.to.Target.{Target}
use Rattle.ion_transcode.specs.declared.to.Target.TheVariants as target
use Rattle.ion_transcode.specs.declared.to.To.{To}
use Rattle.ion_transcode.specs.declared.to.To.TheVariants as to
use Rattle.ion_transcode.specs.Forms.{encoding_of, form_of}
use Rattle.ion_transcode.specs.Outputs.{resolved}
use Rattle.ion_transcode.specs.Verdict.{HasVerdictWith}

-- ---- values

-- the text of values by a layout is a stream of text, and under a catalogue the user values of that stream are these values
-- again, in all but their places
pub record IsTextReadBy (layout : Layout) (catalog : List Shared) (tops : List (Top UserSymbol ℕ)) : Type 0 where
  pub raw : List (Top SymbolAt ℕ)
  pub users : List (Top UserSymbol ℕ)
  pub form : form_of (text_by layout tops) ≡ form.Text
  pub stream : text_grammar.Stream (text_by layout tops) raw
  pub users_are : user_tops catalog system raw ≡ Some users
  pub same : map unplaced_top users ≡ map unplaced_top tops

-- so it is of all values that a user can have, whatever white space the layout has, and whatever the catalogue is
abbrev pub EachTextIsRead : Type 0
EachTextIsRead =
    (layout : Layout) → IsLayout layout → (catalog : List Shared) (tops : List (Top UserSymbol ℕ)) → AreUsers tops
    → IsTextReadBy layout catalog tops

-- canonical text
abbrev pub IsTextRead : List Shared → List (Top UserSymbol ℕ) → Type 0
IsTextRead catalog tops = IsTextReadBy canonical catalog tops

abbrev pub TextIsRead : Type 0
TextIsRead = (catalog : List Shared) (tops : List (Top UserSymbol ℕ)) → AreUsers tops → IsTextRead catalog tops

-- the user values of each stream of bytes, in either form, are values that a user can have, where the texts of the catalogue are
-- UTF-8
abbrev pub ValuesOfStreams : Type 0
ValuesOfStreams =
    (profile : Profile) (form : Form) (catalog : List Shared) (bytes : List ℕ) (tops : List (Top SymbolAt ℕ)) (us : List (Top UserSymbol ℕ))
    → AreBytes bytes → CatalogIsText catalog → (encoding_of profile form).Stream bytes tops → user_tops catalog system tops ≡ Some us
    → AreUsers us

-- the canonical text of the user values of a stream, in either form, is a stream of these values, and so is their canonical
-- binary, where no value and no declaration in it is too long: whatever the catalogue is by which they are read again
abbrev pub RoundTrip : Type 0
RoundTrip =
    (profile : Profile) (form : Form) (catalog other : List Shared) (limit : ℕ) (bytes : List ℕ) (tops : List (Top SymbolAt ℕ))
    (us : List (Top UserSymbol ℕ)) → AreBytes bytes → CatalogIsText catalog → (encoding_of profile form).Stream bytes tops
    → user_tops catalog system tops ≡ Some us → IsTextRead other us × (AreShort limit [] us → IsRead other limit us)

-- where the text of values by a layout is read, the text of what is read, by any layout, is that of these values by it, and
-- there are as many: so pretty text has the canonical text of its values, and canonical text has the pretty text of them
abbrev pub LayoutsAreAlike : Type 0
LayoutsAreAlike =
    (layout other : Layout) → IsLayout layout → (catalog : List Shared) (us again : List (Top UserSymbol ℕ)) (tops : List (Top SymbolAt ℕ))
    → AreUsers us → text_grammar.Stream (text_by layout us) tops → user_tops catalog system tops ≡ Some again
    → (text_by other again ≡ text_by other us) × (length again ≡ length us)

-- ---- runs

-- which targets are text, and by which layout
pub data IsTextBy : Layout → Target → Type 0 where
  canonical_text : IsTextBy canonical target.Text
  pretty_text : IsTextBy pretty target.Pretty

-- of what a run to text by a layout wrote of a stream, and of what a run to text by another wrote over that: both are the text of
-- the stream's user values, each by its own layout, and both count as many values; and each run over the stream itself that writes
-- text by the other layout, and is accepted, writes the same as the second
pub record AreShownAlike (profile : Profile) (catalog : List Shared) (layout other : Layout) (bytes shown again : List ℕ) (n m : ℕ)
    : Type 0 where
  pub tops : List (Top SymbolAt ℕ)
  pub us : List (Top UserSymbol ℕ)
  pub stream : (encoding_of profile (form_of bytes)).Stream bytes tops
  pub users_are : user_tops catalog system tops ≡ Some us
  pub output : shown ≡ text_by layout us
  pub output_again : again ≡ text_by other us
  pub count : m ≡ n
  pub directly : (target : Target) (asked : To) (most : Limits) (out : List ℕ) (k : ℕ) → IsTextBy other target
      → resolved (form_of bytes) asked ≡ Some target → HasVerdictWith profile catalog most asked bytes (Accepted k) out
      → (out ≡ again) × (k ≡ n)

-- so it is where both are accepted: whatever their catalogues, their limits and their profiles are
abbrev pub LayoutsAreShownAlike : Type 0
LayoutsAreShownAlike =
    (profile next : Profile) (catalog known : List Shared) (limits wide : Limits) (asked back : To) (bytes shown again : List ℕ) (n m : ℕ)
    (first second : Target) (layout other : Layout) → IsTextBy layout first → IsTextBy other second → AreBytes bytes
    → CatalogIsText catalog → resolved (form_of bytes) asked ≡ Some first
    → HasVerdictWith profile catalog limits asked bytes (Accepted n) shown → resolved (form_of shown) back ≡ Some second
    → HasVerdictWith next known wide back shown (Accepted m) again
    → AreShownAlike profile catalog layout other bytes shown again n m

-- a run to text over what a run to text wrote writes the same bytes, and counts as many values, where both are accepted: whatever
-- their catalogues, their limits and their profiles are
abbrev pub ShowOnce : Type 0
ShowOnce =
    (profile next : Profile) (catalog other : List Shared) (limits wide : Limits) (asked : To) (bytes shown again : List ℕ) (n m : ℕ)
    → AreBytes bytes → CatalogIsText catalog → resolved (form_of bytes) asked ≡ Some target.Text
    → HasVerdictWith profile catalog limits asked bytes (Accepted n) shown
    → HasVerdictWith next other wide to.Text shown (Accepted m) again → (again ≡ shown) × (m ≡ n)

-- a run to text, canonical or pretty, accepts a stream of this form, counts so many values, and writes the text of these by its
-- layout
abbrev pub IsShown : Profile → List Shared → Limits → Form → List ℕ → ℕ → List (Top UserSymbol ℕ) → Type 0
IsShown profile catalog limits form bytes n us =
    (target : Target) (layout : Layout) (asked : To) → IsTextBy layout target → resolved form asked ≡ Some target
    → HasVerdictWith profile catalog limits asked bytes (Accepted n) (text_by layout us)

-- of a stream with these user values: what was shown back is their text by this layout, and counts as many values; a run to text,
-- canonical or pretty, over the stream itself is accepted under these limits, and shows them; and each by this layout that is
-- accepted shows what was shown back, whatever its limits and its profile are
pub record IsShownBack (profile : Profile) (catalog : List Shared) (limits : Limits) (layout : Layout) (bytes back : List ℕ) (n m : ℕ)
    : Type 0 where
  pub tops : List (Top SymbolAt ℕ)
  pub us : List (Top UserSymbol ℕ)
  pub stream : (encoding_of profile (form_of bytes)).Stream bytes tops
  pub users_are : user_tops catalog system tops ≡ Some us
  pub output : back ≡ text_by layout us
  pub count : m ≡ n
  pub shown : IsShown profile catalog limits (form_of bytes) bytes n us
  pub shown_by : (next : Profile) (most : Limits) (target : Target) (asked : To) (out : List ℕ) (k : ℕ) → IsTextBy layout target
      → resolved (form_of bytes) asked ≡ Some target → HasVerdictWith next catalog most asked bytes (Accepted k) out
      → (out ≡ back) × (k ≡ n)

-- so it is where a run to binary accepts a text, or binary of bytes, and a run to text by this layout accepts what it wrote:
-- whatever the limits and the profile of the second are, and the catalogue by which the binary is read
abbrev pub ThereAndBack : Type 0
ThereAndBack =
    (profile next : Profile) (catalog other : List Shared) (limits wide : Limits) (asked shown : To) (bytes written back : List ℕ) (n m : ℕ)
    (second : Target) (layout : Layout) → IsTextBy layout second → CatalogIsText catalog → AreChecked limits
    → (form_of bytes ≡ form.Binary → AreBytes bytes) → resolved (form_of bytes) asked ≡ Some target.Binary
    → HasVerdictWith profile catalog limits asked bytes (Accepted n) written → resolved (form_of written) shown ≡ Some second
    → HasVerdictWith next other wide shown written (Accepted m) back → IsShownBack profile catalog limits layout bytes back n m
