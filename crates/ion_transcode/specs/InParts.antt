-- A stream that is run in parts. Behind a whole value at top level all that the rest of a stream depends on is its symbol table, and a
-- table is what declarations say: so all that is kept between two calls is bytes that leave the same table and give no user value. A
-- part is run behind what is kept of the parts before it; `PartsAreTheWhole` says that all parts together are the whole.
use Rattle.std.specs.Prelude.{◌≡◌, ℕ, ◌+◌, ◌≤◌, Bool, true, false, ◌&&◌, ◌||◌, List, [], ◌∷◌, ◌++◌, length, Some}
use Rattle.ion_meter.specs.Limits.{AreChecked}
use Rattle.ion_meter.specs.Rules.{rules}
use Rattle.ion_meter.specs.Windows.{HasPrefix}
use Rattle.ion_meter.specs.declared.fault.Reason.{Reason}
use Rattle.ion_meter.specs.declared.fault.Reason.TheVariants.{Truncated}
use Rattle.ion_meter.specs.declared.limits.Limits.{Limits}
use Rattle.ion_meter.specs.declared.profile.Profile.{Profile}
use Rattle.ion_value.specs.Items.{is_none_left}
use Rattle.ion_value.specs.Outcome.{Verdict, Accepted, Rejected}
use Rattle.ion_value.specs.Reading.{Finished, items_then}
use Rattle.ion_value.specs.Value as value
use Rattle.ion_value.specs.Value.{PlacedItem, bare_item}
use Rattle.ion_symbols.specs.Onward.{LeadTo, AreAlike, declarations}
use Rattle.ion_symbols.specs.Table.{Shared, Table}
use Rattle.ion_symbols.specs.UserValues.{CatalogIsText}
use Rattle.ion_binary.specs.WrittenLimits.{AllowDeclarations}
use Rattle.ion_text_in.specs.Firm.{ends_line, ends_firmly, cannot_go_on}
use Rattle.ion_transcode.specs.declared.to.Form.{Form}
use Rattle.ion_transcode.specs.declared.to.Form.TheVariants as forms
use Rattle.ion_transcode.specs.declared.to.To.{To}
use Rattle.ion_transcode.specs.declared.to.To.TheVariants as into
use Rattle.ion_transcode.specs.declared.to.Target.{Target}
use Rattle.ion_transcode.specs.declared.to.Target.TheVariants as target
use Rattle.ion_transcode.specs.Forms.{form_of, reading_of}
use Rattle.ion_transcode.specs.Outputs.{resolved}
use Rattle.ion_transcode.specs.Verdict.{HasVerdictWith}

-- ---- where a stream may be cut

-- what follows bytes that are read to their end, as these items, changes nothing in them: in binary whatever it is; in text where a line
-- ends, if their last value is firm, or if none can go on behind them, where these bytes follow
abbrev pub is_cut : Form → List PlacedItem → List ℕ → List ℕ → Bool
is_cut forms.Binary items bytes next = true
is_cut forms.Text items bytes next = ends_line bytes && (ends_firmly items || cannot_go_on next)

-- bytes of a form are read to their end, may be cut behind it where these follow, and leave a symbol table at top level, with which
-- these items of user values stand before it
pub record Leaves (profile : Profile) (catalog : List Shared) (limits : Limits) (form : Form) (bytes next : List ℕ) (mine : List PlacedItem) (table : Table) : Type 0 where
  pub items : List PlacedItem
  pub read : reading_of profile form limits bytes ≡ items_then items Finished
  pub cut : is_cut form items bytes next ≡ true
  pub leads : LeadTo catalog limits.symbols items mine table

-- ---- what is kept

-- kept bytes stand for all bytes before a cut: they are of their form, leave the same symbol table, give no user value, and may be cut
-- behind their end whatever follows
pub record StandsFor (profile : Profile) (catalog : List Shared) (limits : Limits) (kept before next : List ℕ) : Type 0 where
  pub mine : List PlacedItem
  pub table : Table
  pub some : is_none_left kept ≡ false
  pub form : form_of kept ≡ form_of before
  pub leaves : Leaves profile catalog limits (form_of before) before next mine table
  pub keeps : Leaves profile catalog limits (form_of before) kept [] [] table

-- ---- parts

-- a verdict on what stands so many bytes further on, behind so many values
abbrev pub behind : ℕ → ℕ → Verdict → Verdict
behind values far (Accepted more) = Accepted (values + more)
behind values far (Rejected reason place) = Rejected reason (place + far)

-- a part of a stream is taken behind kept bytes, where these bytes follow: some bytes, with so many whole values and this output; and then
-- these bytes are kept
pub record IsTaken (profile : Profile) (catalog : List Shared) (limits : Limits) (to : To) (kept part next : List ℕ) (values : ℕ) (out then_kept : List ℕ) : Type 0 where
  pub some : is_none_left part ≡ false
  pub accepted : HasVerdictWith profile catalog limits to (kept ++ part) (Accepted values) out
  pub stands : StandsFor profile catalog limits then_kept (kept ++ part) next

-- bytes of a stream behind kept bytes are run in parts, with this verdict, whose place is counted from the first of them, and this output in
-- all: the last part is run to its end; each other one is taken, and the bytes that were seen behind it are a prefix of those to come
pub data InParts (profile : Profile) (catalog : List Shared) (limits : Limits) (to : To) : List ℕ → List ℕ → Verdict → List ℕ → Type 0 where
  last_part : (kept bytes : List ℕ) (v : Verdict) (out : List ℕ) → HasVerdictWith profile catalog limits to (kept ++ bytes) (behind 0 (length kept) v) out
      → InParts profile catalog limits to kept bytes v out
  one_part : (kept part next then_kept bytes out more : List ℕ) (values : ℕ) (v : Verdict)
      → IsTaken profile catalog limits to kept part next values out then_kept → HasPrefix bytes next
      → InParts profile catalog limits to then_kept bytes v more
      → InParts profile catalog limits to kept (part ++ bytes) (behind values (length part) v) (out ++ more)

-- ---- the law of parts

-- however a stream is cut into parts, and whatever is kept, its verdict and its output are those of the whole, unless binary is written
abbrev pub PartsAreTheWhole : Type 0
PartsAreTheWhole =
    (profile : Profile) (catalog : List Shared) (limits : Limits) (to : To) (bytes out : List ℕ) (v : Verdict)
    → (resolved (form_of bytes) to ≡ Some target.Binary → ⊥)
    → InParts profile catalog limits to [] bytes v out → HasVerdictWith profile catalog limits to bytes v out

-- where a binary stream is accepted, another may stand behind it: its values and its output come behind those of the first. So the parts that
-- were written as binary, each with its version marker and its symbol table, are one stream
abbrev pub BinaryStreamsJoin : Type 0
BinaryStreamsJoin =
    (profile : Profile) (catalog : List Shared) (limits : Limits) (to : To) (first bytes out more : List ℕ) (values : ℕ) (v : Verdict)
    → form_of first ≡ forms.Binary → form_of bytes ≡ forms.Binary → (resolved forms.Binary to ≡ Some target.Binary → ⊥)
    → HasVerdictWith profile catalog limits to first (Accepted values) out → HasVerdictWith profile catalog limits to bytes v more
    → HasVerdictWith profile catalog limits to (first ++ bytes) (behind values (length first) v) (out ++ more)

-- a text whose parts are all accepted, and written as binary under limits that allow whatever is declared: their outputs together are a stream
-- that is accepted, whatever the catalogue by which it is read, with as many values, and shows what the whole text shows
abbrev pub PartsOfBinaryShowTheWhole : Type 0
PartsOfBinaryShowTheWhole =
    (profile : Profile) (catalog other : List Shared) (limits : Limits) (asked : To) (bytes written : List ℕ) (n : ℕ)
    → CatalogIsText catalog → AreChecked limits → AllowDeclarations (rules limits profile) → limits.symbols ≤ limits.scalar
    → form_of bytes ≡ forms.Text → resolved forms.Text asked ≡ Some target.Binary → InParts profile catalog limits asked [] bytes (Accepted n) written
    → (shown : List ℕ) × HasVerdictWith profile catalog limits into.Text bytes (Accepted n) shown
    × HasVerdictWith profile other limits into.Text written (Accepted n) shown

-- a refusal of binary stands whatever follows, unless it is for the want of bytes: so it may be answered before the last part
abbrev pub RefusalsOfBinaryStand : Type 0
RefusalsOfBinaryStand =
    (profile : Profile) (catalog : List Shared) (limits : Limits) (to : To) (bytes more out : List ℕ) (reason : Reason) (place : ℕ)
    → form_of bytes ≡ forms.Binary → HasVerdictWith profile catalog limits to bytes (Rejected reason place) out → (reason ≡ Truncated → ⊥)
    → HasVerdictWith profile catalog limits to (bytes ++ more) (Rejected reason place) out

-- ---- what may be kept

-- what is accepted is read to its end and leaves a symbol table at top level, and where no value is counted it gives none
abbrev pub WhatIsAcceptedLeavesATable : Type 0
WhatIsAcceptedLeavesATable =
    (profile : Profile) (catalog : List Shared) (limits : Limits) (to : To) (bytes out : List ℕ) (n : ℕ) (asked : Target) → resolved (form_of bytes) to ≡ Some asked
    → HasVerdictWith profile catalog limits to bytes (Accepted n) out
    → (items : List PlacedItem) × (mine : List PlacedItem) × (table : Table) × (reading_of profile (form_of bytes) limits bytes ≡ items_then items Finished)
    × LeadTo catalog limits.symbols items mine table × (n ≡ 0 → mine ≡ [])

-- in binary a version marker stands before all else
abbrev pub begun_by : Form → List PlacedItem → List PlacedItem
begun_by forms.Binary items = bare_item value.marker 0 0 ∷ items
begun_by forms.Text items = items

-- the declarations behind the last version marker may be kept, wherever their bytes stand, and behind a version marker in binary
abbrev pub DeclarationsMayBeKept : Type 0
DeclarationsMayBeKept =
    (profile : Profile) (catalog : List Shared) (limits : Limits) (kept before next : List ℕ) (mine others : List PlacedItem) (table : Table)
    → (leaves : Leaves profile catalog limits (form_of before) before next mine table) → is_none_left kept ≡ false → form_of kept ≡ form_of before
    → reading_of profile (form_of before) limits kept ≡ items_then others Finished → is_cut (form_of before) others kept [] ≡ true
    → AreAlike (begun_by (form_of before) (declarations catalog limits.symbols leaves.items)) others
    → StandsFor profile catalog limits kept before next

-- all bytes may be kept that give no user value, and are cut whatever follows
abbrev pub WhatGivesNoneMayBeKept : Type 0
WhatGivesNoneMayBeKept =
    (profile : Profile) (catalog : List Shared) (limits : Limits) (before next : List ℕ) (table : Table) → is_none_left before ≡ false
    → Leaves profile catalog limits (form_of before) before [] [] table → StandsFor profile catalog limits before before next

-- behind a part of which each item is one of a user value the same bytes may be kept
abbrev pub ValuesChangeNothingKept : Type 0
ValuesChangeNothingKept =
    (profile : Profile) (catalog : List Shared) (limits : Limits) (kept before part next : List ℕ) (mine : List PlacedItem) (table : Table)
    → (stands : StandsFor profile catalog limits kept before part) → form_of (before ++ part) ≡ form_of before
    → (leaves : Leaves profile catalog limits (form_of before) (before ++ part) next mine table)
    → length mine + length stands.leaves.items ≡ length leaves.items + length stands.mine
    → StandsFor profile catalog limits kept (before ++ part) next
