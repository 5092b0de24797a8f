-- A call that runs a part of a stream: what it takes, what is kept behind it, and what it counts to know that.
use Rattle.std.specs.Prelude.{◌≡◌, ◌≢◌, ℕ, zero, suc, ◌+◌, ◌-◌, ◌^◌, ◌<◌, ◌≤◌, ◌↔◌, ◌⊎◌, Bool, true, false, List, [], ◌∷◌, ◌++◌, length, take, drop, max, Some, None, Result, Err}
use Rattle.ion_meter.specs.Counts.{Counts}
use Rattle.ion_meter.specs.declared.fault.Fault.{Fault}
use Rattle.ion_meter.specs.Windows.{HasPrefix}
use Rattle.ion_meter.specs.declared.device.Output.{Ghosts as OutputOf}
use Rattle.ion_meter.specs.declared.fault.Fault.TheVariants.{Memory, ReadFault, WriteFault}
use Rattle.ion_meter.specs.declared.fault.Reason.{Reason}
use Rattle.ion_meter.specs.declared.fault.Reason.TheVariants.{SameForm}
use Rattle.ion_meter.specs.declared.limits.Limits.{Limits}
use Rattle.ion_meter.specs.declared.profile.Profile.{Profile}
use Rattle.ion_value.specs.Items.{is_none_left}
use Rattle.ion_value.specs.Outcome.{Verdict, Accepted, Rejected}
use Rattle.ion_value.specs.Reading.{Reading, Finished, Stopped, items_then}
use Rattle.ion_value.specs.ReadingLaws.{ending_of}
use Rattle.ion_value.specs.Standing.{is_marker}
use Rattle.ion_value.specs.Value.{PlacedItem}
use Rattle.ion_symbols.specs.Table.{Shared, Table}
use Rattle.ion_symbols.specs.Users.{at_start, users}
use Rattle.ion_text_in.specs.Firm.{ends_firmly}
use Rattle.ion_transcode.specs.declared.in_parts.Stretch.{Stretch}
use Rattle.ion_transcode.specs.declared.in_parts.Stretch.TheVariants as stretch
use Rattle.ion_transcode.specs.declared.in_parts.counting.Counted.{Counted}
use Rattle.ion_transcode.specs.declared.to.Form.{Form}
use Rattle.ion_transcode.specs.declared.to.Form.TheVariants as forms
use Rattle.ion_transcode.specs.declared.to.To.{To}
use Rattle.ion_transcode.specs.Forms.{form_of, reading_of}
use Rattle.ion_transcode.specs.InParts.{is_cut, IsTaken, Leaves}
use Rattle.ion_transcode.specs.Verdict.{HasVerdictWith}

-- ---- what a call says

-- bytes that may be kept between two calls: none, at the beginning of a stream; or some that leave a symbol table, give no user value, and may
-- be cut behind their end whatever follows
abbrev pub IsKept : Profile → List Shared → Limits → List ℕ → Type 0
IsKept profile catalog limits kept = (kept ≡ []) ⊎ ((table : Table) × Leaves profile catalog limits (form_of kept) kept [] [] table)

-- bytes are taken behind kept ones where others follow, with so many values, and then these bytes are kept; their output was written after what
-- was there
pub record TakesAll (profile : Profile) (catalog : List Shared) (limits : Limits) (to : To) (kept part next : List ℕ) (values : ℕ) (then_kept : List ℕ) (observable : Type 0) (before after : List ℕ) : Type 0 where
  pub out : List ℕ
  pub taken : IsTaken profile catalog limits to kept part next values out then_kept
  pub keeps : IsKept profile catalog limits then_kept
  pub written : observable → after ≡ before ++ out

-- so are the first bytes of a part, so many
pub record Takes (profile : Profile) (catalog : List Shared) (limits : Limits) (to : To) (kept part : List ℕ) (bytes values : ℕ) (then_kept : List ℕ) (observable : Type 0) (before after : List ℕ) : Type 0 where
  pub within : bytes ≤ length part
  pub takes : TakesAll profile catalog limits to kept (take bytes part) (drop bytes part) values then_kept observable before after

-- a part is refused, at a place that is counted from its first byte, whatever follows it, and nothing does where it is the last; its output was
-- written after what was there
pub record IsRefused (profile : Profile) (catalog : List Shared) (limits : Limits) (to : To) (kept part : List ℕ) (last : Bool) (reason : Reason) (place : ℕ) (observable : Type 0) (before after : List ℕ) : Type 0 where
  pub out : List ℕ
  pub at : ℕ
  pub counted : place ≡ at - length kept
  pub behind : IsKept profile catalog limits kept → reason ≢ SameForm → at ≡ place + length kept
  pub refused : (more : List ℕ) → (last ≡ true → more ≡ []) → HasVerdictWith profile catalog limits to (kept ++ (part ++ more)) (Rejected reason at) out
  pub written : observable → after ≡ before ++ out

-- ---- what a call keeps

-- memory: what was held, and no more than so much beside it; a fault for want of it only where it was refused
pub record GivesAllBack {T : Type 0} (most : ℕ) (answer : Result T Fault) (old new : Counts) : Type 0 where
  pub memory : answer ≡ Err Memory → old.refused < new.refused
  pub counted : answer ≢ Err Memory → new.refused ≡ old.refused
  pub held : new.held ≡ old.held
  pub peak : new.peak ≤ max old.peak (old.held + most)

-- and of the output, which never fails but by its own device: what is written only grows
pub record Runs {T O : Type 0} (most : ℕ) (answer : Result T Fault) (old new : Counts) (output : OutputOf O) (before after : O) : Type 0 where
  pub gives_back : GivesAllBack most answer old new
  pub no_reads : answer ≢ Err ReadFault
  pub write : answer ≡ Err WriteFault → output.failure_count after ≡ output.failure_count before + 1
  pub steady : answer ≢ Err WriteFault → output.failure_count after ≡ output.failure_count before
  pub still_observable : output.observable after ↔ output.observable before
  pub grown : output.observable before → HasPrefix (output.written after) (output.written before)

-- ---- what is counted

-- whether the item at a place among items is a version marker
abbrev pub marker_at : ℕ → List PlacedItem → Bool
marker_at n [] = false
marker_at zero (item ∷ items) = is_marker item.head
marker_at (suc n) (item ∷ items) = marker_at n items

-- what is known of items: how many there are, whether the last of them is firm, and whether that at a place is a version marker
pub record AreCounted (at : ℕ) (items : List PlacedItem) (counted : Counted) : Type 0 where
  pub count : counted.items ≡ length items
  pub firm : counted.is_firm ≡ ends_firmly items
  pub marked : counted.is_marked ≡ marker_at at items

-- so many items were taken, the last of them firm or not, unless they are more than can be counted
abbrev pub HasTaken : List PlacedItem → ℕ → Bool → Type 0
HasTaken path items firm = items < 2 ^ 64 - 1 → (items ≡ length path) × (firm ≡ ends_firmly path)

-- so much is known of the items of a reading that goes to its end
pub record IsCounted (at : ℕ) (reading : Reading) (counted : Counted) : Type 0 where
  pub items : List PlacedItem
  pub read : reading ≡ items_then items Finished
  pub are : AreCounted at items counted

-- a reading goes to its end, and has so many items
pub record HasCount (reading : Reading) (n : ℕ) : Type 0 where
  pub items : List PlacedItem
  pub read : reading ≡ items_then items Finished
  pub count : n ≡ length items

-- ---- what a stretch of a part is

-- all that a user is given of bytes
abbrev pub own_reading : Profile → List Shared → Limits → Form → List ℕ → Reading
own_reading profile catalog limits form bytes = users catalog limits.symbols at_start (reading_of profile form limits bytes)

-- bytes are read to their end, and may be cut there where these follow
pub record IsWhole (profile : Profile) (limits : Limits) (form : Form) (bytes next : List ℕ) : Type 0 where
  pub items : List PlacedItem
  pub read : reading_of profile form limits bytes ≡ items_then items Finished
  pub cut : is_cut form items bytes next ≡ true

-- kept bytes have so many items, and with a part so many items are those of user values
pub record HasItems (profile : Profile) (catalog : List Shared) (limits : Limits) (form : Form) (kept part : List ℕ) (before own : ℕ) : Type 0 where
  pub kept_items : HasCount (reading_of profile form limits kept) before
  pub own_items : HasCount (own_reading profile catalog limits form (kept ++ part)) own

-- what a stretch of a part is behind kept bytes, where these follow: user values alone; or a version marker and then those; or bytes that give
-- none; or it is refused. So each item behind the kept ones, or behind that marker, is one of a user value
pub data IsStretch (profile : Profile) (catalog : List Shared) (limits : Limits) (form : Form) (kept part next : List ℕ) : Stretch → Type 0 where
  values : (before own : ℕ) (whole : IsWhole profile limits form (kept ++ part) next) → HasItems profile catalog limits form kept part before own
      → own + before ≡ length whole.items → (kept ≡ [] → form ≡ forms.Text) → IsStretch profile catalog limits form kept part next stretch.Values
  marked : (before own : ℕ) (whole : IsWhole profile limits form (kept ++ part) next) → HasItems profile catalog limits form kept part before own
      → own + before + 1 ≡ length whole.items → marker_at before whole.items ≡ true → IsStretch profile catalog limits form kept part next stretch.Marked
  declared : (whole : IsWhole profile limits form (kept ++ part) next) → own_reading profile catalog limits form (kept ++ part) ≡ Finished
      → is_cut form whole.items (kept ++ part) [] ≡ true → IsStretch profile catalog limits form kept part next stretch.Declared
  refused : (reason : Reason) (place : ℕ) (whole : IsWhole profile limits form (kept ++ part) next)
      → ending_of (own_reading profile catalog limits form (kept ++ part)) ≡ Stopped reason place → IsStretch profile catalog limits form kept part next stretch.Refused
  other : IsStretch profile catalog limits form kept part next stretch.Other

-- what is known of a stretch by what was counted: how many items stand before it, whether it begins a stream, what all items are, and how many are
-- those of user values
abbrev pub CountsAs : Form → ℕ → Bool → Counted → ℕ → Stretch → Type 0
CountsAs form before begins all own stretch.Values = (own + before ≡ all.items) × (begins ≡ true → form ≡ forms.Text)
CountsAs form before begins all own stretch.Marked = (own + before + 1 ≡ all.items) × (all.is_marked ≡ true)
CountsAs form before begins all own stretch.Declared = (own ≡ 0) × ((form ≡ forms.Binary) ⊎ (all.is_firm ≡ true))
CountsAs form before begins all own stretch.Refused = ⊥
CountsAs form before begins all own stretch.Other = Unit {0}

-- so many bytes of a part are chosen as a stretch, and some if it is one
pub record IsChosen (profile : Profile) (catalog : List Shared) (limits : Limits) (form : Form) (kept part : List ℕ) (cut : ℕ) (what : Stretch) : Type 0 where
  pub within : cut ≤ length part
  pub is : IsStretch profile catalog limits form kept (take cut part) (drop cut part) what
  pub some : what ≢ stretch.Other → is_none_left (take cut part) ≡ false

-- what is kept behind a version marker of a form: in binary another one, in text a line feed
abbrev pub beginning : Form → List ℕ
beginning forms.Binary = 224 ∷ 1 ∷ 0 ∷ 234 ∷ []
beginning forms.Text = 10 ∷ []

-- what is kept behind a stretch
abbrev pub then_kept : Form → Stretch → List ℕ → List ℕ → List ℕ
then_kept form stretch.Values [] part = beginning form
then_kept form stretch.Values (b ∷ kept) part = b ∷ kept
then_kept form stretch.Marked kept part = beginning form
then_kept form stretch.Declared kept part = kept ++ part
then_kept form stretch.Refused kept part = kept
then_kept form stretch.Other kept part = kept

-- what is kept where what was kept stays or goes, and these bytes come
abbrev pub kept_by : Bool → List ℕ → List ℕ → List ℕ
kept_by true kept more = kept ++ more
kept_by false kept more = more

-- what is kept then is no longer than what was kept and the bytes that were taken, or than a version marker
abbrev pub IsShort : Bool → List ℕ → List ℕ → ℕ → Type 0
IsShort stays kept more bytes = length (kept_by stays kept more) ≤ max 4 (length kept + bytes)

-- ---- laws

-- a stretch that is accepted is taken, with what is then kept
abbrev pub StretchesAreTaken : Type 0
StretchesAreTaken =
    (profile : Profile) (catalog : List Shared) (limits : Limits) (to : To) (kept part next out : List ℕ) (n : ℕ) (what : Stretch)
    → IsStretch profile catalog limits (form_of (kept ++ part)) kept part next what → what ≢ stretch.Other → is_none_left part ≡ false
    → IsKept profile catalog limits kept → HasVerdictWith profile catalog limits to (kept ++ part) (Accepted n) out
    → IsTaken profile catalog limits to kept part next n out (then_kept (form_of (kept ++ part)) what kept part)
    × IsKept profile catalog limits (then_kept (form_of (kept ++ part)) what kept part)

-- and one that is refused is refused whatever follows
abbrev pub RefusedStretchesStand : Type 0
RefusedStretchesStand =
    (profile : Profile) (catalog : List Shared) (limits : Limits) (to : To) (kept part next more out : List ℕ) (reason : Reason) (place : ℕ) (what : Stretch)
    → IsStretch profile catalog limits (form_of (kept ++ part)) kept part next what → what ≢ stretch.Other → is_none_left part ≡ false
    → HasVerdictWith profile catalog limits to (kept ++ part) (Rejected reason place) out
    → HasVerdictWith profile catalog limits to (kept ++ ((part ++ next) ++ more)) (Rejected reason place) out

-- what is refused behind kept bytes is refused at a place behind them, unless binary is asked for from binary
abbrev pub RefusalsComeBehind : Type 0
RefusalsComeBehind =
    (profile : Profile) (catalog : List Shared) (limits : Limits) (to : To) (kept bytes out : List ℕ) (reason : Reason) (place : ℕ)
    → IsKept profile catalog limits kept → reason ≢ SameForm → HasVerdictWith profile catalog limits to (kept ++ bytes) (Rejected reason place) out
    → length kept ≤ place
