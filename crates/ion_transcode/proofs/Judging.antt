-- What a stretch of a part is, by what was counted.
use Rattle.std.proofs.Common.{◌≡◌, ◌≢◌, ◌⊎◌, ℕ, suc, ◌+◌, ◌-◌, ◌≤◌, Bool, true, false, ◌&&◌, ◌||◌, ◌==◌, List, [], ◌∷◌, ◌++◌, length, take, drop, Option, Some, None, Result, Ok, Err, inl, inr, refl, sym, ap, subst, ◌∙◌, arith, append_assoc}
use Rattle.std.specs.Prelude.{slice_get, max}
use Rattle.std.proofs.lemmas.List.{length-append}
use Rattle.ion_meter.specs.declared.fault.Fault.{Fault}
use Rattle.ion_meter.specs.declared.fault.Reason.{Reason}
use Rattle.ion_meter.specs.declared.limits.Limits.{Limits}
use Rattle.ion_meter.specs.declared.profile.Profile.{Profile}
use Rattle.ion_value.specs.Items.{is_none_left}
use Rattle.ion_value.specs.Reading.{Reading, Finished, Stopped, items_then}
use Rattle.ion_value.specs.ReadingLaws.{ending_of}
use Rattle.ion_value.specs.Value.{PlacedItem}
use Rattle.ion_symbols.specs.Table.{Shared}
use Rattle.ion_text_in.specs.Firm.{ends_line, ends_firmly, cannot_go_on}
use Rattle.ion_transcode.specs.declared.in_parts.Stretch.{Stretch}
use Rattle.ion_transcode.specs.declared.in_parts.Stretch.TheVariants as stretch
use Rattle.ion_transcode.specs.declared.in_parts.Chosen.{Chosen}
use Rattle.ion_transcode.specs.declared.in_parts.counting.Counted.{Counted}
use Rattle.ion_transcode.specs.declared.to.Form.{Form}
use Rattle.ion_transcode.specs.declared.to.Form.TheVariants as form
use Rattle.ion_transcode.specs.Forms.{form_of, reading_of}
use Rattle.ion_transcode.specs.InParts.{is_cut}
use Rattle.ion_transcode.specs.PartCalls.{IsCounted, IsChosen, HasCount, HasItems, own_reading, IsWhole, IsStretch, values, marked, declared, refused, other, CountsAs}

-- ---- cuts

-- the last of some bytes
pub ends_line-last : (bytes : List ℕ) (b : ℕ) → slice_get bytes (length bytes - 1) ≡ Some b → ends_line bytes ≡ (b == 10)
ends_line-last [] b e = absurd (cc e)
ends_line-last (c ∷ []) b e = let same : c ≡ b = cc e in ap (λ n. n == 10) same
ends_line-last (c ∷ d ∷ bytes) b e =
    let at : length (c ∷ d ∷ bytes) - 1 ≡ suc (length (d ∷ bytes) - 1) = omega arith in
    ends_line-last (d ∷ bytes) b (subst (λ (n : ℕ). slice_get (c ∷ d ∷ bytes) n ≡ Some b) at e)

pub ends_line-none : (bytes : List ℕ) → slice_get bytes (length bytes - 1) ≡ None → ends_line bytes ≡ true
ends_line-none [] e = refl
ends_line-none (c ∷ []) e = absurd (cc e)
ends_line-none (c ∷ d ∷ bytes) e =
    let at : length (c ∷ d ∷ bytes) - 1 ≡ suc (length (d ∷ bytes) - 1) = omega arith in
    ends_line-none (d ∷ bytes) (subst (λ (n : ℕ). slice_get (c ∷ d ∷ bytes) n ≡ None) at e)

ends_line-behind : (kept part : List ℕ) → is_none_left part ≡ false → ends_line (kept ++ part) ≡ ends_line part
ends_line-behind [] part some = refl
ends_line-behind (b ∷ []) [] some = absurd (cc some)
ends_line-behind (b ∷ []) (c ∷ part) some = refl
ends_line-behind (b ∷ c ∷ kept) part some = ends_line-behind (c ∷ kept) part some

cut-behind : (f : Form) (items : List PlacedItem) (kept part next : List ℕ) → is_none_left part ≡ false → is_cut f items part next ≡ true → is_cut f items (kept ++ part) next ≡ true
cut-behind form.Binary items kept part next some e = refl
cut-behind form.Text items kept part next some e = ap (λ line. line && (ends_firmly items || cannot_go_on next)) (ends_line-behind kept part some) ∙ e

first-of : (a b : Bool) → (a && b) ≡ true → a ≡ true
first-of true b e = refl
first-of false b e = absurd (cc e)

cut-firmly : (f : Form) (items : List PlacedItem) (bytes next : List ℕ) → is_cut f items bytes next ≡ true → (f ≡ form.Binary) ⊎ (ends_firmly items ≡ true) → is_cut f items bytes [] ≡ true
cut-firmly form.Binary items bytes next e how = refl
cut-firmly form.Text items bytes next e (inl how) = absurd (cc how)
cut-firmly form.Text items bytes next e (inr how) =
    let line = first-of (ends_line bytes) (ends_firmly items || cannot_go_on next) e in
    ap (λ line. line && (ends_firmly items || false)) line ∙ ap (λ firm. firm || false) how

-- ---- what is counted

none-of : (items : List PlacedItem) → length items ≡ 0 → items ≡ []
none-of [] e = refl
none-of (item ∷ items) e = absurd (omega (arith, e))

module _ (profile : Profile) (catalog : List Shared) (limits : Limits) (f : Form) (kept part next : List ℕ) (before : ℕ) (all : Counted)
    (counted : IsCounted before (reading_of profile f limits (kept ++ part)) all) (some : is_none_left part ≡ false)
    (may : Bool) (cut : (items : List PlacedItem) → all.is_firm ≡ ends_firmly items → may ≡ is_cut f items part next) (held : may ≡ true) where
  whole : IsWhole profile limits f (kept ++ part) next
  whole = record { items = counted.items; read = counted.read; cut = cut-behind f counted.items kept part next some (sym (cut counted.items counted.are.firm) ∙ held) }

  pub refused-by : (reason : Reason) (place : ℕ) → ending_of (own_reading profile catalog limits f (kept ++ part)) ≡ Stopped reason place
      → IsStretch profile catalog limits f kept part next stretch.Refused
  refused-by reason place stops = refused reason place whole stops

  firmly : (f ≡ form.Binary) ⊎ (all.is_firm ≡ true) → (f ≡ form.Binary) ⊎ (ends_firmly counted.items ≡ true)
  firmly (inl e) = inl e
  firmly (inr e) = inr (sym counted.are.firm ∙ e)

  pub stretch-by : (begins : Bool) (own : ℕ) (what : Stretch) → HasCount (reading_of profile f limits kept) before → HasCount (own_reading profile catalog limits f (kept ++ part)) own
      → (kept ≡ [] → begins ≡ true) → CountsAs f before begins all own what → IsStretch profile catalog limits f kept part next what
  unfolding whole
  stretch-by begins own stretch.Values kept_items own_items none is =
      values before own whole (record { kept_items = kept_items; own_items = own_items }) (is.0 ∙ counted.are.count) (λ e. is.1 (none e))
  stretch-by begins own stretch.Marked kept_items own_items none is =
      marked before own whole (record { kept_items = kept_items; own_items = own_items }) (is.0 ∙ counted.are.count) (sym counted.are.marked ∙ is.1)
  stretch-by begins own stretch.Declared kept_items own_items none is =
      declared whole (own_items.read ∙ ap (λ items. items_then items Finished) (none-of own_items.items (sym own_items.count ∙ is.0)))
      (cut-firmly f counted.items (kept ++ part) next whole.cut (firmly is.1))
  stretch-by begins own stretch.Refused kept_items own_items none is = absurd is
  stretch-by begins own stretch.Other kept_items own_items none is = other

-- ---- answers

-- a stretch that is answered
pub as-stretch : {profile : Profile} {catalog : List Shared} {limits : Limits} {f : Form} {kept part next : List ℕ} (what answered : Stretch) → IsStretch profile catalog limits f kept part next what
    → ◌≡◌ {A = Result Stretch Fault} (Ok what) (Ok answered) → IsStretch profile catalog limits f kept part next answered
as-stretch {profile} {catalog} {limits} {f} {kept} {part} {next} what answered is e =
    let same : what ≡ answered = cc e in
    subst (λ s. IsStretch profile catalog limits f kept part next s) same is

-- nothing is known
pub unknown-stretch : {profile : Profile} {catalog : List Shared} {limits : Limits} {f : Form} {kept part next : List ℕ} (what : Stretch) → what ≡ stretch.Other
    → IsStretch profile catalog limits f kept part next what
unknown-stretch {profile} {catalog} {limits} {f} {kept} {part} {next} what e = subst (λ s. IsStretch profile catalog limits f kept part next s) (sym e) other

-- nothing is chosen
pub chosen-nothing : {profile : Profile} {catalog : List Shared} {limits : Limits} {f : Form} {kept part : List ℕ} → IsChosen profile catalog limits f kept part 0 stretch.Other
chosen-nothing = record { within = omega arith; is = other; some = λ no. absurd (no refl) }

pub as-chosen : {profile : Profile} {catalog : List Shared} {limits : Limits} {f : Form} {kept part : List ℕ} (c answered : Chosen) → IsChosen profile catalog limits f kept part c.cut c.stretch
    → ◌≡◌ {A = Result Chosen Fault} (Ok c) (Ok answered) → IsChosen profile catalog limits f kept part answered.cut answered.stretch
as-chosen {profile} {catalog} {limits} {f} {kept} {part} c answered is e =
    let same : c ≡ answered = cc e in
    subst (λ (k : Chosen). IsChosen profile catalog limits f kept part k.cut k.stretch) same is

-- what was counted tells how many items there are
pub has-count : {at : ℕ} {r : Reading} {counted : Counted} → IsCounted at r counted → HasCount r counted.items
has-count is = record { items = is.items; read = is.read; count = is.are.count }
