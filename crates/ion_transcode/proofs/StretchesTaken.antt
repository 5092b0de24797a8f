-- A stretch of a part that is accepted is taken with what is then kept, and one that is refused is refused whatever follows.
use Rattle.std.proofs.Common.{◌≡◌, ◌≢◌, ◌⊎◌, ℕ, suc, ◌+◌, Bool, true, false, List, [], ◌∷◌, ◌++◌, length, Option, Some, None, inl, inr, refl, sym, ap, subst, subst₂, ◌∙◌, arith, append-nil, append_assoc}
use Rattle.std.proofs.lemmas.List.{length-append}
use Rattle.ion_meter.specs.declared.fault.Reason.{Reason}
use Rattle.ion_meter.specs.declared.fault.Reason.TheVariants.{SameForm}
use Rattle.ion_meter.specs.declared.limits.Limits.{Limits}
use Rattle.ion_meter.specs.declared.profile.Profile.{Profile}
use Rattle.ion_meter.specs.Windows.{HasPrefix}
use Rattle.ion_value.specs.Further.{further}
use Rattle.ion_value.specs.Items.{is_none_left}
use Rattle.ion_value.specs.Outcome.{Verdict, Accepted, Rejected, values_in, verdict_with, verdict_after, output_with, output_after}
use Rattle.ion_value.specs.Reading.{Reading, Finished, Stopped, More, Step, Ends, Stops, Gives, GoesOn, items_of, items_then}
use Rattle.ion_value.specs.ReadingLaws.{ending_of}
use Rattle.ion_value.specs.Standing.{is_marker}
use Rattle.ion_value.specs.Value as value
use Rattle.ion_value.specs.Value.{PlacedItem, bare_item}
use Rattle.ion_value.proofs.Readings.{items_of-items_then}
use Rattle.ion_symbols.specs.Onward.{Led, with_own, led_by, led, at_top, LeadTo, UsersReadOn, UsersHangOnNoPlace, ValuesKeepTheTable}
use Rattle.ion_symbols.specs.Table.{Shared, Table, system}
use Rattle.ion_symbols.specs.Users as users
use Rattle.ion_symbols.specs.Users.{at_start, user_step, by_step}
use Rattle.ion_binary.specs.Descriptor as descriptor
use Rattle.ion_binary.specs.Reading as binary
use Rattle.ion_text_in.specs.Blanks as blanks
use Rattle.ion_text_in.specs.Reading as text
use Rattle.ion_binary.specs.Cuts.{WholeValuesAreCut, PartsAreRead}
use Rattle.ion_text_in.specs.Firm.{CutWhereOneBegins, CutAfterFirm, PartsAreTexts}
use Rattle.ion_transcode.specs.declared.in_parts.Stretch.{Stretch}
use Rattle.ion_transcode.specs.declared.in_parts.Stretch.TheVariants as stretch
use Rattle.ion_transcode.specs.declared.to.Form.{Form}
use Rattle.ion_transcode.specs.declared.to.Form.TheVariants as form
use Rattle.ion_transcode.specs.declared.to.Target.{Target}
use Rattle.ion_transcode.specs.declared.to.To.{To}
use Rattle.ion_transcode.specs.ByItem.{by_item, verdict_as, output_as, verdict_for, output_for}
use Rattle.ion_transcode.specs.Forms.{form_of, reading_of}
use Rattle.ion_transcode.specs.InParts.{is_cut, Leaves, StandsFor, IsTaken, WhatIsAcceptedLeavesATable, ValuesChangeNothingKept}
use Rattle.ion_transcode.specs.Laws.{OneVerdict, StreamsAreRead}
use Rattle.ion_transcode.specs.Outputs.{Outputs, resolved}
use Rattle.ion_transcode.specs.PartCalls.{IsKept, marker_at, HasCount, own_reading, IsWhole, HasItems, IsStretch, values, marked, declared, refused, other, beginning, then_kept, StretchesAreTaken, RefusedStretchesStand}
use Rattle.ion_transcode.specs.Verdict.{HasVerdictAs, HasVerdictWith}
use Rattle.ion_transcode.proofs.CutReadings.{cut-more, cut-always, form-more, some-more, reading-cut}
use Rattle.ion_transcode.proofs.PartItems.{ending-behind}

-- ---- items

pub items-same : (xs ys : List PlacedItem) → items_then xs Finished ≡ items_then ys Finished → xs ≡ ys
items-same xs ys e = sym (items_of-items_then xs Finished ∙ append-nil xs) ∙ ap items_of e ∙ items_of-items_then ys Finished ∙ append-nil ys

-- the items of a reading that goes on are those before, and others
items-more : (xs ys : List PlacedItem) (r : Reading) → items_then ys Finished ≡ items_then xs r → ys ≡ xs ++ items_of r
items-more xs ys r e = sym (items_of-items_then ys Finished ∙ append-nil ys) ∙ ap items_of e ∙ items_of-items_then xs r

marker_at-behind : (xs ys : List PlacedItem) → marker_at (length xs) (xs ++ ys) ≡ marker_at 0 ys
marker_at-behind [] ys = refl
marker_at-behind (x ∷ xs) ys = marker_at-behind xs ys

-- ---- bytes of none

none-in-text : (profile : Profile) (limits : Limits) → reading_of profile form.Text limits [] ≡ Finished
unfolding text.reading text.step text.part_at blanks.blanks_at
none-in-text profile limits = refl

none-in-binary : (profile : Profile) (limits : Limits) → reading_of profile form.Binary limits [] ≡ Finished
unfolding binary.reading binary.step
none-in-binary profile limits = refl

none-read : (profile : Profile) (f : Form) (limits : Limits) → reading_of profile f limits [] ≡ Finished
none-read profile form.Binary limits = none-in-binary profile limits
none-read profile form.Text limits = none-in-text profile limits

-- a stream's beginning, which is kept where nothing is needed of what stands before
begins-some : (f : Form) → is_none_left (beginning f) ≡ false
begins-some form.Binary = refl
begins-some form.Text = refl

begins-form : (f : Form) → form_of (beginning f) ≡ f
begins-form form.Binary = refl
begins-form form.Text = refl

line-in-text : (profile : Profile) (limits : Limits) → reading_of profile form.Text limits (10 ∷ []) ≡ Finished
unfolding text.reading text.step text.part_at blanks.blanks_at
line-in-text profile limits = refl

marker-in-binary : (profile : Profile) (limits : Limits) → reading_of profile form.Binary limits (224 ∷ 1 ∷ 0 ∷ 234 ∷ []) ≡ items_then (bare_item value.marker 0 0 ∷ []) Finished
unfolding binary.reading binary.step binary.member_at binary.value_at binary.plain_at binary.typed_value_at binary.read_by_descriptor binary.marker_at descriptor.octet_at descriptor.shape_of
marker-in-binary profile limits = refl

begins-leaves : (profile : Profile) (catalog : List Shared) (limits : Limits) (f : Form) → Leaves profile catalog limits f (beginning f) [] [] system
begins-leaves profile catalog limits form.Binary = record { items = bare_item value.marker 0 0 ∷ []; read = marker-in-binary profile limits; cut = refl; leads = refl }
begins-leaves profile catalog limits form.Text = record { items = []; read = line-in-text profile limits; cut = refl; leads = refl }

abbrev none-leaves : (profile : Profile) (catalog : List Shared) (limits : Limits) (part : List ℕ) → Leaves profile catalog limits form.Text [] part [] system
none-leaves profile catalog limits part = record { items = []; read = none-in-text profile limits; cut = refl; leads = refl }

-- ---- where items lead

some-is : (x y : Led) → Some x ≡ Some y → x ≡ y
some-is x y e = cc e

no-led : {A : Type 0} (x : Led) → None ≡ Some x → A
no-led x e = absurd (cc e)

no-own : {A : Type 0} (own : PlacedItem) (x : Option Led) (s : users.State) → with_own own x ≡ Some (record { mine = []; after = s }) → A
no-own own None s e = absurd (cc e)
no-own own (Some k) s e = let lists : own ∷ k.mine ≡ [] = ap (λ (l : Led). l.mine) (some-is _ _ e) in absurd (cc lists)

step-append : (o : Step users.State) (f k : users.State → Option Led) (s : users.State) (goal : Option Led) → ((t : users.State) → f t ≡ Some (record { mine = []; after = s }) → k t ≡ goal)
    → led_by o f ≡ Some (record { mine = []; after = s }) → led_by o k ≡ goal
step-append Ends f k s goal more e = no-led _ e
step-append (Stops reason place) f k s goal more e = no-led _ e
step-append (Gives own t) f k s goal more e = no-own own (f t) s e
step-append (GoesOn t) f k s goal more e = more t e

led-append : (catalog : List Shared) (limit : ℕ) (xs ys : List PlacedItem) (s t : users.State) → led catalog limit s xs ≡ Some (record { mine = []; after = t })
    → led catalog limit s (xs ++ ys) ≡ led catalog limit t ys
led-append catalog limit [] ys s t e = ap (λ (l : Led). led catalog limit l.after ys) (some-is _ _ e)
led-append catalog limit (x ∷ xs) ys s t e = step-append (user_step catalog limit s x) _ _ t (led catalog limit t ys) (λ u is. led-append catalog limit xs ys u t is) e

marker-led : (catalog : List Shared) (limit : ℕ) (t : Table) (m : PlacedItem) (ys : List PlacedItem) → is_marker m.head ≡ true
    → led catalog limit (at_top t) (m ∷ ys) ≡ led catalog limit at_start ys
marker-led catalog limit t m ys is = rw is refl

-- behind a marker with user values alone the table is that of the beginning
marked-led : (keep : ValuesKeepTheTable) (catalog : List Shared) (limit : ℕ) (xs ys mine : List PlacedItem) (t u : Table) → LeadTo catalog limit xs [] t → LeadTo catalog limit (xs ++ ys) mine u
    → marker_at 0 ys ≡ true → length mine + length xs + 1 ≡ length (xs ++ ys) → u ≡ system
marked-led keep catalog limit xs [] mine t u first all is count = absurd (cc is)
marked-led keep catalog limit xs (m ∷ ys) mine t u first all is count =
    let behind : LeadTo catalog limit ys mine u =
    sym (led-append catalog limit xs (m ∷ ys) at_start (at_top t) first ∙ marker-led catalog limit t m ys is) ∙ all in
    keep catalog limit [] ys [] mine system u refl behind (omega (arith, count, length-append xs (m ∷ ys)))

-- ---- what is accepted

not-accepted : {A : Type 0} (n : ℕ) (r : Reason) (p : ℕ) → Accepted n ≡ Rejected r p → A
not-accepted n r p e = absurd (cc e)

asked-for : (profile : Profile) (catalog : List Shared) (limits : Limits) (f : Form) (bytes out : List ℕ) (n : ℕ) (r : Option Target) → HasVerdictAs profile r f catalog limits bytes (Accepted n) out
    → (t : Target) × (r ≡ Some t)
asked-for profile catalog limits f bytes out n None has = not-accepted n SameForm 0 has.0
asked-for profile catalog limits f bytes out n (Some t) has = (t, refl)

module _ (accepted_leaves : WhatIsAcceptedLeavesATable) (values_law : ValuesChangeNothingKept) (keep : ValuesKeepTheTable) (whole_cut : WholeValuesAreCut) (parts_read : PartsAreRead) (begun : CutWhereOneBegins) (firm : CutAfterFirm)
    (parts_texts : PartsAreTexts) (read_on : UsersReadOn) (no_place : UsersHangOnNoPlace) (profile : Profile) (catalog : List Shared) (limits : Limits) (to : To) where
  -- where the items of what is accepted lead
  leads-by : (bytes next out : List ℕ) (n : ℕ) → HasVerdictWith profile catalog limits to bytes (Accepted n) out → (whole : IsWhole profile limits (form_of bytes) bytes next)
      → (mine : List PlacedItem) × (table : Table) × LeadTo catalog limits.symbols whole.items mine table
  leads-by bytes next out n has whole =
      let t = asked-for profile catalog limits (form_of bytes) bytes out n (resolved (form_of bytes) to) has in
      let top = accepted_leaves profile catalog limits to bytes out n t.0 t.1 has in
      let same : top.0 ≡ whole.items = items-same top.0 whole.items (sym top.3 ∙ whole.read) in
      (top.1, top.2, subst (λ (items : List PlacedItem). LeadTo catalog limits.symbols items top.1 top.2) same top.4)

  -- all that a user is given of them
  own-whole : (f : Form) (bytes next : List ℕ) (whole : IsWhole profile limits f bytes next) (mine : List PlacedItem) (table : Table) → LeadTo catalog limits.symbols whole.items mine table
      → own_reading profile catalog limits f bytes ≡ items_then mine Finished
  own-whole f bytes next whole mine table leads =
      ap (users.users catalog limits.symbols at_start) whole.read ∙ read_on catalog limits.symbols at_start whole.items (record { mine = mine; after = at_top table }) Finished leads

  -- what is kept of all that stands before
  kept-of : (before kept : List ℕ) (next : List ℕ) → StandsFor profile catalog limits kept before next → IsKept profile catalog limits kept
  kept-of before kept next stands = inr (stands.table, subst (λ (g : Form). Leaves profile catalog limits g kept [] [] stands.table) (sym stands.form) stands.keeps)

  -- ---- user values alone

  -- the items of bytes hang on their form alone
  as-many : (f g : Form) (bytes next more : List ℕ) (mine : List PlacedItem) (table : Table) → f ≡ g → (one : Leaves profile catalog limits f bytes next mine table)
      → (two : Leaves profile catalog limits g bytes more mine table) → length one.items ≡ length two.items
  as-many f g bytes next more mine table is one two =
      let same : one.items ≡ two.items = items-same one.items two.items (sym one.read ∙ ap (λ (h : Form). reading_of profile h limits bytes) is ∙ two.read) in
      ap length same

  values-stand : (kept part next out : List ℕ) (n before own : ℕ) (whole : IsWhole profile limits (form_of (kept ++ part)) (kept ++ part) next)
      → HasItems profile catalog limits (form_of (kept ++ part)) kept part before own → own + before ≡ length whole.items → (kept ≡ [] → form_of (kept ++ part) ≡ form.Text)
      → IsKept profile catalog limits kept → HasVerdictWith profile catalog limits to (kept ++ part) (Accepted n) out
      → StandsFor profile catalog limits (then_kept (form_of (kept ++ part)) stretch.Values kept part) (kept ++ part) next
  values-stand [] part next out n before own whole has count text is_kept accepted =
      let f : Form = form_of part in
      let is_text : f ≡ form.Text = text refl in
      let lead = leads-by part next out n accepted whole in
      let mine_is : has.own_items.items ≡ lead.0 =
      items-same has.own_items.items lead.0 (sym has.own_items.read ∙ own-whole f part next whole lead.0 lead.1 lead.2) in
      let none_is : has.kept_items.items ≡ [] = items-same has.kept_items.items [] (sym has.kept_items.read ∙ none-read profile f limits) in
      let start : StandsFor profile catalog limits (beginning form.Text) [] part =
      record {
        mine = [];
        table = system;
        some = refl;
        form = refl;
        leaves = none-leaves profile catalog limits part;
        keeps = begins-leaves profile catalog limits form.Text;
      } in
      let all : Leaves profile catalog limits f part next lead.0 lead.1 = record { items = whole.items; read = whole.read; cut = whole.cut; leads = lead.2 } in
      let leaves : Leaves profile catalog limits form.Text part next lead.0 lead.1 = subst (λ (g : Form). Leaves profile catalog limits g part next lead.0 lead.1) is_text all in
      let items_are : length whole.items ≡ length leaves.items = as-many f form.Text part next next lead.0 lead.1 is_text all leaves in
      let no_items : length start.leaves.items ≡ 0 = refl in
      let no_mine : length start.mine ≡ 0 = refl in
      let counted : length lead.0 + length start.leaves.items ≡ length leaves.items + length start.mine =
      omega (arith, count, items_are, no_items, no_mine, has.own_items.count, has.kept_items.count, ap length mine_is, ap length none_is) in
      subst (λ (g : Form). StandsFor profile catalog limits (beginning g) part next) (sym is_text)
      (values_law profile catalog limits (beginning form.Text) [] part next lead.0 lead.1 start is_text leaves counted)
  values-stand (b ∷ kept) part next out n before own whole has count text (inl none) accepted = absurd (cc none)
  values-stand (b ∷ kept) part next out n before own whole has count text (inr is_kept) accepted =
      let f : Form = form_of (b ∷ kept) in
      let lead = leads-by (b ∷ (kept ++ part)) next out n accepted whole in
      let keeps = is_kept.1 in
      let mine_is : has.own_items.items ≡ lead.0 =
      items-same has.own_items.items lead.0 (sym has.own_items.read ∙ own-whole f (b ∷ (kept ++ part)) next whole lead.0 lead.1 lead.2) in
      let kept_is : has.kept_items.items ≡ keeps.items = items-same has.kept_items.items keeps.items (sym has.kept_items.read ∙ keeps.read) in
      let stands : StandsFor profile catalog limits (b ∷ kept) (b ∷ kept) part =
      record {
        mine = [];
        table = is_kept.0;
        some = refl;
        form = refl;
        leaves = record { items = keeps.items; read = keeps.read; cut = cut-always f keeps.items (b ∷ kept) part keeps.cut; leads = keeps.leads };
        keeps = keeps;
      } in
      let leaves : Leaves profile catalog limits f (b ∷ (kept ++ part)) next lead.0 lead.1 = record { items = whole.items; read = whole.read; cut = whole.cut; leads = lead.2 } in
      let as_kept : length stands.leaves.items ≡ length keeps.items = refl in
      let as_whole : length leaves.items ≡ length whole.items = refl in
      let no_mine : length stands.mine ≡ 0 = refl in
      let counted : length lead.0 + length stands.leaves.items ≡ length leaves.items + length stands.mine =
      omega (arith, count, as_kept, as_whole, no_mine, has.own_items.count, has.kept_items.count, ap length mine_is, ap length kept_is) in
      values_law profile catalog limits (b ∷ kept) (b ∷ kept) part next lead.0 lead.1 stands refl leaves counted

  -- ---- a marker, and user values behind it

  marked-stands : (kept part next out : List ℕ) (n before own : ℕ) (whole : IsWhole profile limits (form_of (kept ++ part)) (kept ++ part) next)
      → HasItems profile catalog limits (form_of (kept ++ part)) kept part before own → own + before + 1 ≡ length whole.items → marker_at before whole.items ≡ true
      → IsKept profile catalog limits kept → HasVerdictWith profile catalog limits to (kept ++ part) (Accepted n) out
      → StandsFor profile catalog limits (beginning (form_of (kept ++ part))) (kept ++ part) next
  marked-stands kept part next out n before own whole has count is is_kept accepted =
      let f : Form = form_of (kept ++ part) in
      let lead = leads-by (kept ++ part) next out n accepted whole in
      let mine_is : has.own_items.items ≡ lead.0 =
      items-same has.own_items.items lead.0 (sym has.own_items.read ∙ own-whole f (kept ++ part) next whole lead.0 lead.1 lead.2) in
      let split = split-off kept part has.kept_items is_kept whole.items whole.read in
      let counted : length lead.0 + length has.kept_items.items + 1 ≡ length (has.kept_items.items ++ split.1) =
      omega (arith, count, has.own_items.count, has.kept_items.count, ap length mine_is, ap length split.3) in
      let there : marker_at 0 split.1 ≡ true =
      sym (marker_at-behind has.kept_items.items split.1) ∙ ap (marker_at (length has.kept_items.items)) (sym split.3) ∙ ap (λ (at : ℕ). marker_at at whole.items) (sym has.kept_items.count) ∙ is in
      let leads : LeadTo catalog limits.symbols (has.kept_items.items ++ split.1) lead.0 lead.1 = subst (λ (items : List PlacedItem). LeadTo catalog limits.symbols items lead.0 lead.1) split.3 lead.2 in
      let table_is : lead.1 ≡ system = marked-led keep catalog limits.symbols has.kept_items.items split.1 lead.0 split.0 lead.1 split.2 leads there counted in
      record {
        mine = lead.0;
        table = system;
        some = begins-some f;
        form = begins-form f;
        leaves = record { items = whole.items; read = whole.read; cut = whole.cut; leads = subst (λ (t : Table). LeadTo catalog limits.symbols whole.items lead.0 t) table_is lead.2 };
        keeps = begins-leaves profile catalog limits f;
      }
    where
      -- the items behind those that are kept
      split-off : (kept part : List ℕ) {before : ℕ} (others : HasCount (reading_of profile (form_of (kept ++ part)) limits kept) before) → IsKept profile catalog limits kept
          → (items : List PlacedItem) → reading_of profile (form_of (kept ++ part)) limits (kept ++ part) ≡ items_then items Finished
          → (table : Table) × (ys : List PlacedItem) × LeadTo catalog limits.symbols others.items [] table × (items ≡ others.items ++ ys)
      split-off [] part others is_kept items read =
          let none_is : [] ≡ others.items = items-same [] others.items (sym (none-read profile (form_of part) limits) ∙ others.read) in
          (system, items, subst (λ (xs : List PlacedItem). LeadTo catalog limits.symbols xs [] system) none_is refl, ap (λ (xs : List PlacedItem). xs ++ items) none_is)
      split-off (b ∷ kept) part others (inl none) items read = absurd (cc none)
      split-off (b ∷ kept) part others (inr is_kept) items read =
          let keeps = is_kept.1 in
          let kept_is : keeps.items ≡ others.items = items-same keeps.items others.items (sym keeps.read ∙ others.read) in
          let rest : Reading = further (length (b ∷ kept)) (reading_of profile (form_of (b ∷ kept)) limits part) in
          let all : items_then items Finished ≡ items_then keeps.items rest =
          sym read ∙ reading-cut whole_cut parts_read begun firm parts_texts read_on no_place profile (form_of (b ∷ kept)) limits (b ∷ kept) part keeps.items keeps.read
          (cut-always (form_of (b ∷ kept)) keeps.items (b ∷ kept) part keeps.cut) in (
            is_kept.0,
            items_of rest,
            subst (λ (xs : List PlacedItem). LeadTo catalog limits.symbols xs [] is_kept.0) kept_is keeps.leads,
            items-more keeps.items items rest all ∙ ap (λ (xs : List PlacedItem). xs ++ items_of rest) kept_is,
          )

  -- ---- no user value

  declared-stands : (kept part next out : List ℕ) (n : ℕ) (whole : IsWhole profile limits (form_of (kept ++ part)) (kept ++ part) next)
      → own_reading profile catalog limits (form_of (kept ++ part)) (kept ++ part) ≡ Finished → is_cut (form_of (kept ++ part)) whole.items (kept ++ part) [] ≡ true
      → is_none_left part ≡ false → HasVerdictWith profile catalog limits to (kept ++ part) (Accepted n) out → StandsFor profile catalog limits (kept ++ part) (kept ++ part) next
  declared-stands kept part next out n whole none cut some accepted =
      let f : Form = form_of (kept ++ part) in
      let lead = leads-by (kept ++ part) next out n accepted whole in
      let mine_is : lead.0 ≡ [] = items-same lead.0 [] (sym (own-whole f (kept ++ part) next whole lead.0 lead.1 lead.2) ∙ none) in
      let leads : LeadTo catalog limits.symbols whole.items [] lead.1 = subst (λ (mine : List PlacedItem). LeadTo catalog limits.symbols whole.items mine lead.1) mine_is lead.2 in
      record {
        mine = [];
        table = lead.1;
        some = some-more kept part some;
        form = refl;
        leaves = record { items = whole.items; read = whole.read; cut = whole.cut; leads = leads };
        keeps = record { items = whole.items; read = whole.read; cut = cut; leads = leads };
      }

  -- ---- all stretches

  not-refused : {A : Type 0} (f : Form) (bytes next out : List ℕ) (n : ℕ) (reason : Reason) (place : ℕ) → form_of bytes ≡ f → (whole : IsWhole profile limits (form_of bytes) bytes next)
      → ending_of (own_reading profile catalog limits (form_of bytes) bytes) ≡ Stopped reason place → HasVerdictWith profile catalog limits to bytes (Accepted n) out → A
  not-refused f bytes next out n reason place is whole stops accepted =
      let lead = leads-by bytes next out n accepted whole in
      let ends : Finished ≡ Stopped reason place =
      sym (ap ending_of (own-whole (form_of bytes) bytes next whole lead.0 lead.1 lead.2) ∙ ending-behind lead.0 Finished) ∙ stops in
      absurd (cc ends)

  stretch-stands : (kept part next out : List ℕ) (n : ℕ) (what : Stretch) → IsStretch profile catalog limits (form_of (kept ++ part)) kept part next what → what ≢ stretch.Other
      → is_none_left part ≡ false → IsKept profile catalog limits kept → HasVerdictWith profile catalog limits to (kept ++ part) (Accepted n) out
      → StandsFor profile catalog limits (then_kept (form_of (kept ++ part)) what kept part) (kept ++ part) next
  stretch-stands kept part next out n _ (values before own whole has count text) none some is_kept accepted = values-stand kept part next out n before own whole has count text is_kept accepted
  stretch-stands kept part next out n _ (marked before own whole has count is) none some is_kept accepted = marked-stands kept part next out n before own whole has count is is_kept accepted
  stretch-stands kept part next out n _ (declared whole gives cut) none some is_kept accepted = declared-stands kept part next out n whole gives cut some accepted
  stretch-stands kept part next out n _ (refused reason place whole stops) none some is_kept accepted = not-refused (form_of (kept ++ part)) (kept ++ part) next out n reason place refl whole stops accepted
  stretch-stands kept part next out n _ other none some is_kept accepted = absurd (none refl)

  pub stretch-taken : (kept part next out : List ℕ) (n : ℕ) (what : Stretch) → IsStretch profile catalog limits (form_of (kept ++ part)) kept part next what → what ≢ stretch.Other
      → is_none_left part ≡ false → IsKept profile catalog limits kept → HasVerdictWith profile catalog limits to (kept ++ part) (Accepted n) out
      → IsTaken profile catalog limits to kept part next n out (then_kept (form_of (kept ++ part)) what kept part)
      × IsKept profile catalog limits (then_kept (form_of (kept ++ part)) what kept part)
  stretch-taken kept part next out n what is none some is_kept accepted =
      let stands = stretch-stands kept part next out n what is none some is_kept accepted in
      (record { some = some; accepted = accepted; stands = stands }, kept-of (kept ++ part) (then_kept (form_of (kept ++ part)) what kept part) next stands)

pub stretches-are-taken : WhatIsAcceptedLeavesATable → ValuesChangeNothingKept → ValuesKeepTheTable → WholeValuesAreCut → PartsAreRead → CutWhereOneBegins → CutAfterFirm → PartsAreTexts → UsersReadOn → UsersHangOnNoPlace
    → StretchesAreTaken
stretches-are-taken accepted_leaves values_law keep whole_cut parts_read begun firm parts_texts read_on no_place profile catalog limits to kept part next out n what is none some is_kept accepted =
    stretch-taken accepted_leaves values_law keep whole_cut parts_read begun firm parts_texts read_on no_place profile catalog limits to kept part next out n what is none some is_kept accepted

-- ---- refusals

-- a reading, and one that has more behind its end
data Onward : Reading → Reading → Type 0 where
  at_end : (r : Reading) → Onward Finished r
  stopped : (reason : Reason) (place : ℕ) → Onward (Stopped reason place) (Stopped reason place)
  with_item : (item : PlacedItem) (r s : Reading) → Onward r s → Onward (More item r) (More item s)

onward-items : (items : List PlacedItem) (r : Reading) → Onward (items_then items Finished) (items_then items r)
onward-items [] r = at_end r
onward-items (item ∷ items) r = with_item item _ _ (onward-items items r)

step-onward : (o : Step users.State) (f g : users.State → Reading) → ((t : users.State) → Onward (f t) (g t)) → Onward (by_step o f) (by_step o g)
step-onward Ends f g more = at_end Finished
step-onward (Stops reason place) f g more = stopped reason place
step-onward (Gives own t) f g more = with_item own (f t) (g t) (more t)
step-onward (GoesOn t) f g more = more t

users-onward : (catalog : List Shared) (limit : ℕ) (r s : Reading) (u : users.State) → Onward r s → Onward (users.users catalog limit u r) (users.users catalog limit u s)
users-onward catalog limit _ _ u (at_end r) = at_end (users.users catalog limit u r)
users-onward catalog limit _ _ u (stopped reason place) = stopped reason place
users-onward catalog limit _ _ u (with_item item r s more) = step-onward (user_step catalog limit u item) _ _ (λ t. users-onward catalog limit r s t more)

module _ (o : Outputs) (reason : Reason) (place : ℕ) where
  abbrev Stands : List PlacedItem → Reading → Reading → Type 0
  Stands path r s = (verdict_after o.refusal path s ≡ Rejected reason place) × (output_after o.open_output o.refusal path s ≡ output_after o.open_output o.refusal path r)

  item-stands : (why : Option (Reason × ℕ)) (path : List PlacedItem) (item : PlacedItem) (r s : Reading)
      → (verdict_after o.refusal (path ++ item ∷ []) r ≡ Rejected reason place → Stands (path ++ item ∷ []) r s)
      → verdict_with why (verdict_after o.refusal (path ++ item ∷ []) r) ≡ Rejected reason place
      → (verdict_with why (verdict_after o.refusal (path ++ item ∷ []) s) ≡ Rejected reason place)
      × (output_with why (o.open_output path) (output_after o.open_output o.refusal (path ++ item ∷ []) s) ≡ output_with why (o.open_output path) (output_after o.open_output o.refusal (path ++ item ∷ []) r))
  item-stands None path item r s more e = more e
  item-stands (Some why) path item r s more e = (e, refl)

  stands : (path : List PlacedItem) (r s : Reading) → Onward r s → verdict_after o.refusal path r ≡ Rejected reason place → Stands path r s
  stands path _ _ (at_end s) e = not-accepted (values_in [] path) reason place e
  stands path _ _ (stopped why q) e = (e, refl)
  stands path _ _ (with_item item r s more) e = item-stands (o.refusal path item) path item r s (λ e. stands (path ++ item ∷ []) r s more e) e

module _ (streams : StreamsAreRead) (one : OneVerdict) (whole_cut : WholeValuesAreCut) (parts_read : PartsAreRead) (begun : CutWhereOneBegins) (firm : CutAfterFirm)
    (parts_texts : PartsAreTexts) (read_on : UsersReadOn) (no_place : UsersHangOnNoPlace) (profile : Profile) (catalog : List Shared) (limits : Limits) (to : To) where
  -- for each target, and for none
  by-target : (t : Option Target) (f : Form) (bytes all : List ℕ) (reason : Reason) (place : ℕ) → Onward (reading_of profile f limits bytes) (reading_of profile f limits all)
      → verdict_as profile t f catalog limits bytes ≡ Rejected reason place
      → (verdict_as profile t f catalog limits all ≡ Rejected reason place) × (output_as profile t f catalog limits all ≡ output_as profile t f catalog limits bytes)
  by-target None f bytes all reason place on e = (e, refl)
  by-target (Some t) f bytes all reason place on e = stands (by_item t limits) reason place [] _ _ (users-onward catalog limits.symbols _ _ at_start on) e

  whole-stands : (bytes next more out : List ℕ) (reason : Reason) (place : ℕ) → is_none_left bytes ≡ false → IsWhole profile limits (form_of bytes) bytes next
      → HasVerdictWith profile catalog limits to bytes (Rejected reason place) out → HasVerdictWith profile catalog limits to (bytes ++ (next ++ more)) (Rejected reason place) out
  whole-stands bytes next more out reason place some whole has =
      let f : Form = form_of bytes in
      let all : List ℕ = bytes ++ (next ++ more) in
      let prefix : HasPrefix (next ++ more) next = (more, refl) in
      let same : form_of all ≡ f = form-more bytes (next ++ more) some in
      let cut : is_cut f whole.items bytes (next ++ more) ≡ true = cut-more f whole.items bytes next (next ++ more) prefix whole.cut in
      let read = reading-cut whole_cut parts_read begun firm parts_texts read_on no_place profile f limits bytes (next ++ more) whole.items whole.read cut in
      let on : Onward (reading_of profile f limits bytes) (reading_of profile f limits all) =
      subst₂ (λ (r s : Reading). Onward r s) (sym whole.read) (sym read) (onward-items whole.items (further (length bytes) (reading_of profile f limits (next ++ more)))) in
      let found = one profile catalog limits to bytes (Rejected reason place) (verdict_for profile catalog limits to bytes) out (output_for profile catalog limits to bytes) has (streams profile catalog limits to bytes) in
      let both = by-target (resolved f to) f bytes all reason place on (sym found.0) in
      let v_is : verdict_for profile catalog limits to all ≡ Rejected reason place = ap (λ (g : Form). verdict_as profile (resolved g to) g catalog limits all) same ∙ both.0 in
      let out_is : output_for profile catalog limits to all ≡ out = ap (λ (g : Form). output_as profile (resolved g to) g catalog limits all) same ∙ both.1 ∙ sym found.1 in
      subst₂ (λ (v : Verdict) (written : List ℕ). HasVerdictWith profile catalog limits to all v written) v_is out_is (streams profile catalog limits to all)

  whole-of : (kept part next : List ℕ) (what : Stretch) → IsStretch profile catalog limits (form_of (kept ++ part)) kept part next what → what ≢ stretch.Other
      → IsWhole profile limits (form_of (kept ++ part)) (kept ++ part) next
  whole-of kept part next _ (values before own whole has count text) none = whole
  whole-of kept part next _ (marked before own whole has count is) none = whole
  whole-of kept part next _ (declared whole gives cut) none = whole
  whole-of kept part next _ (refused reason place whole stops) none = whole
  whole-of kept part next _ other none = absurd (none refl)

  pub stretch-refused : (kept part next more out : List ℕ) (reason : Reason) (place : ℕ) (what : Stretch) → IsStretch profile catalog limits (form_of (kept ++ part)) kept part next what → what ≢ stretch.Other
      → is_none_left part ≡ false → HasVerdictWith profile catalog limits to (kept ++ part) (Rejected reason place) out
      → HasVerdictWith profile catalog limits to (kept ++ ((part ++ next) ++ more)) (Rejected reason place) out
  stretch-refused kept part next more out reason place what is none some has =
      let same : (kept ++ part) ++ (next ++ more) ≡ kept ++ ((part ++ next) ++ more) =
      append_assoc kept part (next ++ more) ∙ ap (λ (xs : List ℕ). kept ++ xs) (sym (append_assoc part next more)) in
      subst (λ (all : List ℕ). HasVerdictWith profile catalog limits to all (Rejected reason place) out) same
      (whole-stands (kept ++ part) next more out reason place (some-more kept part some) (whole-of kept part next what is none) has)

pub refused-stretches-stand : StreamsAreRead → OneVerdict → WholeValuesAreCut → PartsAreRead → CutWhereOneBegins → CutAfterFirm → PartsAreTexts → UsersReadOn → UsersHangOnNoPlace → RefusedStretchesStand
refused-stretches-stand streams one whole_cut parts_read begun firm parts_texts read_on no_place profile catalog limits to kept part next more out reason place what is none some has =
    stretch-refused streams one whole_cut parts_read begun firm parts_texts read_on no_place profile catalog limits to kept part next more out reason place what is none some has
