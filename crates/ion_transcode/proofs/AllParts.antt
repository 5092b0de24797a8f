-- However a stream is cut into parts, its verdict and its output are those of the whole, unless binary is written.
use Rattle.std.proofs.Common.{◌≡◌, ℕ, ◌+◌, false, List, [], ◌++◌, length, Option, Some, None, refl, sym, ap, ap₂, subst, subst₂, ◌∙◌, append_assoc, arith}
use Rattle.std.proofs.lemmas.List.{length-append}
use Rattle.ion_meter.specs.declared.fault.Reason.{Reason}
use Rattle.ion_meter.specs.declared.fault.Reason.TheVariants.{SameForm}
use Rattle.ion_meter.specs.declared.limits.Limits.{Limits}
use Rattle.ion_meter.specs.declared.profile.Profile.{Profile}
use Rattle.ion_meter.specs.Windows.{HasPrefix}
use Rattle.ion_value.specs.Further.{further}
use Rattle.ion_value.specs.Items.{is_none_left}
use Rattle.ion_value.specs.Outcome.{Verdict, Accepted, Rejected, values_in, verdict_after, output_after}
use Rattle.ion_value.specs.Reading.{Reading, Finished, Stopped, More, items_of, items_then}
use Rattle.ion_value.specs.ReadingLaws.{ending_of}
use Rattle.ion_value.specs.Value.{UserSymbol, Top, PlacedItem, top_items, user_items}
use Rattle.ion_symbols.specs.Laws.{UsersAreRead}
use Rattle.ion_symbols.specs.Onward.{at_top, UsersReadOn, UsersHangOnNoPlace}
use Rattle.ion_symbols.specs.Table.{Shared, Table}
use Rattle.ion_symbols.specs.Users.{at_start, users}
use Rattle.ion_binary.specs.Cuts.{WholeValuesAreCut, PartsAreRead}
use Rattle.ion_text_in.specs.Firm.{CutWhereOneBegins, CutAfterFirm, PartsAreTexts}
use Rattle.ion_text_out.specs.Layout.{canonical, pretty}
use Rattle.ion_transcode.specs.declared.to.Form.{Form}
use Rattle.ion_transcode.specs.declared.to.Target.{Target}
use Rattle.ion_transcode.specs.declared.to.Target.TheVariants as target
use Rattle.ion_transcode.specs.declared.to.To.{To}
use Rattle.ion_transcode.specs.Acceptance.{WhatIsAcceptedIsRead}
use Rattle.ion_transcode.specs.ByItem.{by_item, verdict_as, output_as, verdict_for, output_for}
use Rattle.ion_transcode.specs.Forms.{form_of, reading_of}
use Rattle.ion_transcode.specs.InParts.{Leaves, behind, IsTaken, InParts, last_part, one_part, PartsAreTheWhole}
use Rattle.ion_transcode.specs.Laws.{OneVerdict, StreamsAreRead}
use Rattle.ion_transcode.specs.Outputs.{Outputs, resolved}
use Rattle.ion_transcode.specs.Verdict.{HasVerdictWith}
use Rattle.ion_transcode.proofs.CutReadings.{form-more, some-more, users-whole, users-cut}
use Rattle.ion_transcode.proofs.QuietParts.{ended, IsQuiet, text-quiet, nothing-quiet, verdict-further, output-further, verdict-behind, output-behind, verdict-whole, output-whole}

-- ---- verdicts further on

accepted-is : (m n : ℕ) → Accepted m ≡ Accepted n → m ≡ n
accepted-is m n e = cc e

reason-is : (r s : Reason) (p q : ℕ) → Rejected r p ≡ Rejected s q → r ≡ s
reason-is r s p q e = cc e

place-is : (r s : Reason) (p q : ℕ) → Rejected r p ≡ Rejected s q → p ≡ q
place-is r s p q e = cc e

not-both : {A : Type 0} (n : ℕ) (r : Reason) (p : ℕ) → Accepted n ≡ Rejected r p → A
not-both n r p e = absurd (cc e)

pub behind-none : (v : Verdict) → behind 0 0 v ≡ v
behind-none (Accepted n) = let same : 0 + n ≡ n = omega arith in ap Accepted same
behind-none (Rejected reason place) = let same : place + 0 ≡ place = omega arith in ap (Rejected reason) same

-- the verdict on what follows, by what is kept, is that on the whole, by all bytes before
moved-verdict : (r : Reading) (n values kept before part all : ℕ) (v : Verdict) → all ≡ before + part → behind 0 kept v ≡ ended (ending_of (further kept r)) n
    → behind 0 before (behind values part v) ≡ ended (ending_of (further all r)) (values + n)
moved-verdict Finished n values kept before part all (Accepted m) is e =
    let same : 0 + (values + m) ≡ values + n = omega (arith, accepted-is _ _ e) in ap Accepted same
moved-verdict Finished n values kept before part all (Rejected reason place) is e = not-both n reason (place + kept) (sym e)
moved-verdict (Stopped why q) n values kept before part all (Accepted m) is e = not-both (0 + m) why (q + kept) e
moved-verdict (Stopped why q) n values kept before part all (Rejected reason place) is e =
    let same : place + part + before ≡ q + all = omega (arith, place-is reason why (place + kept) (q + kept) e, is) in
    ap₂ Rejected (reason-is reason why (place + kept) (q + kept) e) same
moved-verdict (More item r) n values kept before part all v is e = moved-verdict r n values kept before part all v is e

module _ (streams : StreamsAreRead) (one : OneVerdict) (accepted_read : WhatIsAcceptedIsRead) (users_read : UsersAreRead) (whole_cut : WholeValuesAreCut) (parts_read : PartsAreRead)
    (begun : CutWhereOneBegins) (firm : CutAfterFirm) (parts_texts : PartsAreTexts) (read_on : UsersReadOn) (no_place : UsersHangOnNoPlace)
    (profile : Profile) (catalog : List Shared) (limits : Limits) (to : To) where
  -- ---- verdicts as they are found

  abbrev pub Has : List ℕ → Verdict → List ℕ → Type 0
  Has bytes v out = HasVerdictWith profile catalog limits to bytes v out

  found : (bytes : List ℕ) (v : Verdict) (out : List ℕ) → Has bytes v out → (v ≡ verdict_for profile catalog limits to bytes) × (out ≡ output_for profile catalog limits to bytes)
  found bytes v out has = one profile catalog limits to bytes v (verdict_for profile catalog limits to bytes) out (output_for profile catalog limits to bytes) has (streams profile catalog limits to bytes)

  given : (bytes : List ℕ) (v : Verdict) (out : List ℕ) → v ≡ verdict_for profile catalog limits to bytes → out ≡ output_for profile catalog limits to bytes → Has bytes v out
  given bytes v out e f = subst₂ (λ (v : Verdict) (out : List ℕ). Has bytes v out) (sym e) (sym f) (streams profile catalog limits to bytes)

  abbrev verdict_by : Option Target → Form → List ℕ → Verdict
  verdict_by r f bytes = verdict_as profile r f catalog limits bytes

  abbrev output_by : Option Target → Form → List ℕ → List ℕ
  output_by r f bytes = output_as profile r f catalog limits bytes

  -- ---- one part

  -- the user items of an accepted stream are those of whole values
  whole-values : (bytes next : List ℕ) (t : Target) (n : ℕ) (out : List ℕ) (mine : List PlacedItem) (table : Table) → resolved (form_of bytes) to ≡ Some t → Has bytes (Accepted n) out
      → Leaves profile catalog limits (form_of bytes) bytes next mine table → (us : List (Top UserSymbol ℕ)) × (user_items mine ≡ top_items us)
  whole-values bytes next t n out mine table is has leaves =
      let read = accepted_read profile catalog limits to bytes t n out is has in
      let same : users catalog limits.symbols at_start (items_then (top_items read.tops) Finished) ≡ items_then mine Finished =
      ap (users catalog limits.symbols at_start) (sym read.read)
      ∙ users-whole whole_cut parts_read begun firm parts_texts read_on no_place profile catalog limits (form_of bytes) bytes next mine table leaves in
      let trees = users_read catalog limits.symbols read.tops mine same in
      (trees.0, trees.2)

  module _ (kept part next then_kept bytes out more : List ℕ) (values : ℕ) (v : Verdict) (taken : IsTaken profile catalog limits to kept part next values out then_kept) (prefix : HasPrefix bytes next) where
    abbrev pub before : List ℕ
    before = kept ++ part

    abbrev pub f : Form
    f = form_of before

    abbrev mine : List PlacedItem
    mine = taken.stands.mine

    -- what a user is given of what follows, as from its beginning
    abbrev rest : Reading
    rest = users catalog limits.symbols (at_top taken.stands.table) (reading_of profile f limits bytes)

    some-before : is_none_left before ≡ false
    some-before = some-more kept part taken.some

    pub form-whole : form_of (before ++ bytes) ≡ f
    form-whole = form-more before bytes some-before

    pub form-kept : form_of (then_kept ++ bytes) ≡ f
    form-kept = form-more then_kept bytes taken.stands.some ∙ taken.stands.form

    users-all : users catalog limits.symbols at_start (reading_of profile f limits (before ++ bytes)) ≡ items_then mine (further (length before) rest)
    users-all = users-cut whole_cut parts_read begun firm parts_texts read_on no_place profile catalog limits f before next mine taken.stands.table taken.stands.leaves bytes prefix

    users-kept : users catalog limits.symbols at_start (reading_of profile f limits (then_kept ++ bytes)) ≡ further (length then_kept) rest
    users-kept = users-cut whole_cut parts_read begun firm parts_texts read_on no_place profile catalog limits f then_kept [] [] taken.stands.table taken.stands.keeps bytes (bytes, refl)

    users-before : users catalog limits.symbols at_start (reading_of profile f limits before) ≡ items_then mine Finished
    users-before = users-whole whole_cut parts_read begun firm parts_texts read_on no_place profile catalog limits f before next mine taken.stands.table taken.stands.leaves

    -- where the target refuses nothing
    quiet-part : (t : Target) → resolved f to ≡ Some t → IsQuiet (by_item t limits) → Has (then_kept ++ bytes) (behind 0 (length then_kept) v) more
        → Has (before ++ bytes) (behind 0 (length kept) (behind values (length part) v)) (out ++ more)
    quiet-part t is quiet has =
        let o : Outputs = by_item t limits in
        let us = whole-values before next t values out mine taken.stands.table is taken.accepted taken.stands.leaves in
        let n : ℕ = values_in [] (items_of rest) in
        -- the part
        let first = found before (Accepted values) out taken.accepted in
        let values_are : values ≡ values_in [] mine =
        accepted-is values (values_in [] mine)
        (first.0 ∙ ap (λ (r : Option Target). verdict_by r f before) is ∙ ap (verdict_after o.refusal []) users-before ∙ verdict-whole o quiet mine) in
        let out_is : out ≡ o.open_output mine =
        first.1 ∙ ap (λ (r : Option Target). output_by r f before) is ∙ ap (output_after o.open_output o.refusal []) users-before ∙ output-whole o quiet mine in
        -- what follows, behind what is kept
        let others = found (then_kept ++ bytes) (behind 0 (length then_kept) v) more has in
        let v_is : behind 0 (length then_kept) v ≡ ended (ending_of (further (length then_kept) rest)) n =
        others.0 ∙ ap (λ (g : Form). verdict_by (resolved g to) g (then_kept ++ bytes)) form-kept ∙ ap (λ (r : Option Target). verdict_by r f (then_kept ++ bytes)) is
        ∙ ap (verdict_after o.refusal []) users-kept ∙ verdict-further o quiet (length then_kept) rest in
        let more_is : more ≡ o.open_output (items_of rest) =
        others.1 ∙ ap (λ (g : Form). output_by (resolved g to) g (then_kept ++ bytes)) form-kept ∙ ap (λ (r : Option Target). output_by r f (then_kept ++ bytes)) is
        ∙ ap (output_after o.open_output o.refusal []) users-kept ∙ output-further o quiet (length then_kept) rest in
        -- the whole
        let whole_v : ended (ending_of (further (length before) rest)) (values + n) ≡ verdict_for profile catalog limits to (before ++ bytes) =
        sym (ap (λ (g : Form). verdict_by (resolved g to) g (before ++ bytes)) form-whole ∙ ap (λ (r : Option Target). verdict_by r f (before ++ bytes)) is
        ∙ ap (verdict_after o.refusal []) users-all ∙ verdict-behind o quiet mine us.0 us.1 (length before) rest
        ∙ ap (λ (m : ℕ). ended (ending_of (further (length before) rest)) (m + n)) (sym values_are)) in
        let whole_out : out ++ more ≡ output_for profile catalog limits to (before ++ bytes) =
        ap₂ (λ (xs ys : List ℕ). xs ++ ys) out_is more_is
        ∙ sym (ap (λ (g : Form). output_by (resolved g to) g (before ++ bytes)) form-whole ∙ ap (λ (r : Option Target). output_by r f (before ++ bytes)) is
        ∙ ap (output_after o.open_output o.refusal []) users-all ∙ output-behind o quiet mine us.0 us.1 (length before) rest) in
        given (before ++ bytes) (behind 0 (length kept) (behind values (length part) v)) (out ++ more)
        (moved-verdict rest n values (length then_kept) (length kept) (length part) (length before) v (length-append kept part) v_is ∙ whole_v) whole_out

    -- whatever the target is, but binary
    part-of : (r : Option Target) → resolved f to ≡ r → (resolved f to ≡ Some target.Binary → ⊥) → Has (then_kept ++ bytes) (behind 0 (length then_kept) v) more
        → Has (before ++ bytes) (behind 0 (length kept) (behind values (length part) v)) (out ++ more)
    part-of None is no_binary has =
        let first = found before (Accepted values) out taken.accepted in
        not-both values SameForm 0 (first.0 ∙ ap (λ (r : Option Target). verdict_by r f before) is)
    part-of (Some target.Text) is no_binary has = quiet-part target.Text is (text-quiet canonical) has
    part-of (Some target.Pretty) is no_binary has = quiet-part target.Pretty is (text-quiet pretty) has
    part-of (Some target.Nothing) is no_binary has = quiet-part target.Nothing is nothing-quiet has
    part-of (Some target.Binary) is no_binary has = absurd (no_binary is)

    pub part-joins : (resolved (form_of (kept ++ (part ++ bytes))) to ≡ Some target.Binary → ⊥)
        → ((resolved (form_of (then_kept ++ bytes)) to ≡ Some target.Binary → ⊥) → Has (then_kept ++ bytes) (behind 0 (length then_kept) v) more)
        → Has (kept ++ (part ++ bytes)) (behind 0 (length kept) (behind values (length part) v)) (out ++ more)
    part-joins no_binary has =
        let same : kept ++ (part ++ bytes) ≡ before ++ bytes = sym (append_assoc kept part bytes) in
        let here : resolved f to ≡ Some target.Binary → ⊥ = λ e. no_binary (ap (λ (all : List ℕ). resolved (form_of all) to) same ∙ ap (λ (g : Form). resolved g to) form-whole ∙ e) in
        let there : resolved (form_of (then_kept ++ bytes)) to ≡ Some target.Binary → ⊥ = λ e. here (sym (ap (λ (g : Form). resolved g to) form-kept) ∙ e) in
        subst (λ (all : List ℕ). Has all (behind 0 (length kept) (behind values (length part) v)) (out ++ more)) (sym same) (part-of (resolved f to) refl here (has there))

  -- ---- all parts

  all-parts : (kept bytes : List ℕ) (v : Verdict) (out : List ℕ) → InParts profile catalog limits to kept bytes v out → (resolved (form_of (kept ++ bytes)) to ≡ Some target.Binary → ⊥)
      → Has (kept ++ bytes) (behind 0 (length kept) v) out
  all-parts _ _ _ _ (last_part kept bytes v out has) no_binary = has
  all-parts _ _ _ _ (one_part kept part next then_kept bytes out more values v taken prefix others) no_binary =
      part-joins kept part next then_kept bytes out more values v taken prefix no_binary (λ no. all-parts then_kept bytes v more others no)

  pub parts-of : (bytes out : List ℕ) (v : Verdict) → (resolved (form_of bytes) to ≡ Some target.Binary → ⊥) → InParts profile catalog limits to [] bytes v out → Has bytes v out
  parts-of bytes out v no_binary parts = subst (λ (v : Verdict). Has bytes v out) (behind-none v) (all-parts [] bytes v out parts no_binary)

pub parts-are-the-whole : StreamsAreRead → OneVerdict → WhatIsAcceptedIsRead → UsersAreRead → WholeValuesAreCut → PartsAreRead → CutWhereOneBegins → CutAfterFirm → PartsAreTexts → UsersReadOn → UsersHangOnNoPlace
    → PartsAreTheWhole
parts-are-the-whole streams one accepted_read users_read whole_cut parts_read begun firm parts_texts read_on no_place profile catalog limits to bytes out v no_binary parts =
    parts-of streams one accepted_read users_read whole_cut parts_read begun firm parts_texts read_on no_place profile catalog limits to bytes out v no_binary parts
