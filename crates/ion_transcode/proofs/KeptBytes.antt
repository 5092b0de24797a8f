-- Which bytes may be kept between two parts of a stream.
use Rattle.std.proofs.Common.{◌≡◌, ℕ, ◌+◌, List, [], ◌∷◌, ◌++◌, length, Some, refl, sym, ap, subst, ◌∙◌, arith, append-nil}
use Rattle.std.proofs.lemmas.List.{length-append}
use Rattle.ion_value.specs.Further.{further}
use Rattle.ion_value.specs.Reading.{Finished, items_of, items_then}
use Rattle.ion_value.specs.Value.{UserSymbol, Top, PlacedItem, top_items, user_items}
use Rattle.ion_value.proofs.Readings.{items_of-items_then}
use Rattle.ion_symbols.specs.Laws.{UsersAreRead}
use Rattle.ion_symbols.specs.Onward.{AcceptedStreamsLeadToTheTop, LeadTo, AreAlike, declarations, UsersReadOn, UsersHangOnNoPlace, DeclarationsLeaveTheTable, TablesHangOnNoPlace, ValuesKeepTheTable}
use Rattle.ion_symbols.specs.Resolved.{WhatIsResolvedIsAccepted}
use Rattle.ion_symbols.specs.Table.{Shared, Table}
use Rattle.ion_binary.specs.Cuts.{WholeValuesAreCut, PartsAreRead}
use Rattle.ion_text_in.specs.Firm.{CutWhereOneBegins, CutAfterFirm, PartsAreTexts}
use Rattle.ion_transcode.specs.declared.to.Form.{Form}
use Rattle.ion_transcode.specs.declared.to.Form.TheVariants as form
use Rattle.ion_transcode.specs.Acceptance.{WhatIsAcceptedIsRead}
use Rattle.ion_transcode.specs.Forms.{form_of, reading_of}
use Rattle.ion_transcode.specs.InParts.{Leaves, begun_by, DeclarationsMayBeKept, WhatGivesNoneMayBeKept, WhatIsAcceptedLeavesATable, ValuesChangeNothingKept}
use Rattle.ion_transcode.proofs.CutReadings.{cut-always, reading-cut}

-- ---- declarations

none-alike : (own : List PlacedItem) → AreAlike [] own → own ≡ []
none-alike [] e = refl
none-alike (item ∷ own) e = absurd (cc e)

begun-leads : (f : Form) (catalog : List Shared) (limit : ℕ) (items : List PlacedItem) (t : Table) → LeadTo catalog limit items [] t → LeadTo catalog limit (begun_by f items) [] t
begun-leads form.Binary catalog limit items t e = e
begun-leads form.Text catalog limit items t e = e

pub declarations-may-be-kept : DeclarationsLeaveTheTable → TablesHangOnNoPlace → DeclarationsMayBeKept
declarations-may-be-kept leave no_place profile catalog limits kept before next mine others table leaves some same read cut alike =
    let first = leave catalog limits.symbols leaves.items mine table leaves.leads in
    let begun = begun-leads (form_of before) catalog limits.symbols (declarations catalog limits.symbols leaves.items) table first in
    let there = no_place catalog limits.symbols (begun_by (form_of before) (declarations catalog limits.symbols leaves.items)) others [] table alike begun in
    record {
      mine = mine;
      table = table;
      some = some;
      form = same;
      leaves = leaves;
      keeps = record { items = others; read = read; cut = cut; leads = subst (λ (own : List PlacedItem). LeadTo catalog limits.symbols others own table) (none-alike there.0 there.2) there.1 };
    }

-- ---- what gives no user value

pub what-gives-none-may-be-kept : WhatGivesNoneMayBeKept
what-gives-none-may-be-kept profile catalog limits before next table some leaves =
    record {
      mine = [];
      table = table;
      some = some;
      form = refl;
      leaves = record { items = leaves.items; read = leaves.read; cut = cut-always (form_of before) leaves.items before next leaves.cut; leads = leaves.leads };
      keeps = leaves;
    }

-- ---- user values alone

module _ (whole_cut : WholeValuesAreCut) (parts_read : PartsAreRead) (begun : CutWhereOneBegins) (firm : CutAfterFirm) (parts_texts : PartsAreTexts) (read_on : UsersReadOn) (no_place : UsersHangOnNoPlace)
    (keep : ValuesKeepTheTable) where
  pub values-change-nothing-kept : ValuesChangeNothingKept
  values-change-nothing-kept profile catalog limits kept before part next mine table stands same leaves count =
      let f : Form = form_of before in
      let first = stands.leaves in
      let ys : List PlacedItem = items_of (further (length before) (reading_of profile f limits part)) in
      let all : items_then leaves.items Finished ≡ items_then first.items (further (length before) (reading_of profile f limits part)) =
      sym leaves.read ∙ reading-cut whole_cut parts_read begun firm parts_texts read_on no_place profile f limits before part first.items first.read first.cut in
      let items_are : leaves.items ≡ first.items ++ ys =
      sym (items_of-items_then leaves.items Finished ∙ append-nil leaves.items) ∙ ap items_of all ∙ items_of-items_then first.items (further (length before) (reading_of profile f limits part)) in
      let leads : LeadTo catalog limits.symbols (first.items ++ ys) mine table = subst (λ (items : List PlacedItem). LeadTo catalog limits.symbols items mine table) items_are leaves.leads in
      let counted : length mine ≡ length stands.mine + length ys = omega (arith, count, ap length items_are, length-append first.items ys) in
      let tables : table ≡ stands.table = keep catalog limits.symbols first.items ys stands.mine mine stands.table table first.leads leads counted in
      record {
        mine = mine;
        table = stands.table;
        some = stands.some;
        form = stands.form ∙ sym same;
        leaves = subst (λ (g : Form). Leaves profile catalog limits g (before ++ part) next mine stands.table) (sym same)
            (subst (λ (t : Table). Leaves profile catalog limits f (before ++ part) next mine t) tables leaves);
        keeps = subst (λ (g : Form). Leaves profile catalog limits g kept [] [] stands.table) (sym same) stands.keeps;
      }

-- ---- what is accepted

none-mine : (mine : List PlacedItem) (us : List (Top UserSymbol ℕ)) → user_items mine ≡ top_items us → length us ≡ 0 → mine ≡ []
none-mine [] us e none = refl
none-mine (item ∷ mine) [] e none = absurd (cc e)
none-mine (item ∷ mine) (u ∷ us) e none = absurd (omega (arith, none))

pub what-is-accepted-leaves-a-table : WhatIsAcceptedIsRead → UsersAreRead → WhatIsResolvedIsAccepted → AcceptedStreamsLeadToTheTop → WhatIsAcceptedLeavesATable
what-is-accepted-leaves-a-table accepted_read users_read resolved_accepted to_top profile catalog limits to bytes out n asked is has =
    let whole = accepted_read profile catalog limits to bytes asked n out is has in
    let given = resolved_accepted catalog limits.symbols whole.tops whole.resolved_are in
    let trees = users_read catalog limits.symbols whole.tops given.0 given.1 in
    let top = to_top catalog limits.symbols whole.tops given.0 given.1 in
    let same : Some trees.0 ≡ Some whole.us = sym trees.1 ∙ whole.users_are in
    let us_are : trees.0 ≡ whole.us = cc same in (
      top_items whole.tops,
      given.0,
      top.0,
      whole.read,
      top.1,
      λ none. none-mine given.0 trees.0 trees.2 (ap length us_are ∙ sym whole.count ∙ none),
    )
