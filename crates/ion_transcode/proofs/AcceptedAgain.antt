-- What was shown is accepted, where its values fit the limits, and shows the same.
use Rattle.std.proofs.Common.{◌≡◌, ℕ, List, length, refl, ap, sym, ◌∙◌, subst}
use Rattle.std.specs.List.{AllByRecursion}
use Rattle.ion_value.specs.Outcome.{Accepted}
use Rattle.ion_value.specs.Value.{UserSymbol, Top}
use Rattle.ion_symbols.specs.Table.{system}
use Rattle.ion_symbols.specs.Tree.{user_tops}
use Rattle.ion_symbols.specs.UserValues.{AreUsers}
use Rattle.ion_text_out.specs.Laws.{AreLayouts}
use Rattle.ion_text_out.specs.Layout.{canonical}
use Rattle.ion_text_out.specs.Text.{text_by}
use Rattle.ion_transcode.specs.declared.to.Form.{Form}
use Rattle.ion_transcode.specs.declared.to.Form.TheVariants as form
use Rattle.ion_transcode.specs.declared.to.Target.TheVariants as target
use Rattle.ion_transcode.specs.declared.to.To.TheVariants as to
use Rattle.ion_transcode.specs.Acceptance.{WhatIsReadIsAccepted, WhatIsAcceptedIsRead}
use Rattle.ion_transcode.specs.Depth.{IsNoDeeper, WhatIsReadIsNoDeeper}
use Rattle.ion_transcode.specs.Forms.{form_of}
use Rattle.ion_transcode.specs.Laws.{OneSpelling}
use Rattle.ion_transcode.specs.RoundTrip.{ValuesOfStreams, IsTextBy}
use Rattle.ion_transcode.specs.ShownAgain.{EachTextIsReadWithin, EachShownTextIsAccepted, WhatIsShownIsAccepted}
use Rattle.ion_transcode.specs.Verdict.{HasVerdictWith}
use Rattle.ion_transcode.proofs.NoDeeper.{no_deeper-wide}
use Rattle.ion_transcode.proofs.ReadAgain.{some-same, text-output, text-laid, IsReadAs, is-shown, is-checked}

pub each-shown-text-is-accepted : WhatIsAcceptedIsRead → OneSpelling → ValuesOfStreams → WhatIsReadIsNoDeeper → EachTextIsReadWithin
    → AreLayouts → WhatIsReadIsAccepted → EachShownTextIsAccepted
each-shown-text-is-accepted is_read one values shallow within laid accepted profile next catalog other limits wide asked bytes shown n tops us
    t layout by small texts to_is verdict stream are least deeper fits =
    let f : Form = form_of bytes in
    let a = is_read profile catalog limits asked bytes t n shown to_is verdict in
    let same : a.tops ≡ tops = (one profile f).stream bytes a.tops tops a.stream stream in
    let found : a.us ≡ us = some-same a.us us (sym a.users_are ∙ (ap (user_tops catalog system) same ∙ are)) in
    let users : AreUsers us = values profile f catalog bytes tops us small texts stream are in
    let output : text_by layout us ≡ shown = sym (a.output ∙ (text-output by limits a.us ∙ ap (text_by layout) found)) in
    let count : length us ≡ n = sym (a.count ∙ ap (λ (vs : List (Top UserSymbol ℕ)). length vs) found) in
    let below = (shallow profile f catalog limits bytes a.tops a.us a.read a.users_are).1 in
    let deep = subst (λ (vs : List (Top UserSymbol ℕ)). AllByRecursion (IsNoDeeper limits.depth) vs) found below in
    let wide_deep = no_deeper-wide limits.depth wide.depth us deeper deep in
    let r = within layout (text-laid laid by) next other wide us least users wide_deep fits in
    let back : IsReadAs next form.Text other wide (text_by layout us) us n = record {
      raw = r.raw;
      users = r.users;
      form = r.form;
      read = r.read;
      resolved = r.resolved;
      users_are = r.users_are;
      same = r.same;
      count = sym count;
    } in
    let read = subst (λ (xs : List ℕ). IsReadAs next form.Text other wide xs us n) output back in
    record {
      output = sym output;
      as_text = is-shown accepted next form.Text other wide shown us n read;
      as_nothing = is-checked accepted next form.Text other wide shown us n read refl;
    }

pub what-is-shown-is-accepted : EachShownTextIsAccepted → WhatIsShownIsAccepted
what-is-shown-is-accepted each profile next catalog other limits wide asked bytes shown n tops us small texts to_is verdict stream are least
    deeper fits =
    let r = each profile next catalog other limits wide asked bytes shown n tops us target.Text canonical IsTextBy.canonical_text small texts
    to_is verdict stream are least deeper fits in
    let again = r.as_text target.Text canonical to.Text IsTextBy.canonical_text refl in
    (subst (λ (xs : List ℕ). HasVerdictWith next other wide to.Text shown (Accepted n) xs) (sym r.output) again, r.as_nothing)
