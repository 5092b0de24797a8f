-- What was written of the user values of a stream is read again as these values, and runs over it give the same.
use Rattle.std.proofs.Common.{◌≡◌, ℕ, List, [], ◌∷◌, length, map, Option, Some, suc, refl, ap, sym, ◌∙◌, subst}
use Rattle.ion_meter.specs.declared.limits.Limits.{Limits}
use Rattle.ion_meter.specs.declared.profile.Profile.{Profile}
use Rattle.ion_value.specs.Outcome.{Accepted}
use Rattle.ion_value.specs.Path.{closed, path_items}
use Rattle.ion_value.specs.Reading.{Finished, items_then}
use Rattle.ion_value.specs.Value.{SymbolAt, UserSymbol, Top, unplaced_top}
use Rattle.ion_value.specs.Writable.{AreBytes}
use Rattle.ion_symbols.specs.Resolved.{AreResolved}
use Rattle.ion_symbols.specs.Table.{Shared, system}
use Rattle.ion_symbols.specs.Tree.{user_tops}
use Rattle.ion_symbols.specs.UserValues.{AreUsers, CatalogIsText, UsersOfRawValues}
use Rattle.ion_binary.specs.Canonical.{binary}
use Rattle.ion_binary.specs.Laws as binary_laws
use Rattle.ion_binary.specs.Spelling.{TheFormIsRead, WhatIsWithinIsShort}
use Rattle.ion_text_in.specs.Laws as text_laws
use Rattle.ion_text_out.specs.Laws.{AreLayouts}
use Rattle.ion_text_out.specs.Layout.{Layout, IsLayout, canonical}
use Rattle.ion_text_out.specs.Text.{text_by}
use Rattle.ion_transcode.specs.declared.to.Form.{Form}
use Rattle.ion_transcode.specs.declared.to.Form.TheVariants as form
use Rattle.ion_transcode.specs.declared.to.Target.{Target}
use Rattle.ion_transcode.specs.declared.to.Target.TheVariants as target
use Rattle.ion_transcode.specs.declared.to.To.{To}
use Rattle.ion_transcode.specs.declared.to.To.TheVariants as to
use Rattle.ion_transcode.specs.Acceptance.{AreTaken, WhatIsReadIsAccepted, WhatIsAcceptedIsRead}
use Rattle.ion_transcode.specs.Forms.{encoding_of, form_of, reading_of}
use Rattle.ion_transcode.specs.Laws.{OneSpelling}
use Rattle.ion_transcode.specs.Outputs.{outputs_of, resolved}
use Rattle.ion_transcode.specs.Verdict.{HasVerdictWith}
use Rattle.ion_transcode.specs.RoundTrip.{ValuesOfStreams, EachTextIsRead, TextIsRead, LayoutsAreAlike, RoundTrip, IsTextBy, IsShown, LayoutsAreShownAlike, ShowOnce, ThereAndBack}
use Rattle.ion_transcode.proofs.TextWithoutPlaces.{same-text-by}

-- ---- values of streams

-- by what is true of them before their ids are resolved, and of text whatever its bytes are
pub users-of : UsersOfRawValues → binary_laws.StreamsAreRaw → text_laws.StreamsAreRaw → (profile : Profile) (f : Form) (catalog : List Shared)
    (bytes : List ℕ) (tops : List (Top SymbolAt ℕ)) (us : List (Top UserSymbol ℕ)) → (f ≡ form.Binary → AreBytes bytes) → CatalogIsText catalog
    → (encoding_of profile f).Stream bytes tops → user_tops catalog system tops ≡ Some us → AreUsers us
users-of users binary_raw text_raw profile form.Binary catalog bytes tops us small texts stream are =
    users catalog tops us texts (binary_raw bytes tops (small refl) stream) are
users-of users binary_raw text_raw profile form.Text catalog bytes tops us small texts stream are =
    users catalog tops us texts (text_raw bytes tops stream) are

pub values-of-streams : UsersOfRawValues → binary_laws.StreamsAreRaw → text_laws.StreamsAreRaw → ValuesOfStreams
values-of-streams users binary_raw text_raw profile f catalog bytes tops us small texts stream are =
    users-of users binary_raw text_raw profile f catalog bytes tops us (λ e. small) texts stream are

pub round-trip : ValuesOfStreams → TextIsRead → TheFormIsRead → RoundTrip
round-trip values is_text is_binary profile f catalog other limit bytes tops us small texts stream users =
    let are : AreUsers us = values profile f catalog bytes tops us small texts stream users in
    (is_text other us are, λ short. is_binary other limit us are.0 short)

-- ---- what is read of them again

length-unplaced : (us : List (Top UserSymbol ℕ)) → length (map unplaced_top us) ≡ length us
length-unplaced [] = refl
length-unplaced (u ∷ us) = ap (λ n. suc n) (length-unplaced us)

pub same-length : (us vs : List (Top UserSymbol ℕ)) → map unplaced_top us ≡ map unplaced_top vs → length us ≡ length vs
same-length us vs e = sym (length-unplaced us) ∙ (ap length e ∙ length-unplaced vs)

pub some-same : (us vs : List (Top UserSymbol ℕ)) → ◌≡◌ {A = Option (List (Top UserSymbol ℕ))} (Some us) (Some vs) → us ≡ vs
some-same us vs e = cc e

pub layouts-are-alike : EachTextIsRead → text_laws.OneStream → LayoutsAreAlike
layouts-are-alike each one layout other is catalog us again tops users stream are =
    let r = each layout is catalog us users in
    let spelled : r.raw ≡ tops = one (text_by layout us) r.raw tops r.stream stream in
    let found : r.users ≡ again = some-same r.users again (sym r.users_are ∙ (ap (user_tops catalog system) spelled ∙ are)) in
    let same : map unplaced_top again ≡ map unplaced_top us = ap (map unplaced_top) (sym found) ∙ r.same in
    (same-text-by other again us same, same-length again us same)

-- ---- what is shown of a stream whose user values are known

-- the same bytes are one stream at most
abbrev IsOne : Profile → Form → List ℕ → Type 0
IsOne profile f bytes = (a b : List (Top SymbolAt ℕ)) → (encoding_of profile f).Stream bytes a → (encoding_of profile f).Stream bytes b → a ≡ b

pub text-output : {layout : Layout} {t : Target} → IsTextBy layout t → (limits : Limits) (us : List (Top UserSymbol ℕ))
    → (outputs_of t limits).whole_output us ≡ text_by layout us
text-output IsTextBy.canonical_text limits us = refl
text-output IsTextBy.pretty_text limits us = refl

-- where these are the same as others but for their places, the text of the others is shown
shows-text : WhatIsAcceptedIsRead → {layout : Layout} {t : Target} → IsTextBy layout t → (profile : Profile) (f : Form) (catalog : List Shared)
    (limits : Limits) (asked : To) (bytes out : List ℕ) (n : ℕ) (raw : List (Top SymbolAt ℕ)) (users us : List (Top UserSymbol ℕ))
    → IsOne profile f bytes → form_of bytes ≡ f → (encoding_of profile f).Stream bytes raw → user_tops catalog system raw ≡ Some users
    → map unplaced_top users ≡ map unplaced_top us → resolved (form_of bytes) asked ≡ Some t
    → HasVerdictWith profile catalog limits asked bytes (Accepted n) out → (out ≡ text_by layout us) × (n ≡ length us)
shows-text is_read {layout} {t} by profile f catalog limits asked bytes out n raw users us one is stream are same to_is verdict =
    let a = is_read profile catalog limits asked bytes t n out to_is verdict in
    let spelled : (encoding_of profile f).Stream bytes a.tops = subst (λ (g : Form). (encoding_of profile g).Stream bytes a.tops) is a.stream in
    let tops : a.tops ≡ raw = one a.tops raw spelled stream in
    let found : a.us ≡ users = some-same a.us users (sym a.users_are ∙ (ap (user_tops catalog system) tops ∙ are)) in
    let all : map unplaced_top a.us ≡ map unplaced_top us = ap (map unplaced_top) found ∙ same in
    (a.output ∙ (text-output by limits a.us ∙ same-text-by layout a.us us all), a.count ∙ same-length a.us us all)

-- ---- what is read to its end is shown

pub text-taken : {layout : Layout} {t : Target} → IsTextBy layout t → (limits : Limits) (us : List (Top UserSymbol ℕ)) → AreTaken t limits us
text-taken IsTextBy.canonical_text limits us = tt
text-taken IsTextBy.pretty_text limits us = tt

-- a stream of a form that is read to its end under limits, and whose user values are these, so many, in all but their places
pub record IsReadAs (profile : Profile) (f : Form) (catalog : List Shared) (limits : Limits) (bytes : List ℕ) (us : List (Top UserSymbol ℕ)) (n : ℕ) : Type 0 where
  pub raw : List (Top SymbolAt ℕ)
  pub users : List (Top UserSymbol ℕ)
  pub form : form_of bytes ≡ f
  pub read : reading_of profile f limits bytes ≡ items_then (path_items (closed raw)) Finished
  pub resolved : AreResolved catalog limits.symbols system raw
  pub users_are : user_tops catalog system raw ≡ Some users
  pub same : map unplaced_top users ≡ map unplaced_top us
  pub count : n ≡ length us

module _ (accepted : WhatIsReadIsAccepted) (profile : Profile) (f : Form) (catalog : List Shared) (limits : Limits) (bytes : List ℕ) (us : List (Top UserSymbol ℕ)) (n : ℕ)
    (r : IsReadAs profile f catalog limits bytes us n) where
  verdict-as : (asked : To) (t : Target) → resolved f asked ≡ Some t → AreTaken t limits r.users
      → HasVerdictWith profile catalog limits asked bytes (Accepted n) ((outputs_of t limits).whole_output r.users)
  verdict-as asked t to taken =
      let to_is = ap (λ (g : Form). resolved g asked) r.form ∙ to in
      let read : reading_of profile (form_of bytes) limits bytes ≡ items_then (path_items (closed r.raw)) Finished =
      ap (λ (g : Form). reading_of profile g limits bytes) r.form ∙ r.read in
      subst (λ (m : ℕ). HasVerdictWith profile catalog limits asked bytes (Accepted m) ((outputs_of t limits).whole_output r.users))
      (same-length r.users us r.same ∙ sym r.count)
      (accepted profile catalog limits asked bytes t r.raw r.users to_is read r.resolved r.users_are taken)

  pub is-shown : IsShown profile catalog limits f bytes n us
  is-shown t layout asked by to =
      subst (λ (out : List ℕ). HasVerdictWith profile catalog limits asked bytes (Accepted n) out)
      (text-output by limits r.users ∙ same-text-by layout r.users us r.same) (verdict-as asked t to (text-taken by limits r.users))

  pub is-checked : resolved f to.Nothing ≡ Some target.Nothing → HasVerdictWith profile catalog limits to.Nothing bytes (Accepted n) []
  is-checked e = verdict-as to.Nothing target.Nothing e tt

-- ---- runs over what was shown

pub text-laid : {layout : Layout} {t : Target} → AreLayouts → IsTextBy layout t → IsLayout layout
text-laid are IsTextBy.canonical_text = are.0
text-laid are IsTextBy.pretty_text = are.1

pub layouts-are-shown-alike : WhatIsAcceptedIsRead → ValuesOfStreams → EachTextIsRead → AreLayouts → OneSpelling → text_laws.OneStream
    → LayoutsAreShownAlike
layouts-are-shown-alike is_read values each laid one one_text profile next catalog known limits wide asked back bytes shown again n m first second
    layout other by by_other small texts to_is verdict to_text verdict_again =
    let f : Form = form_of bytes in
    let a = is_read profile catalog limits asked bytes first n shown to_is verdict in
    let r = each layout (text-laid laid by) known a.us (values profile f catalog bytes a.tops a.us small texts a.stream a.users_are) in
    let t : List ℕ = text_by layout a.us in
    let output : shown ≡ t = a.output ∙ text-output by limits a.us in
    let moved = subst (λ (xs : List ℕ). HasVerdictWith next known wide back xs (Accepted m) again) output verdict_again in
    let moved_to = subst (λ (xs : List ℕ). resolved (form_of xs) back ≡ Some second) output to_text in
    let b = shows-text is_read by_other next form.Text known wide back t again m r.raw r.users a.us (one_text t) r.form r.stream r.users_are
    r.same moved_to moved in
    let direct = λ (u : Target) (asks : To) (most : Limits) (out : List ℕ) (k : ℕ) (is : IsTextBy other u) (to : resolved f asks ≡ Some u)
    (v : HasVerdictWith profile catalog most asks bytes (Accepted k) out).
    shows-text is_read is profile f catalog most asks bytes out k a.tops a.us a.us ((one profile f).stream bytes) refl a.stream a.users_are
    refl to v in
    record {
      tops = a.tops;
      us = a.us;
      stream = a.stream;
      users_are = a.users_are;
      output = output;
      output_again = b.0;
      count = b.1 ∙ sym a.count;
      directly = λ u asks most out k is to v.
          ((direct u asks most out k is to v).0 ∙ sym b.0, (direct u asks most out k is to v).1 ∙ sym a.count);
    }

-- each form can be shown
shown-as : (f : Form) → resolved f to.Text ≡ Some target.Text
shown-as form.Text = refl
shown-as form.Binary = refl

pub show-once : LayoutsAreShownAlike → ShowOnce
show-once alike profile next catalog other limits wide asked bytes shown again n m small texts to_is first second =
    let r = alike profile next catalog other limits wide asked to.Text bytes shown again n m target.Text target.Text canonical canonical
    IsTextBy.canonical_text IsTextBy.canonical_text small texts to_is first (shown-as (form_of shown)) second in
    (r.output_again ∙ sym r.output, r.count)

-- what bytes spell does not look at the profile
same-stream : (profile next : Profile) (f : Form) (bytes : List ℕ) (tops : List (Top SymbolAt ℕ)) → (encoding_of profile f).Stream bytes tops
    → (encoding_of next f).Stream bytes tops
same-stream profile next form.Text bytes tops stream = stream
same-stream profile next form.Binary bytes tops stream = stream

pub there-and-back : WhatIsAcceptedIsRead → WhatIsReadIsAccepted → UsersOfRawValues → binary_laws.StreamsAreRaw → text_laws.StreamsAreRaw
    → TheFormIsRead → WhatIsWithinIsShort → OneSpelling → ThereAndBack
there-and-back is_read accepted values binary_raw text_raw is_binary short one profile next catalog other limits wide asked back_as bytes written
    back n m t layout by texts checked small to_is first to_text second =
    let w = is_read profile catalog limits asked bytes target.Binary n written to_is first in
    let us : List (Top UserSymbol ℕ) = w.us in
    let f : Form = form_of bytes in
    let are : AreUsers us = users-of values binary_raw text_raw profile f catalog bytes w.tops us small texts w.stream w.users_are in
    let r = is_binary other limits.symbols us are.0 (short limits us checked w.taken) in
    let octets : List ℕ = binary limits.symbols us in
    let of_form : form_of octets ≡ form.Binary = ap form_of r.stream.begins.1 in
    let moved = subst (λ (xs : List ℕ). HasVerdictWith next other wide back_as xs (Accepted m) back) w.output second in
    let moved_to = subst (λ (xs : List ℕ). resolved (form_of xs) back_as ≡ Some t) w.output to_text in
    let b = shows-text is_read by next form.Binary other wide back_as octets back m r.raw r.users us ((one next form.Binary).stream octets) of_form
    r.stream r.users_are r.same moved_to moved in
    let here : IsReadAs profile f catalog limits bytes us n = record {
      raw = w.tops;
      users = us;
      form = refl;
      read = w.read;
      resolved = w.resolved_are;
      users_are = w.users_are;
      same = refl;
      count = w.count;
    } in
    let alike = λ (any : Profile) (most : Limits) (u : Target) (asks : To) (out : List ℕ) (k : ℕ) (is : IsTextBy layout u)
    (to : resolved f asks ≡ Some u) (v : HasVerdictWith any catalog most asks bytes (Accepted k) out).
    shows-text is_read is any f catalog most asks bytes out k w.tops us us ((one any f).stream bytes) refl
    (same-stream profile any f bytes w.tops w.stream) w.users_are refl to v in
    record {
      tops = w.tops;
      us = us;
      stream = w.stream;
      users_are = w.users_are;
      output = b.0;
      count = b.1 ∙ sym w.count;
      shown = is-shown accepted profile f catalog limits bytes us n here;
      shown_by = λ any most u asks out k is to v.
          ((alike any most u asks out k is to v).0 ∙ sym b.0, (alike any most u asks out k is to v).1 ∙ sym w.count);
    }
