-- A refusal of binary stands whatever follows, unless it is for the want of bytes.
use Rattle.std.proofs.Common.{◌≡◌, ℕ, false, List, [], ◌∷◌, ◌++◌, Option, Some, None, refl, sym, ap, subst₂, ◌∙◌}
use Rattle.ion_meter.specs.Rules.{rules}
use Rattle.ion_meter.specs.declared.fault.Reason.{Reason}
use Rattle.ion_meter.specs.declared.fault.Reason.TheVariants.{Truncated}
use Rattle.ion_meter.specs.declared.limits.Limits.{Limits}
use Rattle.ion_meter.specs.declared.profile.Profile.{Profile}
use Rattle.ion_value.specs.Items.{is_none_left}
use Rattle.ion_value.specs.Outcome.{Verdict, Accepted, Rejected, values_in, verdict_with, verdict_after, output_with, output_after}
use Rattle.ion_value.specs.Reading.{Reading, Finished, Step, Ends, Stops, Gives, GoesOn}
use Rattle.ion_value.specs.Value.{PlacedItem}
use Rattle.ion_symbols.specs.Table.{Shared}
use Rattle.ion_symbols.specs.Users as users
use Rattle.ion_symbols.specs.Users.{at_start, user_step, by_step}
use Rattle.ion_binary.specs.Cuts.{GoesOnAs, at_end, cut_short, refused, with_item, MoreBytesGoOn}
use Rattle.ion_transcode.specs.declared.to.Form.{Form}
use Rattle.ion_transcode.specs.declared.to.Form.TheVariants as form
use Rattle.ion_transcode.specs.declared.to.Target.{Target}
use Rattle.ion_transcode.specs.declared.to.To.{To}
use Rattle.ion_transcode.specs.ByItem.{by_item, verdict_as, output_as, verdict_for, output_for}
use Rattle.ion_transcode.specs.Forms.{form_of}
use Rattle.ion_transcode.specs.InParts.{RefusalsOfBinaryStand}
use Rattle.ion_transcode.specs.Laws.{OneVerdict, StreamsAreRead}
use Rattle.ion_transcode.specs.Outputs.{Outputs, resolved}
use Rattle.ion_transcode.specs.Verdict.{HasVerdictWith}
use Rattle.ion_transcode.proofs.CutReadings.{form-more}

-- what is binary has a first byte
pub some-bytes : (bytes : List ℕ) → form_of bytes ≡ form.Binary → is_none_left bytes ≡ false
some-bytes [] e = absurd (cc e)
some-bytes (b ∷ bytes) e = refl

-- ---- what a user is given

module _ (catalog : List Shared) (limit : ℕ) where
  step-on : (o : Step users.State) (f g : users.State → Reading) → ((t : users.State) → GoesOnAs (f t) (g t)) → GoesOnAs (by_step o f) (by_step o g)
  step-on Ends f g more = at_end Finished
  step-on (Stops reason place) f g more = refused reason place
  step-on (Gives own t) f g more = with_item own (f t) (g t) (more t)
  step-on (GoesOn t) f g more = more t

  users-on : (r s : Reading) (u : users.State) → GoesOnAs r s → GoesOnAs (users.users catalog limit u r) (users.users catalog limit u s)
  users-on _ _ u (at_end r) = at_end (users.users catalog limit u r)
  users-on _ _ u (cut_short place r) = cut_short place (users.users catalog limit u r)
  users-on _ _ u (refused reason place) = refused reason place
  users-on _ _ u (with_item item r s more) = step-on (user_step catalog limit u item) _ _ (λ t. users-on r s t more)

-- ---- the verdict

accepted-not : {A : Type 0} (n : ℕ) (r : Reason) (p : ℕ) → Accepted n ≡ Rejected r p → A
accepted-not n r p e = absurd (cc e)

reason-same : (r s : Reason) (p q : ℕ) → Rejected r p ≡ Rejected s q → s ≡ r
reason-same r s p q e = cc e

module _ (o : Outputs) (reason : Reason) (place : ℕ) (other : reason ≡ Truncated → ⊥) where
  -- the verdict and the output where more is known
  abbrev Stands : List PlacedItem → Reading → Reading → Type 0
  Stands path r s = (verdict_after o.refusal path s ≡ Rejected reason place) × (output_after o.open_output o.refusal path s ≡ output_after o.open_output o.refusal path r)

  item-stands : (why : Option (Reason × ℕ)) (path : List PlacedItem) (item : PlacedItem) (r s : Reading)
      → (verdict_after o.refusal (path ++ item ∷ []) r ≡ Rejected reason place → Stands (path ++ item ∷ []) r s)
      → verdict_with why (verdict_after o.refusal (path ++ item ∷ []) r) ≡ Rejected reason place
      → (verdict_with why (verdict_after o.refusal (path ++ item ∷ []) s) ≡ Rejected reason place)
      × (output_with why (o.open_output path) (output_after o.open_output o.refusal (path ++ item ∷ []) s) ≡ output_with why (o.open_output path) (output_after o.open_output o.refusal (path ++ item ∷ []) r))
  item-stands None path item r s more e = more e
  item-stands (Some why) path item r s more e = (e, refl)

  stands : (path : List PlacedItem) (r s : Reading) → GoesOnAs r s → verdict_after o.refusal path r ≡ Rejected reason place → Stands path r s
  stands path _ _ (at_end s) e = accepted-not (values_in [] path) reason place e
  stands path _ _ (cut_short q s) e = absurd (other (reason-same Truncated reason q place e))
  stands path _ _ (refused why q) e = (e, refl)
  stands path _ _ (with_item item r s more) e = item-stands (o.refusal path item) path item r s (λ e. stands (path ++ item ∷ []) r s more e) e

module _ (streams : StreamsAreRead) (one : OneVerdict) (goes_on : MoreBytesGoOn) (profile : Profile) (catalog : List Shared) (limits : Limits) (to : To) (bytes more out : List ℕ) (reason : Reason) (place : ℕ)
    (binary : form_of bytes ≡ form.Binary) (has : HasVerdictWith profile catalog limits to bytes (Rejected reason place) out) (other : reason ≡ Truncated → ⊥) where
  same-form : form_of (bytes ++ more) ≡ form.Binary
  same-form = form-more bytes more (some-bytes bytes binary) ∙ binary

  found : (Rejected reason place ≡ verdict_for profile catalog limits to bytes) × (out ≡ output_for profile catalog limits to bytes)
  found = one profile catalog limits to bytes (Rejected reason place) (verdict_for profile catalog limits to bytes) out (output_for profile catalog limits to bytes) has (streams profile catalog limits to bytes)

  -- for each target, and for none
  by : (t : Option Target) → verdict_as profile t form.Binary catalog limits bytes ≡ Rejected reason place
      → (verdict_as profile t form.Binary catalog limits (bytes ++ more) ≡ Rejected reason place)
      × (output_as profile t form.Binary catalog limits (bytes ++ more) ≡ output_as profile t form.Binary catalog limits bytes)
  by None e = (e, refl)
  by (Some t) e =
      stands (by_item t limits) reason place other [] _ _ (users-on catalog limits.symbols _ _ at_start (goes_on (rules limits profile) bytes more)) e

  pub stands-more : HasVerdictWith profile catalog limits to (bytes ++ more) (Rejected reason place) out
  stands-more =
      let both = by (resolved form.Binary to) (ap (λ (f : Form). verdict_as profile (resolved f to) f catalog limits bytes) (sym binary) ∙ sym found.0) in
      let v_is : verdict_for profile catalog limits to (bytes ++ more) ≡ Rejected reason place =
      ap (λ (f : Form). verdict_as profile (resolved f to) f catalog limits (bytes ++ more)) same-form ∙ both.0 in
      let out_is : output_for profile catalog limits to (bytes ++ more) ≡ out =
      ap (λ (f : Form). output_as profile (resolved f to) f catalog limits (bytes ++ more)) same-form ∙ both.1
      ∙ ap (λ (f : Form). output_as profile (resolved f to) f catalog limits bytes) (sym binary) ∙ sym found.1 in
      subst₂ (λ (v : Verdict) (out : List ℕ). HasVerdictWith profile catalog limits to (bytes ++ more) v out) v_is out_is (streams profile catalog limits to (bytes ++ more))

pub refusals-of-binary-stand : StreamsAreRead → OneVerdict → MoreBytesGoOn → RefusalsOfBinaryStand
refusals-of-binary-stand streams one goes_on profile catalog limits to bytes more out reason place binary has other =
    stands-more streams one goes_on profile catalog limits to bytes more out reason place binary has other
