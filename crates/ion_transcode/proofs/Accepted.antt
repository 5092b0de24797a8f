-- What is read to its end, and resolved, and not refused by the writer, is accepted.
use Rattle.std.proofs.Common.{◌≡◌, ℕ, List, [], ◌∷◌, ◌++◌, length, Option, None, Some, refl, ap, sym, ◌∙◌, subst₂, append_assoc, append-nil}
use Rattle.ion_meter.specs.declared.fault.Reason.{Reason}
use Rattle.ion_meter.specs.declared.limits.Limits.{Limits}
use Rattle.ion_meter.specs.declared.profile.Profile.{Profile}
use Rattle.ion_meter.specs.Rules.{rules}
use Rattle.ion_value.specs.Outcome.{Accepted, values_in, verdict_with, verdict_after, output_with, output_after}
use Rattle.ion_value.specs.Path.{closed, path_items}
use Rattle.ion_value.specs.Reading.{Finished, items_then}
use Rattle.ion_value.specs.ReadingLaws.{ArePermitted}
use Rattle.ion_value.specs.Value.{SymbolAt, UserSymbol, Top, Item, PlacedItem, top_items, user_items}
use Rattle.ion_symbols.specs.Laws.{UsersAreRead}
use Rattle.ion_symbols.specs.Resolved.{WhatIsResolvedIsAccepted}
use Rattle.ion_symbols.specs.Users.{at_start, users}
use Rattle.ion_binary.specs.Laws as binary_laws
use Rattle.ion_binary.specs.Refusals.{NoneIsRefusedWithin}
use Rattle.ion_binary.specs.Writing.{after_all, at_begin}
use Rattle.ion_binary.specs.WritingLaws.{ItemsPutTheForm}
use Rattle.ion_text_in.specs.Laws as text_laws
use Rattle.ion_text_out.specs.Laws.{EachTextIsThatOfItems}
use Rattle.ion_text_out.specs.Layout.{canonical, pretty}
use Rattle.ion_text_out.specs.Text.{items_text_by}
use Rattle.ion_transcode.specs.declared.to.Form.{Form}
use Rattle.ion_transcode.specs.declared.to.Form.TheVariants as form
use Rattle.ion_transcode.specs.declared.to.Target.{Target}
use Rattle.ion_transcode.specs.declared.to.Target.TheVariants as target
use Rattle.ion_transcode.specs.Acceptance.{PassesNoLimit, AreTaken, WhatIsReadIsAccepted, GoodStreamsAreAccepted}
use Rattle.ion_transcode.specs.ByItem.{by_item, verdict_as, output_as}
use Rattle.ion_transcode.specs.Forms.{encoding_of, form_of, reading_of}
use Rattle.ion_transcode.specs.Laws.{StreamsAreRead}
use Rattle.ion_transcode.specs.Outputs.{outputs_of, resolved}
use Rattle.ion_transcode.specs.Verdict.{HasVerdictWith}
use Rattle.ion_transcode.proofs.Counting.{values-of_tops}

-- items after others, of which a target refuses none
abbrev Free : (List PlacedItem → PlacedItem → Option (Reason × ℕ)) → List PlacedItem → List PlacedItem → Type 0
Free refusal path items = (before rest : List PlacedItem) (item : PlacedItem) → items ≡ before ++ item ∷ rest → refusal (path ++ before) item ≡ None

-- after one of them the others
free-next : (refusal : List PlacedItem → PlacedItem → Option (Reason × ℕ)) (path items : List PlacedItem) (item : PlacedItem) → Free refusal path (item ∷ items)
    → Free refusal (path ++ item ∷ []) items
free-next refusal path items item free before rest other is =
    ap (λ (l : List PlacedItem). refusal l other) (append_assoc path (item ∷ []) before)
    ∙ free (item ∷ before) rest other (ap (λ (l : List PlacedItem). item ∷ l) is)

free-first : (refusal : List PlacedItem → PlacedItem → Option (Reason × ℕ)) (path items : List PlacedItem) (item : PlacedItem) → Free refusal path (item ∷ items)
    → refusal path item ≡ None
free-first refusal path items item free = ap (λ (l : List PlacedItem). refusal l item) (sym (append-nil path)) ∙ free [] items item refl

-- so all of them are counted, and put
verdict-free : (refusal : List PlacedItem → PlacedItem → Option (Reason × ℕ)) (path items : List PlacedItem) → Free refusal path items
    → verdict_after refusal path (items_then items Finished) ≡ Accepted (values_in [] (path ++ items))
verdict-free refusal path [] free = ap (λ (l : List PlacedItem). Accepted (values_in [] l)) (sym (append-nil path))
verdict-free refusal path (item ∷ items) free =
    ap (λ why. verdict_with why (verdict_after refusal (path ++ item ∷ []) (items_then items Finished))) (free-first refusal path items item free)
    ∙ (verdict-free refusal (path ++ item ∷ []) items (free-next refusal path items item free)
    ∙ ap (λ (l : List PlacedItem). Accepted (values_in [] l)) (append_assoc path (item ∷ []) items))

output-free : (puts : List PlacedItem → List ℕ) (refusal : List PlacedItem → PlacedItem → Option (Reason × ℕ)) (path items : List PlacedItem) → Free refusal path items
    → output_after puts refusal path (items_then items Finished) ≡ puts (path ++ items)
output-free puts refusal path [] free = ap puts (sym (append-nil path))
output-free puts refusal path (item ∷ items) free =
    ap (λ why. output_with why (puts path) (output_after puts refusal (path ++ item ∷ []) (items_then items Finished))) (free-first refusal path items item free)
    ∙ (output-free puts refusal (path ++ item ∷ []) items (free-next refusal path items item free) ∙ ap puts (append_assoc path (item ∷ []) items))

some-same : (us vs : List (Top UserSymbol ℕ)) → Some us ≡ Some vs → us ≡ vs
some-same us vs e = cc e

module _ (streams : StreamsAreRead) (users_read : UsersAreRead) (taken_in : WhatIsResolvedIsAccepted) (within : NoneIsRefusedWithin) (texts : EachTextIsThatOfItems) (put : ItemsPutTheForm) where
  -- the items of whole values have their output, also item by item
  whole-output : (t : Target) (limits : Limits) (mine : List PlacedItem) (us : List (Top UserSymbol ℕ)) → user_items mine ≡ top_items us
      → (by_item t limits).open_output mine ≡ (outputs_of t limits).whole_output us
  whole-output target.Text limits mine us e = ap (λ (is : List (Item UserSymbol ℕ)). items_text_by canonical [] is) e ∙ (texts canonical).0 us
  whole-output target.Pretty limits mine us e = ap (λ (is : List (Item UserSymbol ℕ)). items_text_by pretty [] is) e ∙ (texts pretty).0 us
  whole-output target.Binary limits mine us e = ap (λ (is : List (Item UserSymbol ℕ)). (after_all limits.symbols at_begin is).octets) e ∙ put limits.symbols us
  whole-output target.Nothing limits mine us e = refl

  -- and of values that are taken none is refused
  none-refused : (t : Target) (limits : Limits) (mine : List PlacedItem) (us : List (Top UserSymbol ℕ)) → user_items mine ≡ top_items us → AreTaken t limits us
      → Free (by_item t limits).refusal [] mine
  none-refused target.Text limits mine us e taken before rest item is = refl
  none-refused target.Pretty limits mine us e taken before rest item is = refl
  none-refused target.Binary limits mine us e taken before rest item is = (within limits mine us e).1 taken before rest item is
  none-refused target.Nothing limits mine us e taken before rest item is = refl

  pub what-is-read-is-accepted : WhatIsReadIsAccepted
  what-is-read-is-accepted profile catalog limits to bytes t tops us to_is read resolved_are users_are taken =
      let f : Form = form_of bytes in
      let given = taken_in catalog limits.symbols tops resolved_are in
      let mine : List PlacedItem = given.0 in
      let values = users_read catalog limits.symbols tops mine given.1 in
      let same : values.0 ≡ us = some-same values.0 us (sym values.1 ∙ users_are) in
      let items : user_items mine ≡ top_items us = values.2 ∙ ap top_items same in
      let all : users catalog limits.symbols at_start (reading_of profile f limits bytes) ≡ items_then mine Finished = ap (users catalog limits.symbols at_start) read ∙ given.1 in
      let free : Free (by_item t limits).refusal [] mine = none-refused t limits mine us items taken in
      let v : verdict_as profile (resolved f to) f catalog limits bytes ≡ Accepted (length us) =
      ap (λ (r : Option Target). verdict_as profile r f catalog limits bytes) to_is
      ∙ (ap (verdict_after (by_item t limits).refusal []) all
      ∙ (verdict-free (by_item t limits).refusal [] mine free ∙ ap Accepted (values-of_tops mine us items)))
      in
      let out : output_as profile (resolved f to) f catalog limits bytes ≡ (outputs_of t limits).whole_output us =
      ap (λ (r : Option Target). output_as profile r f catalog limits bytes) to_is
      ∙ (ap (output_after (by_item t limits).open_output (by_item t limits).refusal []) all
      ∙ (output-free (by_item t limits).open_output (by_item t limits).refusal [] mine free ∙ whole-output t limits mine us items))
      in
      subst₂ (λ w o. HasVerdictWith profile catalog limits to bytes w o) v out (streams profile catalog limits to bytes)

-- a stream that passes no limit is read to its end
is-read : binary_laws.WithinLimitsAreRead → text_laws.WithinLimitsAreRead → (profile : Profile) (f : Form) (limits : Limits) (bytes : List ℕ)
    (tops : List (Top SymbolAt ℕ)) → (encoding_of profile f).Stream bytes tops → ArePermitted (rules limits profile) (top_items tops)
    → PassesNoLimit f (rules limits profile) bytes → reading_of profile f limits bytes ≡ items_then (path_items (closed tops)) Finished
is-read binary_read text_read profile form.Binary limits bytes tops stream permitted none =
    binary_read (rules limits profile) bytes tops stream permitted none
is-read binary_read text_read profile form.Text limits bytes tops stream permitted none =
    text_read (rules limits profile) bytes tops stream none

pub good-streams : WhatIsReadIsAccepted → binary_laws.WithinLimitsAreRead → text_laws.WithinLimitsAreRead → GoodStreamsAreAccepted
good-streams accepted binary_read text_read profile catalog limits to bytes t tops us to_is stream permitted none resolved_are users_are taken =
    accepted profile catalog limits to bytes t tops us to_is
    (is-read binary_read text_read profile (form_of bytes) limits bytes tops stream permitted none) resolved_are users_are taken
