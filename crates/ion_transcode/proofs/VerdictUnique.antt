-- A stream has one verdict and one output: those of its reading. For any encoding and any target.
use Rattle.std.proofs.Common.{◌≡◌, ℕ, suc, ◌+◌, List, [], ◌∷◌, ◌++◌, length, Some, refl, ap, sym, ◌∙◌, arith, add_comm, subst}
use Rattle.ion_meter.specs.declared.fault.Reason.{Reason}
use Rattle.ion_meter.specs.declared.limits.Limits.{Limits}
use Rattle.ion_value.specs.Value.{UserSymbol, Top, PlacedItem, top_items}
use Rattle.ion_value.specs.Path.{path_items}
use Rattle.ion_value.specs.Reading.{Reading, Finished, Stopped, More, items_then, Step, Ends, Stops, Gives, GoesOn}
use Rattle.ion_value.specs.Outcome.{Verdict, Accepted, Rejected, verdict_with, output_with}
use Rattle.ion_symbols.specs.Table.{Shared}
use Rattle.ion_symbols.specs.Users as users
use Rattle.ion_symbols.specs.Users.{at_start, user_step}
use Rattle.ion_symbols.specs.Laws.{UsersAreRead}
use Rattle.ion_transcode.specs.Encoding.{Encoding}
use Rattle.ion_transcode.specs.Outputs.{Outputs, Agrees}
use Rattle.ion_transcode.specs.Verdict.{HasVerdictFrom, whole, refused, step_fault}
use Rattle.ion_transcode.proofs.Counting.{values-of_tops}
use Rattle.ion_transcode.proofs.Faultless.{user_in, user-step, item-step, verdict_on, output_on, Prefixes, faultless-prefixes, faultless-tops}

-- one list of user values
same_some : (us ws : List (Top UserSymbol ℕ)) → Some us ≡ Some ws → us ≡ ws
same_some us ws e = cc e

module _ (users_read : UsersAreRead) (e : Encoding) (target : Outputs) (agrees : Agrees target) (catalog : List Shared) (limits : Limits) (bytes : List ℕ) where
  -- the verdict and the output after n steps
  abbrev pub AreAt : Verdict → List ℕ → ℕ → Type 0
  AreAt v out n =
      (v ≡ verdict_on e target catalog limits [] (user_in e target catalog limits n (e.start bytes) at_start))
      × (out ≡ output_on e target catalog limits [] (user_in e target catalog limits n (e.start bytes) at_start))

  -- from some number of steps on these are the verdict and the output
  abbrev pub AreFrom : Verdict → List ℕ → Type 0
  AreFrom v out = (k : ℕ) × ((m : ℕ) → AreAt v out (k + m))

  -- the same with the items in front known, and how the step after them ends
  prefix-are : (items : List PlacedItem) (s : e.State) (u : users.State) (mine : List PlacedItem)
      → Prefixes e target catalog limits bytes items s u mine → (r : ℕ → Reading) → ((m : ℕ) → user_in e target catalog limits (suc m) s u ≡ r m)
      → (v : Verdict) (out : List ℕ)
      → ((m : ℕ) → v ≡ verdict_on e target catalog limits mine (r m)) → ((m : ℕ) → out ≡ output_on e target catalog limits mine (r m)) → AreFrom v out
  prefix-are items s u mine prefix r ends v out f g = (
    suc prefix.steps,
    λ m.
        let later : suc prefix.steps + m ≡ prefix.steps + suc m = omega arith in
        let is : user_in e target catalog limits (suc prefix.steps + m) (e.start bytes) at_start ≡ items_then mine (r m)
        = ap (λ n. user_in e target catalog limits n (e.start bytes) at_start) later ∙ (prefix.own (suc m) ∙ ap (items_then mine) (ends m)) in (
          f m ∙ sym (ap (λ x. verdict_on e target catalog limits [] x) is ∙ prefix.verdict (r m)),
          g m ∙ sym (ap (λ x. output_on e target catalog limits [] x) is ∙ prefix.output (r m)),
        ),
  )

  -- where the next item has a fault, by what its user item is
  user-refused : (items : List PlacedItem) (s t : e.State) (u : users.State) (mine : List PlacedItem) (item : PlacedItem)
      (o : Step users.State) (reason : Reason) (place : ℕ) → Prefixes e target catalog limits bytes items s u mine → e.step limits s ≡ Gives item t
      → user_step catalog limits.symbols u item ≡ o → step_fault (target.refusal mine) o ≡ Some (reason, place)
      → AreFrom (Rejected reason place) (target.open_output mine)
  user-refused items s t u mine item Ends reason place prefix gives is fault = absurd (cc fault)
  user-refused items s t u mine item (Stops r p) reason place prefix gives is fault =
      prefix-are items s u mine prefix (λ m. Stopped r p)
      (λ m. item-step e target catalog limits m s t u item (Stops r p) gives is)
      (Rejected reason place) (target.open_output mine) (λ m. ap (λ why. verdict_with why (Rejected r p)) (sym fault)) (λ m. refl)
  user-refused items s t u mine item (Gives own v) reason place prefix gives is fault =
      let next : ℕ → Reading = λ m. user_in e target catalog limits m t v in
      let all : List PlacedItem = mine ++ own ∷ [] in
      prefix-are items s u mine prefix (λ m. More own (next m))
      (λ m. item-step e target catalog limits m s t u item (Gives own v) gives is) (Rejected reason place) (target.open_output mine)
      (λ m. ap (λ why. verdict_with why (verdict_on e target catalog limits all (next m))) (sym fault))
      (λ m. ap (λ why. output_with why (target.open_output mine) (output_on e target catalog limits all (next m))) (sym fault))
  user-refused items s t u mine item (GoesOn v) reason place prefix gives is fault = absurd (cc fault)

  -- and by what the step is
  step-refused : (items : List PlacedItem) (s : e.State) (u : users.State) (mine : List PlacedItem) (o : Step e.State)
      (reason : Reason) (place : ℕ) → Prefixes e target catalog limits bytes items s u mine → e.step limits s ≡ o
      → step_fault (λ item. step_fault (target.refusal mine) (user_step catalog limits.symbols u item)) o ≡ Some (reason, place)
      → AreFrom (Rejected reason place) (target.open_output mine)
  step-refused items s u mine Ends reason place prefix is fault = absurd (cc fault)
  step-refused items s u mine (Stops r p) reason place prefix is fault =
      prefix-are items s u mine prefix (λ m. Stopped r p) (λ m. user-step e target catalog limits m s u (Stops r p) is)
      (Rejected reason place) (target.open_output mine) (λ m. ap (λ why. verdict_with why (Rejected r p)) (sym fault)) (λ m. refl)
  step-refused items s u mine (Gives item t) reason place prefix is fault =
      user-refused items s t u mine item (user_step catalog limits.symbols u item) reason place prefix is refl fault
  step-refused items s u mine (GoesOn t) reason place prefix is fault = absurd (cc fault)

  has_verdict-from : (v : Verdict) (out : List ℕ) → HasVerdictFrom e target catalog limits bytes v out → AreFrom v out
  has_verdict-from _ _ (whole tops us mine s u stream faultless ends told) =
      let prefix = faultless-prefixes e target catalog limits bytes (top_items tops) s u mine faultless in
      let read = faultless-tops e target catalog limits users_read bytes tops s u mine prefix ends in
      let items = read.2 ∙ ap top_items (same_some read.0 us (sym read.1 ∙ told)) in
      prefix-are (top_items tops) s u mine prefix (λ m. Finished) (λ m. user-step e target catalog limits m s u Ends ends)
      (Accepted (length us)) (target.whole_output us)
      (λ m. ap Accepted (sym (values-of_tops mine us items))) (λ m. sym (agrees mine us items))
  has_verdict-from _ _ (refused path mine s u reason place at faultless fault) =
      step-refused (path_items path) s u mine (e.step limits s) reason place
      (faultless-prefixes e target catalog limits bytes (path_items path) s u mine faultless) refl fault

  -- a stream comes from an encoding to one verdict and one output at most
  pub one_has_verdict : (v w : Verdict) (out other : List ℕ)
      → HasVerdictFrom e target catalog limits bytes v out → HasVerdictFrom e target catalog limits bytes w other → (v ≡ w) × (out ≡ other)
  one_has_verdict v w out other c d =
      let a = has_verdict-from v out c in
      let b = has_verdict-from w other d in
      let x = a.1 b.0 in
      let y = subst (AreAt w other) (add_comm b.0 a.0) (b.1 a.0) in
      (x.0 ∙ sym y.0, x.1 ∙ sym y.1)
