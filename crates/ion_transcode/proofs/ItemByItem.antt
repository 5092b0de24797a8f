-- Outputs that are alike item by item give one verdict and one output to a reading: for any encoding that is sound.
use Rattle.std.proofs.Common.{◌≡◌, ℕ, zero, suc, ◌<◌, List, [], ◌∷◌, ◌++◌, refl, ap, ap₂, sym, ◌∙◌, subst, arith}
use Rattle.ion_meter.specs.declared.limits.Limits.{Limits}
use Rattle.ion_value.specs.Value.{SymbolAt, PlacedItem}
use Rattle.ion_value.specs.Path.{Path, closed, path_items}
use Rattle.ion_value.specs.Reading.{Reading, Finished, More, Step, Ends, Stops, Gives, GoesOn, Leaves, items_then, after_item, after_nothing, next_reading}
use Rattle.ion_value.specs.Outcome.{verdict_with, verdict_after, output_with, output_after}
use Rattle.ion_symbols.specs.Table.{Shared}
use Rattle.ion_symbols.specs.Users as users
use Rattle.ion_symbols.specs.Users.{at_start, by_step, user_step}
use Rattle.ion_symbols.specs.Laws.{UsersAreRead, OpenUsersAreRead}
use Rattle.ion_transcode.specs.Encoding.{Encoding, Follows, IsSound}
use Rattle.ion_transcode.specs.Outputs.{Outputs}
use Rattle.ion_transcode.specs.ByItem.{verdict, output}
use Rattle.ion_transcode.proofs.Agreeing.{AreAlike}
use Rattle.ion_transcode.proofs.Faultless.{raw_in, user_in}
use Rattle.ion_transcode.proofs.NoEnd.{user_step-no_end}
use Rattle.ion_transcode.proofs.UserPaths.{users-along}
use Rattle.ion_value.proofs.Readings.{items_then-append}

module _ (users_read : UsersAreRead) (open_users_read : OpenUsersAreRead) (e : Encoding) (IsOf : List ℕ → Type 0) (reading : Limits → List ℕ → Reading)
    (sound : IsSound e IsOf reading) (a b : Outputs) (alike : AreAlike a b) (catalog : List Shared) (limits : Limits) (bytes : List ℕ) (is_of : IsOf bytes) where
  -- the verdict and the output of a reading after user items
  abbrev Same : List PlacedItem → Reading → Type 0
  Same mine r =
      (verdict_after a.refusal mine r ≡ verdict_after b.refusal mine r)
      × (output_after a.open_output a.refusal mine r ≡ output_after b.open_output b.refusal mine r)

  -- these are the user items of a path, whatever stands after them
  abbrev Has : Path SymbolAt ℕ → users.State → List PlacedItem → Type 0
  Has path u mine =
      (rest : Reading)
      → users.users catalog limits.symbols at_start (items_then (path_items path) rest) ≡ items_then mine (users.users catalog limits.symbols u rest)

  -- what is to come after so many steps
  abbrev coming : ℕ → e.State → users.State → Reading
  coming n s u = user_in e b catalog limits n s u

  puts-same : (path : Path SymbolAt ℕ) (u : users.State) (mine : List PlacedItem) → Has path u mine → a.open_output mine ≡ b.open_output mine
  puts-same path u mine has =
      let along = users-along users_read open_users_read catalog limits.symbols path mine (has Finished) in
      alike.puts along.user_path mine along.items

  refusal-same : (path next : Path SymbolAt ℕ) (u v : users.State) (mine : List PlacedItem) (own : PlacedItem) → Has path u mine → Has next v (mine ++ own ∷ [])
      → a.refusal mine own ≡ b.refusal mine own
  refusal-same path next u v mine own has later =
      let along = users-along users_read open_users_read catalog limits.symbols path mine (has Finished) in
      let further = users-along users_read open_users_read catalog limits.symbols next (mine ++ own ∷ []) (later Finished) in
      alike.refuses along.user_path further.user_path mine own along.items further.items

  -- a user item, and what comes after it
  more-same : (path next : Path SymbolAt ℕ) (u v : users.State) (mine : List PlacedItem) (own : PlacedItem) (r : Reading)
      → Has path u mine → Has next v (mine ++ own ∷ []) → Same (mine ++ own ∷ []) r → Same mine (More own r)
  more-same path next u v mine own r has later rest =
      let q = refusal-same path next u v mine own has later in (
        ap₂ verdict_with q rest.0,
        ap (λ why. output_with why (a.open_output mine) (output_after a.open_output a.refusal (mine ++ own ∷ []) r)) q
            ∙ ap₂ (output_with (b.refusal mine own)) (puts-same path u mine has) rest.1,
      )

  -- an item of the stream that is taken in, and one that is a user's
  has-taken : (path next : Path SymbolAt ℕ) (u v : users.State) (mine : List PlacedItem) (item : PlacedItem) → Has path u mine
      → path_items next ≡ path_items path ++ item ∷ [] → user_step catalog limits.symbols u item ≡ GoesOn v → Has next v mine
  has-taken path next u v mine item has items is rest =
      ap (λ l. users.users catalog limits.symbols at_start (items_then l rest)) items
      ∙ (ap (users.users catalog limits.symbols at_start) (items_then-append (path_items path) (item ∷ []) rest)
      ∙ (has (More item rest) ∙ ap (λ o. items_then mine (by_step o (λ w. users.users catalog limits.symbols w rest))) is))

  has-user : (path next : Path SymbolAt ℕ) (u v : users.State) (mine : List PlacedItem) (item own : PlacedItem) → Has path u mine
      → path_items next ≡ path_items path ++ item ∷ [] → user_step catalog limits.symbols u item ≡ Gives own v → Has next v (mine ++ own ∷ [])
  has-user path next u v mine item own has items is rest =
      ap (λ l. users.users catalog limits.symbols at_start (items_then l rest)) items
      ∙ (ap (users.users catalog limits.symbols at_start) (items_then-append (path_items path) (item ∷ []) rest)
      ∙ (has (More item rest)
      ∙ (ap (λ o. items_then mine (by_step o (λ w. users.users catalog limits.symbols w rest))) is
      ∙ sym (items_then-append mine (own ∷ []) (users.users catalog limits.symbols v rest)))))

  -- what is to come is the same from each state after a step
  abbrev Later : ℕ → Step e.State → Type 0
  Later n o =
      (t : e.State) (v : users.State) (next : Path SymbolAt ℕ) (own : List PlacedItem) → Leaves o t → e.At bytes next t → Has next v own → Same own (coming n t v)

  item-same : (n : ℕ) (path next : Path SymbolAt ℕ) (t : e.State) (u : users.State) (mine : List PlacedItem) (item : PlacedItem) (o : Step users.State)
      → Has path u mine → e.At bytes next t → path_items next ≡ path_items path ++ item ∷ [] → Later n (Gives item t)
      → user_step catalog limits.symbols u item ≡ o → Same mine (by_step o (λ v. coming n t v))
  item-same n path next t u mine item Ends has after items later is = absurd (user_step-no_end catalog limits.symbols u item is)
  item-same n path next t u mine item (Stops reason place) has after items later is = (refl, puts-same path u mine has)
  item-same n path next t u mine item (Gives own v) has after items later is =
      let further : Has next v (mine ++ own ∷ []) = has-user path next u v mine item own has items is in
      more-same path next u v mine own (coming n t v) has further (later t v next (mine ++ own ∷ []) (after_item item t) after further)
  item-same n path next t u mine item (GoesOn v) has after items later is =
      later t v next mine (after_item item t) after (has-taken path next u v mine item has items is)

  step-same : (n : ℕ) (path : Path SymbolAt ℕ) (u : users.State) (mine : List PlacedItem) (o : Step e.State)
      → Has path u mine → Follows e bytes path o → Later n o
      → Same mine (users.users catalog limits.symbols u (next_reading (λ t. raw_in e b catalog limits n t) o))
  step-same n path u mine Ends has follow later = (refl, puts-same path u mine has)
  step-same n path u mine (Stops reason place) has follow later = (refl, puts-same path u mine has)
  step-same n path u mine (Gives item t) has follow later =
      item-same n path follow.0 t u mine item (user_step catalog limits.symbols u item) has follow.1 follow.2 later refl
  step-same n path u mine (GoesOn t) has follow later = later t u path mine (after_nothing t) follow has

  rest-same : (n : ℕ) (path : Path SymbolAt ℕ) (s : e.State) (u : users.State) (mine : List PlacedItem)
      → e.At bytes path s → Has path u mine → sound.size s < n → Same mine (coming n s u)
  rest-same zero path s u mine at has fuel = absurd (omega arith)
  rest-same (suc n) path s u mine at has fuel =
      step-same n path u mine (e.step limits s) has (sound.follows limits bytes path s is_of at)
      (λ t v next own leaves after further. let smaller : sound.size t < sound.size s = sound.falls limits s t leaves in rest-same n next t v own after further (omega arith))

  pub reading-same : (verdict a catalog limits (reading limits bytes) ≡ verdict b catalog limits (reading limits bytes))
      × (output a catalog limits (reading limits bytes) ≡ output b catalog limits (reading limits bytes))
  reading-same =
      subst (λ r. (verdict a catalog limits r ≡ verdict b catalog limits r) × (output a catalog limits r ≡ output b catalog limits r)) (sym (sound.reads limits bytes))
      (rest-same (suc (sound.size (e.start bytes))) (closed []) (e.start bytes) at_start [] (sound.starts bytes) (λ rest. refl) (omega arith))
