-- Where a run to binary accepts a stream, no item was refused, and so its values are within its limits.
use Rattle.std.proofs.Common.{◌≡◌, ◌⊎◌, inl, inr, ℕ, List, [], ◌∷◌, ◌++◌, None, Some, refl, ap, ap₂, sym, ◌∙◌, subst}
use Rattle.ion_meter.specs.declared.limits.Limits.{Limits}
use Rattle.ion_meter.specs.declared.profile.Profile.{Profile}
use Rattle.ion_value.specs.Outcome.{Verdict, Accepted}
use Rattle.ion_value.specs.Path.{Path, closed, path_items}
use Rattle.ion_value.specs.Reading.{Reading, Step, Gives, GoesOn}
use Rattle.ion_value.specs.Value.{SymbolAt, UserSymbol, Top, PlacedItem, top_items, user_items}
use Rattle.ion_symbols.specs.Laws.{UsersAreRead}
use Rattle.ion_symbols.specs.Table.{Shared, system}
use Rattle.ion_symbols.specs.Tree.{user_tops}
use Rattle.ion_symbols.specs.Users as users
use Rattle.ion_binary.specs.Refusals.{refused_after, ItemsAreRefusedAsInTrees, NoneIsRefused, AreWithin, NoneIsRefusedWithin}
use Rattle.ion_binary.specs.Writing.{binary_refusal}
use Rattle.ion_transcode.specs.declared.to.Form.{Form}
use Rattle.ion_transcode.specs.declared.to.Target.TheVariants as target
use Rattle.ion_transcode.specs.Encoding.{Encoding, Follows, IsSound}
use Rattle.ion_transcode.specs.Forms.{encoding_of}
use Rattle.ion_transcode.specs.Outputs.{to_binary}
use Rattle.ion_transcode.specs.UserPaths.{FaultlessPathsAreRead}
use Rattle.ion_transcode.specs.Verdict.{Faultless, nothing, goes_on, taken_in, user, HasVerdictFrom, whole, refused}
use Rattle.ion_transcode.proofs.Agreeing.{path-is, with-next}
use Rattle.ion_transcode.proofs.Faultless.{faultless-prefixes, faultless-tops}

-- ---- one item more

record IsLast {A : Type 0} (xs before : List A) (x y : A) : Type 0 where
  all : before ≡ xs
  item : y ≡ x

record IsWithin {A : Type 0} (xs before : List A) (y : A) : Type 0 where
  rest : List A
  is : xs ≡ before ++ y ∷ rest

split : {A : Type 0} (xs before rest : List A) (x y : A) → xs ++ x ∷ [] ≡ before ++ y ∷ rest
    → IsLast xs before x y ⊎ IsWithin xs before y
split [] [] rest x y e =
    let i : x ≡ y = cc e in
    inl (record { all = refl; item = sym i })
split [] (b ∷ []) rest x y e = absurd (cc e)
split [] (b ∷ c ∷ before) rest x y e = absurd (cc e)
split (z ∷ xs) [] rest x y e =
    let i : z ≡ y = cc e in
    inr (record { rest = xs; is = ap (λ w. w ∷ xs) i })
split {A = A} (z ∷ xs) (b ∷ before) rest x y e =
    let i : z ≡ b = cc e in
    let t : xs ++ x ∷ [] ≡ before ++ y ∷ rest = cc e in
    by i (split xs before rest x y t)
  where
    by : z ≡ b → IsLast xs before x y ⊎ IsWithin xs before y → IsLast (z ∷ xs) (b ∷ before) x y ⊎ IsWithin (z ∷ xs) (b ∷ before) y
    by i (inl l) = inl (record { all = ap₂ (λ (w : A) (ws : List A). w ∷ ws) (sym i) l.all; item = l.item })
    by i (inr w) = inr (record { rest = w.rest; is = ap₂ (λ (w : A) (ws : List A). w ∷ ws) i w.is })

none-more : (limits : Limits) (mine : List PlacedItem) (own : PlacedItem) → NoneIsRefused limits mine
    → binary_refusal limits mine own ≡ None → NoneIsRefused limits (mine ++ own ∷ [])
none-more limits mine own none last before rest item e = by (split mine before rest own item e)
  where
    by : IsLast mine before own item ⊎ IsWithin mine before item → binary_refusal limits before item ≡ None
    by (inl l) = ap₂ (λ (b : List PlacedItem) (i : PlacedItem). binary_refusal limits b i) l.all l.item ∙ last
    by (inr w) = none before w.rest item w.is

no-items : (limits : Limits) → NoneIsRefused limits []
no-items limits [] rest item e = absurd (cc e)
no-items limits (b ∷ before) rest item e = absurd (cc e)

some-same : (us vs : List (Top UserSymbol ℕ)) → Some us ≡ Some vs → us ≡ vs
some-same us vs e = cc e

-- ---- items that are faultless

-- they are those of a path that the bytes spell
record StandsAt (e : Encoding) (bytes : List ℕ) (items : List PlacedItem) (s : e.State) : Type 0 where
  path : Path SymbolAt ℕ
  at : e.At bytes path s
  items_are : items ≡ path_items path

module _ (along : FaultlessPathsAreRead) (trees : ItemsAreRefusedAsInTrees) (profile : Profile) (f : Form) (IsOf : List ℕ → Type 0)
    (reading : Limits → List ℕ → Reading) (sound : IsSound (encoding_of profile f) IsOf reading) (catalog : List Shared)
    (limits : Limits) (bytes : List ℕ) (is_of : IsOf bytes) where
  abbrev e : Encoding
  e = encoding_of profile f

  abbrev Fine : List PlacedItem → e.State → users.State → List PlacedItem → Type 0
  Fine items s u mine = Faultless e (to_binary limits) catalog limits bytes items s u mine

  followed : (path : Path SymbolAt ℕ) (s : e.State) (x : Step e.State) → e.At bytes path s
      → e.step limits s ≡ x → Follows e bytes path x
  followed path s x at is =
      subst (λ (y : Step e.State). Follows e bytes path y) is (sound.follows limits bytes path s is_of at)

  item-stands : (items : List PlacedItem) (item : PlacedItem) (s t : e.State)
      → e.step limits s ≡ Gives item t → StandsAt e bytes items s
      → StandsAt e bytes (items ++ item ∷ []) t
  item-stands items item s t step r =
      let next = followed r.path s (Gives item t) r.at step in
      record { path = next.0; at = next.1; items_are = ap (λ (is : List PlacedItem). is ++ item ∷ []) r.items_are ∙ sym next.2 }

  stands-at : (items mine : List PlacedItem) (s : e.State) (u : users.State) → Fine items s u mine
      → StandsAt e bytes items s
  stands-at _ _ _ _ nothing = record { path = closed []; at = sound.starts bytes; items_are = refl }
  stands-at _ _ _ _ (goes_on items mine s t u prev step) =
      let r = stands-at items mine s u prev in
      record { path = r.path; at = followed r.path s (GoesOn t) r.at step; items_are = r.items_are }
  stands-at _ _ _ _ (taken_in items mine item s t u v prev step taken) =
      item-stands items item s t step (stands-at items mine s u prev)
  stands-at _ _ _ _ (user items mine item own s t u v prev step gives fine) =
      item-stands items item s t step (stands-at items mine s u prev)

  -- and their user items are those of a path of user values
  user-along : (items mine : List PlacedItem) (s : e.State) (u : users.State) → Fine items s u mine
      → (up : Path UserSymbol ℕ) × (user_items mine ≡ path_items up)
  user-along items mine s u fine =
      let r = stands-at items mine s u fine in
      let moved = subst (λ (is : List PlacedItem). Fine is s u mine) r.items_are fine in
      let a = along profile f target.Binary catalog limits bytes r.path mine s u moved in
      (a.user_path, a.items)

  -- so none of these is refused item by item either
  none-refused : (items mine : List PlacedItem) (s : e.State) (u : users.State) → Fine items s u mine
      → NoneIsRefused limits mine
  none-refused _ _ _ _ nothing = no-items limits
  none-refused _ _ _ _ (goes_on items mine s t u prev step) = none-refused items mine s u prev
  none-refused _ _ _ _ (taken_in items mine item s t u v prev step taken) = none-refused items mine s u prev
  none-refused _ _ _ _ (user items mine item own s t u v prev step gives fine) =
      let a = user-along items mine s u prev in
      let b = user-along (items ++ item ∷ []) (mine ++ own ∷ []) t v (user items mine item own s t u v prev step gives fine) in
      let in_trees = trees limits a.0 mine own a.1 (with-next a.0 b.0 mine own a.1 b.1) in
      let path = ap (λ (p : Path UserSymbol ℕ). refused_after limits p own) (sym (path-is a.0 mine a.1)) in
      none-more limits mine own (none-refused items mine s u prev) (in_trees ∙ (path ∙ fine))

  -- ---- an accepted run

  pub within : UsersAreRead → NoneIsRefusedWithin → ((a b : List (Top SymbolAt ℕ)) → e.Stream bytes a → e.Stream bytes b → a ≡ b) → (v : Verdict) (written : List ℕ) (n : ℕ) → v ≡ Accepted n
      → HasVerdictFrom e (to_binary limits) catalog limits bytes v written
      → (tops : List (Top SymbolAt ℕ)) (us : List (Top UserSymbol ℕ)) → e.Stream bytes tops
      → user_tops catalog system tops ≡ Some us → AreWithin limits [] us
  within users_read law one v written n is (whole others vs mine s u stream fine ends are) tops us st users =
      let same : others ≡ tops = one others tops stream st in
      let prefix = faultless-prefixes e (to_binary limits) catalog limits bytes (top_items others) s u mine fine in
      let read = faultless-tops e (to_binary limits) catalog limits users_read bytes others s u mine prefix ends in
      let found : read.0 ≡ us = some-same read.0 us (sym read.1 ∙ (ap (user_tops catalog system) same ∙ users)) in
      (law limits mine us (read.2 ∙ ap top_items found)).0 (none-refused (top_items others) mine s u fine)
  within users_read law one v written n is (refused path mine s u reason place at faultless fault) tops us st users =
      absurd (cc is)
