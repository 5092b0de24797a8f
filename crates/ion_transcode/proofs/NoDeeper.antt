-- The values of a stream that was read open no more containers inside each other than the limit says.
use Rattle.std.proofs.Common.{◌≡◌, ℕ, zero, suc, ◌-◌, ◌≤◌, List, [], ◌∷◌, ◌++◌, map, Option, Some, None, option_map, IfSome, ap, ◌∙◌, subst, append_assoc, append-nil, arith}
use Rattle.std.specs.List.{AllByRecursion}
use Rattle.ion_meter.specs.declared.limits.Limits.{Limits}
use Rattle.ion_meter.specs.declared.profile.Profile.{Profile}
use Rattle.ion_meter.specs.Rules.{rules}
use Rattle.ion_value.specs.Reading.{Finished, items_of, Step, Ends, Stops, Gives, GoesOn, next_reading, reading_for}
use Rattle.ion_value.specs.Value as value
use Rattle.ion_value.specs.Value.{SymbolAt, UserSymbol, Value, Members, scalar, container, nothing, member, Top, version, tree, Item, PlacedItem, bare_item, value_items, member_items, top_items, map_value, map_members}
use Rattle.ion_value.proofs.Readings.{items_of-items_then}
use Rattle.ion_symbols.specs.Table.{Shared, Table, system, text_at}
use Rattle.ion_symbols.specs.Tree.{declares_table, next_table, user_at, user_tops}
use Rattle.ion_binary.specs.Reading as binary
use Rattle.ion_text_in.specs.Reading as text
use Rattle.ion_transcode.specs.declared.to.Form.{Form}
use Rattle.ion_transcode.specs.declared.to.Form.TheVariants as form
use Rattle.ion_transcode.specs.Depth.{ValueIsNoDeeper, MembersAreNoDeeper, IsNoDeeper, WhatIsReadIsNoDeeper}
use Rattle.ion_transcode.specs.Forms.{reading_of}
use Rattle.ion_transcode.proofs.OpenContainers.{HasRoom, open_after, Opens, open_in_text, text-opens, open_in_binary, binary-opens}

-- ---- items

-- where so many containers are open, none of these items opens one more than may be
abbrev Shallow : {S P : Type 0} → ℕ → ℕ → List (Item S P) → Type 0
Shallow most n [] = Unit {0}
Shallow most n (item ∷ items) = HasRoom most n item.head × Shallow most (open_after n item.head) items

-- so it is with the items of a reading whose steps open no more
shallow-reading : {T : Type 0} (step : T → Step T) (count : T → ℕ) (most : ℕ) → ((s : T) → Opens most count (count s) (step s))
    → (steps : ℕ) (s : T) → Shallow most (count s) (items_of (reading_for step steps s))
shallow-reading {T} step count most opens zero s = tt
shallow-reading {T} step count most opens (suc steps) s = by (step s) (opens s) (shallow-reading step count most opens steps)
  where
    by : (x : Step T) → Opens most count (count s) x
        → ((t : T) → Shallow most (count t) (items_of (reading_for step steps t)))
        → Shallow most (count s) (items_of (next_reading (λ t. reading_for step steps t) x))
    by Ends h later = tt
    by (Stops reason place) h later = tt
    by (Gives item after) h later =
        (h.0, subst (λ (n : ℕ). Shallow most n (items_of (reading_for step steps after))) h.1 (later after))
    by (GoesOn after) h later =
        subst (λ (n : ℕ). Shallow most n (items_of (reading_for step steps after))) h (later after)

-- ---- values of such items

mutual
  value-no_deeper : {S P : Type 0} (most n : ℕ) (top : P) (f : Option S) (annotations : List S) (place : P) (x : Value S P)
      (rest : List (Item S P)) → Shallow most n (value_items top f annotations place x ++ rest)
      → ValueIsNoDeeper most n x × Shallow most n rest
  value-no_deeper most n top f annotations place (scalar body) rest h = (tt, h.1)
  value-no_deeper {S} {P} most n top f annotations place (container kind members last) rest h =
      let last_item : Item S P = bare_item value.end last top in
      let inside : Shallow most (suc n) (member_items top members ++ (last_item ∷ rest)) =
      subst (λ (is : List (Item S P)). Shallow most (suc n) is)
      (append_assoc (member_items top members) (last_item ∷ []) rest) h.1 in
      let m = members-no_deeper most (suc n) top members (last_item ∷ rest) inside in
      let same : suc n - 1 ≡ n = omega arith in
      ((h.0, m.0), subst (λ (k : ℕ). Shallow most k rest) same m.1.1)

  members-no_deeper : {S P : Type 0} (most n : ℕ) (top : P) (ms : Members S P) (rest : List (Item S P))
      → Shallow most n (member_items top ms ++ rest) → MembersAreNoDeeper most n ms × Shallow most n rest
  members-no_deeper most n top nothing rest h = (tt, h)
  members-no_deeper {S} {P} most n top (member before f annotations place x) rest h =
      let items : List (Item S P) = value_items top f annotations place x in
      let all : Shallow most n (member_items top before ++ (items ++ rest)) =
      subst (λ (is : List (Item S P)). Shallow most n is) (append_assoc (member_items top before) items rest) h in
      let m = members-no_deeper most n top before (items ++ rest) all in
      let v = value-no_deeper most n top f annotations place x rest m.1 in
      ((m.0, v.0), v.1)

tops-no_deeper : {S P : Type 0} (most : ℕ) (tops : List (Top S P)) → Shallow most 0 (top_items tops)
    → AllByRecursion (IsNoDeeper most) tops
tops-no_deeper most [] h = tt
tops-no_deeper most (version place ∷ tops) h = (tt, tops-no_deeper most tops h.1)
tops-no_deeper most (tree first annotations place x ∷ tops) h =
    let v = value-no_deeper most 0 first None annotations place x (top_items tops) h in
    (v.0, tops-no_deeper most tops v.1)

-- ---- under a limit that is no lower

mutual
  value-wide : {S P : Type 0} (most more n : ℕ) → most ≤ more → (x : Value S P) → ValueIsNoDeeper most n x
      → ValueIsNoDeeper more n x
  value-wide most more n wide (scalar body) h = tt
  value-wide most more n wide (container kind members last) h =
      (omega (arith, h.0, wide), members-wide most more (suc n) wide members h.1)

  members-wide : {S P : Type 0} (most more n : ℕ) → most ≤ more → (ms : Members S P) → MembersAreNoDeeper most n ms
      → MembersAreNoDeeper more n ms
  members-wide most more n wide nothing h = tt
  members-wide most more n wide (member before f annotations place x) h =
      (members-wide most more n wide before h.0, value-wide most more n wide x h.1)

pub no_deeper-wide : {S P : Type 0} (most more : ℕ) (tops : List (Top S P)) → most ≤ more
    → AllByRecursion (IsNoDeeper most) tops → AllByRecursion (IsNoDeeper more) tops
no_deeper-wide most more [] wide h = tt
no_deeper-wide most more (version place ∷ tops) wide h = (tt, no_deeper-wide most more tops wide h.1)
no_deeper-wide most more (tree first annotations place x ∷ tops) wide h =
    (value-wide most more 0 wide x h.0, no_deeper-wide most more tops wide h.1)

-- ---- user values

module _ {S T P Q : Type 0} (f : S → T) (g : P → Q) where
  mutual
    value-map : (most n : ℕ) (x : Value S P) → ValueIsNoDeeper most n x → ValueIsNoDeeper most n (map_value f g x)
    value-map most n (scalar body) h = tt
    value-map most n (container kind members last) h = (h.0, members-map most (suc n) members h.1)

    members-map : (most n : ℕ) (ms : Members S P) → MembersAreNoDeeper most n ms → MembersAreNoDeeper most n (map_members f g ms)
    members-map most n nothing h = tt
    members-map most n (member before field annotations place x) h = (members-map most n before h.0, value-map most n x h.1)

abbrev FromEach : List Shared → ℕ → List (Top SymbolAt ℕ) → Type 0
FromEach catalog most tops = (t : Table) → IfSome (user_tops catalog t tops) (AllByRecursion (IsNoDeeper most))

tree-users : (catalog : List Shared) (most : ℕ) (t : Table) (first : ℕ) (annotations : List SymbolAt) (place : ℕ)
    (x : Value SymbolAt ℕ) (tops : List (Top SymbolAt ℕ)) (declares : Option (Members SymbolAt ℕ)) → ValueIsNoDeeper most 0 x
    → FromEach catalog most tops
    → IfSome (elim declares [
      | Some members ↦ elim (next_table catalog (text_at t) t members) [ None ↦ None | Some u ↦ user_tops catalog u tops ]
      | None ↦
          option_map (λ us. tree first (map (user_at t) annotations) place (map_value (user_at t) (λ p. p) x) ∷ us)
          (user_tops catalog t tops)
    ]) (AllByRecursion (IsNoDeeper most))
tree-users catalog most t first annotations place x tops (Some members) h later = by (next_table catalog (text_at t) t members)
  where
    by : (next : Option Table)
        → IfSome (elim next [ None ↦ None | Some u ↦ user_tops catalog u tops ]) (AllByRecursion (IsNoDeeper most))
    by None = tt
    by (Some u) = later u
tree-users catalog most t first annotations place x tops None h later = by (user_tops catalog t tops) (later t)
  where
    by : (others : Option (List (Top UserSymbol ℕ))) → IfSome others (AllByRecursion (IsNoDeeper most))
        → IfSome (
        option_map (λ us. tree first (map (user_at t) annotations) place (map_value (user_at t) (λ p. p) x) ∷ us) others
        )
        (AllByRecursion (IsNoDeeper most))
    by None k = tt
    by (Some us) k = (value-map (user_at t) (λ (p : ℕ). p) most 0 x h, k)

users-no_deeper : (catalog : List Shared) (most : ℕ) (tops : List (Top SymbolAt ℕ)) → AllByRecursion (IsNoDeeper most) tops
    → FromEach catalog most tops
users-no_deeper catalog most [] h t = tt
users-no_deeper catalog most (version place ∷ tops) h t = users-no_deeper catalog most tops h.1 system
users-no_deeper catalog most (tree first annotations place x ∷ tops) h t =
    tree-users catalog most t first annotations place x tops (declares_table t annotations x) h.0
    (users-no_deeper catalog most tops h.1)

-- ---- streams

reading-shallow : (profile : Profile) (f : Form) (limits : Limits) (bytes : List ℕ) → Shallow limits.depth 0 (items_of (reading_of profile f limits bytes))
unfolding binary.reading text.reading
reading-shallow profile form.Binary limits bytes =
    let first = binary.start bytes in
    shallow-reading (binary.step (rules limits profile)) open_in_binary limits.depth (binary-opens (rules limits profile)) (suc (binary.size first)) first
reading-shallow profile form.Text limits bytes =
    let first = text.start bytes in
    shallow-reading (text.step (rules limits profile)) open_in_text limits.depth (text-opens (rules limits profile)) (suc (text.size first)) first

pub what-is-read-is-no-deeper : WhatIsReadIsNoDeeper
what-is-read-is-no-deeper profile f catalog limits bytes tops us read are =
    let items : items_of (reading_of profile f limits bytes) ≡ top_items tops =
    ap items_of read ∙ (items_of-items_then (top_items tops) Finished ∙ append-nil (top_items tops)) in
    let shallow = subst (λ (is : List PlacedItem). Shallow limits.depth 0 is) items (reading-shallow profile f limits bytes) in
    let all = tops-no_deeper limits.depth tops shallow in (
      all,
      subst (λ (o : Option (List (Top UserSymbol ℕ))). IfSome o (AllByRecursion (IsNoDeeper limits.depth))) are
          (users-no_deeper catalog limits.depth tops all system),
    )
