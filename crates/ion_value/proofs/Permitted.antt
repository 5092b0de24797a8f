-- Where rules permit the items of a path, they permit its values, and the members of its open containers.
use Rattle.std.proofs.Common.{◌≡◌, ◌∙◌, ℕ, zero, suc, true, List, [], ◌∷◌, ◌++◌, Option}
use Rattle.std.specs.Bool.{⊤}
use Rattle.std.specs.List.{AllByRecursion}
use Rattle.ion_meter.specs.declared.profile.Rules.{Rules}
use Rattle.ion_value.specs.declared.ion_type.Kind.{Kind}
use Rattle.ion_value.specs.Path.{Path, closed, opened, Nest, outermost, inner, nest_items, path_items, open_in}
use Rattle.ion_value.specs.Reading.{Reading, Step, Ends, Stops, Gives, GoesOn, items_of, next_reading, reading_for}
use Rattle.ion_value.specs.ReadingLaws.{IsPermitted, ArePermitted, HeadIsPermitted}
use Rattle.ion_value.specs.Value.{SymbolAt, Scalar, null, bool, int, float, decimal, timestamp, symbol, string, clob, blob, Head, whole, begin, end, marker, Value, Members, scalar, container, nothing, member, Top, version, tree, PlacedItem, value_items, member_items, one_top, top_items}

pub all-parts : {A : Type 0} (P : A → Type 0) (xs ys : List A) → AllByRecursion P (xs ++ ys) → AllByRecursion P xs × AllByRecursion P ys
all-parts P [] ys h = (tt, h)
all-parts P (x ∷ xs) ys h = let more = all-parts P xs ys h.1 in ((h.0, more.0), more.1)

scalar-alike : {S : Type 0} (limits wide : Rules) → wide.floats ≡ limits.floats → (body : Scalar S) → IsPermitted limits body → IsPermitted wide body
scalar-alike limits wide same (float number) h = same ∙ h
scalar-alike limits wide same (null type) h = tt
scalar-alike limits wide same (bool truth) h = tt
scalar-alike limits wide same (int number) h = tt
scalar-alike limits wide same (decimal number) h = tt
scalar-alike limits wide same (timestamp moment) h = tt
scalar-alike limits wide same (symbol name) h = tt
scalar-alike limits wide same (string bytes) h = tt
scalar-alike limits wide same (clob bytes) h = tt
scalar-alike limits wide same (blob bytes) h = tt

head-alike : {S : Type 0} (limits wide : Rules) → wide.floats ≡ limits.floats → (head : Head S) → HeadIsPermitted limits head → HeadIsPermitted wide head
head-alike limits wide same (whole body) h = scalar-alike limits wide same body h
head-alike limits wide same (begin kind) h = tt
head-alike limits wide same end h = tt
head-alike limits wide same marker h = tt

-- rules that read floats alike permit the same
pub permitted-alike : (limits wide : Rules) → wide.floats ≡ limits.floats → (items : List PlacedItem) → ArePermitted limits items → ArePermitted wide items
permitted-alike limits wide same [] h = tt
permitted-alike limits wide same (item ∷ items) h = (head-alike limits wide same item.head h.0, permitted-alike limits wide same items h.1)

pub scalar-all : {S : Type 0} (limits : Rules) → limits.floats ≡ true → (body : Scalar S) → IsPermitted limits body
scalar-all limits on (float number) = on
scalar-all limits on (null type) = tt
scalar-all limits on (bool truth) = tt
scalar-all limits on (int number) = tt
scalar-all limits on (decimal number) = tt
scalar-all limits on (timestamp moment) = tt
scalar-all limits on (symbol name) = tt
scalar-all limits on (string bytes) = tt
scalar-all limits on (clob bytes) = tt
scalar-all limits on (blob bytes) = tt

head-all : {S : Type 0} (limits : Rules) → limits.floats ≡ true → (head : Head S) → HeadIsPermitted limits head
head-all limits on (whole body) = scalar-all limits on body
head-all limits on (begin kind) = tt
head-all limits on end = tt
head-all limits on marker = tt

-- where floats are read, all is permitted
pub all-permitted : (limits : Rules) → limits.floats ≡ true → (items : List PlacedItem) → ArePermitted limits items
all-permitted limits on [] = tt
all-permitted limits on (item ∷ items) = (head-all limits on item.head, all-permitted limits on items)

module _ (limits : Rules) where
  abbrev Holds : PlacedItem → Type 0
  Holds item = HeadIsPermitted limits item.head

  abbrev mutual
    pub ValueIsPermitted : Value SymbolAt ℕ → Type 0
    ValueIsPermitted (scalar body) = IsPermitted limits body
    ValueIsPermitted (container kind members last) = MembersArePermitted members

    pub MembersArePermitted : Members SymbolAt ℕ → Type 0
    MembersArePermitted nothing = ⊤
    MembersArePermitted (member before field annotations place x) = MembersArePermitted before × ValueIsPermitted x

  abbrev pub TopIsPermitted : Top SymbolAt ℕ → Type 0
  TopIsPermitted (version place) = ⊤
  TopIsPermitted (tree first annotations place x) = ValueIsPermitted x

  abbrev pub TopsArePermitted : List (Top SymbolAt ℕ) → Type 0
  TopsArePermitted tops = AllByRecursion TopIsPermitted tops

  abbrev NestIsPermitted : Nest SymbolAt ℕ → Type 0
  NestIsPermitted (outermost annotations place kind members) = MembersArePermitted members
  NestIsPermitted (inner around field annotations place kind members) = NestIsPermitted around × MembersArePermitted members

  abbrev pub PathIsPermitted : Path SymbolAt ℕ → Type 0
  PathIsPermitted (closed tops) = TopsArePermitted tops
  PathIsPermitted (opened tops first nest) = TopsArePermitted tops × NestIsPermitted nest

  -- ---- by the items

  mutual
    pub value-permitted : (top : ℕ) (field : Option SymbolAt) (annotations : List SymbolAt) (p : ℕ) (x : Value SymbolAt ℕ) → ArePermitted limits (value_items top field annotations p x) → ValueIsPermitted x
    value-permitted top field annotations p (scalar body) h = h.0
    value-permitted top field annotations p (container kind members last) h = members-permitted top members (all-parts Holds (member_items top members) _ h.1).0

    pub members-permitted : (top : ℕ) (members : Members SymbolAt ℕ) → ArePermitted limits (member_items top members) → MembersArePermitted members
    members-permitted top nothing h = tt
    members-permitted top (member before field annotations p x) h =
        let parts = all-parts Holds (member_items top before) (value_items top field annotations p x) h in
        (members-permitted top before parts.0, value-permitted top field annotations p x parts.1)

  top-permitted : (t : Top SymbolAt ℕ) → ArePermitted limits (one_top t) → TopIsPermitted t
  top-permitted (version place) h = tt
  top-permitted (tree first annotations p x) h = value-permitted first _ annotations p x h

  pub tops-permitted : (tops : List (Top SymbolAt ℕ)) → ArePermitted limits (top_items tops) → TopsArePermitted tops
  tops-permitted [] h = tt
  tops-permitted (t ∷ tops) h = let parts = all-parts Holds (one_top t) (top_items tops) h in (top-permitted t parts.0, tops-permitted tops parts.1)

  nest-permitted : (top : ℕ) (nest : Nest SymbolAt ℕ) → ArePermitted limits (nest_items top nest) → NestIsPermitted nest
  nest-permitted top (outermost annotations p kind members) h = members-permitted top members h.1
  nest-permitted top (inner around field annotations p kind members) h =
      let parts = all-parts Holds (nest_items top around) _ h in (nest-permitted top around parts.0, members-permitted top members parts.1.1)

  pub path-permitted : (path : Path SymbolAt ℕ) → ArePermitted limits (path_items path) → PathIsPermitted path
  path-permitted (closed tops) h = tops-permitted tops h
  path-permitted (opened tops first nest) h =
      let parts = all-parts Holds (top_items tops) (nest_items first nest) h in (tops-permitted tops parts.0, nest-permitted first nest parts.1)

  -- and of a path with a container's beginning and members after it
  pub open-permitted : (path : Path SymbolAt ℕ) (q : ℕ) (field : Option SymbolAt) (annotations : List SymbolAt) (p : ℕ) (kind : Kind) (members : Members SymbolAt ℕ)
      → PathIsPermitted (open_in path q field annotations p kind members) → PathIsPermitted path × MembersArePermitted members
  open-permitted (closed tops) q field annotations p kind members h = h
  open-permitted (opened tops first nest) q field annotations p kind members h = ((h.0, h.1.0), h.1.1)

-- ---- what a reading gives

-- the item that a step gives is permitted
abbrev pub GivesPermitted : {T : Type 0} → Rules → Step T → Type 0
GivesPermitted limits (Gives item after) = HeadIsPermitted limits item.head
GivesPermitted limits Ends = ⊤
GivesPermitted limits (Stops why place) = ⊤
GivesPermitted limits (GoesOn after) = ⊤

module _ {T : Type 0} (limits : Rules) (step : T → Step T) (fine : (s : T) → GivesPermitted limits (step s)) where
  next-permitted : (later : T → Reading) (o : Step T) → GivesPermitted limits o → ((s : T) → ArePermitted limits (items_of (later s)))
      → ArePermitted limits (items_of (next_reading later o))
  next-permitted later Ends h more = tt
  next-permitted later (Stops why place) h more = tt
  next-permitted later (Gives item after) h more = (h, more after)
  next-permitted later (GoesOn after) h more = more after

  -- where each step gives what is permitted, a reading does
  pub reading-permitted : (n : ℕ) (s : T) → ArePermitted limits (items_of (reading_for step n s))
  reading-permitted zero s = tt
  reading-permitted (suc n) s = next-permitted (λ t. reading_for step n t) (step s) (fine s) (λ t. reading-permitted n t)
