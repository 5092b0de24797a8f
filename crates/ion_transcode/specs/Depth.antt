-- How many containers are open inside each other in the values of a stream that was read: no more than the limit says. A law that
-- contracts cite.
use Rattle.std.specs.Prelude.{◌≡◌, ℕ, suc, ◌<◌, List, Some, ⊤}
use Rattle.std.specs.List.{AllByRecursion}
use Rattle.ion_meter.specs.declared.limits.Limits.{Limits}
use Rattle.ion_meter.specs.declared.profile.Profile.{Profile}
use Rattle.ion_value.specs.Path.{closed, path_items}
use Rattle.ion_value.specs.Reading.{Finished, items_then}
use Rattle.ion_value.specs.Value.{SymbolAt, UserSymbol, Value, Members, scalar, container, nothing, member, Top, version, tree}
use Rattle.ion_symbols.specs.Table.{Shared, system}
use Rattle.ion_symbols.specs.Tree.{user_tops}
use Rattle.ion_transcode.specs.declared.to.Form.{Form}
use Rattle.ion_transcode.specs.Forms.{reading_of}

abbrev mutual
  -- where so many containers are open (the second number), a value opens no more inside each other than the first number says
  pub ValueIsNoDeeper : {S P : Type 0} → ℕ → ℕ → Value S P → Type 0
  ValueIsNoDeeper most depth (scalar body) = ⊤
  ValueIsNoDeeper most depth (container kind members last) = (depth < most) × MembersAreNoDeeper most (suc depth) members

  -- nor does a member of a container
  pub MembersAreNoDeeper : {S P : Type 0} → ℕ → ℕ → Members S P → Type 0
  MembersAreNoDeeper most depth nothing = ⊤
  MembersAreNoDeeper most depth (member before f annotations place x) =
      MembersAreNoDeeper most depth before × ValueIsNoDeeper most depth x

-- nor does a value at top level
abbrev pub IsNoDeeper : {S P : Type 0} → ℕ → Top S P → Type 0
IsNoDeeper most (version place) = ⊤
IsNoDeeper most (tree first annotations place x) = ValueIsNoDeeper most 0 x

-- the values of a stream that is read to its end open no more than the limit says, and so do its user values
abbrev pub WhatIsReadIsNoDeeper : Type 0
WhatIsReadIsNoDeeper =
    (profile : Profile) (form : Form) (catalog : List Shared) (limits : Limits) (bytes : List ℕ) (tops : List (Top SymbolAt ℕ))
    (us : List (Top UserSymbol ℕ))
    → reading_of profile form limits bytes ≡ items_then (path_items (closed tops)) Finished → user_tops catalog system tops ≡ Some us
    → AllByRecursion (IsNoDeeper limits.depth) tops × AllByRecursion (IsNoDeeper limits.depth) us
