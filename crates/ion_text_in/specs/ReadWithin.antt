-- What was read under limits is within them: of a text that is read to its end they allow all that stands there, and its values.
use Rattle.std.specs.Prelude.{◌≡◌, ℕ, suc, ◌<◌, ◌≤◌, List, length, sum_by, true, None, Ok, ⊤}
use Rattle.std.specs.List.{AllByRecursion}
use Rattle.ion_meter.specs.declared.profile.Rules.{Rules}
use Rattle.ion_value.specs.Decimal.{decimal_of_text}
use Rattle.ion_value.specs.FloatText.{float_of_text}
use Rattle.ion_value.specs.Path.{closed, path_items}
use Rattle.ion_value.specs.Reading.{Finished, items_then}
use Rattle.ion_value.specs.Timestamp.{timestamp_of_text}
use Rattle.ion_value.specs.Value as value
use Rattle.ion_value.specs.Value.{Symbol, SymbolAt, Scalar, Value, Members, scalar, container, nothing, member, Top, version, tree}
use Rattle.ion_value.specs.Writable.{value_symbols}
use Rattle.ion_text_in.specs.Grammar.{Stream}
use Rattle.ion_text_in.specs.Reading.{cost, reading}
use Rattle.ion_text_in.specs.Within.{TopsWithin}

-- where a stream is read to its end, the limits allow what stands in it
abbrev pub WhatIsReadIsWithin : Type 0
WhatIsReadIsWithin =
    (limits : Rules) (bytes : List ℕ) (tops : List (Top SymbolAt ℕ)) (is : Stream bytes tops)
    → reading limits bytes ≡ items_then (path_items (closed tops)) Finished → TopsWithin limits is.spells

-- ---- values

-- the text of a symbol, where it has one, is no longer than the limit on scalars
abbrev pub SymbolIsWithin : Rules → Symbol → Type 0
SymbolIsWithin limits (value.Text bytes) = length bytes ≤ limits.scalar
SymbolIsWithin limits (value.Id id) = ⊤

-- so are the bytes of a string or lob, and a run that spells a decimal or timestamp, or a float, where these are read
abbrev pub ScalarIsWithin : Rules → Scalar SymbolAt → Type 0
ScalarIsWithin limits (value.null type) = ⊤
ScalarIsWithin limits (value.bool truth) = ⊤
ScalarIsWithin limits (value.int number) = ⊤
ScalarIsWithin limits (value.float number) =
    (limits.floats ≡ true) × (run : List ℕ) × (float_of_text run ≡ Ok number) × (length run ≤ limits.scalar)
ScalarIsWithin limits (value.decimal number) =
    (run : List ℕ) × (decimal_of_text run ≡ Ok number) × (length run ≤ limits.scalar)
ScalarIsWithin limits (value.timestamp moment) =
    (run : List ℕ) × (timestamp_of_text run ≡ Ok moment) × (length run ≤ limits.scalar)
ScalarIsWithin limits (value.symbol name) = ⊤
ScalarIsWithin limits (value.string bytes) = length bytes ≤ limits.scalar
ScalarIsWithin limits (value.clob bytes) = length bytes ≤ limits.scalar
ScalarIsWithin limits (value.blob bytes) = length bytes ≤ limits.scalar

-- annotations cost no more than that limit
abbrev pub AnnotationsAreWithin : Rules → List SymbolAt → Type 0
AnnotationsAreWithin limits annotations = sum_by cost annotations ≤ limits.scalar

abbrev mutual
  -- inside so many containers a value opens no more than the limit says, and what it contains is within the limits
  pub ValueIsWithin : Rules → ℕ → Value SymbolAt ℕ → Type 0
  ValueIsWithin limits depth (scalar body) = ScalarIsWithin limits body
  ValueIsWithin limits depth (container kind members last) = (depth < limits.depth) × MembersAreWithin limits (suc depth) members

  -- so it is with members
  pub MembersAreWithin : Rules → ℕ → Members SymbolAt ℕ → Type 0
  MembersAreWithin limits depth nothing = ⊤
  MembersAreWithin limits depth (member before field annotations place x) =
      MembersAreWithin limits depth before × AnnotationsAreWithin limits annotations × ValueIsWithin limits depth x

-- and with a value at top level and all its symbols
abbrev pub TopIsWithin : Rules → Top SymbolAt ℕ → Type 0
TopIsWithin limits (version place) = ⊤
TopIsWithin limits (tree first annotations place x) =
    AnnotationsAreWithin limits annotations × ValueIsWithin limits 0 x
    × AllByRecursion (λ (s : SymbolAt). SymbolIsWithin limits s.symbol) (value_symbols None annotations x)

-- where a stream is read to its end, its values are within the limits
abbrev pub ValuesReadAreWithin : Type 0
ValuesReadAreWithin =
    (limits : Rules) (bytes : List ℕ) (tops : List (Top SymbolAt ℕ)) → Stream bytes tops
    → reading limits bytes ≡ items_then (path_items (closed tops)) Finished → AllByRecursion (TopIsWithin limits) tops
