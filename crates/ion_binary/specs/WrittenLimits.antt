-- What is written is read again under the limits of its writer: which values these allow, by lengths and numbers alone.
use Rattle.std.specs.Prelude.{◌≡◌, ℕ, suc, true, ◌*◌, ◌<◌, ◌≤◌, List, [], length, Option, Some, None, ⊤}
use Rattle.std.specs.List.{AllByRecursion}
use Rattle.ion_meter.specs.Limits.{AreChecked}
use Rattle.ion_meter.specs.Rules.{rules}
use Rattle.ion_meter.specs.declared.limits.Limits.{Limits}
use Rattle.ion_meter.specs.declared.profile.Profile.{Profile}
use Rattle.ion_meter.specs.declared.profile.Rules.{Rules}
use Rattle.ion_value.specs.declared.decimal.Decimal.{Decimal}
use Rattle.ion_value.specs.declared.timestamp.Timestamp.{Timestamp}
use Rattle.ion_value.specs.Decimal.{IsDecimal, decimal_body}
use Rattle.ion_value.specs.FloatOctets.{float_octets}
use Rattle.ion_value.specs.Number.{uint_octets}
use Rattle.ion_value.specs.Path.{closed, path_items}
use Rattle.ion_value.specs.Reading.{Finished, items_then}
use Rattle.ion_value.specs.Timestamp.{IsTimestamp, timestamp_body}
use Rattle.ion_value.specs.Value as value
use Rattle.ion_value.specs.Value.{SymbolAt, UserSymbol, Known, Unknown, Scalar, Value, Members, scalar, container, nothing, member, Top, version, tree}
use Rattle.ion_value.specs.Writable.{value_symbols}
use Rattle.ion_symbols.specs.Output.{system_id}
use Rattle.ion_symbols.specs.UserValues.{IsUser}
use Rattle.ion_binary.specs.Grammar.{Stream}
use Rattle.ion_binary.specs.Reading.{reading}
use Rattle.ion_binary.specs.Canonical.{binary}
use Rattle.ion_binary.specs.Refusals.{AreWithin}

-- the most octets that the id of a text has: one of the system symbol table's, and four of one that is declared
abbrev pub id_size : Option ℕ → ℕ
id_size (Some id) = 1
id_size None = 4

-- the id of a symbol is no longer than the limit on scalars; that of unknown text has no octets
abbrev pub IdFits : Rules → UserSymbol → Type 0
IdFits limits (Known t) = id_size (system_id t) ≤ limits.scalar
IdFits limits Unknown = ⊤

-- the body of a scalar is no longer than that limit, and a float is permitted
abbrev pub ScalarFits : Rules → Scalar UserSymbol → Type 0
ScalarFits limits (value.null type) = ⊤
ScalarFits limits (value.bool truth) = ⊤
ScalarFits limits (value.int number) = length (uint_octets number.magnitude) ≤ limits.scalar
ScalarFits limits (value.float number) = (length (float_octets number) ≤ limits.scalar) × (limits.floats ≡ true)
ScalarFits limits (value.decimal number) = length (decimal_body number) ≤ limits.scalar
ScalarFits limits (value.timestamp moment) = length (timestamp_body moment) ≤ limits.scalar
ScalarFits limits (value.symbol name) = IdFits limits name
ScalarFits limits (value.string bytes) = length bytes ≤ limits.scalar
ScalarFits limits (value.clob bytes) = length bytes ≤ limits.scalar
ScalarFits limits (value.blob bytes) = length bytes ≤ limits.scalar

-- so decimals and timestamps are where the limit is 26 or more
abbrev pub NumbersFit : Type 0
NumbersFit =
    (limits : Rules) → 26 ≤ limits.scalar
    → ((d : Decimal) → IsDecimal d → ScalarFits limits (value.decimal d))
    × ((t : Timestamp) → IsTimestamp t → ScalarFits limits (value.timestamp t))

-- annotations, each counting 16, cost no more than the limit on scalars
abbrev pub AnnotationsFit : {S : Type 0} → Rules → List S → Type 0
AnnotationsFit limits annotations = 16 * length annotations ≤ limits.scalar

abbrev mutual
  -- where so many containers are open, a value opens no more than the limit says, and its scalars and annotations fit
  pub ValueFits : {P : Type 0} → Rules → ℕ → Value UserSymbol P → Type 0
  ValueFits limits depth (scalar body) = ScalarFits limits body
  ValueFits limits depth (container kind members last) = (depth < limits.depth) × MembersFit limits (suc depth) members

  -- so it is with each member of a container
  pub MembersFit : {P : Type 0} → Rules → ℕ → Members UserSymbol P → Type 0
  MembersFit limits depth nothing = ⊤
  MembersFit limits depth (member before f annotations place x) =
      MembersFit limits depth before × AnnotationsFit limits annotations × ValueFits limits depth x

-- the text of a symbol, where the system symbol table has it not, so that a declaration has it as a string, is no longer than the limit
-- on scalars
abbrev pub SymbolFits : Rules → UserSymbol → Type 0
SymbolFits limits (Known t) = system_id t ≡ None → length t ≤ limits.scalar
SymbolFits limits Unknown = ⊤

-- limits under which a declaration is read, which opens two containers and has one annotation
pub record AllowDeclarations (limits : Rules) : Type 0 where
  pub depth : 2 ≤ limits.depth
  pub scalar : 16 ≤ limits.scalar

-- limits allow the declaration of a text that the system symbol table has not
abbrev pub MayBeDeclared : Rules → UserSymbol → Type 0
MayBeDeclared limits (Known t) = system_id t ≡ None → AllowDeclarations limits
MayBeDeclared limits Unknown = ⊤

-- a value at top level fits, with all its symbols
abbrev pub FitsBinary : {P : Type 0} → Rules → Top UserSymbol P → Type 0
FitsBinary limits (version place) = ⊤
FitsBinary limits (tree first annotations place x) =
    let symbols = value_symbols None annotations x in
    AnnotationsFit limits annotations × ValueFits limits 0 x × AllByRecursion (SymbolFits limits) symbols × AllByRecursion (MayBeDeclared limits) symbols

-- where a writer refuses nothing, and the values fit, what is written of them is read to its end under the same limits
abbrev pub WhatIsWrittenIsWithinLimits : Type 0
WhatIsWrittenIsWithinLimits =
    (limits : Limits) (profile : Profile) (us : List (Top UserSymbol ℕ)) (raw : List (Top SymbolAt ℕ)) → AreChecked limits
    → AllByRecursion IsUser us → AreWithin limits [] us → AllByRecursion (FitsBinary (rules limits profile)) us
    → Stream (binary limits.symbols us) raw
    → reading (rules limits profile) (binary limits.symbols us) ≡ items_then (path_items (closed raw)) Finished
