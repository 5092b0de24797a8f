-- The symbols of what is written: they are resolved when it is read again, under the limits of its writer and whatever the catalogue,
-- and their texts are short.
use Rattle.std.specs.Prelude.{ℕ, ◌≤◌, List, [], None, ⊤}
use Rattle.std.specs.List.{AllByRecursion}
use Rattle.ion_meter.specs.Limits.{AreChecked}
use Rattle.ion_meter.specs.Rules.{rules}
use Rattle.ion_meter.specs.declared.limits.Limits.{Limits}
use Rattle.ion_meter.specs.declared.profile.Profile.{Profile}
use Rattle.ion_meter.specs.declared.profile.Rules.{Rules}
use Rattle.ion_value.specs.Value.{SymbolAt, UserSymbol, Top, version, tree}
use Rattle.ion_value.specs.Writable.{value_symbols}
use Rattle.ion_symbols.specs.Resolved.{AreResolved}
use Rattle.ion_symbols.specs.Table.{Shared, system}
use Rattle.ion_symbols.specs.UserValues.{IsUser}
use Rattle.ion_binary.specs.Canonical.{binary}
use Rattle.ion_binary.specs.Grammar.{Stream}
use Rattle.ion_binary.specs.Refusals.{AreWithin}
use Rattle.ion_binary.specs.WrittenLimits.{SymbolFits}

-- where a writer refuses nothing, each declaration that it writes is accepted, and each id that it writes stands in its table
abbrev pub WhatIsWrittenIsResolved : Type 0
WhatIsWrittenIsResolved =
    (catalog : List Shared) (limits : Limits) (us : List (Top UserSymbol ℕ)) (raw : List (Top SymbolAt ℕ)) → AreChecked limits
    → AllByRecursion IsUser us → AreWithin limits [] us → Stream (binary limits.symbols us) raw
    → AreResolved catalog limits.symbols system raw

-- all symbols of a value at top level fit
abbrev pub SymbolsFit : Rules → Top UserSymbol ℕ → Type 0
SymbolsFit limits (version place) = ⊤
SymbolsFit limits (tree first annotations place x) = AllByRecursion (SymbolFits limits) (value_symbols None annotations x)

-- where the limit on scalars is no lower than that on symbols, so it is of all values of which a writer refuses nothing
abbrev pub TextsWithinFit : Type 0
TextsWithinFit =
    (limits : Limits) (profile : Profile) (us : List (Top UserSymbol ℕ)) → limits.symbols ≤ limits.scalar → AreWithin limits [] us
    → AllByRecursion (SymbolsFit (rules limits profile)) us
