-- What laws of a reading speak of: how it ends, which limits it is under, and whose items begin another's.
use Rattle.std.specs.Prelude.{◌≡◌, ℕ, ◌*◌, ◌≤◌, ◌⊎◌, true, List, ◌++◌, length, ⊤}
use Rattle.std.specs.List.{AllByRecursion}
use Rattle.ion_meter.specs.declared.fault.Reason.{Reason}
use Rattle.ion_meter.specs.declared.fault.Reason.TheVariants.{DepthLimit, ScalarLimit, AnnotationLimit}
use Rattle.ion_meter.specs.declared.profile.Rules.{Rules}
use Rattle.ion_value.specs.Value.{PlacedItem, Scalar, null, bool, int, float, decimal, timestamp, symbol, string, clob, blob, Head, whole, begin, end, marker}
use Rattle.ion_value.specs.Reading.{Reading, Finished, Stopped, More}

-- how a reading ends
abbrev pub ending_of : Reading → Reading
ending_of Finished = Finished
ending_of (Stopped reason place) = Stopped reason place
ending_of (More item rest) = ending_of rest

-- the reasons of the limits that an item's own parts may pass
abbrev pub IsLimit : Reason → Type 0
IsLimit reason = (reason ≡ DepthLimit) ⊎ (reason ≡ ScalarLimit) ⊎ (reason ≡ AnnotationLimit)

-- rules whose limits nothing that stands in these bytes passes
abbrev pub Allows : Rules → List ℕ → Type 0
Allows limits bytes = (length bytes ≤ limits.depth) × (16 * length bytes ≤ limits.scalar)

-- rules of which the others pass nothing that these do not
pub record AreWithin (limits wide : Rules) : Type 0 where
  pub depth : limits.depth ≤ wide.depth
  pub scalar : limits.scalar ≤ wide.scalar
  pub floats : limits.floats ≡ true → wide.floats ≡ true

-- a scalar is no float, or floats are read
abbrev pub IsPermitted : {S : Type 0} → Rules → Scalar S → Type 0
IsPermitted limits (float number) = limits.floats ≡ true
IsPermitted limits (null type) = ⊤
IsPermitted limits (bool truth) = ⊤
IsPermitted limits (int number) = ⊤
IsPermitted limits (decimal number) = ⊤
IsPermitted limits (timestamp moment) = ⊤
IsPermitted limits (symbol name) = ⊤
IsPermitted limits (string bytes) = ⊤
IsPermitted limits (clob bytes) = ⊤
IsPermitted limits (blob bytes) = ⊤

-- so is an item that is a scalar
abbrev pub HeadIsPermitted : {S : Type 0} → Rules → Head S → Type 0
HeadIsPermitted limits (whole body) = IsPermitted limits body
HeadIsPermitted limits (begin kind) = ⊤
HeadIsPermitted limits end = ⊤
HeadIsPermitted limits marker = ⊤

-- so are these items
abbrev pub ArePermitted : Rules → List PlacedItem → Type 0
ArePermitted limits items = AllByRecursion (λ (item : PlacedItem). HeadIsPermitted limits item.head) items

-- one list of items begins another
abbrev pub IsBegun : List PlacedItem → List PlacedItem → Type 0
IsBegun items all = (more : List PlacedItem) × (all ≡ items ++ more)
