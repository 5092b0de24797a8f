-- Numbers that text spells under a limit fit that limit in binary too.
use Rattle.std.specs.Prelude.{◌≡◌, ℕ, ◌≤◌, List, length, Ok}
use Rattle.ion_meter.specs.declared.profile.Rules.{Rules}
use Rattle.ion_value.specs.declared.decimal.Decimal.{Decimal}
use Rattle.ion_value.specs.declared.timestamp.Timestamp.{Timestamp}
use Rattle.ion_value.specs.Decimal.{IsDecimal, decimal_of_text}
use Rattle.ion_value.specs.Timestamp.{IsTimestamp, timestamp_of_text}
use Rattle.ion_value.specs.Value as value
use Rattle.ion_binary.specs.WrittenLimits.{ScalarFits}

-- where the limit is 16 or more, each decimal and each timestamp that a run no longer than the limit spells
abbrev pub NumbersInTextFit : Type 0
NumbersInTextFit =
    (limits : Rules) → 16 ≤ limits.scalar
    → ((d : Decimal) (run : List ℕ) → IsDecimal d → decimal_of_text run ≡ Ok d → length run ≤ limits.scalar
    → ScalarFits limits (value.decimal d))
    × ((t : Timestamp) (run : List ℕ) → IsTimestamp t → timestamp_of_text run ≡ Ok t → length run ≤ limits.scalar
    → ScalarFits limits (value.timestamp t))
