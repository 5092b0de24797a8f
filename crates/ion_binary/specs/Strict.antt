-- What is read where a caller gives no profile: no floats other than `null.float`.
use Rattle.std.specs.Prelude.{ℕ, List}
use Rattle.ion_meter.specs.declared.limits.Limits.{Limits}
use Rattle.ion_meter.specs.Rules.{strictly}
use Rattle.ion_meter.specs.Sources.{Cursor}
use Rattle.ion_value.specs.Reading.{Reading}
use Rattle.ion_binary.specs.Reading as by_rules

-- all that a reader gives from here on
abbrev pub reading_from : Limits → Cursor → Reading
reading_from limits c = by_rules.reading_from (strictly limits) c

-- all that a reader gives of these bytes
abbrev pub reading : Limits → List ℕ → Reading
reading limits bytes = by_rules.reading (strictly limits) bytes
