-- What contracts of the code say of the parts of an item.
use Rattle.std.specs.Prelude.{ℕ, zero, suc, ◌+◌, ◌*◌, ◌%◌, nat_lt, if◌then◌else◌, length, take, Result, Ok, Err}
use Rattle.ion_meter.specs.declared.fault.Reason.{Reason}
use Rattle.ion_meter.specs.declared.fault.Reason.TheVariants.{BadVar, ScalarLimit, Truncated}
use Rattle.ion_meter.specs.declared.profile.Rules.{Rules}
use Rattle.ion_value.specs.Scalar.{scalar_of_body}
use Rattle.ion_value.specs.Value.{Symbol, Scalar}
use Rattle.ion_meter.specs.Sources.{Cursor, skip}
use Rattle.ion_value.specs.Parts.{◌>>=◌, ◌>>◌, refuse}
use Rattle.ion_binary.specs.Descriptor.{Region, octet_at}

-- the VarUInt of which some octets were taken and spell a number, and so many more may come
unfoldable pub var_from : ℕ → ℕ → Region → Cursor → Result (ℕ × Cursor) Reason
var_from zero value r c = Err BadVar
var_from (suc most) value r c = do
  b ← octet_at r c
  if nat_lt b.0 128 then var_from most (value * 128 + b.0) r b.1 else Ok (value * 128 + b.0 % 128, b.1)

-- a scalar whose body has n octets, which fit the region
unfoldable pub body_here : Rules → ℕ → ℕ → Cursor → Result (Scalar Symbol × Cursor) Reason
body_here limits type_code n c = do
  refuse (nat_lt limits.scalar n) ScalarLimit
  refuse (nat_lt (length c.rest) n) Truncated
  v ← scalar_of_body type_code (take n c.rest)
  Ok (v, skip n c)
