-- Profiles, and the rules by which a reader goes.
use Rattle.std.specs.Prelude.{◌≤◌, ◌^◌, true, false}
use Rattle.ion_meter.specs.declared.limits.Limits.{Limits}
use Rattle.ion_meter.specs.declared.profile.Profile.{Profile}
use Rattle.ion_meter.specs.declared.profile.Rules.{Rules}

-- no floats other than `null.float`
abbrev pub strict : Profile
strict = record { floats = false }

-- floats too
abbrev pub floats : Profile
floats = record { floats = true }

-- the rules of a reader with these limits and this profile
abbrev pub rules : Limits → Profile → Rules
rules limits profile = record { depth = limits.depth; scalar = limits.scalar; floats = profile.floats }

-- those of a reader where a caller gives no profile
abbrev pub strictly : Limits → Rules
strictly limits = rules limits strict

-- the rules that a reader may have
pub record AreSmall (r : Rules) : Type 0 where
  pub depth : r.depth ≤ 65535
  pub scalar : r.scalar ≤ 2 ^ 30
