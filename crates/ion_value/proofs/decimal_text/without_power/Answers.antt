use Rattle.std.proofs.Common.{pos, ◌-ℤ◌, refl}
use Rattle.ion_value.proofs.TextDecimals.{after-nothing}
use Rattle.ion_value.proofs.decimal_text.without_power.Goals as goal

pub returns : goal.returns
returns c = (
  pos 0 -ℤ pos c.args.places,
  c.less_places.ensures 0 refl,
  λ negative n. after-nothing negative n c.args.places c.args.pointed c.if-not-pointed.false,
)
