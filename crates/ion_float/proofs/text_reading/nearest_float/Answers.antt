use Rattle.std.proofs.Common.{◌≡◌, Option, Some, None, ◌∙◌, sym}
use Rattle.std.specs.Float.Parse.{parse_float}
use lib.Ieee.{Float, binary64}
use Rattle.ion_value.specs.Float.{value_of}
use Rattle.ion_float.proofs.TextReading.{parsed-finite, parsed-infinite}
use Rattle.ion_float.proofs.text_reading.nearest_float.Goals as goal

pub returns-in-Ok-clause-read : goal.returns-in-Ok-clause-read
returns-in-Ok-clause-read c =
    parsed-finite (parse_float binary64 c.args.text.now) c.in-Ok.value (value_of c.from_number.result) c.in-Ok.ensures.exact c.from_number.ensures
    (sym c.is_finite.ensures.value ∙ c.if-is_finite.true)

pub returns-in-Ok-2-clause-read : goal.returns-in-Ok-2-clause-read
returns-in-Ok-2-clause-read c =
    parsed-infinite (parse_float binary64 c.args.text.now) c.in-Ok.value c.in-Ok.ensures.exact
    (sym c.is_finite.ensures.value ∙ c.if-is_finite.false)

parsed-some : (o : Option Float) (v : Float) → o ≡ Some v → o ≡ None → ⊥
parsed-some o v is none = cc

pub returns-in-Ok-clause-other : goal.returns-in-Ok-clause-other
returns-in-Ok-clause-other c = λ none. absurd (parsed-some (parse_float binary64 c.args.text.now) c.in-Ok.value c.in-Ok.ensures.exact none)

pub returns-in-Ok-2-clause-other : goal.returns-in-Ok-2-clause-other
returns-in-Ok-2-clause-other c = λ none. absurd (parsed-some (parse_float binary64 c.args.text.now) c.in-Ok.value c.in-Ok.ensures.exact none)
