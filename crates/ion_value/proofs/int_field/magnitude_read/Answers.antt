use Rattle.std.proofs.Common.{◌≡◌, ◌+◌, ◌*◌, ◌%◌, ◌^◌, ◌<◌, ◌∷◌, length, arith, refl, sym}
use Rattle.std.proofs.lemmas.Bool.{false≢true}
use Rattle.ion_value.specs.Number.{number}
use Rattle.ion_value.proofs.Octets.{high-large, high-value, high-fits}
use Rattle.ion_value.proofs.int_field.magnitude_read.Goals.{After-uint_value}
use Rattle.ion_value.proofs.int_field.magnitude_read.Goals as goal

-- sixteen octets or more after a bit that is not zero
pub returns-then-rest-gt15-clause-range : goal.returns-then-rest-gt15-clause-range
returns-then-rest-gt15-clause-range c =
    let large = high-large c.args.high c.args.rest.now (omega arith) (omega arith) in
    (λ e. large, λ e. refl)

fits : (c : After-uint_value) → number 256 (c.args.high ∷ c.args.rest.now) < 2 ^ 128
fits c = high-fits c.args.high c.args.rest.now c.requires c.if-rest-gt15.false (λ k lt. omega (arith, c.type_inv.rest k))

value : (c : After-uint_value) → c.args.high * 2 ^ (8 * length c.args.rest.now) % 2 ^ 128 + c.uint_value.result ≡ number 256 (c.args.high ∷ c.args.rest.now)
value c = omega (arith, c.uint_value.ensures, high-value c.args.high (length c.args.rest.now) c.requires c.if-rest-gt15.false)

pub overflow_add-result : goal.overflow_add-result
overflow_add-result c = omega (arith, value c, fits c)

pub returns-clause-read : goal.returns-clause-read
returns-clause-read c = value c

pub returns-clause-range : goal.returns-clause-range
returns-clause-range c =
    (λ e. absurd (false≢true (sym e)), λ large. absurd (omega (arith, fits c)))
