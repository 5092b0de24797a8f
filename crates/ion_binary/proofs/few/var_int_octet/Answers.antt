use Rattle.ion_binary.proofs.Below.{◌≡◌, ◌+◌, ◌<◌, Bool, true, false, [], ◌∷◌, ℕ, subst, sym, arith, var_int_octets}
use Rattle.ion_binary.proofs.ShortDecimals.{small-exponent}
use Rattle.ion_binary.proofs.few.var_int_octet.Goals as goal

pub returns-then-negative : goal.returns-then-negative
returns-then-negative c =
    let n : ℕ = c.args.magnitude in
    let few : n < 64 = let f = c.if-magnitude-ge64.false in omega (arith, f) in
    let P : Bool → Type 0 = λ b. (192 + n) ∷ [] ≡ var_int_octets b n in
    subst P (sym c.if-negative.true) (small-exponent true n few)

pub returns : goal.returns
returns c =
    let n : ℕ = c.args.magnitude in
    let few : n < 64 = let f = c.if-magnitude-ge64.false in omega (arith, f) in
    let P : Bool → Type 0 = λ b. (128 + n) ∷ [] ≡ var_int_octets b n in
    subst P (sym c.if-negative.false) (small-exponent false n few)
