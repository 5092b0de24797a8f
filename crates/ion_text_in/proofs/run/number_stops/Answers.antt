use Rattle.std.proofs.Common.{ℕ, Bool, not, eqb, ltb, ◌||◌, refl, arith}
use Rattle.std.proofs.lemmas.Simd.{zip2_splat}
use Rattle.std.proofs.lemmas.Bool.{agree_below_at}
use lib.Bits.{bit_or}
use Rattle.ion_text_in.specs.Runs.{is_sure_in_number}
use Rattle.ion_text_in.proofs.Lanes.{either, to_all, mapped_to_all, mask_of}
use Rattle.ion_text_in.proofs.run.number_stops.Goals as goal

abbrev stop : ℕ → Bool
stop x = ((eqb (bit_or x 32) 123 || eqb (bit_or x 32) 125) || (eqb x 44 || eqb x 47)) || ltb x 43

pub returns : goal.returns
returns c =
    let v = c.args.bytes in
    let long = c.fits-bytes.0 in
    let lower : ℕ → ℕ = λ x. bit_or x 32 in
    let low = zip2_splat bit_or v 32 32 long in
    let brackets = either _ _ v (mapped_to_all eqb lower v 32 123 long low) (mapped_to_all eqb lower v 32 125 long low) in
    let marks = either _ _ v (to_all eqb v 32 44 long) (to_all eqb v 32 47 long) in
    mask_of stop (λ x. not (is_sure_in_number x)) v (omega arith) c.fits-bytes.1
    (either _ _ v (either _ _ v brackets marks) (to_all ltb v 32 43 long))
    (λ x h. agree_below_at stop (λ y. not (is_sure_in_number y)) 256 x refl h)
