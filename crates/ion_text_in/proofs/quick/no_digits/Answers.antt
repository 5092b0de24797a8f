use Rattle.std.proofs.Common.{ℕ, Bool, not, ltb, ◌||◌, refl, arith}
use Rattle.std.proofs.lemmas.Bool.{agree_below_at}
use Rattle.ion_value.specs.Digits.{is_digit}
use Rattle.ion_text_in.proofs.Lanes.{either, to_all, from_all, mask_of}
use Rattle.ion_text_in.proofs.quick.no_digits.Goals as goal

abbrev other : ℕ → Bool
other x = ltb x 48 || ltb 57 x

pub returns : goal.returns
returns c =
    let v = c.args.bytes in
    let long = c.fits-bytes.0 in
    mask_of other (λ x. not (is_digit x)) v (omega arith) c.fits-bytes.1 (either _ _ v (to_all ltb v 16 48 long) (from_all ltb v 16 57 long))
    (λ x h. agree_below_at other (λ y. not (is_digit y)) 256 x refl h)
