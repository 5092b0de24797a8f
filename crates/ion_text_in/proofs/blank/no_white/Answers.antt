use Rattle.std.proofs.Common.{ℕ, Bool, not, eqb, ltb, ◌&&◌, ◌||◌, refl, arith}
use Rattle.std.proofs.lemmas.Bool.{agree_below_at}
use Rattle.ion_text_in.specs.Blanks.{is_white}
use Rattle.ion_text_in.proofs.Lanes.{both, either, from_all, mask_of, to_all}
use Rattle.ion_text_in.proofs.blank.no_white.Goals as goal

abbrev other : ℕ → Bool
other x = (ltb x 9 || ltb 13 x) && not (eqb x 32)

pub returns : goal.returns
returns c =
    let v = c.args.bytes in
    let long = c.fits-bytes.0 in
    let control = either _ _ v (to_all ltb v 16 9 long) (from_all ltb v 16 13 long) in
    mask_of other (λ x. not (is_white x)) v (omega arith) c.fits-bytes.1 (both _ _ v control (to_all (λ a b. not (eqb a b)) v 16 32 long))
    (λ x h. agree_below_at other (λ y. not (is_white y)) 256 x refl h)
