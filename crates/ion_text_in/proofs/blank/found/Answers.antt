use Rattle.std.proofs.Common.{not, eqb, ◌||◌, arith}
use Rattle.ion_text_in.specs.Overrun.{is_neither}
use Rattle.ion_text_in.proofs.Lanes.{either, to_all, mask_of}
use Rattle.ion_text_in.proofs.Blocks.{not_not}
use Rattle.ion_text_in.proofs.blank.found.Goals as goal

pub returns : goal.returns
returns c =
    let v = c.args.bytes in
    let long = c.fits-bytes.0 in
    mask_of (λ x. eqb x c.args.first || eqb x c.args.second) (λ x. not (is_neither c.args.first c.args.second x)) v (omega arith) c.fits-bytes.1
    (either _ _ v (to_all eqb v 32 c.args.first long) (to_all eqb v 32 c.args.second long)) (λ x h. not_not (eqb x c.args.first || eqb x c.args.second))
