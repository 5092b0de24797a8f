use Rattle.ion_text_out.proofs.Below.{arith, common_steps}
use Rattle.ion_text_out.proofs.blob.put_piece.Goals as goal

pub returns : goal.returns
returns g c = grind (arith, common_steps)

pub invariant_of-encode_slice-2 : goal.invariant_of-encode_slice-2
invariant_of-encode_slice-2 g c = grind (arith, common_steps)

pub shared_ref_as_front-put : goal.shared_ref_as_front-put
shared_ref_as_front-put g c = grind (arith, common_steps)
