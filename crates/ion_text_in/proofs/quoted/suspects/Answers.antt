use Rattle.std.proofs.Common.{◌≡◌, ℕ, ◌+◌, ◌-◌, ◌%◌, not, eqb, leb, ◌||◌, sym, ap, ◌∙◌, arith}
use Rattle.std.proofs.lemmas.Simd.{zip2_splat}
use Rattle.ion_text_in.specs.Quotes.{is_sure}
use Rattle.ion_text_in.proofs.Lanes.{either, to_all, from_all, mapped_from_all, mask_of}
use Rattle.ion_text_in.proofs.Suspects.{round, others_of, suspect}
use Rattle.ion_text_in.proofs.quoted.suspects.Goals.{then-in_clob, else-in_clob}
use Rattle.ion_text_in.proofs.quoted.suspects.Goals as goal

pub returns : goal.returns
returns c =
    let v = c.args.bytes in
    let m = c.args.mark in
    let g = c.if-in_clob.others in
    let first : g ≡ others_of c.args.in_clob = elim c.if-in_clob.branch [
      | then-in_clob w ↦ w.others-is ∙ ap others_of (sym w.if-in_clob.true)
      | else-in_clob w ↦ w.others-is ∙ ap others_of (sym w.if-in_clob.false)
    ] in
    let long = c.fits-bytes.0 in
    let counted = zip2_splat (λ (a b : ℕ). (a + (256 - b)) % 256) v 32 32 long in
    let marks = either _ _ v (from_all eqb v 32 m long) (to_all eqb v 32 92 long) in
    let all = either _ _ v marks (mapped_from_all leb round v 32 g long counted) in
    mask_of (λ x. (eqb m x || eqb x 92) || leb g (round x)) (λ x. not (is_sure m c.args.in_clob x)) v (omega arith) c.fits-bytes.1 all
    (λ x h. ap (λ k. (eqb m x || eqb x 92) || leb k (round x)) first ∙ suspect m c.args.in_clob x h)
