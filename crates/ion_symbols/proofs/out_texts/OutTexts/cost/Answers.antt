use Rattle.std.proofs.Common.{◌≡◌, length, ap, arith}
use Rattle.ion_symbols.proofs.LinkedTexts.{kept_texts_cost}
use Rattle.ion_symbols.proofs.out_texts.OutTexts.cost.Goals as goal

pub returns : goal.returns
returns g c =
    let n : length c.as_slice.result.now ≡ length c.args.self.now.places.items = ap length c.as_slice.ensures in
    let m : length c.as_slice-2.result.now ≡ length c.args.self.now.bytes = ap length c.as_slice-2.ensures in
    let k = kept_texts_cost c.args.self.now c.requires.kept in
    omega (arith, n, m, k)
