use Rattle.std.proofs.Common.{◌≡◌, length, ap, ◌∙◌, sym, arith}
use Rattle.ion_symbols.proofs.Seeking.{texts_length}
use Rattle.ion_symbols.proofs.out_texts.OutTexts.len.Goals as goal

pub returns : goal.returns
returns g c =
    let n : length c.as_slice.result.now ≡ length c.args.self.now.places.items = ap length c.as_slice.ensures in
    (n ∙ sym (texts_length c.args.self.now), omega (arith, n, c.requires.kept.texts.few))
