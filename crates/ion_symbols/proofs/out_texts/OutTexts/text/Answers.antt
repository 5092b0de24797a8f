use Rattle.std.proofs.Common.{◌<◌, length, arith}
use Rattle.std.proofs.lemmas.Grind.{common_steps}
use Rattle.ion_symbols.proofs.Placing.{text_bounds, text_there}
use Rattle.ion_symbols.proofs.Seeking.{texts_length}
use Rattle.ion_symbols.proofs.out_texts.OutTexts.text.Goals as goal

pub slice_bounds-result-count : goal.slice_bounds-result-count
slice_bounds-result-count g c =
    let l : c.args.number < length c.args.self.now.places.items = omega (arith, texts_length c.args.self.now, c.requires.within) in
    (text_bounds c.args.self.now.bytes c.as_slice-2.result.now c.args.self.now.places.items c.as_slice.result.now c.args.number (record { from = 0; to = 0; next = 0 }) c.requires.kept.texts.follow c.as_slice-2.ensures c.as_slice.ensures l).0

pub slice_bounds-result-start : goal.slice_bounds-result-start
slice_bounds-result-start g c =
    let l : c.args.number < length c.args.self.now.places.items = omega (arith, texts_length c.args.self.now, c.requires.within) in
    let h = text_bounds c.args.self.now.bytes c.as_slice-2.result.now c.args.self.now.places.items c.as_slice.result.now c.args.number (record { from = 0; to = 0; next = 0 }) c.requires.kept.texts.follow c.as_slice-2.ensures c.as_slice.ensures l in
    omega (arith, h.0, h.1)

pub slice_bounds-result-end : goal.slice_bounds-result-end
slice_bounds-result-end g c =
    let l : c.args.number < length c.args.self.now.places.items = omega (arith, texts_length c.args.self.now, c.requires.within) in
    let h = text_bounds c.args.self.now.bytes c.as_slice-2.result.now c.args.self.now.places.items c.as_slice.result.now c.args.number (record { from = 0; to = 0; next = 0 }) c.requires.kept.texts.follow c.as_slice-2.ensures c.as_slice.ensures l in
    omega (arith, h.0, h.1)

pub returns : goal.returns
returns g c =
    let l : c.args.number < length c.args.self.now.places.items = omega (arith, texts_length c.args.self.now, c.requires.within) in
    text_there c.args.self.now.bytes c.as_slice-2.result.now c.args.self.now.places.items c.as_slice.result.now c.args.number (record { from = 0; to = 0; next = 0 }) c.as_slice-2.ensures c.as_slice.ensures l

pub bounds-as_slice-number : goal.bounds-as_slice-number
bounds-as_slice-number g c = grind (arith, common_steps)
