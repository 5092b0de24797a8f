use Rattle.std.proofs.Common.{arith}
use Rattle.std.proofs.lemmas.Grind.{common_steps}
use Rattle.ion_symbols.proofs.Placing.{text_bounds}
use Rattle.ion_symbols.proofs.PuttingInOrder.{among_ordered, among_texts, among_none, among_belongs}
use Rattle.ion_symbols.proofs.out_texts.OutTexts.place_among.Goals as goal

pub slice_bounds-text-count : goal.slice_bounds-text-count
slice_bounds-text-count g c =
    (text_bounds c.args.self.now.bytes c.as_slice-bytes.result.now c.args.self.now.places.items c.as_slice-places.result.now c.args.count (record { from = 0; to = 0; next = 0 }) c.requires.texts.follow c.as_slice-bytes.ensures c.as_slice-places.ensures c.requires.within).0

pub slice_bounds-text-start : goal.slice_bounds-text-start
slice_bounds-text-start g c =
    let h = text_bounds c.args.self.now.bytes c.as_slice-bytes.result.now c.args.self.now.places.items c.as_slice-places.result.now c.args.count (record { from = 0; to = 0; next = 0 }) c.requires.texts.follow c.as_slice-bytes.ensures c.as_slice-places.ensures c.requires.within in
    omega (arith, h.0, h.1)

pub slice_bounds-text-end : goal.slice_bounds-text-end
slice_bounds-text-end g c =
    let h = text_bounds c.args.self.now.bytes c.as_slice-bytes.result.now c.args.self.now.places.items c.as_slice-places.result.now c.args.count (record { from = 0; to = 0; next = 0 }) c.requires.texts.follow c.as_slice-bytes.ensures c.as_slice-places.ensures c.requires.within in
    omega (arith, h.0, h.1)

pub new-search-requires : goal.new-search-requires
new-search-requires g c =
    among_ordered c.args.self.now.bytes c.as_slice-bytes.result.now c.args.self.now.places.items c.as_slice-places.result.now c.args.self.now.ids.items c.as_slice.result.now c.args.count
    c.requires.texts c.requires.within c.requires.order c.as_slice-bytes.ensures c.as_slice-places.ensures c.as_slice.ensures

pub unreachable-requires : goal.unreachable-requires
unreachable-requires g c =
    let n = among_texts c.args.self.now.bytes c.as_slice-bytes.result.now c.args.self.now.places.items c.as_slice-places.result.now c.args.self.now.ids.items c.as_slice.result.now c.new-search.result.texts c.args.count
    c.as_slice-bytes.ensures c.as_slice-places.ensures c.as_slice.ensures c.new-search.ensures.texts in
    among_none c.args.self.now.bytes c.as_slice-bytes.result.now c.args.self.now.places.items c.as_slice-places.result.now c.args.self.now.ids.items c.new-search.result.texts c.args.count _ (record { from = 0; to = 0; next = 0 })
    c.requires.texts c.requires.within c.requires.order n c.as_slice-bytes.ensures c.as_slice-places.ensures c.in-Ok.ensures.found

pub returns : goal.returns
returns g c =
    let n = among_texts c.args.self.now.bytes c.as_slice-bytes.result.now c.args.self.now.places.items c.as_slice-places.result.now c.args.self.now.ids.items c.as_slice.result.now c.new-search.result.texts c.args.count
    c.as_slice-bytes.ensures c.as_slice-places.ensures c.as_slice.ensures c.new-search.ensures.texts in
    among_belongs c.args.self.now.bytes c.as_slice-bytes.result.now c.args.self.now.places.items c.as_slice-places.result.now c.args.self.now.ids.items c.new-search.result.texts c.args.count _ (record { from = 0; to = 0; next = 0 })
    c.requires.within n c.as_slice-bytes.ensures c.as_slice-places.ensures c.in-Err.ensures.belongs

pub slice_bounds-new-end-2 : goal.slice_bounds-new-end-2
slice_bounds-new-end-2 g c = grind (arith, common_steps)

pub slice_bounds-new-end : goal.slice_bounds-new-end
slice_bounds-new-end g c = grind (arith, common_steps)
