use Rattle.std.proofs.Common.{sym, ap, ◌∙◌, Some}
use Rattle.ion_value.specs.Items.{named_at, raw_annotation}
use Rattle.ion_value.proofs.Items.{slice_get-two_maps}
use Rattle.ion_value.proofs.item.Annotations.get.Goals as goal

pub returns : goal.returns
returns g c =
    let self = c.args.self.now in
    ap Some c.symbol.ensures
    ∙ sym (slice_get-two_maps (named_at (g.N.Names.text self.names.now)) (raw_annotation self.texts.now) self.entries.now c.args.index _ c.if-index-self.false)
