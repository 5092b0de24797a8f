use Rattle.std.proofs.Common.{◌∙◌, arith}
use Rattle.ion_symbols.proofs.LinkedTexts.{kept_parts_cost}
use Rattle.ion_symbols.proofs.out_texts.OutTexts.release.Goals as goal

pub release-requires : goal.release-requires
release-requires g c = let k = kept_parts_cost c.args.self c.requires.kept in omega (arith, k, c.requires.held)

pub release-requires-2 : goal.release-requires-2
release-requires-2 g c = let k = kept_parts_cost c.args.self c.requires.kept in omega (arith, k, c.requires.held, c.release.ensures.held)

pub release-requires-3 : goal.release-requires-3
release-requires-3 g c = let k = kept_parts_cost c.args.self c.requires.kept in omega (arith, k, c.requires.held, c.release.ensures.held, c.release-2.ensures.held)

pub returns : goal.returns
returns g c =
    let k = kept_parts_cost c.args.self c.requires.kept in
    record {
      held = omega (arith, k, c.release.ensures.held, c.release-2.ensures.held, c.release-3.ensures.held);
      peak = c.release-3.ensures.peak ∙ (c.release-2.ensures.peak ∙ c.release.ensures.peak);
      refused = c.release-3.ensures.refused ∙ (c.release-2.ensures.refused ∙ c.release.ensures.refused);
    }
