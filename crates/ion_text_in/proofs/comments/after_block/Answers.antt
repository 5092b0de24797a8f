use Rattle.std.proofs.Common.{◌≤◌, length, arith}
use Rattle.std.proofs.lemmas.Grind.{common_steps}
use Rattle.ion_text_in.specs.Blanks.{blanks_at, in_block}
use Rattle.ion_text_in.proofs.FeedComments.{leads-block, leads-star, leads-then}
use Rattle.ion_text_in.proofs.comments.after_block.Goals as goal

pub returns-then-star-eq47 : goal.returns-then-star-eq47
returns-then-star-eq47 c some start =
    let bytes = c.args.bytes.now in
    let rest = c.block.rest.now in
    let star = c.after-star in
    let run = c.run_without in
    let two : 2 ≤ length star.result.now = grind (arith, c.if-star-lt2.false) in
    leads-then (in_block start) (in_block start) blanks_at bytes rest c.after.result.now (c.block.invariant start)
    (leads-block start rest star.result.now c.after.result.now run.result run.ensures.within run.ensures.run run.ensures.ends star.ensures two c.if-star-eq47.true c.after.ensures)

pub block-preserved : goal.block-preserved
block-preserved c start =
    let bytes = c.args.bytes.now in
    let rest = c.block.rest.now in
    let star = c.after-star in
    let run = c.run_without in
    let two : 2 ≤ length star.result.now = grind (arith, c.if-star-lt2.false) in
    leads-then (in_block start) (in_block start) (in_block start) bytes rest c.after-rest.result.now (c.block.invariant start)
    (leads-star start rest star.result.now c.after-rest.result.now run.result run.ensures.within run.ensures.run run.ensures.ends star.ensures two c.if-star-eq47.false c.after-rest.ensures)

pub block-smaller : goal.block-smaller
block-smaller c = grind (arith, common_steps) steps 400000
