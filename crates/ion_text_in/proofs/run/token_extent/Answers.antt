use Rattle.std.proofs.lemmas.Bool.{not-false}
use Rattle.std.proofs.lemmas.List.{take_rest}
use Rattle.ion_text_in.specs.Runs.{goes_on}
use Rattle.ion_text_in.proofs.RunEnds.{token-shown}
use Rattle.ion_text_in.proofs.run.token_extent.Goals as goal

pub returns : goal.returns
returns c =
    let bytes = c.args.bytes.now in
    let extent = rw (take_rest bytes 1) at c.run_extent-extent.ensures in
    let ended = not-false _ c.if-not-extent.false in
    token-shown (goes_on c.args.run) bytes c.run_extent-extent.result.len c.in-len1-up.len_at_least (extent.after ended) (extent.ends ended)
