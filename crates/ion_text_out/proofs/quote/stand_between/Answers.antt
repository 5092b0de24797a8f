use Rattle.ion_text_out.proofs.Below.{◌≤◌, ◌-◌, ◌++◌, length, take, drop, arith, common_steps, take_all}
use Rattle.ion_text_out.proofs.ShownRuns.{ends_hidden}
use Rattle.ion_text_out.proofs.quote.stand_between.Goals as goal

pub returns-then-bytes-lt-BLOCK : goal.returns-then-bytes-lt-BLOCK
returns-then-bytes-lt-BLOCK c =
    let bytes = c.args.bytes.now in
    let long : length (take 8 bytes ++ drop (length bytes - 8) bytes) ≤ 16 = grind (arith, common_steps) in
    ends_hidden c.args.quote 256 bytes c.hidden.result 8 (rw (c.both_ends.ensures, take_all 16 (take 8 bytes ++ drop (length bytes - 8) bytes) long) at c.hidden.ensures) (omega (arith, c.if-bytes-lt-BLOCK.true))
