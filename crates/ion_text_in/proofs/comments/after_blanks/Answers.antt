use Rattle.std.proofs.Common.{◌<◌, ℕ, List, length, subst, sym, arith}
use Rattle.ion_text_in.specs.Feeding.{PassesBlanks}
use Rattle.ion_text_in.proofs.FeedReading.{passes-white, other-there}
use Rattle.ion_text_in.proofs.comments.after_blanks.Goals as goal

pub returns : goal.returns
returns c _ =
    let bytes = c.args.bytes.now in
    let white = c.white_run-white in
    let there : white.result < length bytes = grind (arith, white.ensures.within, c.if-white-bytes.false) in
    subst (λ (l : List ℕ). PassesBlanks bytes l) (sym c.after.ensures)
    (passes-white bytes white.result there white.ensures.run white.ensures.ends (other-there bytes white.result 47 there c.if-bytes-white-eq47.false))
