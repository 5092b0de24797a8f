use Rattle.std.proofs.Common.{◌≡◌, false, arith}
use Rattle.std.proofs.lemmas.Grind.{common_steps}
use Rattle.ion_text_in.specs.Quotes.{quote_of}
use Rattle.ion_text_in.specs.Pieces.{may_go_on}
use Rattle.ion_text_in.proofs.Still.{shown}
use Rattle.ion_text_in.proofs.Taking.{piece-fits, cut-short}
use Rattle.ion_text_in.proofs.piece.scan_piece.Goals as goal

pub returns-in_default-clause-shows : goal.returns-in_default-clause-shows
returns-in_default-clause-shows c =
    let still : may_go_on (quote_of c.args.quote) c.args.bytes.now ≡ false = grind (arith, common_steps) in
    shown c.args.quote c.args.bytes.now c.last_piece.result still c.last_piece.ensures

pub returns-in_default-clause-takes : goal.returns-in_default-clause-takes
returns-in_default-clause-takes c = piece-fits c.args.quote c.args.bytes.now c.last_piece.result c.last_piece.ensures

pub returns-in_default-clause-few : goal.returns-in_default-clause-few
returns-in_default-clause-few c = λ cut. cut-short c.args.quote c.args.bytes.now c.last_piece.result c.last_piece.ensures cut
