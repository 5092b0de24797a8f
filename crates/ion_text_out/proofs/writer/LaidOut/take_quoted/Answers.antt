use Rattle.ion_text_out.proofs.Quoted.{shown_between}
use Rattle.ion_text_out.proofs.writer.LaidOut.take_quoted.Goals as goal

pub returns : goal.returns
returns g c = rw (shown_between 39 256 c.args.text.now c.requires) c.take_marked.ensures
