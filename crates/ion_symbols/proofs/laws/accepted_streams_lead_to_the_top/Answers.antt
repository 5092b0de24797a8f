use Rattle.ion_symbols.proofs.ToTheTop.{accepted-streams-lead-to-the-top}
use Rattle.ion_symbols.proofs.laws.accepted_streams_lead_to_the_top.Goals as goal

pub returns : goal.returns
returns c = accepted-streams-lead-to-the-top
