use Rattle.ion_text_in.proofs.Fuel.{piece-takes, pieces-first, segments-first, groups-first}
use Rattle.ion_text_in.proofs.laws.parts_follow_in_turn.Goals as goal

pub returns : goal.returns
returns c = record { takes = piece-takes; pieces = pieces-first; segments = segments-first; groups = groups-first }
