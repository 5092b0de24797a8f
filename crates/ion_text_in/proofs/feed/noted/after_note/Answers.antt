use Rattle.std.proofs.Common.{◌+◌, ◌-◌, ◌≤◌, length, refl, arith}
use Rattle.std.specs.Prelude.{sum_by}
use Rattle.ion_text_in.specs.Feeding.{notes}
use Rattle.ion_text_in.specs.Reading.{cost}
use Rattle.ion_text_in.proofs.FeedNoted.{room-costs}
use Rattle.ion_text_in.proofs.feed.noted.after_note.Goals as goal

pub returns : goal.returns
returns c = λ limits room.
    let a = c.args in
    let fits : 16 + length a.note.text.now ≤ limits.scalar - sum_by cost (notes a.start.note) = grind (arith, c.if-room-note.false, room) in
    record {
      is = refl;
      same = refl;
      costs = room-costs limits.scalar a.start.note a.note fits;
      after = c.in-Some.ensures;
    }
