use Rattle.std.proofs.Common.{refl, ap, arith}
use Rattle.std.specs.Prelude.{is_none}
use Rattle.ion_text_in.proofs.FeedHeads.{told-begins}
use Rattle.ion_text_in.proofs.FeedNoted.{start-second}
use Rattle.ion_text_in.proofs.feed.noted.with_second.Goals as goal

pub noted-requires-clause-begins : goal.noted-requires-clause-begins
noted-requires-clause-begins c = told-begins c.requires.begins (omega arith) c.if-start-ne-WORD.false

pub returns : goal.returns
returns c = λ spot within is.
    let start = c.args.start in
    let n = c.in-Some-noted in
    start-second (record { field = start.field; note = start.note; next = n.after.next }) refl refl refl (ap is_none c.in-Some.is) (n.ensures c.args.bounds.limits c.in-Some-simple_word.ensures (rw c.in-Some.is c.room_after-room.ensures)) within is
