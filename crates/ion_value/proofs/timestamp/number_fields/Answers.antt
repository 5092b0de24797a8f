use Rattle.ion_value.proofs.TimestampOctets.{SoFar-more, SoFar-bad, SoFar-full, SoFar-ended, room, some_octets}
use Rattle.ion_value.proofs.timestamp.number_fields.Goals.{then-loop-numbers-test+else-not-is_full, else-loop-numbers-test}
use Rattle.ion_value.proofs.timestamp.number_fields.Goals as goal

pub loop-numbers-preserved : goal.loop-numbers-preserved
loop-numbers-preserved c =
    let rest = c.loop-numbers.rest.now in
    let numbers = c.loop-numbers.numbers.items in
    let more = room c.args.bytes.now rest numbers c.loop-numbers.invariant c.if-not-is_full.ensures.value in
    rw c.push.ensures.items (SoFar-more c.args.bytes.now rest numbers c.in-Ok.number c.in-Ok.count c.loop-numbers.invariant more c.in-Ok.ensures.read.1)

pub returns-in-Err-clause-refused : goal.returns-in-Err-clause-refused
returns-in-Err-clause-refused c =
    let rest = c.loop-numbers.rest.now in
    let numbers = c.loop-numbers.numbers.items in
    let some = some_octets rest c.loop-numbers-test.ensures in
    let more = room c.args.bytes.now rest numbers c.loop-numbers.invariant c.if-not-is_full.ensures.value in
    (c.in-Err.ensures.refused.0, SoFar-bad c.args.bytes.now rest numbers c.loop-numbers.invariant some more c.in-Err.ensures.refused.1)

pub returns-clause-read : goal.returns-clause-read
returns-clause-read c =
    elim c.loop-numbers-test.branch [
      | then-loop-numbers-test+else-not-is_full w ↦ SoFar-full c.args.bytes.now c.loop-numbers.rest.now c.loop-numbers.numbers.items c.loop-numbers.invariant w.if-not-is_full.ensures.value
      | else-loop-numbers-test w ↦ SoFar-ended c.args.bytes.now c.loop-numbers.rest.now c.loop-numbers.numbers.items c.loop-numbers.invariant w.loop-numbers-test.ensures
    ]
