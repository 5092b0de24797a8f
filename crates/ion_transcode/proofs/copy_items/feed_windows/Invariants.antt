use Rattle.std.proofs.Common.{Ok}
use Rattle.ion_transcode.specs.Calls.{HandsOn}
use Rattle.ion_transcode.proofs.copy_items.feed_windows.Given as goal

abbrev pub invariant-windows : goal.invariant-windows
invariant-windows g l = HandsOn g.R.RawReader g.W.ValueWriter g.O.Output l.fn.start (Ok l.at)
    (record { reader = l.fn.reader; writer = l.fn.writer; sink = l.fn.sink; meter = l.fn.meter })
    (record { reader = l.reader; writer = l.writer; sink = l.sink; meter = l.meter })
