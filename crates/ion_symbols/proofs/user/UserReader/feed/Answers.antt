use Rattle.std.proofs.Common.{arith}
use Rattle.std.proofs.lemmas.Grind.{common_steps}
use Rattle.ion_value.specs.Feeding.{Joint}
use Rattle.ion_symbols.specs.Table.{table_cost}
use Rattle.ion_symbols.proofs.Feeding.{charges_fed, user_feeds}
use Rattle.ion_symbols.proofs.user.UserReader.feed.Goals as goal

pub returns-clause-charges : goal.returns-clause-charges
returns-clause-charges g c =
    let r = g.R.RawReader in
    let w = g.W.ValueWriter in
    let u = c.args.self.now in
    charges_fed c.args.meter.now c.feed-fed.new.meter (r.own u.raw) (r.own c.feed-fed.new.self) (w.own c.args.writer.now) (w.own c.feed-fed.new.writer)
    (table_cost u.symbols.table) (r.most u.raw) u.limits.symbols (w.most c.args.writer.now) c.requires.ready.cheap c.requires.held c.feed-fed.ensures.charges

pub returns-clause-feeds : goal.returns-clause-feeds
returns-clause-feeds g c =
    let r = g.R.RawReader in
    let u = c.args.self.now in
    let old : Joint g.row.W.Denot = record { coming = r.reading u.raw; opened = r.opened u.raw; writer = c.args.writer.now; pending = c.args.sink.now.pending; values = 0 } in
    let new : Joint g.row.W.Denot =
    record { coming = r.reading c.feed-fed.new.self; opened = r.opened c.feed-fed.new.self; writer = c.feed-fed.new.writer; pending = c.feed-fed.new.sink.pending; values = c.feed-fed.result.values } in
    user_feeds g.W.ValueWriter u.symbols.catalog u.limits.symbols u.symbols.table (r.observable u.raw) old new u.count c.feed-fed.result.level
    c.requires.level c.feed-fed.ensures.level c.feed-fed.ensures.feeds

pub returns-clause-ready : goal.returns-clause-ready
returns-clause-ready g c = grind (arith, common_steps)

pub returns-clause-falls : goal.returns-clause-falls
returns-clause-falls g c = grind (arith, common_steps)
