use Rattle.std.proofs.Common.{arith, ap, sym, ◌∙◌, length, rules, ◌≡◌, ◌-◌, ◌^◌, ◌<◌, ◌≤◌, true, Ok, subst}
use Rattle.std.proofs.lemmas.Grind.{common_steps}
use Rattle.ion_symbols.specs.Buffer.{depth_of, own_of}
use Rattle.ion_symbols.specs.Table.{table_cost}
use Rattle.ion_symbols.proofs.Sharing.{charges_read, room_read}
use Rattle.ion_symbols.proofs.buffer.SymbolBuffer.read.Goals as goal

-- the declaration's struct is open, and nothing else
pub gather-outcome-requires : goal.gather-outcome-requires
gather-outcome-requires g c = record {
  can_gather = record {
    room = c.requires.can_read.room;
    held = omega (arith, c.new-buffer.ensures.own, c.requires.can_read.held);
    countable = c.requires.can_read.countable;
    small = c.requires.can_read.checked.symbols;
    cheap = c.requires.can_read.cheap;
    sound = c.requires.can_read.sound;
    pending = c.new-buffer.ensures.pending c.args.limits.symbols c.args.symbols.now.table;
    level = ap length c.requires.level ∙ sym (ap depth_of (c.new-buffer.ensures.start c.args.symbols.now.catalog));
  };
}

pub install-requires : goal.install-requires
install-requires g c =
    let r = g.R.RawReader in
    let can = c.requires.can_read in
    let out = c.gather-outcome.ensures in
    let ok : c.gather-outcome.result ≡ Ok true = c.in-Ok-true.is ∙ ap Ok c.in-Ok-true.field-0-test in
    let w = g.met.R.RawReader.within c.args.raw.now can.sound in
    let room = room_read c.args.meter.now c.gather-outcome.new.meter (r.own c.args.raw.now) (own_of c.new-buffer.result) (r.own c.gather-outcome.new.raw)
    (own_of c.gather-outcome.new.buffer) (table_cost c.args.symbols.now.table) (r.most c.args.raw.now) c.args.limits.symbols
    can.room can.held c.new-buffer.ensures.own w.small can.checked.symbols out.charges in
    record {
      can_install = record {
        room = room.0;
        held = room.1;
        countable = subst (λ n. n < 2 ^ 64 - 1) (sym c.in-Ok-true.ensures.gathered.counted) can.countable;
        small = can.checked.symbols;
        cheap = can.cheap;
        pending = c.in-Ok-true.ensures.gathered.pending;
        nameless = out.gathered.nameless ok;
      };
    }

pub returns-in_err-install-clause-ends : goal.returns-in_err-install-clause-ends
returns-in_err-install-clause-ends g c = grind (arith, common_steps)

pub returns-in_err-install-clause-refuses : goal.returns-in_err-install-clause-refuses
returns-in_err-install-clause-refuses g c = grind (arith, common_steps)

pub returns-in_err-install-clause-table : goal.returns-in_err-install-clause-table
returns-in_err-install-clause-table g c = search rules

pub returns-in_err-install-clause-leaves : goal.returns-in_err-install-clause-leaves
returns-in_err-install-clause-leaves g c = search rules

pub returns-in_err-install-clause-causes : goal.returns-in_err-install-clause-causes
returns-in_err-install-clause-causes g c = grind (arith, common_steps)

pub returns-in_err-install-clause-charges : goal.returns-in_err-install-clause-charges
returns-in_err-install-clause-charges g c =
    let r = g.R.RawReader in
    let can = c.requires.can_read in
    let leaves = c.gather-outcome.ensures.leaves in
    let w = g.met.R.RawReader.within c.gather-outcome.new.raw leaves.sound in
    charges_read c.args.meter.now c.gather-outcome.new.meter c.install.new.meter (r.own c.args.raw.now) (own_of c.new-buffer.result) (r.own c.gather-outcome.new.raw)
    (own_of c.gather-outcome.new.buffer) (table_cost c.args.symbols.now.table) (table_cost c.install.new.symbols.table) (r.most c.args.raw.now) c.args.limits.symbols
    can.held c.new-buffer.ensures.own can.cheap (subst (λ n. r.own c.gather-outcome.new.raw ≤ n) leaves.most w.share)
    c.gather-outcome.ensures.charges c.install.ensures.charges

pub returns-in-Ok-true-clause-gives : goal.returns-in-Ok-true-clause-gives
returns-in-Ok-true-clause-gives g c = search rules

pub returns-in-Ok-true-clause-ends : goal.returns-in-Ok-true-clause-ends
returns-in-Ok-true-clause-ends g c = grind (arith, common_steps)

pub returns-in-Ok-true-clause-refuses : goal.returns-in-Ok-true-clause-refuses
returns-in-Ok-true-clause-refuses g c = grind (arith, common_steps)

pub returns-in-Ok-true-clause-table : goal.returns-in-Ok-true-clause-table
returns-in-Ok-true-clause-table g c = search rules

pub returns-in-Ok-true-clause-leaves : goal.returns-in-Ok-true-clause-leaves
returns-in-Ok-true-clause-leaves g c = grind (arith, common_steps)

pub returns-in-Ok-true-clause-causes : goal.returns-in-Ok-true-clause-causes
returns-in-Ok-true-clause-causes g c = grind (arith, common_steps)

pub returns-in-Ok-true-clause-charges : goal.returns-in-Ok-true-clause-charges
returns-in-Ok-true-clause-charges g c =
    let r = g.R.RawReader in
    let can = c.requires.can_read in
    let leaves = c.gather-outcome.ensures.leaves in
    let w = g.met.R.RawReader.within c.gather-outcome.new.raw leaves.sound in
    charges_read c.args.meter.now c.gather-outcome.new.meter c.install.new.meter (r.own c.args.raw.now) (own_of c.new-buffer.result) (r.own c.gather-outcome.new.raw)
    (own_of c.gather-outcome.new.buffer) (table_cost c.args.symbols.now.table) (table_cost c.install.new.symbols.table) (r.most c.args.raw.now) c.args.limits.symbols
    can.held c.new-buffer.ensures.own can.cheap (subst (λ n. r.own c.gather-outcome.new.raw ≤ n) leaves.most w.share)
    c.gather-outcome.ensures.charges c.install.ensures.charges

pub returns-clause-ends : goal.returns-clause-ends
returns-clause-ends g c = grind (arith, common_steps)

pub returns-clause-leaves : goal.returns-clause-leaves
returns-clause-leaves g c = grind (arith, common_steps)

pub returns-clause-causes : goal.returns-clause-causes
returns-clause-causes g c = grind (arith, common_steps)

pub returns-clause-charges : goal.returns-clause-charges
returns-clause-charges g c = grind (arith, common_steps) steps 400000

pub returns-clause-refuses : goal.returns-clause-refuses
returns-clause-refuses g c = grind (arith, common_steps)

pub returns-in-Ok-true-clause-level : goal.returns-in-Ok-true-clause-level
returns-in-Ok-true-clause-level g c = grind (arith, common_steps)
