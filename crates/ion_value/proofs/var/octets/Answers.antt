use Rattle.std.proofs.Common.{◌≡◌, ℕ, ◌-◌, ◌%◌, ◌+◌, [], arith, sym}
use Rattle.ion_value.proofs.Fields.{group-none, group-more, group-last, low-push, IsVar-push}
use Rattle.ion_value.proofs.Octets.{octets-push}
use Rattle.ion_value.proofs.var.octets.Goals as goal

pub loop-i-init : goal.loop-i-init
loop-i-init c =
    let none : c.new-octets.result.items ≡ [] = c.new-octets.ensures in
    record {
      so_far = rw none (sym (group-none c.args.n c.args.count c.requires.fits));
      len = rw none (omega arith);
      some = c.requires.some;
      low = rw none (λ k h. absurd (omega arith));
    }

pub loop-i-preserved : goal.loop-i-preserved
loop-i-preserved c =
    let i : ℕ = c.loop-i.i in
    let next : i ≡ (i - 1) + 1 = omega arith in
    record {
      so_far = rw c.push.ensures.items (group-more c.loop-i.octets.items c.args.n i (i - 1) next c.loop-i.invariant.so_far);
      len = omega arith;
      some = omega arith;
      low = rw c.push.ensures.items (low-push c.loop-i.octets.items _ c.loop-i.invariant.low (omega arith));
    }

pub push-requires-2 : goal.push-requires-2
push-requires-2 c = (omega arith, omega arith)

pub returns-clause-len : goal.returns-clause-len
returns-clause-len c = omega arith

pub returns-clause-octets : goal.returns-clause-octets
returns-clause-octets c =
    rw c.push-2.ensures.items (octets-push c.loop-i.octets.items (c.args.n % 128 + 128) c.loop-i.invariant.low (omega arith))

pub returns-clause-ends : goal.returns-clause-ends
returns-clause-ends c =
    rw c.push-2.ensures.items (IsVar-push c.loop-i.octets.items (c.args.n % 128 + 128) c.loop-i.invariant.low (omega arith))

pub returns-clause-value : goal.returns-clause-value
returns-clause-value c =
    rw c.push-2.ensures.items (group-last c.loop-i.octets.items c.args.n c.loop-i.i (omega arith) c.loop-i.invariant.so_far)
