-- Memory and the causes of faults over calls that follow one another.
use Rattle.std.proofs.Common.{◌≡◌, ℕ, ◌+◌, ◌*◌, ◌^◌, ◌<◌, ◌≤◌, ap, subst, ◌∙◌, Option, arith, Some, None, Err}
use Rattle.ion_meter.specs.Counts.{Counts}
use Rattle.ion_meter.specs.declared.fault.Fault.{Fault}
use Rattle.ion_value.specs.Shares.{Charges, ReadCauses}
use Rattle.ion_symbols.specs.Table.{Table}
use Rattle.ion_symbols.specs.Buffer.{IsPending, own_of, GrowthCauses, TurnAs}
use Rattle.ion_meter.specs.declared.fault.Fault.TheVariants.{Refused, Memory, ReadFault, WriteFault, InputLimit}
use Rattle.ion_symbols.specs.Declaration.{Declaring, Turn}
use Rattle.ion_symbols.proofs.Answering.{no_fault}
use Rattle.ion_symbols.specs.declared.buffer.SymbolBuffer.{SymbolBuffer}

-- a number that fell stays below what it was not above
pub falls_below : (a b c : ℕ) → a < b → b ≤ c → a < c
falls_below a b c h k = omega (arith, h, k)

pub falls_within : (a b c : ℕ) → a < b → b ≤ c → a ≤ c
falls_within a b c h k = omega (arith, h, k)

-- a pending table holds no more than it may
pub pending_within : {A : Type 0} (limit : ℕ) (old : Table) (b : SymbolBuffer A) → IsPending limit old b → own_of b ≤ limit
pending_within limit old b p = omega (arith, p.exact, p.cheap)

-- before the call no memory was refused and no device failed
pub causes_after : (fault : Option Fault) (a b c : Counts) (f g h : ℕ) (E F : Type 0)
    → b.refused ≡ a.refused → g ≡ f → (F → E) → ReadCauses fault b c g h F → ReadCauses fault a c f h E
causes_after fault a b c f g h E F refused failures exceeds q = record {
  memory = λ e. subst (λ n. n < c.refused) refused (q.memory e);
  counted = λ e. q.counted e ∙ refused;
  device = λ e. q.device e ∙ ap (λ n. n + 1) failures;
  steady = λ e. q.steady e ∙ failures;
  limit = λ e. exceeds (q.limit e);
  no_writes = q.no_writes;
}

-- a reader and a part beside it: one moves and then the other
pub charges_both : (a b c d : Counts) (first l l2 m m2 most other limit : ℕ) → first ≤ a.held → m ≤ limit → other ≡ most
    → Charges a b first (l + m) (most + limit) → Charges b c l l2 other → Charges c d m m2 limit → Charges a d first (l2 + m2) (most + limit)
charges_both a b c d first l l2 m m2 most other limit within small same p q r = record {
  held = omega (arith, p.held, q.held, r.held);
  share = omega (arith, q.share, r.share, same);
  peak = omega (arith, p.held, q.held, p.peak, q.peak, r.peak, p.share, q.share, small, within, same);
  rises = omega (arith, p.rises, q.rises, r.rises);
}

-- a reader moves, beside a table within the limit
pub charges_beside : (a b : Counts) (k l cost most limit : ℕ) → cost ≤ limit → k + cost ≤ a.held → Charges a b k l most
    → Charges a b (k + cost) (l + cost) (most + 2 * limit)
charges_beside a b k l cost most limit cheap within q = record {
  held = omega (arith, q.held);
  share = omega (arith, q.share, cheap);
  peak = omega (arith, q.peak, within, cheap);
  rises = q.rises;
}

-- a call that answers no fault
pub no_causes : (a b : Counts) (f g : ℕ) (E : Type 0) → b.refused ≡ a.refused → g ≡ f → ReadCauses None a b f g E
no_causes a b f g E refused failures = record {
  memory = λ e. absurd (no_fault Memory e);
  counted = λ _. refused;
  device = λ e. absurd (no_fault ReadFault e);
  steady = λ _. failures;
  limit = λ e. absurd (no_fault InputLimit e);
  no_writes = no_fault WriteFault;
}

-- a turn of a declaration answers no fault of a device
turn_faults : (u : Turn) (fault : Fault) (d : Declaring) (t : Table) → TurnAs u (Err fault) d t
    → (Some fault ≡ Some ReadFault → ⊥) × ((Some fault ≡ Some InputLimit → ⊥) × (Some fault ≡ Some WriteFault → ⊥))
turn_faults u (Refused r p) d t says = (λ e. cc, (λ e. cc, λ e. cc))
turn_faults u Memory d t says = (λ e. cc, (λ e. cc, λ e. cc))
turn_faults u ReadFault d t says = absurd says
turn_faults u WriteFault d t says = absurd says
turn_faults u InputLimit d t says = absurd says

pub turn_causes : (u : Turn) (fault : Fault) (d : Declaring) (t : Table) (a b c : Counts) (f g : ℕ) (E : Type 0)
    → TurnAs u (Err fault) d t → b.refused ≡ a.refused → g ≡ f → GrowthCauses (Some fault) b c → ReadCauses (Some fault) a c f g E
turn_causes u fault d t a b c f g E says refused failures q =
    let no = turn_faults u fault d t says in
    record {
      memory = λ e. subst (λ n. n < c.refused) refused (q.memory e);
      counted = λ e. q.counted e ∙ refused;
      device = λ e. absurd (no.0 e);
      steady = λ _. failures;
      limit = λ e. absurd (no.1.0 e);
      no_writes = no.1.1;
    }

-- a reader and a part beside it, and then the reader: what is held, and that the part's memory is in it
pub room_then : (a b c : Counts) (first l l2 m most other limit : ℕ) → a.held ≤ 2 ^ 61 + (2 ^ 60 + 2 ^ 33) → first ≤ a.held → m ≤ limit → limit ≤ 2 ^ 30
    → other ≤ 2 ^ 59 → Charges a b first (l + m) most → Charges b c l l2 other → (c.held ≤ 2 ^ 62) × (m ≤ c.held)
room_then a b c first l l2 m most other limit room within small few large p q =
    (omega (arith, room, small, few, large, within, p.held, q.held, q.share), omega (arith, within, p.held, q.held))

-- what is held as a declaration ends, and that it and the table before it are in that
pub room_read : (a b : Counts) (k none l m cost most limit : ℕ) → a.held ≤ 2 ^ 61 + (2 ^ 60 + 2 ^ 33) → k + cost ≤ a.held → none ≡ 0 → most ≤ 2 ^ 59
    → limit ≤ 2 ^ 30 → Charges a b (k + none) (l + m) (most + limit) → (b.held ≤ 2 ^ 62) × (cost + m ≤ b.held)
room_read a b k none l m cost most limit room held start large few p =
    (omega (arith, room, held, start, large, few, p.held, p.share), omega (arith, held, start, p.held))

-- a declaration is read, and then its table is put in the place of the one before it
pub charges_read : (a b c : Counts) (k none l m cost new most limit : ℕ) → k + cost ≤ a.held → none ≡ 0 → cost ≤ limit → l ≤ most
    → Charges a b (k + none) (l + m) (most + limit) → Charges b c (cost + m) new (2 * limit) → Charges a c (k + cost) (l + new) (most + 2 * limit)
charges_read a b c k none l m cost new most limit within start cheap small p q = record {
  held = omega (arith, start, p.held, q.held);
  share = omega (arith, q.share, small);
  peak = omega (arith, start, within, cheap, small, p.held, p.peak, q.peak);
  rises = omega (arith, p.rises, q.rises);
}
