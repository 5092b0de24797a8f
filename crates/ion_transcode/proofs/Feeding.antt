-- Items that a reader hands to a writer go on with what was put before.
use Rattle.std.proofs.Common.{◌≡◌, ℕ, ◌+◌, ◌≤◌, List, ◌++◌, Option, None, ap, sym, subst, ◌∙◌, append_assoc, arith}
use Rattle.ion_meter.specs.Counts.{Counts}
use Rattle.ion_meter.specs.Windows.{HasPrefix}
use Rattle.ion_meter.specs.declared.device.Output.{Ghosts as OutputOf}
use Rattle.ion_meter.specs.declared.fault.Reason.{Reason}
use Rattle.ion_meter.specs.declared.limits.Limits.{Limits}
use Rattle.ion_value.specs.declared.writer.ValueWriter.{Ghosts as WriterOf}
use Rattle.ion_value.specs.declared.ion_type.Kind.{Kind}
use Rattle.ion_value.specs.Feeding.{Joint, Feeds, nothing, more}
use Rattle.ion_value.specs.Reading.{Reading}
use Rattle.ion_value.specs.Shares.{Charges}
use Rattle.ion_value.specs.Value.{PlacedItem}
use Rattle.ion_value.proofs.Outcomes.{Grows, Walk, walk-more}
use Rattle.ion_transcode.proofs.Copying.{Unharmed}
use Rattle.ion_transcode.proofs.Following.{Followed, followed-more}

-- a walk from before all items to where a reader and a writer stand: `base` values had ended before they were joined, and `written` is written
abbrev pub WalkTo : {W O A : Type 0} → WriterOf W O A → Limits → Type 0 → Type 0 → Reading → List ℕ → List ℕ → ℕ → Joint W → Type 0
WalkTo w limits reads writes all before written base j =
    Walk (w.stands j.writer) (w.puts limits) (w.refusal limits) reads writes j.opened (base + j.values) all j.coming before (written ++ j.pending)

-- with the limits that the writer began with
record Walked {W O A : Type 0} (w : WriterOf W O A) (limits : Limits) (reads writes : Type 0) (all : Reading) (before written : List ℕ) (base : ℕ) (j : Joint W) : Type 0 where
  walk : WalkTo w limits reads writes all before written base j
  limits_of : w.limits j.writer ≡ limits

walked : {W O A : Type 0} (w : WriterOf W O A) (limits : Limits) (reads writes : Type 0) (all : Reading) (before written : List ℕ) (base : ℕ) (old new : Joint W)
    → Grows (w.puts limits) (w.adds limits) (w.refusal limits) → Walked w limits reads writes all before written base old → Feeds w (λ item. item) reads old new
    → Walked w limits reads writes all before written base new
walked w limits reads writes all before written base old _ grows first nothing = first
walked w limits reads writes all before written base old new grows first (more now _ feeds hands) =
    let so_far = walked w limits reads writes all before written base old now grows first feeds in
    let t = so_far.walk in
    let path = t.path in
    let none : w.refusal limits path hands.item ≡ None = subst (λ (l : Limits). w.refusal l path hands.item ≡ None) so_far.limits_of (hands.taken path t.stands_at t.kinds_at) in
    let puts : new.pending ≡ now.pending ++ w.adds limits path hands.item =
    subst (λ (l : Limits). new.pending ≡ now.pending ++ w.adds l path hands.item) so_far.limits_of (hands.puts path t.stands_at t.kinds_at) in
    record {
      walk = walk-more t (w.adds limits) grows hands.item new.coming (written ++ new.pending) new.opened (base + new.values) hands.gives none (hands.stands path t.stands_at t.kinds_at)
          (λ _. ap (λ (l : List ℕ). written ++ l) puts ∙ sym (append_assoc written now.pending (w.adds limits path hands.item))) hands.opens (omega (arith, hands.counts));
      limits_of = hands.limits ∙ so_far.limits_of;
    }

-- a walk goes on over the items that are handed on
pub walk-feeds : {W O A : Type 0} (w : WriterOf W O A) (limits : Limits) (reads writes : Type 0) (all : Reading) (before written : List ℕ) (base : ℕ) (old new : Joint W)
    → Grows (w.puts limits) (w.adds limits) (w.refusal limits) → w.limits old.writer ≡ limits → Feeds w (λ item. item) reads old new
    → WalkTo w limits reads writes all before written base old → WalkTo w limits reads writes all before written base new
walk-feeds w limits reads writes all before written base old new grows same feeds walk =
    (walked w limits reads writes all before written base old new grows (record { walk = walk; limits_of = same }) feeds).walk

-- and so does a writer that stands after the items in front of what is to come
pub followed-feeds : {W O A : Type 0} (w : WriterOf W O A) (reads : Type 0) (all : Reading) (old new : Joint W)
    → Feeds w (λ item. item) reads old new → Followed (w.stands old.writer) reads old.opened all old.coming → Followed (w.stands new.writer) reads new.opened all new.coming
followed-feeds w reads all old _ nothing f = f
followed-feeds w reads all old new (more now _ feeds hands) f =
    let g = followed-feeds w reads all old now feeds f in
    followed-more g hands.item new.coming new.opened hands.gives (hands.stands g.path g.stands_at g.kinds_at) hands.opens

-- the same walk where what was put is seen otherwise, and values are counted otherwise
pub walk-same : {stands : List PlacedItem → Type 0} {puts : List PlacedItem → List ℕ} {refusal : List PlacedItem → PlacedItem → Option (Reason × ℕ)} {reads writes : Type 0} {kinds : List Kind}
    {values values_then : ℕ} {all rest : Reading} {before now then : List ℕ}
    → Walk stands puts refusal reads writes kinds values all rest before now → (writes → then ≡ now) → values ≡ values_then → Walk stands puts refusal reads writes kinds values_then all rest before then
walk-same w same counts = record {
  path = w.path;
  stands_at = w.stands_at;
  kinds_at = w.kinds_at;
  values_at = w.values_at ∙ counts;
  verdict = w.verdict;
  output = w.output;
  put = λ o. same o ∙ w.put o;
}

-- the reader's part and the writer's move together
pub charges_fed : {a b c : Counts} (r w r_now w_now r_new w_new share most : ℕ) {share_now most_now : ℕ} → Charges a b (r + w) (r_now + w_now) (share + most)
    → Charges b c (r_now + w_now) (r_new + w_new) (share_now + most_now) → share_now ≡ share → most_now ≡ most → r + w ≤ a.held → Charges a c (r + w) (r_new + w_new) (share + most)
charges_fed r w r_now w_now r_new w_new share most so_far fed e f held = record {
  held = omega (arith, so_far.held, fed.held);
  share = omega (arith, fed.share);
  peak = omega (arith, so_far.held, so_far.peak, fed.held, fed.peak);
  rises = omega (arith, so_far.rises, fed.rises);
}

-- nothing is harmed by items that are handed on
pub unharmed_fed : {O : Type 0} {old now new : Counts} {reads_old reads_now reads_new : ℕ} {output : OutputOf O} {before at after : O}
    → Unharmed old now reads_old reads_now output before at → new.refused ≡ now.refused → reads_new ≡ reads_now → after ≡ at → Unharmed old new reads_old reads_new output before after
unharmed_fed {output = output} {before = before} u refused reads same = record {
  refused = refused ∙ u.refused;
  reads = reads ∙ u.reads;
  writes = ap output.failure_count same ∙ u.writes;
  observable = (λ o. u.observable.0 (subst output.observable same o), λ o. subst output.observable (sym same) (u.observable.1 o));
  grown = λ o. subst (λ d. HasPrefix (output.written d) (output.written before)) (sym same) (u.grown o);
}
