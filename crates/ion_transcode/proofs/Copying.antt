-- What an item that is copied changes: where it may stand, what is held, and why its writing fails.
use Rattle.std.proofs.Common.{◌≡◌, ℕ, ◌+◌, ◌*◌, ◌<◌, ◌≤◌, ◌↔◌, List, [], length, Bool, Option, Some, None, Result, Ok, Err, ◌∷◌, ap, sym, subst, ◌∙◌, arith}
use Rattle.ion_meter.specs.Counts.{Counts}
use Rattle.ion_meter.specs.Windows.{HasPrefix, write_failures_in}
use Rattle.ion_meter.specs.declared.device.Output.{Ghosts as OutputOf}
use Rattle.ion_meter.specs.declared.fault.Fault.{Fault}
use Rattle.ion_meter.specs.declared.fault.Fault.TheVariants.{Refused, WriteFault}
use Rattle.ion_meter.specs.declared.fault.Reason.{Reason}
use Rattle.ion_meter.specs.declared.limits.Limits.{Limits}
use Rattle.ion_value.specs.declared.ion_type.Kind.{Kind}
use Rattle.ion_value.specs.Value.{SymbolAt, Head, PlacedItem}
use Rattle.ion_value.specs.Outcome.{one_if_closed}
use Rattle.ion_value.specs.Shares.{Charges, ReadCauses, MemoryCauses, WriteCauses}
use Rattle.ion_value.specs.Standing.{Continues, Fits, is_marker, open_after, open_after_all}
use Rattle.ion_symbols.specs.User.{MayCome}
use Rattle.ion_transcode.specs.Calls.{Causes}

-- ---- where an item may stand

-- what may come in the reader may come after the path that was put
pub continues_with : {limits now : Limits} {depth depth_now : ℕ} {opened kinds : List Kind} {path : List PlacedItem} {item own : PlacedItem}
    → now ≡ limits → limits.depth ≡ depth → depth_now ≡ depth → open_after_all [] path ≡ opened → own ≡ item → MayCome depth_now opened kinds item → Continues now path own
continues_with {limits} {now} {depth} {depth_now} {opened} {kinds} {path} {item} {own} same depth_of depth_is opened_is own_is may =
    let deep : depth_now ≡ now.depth = depth_is ∙ sym (ap (λ (l : Limits). l.depth) same ∙ depth_of) in
    let as_item : Fits depth_now opened own = subst (λ (i : PlacedItem). Fits depth_now opened i) (sym own_is) may.fits in
    let as_path : Fits depth_now (open_after_all [] path) own = subst (λ (k : List Kind). Fits depth_now k own) (sym opened_is) as_item in
    record {
      fits = subst (λ (n : ℕ). Fits n (open_after_all [] path) own) deep as_path;
      value = ap (λ (i : PlacedItem). is_marker i.head) own_is ∙ may.value;
    }

-- the same said with the limits that the writer began with, and of the item that is lent
pub taken_as : (P : Limits → PlacedItem → Type 0) {limits now : Limits} {item own : PlacedItem} → now ≡ limits → own ≡ item → P now own → P limits item
taken_as P {limits} {now} {item} {own} same own_is p = subst (λ (i : PlacedItem). P limits i) own_is (subst (λ (l : Limits). P l own) same p)

-- how many containers are open after the head of the item
pub level_with : (kinds then : List Kind) (head : Head SymbolAt) (item own : PlacedItem) (level : ℕ)
    → then ≡ open_after kinds item.head → own ≡ item → head ≡ own.head → length (open_after kinds head) ≡ level → length then ≡ level
level_with kinds then head item own level opens own_is head_is long =
    ap length (opens ∙ ap (open_after kinds) (sym (head_is ∙ ap (λ (i : PlacedItem). i.head) own_is))) ∙ long

-- the values and what is left keep below what was left
pub left_with : (kinds : List Kind) (values now then most : ℕ) → values + now ≤ most → then < now → (values + one_if_closed kinds) + then ≤ most
left_with [] values now then most h f = omega arith
left_with (kind ∷ kinds) values now then most h f = omega arith

-- ---- what is held

pub same_share : (most_now most : ℕ) (now limits : Limits) → most_now ≡ most → now ≡ limits → most_now + 2 * now.symbols ≡ most + 2 * limits.symbols
same_share most_now most now limits e f = ap (λ n. n + 2 * now.symbols) e ∙ ap (λ (l : Limits). most + 2 * l.symbols) f

-- the reader's part moves
pub charges_read : {a b c : Counts} (r w r_now w_now r_new share most : ℕ) {share_now : ℕ} → Charges a b (r + w) (r_now + w_now) (share + most) → Charges b c r_now r_new share_now
    → share_now ≡ share → r + w ≤ a.held → w_now ≤ most → Charges a c (r + w) (r_new + w_now) (share + most)
charges_read r w r_now w_now r_new share most so_far read e held few = record {
  held = omega (arith, so_far.held, read.held);
  share = omega (arith, read.share);
  peak = omega (arith, so_far.held, so_far.peak, read.held, read.peak);
  rises = omega (arith, so_far.rises, read.rises);
}

-- and then the writer's
pub charges_written : {a b c : Counts} (r w r_now w_now w_new share most : ℕ) {most_now : ℕ} → Charges a b (r + w) (r_now + w_now) (share + most) → Charges b c w_now w_new most_now
    → most_now ≡ most → r + w ≤ a.held → r_now ≤ share → Charges a c (r + w) (r_now + w_new) (share + most)
charges_written r w r_now w_now w_new share most so_far wrote e held few = record {
  held = omega (arith, so_far.held, wrote.held);
  share = omega (arith, wrote.share);
  peak = omega (arith, so_far.held, so_far.peak, wrote.held, wrote.peak);
  rises = omega (arith, so_far.rises, wrote.rises);
}

-- ---- why a call fails

pub none_is : {fault : Fault} → ◌≡◌ {A = Option Fault} None (Some fault) → ⊥
none_is e = cc e

pub same_ok : {a b : ℕ} → ◌≡◌ {A = Result ℕ Fault} (Ok a) (Ok b) → a ≡ b
same_ok e = cc e

pub ok_is : {a : ℕ} {fault : Fault} → ◌≡◌ {A = Result ℕ Fault} (Ok a) (Err fault) → ⊥
ok_is e = cc e

pub err_is : {fault : Fault} {a : ℕ} → ◌≡◌ {A = Result ℕ Fault} (Err fault) (Ok a) → ⊥
err_is e = cc e

-- the refusal of one answer is that of the other
pub refused_as : {T : Type 0} {fault : Fault} {reason : Reason} {place : ℕ} {answer : Result T Fault} → answer ≡ Err fault → ◌≡◌ {A = Result ℕ Fault} (Err fault) (Err (Refused reason place)) → answer ≡ Err (Refused reason place)
refused_as is e = is ∙ cc e

pub not_refused : {fault : Fault} {reason : Reason} {place : ℕ} → fault ≡ WriteFault → ◌≡◌ {A = Result ℕ Fault} (Err fault) (Err (Refused reason place)) → ⊥
not_refused is e = cc (is, e)

-- no fault was answered so far
pub record Unharmed {O : Type 0} (old new : Counts) (reads_old reads_new : ℕ) (output : OutputOf O) (before after : O) : Type 0 where
  pub refused : new.refused ≡ old.refused
  pub reads : reads_new ≡ reads_old
  pub writes : output.failure_count after ≡ output.failure_count before
  pub observable : output.observable after ↔ output.observable before
  pub grown : output.observable before → HasPrefix (output.written after) (output.written before)

-- the writer's answer to an item
pub item_causes : {O : Type 0} {fault : Fault} {old now new : Counts} {reads_old reads_now : ℕ} (exceeds : Type 0) {output : OutputOf O} {before at after : O}
    → Unharmed old now reads_old reads_now output before at → MemoryCauses (Some fault) now new → WriteCauses (Some fault) (output.failure_count at) (output.failure_count after)
    → (output.observable after ↔ output.observable at) → (output.observable before → HasPrefix (output.written after) (output.written before))
    → Causes {T = ℕ} (Err fault) old new reads_old reads_now exceeds output before after
item_causes {fault = fault} {new = new} exceeds {output = output} u m w observable grown = record {
  memory = λ e. subst (λ n. n < new.refused) u.refused (m.memory (same e));
  counted = λ other. m.counted (λ e. other (cc e)) ∙ u.refused;
  read = λ e. absurd (w.no_reads (same e));
  reads_steady = λ _. u.reads;
  write = λ e. w.device (same e) ∙ ap (λ n. n + 1) u.writes;
  steady = λ other. w.steady (λ e. other (cc e)) ∙ u.writes;
  still_observable = (λ o. u.observable.0 (observable.0 o), λ o. observable.1 (u.observable.1 o));
  grown = grown;
  limit = λ e. absurd (w.no_limit (same e));
}
  where
    same : {f : Fault} → ◌≡◌ {A = Result ℕ Fault} (Err fault) (Err f) → ◌≡◌ {A = Option Fault} (Some fault) (Some f)
    same e = cc e

-- what was put could not be written
pub flush_causes : {O : Type 0} {fault : Fault} {old new : Counts} {reads_old reads_now : ℕ} (exceeds : Type 0) {output : OutputOf O} {before at after : O}
    → Unharmed old new reads_old reads_now output before at → fault ≡ WriteFault → output.failure_count after ≡ output.failure_count at + write_failures_in {T = Bool} None (Err fault)
    → (output.observable after ↔ output.observable at) → (output.observable before → HasPrefix (output.written after) (output.written before))
    → Causes {T = ℕ} (Err fault) old new reads_old reads_now exceeds output before after
flush_causes {fault = fault} exceeds {output = output} {at = at} u is count observable grown = record {
  memory = λ e. absurd (cc (is, e));
  counted = λ _. u.refused;
  read = λ e. absurd (cc (is, e));
  reads_steady = λ _. u.reads;
  write = λ e. count ∙ (ap (λ f. output.failure_count at + write_failures_in {T = Bool} None (Err f)) is ∙ ap (λ n. n + 1) u.writes);
  steady = λ other. absurd (other (ap Err is));
  still_observable = (λ o. u.observable.0 (observable.0 o), λ o. observable.1 (u.observable.1 o));
  grown = grown;
  limit = λ e. absurd (cc (is, e));
}

-- all was copied
pub whole_causes : {O : Type 0} (count : ℕ) {old new : Counts} {reads_old reads_now : ℕ} (exceeds : Type 0) {output : OutputOf O} {before at : O}
    → Unharmed old new reads_old reads_now output before at → Causes {T = ℕ} (Ok count) old new reads_old reads_now exceeds output before at
whole_causes count exceeds u = record {
  memory = λ e. absurd (cc e);
  counted = λ _. u.refused;
  read = λ e. absurd (cc e);
  reads_steady = λ _. u.reads;
  write = λ e. absurd (cc e);
  steady = λ _. u.writes;
  still_observable = u.observable;
  grown = u.grown;
  limit = λ e. absurd (cc e);
}

-- the reader failed
pub read_causes : {O : Type 0} {fault : Fault} {old now new : Counts} {reads_old reads_now reads_new : ℕ} {exceeds exceeds_now : Type 0} {output : OutputOf O} {before at : O}
    → Unharmed old now reads_old reads_now output before at → ReadCauses (Some fault) now new reads_now reads_new exceeds_now → (exceeds_now → exceeds)
    → Causes {T = ℕ} (Err fault) old new reads_old reads_new exceeds output before at
read_causes {fault = fault} {new = new} u r exceeds = record {
  memory = λ e. subst (λ n. n < new.refused) u.refused (r.memory (same e));
  counted = λ other. r.counted (λ e. other (cc e)) ∙ u.refused;
  read = λ e. r.device (same e) ∙ ap (λ n. n + 1) u.reads;
  reads_steady = λ other. r.steady (λ e. other (cc e)) ∙ u.reads;
  write = λ e. absurd (r.no_writes (same e));
  steady = λ _. u.writes;
  still_observable = u.observable;
  grown = u.grown;
  limit = λ e. exceeds (r.limit (same e));
}
  where
    same : {f : Fault} → ◌≡◌ {A = Result ℕ Fault} (Err fault) (Err f) → ◌≡◌ {A = Option Fault} (Some fault) (Some f)
    same e = cc e

-- an item was read
pub unharmed_read : {O : Type 0} {old now new : Counts} {reads_old reads_now reads_new : ℕ} {exceeds : Type 0} {output : OutputOf O} {before at : O}
    → Unharmed old now reads_old reads_now output before at → ReadCauses None now new reads_now reads_new exceeds → Unharmed old new reads_old reads_new output before at
unharmed_read u r = record {
  refused = r.counted (none_is) ∙ u.refused;
  reads = r.steady (none_is) ∙ u.reads;
  writes = u.writes;
  observable = u.observable;
  grown = u.grown;
}

-- and put
pub unharmed_put : {O : Type 0} {old now new : Counts} {reads_old reads_now : ℕ} {output : OutputOf O} {before at after : O}
    → Unharmed old now reads_old reads_now output before at → MemoryCauses None now new → WriteCauses None (output.failure_count at) (output.failure_count after)
    → (output.observable after ↔ output.observable at) → (output.observable before → HasPrefix (output.written after) (output.written before))
    → Unharmed old new reads_old reads_now output before after
unharmed_put u m w observable grown = record {
  refused = m.counted (none_is) ∙ u.refused;
  reads = u.reads;
  writes = w.steady (none_is) ∙ u.writes;
  observable = (λ o. u.observable.0 (observable.0 o), λ o. observable.1 (u.observable.1 o));
  grown = grown;
}
