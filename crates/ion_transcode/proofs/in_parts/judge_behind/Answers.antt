use Rattle.std.proofs.Common.{rules, ◌≡◌, ℕ, true, ◌==◌, List, length, Ok, Err, ap, sym, subst, ◌∙◌}
use Rattle.ion_meter.specs.declared.fault.Fault.TheVariants.{Refused}
use Rattle.ion_value.specs.Reading.{Stopped}
use Rattle.ion_value.specs.ReadingLaws.{ending_of}
use Rattle.ion_transcode.specs.declared.in_parts.Stretch.TheVariants as stretches
use Rattle.ion_transcode.specs.Forms.{reading_of}
use Rattle.ion_transcode.specs.PartCalls.{IsCounted, HasCount, own_reading, other}
use Rattle.ion_transcode.proofs.Judging.{as-stretch, refused-by, stretch-by, unknown-stretch}
use Rattle.ion_transcode.proofs.PartMemory.{err-of, gives-as, gives-then, ok-not}
use Rattle.ion_transcode.proofs.in_parts.judge_behind.Goals as goal

pub returns-in-Err-clause-stretch : goal.returns-in-Err-clause-stretch
returns-in-Err-clause-stretch g c = λ what e. unknown-stretch what (c.unknown.ensures.other what e)

pub returns-then-not-is_cut-clause-stretch : goal.returns-then-not-is_cut-clause-stretch
returns-then-not-is_cut-clause-stretch g c = λ what e. as-stretch stretches.Other what other e

pub returns-in-Ok-count_own_items-clause-stretch : goal.returns-in-Ok-count_own_items-clause-stretch
returns-in-Ok-count_own_items-clause-stretch g c = λ what e.
    let reads = c.args.reads in
    let kept = c.args.kept.now in
    let part = c.args.part.now in
    let all = c.in-Ok.counted in
    let own = c.in-Ok-count_own_items.own in
    let given : c.count_own_items.result ≡ Ok own = search rules in
    let may : c.is_cut.result ≡ true = search rules in
    let counted = subst (λ (b : List ℕ). IsCounted c.args.before (reading_of reads.profile reads.form reads.limits b) all) c.new.ensures (c.count.ensures.counts all c.in-Ok.is) in
    let own_items = subst (λ (b : List ℕ). HasCount (own_reading reads.profile c.args.catalog.now reads.limits reads.form b) own) c.new-2.ensures (c.count_own_items.ensures.counts own given) in
    as-stretch c.stretch_of.result what
    (stretch-by reads.profile c.args.catalog.now reads.limits reads.form kept part c.args.next.now c.args.before all counted c.requires.some c.is_cut.result c.is_cut.ensures may
    c.is_empty.result own c.stretch_of.result c.requires.before own_items (λ none. c.is_empty.ensures ∙ ap (λ (k : List ℕ). length k == 0) none) c.stretch_of.ensures)
    e

pub returns-in-Err-Refused-clause-stretch : goal.returns-in-Err-Refused-clause-stretch
returns-in-Err-Refused-clause-stretch g c = λ what e.
    let reads = c.args.reads in
    let kept = c.args.kept.now in
    let part = c.args.part.now in
    let all = c.in-Ok.counted in
    let reason = c.in-Err-Refused.field-0-0 in
    let place = c.in-Err-Refused.field-0-1 in
    let given : c.count_own_items.result ≡ Err (Refused reason place) = search rules in
    let may : c.is_cut.result ≡ true = search rules in
    let counted = subst (λ (b : List ℕ). IsCounted c.args.before (reading_of reads.profile reads.form reads.limits b) all) c.new.ensures (c.count.ensures.counts all c.in-Ok.is) in
    let stops = subst (λ (b : List ℕ). ending_of (own_reading reads.profile c.args.catalog.now reads.limits reads.form b) ≡ Stopped reason place) c.new-2.ensures (c.count_own_items.ensures.refuses reason place given) in
    as-stretch stretches.Refused what
    (refused-by reads.profile c.args.catalog.now reads.limits reads.form kept part c.args.next.now c.args.before all counted c.requires.some c.is_cut.result c.is_cut.ensures may
    reason place stops)
    e

pub returns-in-Err-count_own_items : goal.returns-in-Err-count_own_items
returns-in-Err-count_own_items g c =
    let fault = c.in-Err-count_own_items.fault in
    let unknown = c.unknown-in-Err-count_own_items.ensures in
    let given : c.count_own_items.result ≡ Err fault = search rules in
    record {
      stretch = λ what e. unknown-stretch what (unknown.other what e);
      gives_back = gives-then c.count.ensures.gives_back (λ e. ok-not (sym c.in-Ok.is ∙ e))
          (gives-as c.count_own_items.ensures.gives_back (λ e. given ∙ ap Err (unknown.memory.0 e)) (λ e. unknown.memory.1 (err-of (sym given ∙ e))));
      only_memory = unknown.only_memory;
    }
