-- Turns of a loop that passes over bytes in the window of a source, more of the device having been read.
use Rattle.std.proofs.Common.{◌≡◌, ℕ, ◌+◌, ◌-◌, ◌≤◌, List, ◌++◌, length, take, drop, None, Ok, arith, refl, sym, ap, subst, ◌∙◌}
use Rattle.std.proofs.lemmas.List.{take-append-drop, length-take-le, drop-append-le, length-append}
use Rattle.ion_meter.specs.declared.device.Input.{Ghosts as InputOf}
use Rattle.ion_meter.specs.Windows.{Incoming, left, lent, Extends, IsGiven, IsPassed}
use Rattle.ion_meter.specs.Sources.{Cursor, cursor, Stands, Moves}
use Rattle.ion_meter.proofs.Lent.{lent-CanPass, lent-take, lent-IsGiven, IsPassed-left}
use Rattle.ion_value.specs.Calls.{Reads}
use Rattle.ion_value.proofs.Cursors.{moves-then, extends-moves}
use Rattle.ion_value.proofs.Passing.{Passed-lent}
use Rattle.ion_text_in.specs.Meaning.{at}
use Rattle.ion_text_in.proofs.Shown.{after_lent, lent-left}

-- a source that went on and has not failed
pub record Gone {I : Type 0} (device : InputOf I) (old new : Incoming I) : Type 0 where
  pub stands : Stands new
  pub moves : Moves device old new
  pub steady : device.failure_count new.device ≡ device.failure_count old.device

pub gone-then : {I : Type 0} (device : InputOf I) (s t u : Incoming I) → Gone device s t → Gone device t u → Gone device s u
gone-then device s t u a b = record { stands = b.stands; moves = moves-then device s t u a.moves b.moves; steady = b.steady ∙ a.steady }

-- a call that gave something
pub reads-gone : {I T : Type 0} (device : InputOf I) (s t : Incoming I) (x : T) → Reads device s t (Ok x) → Gone device s t
reads-gone device s t x reads = record { stands = reads.stands; moves = reads.moves; steady = reads.causes.steady (λ e. cc e) }

pub gone-reads : {I T : Type 0} (device : InputOf I) (s t : Incoming I) {x : T} → Gone device s t → Reads device s t (Ok x)
gone-reads device s t gone = record {
  stands = gone.stands;
  moves = gone.moves;
  causes = record { device = λ e. absurd (cc e); steady = λ _. gone.steady; limit = λ e. absurd (cc e); no_memory = λ e. cc e; no_writes = λ e. cc e };
}

-- a call that passed over nothing
pub gone-more : {I : Type 0} (device : InputOf I) (s p : Incoming I) → Stands s → Extends device s p → p.fault ≡ None → device.failure_count p.device ≡ device.failure_count s.device + 0
    → Gone device s p
gone-more device s p stands kept well steady = record {
  stands = record { well = well; within = omega (arith, kept.place, kept.limit, stands.within); small = omega (arith, kept.limit, stands.small) };
  moves = extends-moves device s p kept;
  steady = omega (arith, steady);
}

-- bytes were passed over
pub record Turn {I : Type 0} (device : InputOf I) (old new : Incoming I) (run : List ℕ) : Type 0 where
  pub gone : Gone device old new
  pub place : new.place ≡ old.place + length run
  pub bytes : device.observable old.device → left device.rest old ≡ run ++ left device.rest new

pub turn : {I : Type 0} (device : InputOf I) (s p t : Incoming I) (bytes : List ℕ) (n : ℕ) → Stands s → Extends device s p → p.fault ≡ None
    → device.failure_count p.device ≡ device.failure_count s.device + 0 → bytes ≡ lent p → n ≤ length bytes → IsPassed p t n → Turn device s t (take n bytes)
turn device s p t bytes n stands kept well steady is fits passed =
    let there : n ≤ length (lent p) = subst (λ (l : List ℕ). n ≤ length l) is fits in
    let over = Passed-lent device s p t n stands kept well there passed in
    let long = length-take-le n bytes fits in
    record {
      gone = record { stands = over.stands; moves = over.moves; steady = let same : device.failure_count p.device ≡ device.failure_count s.device = omega (arith, steady) in ap device.failure_count passed.device ∙ same };
      place = over.place ∙ ap (λ (k : ℕ). s.place + k) (sym long);
      bytes = λ h.
          let same = kept.same_left h in
          sym (take-append-drop n (left device.rest s))
          ∙ ap (λ (l : List ℕ). take n l ++ drop n (left device.rest s)) (sym same)
          ∙ ap (λ (l : List ℕ). l ++ drop n (left device.rest s)) (lent-take device.rest p n there ∙ ap (λ (l : List ℕ). take n l) (sym is))
          ∙ ap (λ (l : List ℕ). take n bytes ++ l) (sym (over.after h));
    }

-- what is read from before the bytes is what is read from after them
pub turn-then : {I A : Type 0} (device : InputOf I) (s t : Incoming I) (run : List ℕ) (before after : Cursor → A) → Turn device s t run → device.observable s.device
    → before (at s.place (run ++ left device.rest t)) ≡ after (at (s.place + length run) (left device.rest t)) → before (cursor device s) ≡ after (cursor device t)
turn-then device s t run before after passed h same =
    ap (λ (l : List ℕ). before (at s.place l)) (passed.bytes h) ∙ same ∙ ap (λ (n : ℕ). after (at n (left device.rest t))) (sym passed.place)

-- where the source stands after bytes of which the last was given
pub passed-cursor : {I : Type 0} (device : InputOf I) (s p t : Incoming I) (ahead : ℕ) → Stands s → Extends device s p → p.fault ≡ None → IsGiven p ahead
    → IsPassed p t (ahead + 1) → device.observable s.device → cursor device t ≡ at (s.place + (ahead + 1)) (drop (ahead + 1) (left device.rest s))
passed-cursor device s p t ahead stands kept well given passed h =
    let there = lent-IsGiven p ahead well given in
    let over = Passed-lent device s p t (ahead + 1) stands kept well (omega (arith, there)) passed in
    ap (λ (n : ℕ). at n (left device.rest t)) over.place ∙ ap (λ (l : List ℕ). at (s.place + (ahead + 1)) l) (over.after h)

-- what stands after bytes of the window
pub turn-after : {I : Type 0} (device : InputOf I) (p t : Incoming I) (bytes : List ℕ) (n : ℕ) → bytes ≡ lent p → n ≤ length bytes → IsPassed p t n
    → (more : List ℕ) × (left device.rest t ≡ drop n bytes ++ more)
turn-after device p t bytes n is fits passed =
    let there : n ≤ length (lent p) = subst (λ (l : List ℕ). n ≤ length l) is fits in
    let more : List ℕ = after_lent p.fault (p.limit - p.place) p.buffered ++ device.rest p.device in (
      more,
      IsPassed-left device.rest p t n (lent-CanPass p n there).0 passed
          ∙ ap (λ (l : List ℕ). drop n l) (lent-left device.rest p)
          ∙ drop-append-le n (lent p) more there
          ∙ ap (λ (l : List ℕ). drop n l ++ more) (sym is),
    )

-- what was given is given still
pub given-kept : {I : Type 0} (device : InputOf I) (s p : Incoming I) (ahead : ℕ) → Extends device s p → IsGiven s ahead → IsGiven p ahead
given-kept device s p ahead kept given =
    let long = ap (λ (l : List ℕ). length l) kept.prefix.1 ∙ length-append s.buffered kept.prefix.0 in
    (omega (arith, given.0, long), omega (arith, given.1, kept.place, kept.limit))

-- a source after bytes of which the last was given
pub gone-passed : {I : Type 0} (device : InputOf I) (s p t : Incoming I) (ahead : ℕ) → Stands s → Extends device s p → p.fault ≡ None
    → device.failure_count p.device ≡ device.failure_count s.device + 0 → IsGiven p ahead → IsPassed p t (ahead + 1) → Gone device s t × (t.place ≡ s.place + (ahead + 1))
gone-passed device s p t ahead stands kept well steady given passed =
    let there = lent-IsGiven p ahead well given in
    let over = Passed-lent device s p t (ahead + 1) stands kept well (omega (arith, there)) passed in
    let same : device.failure_count p.device ≡ device.failure_count s.device = omega (arith, steady) in
    (record { stands = over.stands; moves = over.moves; steady = ap device.failure_count passed.device ∙ same }, over.place)
