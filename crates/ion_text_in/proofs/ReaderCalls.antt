-- Calls of the reader one after the other: what they give, keep and move.
use Rattle.std.proofs.Common.{◌≡◌, ℕ, ◌+◌, ◌*◌, ◌<◌, ◌≤◌, ◌-◌, Bool, true, false, List, length, reverse, Option, Some, None, Result, Ok, Err, refl, sym, ap, subst, ◌∙◌, arith}
use Rattle.ion_meter.specs.Counts.{Counts}
use Rattle.ion_meter.specs.declared.device.Input.{Ghosts as InputOf}
use Rattle.ion_meter.specs.declared.fault.Fault.{Fault}
use Rattle.ion_meter.specs.declared.fault.Fault.TheVariants.{Refused}
use Rattle.ion_meter.specs.declared.fault.Reason.{Reason}
use Rattle.ion_meter.specs.declared.profile.Rules.{Rules}
use Rattle.ion_meter.specs.Windows.{Incoming}
use Rattle.ion_meter.specs.Sources.{Cursor, cursor, Exceeds, Moves}
use Rattle.ion_value.specs.declared.ion_type.Kind.{Kind}
use Rattle.ion_value.specs.Calls.{Reads, ReadsInto}
use Rattle.ion_value.specs.Reading.{Reading, Stopped}
use Rattle.ion_value.specs.Shares.{Charges, GrowsWithin, ReadCauses}
use Rattle.ion_value.specs.Standing.{Fits, open_after}
use Rattle.ion_value.proofs.Cursors.{moves-not, moves-then}
use Rattle.ion_text_in.specs.Blanks.{blanks}
use Rattle.ion_text_in.specs.declared.reader.StepResult.{StepResult}
use Rattle.ion_text_in.specs.declared.reader.StepResult.TheVariants as step_result
use Rattle.ion_text_in.specs.declared.reader.TextReader.{TextReader}
use Rattle.ion_text_in.specs.Steps.{held_by, later, left_to, lent_by, opened_in, share_of, to_come_by, to_come_in, Advances, CanAdvance, CanStep, IsSized, IsInside, StepGives, Stepped, StepsTo}
use Rattle.ion_text_in.specs.Tokens.{going}
use Rattle.ion_text_in.proofs.Holding.{causes-held, causes-none, causes-refused, causes-then, charges-none, charges-then}

-- as a step, what a call for the next item answers
abbrev pub as_step : Result Bool Fault → Result StepResult Fault
as_step (Ok true) = Ok step_result.Item
as_step (Ok false) = Ok step_result.Ended
as_step (Err fault) = Err fault

module _ {I A : Type 0} (device : InputOf I) where
  -- the reader read on, and took nothing
  abbrev pub Reached : TextReader I A → TextReader I A → Counts → Counts → Type 0
  Reached old mid earlier later = Stepped device ⊥ None old mid earlier later

  -- no item was taken
  pub stepped-by : (took : Type 0) (fault : Option Fault) (p q : TextReader I A) (a b : Counts) → (took → ⊥) → q.kinds ≡ p.kinds → q.limits ≡ p.limits → q.done ≡ p.done → q.failed ≡ p.failed → IsSized q
      → Moves device p.source q.source → ReadCauses fault a b (device.failure_count p.source.device) (device.failure_count q.source.device) (Exceeds device p.source)
      → Charges a b (held_by p) (held_by q) (share_of p) → Stepped device took fault p q a b
  stepped-by took fault p q a b none kinds limits done failed sized moves causes charges =
      record { opens = λ e. absurd (none e); stays = λ _. kinds; fits = λ e. absurd (none e); limits = limits; done = done; failed = failed; sized = sized; moves = moves; causes = causes; charges = charges }

  -- whether an item was taken, told in another way
  pub stepped-as : (took other : Type 0) (fault : Option Fault) (p q : TextReader I A) (a b : Counts) → (took → other) → (other → took) → Stepped device took fault p q a b → Stepped device other fault p q a b
  stepped-as took other fault p q a b to from s =
      record { opens = λ e. s.opens (from e); stays = λ e. s.stays (λ t. e (to t)); fits = λ e. s.fits (from e); limits = s.limits; done = s.done; failed = s.failed; sized = s.sized; moves = s.moves; causes = s.causes; charges = s.charges }

  -- a call after what was read
  pub stepped-then : (took : Type 0) (fault : Option Fault) (p q r : TextReader I A) (a b c : Counts) → held_by p ≤ a.held → Reached p q a b → Stepped device took fault q r b c → Stepped device took fault p r a c
  stepped-then took fault p q r a b c there x y =
      let share : share_of q ≡ share_of p = ap (λ (l : Rules). 4096 + 16 * l.depth + 3 * l.scalar) x.limits in
      let kinds : q.kinds ≡ p.kinds = x.stays (λ e. e) in
      let opened : opened_in q ≡ opened_in p = ap (λ (l : List Kind). reverse l) kinds in
      record {
        opens = λ e. y.opens e ∙ ap (λ (l : List Kind). open_after l (lent_by r).head) opened;
        stays = λ e. y.stays e ∙ kinds;
        fits = λ e. subst (λ (l : List Kind). Fits p.limits.depth l (lent_by r)) opened (subst (λ (l : Rules). Fits l.depth (opened_in q) (lent_by r)) x.limits (y.fits e));
        limits = y.limits ∙ x.limits;
        done = y.done ∙ x.done;
        failed = y.failed ∙ x.failed;
        sized = y.sized;
        moves = moves-then device p.source q.source r.source x.moves y.moves;
        causes = causes-then device p.source q.source r.source a b c fault x.moves x.causes y.causes;
        charges = charges-then a b c (held_by p) (held_by q) (held_by r) (share_of p) there x.charges (subst (λ (n : ℕ). Charges b c (held_by q) (held_by r) n) share y.charges);
      }

  -- ---- what was read

  pub held-share : (r : TextReader I A) → IsSized r → held_by r ≤ share_of r
  held-share r s = omega (arith, s.few, s.annotated, s.name, s.text)

  -- the source alone
  pub reached-source : {T : Type 0} (r : TextReader I A) (s : Incoming I) (m : Counts) (x : T) → IsSized r → held_by r ≤ m.held → Reads device r.source s (Ok x) → Reached r (record r { source = s }) m m
  reached-source r s m x sized there reads =
      stepped-by ⊥ None r (record r { source = s }) m m (λ e. e) refl refl refl refl (record { checked = sized.checked; few = sized.few; annotated = sized.annotated; name = sized.name; text = sized.text }) reads.moves
      (causes-held None m _ _ _ reads.causes) (charges-none m (held_by r) (share_of r) (held-share r sized) there)

  -- a token into the text
  pub reached-text : {T : Type 0} (r : TextReader I A) (s : Incoming I) (t : List ℕ) (a b : Counts) (x : T) → IsSized r → held_by r ≤ a.held
      → ReadsInto device r.source s a b (length r.text) (length t) r.limits.scalar (Ok x) → Reached r (record r { source = s; text = t }) a b
  reached-text r s t a b x sized there reads =
      let few = sized.few in let noted = sized.annotated in let name = sized.name in
      let held = reads.charges.held in let share = reads.charges.share in let peak = reads.charges.peak in
      stepped-by ⊥ None r (record r { source = s; text = t }) a b (λ e. e) refl refl refl refl (record { checked = sized.checked; few = few; annotated = noted; name = name; text = share }) reads.moves reads.causes
      (record { held = omega (arith, held); share = omega (arith, few, noted, name, share); peak = omega (arith, few, noted, name, there, peak); rises = reads.charges.rises })

  -- ---- steps

  gives-same : (before after : Reading) (new : TextReader I A) (result : Result StepResult Fault) → before ≡ after → StepGives device after new result → StepGives device before new result
  gives-same before after new result e h = subst (λ r. StepGives device r new result) (sym e) h

  -- a step after what was read
  pub steps-after : (result : Result StepResult Fault) (p q r : TextReader I A) (a b c : Counts) (start next : Option ℕ) (before after : Cursor → Reading) (most more : ℕ) → held_by p ≤ a.held → Reached p q a b
      → (device.observable p.source.device → (d : Cursor) → blanks d ≡ going start (cursor device p.source) → (e : Cursor) × ((blanks e ≡ going next (cursor device q.source)) × (before d ≡ after e)))
      → GrowsWithin a b (held_by p) (held_by q + more) (most + 16 * (left_to p - left_to q)) → StepsTo device next after more q r b c result → StepsTo device start before most p r a c result
  steps-after result p q r a b c start next before after most more there reached same grows s =
      let lx = reached.moves.limit in let fx = reached.moves.further in let ly = s.stepped.moves.limit in let fy = s.stepped.moves.further in
      let held = reached.charges.held in let own = grows.own in let peak = grows.peak in let own_then = s.goes.own in let peak_then = s.goes.peak in
      record {
        gives = λ h d blank. let x = same h d blank in gives-same (before d) (after x.0) r result x.1.1 (s.gives (reached.moves.still_observable.1 h) x.0 x.1.0);
        ready = s.ready;
        stepped = stepped-then _ _ p q r a b c there reached s.stepped;
        goes = record { own = omega (arith, lx, fx, ly, fy, own, own_then); peak = omega (arith, lx, fx, ly, fy, held, own, peak, peak_then) };
      }

  -- after a source that was read on
  pub steps-ahead : {T : Type 0} (result : Result StepResult Fault) (p r : TextReader I A) (s : Incoming I) (m c : Counts) (x : T) (next : Option ℕ) (before after : Cursor → Reading) (more : ℕ) → CanStep p m
      → Reads device p.source s (Ok x)
      → (device.observable p.source.device → (d : Cursor) → blanks d ≡ blanks (cursor device p.source) → (e : Cursor) × ((blanks e ≡ going next (cursor device s)) × (before d ≡ after e)))
      → (CanStep (record p { source = s }) m → StepsTo device next after more (record p { source = s }) r m c result) → StepsTo device None before more p r m c result
  steps-ahead result p r s m c x next before after more can reads same steps =
      let reached = reached-source p s m x can.sized can.held reads in
      let inside : IsInside (record p { source = s }) = record { stands = reads.stands; expects = can.inside.expects; kept = can.inside.kept; finished = can.inside.finished } in
      steps-after result p (record p { source = s }) r m m c None next before after more more can.held reached same (record { own = omega arith; peak = omega arith })
      (steps (record { room = can.room; held = can.held; countable = can.countable; sized = reached.sized; inside = inside }))

  -- what was to come, told in another way
  pub steps-same : (result : Result StepResult Fault) (p q : TextReader I A) (a b : Counts) (start : Option ℕ) (before after : Cursor → Reading) (more : ℕ) → ((d : Cursor) → before d ≡ after d)
      → StepsTo device start after more p q a b result → StepsTo device start before more p q a b result
  steps-same result p q a b start before after more same s =
      record { gives = λ h d blank. gives-same (before d) (after d) q result (same d) (s.gives h d blank); ready = s.ready; stepped = s.stepped; goes = s.goes }

  -- so much more may be taken
  pub steps-more : (result : Result StepResult Fault) (p q : TextReader I A) (a b : Counts) (start : Option ℕ) (before : Cursor → Reading) (less more : ℕ) → less ≤ more
      → StepsTo device start before less p q a b result → StepsTo device start before more p q a b result
  steps-more result p q a b start before less more le s =
      let own = s.goes.own in let peak = s.goes.peak in
      record { gives = s.gives; ready = s.ready; stepped = s.stepped; goes = record { own = omega (arith, own, le); peak = omega (arith, peak, le) } }

  -- a fault of what was read, nothing else having happened
  pub steps-refused : (r : TextReader I A) (m : Counts) (start : Option ℕ) (before : Cursor → Reading) (more : ℕ) (reason : Reason) (place : ℕ) → IsSized r → held_by r ≤ m.held
      → ((d : Cursor) → before d ≡ Stopped reason place) → StepsTo device start before more r r m m (Err (Refused reason place))
  steps-refused r m start before more reason place sized there stops = record {
    gives = λ h d blank. stops d;
    ready = tt;
    stepped = stepped-by _ _ r r m m (λ e. cc e) refl refl refl refl sized (moves-not device r.source) (causes-refused reason place m m _ _ _ (causes-none m m _ _ refl))
        (charges-none m (held_by r) (share_of r) (held-share r sized) there);
    goes = record { own = omega arith; peak = omega arith };
  }

  -- ---- up to an item

  -- what steps did so far, from between two items
  abbrev pub SoFar : TextReader I A → TextReader I A → Counts → Counts → Type 0
  SoFar old mid earlier later = StepsTo device None (λ _. to_come_by device old) 0 old mid earlier later (Ok step_result.Passed)

  pub so-far-can : (p q : TextReader I A) (a b : Counts) → CanAdvance p a → SoFar p q a b → CanStep q b
  so-far-can p q a b can s =
      let room = can.room in let there = can.held in let held = s.stepped.charges.held in
      record { room = omega (arith, room, there, held); held = omega (arith, there, held); countable = omega (arith, can.countable, s.stepped.causes.counted (λ e. cc e)); sized = s.stepped.sized; inside = s.ready }

  pub so-far-then : (result : Result StepResult Fault) (p q r : TextReader I A) (a b c : Counts) → CanAdvance p a → SoFar p q a b → StepsTo device None (λ _. to_come_in device q) 0 q r b c result
      → StepsTo device None (λ _. to_come_by device p) 0 p r a c result
  so-far-then result p q r a b c can s =
      steps-after result p q r a b c None None (λ _. to_come_by device p) (λ _. to_come_in device q) 0 0 can.held
      (stepped-as (Ok step_result.Passed ≡ Ok step_result.Item) ⊥ None p q a b (λ e. cc e) (λ e. absurd e) s.stepped) (λ h d blank. (cursor device q.source, (refl, s.gives h d blank)))
      (record { own = omega (arith, s.goes.own); peak = omega (arith, s.goes.peak) })

  -- ---- a call for the next item

  fault-refused : (before : Reading) (new : TextReader I A) (fault : Fault) (r : Reason) (p : ℕ) → StepGives device before new (Err fault) → fault ≡ Refused r p → before ≡ Stopped r p
  fault-refused before new fault r p h e = grind arith

  goes-all : (p q : TextReader I A) (a b : Counts) → GrowsWithin a b (held_by p) (held_by q) (0 + 16 * (left_to p - left_to q)) → GrowsWithin a b (held_by p) (held_by q) (16 * (left_to p - left_to q))
  goes-all p q a b goes = record { own = omega (arith, goes.own); peak = omega (arith, goes.peak) }

  pub advanced : (result : Result Bool Fault) (p q : TextReader I A) (a b : Counts) → StepsTo device None (λ _. to_come_by device p) 0 p q a b (as_step result) → (result ≡ Ok true → left_to q < left_to p)
      → Advances device p q a b result
  advanced (Ok true) p q a b s falls = record {
    gives = λ h e. s.gives h (cursor device p.source) refl;
    ends = λ h e. absurd (cc e);
    refuses = λ h r place e. absurd (cc e);
    ready = s.ready;
    falls = falls;
    stepped = stepped-as _ _ None p q a b (λ e. refl) (λ e. refl) s.stepped;
    goes = goes-all p q a b s.goes;
  }
  advanced (Ok false) p q a b s falls = record {
    gives = λ h e. absurd (cc e);
    ends = λ h e. s.gives h (cursor device p.source) refl;
    refuses = λ h r place e. absurd (cc e);
    ready = s.ready;
    falls = falls;
    stepped = stepped-as _ _ None p q a b (λ e. cc e) (λ e. cc e) s.stepped;
    goes = goes-all p q a b s.goes;
  }
  advanced (Err fault) p q a b s falls = record {
    gives = λ h e. absurd (cc e);
    ends = λ h e. absurd (cc e);
    refuses = λ h r place e. fault-refused (to_come_by device p) q fault r place (s.gives h (cursor device p.source) refl) (cc e);
    ready = tt;
    falls = falls;
    stepped = stepped-as _ _ (Some fault) p q a b (λ e. cc e) (λ e. cc e) s.stepped;
    goes = goes-all p q a b s.goes;
  }

  -- by steps so far, and the last
  pub advanced-then : (result : Result Bool Fault) (p q r : TextReader I A) (a b c : Counts) → CanAdvance p a → SoFar p q a b → StepsTo device None (λ _. to_come_in device q) 0 q r b c (as_step result)
      → (result ≡ Ok true → left_to r < left_to q) → Advances device p r a c result
  advanced-then result p q r a b c can s last falls =
      advanced result p r a c (so-far-then (as_step result) p q r a b c can s last) (λ e. omega (arith, falls e, s.stepped.moves.limit, s.stepped.moves.further))
