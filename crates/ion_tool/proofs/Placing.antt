-- What is said of the place of a refusal, after a run over an input whose lines may be counted.
use Rattle.std.proofs.Common.{arith, ◌≡◌, ◌⊎◌, inl, inr, ℕ, ◌+◌, ◌≤◌, Bool, true, false, List, [], ◌++◌, length, take, drop, Option, None, Some, Result, Ok, Err, refl, sym, ap, subst, ◌∙◌, append-nil}
use Rattle.std.proofs.lemmas.List.{length-append, take-append-le}
use Rattle.std.specs.Prelude.{max, IfSome, MatchOption}
use Rattle.ion_meter.proofs.ReadOn.{reads-left, reads-seen, read_on-same, read_on-then}
use Rattle.ion_meter.specs.Counts.{Counts, Shrinks}
use Rattle.ion_meter.specs.Devices.{AfterReads, IsReadOn}
use Rattle.ion_meter.specs.Windows.{HasPrefix}
use Rattle.ion_meter.specs.declared.device.Input.{Ghosts as InputOf}
use Rattle.ion_meter.specs.declared.fault.Fault.{Fault}
use Rattle.ion_meter.specs.declared.fault.Fault.TheVariants.{Refused, Memory, ReadFault, WriteFault, InputLimit}
use Rattle.ion_meter.specs.declared.fault.Reason.{Reason}
use Rattle.ion_transcode.specs.Forms.{form_of}
use Rattle.ion_transcode.specs.declared.to.Summary.{Summary}
use Rattle.ion_tool.specs.Counting.{counter_input, Counting, CountsOn, Finds, HasCounted, IsLocated, IsReached, IsUnplaced, Locates, Marks, Places, StartsCount}
use Rattle.ion_tool.specs.LineNumbers.{line_ends, place_text}
use Rattle.ion_tool.specs.Serving.{found_text, marks_cost, HasSuffix, IsSuffix}
use Rattle.ion_tool.specs.declared.marks.Position.{Position}
use Rattle.ion_tool.proofs.Counted.{counts-reads, device-reads}
use Rattle.ion_tool.proofs.MarksOf.{form-append}

-- ---- what is found

-- what was found of a place is what is said of it, in bytes that begin with those that were read and stand as they do before the place
said : (bytes read : List ℕ) (place : ℕ) (found : Option Position) → form_of bytes ≡ form_of read → take place bytes ≡ take place read → Finds read place found
    → (found_text found ≡ place_text (form_of bytes) bytes place) ⊎ ((found_text found ≡ []) × (65536 ≤ line_ends (drop place read)))
said bytes read place None form same (inl binary) = inl (rw (form, binary) refl)
said bytes read place None form same (inr many) = inr (refl, many)
said bytes read place (Some p) form same (text, lines, column) = inl (rw (form, text, same, lines, column) refl)

-- the bytes of a stream of which these were read, and the others are left: none where the input has ended
abbrev pub StandsFor : {I : Type 0} → InputOf I → I → List ℕ → ℕ → List ℕ → Type 0
StandsFor input now read place bytes =
    HasPrefix bytes read × (input.observable now → bytes ≡ read ++ input.rest now) × (form_of bytes ≡ form_of read) × (take place bytes ≡ take place read)

-- so many bytes at least were counted, and so no fewer read
stands-reached : {I : Type 0} (input : InputOf I) (now : I) (read : List ℕ) (place : ℕ) (m : Marks) → HasCounted read m → max place 1 ≤ m.count
    → StandsFor input now read place (read ++ input.rest now)
stands-reached input now read place m has enough =
    let len : m.count ≤ length read = omega (arith, has.marks.count, ap length has.prefix.1, length-append has.counted has.prefix.0) in (
      (input.rest now, refl),
      λ o. refl,
      form-append read (input.rest now) (omega arith),
      take-append-le place read (input.rest now) (omega arith),
    )

-- none are left
stands-ended : {I : Type 0} (input : InputOf I) (now : I) (read : List ℕ) (place : ℕ) → (input.observable now → input.rest now ≡ []) → StandsFor input now read place read
stands-ended input now read place ended = (
  ([], sym (append-nil read)),
  λ o. sym (ap (λ (l : List ℕ). read ++ l) (ended o) ∙ append-nil read),
  refl,
  refl,
)

-- some bytes stand for those of the stream
stands : {I : Type 0} (input : InputOf I) (now : I) (read : List ℕ) (place : ℕ) (m : Marks) → HasCounted read m → IsReached input (max place 1) now (Some m)
    → (bytes : List ℕ) × StandsFor input now read place bytes
stands input now read place m has (inl enough) = (read ++ input.rest now, stands-reached input now read place m has enough)
stands input now read place m has (inr ended) = (read, stands-ended input now read place ended)

-- ---- what is said

module _ {I : Type 0} (input : InputOf I) (first last : Counting I) (device : I) (read : List ℕ) (is_first : first.device ≡ device) (reads : AfterReads (counter_input input) first read last) where
  read-device : AfterReads input device read last.device
  read-device = subst (λ (d : I). AfterReads input d read last.device) is_first (device-reads input first last read reads)

  -- the bytes of the device are those that stand for them
  of-device : (place : ℕ) (bytes : List ℕ) → StandsFor input last.device read place bytes → input.observable device → bytes ≡ input.rest device
  of-device place bytes stand o =
      let seen = reads-seen input device last.device read read-device o in
      stand.1 seen ∙ sym (reads-left input device last.device read read-device o)

  -- nothing is said where bytes are not asked for, or no place is blamed
  pub unsaid : (lines : Bool) (answer : Result Summary Fault) → IsSuffix lines (read ++ input.rest last.device) read answer [] → HasSuffix input lines device last.device answer []
  unsaid lines answer is = record {
    bytes = read ++ input.rest last.device;
    read = read;
    of_input = λ o. sym (reads-left input device last.device read read-device o);
    reads = read-device;
    prefix = (input.rest last.device, refl);
    is = is;
  }

  -- a place was looked for in what was counted
  pub said-of : (place : ℕ) (answer : Result Summary Fault) (m : Marks) (found : Option Position) → HasCounted read m → IsReached input (max place 1) last.device (Some m)
      → Finds read place found → ((bytes : List ℕ) → (found_text found ≡ place_text (form_of bytes) bytes place) ⊎ ((found_text found ≡ []) × (65536 ≤ line_ends (drop place read)))
      → IsSuffix true bytes read answer (found_text found)) → HasSuffix input true device last.device answer (found_text found)
  said-of place answer m found has reached finds suffix =
      let stand = stands input last.device read place m has reached in
      record {
        bytes = stand.0;
        read = read;
        of_input = of-device place stand.0 stand.1;
        reads = read-device;
        prefix = stand.1.0;
        is = suffix stand.0 (said stand.0 read place found stand.1.2 stand.1.3 finds);
      }

-- what is kept of an input whose lines are counted, or not, from its beginning on
marked : (lines : Bool) (first last : Option Marks) (read : List ℕ) → StartsCount lines first → CountsOn first read last
    → ((lines ≡ false) × (last ≡ None)) ⊎ ((lines ≡ true) × ((m : Marks) × (last ≡ Some m) × HasCounted read m))
marked false None None read starts on = inl (refl, refl)
marked false None (Some m) read starts on = absurd on
marked false (Some n) last read starts on = absurd starts
marked true None last read starts on = absurd starts
marked true (Some n) None read starts on = absurd on
marked true (Some n) (Some m) read starts on = inr (refl, (m, refl, on.1 [] starts))

-- without a place to blame there is no suffix
no_suffix : (lines : Bool) (bytes read : List ℕ) (answer : Result Summary Fault) → ((r : Reason) (p : ℕ) → answer ≡ Err (Refused r p) → lines ≡ false) → IsSuffix lines bytes read answer []
no_suffix false bytes read answer none = refl
no_suffix true bytes read (Ok s) none = refl
no_suffix true bytes read (Err (Refused r p)) none = absurd (cc (none r p refl))
no_suffix true bytes read (Err InputLimit) none = refl
no_suffix true bytes read (Err Memory) none = refl
no_suffix true bytes read (Err ReadFault) none = refl
no_suffix true bytes read (Err WriteFault) none = refl

-- the answer that is served: that of the run, or the input failed that was read on after it
abbrev pub Comes : {I : Type 0} → InputOf I → I → I → Result Summary Fault → Result Summary Fault → Type 0
Comes input middle last answer result =
    ((result ≡ answer) × (input.failure_count last ≡ input.failure_count middle))
    ⊎ ((r : Reason) × (p : ℕ) × (answer ≡ Err (Refused r p)) × (result ≡ Err ReadFault) × (input.failure_count last ≡ input.failure_count middle + 1))

unplaced : {I : Type 0} (input : InputOf I) (middle last : Counting I) (answer result : Result Summary Fault) (found : Option Position) → IsUnplaced middle last answer result found
    → Comes input middle.device last.device answer result
unplaced input middle last answer result found is = inl (is.same, ap (λ (c : Counting _). input.failure_count c.device) is.input)

pub comes : {I : Type 0} (input : InputOf I) (middle last : Counting I) (answer result : Result Summary Fault) (found : Option Position) → Places input middle last answer result found
    → Comes input middle.device last.device answer result
comes input middle last (Ok s) result found is = unplaced input middle last (Ok s) result found is
comes input middle last (Err InputLimit) result found is = unplaced input middle last (Err InputLimit) result found is
comes input middle last (Err Memory) result found is = unplaced input middle last (Err Memory) result found is
comes input middle last (Err ReadFault) result found is = unplaced input middle last (Err ReadFault) result found is
comes input middle last (Err WriteFault) result found is = unplaced input middle last (Err WriteFault) result found is
comes input middle last (Err (Refused r p)) result found is = elim is.placed [ inl (same, steady, located) ↦ inl (same, steady) | inr (fault, count, none) ↦ inr (r, p, refl, fault, count) ]

-- it was read on after the run, or not
pub onward : {I : Type 0} (input : InputOf I) (middle last : Counting I) (answer result : Result Summary Fault) (found : Option Position) → Places input middle last answer result found
    → IsReadOn (counter_input input) middle last
onward input middle last (Ok s) result found is = read_on-same (counter_input input) middle last is.input
onward input middle last (Err InputLimit) result found is = read_on-same (counter_input input) middle last is.input
onward input middle last (Err Memory) result found is = read_on-same (counter_input input) middle last is.input
onward input middle last (Err ReadFault) result found is = read_on-same (counter_input input) middle last is.input
onward input middle last (Err WriteFault) result found is = read_on-same (counter_input input) middle last is.input
onward input middle last (Err (Refused r p)) result found is = is.reads

-- ---- the suffix of the answer that is served

-- of an input whose lines are counted, or not, from its beginning on
module _ {I : Type 0} (input : InputOf I) (lines : Bool) (first last : Counting I) (device : I) (is_first : first.device ≡ device) (starts : StartsCount lines first.marks)
    (on : IsReadOn (counter_input input) first last) where
  pub count : CountsOn first.marks on.bytes last.marks
  count = counts-reads input first last on.bytes on.reads

  -- an answer that blames no place
  suffix-none : (answer : Result Summary Fault) → ((r : Reason) (p : ℕ) → answer ≡ Err (Refused r p) → lines ≡ false) → HasSuffix input lines device last.device answer []
  suffix-none answer none =
      unsaid input first last device on.bytes is_first on.reads lines answer (no_suffix lines (on.bytes ++ input.rest last.device) on.bytes answer none)

  -- a refusal whose place was looked for
  suffix-located : (r : Reason) (place : ℕ) (found : Option Position) → IsLocated input place last found → HasSuffix input lines device last.device (Err (Refused r place)) (found_text found)
  suffix-located r place found located = elim (marked lines first.marks last.marks on.bytes starts count) [
    | inl (off, none) ↦
        let nothing : found ≡ None = subst (λ (m : Option Marks). Locates place m found) none located.located in
        subst (λ (f : Option Position). HasSuffix input lines device last.device (Err (Refused r place)) (found_text f)) (sym nothing) (suffix-none (Err (Refused r place)) (λ q p e. off))
    | inr (asked, (m, some, has)) ↦
        let reached = subst (λ (x : Option Marks). IsReached input (max place 1) last.device x) some located.reached in
        let finds = subst (λ (x : Option Marks). Locates place x found) some located.located in
        subst (λ (b : Bool). HasSuffix input b device last.device (Err (Refused r place)) (found_text found)) (sym asked)
        (said-of input first last device on.bytes is_first on.reads place (Err (Refused r place)) m found has reached (finds on.bytes has) (λ bytes is. is))
  ]

-- of a run over an input whose lines are counted, or not, from its beginning on, and of what was found after it
module _ {I : Type 0} (input : InputOf I) (lines : Bool) (first middle last : Counting I) (device : I) (is_first : first.device ≡ device) (starts : StartsCount lines first.marks)
    (run : IsReadOn (counter_input input) first middle) where
  none : (answer result : Result Summary Fault) (found : Option Position) → IsUnplaced middle last answer result found → ((r : Reason) (p : ℕ) → answer ≡ Err (Refused r p) → ⊥)
      → HasSuffix input lines device last.device result (found_text found)
  none answer result found is other =
      let on = read_on-then (counter_input input) first middle last run (read_on-same (counter_input input) middle last is.input) in
      subst (λ (f : Option Position). HasSuffix input lines device last.device result (found_text f)) (sym is.nothing)
      (suffix-none input lines first last device is_first starts on result (λ r p e. absurd (other r p (sym is.same ∙ e))))

  pub suffixed : (answer result : Result Summary Fault) (found : Option Position) → Places input middle last answer result found → HasSuffix input lines device last.device result (found_text found)
  suffixed (Ok s) result found is = none (Ok s) result found is (λ r p e. cc e)
  suffixed (Err InputLimit) result found is = none (Err InputLimit) result found is (λ r p e. cc e)
  suffixed (Err Memory) result found is = none (Err Memory) result found is (λ r p e. cc e)
  suffixed (Err ReadFault) result found is = none (Err ReadFault) result found is (λ r p e. cc e)
  suffixed (Err WriteFault) result found is = none (Err WriteFault) result found is (λ r p e. cc e)
  suffixed (Err (Refused r place)) result found is =
      let on = read_on-then (counter_input input) first middle last run is.reads in
      elim is.placed [
        | inl (same, steady, located) ↦
            subst (λ (a : Result Summary Fault). HasSuffix input lines device last.device a (found_text found)) (sym same)
            (suffix-located input lines first last device is_first starts on r place found located)
        | inr (fault, failed, nothing) ↦
            subst (λ (a : Result Summary Fault). HasSuffix input lines device last.device a (found_text found)) (sym fault)
            (subst (λ (f : Option Position). HasSuffix input lines device last.device (Err ReadFault) (found_text f)) (sym nothing)
            (suffix-none input lines first last device is_first starts on (Err ReadFault) (λ q p e. absurd (cc e))))
      ]

-- ---- the memory for what is kept of the lines

pub room : (lines : Bool) (first last : Option Marks) (read : List ℕ) (held : ℕ) → StartsCount lines first → CountsOn first read last → marks_cost lines ≤ held
    → IfSome last (λ m. 524288 ≤ held)
room lines None None read held starts on enough = tt
room lines None (Some m) read held starts on enough = absurd on
room lines (Some n) None read held starts on enough = absurd on
room false (Some n) (Some m) read held starts on enough = absurd starts
room true (Some n) (Some m) read held starts on enough = enough

pub given_back : (lines : Bool) (first last : Option Marks) (read : List ℕ) (old new : Counts) → StartsCount lines first → CountsOn first read last
    → MatchOption last (new ≡ old) (λ m. Shrinks old new 524288) → (new.held + marks_cost lines ≡ old.held) × (new.peak ≡ old.peak) × (new.refused ≡ old.refused)
given_back false None None read old new starts on same =
    (ap (λ (c : Counts). c.held + 0) same ∙ omega arith, ap (λ (c : Counts). c.peak) same, ap (λ (c : Counts). c.refused) same)
given_back true None last read old new starts on gives = absurd starts
given_back false (Some n) last read old new starts on gives = absurd starts
given_back false None (Some m) read old new starts on gives = absurd on
given_back true (Some n) None read old new starts on gives = absurd on
given_back true (Some n) (Some m) read old new starts on gives = (gives.held, gives.peak, gives.refused)
