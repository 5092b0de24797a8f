-- What was gathered of a token, and a limit that is passed on the way.
use Rattle.std.proofs.Common.{◌≡◌, ℕ, ◌+◌, ◌<◌, ◌≤◌, Bool, List, [], ◌∷◌, ◌++◌, length, take, drop, Option, Some, Result, Ok, Err, OnOk, IfErr, refl, sym, ap, subst, ◌∙◌, arith}
use Rattle.std.proofs.lemmas.Bool.{le-ltb, lt-ltb}
use Rattle.std.proofs.lemmas.List.{length-append, length-take-le, append_assoc, append-nil, drop-drop}
use Rattle.ion_meter.specs.declared.fault.Fault.{Fault}
use Rattle.ion_meter.specs.declared.fault.Fault.TheVariants as fault
use Rattle.ion_meter.specs.declared.fault.Reason.{Reason}
use Rattle.ion_meter.specs.declared.fault.Reason.TheVariants.{ScalarLimit}
use Rattle.ion_meter.specs.Sources.{Cursor, skip}
use Rattle.ion_value.specs.Answers.{Answers}
use Rattle.ion_value.proofs.Cursors.{answers-refused}
use Rattle.ion_value.specs.Parts.{refuse, ◌>>◌}
use Rattle.ion_text_in.specs.declared.run.Run.{Run}
use Rattle.ion_text_in.specs.Meaning.{at}
use Rattle.ion_text_in.specs.Limit.{passes}
use Rattle.ion_text_in.specs.Token.{bytes_of, counted}
use Rattle.ion_text_in.specs.Views.{spelled}
use Rattle.ion_text_in.specs.Places.{run_of}
use Rattle.ion_text_in.specs.Runs.{GoesOver, goes_on, joined, with_run, IsOver}
use Rattle.ion_text_in.proofs.RunEnds.{goes-least}

-- ---- faults

-- a fault on the way is that the limit is passed, or none that reading tells of
pub answers-over : {T A : Type 0} (view : T → A) (f : Fault) (after : Cursor) (limit place before count : ℕ) (all : Result (A × Cursor) Reason)
    → ((reason : Reason) (at : ℕ) → f ≡ fault.Refused reason at → IsOver limit place before count reason at) → (limit < before + count → all ≡ Err ScalarLimit)
    → Answers view (Err f) after place all
answers-over view (fault.Refused reason at) after limit place before count all over refused =
    let is = over reason at refl in (refused is.more ∙ ap Err (sym is.is_limit), is.is_place)
answers-over view fault.Memory after limit place before count all over refused = tt
answers-over view fault.ReadFault after limit place before count all over refused = tt
answers-over view fault.WriteFault after limit place before count all over refused = tt
answers-over view fault.InputLimit after limit place before count all over refused = tt

-- ---- a limit

pub joined-over : (limit : ℕ) (before bytes : List ℕ) (c : Cursor) → limit < length before + length bytes → joined (Some limit) before bytes c ≡ Err ScalarLimit
joined-over limit before bytes c lt =
    ap (λ (over : Bool). refuse over ScalarLimit >> Ok (before ++ bytes, skip (length bytes) c)) (lt-ltb limit (length before + length bytes) lt)

-- ---- the bytes of a run

-- so many were gathered, and the run goes on over more than the limit allows
pub run-over-limit : (run : Run) (limit n : ℕ) (before : List ℕ) (c : Cursor) → n ≤ length c.rest → GoesOver (goes_on run) c.rest n → limit < length before + n
    → with_run run (Some limit) before c ≡ Err ScalarLimit
run-over-limit run limit n before c within goes over =
    let least = goes-least (goes_on run) c.rest n within goes in
    joined-over limit before (run_of (goes_on run) c.rest).0 c (omega (arith, least, over))

-- ---- parts

skip-both : (front others : List ℕ) (c : Cursor) → skip (length (front ++ others)) c ≡ skip (length others) (skip (length front) c)
skip-both front others c =
    let m = length front in
    let n = length others in
    let place : c.place + (m + n) ≡ c.place + m + n = omega arith in
    ap (λ (k : ℕ). skip k c) (length-append front others)
    ∙ ap (λ (p : ℕ). at p (drop (m + n) c.rest)) place
    ∙ ap (λ (l : List ℕ). at (c.place + m + n) l) (sym (drop-drop n m c.rest))

-- what is gathered of some bytes and others is gathered after the first
pub joined-on : (limit : Option ℕ) (before front others : List ℕ) (c : Cursor) → joined limit before (front ++ others) c ≡ joined limit (before ++ front) others (skip (length front) c)
joined-on limit before front others c =
    let all = length-append front others in
    let text = length-append before front in
    let count : length before + length (front ++ others) ≡ length (before ++ front) + length others = omega (arith, all, text) in
    ap (λ (k : ℕ). refuse (passes limit k) ScalarLimit >> Ok (before ++ (front ++ others), skip (length (front ++ others)) c)) count
    ∙ ap (λ (l : List ℕ). refuse (passes limit (length (before ++ front) + length others)) ScalarLimit >> Ok (l, skip (length (front ++ others)) c)) (sym (append_assoc before front others))
    ∙ ap (λ (d : Cursor). refuse (passes limit (length (before ++ front) + length others)) ScalarLimit >> Ok ((before ++ front) ++ others, d)) (skip-both front others c)

pub counted-on : (limit : Option ℕ) (front others : List ℕ) (c : Cursor) → counted limit (front ++ others) c ≡ joined limit front others (skip (length front) c)
counted-on limit front others c =
    ap (λ (k : ℕ). refuse (passes limit k) ScalarLimit >> Ok (front ++ others, skip (length (front ++ others)) c)) (length-append front others)
    ∙ ap (λ (d : Cursor). refuse (passes limit (length front + length others)) ScalarLimit >> Ok (front ++ others, d)) (skip-both front others c)

-- so many bytes of a run, and then what goes on after them
pub run-on : (run : Run) (limit : Option ℕ) (before : List ℕ) (n : ℕ) (c : Cursor) → n ≤ length c.rest → GoesOver (goes_on run) c.rest n
    → with_run run limit before c ≡ with_run run limit (before ++ take n c.rest) (skip n c)
run-on run limit before n c within goes =
    let others = (run_of (goes_on run) (drop n c.rest)).0 in
    ap (λ (z : List ℕ × List ℕ). joined limit before z.0 c) goes
    ∙ joined-on limit before (take n c.rest) others c
    ∙ ap (λ (k : ℕ). joined limit (before ++ take n c.rest) others (skip k c)) (length-take-le n c.rest within)

-- nothing goes on
pub run-done : (run : Run) (limit : ℕ) (text : List ℕ) (c : Cursor) → length text ≤ limit → run_of (goes_on run) c.rest ≡ ([], c.rest) → with_run run (Some limit) text c ≡ Ok (text, c)
run-done run limit text c fits ends =
    let none : length text + 0 ≡ length text = omega arith in
    let here : c.place + 0 ≡ c.place = omega arith in
    ap (λ (z : List ℕ × List ℕ). joined (Some limit) text z.0 c) ends
    ∙ ap (λ (k : ℕ). refuse (passes (Some limit) k) ScalarLimit >> Ok (text ++ [], skip 0 c)) none
    ∙ ap (λ (over : Bool). refuse over ScalarLimit >> Ok (text ++ [], skip 0 c)) (le-ltb limit (length text) fits)
    ∙ ap (λ (l : List ℕ). Ok (l, skip 0 c)) (append-nil text)
    ∙ ap (λ (p : ℕ). Ok (text, at p c.rest)) here

-- the first byte of a token, and then what goes on with it
pub first-then : (run : Run) (limit : Option ℕ) (c : Cursor) → 1 ≤ length c.rest → with_run run limit (take 1 c.rest) (skip 1 c) ≡ spelled (bytes_of (goes_on run)) limit c
first-then run limit c some = from c.place c.rest some
  where
    from : (place : ℕ) (rest : List ℕ) → 1 ≤ length rest → with_run run limit (take 1 rest) (skip 1 (at place rest)) ≡ spelled (bytes_of (goes_on run)) limit (at place rest)
    from place [] some = absurd (omega (arith, some))
    from place (b ∷ bytes) some = sym (counted-on limit (b ∷ []) (run_of (goes_on run) bytes).0 (at place (b ∷ bytes)))

pub answers-same : {T A : Type 0} (view : T → A) (result : Result T Fault) (after : Cursor) (place there : ℕ) (given same : Result (A × Cursor) Reason)
    → Answers view result after place given → place ≡ there → given ≡ same → Answers view result after there same
answers-same {A = A} view result after place there given same answers p e =
    subst (λ (p : ℕ). Answers view result after p same) p (subst (λ (g : Result (A × Cursor) Reason). Answers view result after place g) e answers)

-- ---- what follows of other readings

pub answers-then : {T A B : Type 0} (view : T → A) (shown : T → B) (result : Result T Fault) (after : Cursor) (place : ℕ) (one : Result (A × Cursor) Reason) (all : Result (B × Cursor) Reason)
    → ((x : T) → one ≡ Ok (view x, after) → all ≡ Ok (shown x, after)) → ((e : Reason) → one ≡ Err e → all ≡ Err e) → Answers view result after place one → Answers shown result after place all
answers-then view shown (Ok x) after place one all whole refused answers = whole x answers
answers-then view shown (Err f) after place one all whole refused answers = answers-refused view shown f after after place one all answers refused

-- bytes were copied, or there was no memory for them
pub answers-copied : {A : Type 0} (x : A) (copied : Type 0) (result : Result (Unit {0}) Fault) (after : Cursor) (place : ℕ) (given : Result (A × Cursor) Reason)
    → OnOk result copied → IfErr result (λ f. f ≡ fault.Memory) → (copied → given ≡ Ok (x, after)) → Answers (λ (u : Unit {0}). x) result after place given
answers-copied x copied (Ok u) after place given done memory e = e done
answers-copied x copied (Err fault.Memory) after place given done memory e = tt
answers-copied x copied (Err (fault.Refused reason at)) after place given done memory e = absurd (cc memory)
answers-copied x copied (Err fault.ReadFault) after place given done memory e = tt
answers-copied x copied (Err fault.WriteFault) after place given done memory e = tt
answers-copied x copied (Err fault.InputLimit) after place given done memory e = tt
