-- A token by its bytes is what reading gives, where a slice shows its bytes or they were gathered.
use Rattle.std.proofs.Common.{◌≡◌, ℕ, ◌+◌, ◌<◌, ◌≤◌, Bool, List, ◌++◌, length, take, drop, Option, Some, Result, Ok, Err, refl, ap, ◌∙◌, arith}
use Rattle.std.proofs.lemmas.Bool.{le-ltb, lt-ltb}
use Rattle.std.proofs.lemmas.List.{length-take-le, drop-append-le}
use Rattle.ion_meter.specs.declared.fault.Reason.{Reason}
use Rattle.ion_meter.specs.declared.fault.Reason.TheVariants.{ScalarLimit}
use Rattle.ion_meter.specs.Sources.{Cursor, skip}
use Rattle.ion_value.specs.Parts.{refuse, ◌>>=◌, ◌>>◌}
use Rattle.ion_text_in.specs.declared.scanned.Scanned.TheVariants as scanned
use Rattle.ion_text_in.specs.Meaning.{at}
use Rattle.ion_text_in.specs.Scanners.{Shows}
use Rattle.ion_text_in.specs.Token as tokens
use Rattle.ion_text_in.specs.Token.{Token, counted, token_of, run_token, word_token, word_of, bytes_of, in_run, in_operator}
use Rattle.ion_text_in.specs.Views.{spelled, by_bytes, AreShown}

-- ---- within a limit or not

pub counted-within : (limit : ℕ) (text : List ℕ) (c : Cursor) → length text ≤ limit → counted (Some limit) text c ≡ Ok (text, skip (length text) c)
counted-within limit text c le = ap (λ (over : Bool). refuse over ScalarLimit >> Ok (text, skip (length text) c)) (le-ltb limit (length text) le)

pub counted-over : (limit : ℕ) (text : List ℕ) (c : Cursor) → limit < length text → counted (Some limit) text c ≡ Err ScalarLimit
counted-over limit text c lt = ap (λ (over : Bool). refuse over ScalarLimit >> Ok (text, skip (length text) c)) (lt-ltb limit (length text) lt)

-- ---- shown by a slice

shown-spelled : (f : List ℕ → List ℕ) (limit n place : ℕ) (slice more : List ℕ) → AreShown f slice n → n ≤ limit
    → spelled f (Some limit) (at place (slice ++ more)) ≡ Ok (take n slice, at (place + n) (drop n slice ++ more))
shown-spelled f limit n place slice more shown le =
    let text : List ℕ = take n slice in
    let within : n ≤ length slice = omega (arith, shown.within) in
    let long : length text ≡ n = length-take-le n slice within in
    ap (λ (l : List ℕ). counted (Some limit) l (at place (slice ++ more))) (shown.same more)
    ∙ counted-within limit text (at place (slice ++ more)) (omega (arith, long, le))
    ∙ ap (λ (k : ℕ). Ok (text, skip k (at place (slice ++ more)))) long
    ∙ ap (λ (l : List ℕ). Ok (text, at (place + n) l)) (drop-append-le n slice more within)

pub shown-token : {T : Type 0} (view : T → Token) (x : T) (f : List ℕ → List ℕ) (meaning : List ℕ → Result Token Reason) (limit n : ℕ) (slice : List ℕ) → AreShown f slice n → n ≤ limit
    → meaning (take n slice) ≡ Ok (view x) → Shows view slice (scanned.Whole x n) (by_bytes f meaning (Some limit))
shown-token view x f meaning limit n slice shown le e = (
  omega (arith, shown.within),
  λ place more.
      ap (λ (r : Result (List ℕ × Cursor) Reason). r >>= (λ r. meaning r.0 >>= (λ t. Ok (t, r.1)))) (shown-spelled f limit n place slice more shown le)
      ∙ ap (λ (r : Result Token Reason). r >>= (λ t. Ok (t, at (place + n) (drop n slice ++ more)))) e,
)

pub shown-bad : {T : Type 0} (view : T → Token) (reason : Reason) (f : List ℕ → List ℕ) (meaning : List ℕ → Result Token Reason) (limit n : ℕ) (slice : List ℕ) → AreShown f slice n → n ≤ limit
    → meaning (take n slice) ≡ Err reason → Shows view slice (scanned.Fault reason) (by_bytes f meaning (Some limit))
shown-bad view reason f meaning limit n slice shown le e = λ place more.
    ap (λ (r : Result (List ℕ × Cursor) Reason). r >>= (λ r. meaning r.0 >>= (λ t. Ok (t, r.1)))) (shown-spelled f limit n place slice more shown le)
    ∙ ap (λ (r : Result Token Reason). r >>= (λ t. Ok (t, at (place + n) (drop n slice ++ more)))) e

pub shown-over : {T : Type 0} (view : T → Token) (f : List ℕ → List ℕ) (meaning : List ℕ → Result Token Reason) (limit n : ℕ) (slice : List ℕ) → AreShown f slice n → limit < n
    → Shows view slice (scanned.Fault ScalarLimit) (by_bytes f meaning (Some limit))
shown-over view f meaning limit n slice shown lt = λ place more.
    let long : length (take n slice) ≡ n = length-take-le n slice (omega (arith, shown.within)) in
    ap (λ (l : List ℕ). counted (Some limit) l (at place (slice ++ more)) >>= (λ r. meaning r.0 >>= (λ t. Ok (t, r.1)))) (shown.same more)
    ∙ ap (λ (r : Result (List ℕ × Cursor) Reason). r >>= (λ r. meaning r.0 >>= (λ t. Ok (t, r.1)))) (counted-over limit (take n slice) (at place (slice ++ more)) (omega (arith, long, lt)))

-- ---- the tokens

abbrev pub operator_token : List ℕ → Result Token Reason
operator_token bytes = Ok (tokens.operator bytes)

pub run-by : (limit : Option ℕ) (c : Cursor) → token_of limit tokens.a_run c ≡ by_bytes (bytes_of in_run) run_token limit c
unfolding token_of
run-by limit c = refl

pub word-by : (limit : Option ℕ) (c : Cursor) → token_of limit tokens.a_word c ≡ by_bytes word_of word_token limit c
unfolding token_of
word-by limit c = refl

pub operator-by : (limit : Option ℕ) (c : Cursor) → token_of limit tokens.an_operator c ≡ by_bytes (bytes_of in_operator) operator_token limit c
unfolding token_of
operator-by limit c = from (counted limit (bytes_of in_operator c.rest) c)
  where
    with_text : List ℕ × Cursor → Result (Token × Cursor) Reason
    with_text r = Ok (tokens.operator r.0, r.1)

    by_meaning : List ℕ × Cursor → Result (Token × Cursor) Reason
    by_meaning r = operator_token r.0 >>= (λ t. Ok (t, r.1))

    from : (r : Result (List ℕ × Cursor) Reason) → (r >>= with_text) ≡ (r >>= by_meaning)
    from (Ok x) = refl
    from (Err reason) = refl

pub run-shown : {T : Type 0} (view : T → Token) (x : T) (limit n : ℕ) (slice : List ℕ) → AreShown (bytes_of in_run) slice n → n ≤ limit
    → run_token (take n slice) ≡ Ok (view x) → Shows view slice (scanned.Whole x n) (token_of (Some limit) tokens.a_run)
unfolding token_of
run-shown view x limit n slice shown le e = shown-token view x (bytes_of in_run) run_token limit n slice shown le e

pub run-bad : {T : Type 0} (view : T → Token) (reason : Reason) (limit n : ℕ) (slice : List ℕ) → AreShown (bytes_of in_run) slice n → n ≤ limit
    → run_token (take n slice) ≡ Err reason → Shows view slice (scanned.Fault reason) (token_of (Some limit) tokens.a_run)
unfolding token_of
run-bad view reason limit n slice shown le e = shown-bad view reason (bytes_of in_run) run_token limit n slice shown le e

pub run-over : {T : Type 0} (view : T → Token) (limit n : ℕ) (slice : List ℕ) → AreShown (bytes_of in_run) slice n → limit < n
    → Shows view slice (scanned.Fault ScalarLimit) (token_of (Some limit) tokens.a_run)
unfolding token_of
run-over view limit n slice shown lt = shown-over view (bytes_of in_run) run_token limit n slice shown lt

-- ---- gathered bytes

pub gathered-token : (f : List ℕ → List ℕ) (meaning : List ℕ → Result Token Reason) (limit : Option ℕ) (c d : Cursor) (text : List ℕ) (t : Token)
    → spelled f limit c ≡ Ok (text, d) → meaning text ≡ Ok t → by_bytes f meaning limit c ≡ Ok (t, d)
gathered-token f meaning limit c d text t e m =
    ap (λ (r : Result (List ℕ × Cursor) Reason). r >>= (λ r. meaning r.0 >>= (λ t. Ok (t, r.1)))) e
    ∙ ap (λ (r : Result Token Reason). r >>= (λ t. Ok (t, d))) m

pub gathered-bad : (f : List ℕ → List ℕ) (meaning : List ℕ → Result Token Reason) (limit : Option ℕ) (c d : Cursor) (text : List ℕ) (reason : Reason)
    → spelled f limit c ≡ Ok (text, d) → meaning text ≡ Err reason → by_bytes f meaning limit c ≡ Err reason
gathered-bad f meaning limit c d text reason e m =
    ap (λ (r : Result (List ℕ × Cursor) Reason). r >>= (λ r. meaning r.0 >>= (λ t. Ok (t, r.1)))) e
    ∙ ap (λ (r : Result Token Reason). r >>= (λ t. Ok (t, d))) m

pub gathered-refused : (f : List ℕ → List ℕ) (meaning : List ℕ → Result Token Reason) (limit : Option ℕ) (c : Cursor) (reason : Reason)
    → spelled f limit c ≡ Err reason → by_bytes f meaning limit c ≡ Err reason
gathered-refused f meaning limit c reason e = ap (λ (r : Result (List ℕ × Cursor) Reason). r >>= (λ r. meaning r.0 >>= (λ t. Ok (t, r.1)))) e

pub word-shown : {T : Type 0} (view : T → Token) (x : T) (limit n : ℕ) (slice : List ℕ) → AreShown word_of slice n → n ≤ limit
    → word_token (take n slice) ≡ Ok (view x) → Shows view slice (scanned.Whole x n) (token_of (Some limit) tokens.a_word)
unfolding token_of
word-shown view x limit n slice shown le e = shown-token view x word_of word_token limit n slice shown le e

pub word-bad : {T : Type 0} (view : T → Token) (reason : Reason) (limit n : ℕ) (slice : List ℕ) → AreShown word_of slice n → n ≤ limit
    → word_token (take n slice) ≡ Err reason → Shows view slice (scanned.Fault reason) (token_of (Some limit) tokens.a_word)
unfolding token_of
word-bad view reason limit n slice shown le e = shown-bad view reason word_of word_token limit n slice shown le e

pub word-over : {T : Type 0} (view : T → Token) (limit n : ℕ) (slice : List ℕ) → AreShown word_of slice n → limit < n
    → Shows view slice (scanned.Fault ScalarLimit) (token_of (Some limit) tokens.a_word)
unfolding token_of
word-over view limit n slice shown lt = shown-over view word_of word_token limit n slice shown lt

pub operator-shown : {T : Type 0} (view : T → Token) (x : T) (limit n : ℕ) (slice : List ℕ) → AreShown (bytes_of in_operator) slice n → n ≤ limit
    → tokens.operator (take n slice) ≡ view x → Shows view slice (scanned.Whole x n) (token_of (Some limit) tokens.an_operator)
operator-shown view x limit n slice shown le e =
    let all = shown-token view x (bytes_of in_operator) operator_token limit n slice shown le (ap Ok e) in
    (all.0, λ place more. operator-by (Some limit) (at place (slice ++ more)) ∙ all.1 place more)

pub operator-over : {T : Type 0} (view : T → Token) (limit n : ℕ) (slice : List ℕ) → AreShown (bytes_of in_operator) slice n → limit < n
    → Shows view slice (scanned.Fault ScalarLimit) (token_of (Some limit) tokens.an_operator)
operator-over view limit n slice shown lt = λ place more.
    operator-by (Some limit) (at place (slice ++ more)) ∙ shown-over view (bytes_of in_operator) operator_token limit n slice shown lt place more

pub operator-spelled : (limit : Option ℕ) (c d : Cursor) (text : List ℕ) → spelled (bytes_of in_operator) limit c ≡ Ok (text, d) → token_of limit tokens.an_operator c ≡ Ok (tokens.operator text, d)
operator-spelled limit c d text e = operator-by limit c ∙ gathered-token (bytes_of in_operator) operator_token limit c d text (tokens.operator text) e refl

pub operator-refused : (limit : Option ℕ) (c : Cursor) (reason : Reason) → spelled (bytes_of in_operator) limit c ≡ Err reason → token_of limit tokens.an_operator c ≡ Err reason
operator-refused limit c reason e = operator-by limit c ∙ gathered-refused (bytes_of in_operator) operator_token limit c reason e
