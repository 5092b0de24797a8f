-- Bytes of a slice go on with a run one after the other, whatever follows the slice.
use Rattle.std.proofs.Common.{◌≡◌, ℕ, suc, ◌+◌, ◌<◌, ◌≤◌, Bool, true, false, not, ◌&&◌, ◌||◌, ◌==◌, List, [], ◌∷◌, ◌++◌, length, take, drop, get_or, slice_get, codes, if◌then◌else◌, None, inl, inr, refl, sym, ap, subst, ◌∙◌, arith}
use Rattle.std.proofs.lemmas.Bool.{and_parts, not-true}
use Rattle.std.proofs.lemmas.List.{drop_more, take_more, append_assoc, append-nil, drop-append-le, take-append-le, length-append, length-drop, length-take-le}
use Rattle.ion_text_in.specs.Token.{bytes_of}
use Rattle.ion_text_in.specs.Views.{AreShown}
use Rattle.ion_text_in.specs.Places.{run_of}
use Rattle.ion_value.specs.Name.{is_one_of, is_operator_byte}
use Rattle.ion_text_in.specs.Blanks as blanks
use Rattle.ion_text_in.specs.Blanks.{is_white, begins_comment, is_comment}
use Rattle.ion_text_in.specs.declared.run.Run.{Run}
use Rattle.ion_text_in.specs.declared.run.Run.TheVariants as run
use Rattle.ion_text_in.specs.Runs.{GoOn, EndAfter, GoesOver, IsOpen, goes_on, stays, has_slashes, opens_comment}
use Rattle.ion_text_in.proofs.Meaning.{run-more, run-none}

-- bytes in front of a run
abbrev pub fronted : List ℕ → List ℕ × List ℕ → List ℕ × List ℕ
fronted xs z = (xs ++ z.0, z.1)

one-more : (test : List ℕ → Bool) (xs ys rest : List ℕ) (b : ℕ) → test (b ∷ rest) ≡ true → ys ≡ xs ++ b ∷ []
    → fronted xs (run_of test (b ∷ rest)) ≡ fronted ys (run_of test rest)
one-more test xs ys rest b on e =
    ap (fronted xs) (run-more test b rest on)
    ∙ ap (λ (l : List ℕ). (l, (run_of test rest).1)) (sym (append_assoc xs (b ∷ []) (run_of test rest).0) ∙ ap (λ (l : List ℕ). l ++ (run_of test rest).0) (sym e))

-- one byte more
pub go-more : (test : List ℕ → Bool) (bytes : List ℕ) (i : ℕ) → i < length bytes → GoOn test bytes i
    → ((more : List ℕ) → test (drop i bytes ++ more) ≡ true) → GoOn test bytes (i + 1)
go-more test bytes i within goes on = λ more.
    let split = drop_more bytes i 0 within in
    let on : test (get_or bytes i 0 ∷ (drop (i + 1) bytes ++ more)) ≡ true = subst (λ (l : List ℕ). test (l ++ more) ≡ true) split (on more) in
    goes more
    ∙ ap (λ (l : List ℕ). fronted (take i bytes) (run_of test (l ++ more))) split
    ∙ one-more test (take i bytes) (take (i + 1) bytes) (drop (i + 1) bytes ++ more) (get_or bytes i 0) on (take_more bytes i 0 within)

-- and then none
pub go-end : (test : List ℕ → Bool) (bytes : List ℕ) (i : ℕ) → GoOn test bytes i → ((more : List ℕ) → test (drop i bytes ++ more) ≡ false) → EndAfter test bytes i
go-end test bytes i goes off = λ more.
    goes more ∙ ap (fronted (take i bytes)) (run-none test (drop i bytes ++ more) (off more)) ∙ ap (λ (l : List ℕ). (l, drop i bytes ++ more)) (append-nil (take i bytes))

-- ---- bytes that go on whatever follows them

-- no slash begins a comment, and no other byte
no-comment : (b : ℕ) (bytes : List ℕ) → (b == 47) ≡ false → begins_comment (b ∷ bytes) ≡ false
no-comment b bytes no_slash = from (is_white b) refl
  where
    from : (dark : Bool) → is_white b ≡ dark → begins_comment (b ∷ bytes) ≡ false
    from true w = rw w refl
    from false w = rw (w, no_slash) refl

pub stays-on : (run : Run) (b : ℕ) (rest : List ℕ) → stays run b ≡ true → goes_on run (b ∷ rest) ≡ true
stays-on run.Number b rest e =
    let parts = and_parts (not (is_one_of (codes "{}[](),\"'") b || is_white b)) (not (b == 47)) e in
    ap (λ (ends : Bool). not (ends || begins_comment (b ∷ rest))) (not-true (is_one_of (codes "{}[](),\"'") b || is_white b) parts.0)
    ∙ ap (λ (comment : Bool). not comment) (no-comment b rest (not-true (b == 47) parts.1))
stays-on run.Word b rest e = e
stays-on run.Operator b rest e =
    let parts = and_parts (is_operator_byte b) (not (b == 47)) e in
    ap (λ (comment : Bool). is_operator_byte b && not comment) (no-comment b rest (not-true (b == 47) parts.1)) ∙ rw parts.0 refl

-- ---- tokens after their first byte

pub token-shown : (test : List ℕ → Bool) (bytes : List ℕ) (n : ℕ) → 1 ≤ length bytes → n < length (drop 1 bytes) → EndAfter test (drop 1 bytes) n → AreShown (bytes_of test) bytes (1 + n)
token-shown test [] n some within ends = absurd (omega (arith, some))
token-shown test (b ∷ others) n some within ends =
    let one : 1 + n ≡ suc n = omega arith in
    subst (λ (k : ℕ). AreShown (bytes_of test) (b ∷ others) k) (sym one)
    (record { within = omega (arith, within); same = λ more. ap (λ (z : List ℕ × List ℕ). b ∷ z.0) (ends more) })

-- ---- what stands in a window

-- a run in a slice that begins what is left
pub go-left : (test : List ℕ → Bool) (slice more rest : List ℕ) (n : ℕ) → n ≤ length slice → rest ≡ slice ++ more → GoOn test slice n → GoesOver test rest n
go-left test slice more rest n within e goes =
    subst (λ (l : List ℕ). GoesOver test l n) (sym e)
    (goes more
    ∙ ap (λ (l : List ℕ). fronted (take n slice) (run_of test l)) (sym (drop-append-le n slice more within))
    ∙ ap (λ (l : List ℕ). fronted l (run_of test (drop n (slice ++ more)))) (sym (take-append-le n slice more within)))

-- nothing of it goes on
pub end-left : (test : List ℕ → Bool) (slice more rest : List ℕ) (n : ℕ) → n ≡ 0 → rest ≡ slice ++ more → EndAfter test slice n → run_of test rest ≡ ([], rest)
end-left test slice more rest n none e ends =
    let first = subst (λ (k : ℕ). EndAfter test slice k) none ends in
    subst (λ (l : List ℕ). run_of test l ≡ ([], l)) (sym e) (first more)

pub run-empty : (test : List ℕ → Bool) (rest : List ℕ) → None ≡ slice_get rest 0 → run_of test rest ≡ ([], rest)
unfolding run_of
run-empty test [] e = refl
run-empty test (b ∷ rest) e = absurd (cc e)

-- ---- slashes

slash-by : (c : ℕ) (line block : Bool) → (c == 47) ≡ line → (c == 42) ≡ block
    → is_comment (if line then blanks.line_comment else (if block then blanks.block_comment else blanks.no_blank)) ≡ (c == 47 || c == 42)
slash-by c true block l k = rw l refl
slash-by c false true l k = rw (l, k) refl
slash-by c false false l k = rw (l, k) refl

slash-comment : (rest : List ℕ) → begins_comment (47 ∷ rest) ≡ opens_comment (slice_get rest 0)
slash-comment [] = refl
slash-comment (c ∷ rest) = slash-by c (c == 47) (c == 42) refl refl

slash-on : (run : Run) (rest : List ℕ) → has_slashes run ≡ true → goes_on run (47 ∷ rest) ≡ not (opens_comment (slice_get rest 0))
slash-on run.Number rest e = ap not (slash-comment rest)
slash-on run.Word rest e = absurd (cc e)
slash-on run.Operator rest e = ap not (slash-comment rest)

-- it is all that a slice has which does not show whether a token goes on
pub slash-left : (run : Run) (bytes : List ℕ) (n : ℕ) → n ≡ 0 → 1 ≤ length bytes → IsOpen run (drop n bytes) → (has_slashes run ≡ true) × (bytes ≡ 47 ∷ [])
slash-left run bytes n none some (inl e) = let long = ap (λ (l : List ℕ). length l) e in let all = length-drop n bytes in absurd (omega (arith, long, all, none, some))
slash-left run bytes n none some (inr e) = (e.0, ap (λ (k : ℕ). drop k bytes) (sym none) ∙ e.1)

pub slash-ends : (run : Run) (slice more rest : List ℕ) → has_slashes run ≡ true → slice ≡ 47 ∷ [] → rest ≡ slice ++ more → opens_comment (slice_get rest 1) ≡ true
    → run_of (goes_on run) rest ≡ ([], rest)
slash-ends run slice more rest slashes one e opens =
    let here : rest ≡ 47 ∷ more = e ∙ ap (λ (l : List ℕ). l ++ more) one in
    let next : opens_comment (slice_get more 0) ≡ true = subst (λ (l : List ℕ). opens_comment (slice_get l 1) ≡ true) here opens in
    run-none (goes_on run) rest (ap (goes_on run) here ∙ slash-on run more slashes ∙ ap not next)

pub slash-stays : (run : Run) (slice more rest : List ℕ) → has_slashes run ≡ true → slice ≡ 47 ∷ [] → rest ≡ slice ++ more → opens_comment (slice_get rest 1) ≡ false
    → GoesOver (goes_on run) rest 1
slash-stays run slice more rest slashes one e opens =
    let here : rest ≡ 47 ∷ more = e ∙ ap (λ (l : List ℕ). l ++ more) one in
    let next : opens_comment (slice_get more 0) ≡ false = subst (λ (l : List ℕ). opens_comment (slice_get l 1) ≡ false) here opens in
    subst (λ (l : List ℕ). GoesOver (goes_on run) l 1) (sym here) (run-more (goes_on run) 47 more (slash-on run more slashes ∙ ap not next))

-- ---- how many go on

-- no fewer go on
pub goes-least : (test : List ℕ → Bool) (rest : List ℕ) (n : ℕ) → n ≤ length rest → GoesOver test rest n → n ≤ length (run_of test rest).0
goes-least test rest n within goes =
    let all = ap (λ (z : List ℕ × List ℕ). length z.0) goes in
    let long = length-append (take n rest) (run_of test (drop n rest)).0 in
    let some = length-take-le n rest within in
    omega (arith, all, long, some)
