-- Calls that read a token go on in the source.
use Rattle.std.proofs.Common.{◌≡◌, ℕ, ◌+◌, ◌<◌, ◌≤◌, List, [], ◌++◌, length, drop, Option, Result, Ok, Err, OnOk, subst, arith, length-append}
use Rattle.std.proofs.lemmas.List.{length-drop}
use Rattle.ion_meter.specs.Windows.{Incoming, lent, IsPassed}
use Rattle.ion_text_in.specs.declared.scanned.Scanned.TheVariants.{Whole}
use Rattle.ion_text_in.specs.Meaning.{at}
use Rattle.ion_text_in.specs.Scanners.{Shows}
use Rattle.ion_text_in.specs.Token as tokens
use Rattle.ion_text_in.specs.Token.{First, token_of}
use Rattle.ion_text_in.proofs.Shrinking.{Past, token-past}

pub on-ok : {T E : Type 0} {P : Type 0} (r : Result T E) → P → OnOk r P
on-ok (Ok x) h = h
on-ok (Err e) h = tt

pub on-ok-map : {T E : Type 0} {P Q : Type 0} (r : Result T E) → OnOk r P → (P → Q) → OnOk r Q
on-ok-map (Ok x) h f = f h
on-ok-map (Err e) h f = tt

-- a token that a slice shows has a byte
pub shown-some : {T : Type 0} (view : T → tokens.Token) (bytes : List ℕ) (x : T) (n : ℕ) (limit : Option ℕ) (first : First) → Shows view bytes (Whole x n) (token_of limit first) → 1 ≤ length bytes → 1 ≤ n
shown-some view bytes x n limit first shows some =
    let c = at 0 (bytes ++ []) in
    let all : length (bytes ++ []) ≡ length bytes + 0 = length-append bytes [] in
    let less : length (drop n bytes ++ []) < length (bytes ++ []) = subst (λ o. Past c o) (shows.1 0 []) (token-past limit first c (omega (arith, all, some))) in
    let rest : length (drop n bytes ++ []) ≡ length (drop n bytes) + 0 = length-append (drop n bytes) [] in
    let dropped = length-drop n bytes in
    omega (arith, all, less, rest, dropped)

pub shown-further : {I T : Type 0} (view : T → tokens.Token) (s t : Incoming I) (x : T) (n : ℕ) (limit : Option ℕ) (first : First) → Shows view (lent s) (Whole x n) (token_of limit first) → 1 ≤ length (lent s)
    → IsPassed s t n → s.place < t.place
shown-further view s t x n limit first shows some passed = let one = shown-some view (lent s) x n limit first shows some in let place = passed.place in omega (arith, one, place)
