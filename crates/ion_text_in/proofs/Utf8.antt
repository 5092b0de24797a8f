-- The test for UTF-8 is that of the definition.
use Rattle.std.proofs.Common.{◌≡◌, ℕ, ◌-◌, ◌↔◌, Bool, true, false, IsTrue, List, length, take, drop, refl, ap, subst, ◌∙◌}
use Rattle.std.proofs.lemmas.List.{take_rest}
use Rattle.std.specs.Prelude.{IsUtf8}
use Rattle.std.specs.Str.{is_utf8}
use Rattle.std.proofs.lemmas.Bool.{false_from_ne_true}
use Rattle.std.proofs.lemmas.Str.{IsUtf8-from_is_utf8, is_utf8-from_IsUtf8}

-- a test that is true of UTF-8 alone
pub is_utf8-test : (b : List ℕ) (test : Bool) → (IsTrue test ↔ IsUtf8 b) → test ≡ is_utf8 b
is_utf8-test b true law = let yes : is_utf8 b ≡ true = is_utf8-from_IsUtf8 b (law.0 refl) in cc
is_utf8-test b false law = let no : is_utf8 b ≡ false = false_from_ne_true (is_utf8 b) (λ e. absurd (cc (law.1 (IsUtf8-from_is_utf8 b e)))) in cc

-- what stands after a place
pub is_utf8-after : (text all before slice : List ℕ) (test : Bool) → before ≡ text → slice ≡ all → (IsTrue test ↔ IsUtf8 (take (length slice - length before) (drop (length before) slice)))
    → test ≡ is_utf8 (drop (length text) all)
is_utf8-after text all before slice test e f law =
    let same : take (length slice - length before) (drop (length before) slice) ≡ drop (length text) all =
    take_rest slice (length before) ∙ ap (λ (l : List ℕ). drop (length before) l) f ∙ ap (λ (l : List ℕ). drop (length l) all) e in
    is_utf8-test (drop (length text) all) test (subst (λ (l : List ℕ). IsTrue test ↔ IsUtf8 l) same law)
