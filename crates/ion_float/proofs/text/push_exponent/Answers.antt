use Rattle.std.proofs.Common.{◌≡◌, ℕ, suc, ◌+◌, ◌-◌, ◌<◌, ◌≤◌, ◌-ℤ◌, pos, negsuc, decimal, List, [], ◌∷◌, ◌++◌, refl, sym, ap, ◌∙◌, arith, append_assoc, lit<}
use Rattle.std.proofs.lemmas.Fmt.{decimal_digit}
use borrow.Author.Tests.{le-ltb, lt-ltb}
use Rattle.ion_value.specs.Decimal.{integer_text}
use Rattle.ion_float.proofs.text.push_exponent.Goals as goal

whole : (row : ℕ) → 342 ≤ row → pos row -ℤ pos 342 ≡ pos (row - 342)
whole row h = rw (le-ltb row 342 h) refl

one_digit : (old pushed new : List ℕ) (row d : ℕ) → 342 ≤ row → row < 352 → d ≡ 48 + (row - 342) → pushed ≡ old ++ 101 ∷ [] → new ≡ pushed ++ d ∷ []
    → new ≡ old ++ 101 ∷ integer_text (pos row -ℤ pos 342)
one_digit old pushed new row d least most e p n =
    n ∙ ap (λ (t : List ℕ). t ++ d ∷ []) p ∙ append_assoc old (101 ∷ []) (d ∷ [])
    ∙ ap (λ (t : List ℕ). old ++ 101 ∷ t) (ap (λ b. b ∷ []) e ∙ sym (decimal_digit (row - 342) (omega arith)) ∙ ap integer_text (sym (whole row least)))

below : (row : ℕ) → row < 342 → pos row -ℤ pos 342 ≡ negsuc (342 - suc row)
below row h = rw (lt-ltb row 342 h) refl

one_digit_below : (old pushed signed new : List ℕ) (row d : ℕ) → 332 < row → row < 342 → d ≡ 48 + (342 - row) → pushed ≡ old ++ 101 ∷ [] → signed ≡ pushed ++ 45 ∷ [] → new ≡ signed ++ d ∷ []
    → new ≡ old ++ 101 ∷ integer_text (pos row -ℤ pos 342)
one_digit_below old pushed signed new row d least most e p m n =
    let size : 342 - row ≡ 1 + (342 - suc row) = omega arith in
    n ∙ ap (λ (t : List ℕ). t ++ d ∷ []) (m ∙ ap (λ (t : List ℕ). t ++ 45 ∷ []) p ∙ append_assoc old (101 ∷ []) (45 ∷ [])) ∙ append_assoc old (101 ∷ 45 ∷ []) (d ∷ [])
    ∙ ap (λ (t : List ℕ). old ++ 101 ∷ t) (ap (λ b. 45 ∷ b ∷ []) e ∙ ap (λ (t : List ℕ). 45 ∷ t) (sym (decimal_digit (342 - row) (omega arith)) ∙ ap decimal size) ∙ ap integer_text (sym (below row most)))

pub returns-then-above-lt10 : goal.returns-then-above-lt10
returns-then-above-lt10 c =
    one_digit c.args.text.now.bytes c.push.new.self.bytes c.push-then-above-lt10.new.self.bytes c.args.row _ (omega arith) (omega arith) (omega arith)
    (c.push.ensures.ascii (lit< tt)) (c.push-then-above-lt10.ensures.ascii (omega arith))

pub returns-then-below-lt10 : goal.returns-then-below-lt10
returns-then-below-lt10 c =
    one_digit_below c.args.text.now.bytes c.push.new.self.bytes c.push-then-below-lt10.new.self.bytes c.push-then-below-lt10-2.new.self.bytes c.args.row _ (omega arith) (omega arith)
    (omega arith) (c.push.ensures.ascii (lit< tt)) (c.push-then-below-lt10.ensures.ascii (lit< tt)) (c.push-then-below-lt10-2.ensures.ascii (omega arith))
