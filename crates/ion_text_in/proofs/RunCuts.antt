-- The bytes that go on with a token are those up to what ends it, and no others are.
use Rattle.std.proofs.Common.{◌≡◌, ◌≢◌, ◌↔◌, ℕ, ◌⊎◌, inl, inr, Bool, true, false, List, [], ◌∷◌, ◌++◌, refl, sym, ap, subst, ◌∙◌}
use Rattle.std.proofs.lemmas.Bool.{cases_Bool, false≢true}
use Rattle.ion_text_in.specs.Places.{run_of}
use Rattle.ion_text_in.specs.Token.{in_run, in_word, in_operator}
use Rattle.ion_text_in.specs.Beginnings.{EndsNumber, EndsIdentifier, EndsOperator, IsRun, NumbersAreCut, IdentifiersAreCut, OperatorsAreCut}
use Rattle.ion_text_in.proofs.Meaning.{run-more, run-none}
use Rattle.ion_text_in.proofs.NumberEnds.{numbers-end}
use Rattle.ion_text_in.proofs.TokenBegins.{identifiers-end, operators-end}

module _ (test : List ℕ → Bool) (Ends : List ℕ → Type 0) (ends-by : (bytes : List ℕ) → (test bytes ≡ false) ↔ Ends bytes) (end : Ends []) where
  abbrev GoesOn : List ℕ → List ℕ → Type 0
  GoesOn run after = (xs ys : List ℕ) → run ≡ xs ++ ys → ys ≢ [] → Ends (ys ++ after) → ⊥

  nothing-goes : (after : List ℕ) → GoesOn [] after
  nothing-goes after [] [] e some _ = some refl
  nothing-goes after [] (y ∷ ys) e some _ = absurd (cc e)
  nothing-goes after (x ∷ xs) ys e some _ = absurd (cc e)

  more-goes : (b : ℕ) (run after : List ℕ) → test (b ∷ (run ++ after)) ≡ true → GoesOn run after → GoesOn (b ∷ run) after
  more-goes b run after on goes [] ys e some ends =
      false≢true (sym ((ends-by (b ∷ (run ++ after))).1 (subst (λ (ys : List ℕ). Ends (ys ++ after)) (sym e) ends)) ∙ on)
  more-goes b run after on goes (x ∷ xs) ys e some ends = let others : run ≡ xs ++ ys = cc e in goes xs ys others some ends

  run-by : (b : ℕ) (bytes : List ℕ) (t : Bool) → test (b ∷ bytes) ≡ t → IsRun Ends bytes (run_of test bytes).0 (run_of test bytes).1
      → IsRun Ends (b ∷ bytes) (run_of test (b ∷ bytes)).0 (run_of test (b ∷ bytes)).1
  run-by b bytes true on later =
      let whole = later.whole in
      subst (λ (z : List ℕ × List ℕ). IsRun Ends (b ∷ bytes) z.0 z.1) (sym (run-more test b bytes on))
      (record {
        whole = ap (λ (bytes : List ℕ). b ∷ bytes) whole;
        ended = later.ended;
        goes_on = more-goes b (run_of test bytes).0 (run_of test bytes).1 (subst (λ (bytes : List ℕ). test (b ∷ bytes) ≡ true) whole on) later.goes_on;
      })
  run-by b bytes false off later =
      subst (λ (z : List ℕ × List ℕ). IsRun Ends (b ∷ bytes) z.0 z.1) (sym (run-none test (b ∷ bytes) off))
      (record { whole = refl; ended = (ends-by (b ∷ bytes)).0 off; goes_on = nothing-goes (b ∷ bytes) })

  run-is : (bytes : List ℕ) → IsRun Ends bytes (run_of test bytes).0 (run_of test bytes).1
  unfolding run_of
  run-is [] = record { whole = refl; ended = end; goes_on = nothing-goes [] }
  run-is (b ∷ bytes) = run-by b bytes (test (b ∷ bytes)) refl (run-is bytes)

  run-cut : (run after : List ℕ) → Ends after → GoesOn run after → run_of test (run ++ after) ≡ (run, after)
  run-cut [] after ends goes = run-none test after ((ends-by after).1 ends)
  run-cut (b ∷ run) after ends goes =
      run-more test b (run ++ after) (on (cases_Bool (test (b ∷ (run ++ after)))))
      ∙ ap (λ (z : List ℕ × List ℕ). (b ∷ z.0, z.1)) (run-cut run after ends (λ xs ys e some ends. goes (b ∷ xs) ys (ap (λ (run : List ℕ). b ∷ run) e) some ends))
    where
      on : (test (b ∷ (run ++ after)) ≡ true) ⊎ (test (b ∷ (run ++ after)) ≡ false) → test (b ∷ (run ++ after)) ≡ true
      on (inl goes_on) = goes_on
      on (inr off) = absurd (goes [] (b ∷ run) refl (λ e. absurd (cc e)) ((ends-by (b ∷ (run ++ after))).0 off))

  runs-are-cut : (bytes run after : List ℕ) → (run_of test bytes ≡ (run, after)) ↔ IsRun Ends bytes run after
  runs-are-cut bytes run after = (
    λ e. subst (λ (z : List ℕ × List ℕ). IsRun Ends bytes z.0 z.1) e (run-is bytes),
    λ is. ap (λ (bytes : List ℕ). run_of test bytes) is.whole ∙ run-cut run after is.ended is.goes_on,
  )

pub numbers-are-cut : NumbersAreCut
numbers-are-cut bytes run after = runs-are-cut in_run EndsNumber numbers-end EndsNumber.end bytes run after

pub identifiers-are-cut : IdentifiersAreCut
identifiers-are-cut bytes run after = runs-are-cut in_word EndsIdentifier identifiers-end EndsIdentifier.end bytes run after

pub operators-are-cut : OperatorsAreCut
operators-are-cut bytes run after = runs-are-cut in_operator EndsOperator operators-end EndsOperator.end bytes run after
