-- How many texts one that is looked for is compared with.
use Rattle.std.proofs.Common.{◌≡◌, ℕ, ◌^◌, ◌<◌, ◌≤◌, List, [], length, get_or, ap, sym, subst, ◌∙◌, arith}
use Rattle.std.proofs.lemmas.List.{length-map}
use Rattle.ion_symbols.specs.declared.out_texts.OutTexts.{OutTexts}
use Rattle.ion_symbols.specs.Output.{binary_digits}
use Rattle.ion_symbols.specs.Ordered.{in_order}
use Rattle.ion_symbols.specs.OutTexts.{AreKept, texts_of}
use Rattle.ion_symbols.proofs.Halving.{few_digits}
use Rattle.ion_symbols.proofs.KeptTexts.{few_texts}
use Rattle.ion_symbols.proofs.Seeking.{texts_length}

-- as many texts are searched as there are
searched_length : {A : Type 0} (k : OutTexts A) (searched : List (List ℕ)) → AreKept k → searched ≡ in_order (texts_of k) k.ids.items → length searched ≡ length (texts_of k)
searched_length k searched h e = ap length e ∙ (length-map k.ids.items (λ i. get_or (texts_of k) i []) ∙ (h.long ∙ sym (texts_length k)))

-- so there are at most as many comparisons as their number has binary digits
pub halved_probes : {A : Type 0} (k : OutTexts A) (searched : List (List ℕ)) (probes : ℕ) → AreKept k → searched ≡ in_order (texts_of k) k.ids.items → probes ≤ binary_digits (length searched)
    → probes ≤ binary_digits (length (texts_of k))
halved_probes k searched probes h e l = subst (λ n. probes ≤ binary_digits n) (searched_length k searched h e) l

-- which are few
pub few_probes : {A : Type 0} (k : OutTexts A) (probes : ℕ) → AreKept k → probes ≤ binary_digits (length (texts_of k)) → probes < 2 ^ 31
few_probes k probes h l =
    let d = few_digits (length (texts_of k)) in
    let f = few_texts k h in
    omega (arith, d, f, l)
