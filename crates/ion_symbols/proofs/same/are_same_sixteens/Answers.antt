use Rattle.std.proofs.lemmas.Grind.{common_steps}
use Rattle.std.proofs.Common.{◌≡◌, ◌-◌, ℕ, List, length, take, drop, min, ap, sym, ◌∙◌, length-take, arith}
use Rattle.std.proofs.lemmas.List.{take_rest}
use Rattle.std.proofs.lemmas.Slice.Eq.{bytes_eq-Decides}
use Rattle.ion_symbols.proofs.SameEnds.{same-sixteens, tells}
use Rattle.ion_symbols.proofs.same.are_same_sixteens.Goals as goal

pub are_same_eights-requires-clause-same : goal.are_same_eights-requires-clause-same
are_same_eights-requires-clause-same c = length-take 16 c.args.text.now ∙ (ap (min 16) c.requires.same ∙ sym (length-take 16 c.args.other.now))

pub returns-then-are_same_eights : goal.returns-then-are_same_eights
returns-then-are_same_eights c =
    let t : List ℕ = c.args.text.now in
    let o : List ℕ = c.args.other.now in
    let last : ℕ = length t - 16 in
    let tail_t : take (length t - last) (drop last t) ≡ drop last t = take_rest t last in
    let tail_o : take (length o - last) (drop last o) ≡ drop last o = take_rest o last in
    let told = bytes_eq-Decides (take (length t - last) (drop last t)) (take (length o - last) (drop last o)) in
    tells t o c.are_same_eights-then-are_same_eights.result
    (λ e. same-sixteens t o c.requires.least c.requires.most ((bytes_eq-Decides (take 16 t) (take 16 o)).0 (sym c.are_same_eights.ensures ∙ c.if-are_same_eights.true))
    (sym tail_t ∙ (told.0 (sym c.are_same_eights-then-are_same_eights.ensures ∙ e) ∙ tail_o)))
    (λ e. c.are_same_eights-then-are_same_eights.ensures ∙ told.1 (tail_t ∙ (ap (drop last) e ∙ sym tail_o)))

pub are_same_eights-requires-clause-least : goal.are_same_eights-requires-clause-least
are_same_eights-requires-clause-least c = grind (arith, common_steps)

pub are_same_eights-requires-clause-most : goal.are_same_eights-requires-clause-most
are_same_eights-requires-clause-most c = grind (arith, common_steps)

pub are_same_eights-requires-then-are_same_eights-clause-same : goal.are_same_eights-requires-then-are_same_eights-clause-same
are_same_eights-requires-then-are_same_eights-clause-same c = grind (arith, common_steps)
