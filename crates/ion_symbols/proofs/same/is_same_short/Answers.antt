use Rattle.std.proofs.Common.{◌≡◌, ◌<◌, ℕ, List, length, get_or, nat_eq, ap, sym, ◌∙◌, arith}
use Rattle.std.proofs.lemmas.Bool.{eqb-true}
use Rattle.ion_symbols.specs.Hash.{few_of}
use Rattle.ion_symbols.proofs.SameEnds.{equal-tells, same-few, tells}
use Rattle.ion_symbols.proofs.same.is_same_short.Goals as goal

pub returns-else-text-ge4 : goal.returns-else-text-ge4
returns-else-text-ge4 c =
    let t : List ℕ = c.args.text.now in
    let o : List ℕ = c.args.other.now in
    let a : c.few.result ≡ few_of t = c.few.ensures in
    let b : c.few-else-text-ge4.result ≡ few_of o = c.few-else-text-ge4.ensures in
    let short : length t < 4 = let h = c.if-text-ge4.false in omega (arith, h) in
    tells t o (nat_eq c.few.result c.few-else-text-ge4.result)
    (λ e.
    same-few t o (λ i. let h : get_or t i 0 < 256 = omega (arith, c.type_inv.text i) in h) (λ i. let h : get_or o i 0 < 256 = omega (arith, c.type_inv.other i) in h)
    c.if-text-other.false short (sym a ∙ (eqb-true c.few.result c.few-else-text-ge4.result e ∙ b)))
    (λ e. equal-tells c.few.result c.few-else-text-ge4.result (a ∙ (ap (λ (l : List ℕ). few_of l) e ∙ sym b)))
