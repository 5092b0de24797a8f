use Rattle.std.proofs.Common.{◌≡◌, ◌-◌, ◌<◌, ℕ, List, length, get_or, nat_eq, ap, sym, ◌∙◌, arith}
use Rattle.std.proofs.lemmas.Bool.{eqb-true}
use Rattle.ion_symbols.specs.Hash.{eight_at}
use Rattle.ion_symbols.proofs.SameEnds.{equal-tells, same-eights, tells}
use Rattle.ion_symbols.proofs.same.are_same_eights.Goals as goal

pub returns : goal.returns
returns c =
    let t : List ℕ = c.args.text.now in
    let o : List ℕ = c.args.other.now in
    let last : ℕ = length t - 8 in
    let a : c.eight-3.result ≡ eight_at t last = c.eight-3.ensures in
    let b : c.eight-4.result ≡ eight_at o last = c.eight-4.ensures in
    let first : eight_at t 0 ≡ eight_at o 0 = sym c.eight.ensures ∙ (c.if-eight.false ∙ c.eight-2.ensures) in
    tells t o (nat_eq c.eight-3.result c.eight-4.result)
    (λ e.
    same-eights t o (λ i. let h : get_or t i 0 < 256 = omega (arith, c.type_inv.text i) in h) (λ i. let h : get_or o i 0 < 256 = omega (arith, c.type_inv.other i) in h)
    c.requires.same c.requires.least c.requires.most first (sym a ∙ (eqb-true c.eight-3.result c.eight-4.result e ∙ b)))
    (λ e. equal-tells c.eight-3.result c.eight-4.result (a ∙ (ap (λ (l : List ℕ). eight_at l last) e ∙ sym b)))
