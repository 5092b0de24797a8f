use Rattle.std.proofs.Common.{◌≡◌, ◌-◌, ◌<◌, ℕ, List, length, get_or, nat_eq, ap, sym, ◌∙◌, arith}
use Rattle.std.proofs.lemmas.Bool.{eqb-true}
use Rattle.ion_symbols.specs.Hash.{four_at}
use Rattle.ion_symbols.proofs.SameEnds.{equal-tells, same-fours, tells}
use Rattle.ion_symbols.proofs.same.are_same_fours.Goals as goal

pub returns : goal.returns
returns c =
    let t : List ℕ = c.args.text.now in
    let o : List ℕ = c.args.other.now in
    let last : ℕ = length t - 4 in
    let a : c.four-3.result ≡ four_at t last = c.four-3.ensures in
    let b : c.four-4.result ≡ four_at o last = c.four-4.ensures in
    let first : four_at t 0 ≡ four_at o 0 = sym c.four.ensures ∙ (c.if-four.false ∙ c.four-2.ensures) in
    tells t o (nat_eq c.four-3.result c.four-4.result)
    (λ e.
    same-fours t o (λ i. let h : get_or t i 0 < 256 = omega (arith, c.type_inv.text i) in h) (λ i. let h : get_or o i 0 < 256 = omega (arith, c.type_inv.other i) in h)
    c.requires.same c.requires.least c.requires.most first (sym a ∙ (eqb-true c.four-3.result c.four-4.result e ∙ b)))
    (λ e. equal-tells c.four-3.result c.four-4.result (a ∙ (ap (λ (l : List ℕ). four_at l last) e ∙ sym b)))
