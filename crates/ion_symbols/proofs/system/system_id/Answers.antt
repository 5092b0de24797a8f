use Rattle.std.proofs.Common.{◌+◌, ℕ, option_map, drop, refl, ap, sym, codes}
use Rattle.ion_symbols.specs.Output.{system_texts}
use Rattle.ion_symbols.proofs.Orders.{position_past}
use Rattle.ion_symbols.proofs.system.system_id.Goals as goal

pub returns-else-eq-9 : goal.returns-else-eq-9
returns-else-eq-9 c =
    let text = c.args.text.now in
    let p8 = position_past (codes "$ion_shared_symbol_table") (drop 9 system_texts) text _ _ c.eq-else-eq-8.ensures c.as_slice-else-eq-8.ensures c.if-eq-9.false refl in
    let p7 = position_past (codes "max_id") (drop 8 system_texts) text _ _ c.eq-else-eq-7.ensures c.as_slice-else-eq-7.ensures c.if-eq-8.false p8 in
    let p6 = position_past (codes "symbols") (drop 7 system_texts) text _ _ c.eq-else-eq-6.ensures c.as_slice-else-eq-6.ensures c.if-eq-7.false p7 in
    let p5 = position_past (codes "imports") (drop 6 system_texts) text _ _ c.eq-else-eq-5.ensures c.as_slice-else-eq-5.ensures c.if-eq-6.false p6 in
    let p4 = position_past (codes "version") (drop 5 system_texts) text _ _ c.eq-else-eq-4.ensures c.as_slice-else-eq-4.ensures c.if-eq-5.false p5 in
    let p3 = position_past (codes "name") (drop 4 system_texts) text _ _ c.eq-else-eq-3.ensures c.as_slice-else-eq-3.ensures c.if-eq-4.false p4 in
    let p2 = position_past (codes "$ion_symbol_table") (drop 3 system_texts) text _ _ c.eq-else-eq-2.ensures c.as_slice-else-eq-2.ensures c.if-eq-3.false p3 in
    let p1 = position_past (codes "$ion_1_0") (drop 2 system_texts) text _ _ c.eq-else-eq.ensures c.as_slice-else-eq.ensures c.if-eq-2.false p2 in
    let p0 = position_past (codes "$ion") (drop 1 system_texts) text _ _ c.eq.ensures c.as_slice.ensures c.if-eq.false p1 in
    sym (ap (option_map (λ (place : ℕ). place + 1)) p0)
