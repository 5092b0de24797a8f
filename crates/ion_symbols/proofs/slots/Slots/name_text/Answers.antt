use Rattle.std.proofs.Common.{Some, refl, ap, sym, ◌∙◌}
use Rattle.ion_symbols.specs.Kept.{text_in}
use Rattle.ion_symbols.proofs.Keeping.{bare_told, known_told, stands_at}
use Rattle.ion_symbols.proofs.slots.Slots.name_text.Goals as goal

pub between-requires : goal.between-requires
between-requires g c =
    let s = stands_at c.self.inside.texts c.self.inside.parts c.as_slice-parts.result.now c.args.self.now c.args.i c.self.invariant c.self.view_is c.as_slice-parts.ensures c.if-i-parts.false in
    (s.begins, rw c.as_slice.ensures s.ends)

pub between-requires-in_default : goal.between-requires-in_default
between-requires-in_default g c =
    let s = stands_at c.self.inside.texts c.self.inside.parts c.as_slice-parts.result.now c.args.self.now c.args.i c.self.invariant c.self.view_is c.as_slice-parts.ensures c.if-i-parts.false in
    (s.begins, rw c.as_slice-in_default.ensures s.ends)

pub returns-in-Bare : goal.returns-in-Bare
returns-in-Bare g c =
    let s = stands_at c.self.inside.texts c.self.inside.parts c.as_slice-parts.result.now c.args.self.now c.args.i c.self.invariant c.self.view_is c.as_slice-parts.ensures c.if-i-parts.false in
    let b = bare_told _ _ (sym c.in-Bare.is ∙ s.written) in
    rw (c.bare.ensures.quoting, c.bare.ensures.text, c.between.ensures, c.as_slice.ensures) (ap text_in (s.slot ∙ ap Some b.0), b.1)

pub returns-in_default : goal.returns-in_default
returns-in_default g c =
    let s = stands_at c.self.inside.texts c.self.inside.parts c.as_slice-parts.result.now c.args.self.now c.args.i c.self.invariant c.self.view_is c.as_slice-parts.ensures c.if-i-parts.false in
    let b = known_told _ _ _ s.written c.if-part.true in
    rw (c.between-in_default.ensures, c.as_slice-in_default.ensures) (ap text_in (s.slot ∙ ap Some b.0), b.1)

pub returns-in_default-2 : goal.returns-in_default-2
returns-in_default-2 g c =
    let s = stands_at c.self.inside.texts c.self.inside.parts c.as_slice-parts.result.now c.args.self.now c.args.i c.self.invariant c.self.view_is c.as_slice-parts.ensures c.if-i-parts.false in
    ap text_in s.slot ∙ rw c.if-part.false refl
