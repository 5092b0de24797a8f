use Rattle.std.proofs.lemmas.Grind.{common_steps}
use Rattle.std.proofs.Common.{refl, arith}
use Rattle.ion_symbols.proofs.Adding.{charges_within, given_over, given_push, nothing_charged, share_push}
use Rattle.ion_symbols.proofs.KeptTexts.{same_share}
use Rattle.ion_symbols.proofs.Answering.{err-not-ok, no_id}
use Rattle.ion_symbols.proofs.output.add.Goals as goal

-- ---- where the limit does not allow it

pub returns-then-is_over-clause-gives : goal.returns-then-is_over-clause-gives
returns-then-is_over-clause-gives g c = given_over _ _ _ _ c.requires.new c.cost.ensures (c.is_over.ensures.over c.if-is_over.true)

pub returns-then-is_over-clause-charges : goal.returns-then-is_over-clause-charges
returns-then-is_over-clause-charges g c = nothing_charged _ _ _ c.requires.share

-- ---- where it does

pub add-requires-clause-small : goal.add-requires-clause-small
add-requires-clause-small g c = omega (arith, c.is_over.ensures.fits c.if-is_over.false, c.cost.ensures, c.requires.small)

pub returns-in-Ok-clause-share : goal.returns-in-Ok-clause-share
returns-in-Ok-clause-share g c = share_push _ _ c.args.text.now _ _ c.cost.ensures (c.is_over.ensures.fits c.if-is_over.false) c.in-Ok.ensures.added

pub returns-in-Ok-clause-gives : goal.returns-in-Ok-clause-gives
returns-in-Ok-clause-gives g c =
    given_push _ _ _ c.args.text.now _ _ c.requires.new c.cost.ensures (c.is_over.ensures.fits c.if-is_over.false) c.len.ensures.0 c.in-Ok.ensures.added

pub returns-in-Ok-clause-counted : goal.returns-in-Ok-clause-counted
returns-in-Ok-clause-counted g c = c.in-Ok.ensures.grows.refused

pub returns-in-Ok-clause-charges : goal.returns-in-Ok-clause-charges
returns-in-Ok-clause-charges g c =
    charges_within _ _ _ _ _ _ c.add.ensures.charges (let f = c.is_over.ensures.fits c.if-is_over.false in omega (arith, f, c.cost.ensures))

pub returns-in-Err-clause-share : goal.returns-in-Err-clause-share
returns-in-Err-clause-share g c = same_share _ _ _ c.in-Err.ensures.memory.1 c.requires.share

pub returns-in-Err-clause-charges : goal.returns-in-Err-clause-charges
returns-in-Err-clause-charges g c =
    charges_within _ _ _ _ _ _ c.add.ensures.charges (let f = c.is_over.ensures.fits c.if-is_over.false in omega (arith, f, c.cost.ensures))

-- ---- what is over the limit, and what grows

pub returns-then-is_over-clause-over : goal.returns-then-is_over-clause-over
returns-then-is_over-clause-over g c over = (refl, refl)

pub returns-then-is_over-clause-grows : goal.returns-then-is_over-clause-grows
returns-then-is_over-clause-grows g c id e = absurd (no_id id e)

pub returns-in-Ok-clause-over : goal.returns-in-Ok-clause-over
returns-in-Ok-clause-over g c over = let f = c.is_over.ensures.fits c.if-is_over.false in absurd (omega (arith, f, c.cost.ensures, over))

pub returns-in-Ok-clause-grows : goal.returns-in-Ok-clause-grows
returns-in-Ok-clause-grows g c id e = c.in-Ok.ensures.grows

pub returns-in-Err-clause-over : goal.returns-in-Err-clause-over
returns-in-Err-clause-over g c over = let f = c.is_over.ensures.fits c.if-is_over.false in absurd (omega (arith, f, c.cost.ensures, over))

pub returns-in-Err-clause-grows : goal.returns-in-Err-clause-grows
returns-in-Err-clause-grows g c id e = absurd (err-not-ok _ _ e)

pub returns-in-Err-clause-kept : goal.returns-in-Err-clause-kept
returns-in-Err-clause-kept g c = grind (arith, common_steps)

pub returns-in-Err-clause-order : goal.returns-in-Err-clause-order
returns-in-Err-clause-order g c = grind (arith, common_steps)
