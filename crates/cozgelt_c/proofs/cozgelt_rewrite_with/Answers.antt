use Rattle.cozgelt_c.proofs.cozgelt_rewrite_with.Goals as goal

-- what the one call answers for this target
pub returns : goal.returns
returns c = c.convert.ensures
