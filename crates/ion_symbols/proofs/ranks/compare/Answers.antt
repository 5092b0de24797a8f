use Rattle.std.proofs.Common.{ap, ◌∙◌}
use Rattle.ion_symbols.specs.Output.{text_cmp}
use Rattle.ion_symbols.proofs.Ranking.{key_less, key_greater, key_equal}
use Rattle.ion_symbols.proofs.ranks.compare.Goals as goal

pub returns-in-Less : goal.returns-in-Less
returns-in-Less g c = key_less c.args.table.now.name c.args.name.now c.args.table.now.version c.args.version (c.in-Less.ensures ∙ ap (λ n. text_cmp n c.args.name.now) c.name.ensures)

pub returns-in-Greater : goal.returns-in-Greater
returns-in-Greater g c = key_greater c.args.table.now.name c.args.name.now c.args.table.now.version c.args.version (c.in-Greater.ensures ∙ ap (λ n. text_cmp n c.args.name.now) c.name.ensures)

pub returns-in-Equal : goal.returns-in-Equal
returns-in-Equal g c =
    key_equal c.args.table.now.name c.args.name.now c.args.table.now.version c.version.result c.args.version c.cmp-in-Equal.result (c.in-Equal.ensures ∙ ap (λ n. text_cmp n c.args.name.now) c.name.ensures)
    c.version.ensures c.cmp-in-Equal.ensures
