use Rattle.std.proofs.Common.{◌∙◌, Option, sym, ap}
use Rattle.std.specs.Prelude.{ℤ}
use Rattle.ion_value.specs.declared.int.Int.{Int}
use Rattle.ion_value.specs.Value.{whole, int}
use Rattle.ion_text_in.specs.Quick.{number_by}
use Rattle.ion_text_in.specs.Views.{as_number}
use Rattle.ion_text_in.proofs.feed.heads.int_head.Goals as goal

pub returns : goal.returns
returns c =
    let quick = c.args.quick in
    ap (λ (i : Int). whole (int i)) c.signed_int.ensures ∙ ap (λ (e : Option ℤ). whole (as_number (number_by quick.negative quick.number e))) (sym c.requires)
