use Rattle.std.proofs.Common.{arith, ◌∙◌, sym, map, string_bytes}
use Rattle.std.proofs.lemmas.Grind.{common_steps}
use Rattle.std.proofs.lemmas.Result.{IfOk-weaker}
use Rattle.ion_tool.proofs.Asking.{asks_error, some_words}
use Rattle.ion_tool.proofs.words.read_words.Goals as goal

pub returns-in-Err-clause-asks : goal.returns-in-Err-clause-asks
returns-in-Err-clause-asks c =
    let some = some_words string_bytes c.args.words.now (sym c.is_empty.ensures ∙ c.if-is_empty.false) in
    IfOk-weaker c.request_of.result _ _ (λ r a. asks_error (map string_bytes c.args.words.now) c.in-Err.error some c.in-Err.ensures.kinds r a) c.request_of.ensures

pub returns-then-is_empty-clause-asks : goal.returns-then-is_empty-clause-asks
returns-then-is_empty-clause-asks c = grind (arith, common_steps)

pub returns-in-Err-clause-some_words : goal.returns-in-Err-clause-some_words
returns-in-Err-clause-some_words c = grind (arith, common_steps)

pub returns-clause-asks : goal.returns-clause-asks
returns-clause-asks c = grind (arith, common_steps)
