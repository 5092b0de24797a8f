use Rattle.std.proofs.Common.{take, []}
use Rattle.ion_text_in.specs.Views.{word_token_of}
use Rattle.ion_text_in.proofs.ShownTokens.{word-shown, word-bad, word-over}
use Rattle.ion_text_in.proofs.word.scan_word.Goals as goal

pub returns-then-limit-count-clause-shows : goal.returns-then-limit-count-clause-shows
returns-then-limit-count-clause-shows c = word-over (word_token_of []) c.args.limit c.in-Some.count c.args.bytes.now c.in-Some.ensures c.if-limit-count.true

pub returns-in-Ok-clause-shows : goal.returns-in-Ok-clause-shows
returns-in-Ok-clause-shows c =
    word-shown (word_token_of (take c.in-Some.count c.args.bytes.now)) c.in-Ok.word c.args.limit c.in-Some.count c.args.bytes.now c.in-Some.ensures c.if-limit-count.false c.in-Ok.ensures

pub returns-in-Err-clause-shows : goal.returns-in-Err-clause-shows
returns-in-Err-clause-shows c =
    word-bad (word_token_of []) c.in-Err.reason c.args.limit c.in-Some.count c.args.bytes.now c.in-Some.ensures c.if-limit-count.false c.in-Err.ensures
