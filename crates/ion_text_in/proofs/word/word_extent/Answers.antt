use Rattle.std.proofs.lemmas.Grind.{common_steps}
use Rattle.std.proofs.Common.{◌+◌, ◌∙◌, sym, arith}
use Rattle.std.proofs.lemmas.Bool.{not-false}
use Rattle.std.proofs.lemmas.List.{take_rest}
use Rattle.ion_text_in.proofs.WordTokens.{word-untyped, word-typed}
use Rattle.ion_text_in.proofs.word.word_extent.Goals as goal

pub returns-then-not-has_type : goal.returns-then-not-has_type
returns-then-not-has_type c =
    let bytes = c.args.bytes.now in
    let n = c.word_run-extent.result.len in
    let extent = rw (take_rest bytes 1) at c.word_run-extent.ensures in
    let ended = not-false _ c.if-not-extent.false in
    word-untyped bytes n c.in-len1-up.len_at_least (extent.after ended) (extent.ends ended) (rw (take_rest bytes (1 + n)) at (sym c.has_type.ensures ∙ c.if-not-has_type.true))

pub returns : goal.returns
returns c =
    let bytes = c.args.bytes.now in
    let n = c.word_run-extent.result.len in
    let extent = rw (take_rest bytes 1) at c.word_run-extent.ensures in
    let ended = not-false _ c.if-not-extent.false in
    let name = rw (take_rest bytes (1 + n + 1)) at c.word_run-name.ensures in
    let named = not-false _ c.if-not-name.false in
    word-typed bytes n c.word_run-name.result.len c.in-len1-up.len_at_least (extent.after ended) (extent.ends ended) (rw (take_rest bytes (1 + n)) at (sym c.has_type.ensures ∙ c.if-not-has_type.false))
    (name.after named) (name.ends named)

pub slice_bounds-word_run-start : goal.slice_bounds-word_run-start
slice_bounds-word_run-start c = grind (arith, common_steps)

pub slice_bounds-word_run-count : goal.slice_bounds-word_run-count
slice_bounds-word_run-count c = grind (arith, common_steps)
