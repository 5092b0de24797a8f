use Rattle.std.proofs.Common.{◌∙◌, ap, sym, []}
use Rattle.std.proofs.lemmas.List.{append-nil}
use Rattle.ion_text_in.specs.Token.{first_at}
use Rattle.ion_text_in.proofs.FirstTokens.{ended-first, ended-wide}
use Rattle.ion_text_in.proofs.first.ended_first.Goals as goal

pub returns-in-Some-clause-first : goal.returns-in-Some-clause-first
returns-in-Some-clause-first c = ap (first_at c.args.in_sexp) (sym (append-nil c.args.bytes.now)) ∙ c.in-Some.ensures.shows []

pub returns-clause-first : goal.returns-clause-first
returns-clause-first c =
    let e = c.scan_first-2.ensures in
    let none = rw c.in_default-scan_first.is at c.scan_first.ensures.known in
    ended-first c.args.in_sexp c.args.bytes.now c.scan_first-2.result c.byte_at.result c.byte_at-2.result c.byte_at-3.result c.in-len1-up.len_at_least none c.byte_at.ensures c.byte_at-2.ensures c.byte_at-3.ensures e.shows e.known

pub returns-clause-wide : goal.returns-clause-wide
returns-clause-wide c = ended-wide c.args.in_sexp c.args.bytes.now c.scan_first-2.result c.in-len1-up.len_at_least (returns-clause-first c)
