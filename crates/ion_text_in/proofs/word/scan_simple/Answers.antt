use Rattle.std.proofs.Common.{◌≡◌, ◌&&◌, ◌==◌, ◌∙◌, false, ℕ, List, codes, sym, subst, take, drop}
use Rattle.std.proofs.lemmas.List.{take_rest}
use Rattle.std.specs.Str.{bytes_eq}
use Rattle.ion_value.specs.Digits.{first_is}
use Rattle.ion_text_in.specs.Views.{word_token_of}
use Rattle.ion_text_in.proofs.ShownTokens.{word-shown}
use Rattle.ion_text_in.proofs.FeedNames.{begun-dollar, begun-first, begun-name, begun-shown, begun-simple}
use Rattle.ion_text_in.proofs.WordTokens.{plain-word}
use Rattle.ion_text_in.proofs.word.scan_simple.Goals as goal

pub returns-then-not-may_be_keyword-clause-name : goal.returns-then-not-may_be_keyword-clause-name
returns-then-not-may_be_keyword-clause-name c =
    let bytes = c.args.bytes.now in
    let begun = c.in-Some.ensures in
    begun-simple c.args.limit c.in-Some.count bytes begun
    (plain-word (take c.in-Some.count bytes) (begun-first c.args.limit c.in-Some.count bytes begun ∙ (sym c.may_be_keyword.ensures ∙ c.if-not-may_be_keyword.true)) (begun-dollar c.args.limit c.in-Some.count bytes begun))

pub returns-then-not-may_be_keyword-clause-shows : goal.returns-then-not-may_be_keyword-clause-shows
returns-then-not-may_be_keyword-clause-shows c = let simple = returns-then-not-may_be_keyword-clause-name c in (simple.within, simple.shown)

pub keyword_or_name-requires : goal.keyword_or_name-requires
keyword_or_name-requires c = begun-dollar c.args.limit c.in-Some.count c.args.bytes.now c.in-Some.ensures

pub returns-in-Ok-clause-shows : goal.returns-in-Ok-clause-shows
returns-in-Ok-clause-shows c =
    let bytes = c.args.bytes.now in
    let n = c.in-Some.count in
    let none : (bytes_eq (codes "null") (take n bytes) && first_is (λ b. b == 46) (drop n bytes)) ≡ false =
    subst (λ (l : List ℕ). (bytes_eq (codes "null") (take n bytes) && first_is (λ b. b == 46) l) ≡ false) (take_rest bytes n) (sym c.has_type.ensures ∙ c.if-has_type.false) in
    word-shown (word_token_of (take n bytes)) c.in-Ok.word c.args.limit n bytes (begun-shown c.args.limit n bytes c.in-Some.ensures none) c.in-Some.ensures.fits c.in-Ok.ensures

pub returns-in-Ok-clause-name : goal.returns-in-Ok-clause-name
returns-in-Ok-clause-name c = begun-name c.args.limit c.in-Some.count c.args.bytes.now c.in-Ok.word c.in-Some.ensures c.in-Ok.ensures
