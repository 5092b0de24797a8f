use Rattle.std.proofs.Common.{true, refl}
use Rattle.ion_value.specs.Value.{Text}
use Rattle.ion_text_in.proofs.FeedHeads.{head-word, quoted-marker, token-quoted}
use Rattle.ion_text_in.proofs.FeedReading.{found-as}
use Rattle.ion_text_in.proofs.feed.heads.quoted_head.Goals as goal

pub returns : goal.returns
returns c =
    let text = c.in-Some.symbol.text.now in
    found-as c.found_as.ensures refl
    (head-word true (Text text) (Text text) c.next_told.result (token-quoted c.in-Some.ensures c.requires) tt (λ k annotations. quoted-marker k annotations text) c.next_told.ensures c.if-next_told-eq0.false)
