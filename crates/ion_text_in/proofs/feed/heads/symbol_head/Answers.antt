use Rattle.std.proofs.Common.{ℕ, List, take, false, refl, sym, ap, subst, ◌∙◌}
use Rattle.ion_value.specs.Name.{is_simple}
use Rattle.ion_value.specs.Value.{symbol, whole, Text}
use Rattle.ion_text_in.specs.Feeding.{IsHead}
use Rattle.ion_text_in.specs.Positions.{at}
use Rattle.ion_text_in.proofs.FeedHeads.{head-word, token-word, word-marker}
use Rattle.ion_text_in.proofs.feed.heads.symbol_head.Goals as goal

pub returns : goal.returns
returns c =
    let a = c.args in
    let rest = c.after-rest.result.now in
    let word = c.requires.word in
    let text = Text (take a.count a.bytes.now) in
    record {
      head = subst (λ (l : List ℕ). IsHead a.limits a.place a.bytes.now (whole (symbol (at (Text l) a.place))) rest) (sym c.front-text.ensures)
          (head-word false text text c.next_told.result (token-word c.after-rest.ensures word c.requires.begins) tt (word-marker word) c.next_told.ensures c.if-next_told-eq0.false);
      spelled = (ap is_simple c.front-text.ensures ∙ word.simple, refl);
    }
