use Rattle.std.proofs.Common.{◌∙◌, ap, sym, Some, Ok, List, ℕ, [], take, arith}
use Rattle.ion_meter.specs.Windows.{lent}
use Rattle.ion_meter.specs.Sources.{cursor}
use Rattle.ion_text_in.specs.declared.word.Word.{Word}
use Rattle.ion_text_in.specs.Token.{Token, a_word, token_of}
use Rattle.ion_text_in.specs.Views.{word_token_of}
use Rattle.ion_text_in.proofs.Shown.{shown-whole, shown-fault}
use Rattle.ion_text_in.proofs.TypedWords.{no_text}
use Rattle.ion_text_in.proofs.ShownFurther.{shown-further}
use Rattle.ion_text_in.proofs.Prepaid.{prepaid_word-none}
use Rattle.ion_text_in.proofs.word.next_word.Goals as goal

pub returns-in_ok-copy-in-Name-clause-gives : goal.returns-in_ok-copy-in-Name-clause-gives
returns-in_ok-copy-in-Name-clause-gives g c = λ h.
    let s = c.args.source.now in
    let n = c.in-Whole.count in
    let w = c.in-Whole.word in
    let copied = c.in_ok-copy-in-Name.ensures.copies in
    shown-whole g.I.Input (word_token_of (take n (lent s))) s c.copy.new.source w n (token_of (Some c.args.limits.scalar) a_word) (rw c.buffer.ensures at c.in-Whole.ensures.shows) copied.passed
    ∙ ap (λ (l : List ℕ). Ok (word_token_of l w, cursor g.I.Input c.copy.new.source)) (sym copied.text)
    ∙ ap (λ (w : Word). Ok (word_token_of c.copy.new.text w, cursor g.I.Input c.copy.new.source)) c.in-Name.is

pub returns-in_default-clause-gives : goal.returns-in_default-clause-gives
returns-in_default-clause-gives g c = λ h.
    let s = c.args.source.now in
    let n = c.in-Whole.count in
    let w = c.in-Whole.word in
    shown-whole g.I.Input (word_token_of (take n (lent s))) s c.consume.new.self w n (token_of (Some c.args.limits.scalar) a_word) (rw c.buffer.ensures at c.in-Whole.ensures.shows) c.consume.ensures
    ∙ ap (λ (t : Token). Ok (t, cursor g.I.Input c.consume.new.self)) (no_text (take n (lent s)) c.args.text.now w c.in_default.not-Name)

pub returns-in-Fault-clause-gives : goal.returns-in-Fault-clause-gives
returns-in-Fault-clause-gives g c = λ h.
    (shown-fault g.I.Input (word_token_of []) c.args.source.now c.in-Fault.reason (token_of (Some c.args.limits.scalar) a_word) (rw c.buffer.ensures at c.in-Fault.ensures.shows), c.place.ensures)

pub returns-in_ok-copy-in-Name-clause-further : goal.returns-in_ok-copy-in-Name-clause-further
returns-in_ok-copy-in-Name-clause-further g c =
    let s = c.args.source.now in
    let n = c.in-Whole.count in
    shown-further (word_token_of (take n (lent s))) s c.copy.new.source c.in-Whole.word n (Some c.args.limits.scalar) a_word (rw c.buffer.ensures at c.in-Whole.ensures.shows) c.requires.there c.in_ok-copy-in-Name.ensures.copies.passed

pub returns-in_default-clause-further : goal.returns-in_default-clause-further
returns-in_default-clause-further g c =
    let s = c.args.source.now in
    let n = c.in-Whole.count in
    shown-further (word_token_of (take n (lent s))) s c.consume.new.self c.in-Whole.word n (Some c.args.limits.scalar) a_word (rw c.buffer.ensures at c.in-Whole.ensures.shows) c.requires.there c.consume.ensures

pub returns-in_default-clause-fresh : goal.returns-in_default-clause-fresh
returns-in_default-clause-fresh g c =
    let none = prepaid_word-none c.args.text.now c.in-Whole.word c.in_default.not-Name in
    omega (arith, none)
