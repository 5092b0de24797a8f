use Rattle.std.proofs.Common.{◌≡◌, ◌∙◌, ◌≤◌, ℕ, List, length, true, false, Option, Some, None, Ok, refl, sym, ap, subst, arith}
use Rattle.std.proofs.lemmas.Grind.{common_steps}
use Rattle.ion_meter.specs.declared.device.Input.{Ghosts as InputOf}
use Rattle.ion_meter.specs.Sources.{Cursor, cursor, skip}
use Rattle.ion_meter.specs.Windows.{Incoming, IsPassed, lent}
use Rattle.ion_value.specs.Value as value
use Rattle.ion_value.proofs.Passing.{IsPassed-cursor}
use Rattle.ion_text_in.specs.declared.first.First.{First}
use Rattle.ion_text_in.specs.declared.token.Token.{Token}
use Rattle.ion_text_in.specs.Firsts.{first_of, width}
use Rattle.ion_text_in.specs.Quoted.{Quote, symbol_quote, short_quote, long_quote, text_at}
use Rattle.ion_text_in.specs.Token as tokens
use Rattle.ion_text_in.specs.Token.{token_of}
use Rattle.ion_text_in.specs.Tokens.{going, overrun_of, token_view, TokenGives}
use Rattle.ion_text_in.proofs.Holding.{handed-on}
use Rattle.ion_text_in.proofs.ReaderSteps.{overrun-going}
use Rattle.ion_text_in.proofs.TextTokens.{made, long-token, quoted-token, short-token, text-refused}
use Rattle.ion_text_in.proofs.token.next_token.Goals as goal

-- a token after which nothing was passed over
alone : (limit : ℕ) (text : List ℕ) (place : ℕ) (first f : First) (from to : Cursor) (token : Token) (x : tokens.Token) → first ≡ f → token_of (Some limit) (first_of f) from ≡ Ok (x, to)
    → token_view text place token ≡ x → overrun_of token ≡ None → TokenGives text place (Ok token) to (token_of (Some limit) (first_of first) from)
alone limit text place first f from to token x is gives view none =
    (to, ap (λ (f : First). token_of (Some limit) (first_of f) from) is ∙ gives ∙ ap (λ (x : tokens.Token). Ok (x, to)) (sym view), ap (λ (o : Option ℕ). going o to) (sym none))

-- a mark of so many bytes
marked : (limit : ℕ) (text : List ℕ) (place : ℕ) (first f : First) (from to : Cursor) (token mark : Token) (n : ℕ) → first ≡ f → token ≡ mark → to ≡ skip n from
    → token_of (Some limit) (first_of f) from ≡ Ok (token_view text place mark, skip n from) → overrun_of mark ≡ None → TokenGives text place (Ok token) to (token_of (Some limit) (first_of first) from)
marked limit text place first f from to token mark n is same after gives none =
    alone limit text place first f from to token (token_view text place mark) is (gives ∙ ap (λ (d : Cursor). Ok (token_view text place mark, d)) (sym after)) (ap (λ (t : Token). token_view text place t) same)
    (ap overrun_of same ∙ none)

-- what is read from a token between quotes on, by its text
between : {I : Type 0} (device : InputOf I) (s t : Incoming I) (limit : Option ℕ) (first f : First) (q : Quote) (token : List ℕ → tokens.Token) → first ≡ f → width (first_of first) ≤ length (lent s)
    → IsPassed s t (width (first_of f)) → ((c : Cursor) → made token (text_at q limit (skip (width (first_of f)) c)) ≡ token_of limit (first_of f) c)
    → token_of limit (first_of first) (cursor device s) ≡ made token (text_at q limit (cursor device t))
between device s t limit first f q token is there passed same =
    ap (λ (f : First). token_of limit (first_of f) (cursor device s)) is ∙ sym (same (cursor device s))
    ∙ ap (λ (d : Cursor). made token (text_at q limit d)) (sym (IsPassed-cursor device s t (width (first_of f)) (subst (λ (f : First). width (first_of f) ≤ length (lent s)) is there) passed))

pub returns-in_ok-next_word-in-Word-clause-gives : goal.returns-in_ok-next_word-in-Word-clause-gives
returns-in_ok-next_word-in-Word-clause-gives g c = λ h.
    let t = c.word_token.ensures in
    alone c.args.limits.scalar c.next_word.new.text c.args.source.now.place c.args.first _ (cursor g.I.Input c.args.source.now) (cursor g.I.Input c.next_word.new.source) c.word_token.result _ c.in-Word.is
    (c.in_ok-next_word-in-Word.ensures.gives h) (t.is c.next_word.new.text c.args.source.now.place) t.alone

pub returns-in_ok-next_number-in-Number-clause-gives : goal.returns-in_ok-next_number-in-Number-clause-gives
returns-in_ok-next_number-in-Number-clause-gives g c = λ h.
    let t = c.numeral_token.ensures in
    alone c.args.limits.scalar c.next_number.new.text c.args.source.now.place c.args.first _ (cursor g.I.Input c.args.source.now) (cursor g.I.Input c.next_number.new.source) c.numeral_token.result _ c.in-Number.is
    (c.in_ok-next_number-in-Number.ensures.gives h) (t.is c.next_number.new.text c.args.source.now.place) t.alone

pub returns-in_ok-next_lob-in-Lob-clause-gives : goal.returns-in_ok-next_lob-in-Lob-clause-gives
returns-in_ok-next_lob-in-Lob-clause-gives g c = λ h. (
  cursor g.I.Input c.next_lob.new.source,
  ap (λ (f : First). token_of (Some c.args.limits.scalar) (first_of f) (cursor g.I.Input c.args.source.now)) c.in-Lob.is ∙ c.in_ok-next_lob-in-Lob.ensures.gives h,
  refl,
)

pub returns-in_ok-next_long_text-in-LongString-clause-gives : goal.returns-in_ok-next_long_text-in-LongString-clause-gives
returns-in_ok-next_long_text-in-LongString-clause-gives g c = λ h.
    let s = c.args.source.now in
    let token = (λ (l : List ℕ). tokens.text l) in
    let given = between g.I.Input s c.consume.new.self (Some c.args.limits.scalar) c.args.first _ (long_quote false) token c.in-LongString.is c.requires.there c.consume.ensures (long-token (Some c.args.limits.scalar)) in
    let seen = c.in_ok-next_long_text-in-LongString.ensures.gives (subst g.I.Input.observable (sym c.consume.ensures.device) h) in
    (seen.0, given ∙ ap (made token) seen.1, overrun-going c.in_ok-next_long_text-in-LongString.field-0 seen.0 (cursor g.I.Input c.next_long_text.new.source) seen.2)

pub returns-in_err-next_long_text-in-LongString-clause-gives : goal.returns-in_err-next_long_text-in-LongString-clause-gives
returns-in_err-next_long_text-in-LongString-clause-gives g c = λ h.
    let fault = c.in_err-next_long_text-in-LongString.field-0.0 in
    let s = c.args.source.now in
    let token = (λ (l : List ℕ). tokens.text l) in
    let given = between g.I.Input s c.consume.new.self (Some c.args.limits.scalar) c.args.first _ (long_quote false) token c.in-LongString.is c.requires.there c.consume.ensures (long-token (Some c.args.limits.scalar)) in
    let seen = c.in_err-next_long_text-in-LongString.ensures.gives (subst g.I.Input.observable (sym c.consume.ensures.device) h) in
    rw (handed-on c.from_residual-in_err-next_long_text-in-LongString.result fault c.from_residual-in_err-next_long_text-in-LongString.ensures)
    (text-refused fault c.next_long_text.new.text token s.place _ _ _ given (λ reason at e. rw (e, c.place-place.ensures) at seen))

pub returns-in_err-next_long_text-in-LongString-clause-reads : goal.returns-in_err-next_long_text-in-LongString-clause-reads
returns-in_err-next_long_text-in-LongString-clause-reads g c = grind (arith, common_steps)

pub returns-in_ok-next_short_text-in-String-clause-gives : goal.returns-in_ok-next_short_text-in-String-clause-gives
returns-in_ok-next_short_text-in-String-clause-gives g c = λ h.
    let s = c.args.source.now in
    let token = (λ (l : List ℕ). tokens.text l) in
    let given = between g.I.Input s c.advance.new.self (Some c.args.limits.scalar) c.args.first _ (short_quote false) token c.in-String.is c.requires.there c.advance.ensures (short-token (Some c.args.limits.scalar)) in
    let seen = c.in_ok-next_short_text-in-String.ensures.gives (subst g.I.Input.observable (sym c.advance.ensures.device) h) in
    (cursor g.I.Input c.next_short_text.new.source, given ∙ ap (made token) seen, refl)

pub returns-in_err-next_short_text-in-String-clause-gives : goal.returns-in_err-next_short_text-in-String-clause-gives
returns-in_err-next_short_text-in-String-clause-gives g c = λ h.
    let fault = c.in_err-next_short_text-in-String.field-0.0 in
    let s = c.args.source.now in
    let token = (λ (l : List ℕ). tokens.text l) in
    let given = between g.I.Input s c.advance.new.self (Some c.args.limits.scalar) c.args.first _ (short_quote false) token c.in-String.is c.requires.there c.advance.ensures (short-token (Some c.args.limits.scalar)) in
    let seen = c.in_err-next_short_text-in-String.ensures.gives (subst g.I.Input.observable (sym c.advance.ensures.device) h) in
    rw (handed-on c.from_residual-in_err-next_short_text-in-String.result fault c.from_residual-in_err-next_short_text-in-String.ensures)
    (text-refused fault c.next_short_text.new.text token s.place _ _ _ given (λ reason at e. rw (e, c.place-place.ensures) at seen))

pub returns-in_ok-next_short_text-in-QuotedSymbol-clause-gives : goal.returns-in_ok-next_short_text-in-QuotedSymbol-clause-gives
returns-in_ok-next_short_text-in-QuotedSymbol-clause-gives g c = λ h.
    let s = c.args.source.now in
    let token = (λ (l : List ℕ). tokens.name true (value.Text l)) in
    let given = between g.I.Input s c.advance-in-QuotedSymbol.new.self (Some c.args.limits.scalar) c.args.first _ symbol_quote token c.in-QuotedSymbol.is c.requires.there c.advance-in-QuotedSymbol.ensures (quoted-token (Some c.args.limits.scalar)) in
    let seen = c.in_ok-next_short_text-in-QuotedSymbol.ensures.gives (subst g.I.Input.observable (sym c.advance-in-QuotedSymbol.ensures.device) h) in
    (cursor g.I.Input c.next_short_text-in-QuotedSymbol.new.source, given ∙ ap (made token) seen, refl)

pub returns-in_err-next_short_text-in-QuotedSymbol-clause-gives : goal.returns-in_err-next_short_text-in-QuotedSymbol-clause-gives
returns-in_err-next_short_text-in-QuotedSymbol-clause-gives g c = λ h.
    let fault = c.in_err-next_short_text-in-QuotedSymbol.field-0.0 in
    let s = c.args.source.now in
    let token = (λ (l : List ℕ). tokens.name true (value.Text l)) in
    let given = between g.I.Input s c.advance-in-QuotedSymbol.new.self (Some c.args.limits.scalar) c.args.first _ symbol_quote token c.in-QuotedSymbol.is c.requires.there c.advance-in-QuotedSymbol.ensures (quoted-token (Some c.args.limits.scalar)) in
    let seen = c.in_err-next_short_text-in-QuotedSymbol.ensures.gives (subst g.I.Input.observable (sym c.advance-in-QuotedSymbol.ensures.device) h) in
    rw (handed-on c.from_residual-in_err-next_short_text-in-QuotedSymbol.result fault c.from_residual-in_err-next_short_text-in-QuotedSymbol.ensures)
    (text-refused fault c.next_short_text-in-QuotedSymbol.new.text token s.place _ _ _ given (λ reason at e. rw (e, c.place-place.ensures) at seen))

pub returns-in-Begin-clause-gives : goal.returns-in-Begin-clause-gives
unfolding token_of
returns-in-Begin-clause-gives g c = λ _.
    marked c.args.limits.scalar c.args.text.now c.args.source.now.place c.args.first _ _ _ c.pass.result _ _ c.in-Begin.is c.pass.ensures.same c.pass.ensures.cursor refl refl

pub returns-in-End-clause-gives : goal.returns-in-End-clause-gives
unfolding token_of
returns-in-End-clause-gives g c = λ _.
    marked c.args.limits.scalar c.args.text.now c.args.source.now.place c.args.first _ _ _ c.pass-in-End.result _ _ c.in-End.is c.pass-in-End.ensures.same c.pass-in-End.ensures.cursor refl refl

pub returns-in-Comma-clause-gives : goal.returns-in-Comma-clause-gives
unfolding token_of
returns-in-Comma-clause-gives g c = λ _.
    marked c.args.limits.scalar c.args.text.now c.args.source.now.place c.args.first _ _ _ c.pass-in-Comma.result _ _ c.in-Comma.is c.pass-in-Comma.ensures.same c.pass-in-Comma.ensures.cursor refl refl

pub returns-in-Colon-clause-gives : goal.returns-in-Colon-clause-gives
unfolding token_of
returns-in-Colon-clause-gives g c = λ _.
    marked c.args.limits.scalar c.args.text.now c.args.source.now.place c.args.first _ _ _ c.pass-in-Colon.result _ _ c.in-Colon.is c.pass-in-Colon.ensures.same c.pass-in-Colon.ensures.cursor refl refl

pub returns-in-Colons-clause-gives : goal.returns-in-Colons-clause-gives
unfolding token_of
returns-in-Colons-clause-gives g c = λ _.
    marked c.args.limits.scalar c.args.text.now c.args.source.now.place c.args.first _ _ _ c.pass-in-Colons.result _ _ c.in-Colons.is c.pass-in-Colons.ensures.same c.pass-in-Colons.ensures.cursor refl refl

pub returns-in-Nothing-clause-gives : goal.returns-in-Nothing-clause-gives
unfolding token_of
returns-in-Nothing-clause-gives g c = λ h.
    (ap (λ (f : First). token_of (Some c.args.limits.scalar) (first_of f) (cursor g.I.Input c.args.source.now)) c.in-Nothing.is, c.place-place.ensures)
