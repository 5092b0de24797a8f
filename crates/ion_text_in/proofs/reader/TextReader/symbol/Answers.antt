use Rattle.std.proofs.Common.{◌≡◌, ◌∙◌, true, false, List, ℕ, None, length, refl, sym, ap, arith}
use Rattle.std.specs.Str.{bytes_eq}
use Rattle.ion_value.specs.Name.{version_word}
use Rattle.ion_meter.specs.declared.fault.Reason.TheVariants.{BadVersion}
use Rattle.ion_meter.specs.Sources.{cursor, skip}
use Rattle.ion_text_in.specs.Symbols.{kept_text}
use Rattle.ion_text_in.specs.Token.{name}
use Rattle.ion_text_in.specs.Tokens.{as_symbol}
use Rattle.ion_text_in.specs.Steps.{taking, with_colons, without_colons}
use Rattle.ion_text_in.proofs.ReaderCalls.{steps-ahead, steps-more, steps-refused, steps-same}
use Rattle.ion_text_in.proofs.ReaderSteps.{marker-may, symbol-alone, symbol-marker, symbol-noted, symbol-refused, symbol-value}
use Rattle.ion_text_in.proofs.reader.TextReader.symbol.Goals as goal

pub returns-then-is_colons : goal.returns-then-is_colons
returns-then-is_colons g c =
    let r = c.args.self.now in
    let t = c.next_ahead.new.source in
    let a = c.in_ok-ahead.ahead in
    let e = c.in_ok-ahead.ensures in
    let q = record r { source = t } in
    steps-ahead g.I.Input c.annotate.result r c.annotate.new.self t c.args.meter.now c.annotate.new.meter a None (taking r c.args.place (name c.args.quoted (as_symbol r.text c.args.symbol)))
    (λ _. with_colons q c.args.symbol c.args.place (skip 2 (cursor g.I.Input t))) (length (kept_text r.text c.args.symbol)) c.requires.can_step e.reads
    (λ h d blank. (cursor g.I.Input t, (refl, symbol-noted g.I.Input r c.args.symbol c.args.quoted c.args.place t c.in_sexp-in_sexp.result a d c.requires.value c.in_sexp-in_sexp.ensures (e.ahead h) e.wide (c.is_colons.ensures.some c.if-is_colons.true) blank)))
    (λ _. c.annotate.ensures)

pub returns-then-not-tells_version : goal.returns-then-not-tells_version
returns-then-not-tells_version g c =
    let r = c.args.self.now in
    let t = c.next_ahead.new.source in
    let a = c.in_ok-ahead.ahead in
    let e = c.in_ok-ahead.ensures in
    let q = record r { source = t } in
    let m = c.args.meter.now in
    let told = sym c.tells_version.ensures ∙ c.if-not-tells_version.true in
    steps-ahead g.I.Input _ r _ t m m a a.unfinished (taking r c.args.place (name c.args.quoted (as_symbol r.text c.args.symbol)))
    (without_colons q c.args.symbol c.args.quoted c.args.place) (length (kept_text r.text c.args.symbol)) c.requires.can_step e.reads
    (λ h d blank. (d, symbol-alone g.I.Input r c.args.symbol c.args.quoted c.args.place t c.in_sexp-in_sexp.result a d c.requires.value c.in_sexp-in_sexp.ensures (e.ahead h) (c.is_colons.ensures.none c.if-is_colons.false) blank))
    (λ can. steps-more g.I.Input _ q _ m m a.unfinished (without_colons q c.args.symbol c.args.quoted c.args.place) 0 (length (kept_text r.text c.args.symbol)) (omega arith)
    (steps-same g.I.Input _ q _ m m a.unfinished _ _ 0 (λ d. symbol-value q c.args.symbol c.args.quoted c.args.place d told) (c.give.ensures m can c.requires.value tt)))

pub returns-then-not-is_version_word : goal.returns-then-not-is_version_word
returns-then-not-is_version_word g c =
    let r = c.args.self.now in
    let t = c.next_ahead.new.source in
    let a = c.in_ok-ahead.ahead in
    let e = c.in_ok-ahead.ensures in
    let q = record r { source = t } in
    let m = c.args.meter.now in
    let told = sym c.tells_version.ensures ∙ c.if-not-tells_version.false in
    let word : bytes_eq version_word r.text ≡ false = ap (λ (l : List ℕ). bytes_eq version_word l) (sym c.as_slice.ensures) ∙ (sym c.is_version_word.ensures ∙ c.if-not-is_version_word.true) in
    steps-ahead g.I.Input _ r _ t m m a a.unfinished (taking r c.args.place (name c.args.quoted (as_symbol r.text c.args.symbol)))
    (without_colons q c.args.symbol c.args.quoted c.args.place) (length (kept_text r.text c.args.symbol)) c.requires.can_step e.reads
    (λ h d blank. (d, symbol-alone g.I.Input r c.args.symbol c.args.quoted c.args.place t c.in_sexp-in_sexp.result a d c.requires.value c.in_sexp-in_sexp.ensures (e.ahead h) (c.is_colons.ensures.none c.if-is_colons.false) blank))
    (λ can. steps-more g.I.Input _ q _ m m a.unfinished (without_colons q c.args.symbol c.args.quoted c.args.place) 0 (length (kept_text r.text c.args.symbol)) (omega arith)
    (steps-refused g.I.Input q m a.unfinished _ 0 BadVersion c.args.place can.sized can.held (λ d. symbol-refused q c.args.symbol c.args.quoted c.args.place d told word)))

pub returns : goal.returns
returns g c =
    let r = c.args.self.now in
    let t = c.next_ahead.new.source in
    let a = c.in_ok-ahead.ahead in
    let e = c.in_ok-ahead.ensures in
    let q = record r { source = t } in
    let m = c.args.meter.now in
    let told = sym c.tells_version.ensures ∙ c.if-not-tells_version.false in
    let word : bytes_eq version_word r.text ≡ true = ap (λ (l : List ℕ). bytes_eq version_word l) (sym c.as_slice.ensures) ∙ (sym c.is_version_word.ensures ∙ c.if-not-is_version_word.false) in
    steps-ahead g.I.Input _ r _ t m m a a.unfinished (taking r c.args.place (name c.args.quoted (as_symbol r.text c.args.symbol)))
    (without_colons q c.args.symbol c.args.quoted c.args.place) (length (kept_text r.text c.args.symbol)) c.requires.can_step e.reads
    (λ h d blank. (d, symbol-alone g.I.Input r c.args.symbol c.args.quoted c.args.place t c.in_sexp-in_sexp.result a d c.requires.value c.in_sexp-in_sexp.ensures (e.ahead h) (c.is_colons.ensures.none c.if-is_colons.false) blank))
    (λ can. steps-more g.I.Input _ q _ m m a.unfinished (without_colons q c.args.symbol c.args.quoted c.args.place) 0 (length (kept_text r.text c.args.symbol)) (omega arith)
    (steps-same g.I.Input _ q _ m m a.unfinished _ _ 0 (λ d. symbol-marker q c.args.symbol c.args.quoted c.args.place d told word) (c.give-2.ensures m can c.requires.value (marker-may q c.args.symbol c.args.quoted told))))
