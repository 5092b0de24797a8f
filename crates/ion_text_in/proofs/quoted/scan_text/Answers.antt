use Rattle.std.proofs.Common.{◌≡◌, ◌<◌, ◌∙◌, ◌||◌, Bool, true, false, length, take, refl, sym, arith}
use Rattle.std.proofs.lemmas.Grind.{common_steps}
use Rattle.std.proofs.lemmas.Bool.{false≢true}
use lib.Count.{count_trailing_zeros}
use Rattle.std.specs.Str.{is_utf8}
use Rattle.ion_text_in.specs.Quotes.{quote_of, mark_of}
use Rattle.ion_text_in.proofs.ScannedTexts.{ascii-shown, text-shown, text-bad, text-over, ends-unclosed, stops-unclosed}
use Rattle.ion_text_in.proofs.Suspects.{ascii-plain}
use Rattle.ion_text_in.proofs.Utf8.{is_utf8-test}
use Rattle.ion_text_in.proofs.quoted.scan_text.Goals.{then-is_long-via-then-is_long, then-is_long-via-else-is_long+then-plain-bytes, then-is_long-via-else-is_long+else-plain-bytes+then-bytes-plain, else-not-in_clob-via-then-not-in_clob+else-not-is_text, else-not-in_clob-via-else-not-in_clob}
use Rattle.ion_text_in.proofs.quoted.scan_text.Goals as goal

either : (a b : Bool) → b ≡ true → (a || b) ≡ true
either true b e = refl
either false b e = e

pub returns-then-is_long-clause-known : goal.returns-then-is_long-clause-known
returns-then-is_long-clause-known c = λ _ short.
    let mark = mark_of c.args.quote in
    let bytes = c.args.bytes.now in
    let n = c.plain_length-plain.result in
    record {
      count = n;
      plain = c.plain_length-plain.ensures.plain;
      ends = c.plain_length-plain.ensures.ends;
      unclosed = elim c.then-is_long.branch [
        | then-is_long-via-then-is_long w ↦ absurd (false≢true (sym short ∙ (sym c.is_long-2.ensures ∙ w.if-is_long.true)))
        | then-is_long-via-else-is_long+then-plain-bytes w ↦ ends-unclosed mark bytes n w.if-plain-bytes.true
        | then-is_long-via-else-is_long+else-plain-bytes+then-bytes-plain w ↦
            let there : n < length bytes = omega (arith, c.plain_length-plain.ensures.within, w.if-plain-bytes.false) in
            stops-unclosed mark bytes n there (λ e. w.if-bytes-plain.true (e ∙ sym w.mark-else-plain-bytes.ensures))
      ];
    }

pub returns-then-limit-plain-clause-shows : goal.returns-then-limit-plain-clause-shows
returns-then-limit-plain-clause-shows c = λ place more.
    text-over c.args.quote c.args.limit place c.plain_length-plain.result c.args.bytes.now more (sym c.is_long-2.ensures ∙ c.if-is_long.false) c.plain_length-plain.ensures.plain c.plain_length-plain.ensures.within
    c.if-limit-plain.true

pub returns-then-not-is_text-clause-shows : goal.returns-then-not-is_text-clause-shows
returns-then-not-is_text-clause-shows c = λ place more.
    let q = quote_of c.args.quote in
    let n = c.plain_length-plain.result in
    let there : n < length c.args.bytes.now = omega (arith, c.plain_length-plain.ensures.within, c.if-plain-bytes.false) in
    let test = is_utf8-test (take n c.args.bytes.now) c.is_text.result c.is_text.ensures in
    let clob : q.in_clob ≡ false = sym c.in_clob.ensures ∙ c.if-not-in_clob.true in
    let none : (q.in_clob || is_utf8 (take n c.args.bytes.now)) ≡ false = rw (clob, ← test) c.if-not-is_text.true in
    text-bad c.args.quote c.args.limit place n c.args.bytes.now more (sym c.is_long-2.ensures ∙ c.if-is_long.false) c.plain_length-plain.ensures.plain there (c.if-bytes-plain.false ∙ c.mark-else-plain-bytes.ensures) c.if-limit-plain.false none

pub returns-clause-shows : goal.returns-clause-shows
returns-clause-shows c =
    let q = quote_of c.args.quote in
    let n = c.plain_length-plain.result in
    let there : n < length c.args.bytes.now = omega (arith, c.plain_length-plain.ensures.within, c.if-plain-bytes.false) in
    let good : (q.in_clob || is_utf8 (take n c.args.bytes.now)) ≡ true = elim c.else-not-in_clob.branch [
      | else-not-in_clob-via-then-not-in_clob+else-not-is_text w ↦
          let test = is_utf8-test (take n c.args.bytes.now) w.is_text.result w.is_text.ensures in
          either q.in_clob (is_utf8 (take n c.args.bytes.now)) (sym test ∙ w.if-not-is_text.false)
      | else-not-in_clob-via-else-not-in_clob w ↦
          let clob : q.in_clob ≡ true = sym c.in_clob.ensures ∙ w.if-not-in_clob.false in
          rw clob refl
    ] in (
      omega (arith, there),
      λ place more. text-shown c.args.quote c.args.limit place n c.args.bytes.now more (sym c.is_long-2.ensures ∙ c.if-is_long.false) c.plain_length-plain.ensures.plain there
          (c.if-bytes-plain.false ∙ c.mark-else-plain-bytes.ensures) c.if-limit-plain.false good,
    )

pub returns-then-limit-plain-clause-known : goal.returns-then-limit-plain-clause-known
returns-then-limit-plain-clause-known c = grind (arith, common_steps) steps 400000

pub returns-then-not-is_text-clause-known : goal.returns-then-not-is_text-clause-known
returns-then-not-is_text-clause-known c = grind (arith, common_steps) steps 400000

pub returns-clause-known : goal.returns-clause-known
returns-clause-known c = grind (arith, common_steps) steps 400000

pub bounds-bytes-near : goal.bounds-bytes-near
bounds-bytes-near c = (ascii-plain c.args.quote c.args.bytes.now c.suspects-suspects.result (rw c.mark.ensures at c.suspects-suspects.ensures) (omega arith) c.if-suspects-ne0.true).0

pub returns-then-near-limit-clause-shows : goal.returns-then-near-limit-clause-shows
returns-then-near-limit-clause-shows c =
    let run = ascii-plain c.args.quote c.args.bytes.now c.suspects-suspects.result (rw c.mark.ensures at c.suspects-suspects.ensures) (omega arith) c.if-suspects-ne0.true in
    let n = count_trailing_zeros 64 c.suspects-suspects.result in (
      omega (arith, run.0),
      λ place more. ascii-shown c.args.quote c.args.limit place n c.args.bytes.now more (sym c.is_long.ensures ∙ c.if-not-is_long.true) run (c.if-bytes-near.true ∙ c.mark-then-suspects-ne0.ensures) c.if-near-limit.true,
    )
