use Rattle.std.proofs.Common.{◌≡◌, ℕ, Bool, true, false, not, nat_lt, get_or, ◌==◌, ◌&&◌, ◌||◌, refl, arith}
use Rattle.std.proofs.lemmas.Bool.{agree_below_at, not-false}
use Rattle.ion_value.specs.Name.{is_identifier_start}
use Rattle.ion_text_in.specs.declared.run.TheConstants.{CLASSES}
use Rattle.std.proofs.lemmas.List.{take_rest}
use Rattle.ion_text_in.proofs.word.begun_word.Goals as goal

tells : ℕ → Bool
tells b = not (nat_lt 2 (get_or CLASSES b 0)) || (is_identifier_start b && not (b == 36))

split : (x y z : Bool) → (not x || (y && not z)) ≡ true → x ≡ true → (y ≡ true) × (z ≡ false)
split true true false e h = (refl, refl)
split true true true e h = absurd (cc e)
split true false z e h = absurd (cc e)
split false y z e h = absurd (cc h)

pub returns : goal.returns
unfolding tells
returns c =
    let first = get_or c.args.bytes.now 0 0 in
    let extent = rw (take_rest c.args.bytes.now 1) at c.word_run-extent.ensures in
    let ended = not-false _ c.if-not-extent.false in
    let begins = split (nat_lt 2 (get_or CLASSES first 0)) (is_identifier_start first) (first == 36) (agree_below_at tells (λ _. true) 256 first refl (omega (arith, c.type_inv.bytes 0))) (grind (arith, c.if-first-lt3.false)) in
    record {
      others = c.word_run-extent.result.len;
      count = refl;
      some = c.in-len1-up.len_at_least;
      within = extent.after ended;
      ends = extent.ends ended;
      begins = begins.0;
      no_dollar = begins.1;
      fits = c.if-limit-count.false;
    }
