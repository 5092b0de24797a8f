-- What a lane over a reader's window makes of the reader.
use Rattle.std.proofs.Common.{◌≡◌, ℕ, ◌+◌, ◌-◌, ◌≤◌, List, [], ◌++◌, length, reverse, take, drop, Option, None, refl, sym, ap, subst, ◌∙◌, arith}
use Rattle.std.proofs.lemmas.List.{drop-append-le, drop-take, length-drop}
use Rattle.ion_meter.specs.Counts.{Counts}
use Rattle.ion_meter.specs.declared.device.Input.{Ghosts as InputOf}
use Rattle.ion_meter.specs.declared.fault.Fault.{Fault}
use Rattle.ion_meter.specs.declared.profile.Rules.{Rules}
use Rattle.ion_meter.specs.Sources.{cursor, Stands}
use Rattle.ion_meter.specs.Windows.{Incoming, Outgoing, left, lent, lent_by, IsPassed}
use Rattle.ion_meter.proofs.Lent.{lent-CanPass, IsPassed-left}
use Rattle.ion_value.specs.declared.writer.ValueWriter.{Ghosts as WriterOf}
use Rattle.ion_value.specs.Feeding.{Feeds, Joint}
use Rattle.ion_value.specs.Items.{named_item}
use Rattle.ion_value.specs.Reading.{Reading}
use Rattle.ion_value.proofs.Handing.{feeds-under}
use Rattle.ion_text_in.specs.declared.reader.TextReader.{TextReader}
use Rattle.ion_text_in.specs.declared.feed.spot.Bounds.{Bounds}
use Rattle.ion_text_in.specs.declared.feed.spot.Spot.{Spot}
use Rattle.ion_text_in.specs.Expecting.{kind_in, wanted}
use Rattle.ion_text_in.specs.Feeding.{bounds_of, expected_of, joint, lane, reader_lane, state, window_end, IsAfter, Lane, MovedBy, MovedFor, PassedLent}
use Rattle.ion_text_in.specs.Steps.{later, opened_in, state_after, to_come_by, unless_unfinished}
use Rattle.ion_text_in.proofs.Shown.{after_lent, lent-left}

-- ---- what a window lends after bytes that were passed over

lent_by-passed : (most n : ℕ) (bytes : List ℕ) → n ≤ most → take (most - n) (drop n bytes) ≡ drop n (take most bytes)
lent_by-passed most n bytes le =
    let all : n + (most - n) ≡ most = omega (arith, le) in
    sym (drop-take n (most - n) bytes) ∙ ap (λ (k : ℕ). drop n (take k bytes)) all

pub lent-passed : {I : Type 0} (s t : Incoming I) (n : ℕ) → s.fault ≡ None → n ≤ length (lent s) → IsPassed s t n → lent t ≡ drop n (lent s)
lent-passed s t n well fits passed =
    let can = lent-CanPass s n fits in
    let rest : t.limit - t.place ≡ (s.limit - s.place) - n = omega (arith, passed.limit, passed.place) in
    ap (λ (f : Option Fault). lent_by f (t.limit - t.place) t.buffered) (passed.fault ∙ well)
    ∙ (ap (λ (k : ℕ). take k t.buffered) rest
    ∙ (ap (λ (l : List ℕ). take ((s.limit - s.place) - n) l) passed.buffered
    ∙ (lent_by-passed (s.limit - s.place) n s.buffered can.1
    ∙ ap (λ (f : Option Fault). drop n (lent_by f (s.limit - s.place) s.buffered)) (sym well))))

after-count : (bytes rest : List ℕ) → IsAfter bytes rest → rest ≡ drop (length bytes - length rest) bytes
after-count bytes rest b =
    let long = length-drop b.count bytes in
    let same = ap (λ (l : List ℕ). length l) b.same in
    let within = b.within in
    let count : b.count ≡ length bytes - length rest = omega (arith, long, same, within) in
    b.same ∙ ap (λ (k : ℕ). drop k bytes) count

module _ {W O A : Type 0} (w : WriterOf W O A) where
  -- the lane over a window, and the bytes that it moved over being passed over
  pub moved-window : {sees : (ℕ → Option (List ℕ)) → Type 0} {I : Type 0} (s t : Incoming I) (bounds : Bounds) (l n : Lane W O) → Stands s → l.rest ≡ lent s → MovedFor w bounds sees l n → IsPassed s t (length l.rest - length n.rest)
      → MovedFor w bounds sees (record l { rest = lent s }) (record n { rest = lent t })
  moved-window {sees} s t bounds l n stands bytes moved passed =
      let count : ℕ = length l.rest - length n.rest in
      let fewer = moved.fewer in
      let long = ap (λ (x : List ℕ). length x) bytes in
      let rest : n.rest ≡ lent t =
      after-count l.rest n.rest moved.part ∙ (ap (λ (x : List ℕ). drop count x) bytes ∙ sym (lent-passed s t count stands.well (omega (arith, fewer, long)) passed)) in
      subst (λ (x : List ℕ). MovedFor w bounds sees (record l { rest = lent s }) (record n { rest = x })) rest
      (subst (λ (x : List ℕ). MovedFor w bounds sees (record l { rest = x }) n) bytes moved)

-- a lane as the code has it, over what the window of a reader lends
pub lane-of : {I A W O : Type 0} (r : TextReader I A) (spot : Spot) (values : ℕ) (writer : W) (sink : Outgoing O) (m : Counts) → spot.rest.now ≡ lent r.source → spot.top ≡ r.top → spot.values ≡ values
    → expected_of spot ≡ r.expected → kind_in (reverse r.kinds) ≡ spot.kind → lane r.kinds spot writer sink m ≡ reader_lane r values writer sink m
lane-of r spot values writer sink m rest top counts expected kind = rw (rest, top, counts, expected, sym kind) refl

-- ---- what is to come of the reader

-- between two items, with what stands after the window
came : {I A : Type 0} (device : InputOf I) (r : TextReader I A) (limits : Rules) (more : List ℕ) (place : ℕ) → r.limits ≡ limits → r.unfinished ≡ None → left device.rest r.source ≡ lent r.source ++ more → r.source.place ≡ place
    → later limits (state (opened_in r) r.top (wanted r.expected None []) place (lent r.source ++ more)) ≡ to_come_by device r
came device r limits more place same finished all here =
    sym (ap (λ (u : Option ℕ). unless_unfinished u (later r.limits (state_after (cursor device r.source) r))) finished
    ∙ (ap (λ (l : Rules). later l (state_after (cursor device r.source) r)) same
    ∙ (ap (λ (x : List ℕ). later limits (state (opened_in r) r.top (wanted r.expected None []) r.source.place x)) all
    ∙ ap (λ (p : ℕ). later limits (state (opened_in r) r.top (wanted r.expected None []) p (lent r.source ++ more))) here)))

module _ {W O A I B : Type 0} (w : WriterOf W O A) (device : InputOf I) where
  pub feeds-reader : (r n : TextReader I B) (texts : ℕ → Option (List ℕ)) (reads : Type 0) (values : ℕ) (writer next : W) (sink after : Outgoing O) (m k : Counts)
      → r.unfinished ≡ None → n.unfinished ≡ None → n.limits ≡ r.limits → PassedLent r.source n.source → Stands r.source
      → MovedBy w (bounds_of r) texts (reader_lane r 0 writer sink m) (reader_lane n values next after k)
      → Feeds w (named_item texts) reads
      (record { coming = to_come_by device r; opened = opened_in r; writer = writer; pending = sink.pending; values = 0 })
      (record { coming = to_come_by device n; opened = opened_in n; writer = next; pending = after.pending; values = values })
  feeds-reader r n texts reads values writer next sink after m k finished still same passed stands moved =
      let s = r.source in
      let t = n.source in
      let more : List ℕ = after_lent s.fault (s.limit - s.place) s.buffered ++ device.rest s.device in
      let end : ℕ = window_end s in
      let within = passed.within in
      let can = lent-CanPass s passed.count within in
      let all = lent-left device.rest s in
      let rest : lent t ≡ drop passed.count (lent s) = lent-passed s t passed.count stands.well within passed.passed in
      let after_all : left device.rest t ≡ lent t ++ more =
      IsPassed-left device.rest s t passed.count can.0 passed.passed
      ∙ (ap (λ (l : List ℕ). drop passed.count l) all ∙ (drop-append-le passed.count (lent s) more within ∙ ap (λ (l : List ℕ). l ++ more) (sym rest))) in
      let long = length-drop passed.count (lent s) in
      let longer = ap (λ (l : List ℕ). length l) rest in
      let here : s.place ≡ end - length (lent s) = omega arith in
      let there : t.place ≡ end - length (lent t) = omega (arith, passed.passed.place, longer, long, within) in
      let a = came device r r.limits more (end - length (lent s)) refl finished all here in
      let b = came device n r.limits more (end - length (lent t)) same still after_all there in
      let new : Joint W = record { coming = to_come_by device n; opened = opened_in n; writer = next; pending = after.pending; values = values } in
      subst (λ (c : Reading). Feeds w (named_item texts) reads (record { coming = c; opened = opened_in r; writer = writer; pending = sink.pending; values = 0 }) new) a
      (subst (λ (c : Reading). Feeds w (named_item texts) reads (joint (bounds_of r) more (reader_lane r 0 writer sink m)) (record { coming = c; opened = opened_in n; writer = next; pending = after.pending; values = values })) b
      (feeds-under w (λ _. tt) (moved.feeds texts refl more)))
