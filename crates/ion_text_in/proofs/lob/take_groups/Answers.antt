use Rattle.std.proofs.Common.{◌≡◌, ℕ, ◌+◌, ◌≤◌, ◌++◌, false, List, Some, length, take, refl, sym, ap, subst, ◌∙◌, arith}
use Rattle.std.proofs.lemmas.Grind.{common_steps}
use Rattle.std.proofs.lemmas.Bool.{le-ltb}
use Rattle.std.proofs.lemmas.List.{length-take-le}
use Rattle.ion_meter.specs.Windows.{left}
use Rattle.ion_meter.specs.Sources.{cursor}
use Rattle.ion_meter.proofs.Extending.{extends-not}
use Rattle.ion_text_in.specs.Limit.{passes}
use Rattle.ion_text_in.specs.Lobs.{with_groups_after, is_padded}
use Rattle.ion_text_in.proofs.Blobs.{length-encode_of}
use Rattle.ion_text_in.proofs.LobTurns.{block-of}
use Rattle.ion_text_in.proofs.Turns.{turn, turn-then}
use Rattle.ion_text_in.proofs.lob.take_groups.Goals as goal

pub consume-requires : goal.consume-requires
consume-requires g c = grind (arith, common_steps)

pub returns : goal.returns
returns g c =
    let n = c.in-Some.n in
    let d = c.in-Some.ensures in
    let fits : c.args.count ≤ length c.buffer.result.now = subst (λ (l : List ℕ). c.args.count ≤ length l) (sym c.buffer.ensures) c.requires.there in
    let chars = length-take-le c.args.count c.buffer.result.now fits in
    let long = length-take-le n c.decode.new.room d.within in
    let spelled = ap (λ (l : List ℕ). length l) d.some ∙ length-encode_of (take n c.decode.new.room) in
    let few : n ≤ c.args.count = omega (arith, chars, long, spelled) in
    record {
      gives = λ h.
          let s = c.args.source.now in
          let t = c.consume.new.self in
          let n = c.in-Some.n in
          let d = c.in-Some.ensures in
          let chars : List ℕ = take c.args.count c.buffer.result.now in
          let bytes : List ℕ = take n c.decode.new.room in
          let limit = c.args.limits.scalar in
          let text : List ℕ = c.args.text.now in
          let fits : c.args.count ≤ length c.buffer.result.now = subst (λ (l : List ℕ). c.args.count ≤ length l) (sym c.buffer.ensures) c.requires.there in
          let passed = turn g.I.Input s s t c.buffer.result.now c.args.count c.requires.can_gather.stands (extends-not g.I.Input s) c.requires.can_gather.stands.well (omega arith) c.buffer.ensures fits c.consume.ensures in
          let long = length-take-le n c.decode.new.room d.within in
          let held = ap (λ (l : List ℕ). length l) c.as_slice.ensures in
          let free : passes (Some limit) (length text + length bytes) ≡ false =
          le-ltb limit (length text + length bytes) (omega (arith, long, held, c.if-left-n.false, c.requires.can_gather.grows.share)) in
          turn-then g.I.Input s t chars (with_groups_after limit text false) (with_groups_after limit (text ++ bytes) (is_padded (length bytes))) passed h
          (block-of limit text s.place chars bytes (left g.I.Input.rest t) d.some d.octets free)
          ∙ ap (λ (k : ℕ). with_groups_after limit (text ++ bytes) (is_padded k) (cursor g.I.Input t)) long
          ∙ ap (λ (l : List ℕ). with_groups_after limit l (is_padded n) (cursor g.I.Input t)) (sym c.in_ok-extend.ensures.ok);
      none = λ e. absurd (cc e);
      plain = λ r p e. cc e;
      gathers = record { reads = grind (arith, common_steps); goes = grind (arith, common_steps) };
    }

pub returns-in_default : goal.returns-in_default
returns-in_default g c = record { gives = λ _. tt; none = λ _. (refl, refl, refl); plain = λ r p e. cc e; gathers = grind (arith, common_steps) }

pub returns-then-left-n : goal.returns-then-left-n
returns-then-left-n g c = record { gives = λ _. tt; none = λ _. (refl, refl, refl); plain = λ r p e. cc e; gathers = grind (arith, common_steps) }
