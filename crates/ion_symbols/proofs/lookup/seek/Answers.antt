use Rattle.std.proofs.Common.{◌≡◌, ◌-◌, [], length, get_or, refl, ap, sym, subst, ◌∙◌, arith}
use Rattle.ion_symbols.specs.OutTexts.{AreKept, firsts, link_of, texts_of}
use Rattle.ion_symbols.proofs.Positions.{compared_same, compared_other}
use Rattle.ion_symbols.proofs.Seeking.{Seeking, seek_first, seek_empty, seek_found, seek_on, seek_none, seek_free, seek_end}
use Rattle.ion_symbols.proofs.lookup.seek.Goals as goal

pub returns-then-at-eq0-clause-seeks : goal.returns-then-at-eq0-clause-seeks
returns-then-at-eq0-clause-seeks g c =
    seek_empty c.args.probe.now.kept.now c.args.text.now c.args.hash c.bucket.result c.requires.kept c.requires.linked c.requires.hash c.bucket.ensures.of
    (sym c.front-at.ensures.front ∙ omega (arith, c.if-at-eq0.true))

pub loop-left-init : goal.loop-left-init
loop-left-init g c = record {
  kept = refl;
  seeks =
      subst (λ at. Seeking c.args.probe.now.kept.now c.args.text.now at 32 c.digits-digits.result) (sym c.front-at.ensures.front)
      (seek_first c.args.probe.now.kept.now c.args.text.now c.args.hash c.bucket.result c.digits-digits.result c.requires.kept c.requires.linked c.requires.hash
      c.bucket.ensures.of c.bucket.ensures.within (omega (arith, c.if-at-eq0.false, c.front-at.ensures.front)) c.digits-digits.ensures);
  probes = refl;
}

-- ---- a text is compared

pub is_same-requires-clause-kept : goal.is_same-requires-clause-kept
is_same-requires-clause-kept g c = subst (λ k. AreKept k) (sym c.loop-left.invariant.kept) c.requires.kept

pub is_same-requires-clause-within : goal.is_same-requires-clause-within
is_same-requires-clause-within g c =
    let i = c.loop-left.invariant in omega (arith, i.seeks.some, i.seeks.within, ap (λ k. length (texts_of k)) i.kept)

pub is_same-requires-clause-countable : goal.is_same-requires-clause-countable
is_same-requires-clause-countable g c = omega (arith, c.loop-left.invariant.probes, c.requires.few)

pub returns-then-is_same-clause-seeks : goal.returns-then-is_same-clause-seeks
returns-then-is_same-clause-seeks g c =
    let i = c.loop-left.invariant in
    seek_found c.args.probe.now.kept.now c.args.text.now (c.loop-left.at - 1) c.requires.kept (omega (arith, i.seeks.some, i.seeks.within))
    (compared_same (get_or (texts_of c.loop-left.probe.kept.now) (c.loop-left.at - 1) []) c.args.text.now _ c.is_same.result (ap (λ k. get_or (texts_of k) (c.loop-left.at - 1) []) i.kept) c.is_same.ensures.same c.if-is_same.true)

pub returns-then-is_same-clause-probes : goal.returns-then-is_same-clause-probes
returns-then-is_same-clause-probes g c = omega (arith, ap (λ p. p.probes) c.is_same.ensures.counted, c.loop-left.invariant.probes, c.loop-left-test.true)

-- ---- it is another

pub link-next-requires-clause-kept : goal.link-next-requires-clause-kept
link-next-requires-clause-kept g c = subst (λ k. AreKept k) (sym (ap (λ p. p.kept.now) c.is_same.ensures.counted ∙ c.loop-left.invariant.kept)) c.requires.kept

pub link-next-requires-clause-linked : goal.link-next-requires-clause-linked
link-next-requires-clause-linked g c = ap (λ k. k.is_ordered) (ap (λ p. p.kept.now) c.is_same.ensures.counted ∙ c.loop-left.invariant.kept) ∙ c.requires.linked

pub link-next-requires-clause-within : goal.link-next-requires-clause-within
link-next-requires-clause-within g c =
    let i = c.loop-left.invariant in
    omega (arith, i.seeks.some, i.seeks.within, ap (λ k. length (texts_of k)) (ap (λ p. p.kept.now) c.is_same.ensures.counted ∙ i.kept))

pub returns-then-left-eq1-clause-seeks : goal.returns-then-left-eq1-clause-seeks
returns-then-left-eq1-clause-seeks g c =
    let i = c.loop-left.invariant in
    let same = ap (λ p. p.kept.now) c.is_same.ensures.counted ∙ i.kept in
    seek_none c.args.probe.now.kept.now c.args.text.now c.loop-left.at c.loop-left.left c.loop-left.digits i.seeks c.loop-left-test.true
    (compared_other (get_or (texts_of c.loop-left.probe.kept.now) (c.loop-left.at - 1) []) c.args.text.now _ c.is_same.result (ap (λ k. get_or (texts_of k) (c.loop-left.at - 1) []) i.kept) c.is_same.ensures.same c.if-is_same.false)
    (ap (λ k. link_of (firsts k.places.items) k.ids.items (c.loop-left.at - 1) c.loop-left.digits) (sym same) ∙ omega (arith, c.link-next.ensures.link, c.if-next-eq0.true))

pub returns-then-left-eq1-clause-probes : goal.returns-then-left-eq1-clause-probes
returns-then-left-eq1-clause-probes g c = omega (arith, ap (λ p. p.probes) c.is_same.ensures.counted, c.loop-left.invariant.probes, c.loop-left-test.true)

pub returns-then-next-eq0-clause-seeks : goal.returns-then-next-eq0-clause-seeks
returns-then-next-eq0-clause-seeks g c =
    let i = c.loop-left.invariant in
    let same = ap (λ p. p.kept.now) c.is_same.ensures.counted ∙ i.kept in
    let other : get_or (texts_of c.args.probe.now.kept.now) (c.loop-left.at - 1) [] ≡ c.args.text.now → ⊥
    = compared_other (get_or (texts_of c.loop-left.probe.kept.now) (c.loop-left.at - 1) []) c.args.text.now _ c.is_same.result (ap (λ k. get_or (texts_of k) (c.loop-left.at - 1) []) i.kept) c.is_same.ensures.same c.if-is_same.false in
    let none : link_of (firsts c.args.probe.now.kept.now.places.items) c.args.probe.now.kept.now.ids.items (c.loop-left.at - 1) c.loop-left.digits ≡ 0
    = ap (λ k. link_of (firsts k.places.items) k.ids.items (c.loop-left.at - 1) c.loop-left.digits) (sym same) ∙ omega (arith, c.link-next.ensures.link, c.if-next-eq0.true) in (
      seek_none c.args.probe.now.kept.now c.args.text.now c.loop-left.at c.loop-left.left c.loop-left.digits i.seeks c.loop-left-test.true other none,
      seek_free c.args.probe.now.kept.now c.args.text.now c.loop-left.at c.loop-left.left c.loop-left.digits i.seeks c.requires.linked (omega (arith, c.loop-left-test.true, c.if-left-eq1.false)) none,
    )

pub returns-then-next-eq0-clause-probes : goal.returns-then-next-eq0-clause-probes
returns-then-next-eq0-clause-probes g c = omega (arith, ap (λ p. p.probes) c.is_same.ensures.counted, c.loop-left.invariant.probes, c.loop-left-test.true)

pub loop-left-preserved : goal.loop-left-preserved
loop-left-preserved g c =
    let i = c.loop-left.invariant in
    let same = ap (λ p. p.kept.now) c.is_same.ensures.counted ∙ i.kept in
    record {
      kept = same;
      seeks =
          seek_on c.args.probe.now.kept.now c.args.text.now c.loop-left.at c.loop-left.left c.loop-left.digits c.link-next.result i.seeks c.loop-left-test.true
          (compared_other (get_or (texts_of c.loop-left.probe.kept.now) (c.loop-left.at - 1) []) c.args.text.now _ c.is_same.result (ap (λ k. get_or (texts_of k) (c.loop-left.at - 1) []) i.kept) c.is_same.ensures.same c.if-is_same.false)
          (c.link-next.ensures.link ∙ ap (λ k. link_of (firsts k.places.items) k.ids.items (c.loop-left.at - 1) c.loop-left.digits) same) (omega (arith, c.if-next-eq0.false))
          (omega (arith, c.link-next.ensures.within, ap (λ k. length (texts_of k)) same));
      probes = omega (arith, ap (λ p. p.probes) c.is_same.ensures.counted, i.probes, c.loop-left-test.true);
    }

pub returns-clause-seeks : goal.returns-clause-seeks
returns-clause-seeks g c =
    seek_end c.args.probe.now.kept.now c.args.text.now c.loop-left.at c.loop-left.left c.loop-left.digits c.loop-left.invariant.seeks (omega (arith, c.loop-left-test.false))

pub returns-clause-probes : goal.returns-clause-probes
returns-clause-probes g c = omega (arith, c.loop-left.invariant.probes)
