use Rattle.std.proofs.Common.{sym, ◌∙◌, inl, inr}
use Rattle.std.proofs.lemmas.Bool.{false≢true}
use Rattle.ion_float.proofs.Ends.{passes}
use Rattle.ion_float.proofs.Reading.{is-positive}
use Rattle.ion_float.proofs.Search.{shortest_is, shortest_is_above}
use Rattle.ion_float.proofs.shortest.is_shortest_exactly.Goals as goal
use Rattle.ion_float.proofs.shortest.is_shortest_exactly.Goals.{then-not-reads_back-via-then-not-reads_back, then-not-reads_back-via-else-not-reads_back+then-not-is_last_row}

pub returns-then-not-reads_back : goal.returns-then-not-reads_back
returns-then-not-reads_back c = (
  λ t. absurd (false≢true t),
  λ e.
      let it = passes c.args.bits c.args.digits c.args.row c.requires.above_zero e in
      absurd (elim c.then-not-reads_back.branch [
        | then-not-reads_back-via-then-not-reads_back w ↦ false≢true (sym w.if-not-reads_back.true ∙ c.reads_back.ensures.1 it.read)
        | then-not-reads_back-via-else-not-reads_back+then-not-is_last_row w ↦ false≢true (sym w.if-not-is_last_row.true ∙ w.is_last_row.ensures.1 it.last)
      ]),
)

pub returns : goal.returns
returns c =
    let b = c.args.bits in
    let p = is-positive b c.requires.above_zero in
    let read = c.reads_back.ensures.0 c.if-not-reads_back.false in
    let none = c.is_last_row.ensures.0 c.if-not-is_last_row.false in (
      λ h. elim (c.is_taken.ensures.0 h) [
        | inl e ↦ sym (shortest_is b c.args.digits c.args.row c.ranges.bits.fits c.requires.sizes.1 p read none e)
        | inr w ↦ sym (shortest_is_above b c.args.digits c.args.row c.ranges.bits.fits c.requires.sizes.1 p read none w.1 w.0)
      ],
      λ e. c.is_taken.ensures.1 (passes b c.args.digits c.args.row c.requires.above_zero e).taken,
    )
