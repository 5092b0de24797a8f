use Rattle.std.proofs.Common.{Bool, false, refl, ap}
use Rattle.ion_text_in.specs.Expecting.{expected_in}
use Rattle.ion_text_in.specs.Feeding.{expected_of}
use Rattle.ion_text_in.proofs.FeedItems.{is-member}
use Rattle.ion_text_in.proofs.FeedReading.{onward-separator}
use Rattle.ion_text_in.proofs.feed.spot.after_separator.Goals as goal

pub returns-clause-comma : goal.returns-clause-comma
returns-clause-comma c =
    let spot = c.args.at.now in
    record {
      onward = λ limits opened place inner.
          onward-separator limits opened spot.top place (expected_of spot) (expected_in false spot.kind) spot.rest.now c.args.rest.now c.after-at.result.now
          (ap (λ (b : Bool). expected_in b spot.kind) c.requires.separator) c.requires.passes c.requires.some c.requires.comma c.after-at.ensures (is-member opened spot.kind inner).0;
      expects = λ opened inner may. (is-member opened spot.kind inner).1;
      same = refl;
    }
