use Rattle.ion_transcode.proofs.StretchesTaken.{stretches-are-taken, refused-stretches-stand}
use Rattle.ion_transcode.proofs.RefusedBehind.{refusals-come-behind}
use Rattle.ion_transcode.proofs.laws.stretches_of_parts.Goals as goal

pub returns : goal.returns
returns c =
    record {
      taken = stretches-are-taken c.what_is_accepted_leaves_a_table.ensures c.what_may_be_kept.ensures.values c.values_keep_the_table.ensures c.whole_values_are_cut.ensures
          c.nothing_hangs_on_places.ensures.alone c.lines_are_cut.ensures.begun c.lines_are_cut.ensures.firm c.nothing_hangs_on_places-2.ensures.alone c.users_read_on.ensures c.users_hang_on_no_place.ensures.values;
      refused = refused-stretches-stand c.streams_are_read.ensures c.one_verdict.ensures c.whole_values_are_cut.ensures
          c.nothing_hangs_on_places.ensures.alone c.lines_are_cut.ensures.begun c.lines_are_cut.ensures.firm c.nothing_hangs_on_places-2.ensures.alone c.users_read_on.ensures c.users_hang_on_no_place.ensures.values;
      behind = refusals-come-behind c.streams_are_read.ensures c.one_verdict.ensures c.whole_values_are_cut.ensures
          c.nothing_hangs_on_places.ensures.alone c.lines_are_cut.ensures.begun c.lines_are_cut.ensures.firm c.nothing_hangs_on_places-2.ensures.alone c.users_read_on.ensures c.users_hang_on_no_place.ensures.values;
    }
