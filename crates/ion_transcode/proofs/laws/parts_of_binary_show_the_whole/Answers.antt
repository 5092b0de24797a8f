use Rattle.ion_transcode.proofs.BinaryParts.{parts-of-binary-show-the-whole}
use Rattle.ion_transcode.proofs.laws.parts_of_binary_show_the_whole.Goals as goal

pub returns : goal.returns
returns c =
    parts-of-binary-show-the-whole c.streams_are_read.ensures c.one_verdict.ensures c.what_is_accepted_is_read.ensures c.users_are_read.ensures c.whole_values_are_cut.ensures
    c.nothing_hangs_on_places.ensures.alone c.lines_are_cut.ensures.begun c.lines_are_cut.ensures.firm c.nothing_hangs_on_places-2.ensures.alone c.users_read_on.ensures c.users_hang_on_no_place.ensures.values c.binary_streams_join.ensures
    c.written_binary_is_accepted.ensures
