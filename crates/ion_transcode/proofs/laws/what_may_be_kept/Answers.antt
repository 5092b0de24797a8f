use Rattle.ion_transcode.proofs.KeptBytes.{declarations-may-be-kept, what-gives-none-may-be-kept, values-change-nothing-kept}
use Rattle.ion_transcode.proofs.laws.what_may_be_kept.Goals as goal

pub returns : goal.returns
returns c =
    record {
      declarations = declarations-may-be-kept c.declarations_leave_the_table.ensures c.users_hang_on_no_place.ensures.tables;
      nothing_given = what-gives-none-may-be-kept;
      values = values-change-nothing-kept c.whole_values_are_cut.ensures c.nothing_hangs_on_places.ensures.alone c.lines_are_cut.ensures.begun c.lines_are_cut.ensures.firm c.nothing_hangs_on_places-2.ensures.alone
          c.users_read_on.ensures c.users_hang_on_no_place.ensures.values c.values_keep_the_table.ensures;
    }
