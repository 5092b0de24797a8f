use Rattle.std.proofs.Common.{[]}
use Rattle.ion_meter.specs.Rules.{strict}
use Rattle.ion_transcode.specs.Forms.{form_of}
use Rattle.ion_transcode.proofs.laws.catalogs_are_text.Goals as goal

pub returns : goal.returns
returns c limits bytes tables small is =
    let users = c.values_of_streams.ensures strict (form_of bytes) [] bytes is.tops is.values small tt is.spelled is.users_are in
    c.tables_of_users_are_text.ensures is.values tables users.0 is.tables_are
