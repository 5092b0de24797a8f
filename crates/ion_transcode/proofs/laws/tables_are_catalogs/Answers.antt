use Rattle.ion_transcode.proofs.TableStreams.{tables_are_catalogs}
use Rattle.ion_transcode.proofs.laws.tables_are_catalogs.Goals as goal

pub returns : goal.returns
returns c = tables_are_catalogs c.one_spelling.ensures c.users_are_read.ensures c.catalogs_are_read.ensures c.catalogs_are_tables.ensures
