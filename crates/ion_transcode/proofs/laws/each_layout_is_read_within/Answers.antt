use Rattle.ion_transcode.proofs.TextOfValuesIsRead.{each-text-is-read-within}
use Rattle.ion_transcode.proofs.laws.each_layout_is_read_within.Goals as goal

pub returns : goal.returns
returns c = each-text-is-read-within (record {
  numbers_end = c.what_ends_a_number.ensures.ends;
  identifiers_end = c.what_ends_a_symbol.ensures.identifiers;
  begins = c.what_begins_a_token.ensures.computed;
  nulls = c.null_text_is_read.ensures;
  bools = c.bool_text_is_read.ensures;
  ints = c.int_text_is_read.ensures;
  decimals = c.decimal_text_is_read.ensures;
  floats = c.float_text_is_read.ensures;
  timestamps = c.timestamp_text_is_read.ensures;
  strings = c.string_text_is_read.ensures;
  quoted_symbols = c.quoted_symbol_is_read.ensures;
  plain_symbols = c.plain_symbol_is_read.ensures;
  ids = c.id_is_read.ensures.words;
  clobs = c.clob_text_is_read.ensures;
  blobs = c.base64_is_read.ensures;
}) c.what_is_within_limits_is_read.ensures.streams
