use Rattle.ion_text_in.proofs.TokenBegins.{identifiers-end, operators-end}
use Rattle.ion_text_in.proofs.RunCuts.{identifiers-are-cut, operators-are-cut}
use Rattle.ion_text_in.proofs.laws.what_ends_a_symbol.Goals as goal

pub returns : goal.returns
returns c = record {
  identifiers = identifiers-end;
  words_cut = identifiers-are-cut;
  operators = operators-end;
  operators_cut = operators-are-cut;
}
