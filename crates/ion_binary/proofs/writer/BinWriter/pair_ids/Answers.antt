use Rattle.ion_binary.proofs.Below.{rules, ◌≡◌, List, ℕ, ap, ◌∙◌, var_uint_octets}
use Rattle.ion_binary.proofs.PlainAdded.{pair-known, pair-octets}
use Rattle.ion_binary.proofs.writer.BinWriter.pair_ids.Goals as goal

pub returns-clause-known : goal.returns-clause-known
returns-clause-known g c place =
    let texts : List (List ℕ) = c.args.self.now.symbols.texts in
    let second = c.in-Some-known-2 in
    pair-known texts c.args.item.now.annotation c.in-Some.at c.args.second.now c.in-Some-known.first second.other place c.in-Some.is c.in-Some-known.ensures second.ensures

pub returns-clause-octets : goal.returns-clause-octets
returns-clause-octets g c place =
    let texts : List (List ℕ) = c.args.self.now.symbols.texts in
    let second = c.in-Some-known-2 in
    let one : c.from.result ≡ c.in-Some-known.first = search rules in
    let two : c.from-2.result ≡ second.other = search rules in
    c.joined.ensures
    ∙ pair-octets texts c.args.item.now.annotation c.in-Some.at c.args.second.now c.in-Some-known.first second.other place c.in-Some.is c.in-Some-known.ensures second.ensures
    c.as_slice.result.now c.as_slice-2.result.now (c.as_slice.ensures.value ∙ (c.var_uint_write-one.ensures.spelled ∙ ap var_uint_octets one))
    (c.as_slice-2.ensures.value ∙ (c.var_uint_write-two.ensures.spelled ∙ ap var_uint_octets two))
