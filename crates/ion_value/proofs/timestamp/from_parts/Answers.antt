use Rattle.std.proofs.Common.{sym, ◌∙◌}
use Rattle.std.proofs.lemmas.Bool.{false≢true}
use Rattle.ion_value.specs.TimestampFields.{utc_of_numbers}
use Rattle.ion_value.proofs.TimestampOctets.{if_moment-some, parts-unfit, parts-no_moment, parts-moment}
use Rattle.ion_value.proofs.timestamp.from_parts.Goals as goal

pub returns-then-not-is_fraction : goal.returns-then-not-is_fraction
returns-then-not-is_fraction c =
    λ o e _ exponent.
    let read = c.in-Some.ensures.read in
    parts-unfit o c.args.numbers.now e c.args.coefficient.now c.digits_after_point-digits.result c.in-Some.negative c.in-Some.fraction (record {
      digits_read = c.digits_after_point-digits.ensures e exponent;
      few = c.if-digits-le38.true;
      negative_read = read.0;
      fraction_read = read.1;
      in_range = λ large. false≢true (sym (c.in-Some.ensures.range.1 large));
    }) c.if-not-is_fraction.ensures

pub in_local_time-requires : goal.in_local_time-requires
in_local_time-requires c =
    if_moment-some (utc_of_numbers c.args.numbers.now _ _) c.in-Some-in_utc.utc (sym c.in-Some-in_utc.ensures)

pub returns-in-Some-in_utc : goal.returns-in-Some-in_utc
returns-in-Some-in_utc c =
    λ o e offset exponent.
    let read = c.in-Some.ensures.read in
    c.in_local_time.ensures o offset
    ∙ parts-moment o c.args.numbers.now e c.args.coefficient.now c.digits_after_point-digits.result c.in-Some.negative c.in-Some.fraction c.in-Some-in_utc.utc (record {
      digits_read = c.digits_after_point-digits.ensures e exponent;
      few = c.if-digits-le38.true;
      negative_read = read.0;
      fraction_read = read.1;
      in_range = λ large. false≢true (sym (c.in-Some.ensures.range.1 large));
    }) c.if-not-is_fraction.ensures c.in-Some-in_utc.ensures

pub returns-in-None : goal.returns-in-None
returns-in-None c =
    λ o e offset exponent.
    let read = c.in-Some.ensures.read in
    parts-no_moment o c.args.numbers.now e c.args.coefficient.now c.digits_after_point-digits.result c.in-Some.negative c.in-Some.fraction (record {
      digits_read = c.digits_after_point-digits.ensures e exponent;
      few = c.if-digits-le38.true;
      negative_read = read.0;
      fraction_read = read.1;
      in_range = λ large. false≢true (sym (c.in-Some.ensures.range.1 large));
    }) c.if-not-is_fraction.ensures c.in-None.ensures
