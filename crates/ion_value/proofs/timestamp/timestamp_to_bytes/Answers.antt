use Rattle.std.proofs.Common.{arith, ◌≡◌, Ok, sym, ◌∙◌}
use Rattle.ion_value.specs.Timestamp.{utc_of, timestamp_body}
use Rattle.ion_value.proofs.TimestampBodies.{utc-moment, body-whole, body-fraction, body-octets}
use Rattle.ion_value.proofs.timestamp.timestamp_to_bytes.Goals.{After-with_fraction, In_default}
use Rattle.std.proofs.lemmas.Grind.{common_steps}
use Rattle.ion_value.proofs.timestamp.timestamp_to_bytes.Goals as goal

fraction : (c : After-with_fraction) → c.with_fraction.result.items ≡ timestamp_body c.args.timestamp
fraction c =
    let t = c.args.timestamp in
    let u = c.unwrap-utc.result in
    let utc : utc_of t ≡ Ok u = sym c.to_utc.ensures.utc ∙ c.unwrap-utc.ensures in
    let moment = utc-moment t u c.requires.moment c.requires.offset utc in
    c.with_fraction.ensures ∙ rw c.whole_body-body.ensures.body (body-fraction t u c.in-Fraction.digits utc moment c.in-Fraction.is)

pub returns-in-Fraction-clause-body : goal.returns-in-Fraction-clause-body
returns-in-Fraction-clause-body c = fraction c

pub returns-in-Fraction-clause-octets : goal.returns-in-Fraction-clause-octets
returns-in-Fraction-clause-octets c = rw (fraction c) (body-octets c.args.timestamp)

whole : (c : In_default) → c.whole_body-body.result.items ≡ timestamp_body c.args.timestamp
whole c =
    let t = c.args.timestamp in
    let u = c.unwrap-utc.result in
    let utc : utc_of t ≡ Ok u = sym c.to_utc.ensures.utc ∙ c.unwrap-utc.ensures in
    let moment = utc-moment t u c.requires.moment c.requires.offset utc in
    c.whole_body-body.ensures.body ∙ body-whole t u utc moment c.in_default.not-Fraction

pub returns-in_default : goal.returns-in_default
returns-in_default c = record { body = whole c; octets = rw (whole c) (body-octets c.args.timestamp) }

pub whole_body-body-requires-clause-moment : goal.whole_body-body-requires-clause-moment
whole_body-body-requires-clause-moment c = grind (arith, common_steps)
