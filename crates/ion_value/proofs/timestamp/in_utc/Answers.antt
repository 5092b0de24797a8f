use Rattle.std.proofs.Common.{◌≡◌, refl, ap, ◌∙◌, get_or}
use Rattle.ion_value.specs.declared.timestamp.Precision.{Precision}
use Rattle.ion_value.specs.Timestamp.{fields, second_precision}
use Rattle.ion_value.specs.TimestampFields.{if_moment}
use Rattle.ion_value.proofs.TimestampOctets.{tells-year, tells-month, tells-day, tells-minute, tells-second}
use Rattle.ion_value.proofs.timestamp.in_utc.Goals as goal

pub returns-in-len1 : goal.returns-in-len1
returns-in-len1 c =
    let ns = c.args.numbers.now in
    tells-year ns c.args.digits c.args.fraction c.moment.result c.in-len1.len_at_least c.in-len1.len_below (c.moment.ensures (get_or ns 0 0) 1 1 0 0 0 refl)

pub returns-in-len2 : goal.returns-in-len2
returns-in-len2 c =
    let ns = c.args.numbers.now in
    tells-month ns c.args.digits c.args.fraction c.moment-in-len2.result c.in-len2.len_at_least c.in-len2.len_below (c.moment-in-len2.ensures (get_or ns 0 0) (get_or ns 1 0) 1 0 0 0 refl)

pub returns-in-len3 : goal.returns-in-len3
returns-in-len3 c =
    let ns = c.args.numbers.now in
    tells-day ns c.args.digits c.args.fraction c.moment-in-len3.result c.in-len3.len_at_least c.in-len3.len_below
    (c.moment-in-len3.ensures (get_or ns 0 0) (get_or ns 1 0) (get_or ns 2 0) 0 0 0 refl)

pub returns-in-len5 : goal.returns-in-len5
returns-in-len5 c =
    let ns = c.args.numbers.now in
    tells-minute ns c.args.digits c.args.fraction c.moment-in-len5.result c.in-len5.len_at_least c.in-len5.len_below
    (c.moment-in-len5.ensures (get_or ns 0 0) (get_or ns 1 0) (get_or ns 2 0) (get_or ns 3 0) (get_or ns 4 0) 0 refl)

pub returns-in-len6 : goal.returns-in-len6
returns-in-len6 c =
    let ns = c.args.numbers.now in
    let precision : c.to_digits.result ≡ second_precision c.args.digits = c.to_digits.ensures in
    let given = c.moment-in-len6.ensures (get_or ns 0 0) (get_or ns 1 0) (get_or ns 2 0) (get_or ns 3 0) (get_or ns 4 0) (get_or ns 5 0) refl in
    tells-second ns c.args.digits c.args.fraction c.moment-in-len6.result c.in-len6.len_at_least c.in-len6.len_below (
    given
    ∙ ap (λ (p : Precision). if_moment (fields p (get_or ns 0 0) (get_or ns 1 0) (get_or ns 2 0) (get_or ns 3 0) (get_or ns 4 0) (get_or ns 5 0) c.args.fraction)) precision
    )
