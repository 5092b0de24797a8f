use Rattle.std.proofs.Common.{◌≡◌, Err, sym, ap, ◌∙◌}
use Rattle.ion_value.specs.TimestampFields.{first_field}
use Rattle.ion_value.specs.Timestamp.{timestamp_of_bytes}
use Rattle.ion_value.proofs.TimestampOctets.{bytes-read, bytes-bad_offset, bytes-bad_number, bytes-bad_exponent, bytes-reading}
use Rattle.ion_value.proofs.timestamp.timestamp_from_bytes.Goals.{After-from_parts}
use Rattle.ion_value.proofs.timestamp.timestamp_from_bytes.Goals as goal

pub returns-in-Err-clause-read : goal.returns-in-Err-clause-read
returns-in-Err-clause-read c =
    let bad = c.in-Err.ensures.refused in
    ap Err bad.0 ∙ sym (bytes-bad_offset c.args.body.now bad.1)

pub returns-in-Err-number_fields-clause-read : goal.returns-in-Err-number_fields-clause-read
returns-in-Err-number_fields-clause-read c =
    let first = c.in-Ok.ensures.read in
    let bad = c.in-Err-number_fields.ensures.refused in
    ap Err bad.0 ∙ sym (bytes-bad_number c.args.body.now c.in-Ok.read.1.now first.0 first.1 bad.1)

pub returns-in-Err-signed_field-clause-read : goal.returns-in-Err-signed_field-clause-read
returns-in-Err-signed_field-clause-read c =
    let first = c.in-Ok.ensures.read in
    let second = c.in-Ok-number_fields.ensures.read in
    let bad = c.in-Err-signed_field.ensures.refused in
    ap Err bad.0 ∙ sym (bytes-bad_exponent c.args.body.now c.in-Ok.read.1.now c.in-Ok-number_fields.read.1.now first.0 second.0 first.1 second.1 bad.1)

read : (c : After-from_parts) → c.from_parts.result ≡ timestamp_of_bytes c.args.body.now
read c =
    let first = c.in-Ok.ensures.read in
    let second = c.in-Ok-number_fields.ensures.read in
    let third = c.in-Ok-signed_field.ensures.read in
    c.from_parts.ensures (first_field first.0) (first_field third.0) first.2 third.2
    ∙ rw c.as_slice.ensures.value (rw second.2 (sym (bytes-read c.args.body.now c.in-Ok.read.1.now c.in-Ok-number_fields.read.1.now c.in-Ok-signed_field.read.1.now first.0 second.0 third.0 first.1 second.1 third.1)))

pub returns-clause-read : goal.returns-clause-read
returns-clause-read c = read c

pub returns-clause-valid : goal.returns-clause-valid
returns-clause-valid c = (bytes-reading c.args.body.now c.from_parts.result (read c)).0

pub returns-clause-refused : goal.returns-clause-refused
returns-clause-refused c = (bytes-reading c.args.body.now c.from_parts.result (read c)).1
