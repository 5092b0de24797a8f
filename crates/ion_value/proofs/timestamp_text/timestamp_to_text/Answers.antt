use Rattle.std.proofs.Common.{◌≡◌, ◌∙◌, ap, ◌++◌, arith}
use Rattle.std.proofs.lemmas.Grind.{common_steps}
use Rattle.ion_value.specs.declared.timestamp.Precision.TheVariants.{Year, Month, Day, Minute, Second, Fraction}
use Rattle.ion_value.specs.Timestamp.{second_text}
use Rattle.ion_value.proofs.TimestampText.{text-to, text-fraction}
use Rattle.ion_value.proofs.timestamp_text.timestamp_to_text.Goals as goal

pub returns-in-Year : goal.returns-in-Year
returns-in-Year c = text-to c.args.timestamp Year _ c.in-Year.is (grind (arith, common_steps))

pub returns-in-Month : goal.returns-in-Month
returns-in-Month c = text-to c.args.timestamp Month _ c.in-Month.is (grind (arith, common_steps))

pub returns-in-Day : goal.returns-in-Day
returns-in-Day c = text-to c.args.timestamp Day _ c.in-Day.is (grind (arith, common_steps))

pub returns-in-Minute : goal.returns-in-Minute
returns-in-Minute c = text-to c.args.timestamp Minute _ c.in-Minute.is (grind (arith, common_steps))

pub returns-in-Second : goal.returns-in-Second
returns-in-Second c = text-to c.args.timestamp Second _ c.in-Second.is (grind (arith, common_steps))

pub returns-in-Fraction : goal.returns-in-Fraction
returns-in-Fraction c =
    let second : c.push_second-in-Fraction.new.text.bytes ≡ second_text c.args.timestamp = c.push_second-in-Fraction.ensures.text ∙ ap (λ xs. xs ++ second_text c.args.timestamp) c.new-text.ensures in
    text-to c.args.timestamp (Fraction c.in-Fraction.count) _ c.in-Fraction.is
    (text-fraction c.args.timestamp c.in-Fraction.count _ _ _ _ second c.push_byte-in-Fraction.ensures.text c.push_fraction.ensures.text c.push_offset-in-Fraction.ensures)
