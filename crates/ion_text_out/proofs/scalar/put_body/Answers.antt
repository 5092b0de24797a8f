use Rattle.ion_text_out.proofs.Below.{arith, common_steps}
use Rattle.ion_text_out.proofs.scalar.put_body.Goals as goal

pub returns-in-Clob : goal.returns-in-Clob
returns-in-Clob g c = grind (arith, common_steps) steps 400000

pub returns-in-Bool : goal.returns-in-Bool
returns-in-Bool g c = grind (arith, common_steps)

pub returns-in-End : goal.returns-in-End
returns-in-End g c = grind (arith, common_steps)

pub returns-in-Begin : goal.returns-in-Begin
returns-in-Begin g c = grind (arith, common_steps)

pub returns-in-Symbol : goal.returns-in-Symbol
returns-in-Symbol g c = grind (arith, common_steps)

pub timestamp_to_text-requires : goal.timestamp_to_text-requires
timestamp_to_text-requires g c = grind (arith, common_steps)

pub returns-in-Null : goal.returns-in-Null
returns-in-Null g c = grind (arith, common_steps)

pub returns-in-Timestamp : goal.returns-in-Timestamp
returns-in-Timestamp g c = grind (arith, common_steps)

pub returns-in-String : goal.returns-in-String
returns-in-String g c = grind (arith, common_steps)

pub returns-in-Blob : goal.returns-in-Blob
returns-in-Blob g c = grind (arith, common_steps)

pub returns-in-Float : goal.returns-in-Float
returns-in-Float g c = grind (arith, common_steps)

pub returns-in-Decimal : goal.returns-in-Decimal
returns-in-Decimal g c = grind (arith, common_steps)

pub returns-in-Int : goal.returns-in-Int
returns-in-Int g c = grind (arith, common_steps)

pub decimal_to_text-requires : goal.decimal_to_text-requires
decimal_to_text-requires g c = grind (arith, common_steps)

pub int_to_text-requires : goal.int_to_text-requires
int_to_text-requires g c = grind (arith, common_steps)
