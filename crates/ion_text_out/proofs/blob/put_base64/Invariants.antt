use Rattle.ion_text_out.proofs.Below.{◌≡◌, ◌≤◌, length, take, ◌-◌, ◌%◌, Ok, standard, encode_of, HasPut}
use Rattle.ion_text_out.proofs.blob.put_base64.Given as goal

abbrev pub invariant-pieces : goal.invariant-pieces
invariant-pieces g l = record {
  within : l.at ≤ length l.bytes;
  threes : l.at % 3 ≡ 0;
  puts : HasPut {T = Unit {0}} g.O.Output.written g.O.Output.observable g.O.Output.failure_count l.fn.sink l.sink (Ok _) (encode_of standard (take l.at l.bytes));
}

abbrev pub decreases-pieces : goal.decreases-pieces
decreases-pieces g l = length l.bytes - l.at
