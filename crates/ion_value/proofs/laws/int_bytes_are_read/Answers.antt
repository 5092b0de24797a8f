use Rattle.std.proofs.Common.{◌≡◌, ℕ, List, Ok, arith}
use Rattle.std.proofs.lemmas.Bool.Decides.{nat_tests}
use Rattle.ion_value.specs.declared.int.Int.{Int}
use Rattle.ion_value.specs.Number.{uint, uint_octets}
use Rattle.ion_value.specs.Int.{IsInt, int_of_bytes}
use Rattle.ion_value.proofs.Octets.{digits_in-Digits}
use Rattle.ion_value.proofs.laws.int_bytes_are_read.Goals as goal

int_of_bytes-uint : (i : Int) (b : List ℕ) → IsInt i → uint b ≡ i.magnitude → int_of_bytes i.negative b ≡ Ok i
int_of_bytes-uint i b is value = rw value (grind (arith, nat_tests))

pub returns : goal.returns
returns c = λ i is. int_of_bytes-uint i (uint_octets i.magnitude) is (digits_in-Digits 256 i.magnitude (omega arith)).value
