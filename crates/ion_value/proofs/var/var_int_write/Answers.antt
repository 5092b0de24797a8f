use Rattle.std.proofs.Common.{◌≡◌, ℕ, ◌+◌, ◌-◌, ◌*◌, ◌<◌, ◌≤◌, ◌^◌, length, arith}
use Rattle.ion_value.proofs.Fields.{digits-least, sign-small, magnitude-fits, VarInt-plus, VarInt-minus, var_int-lt}
use Rattle.ion_value.proofs.Octets.{Below-All}
use Rattle.ion_value.proofs.VarOctets.{var_int-spelled}
use Rattle.ion_value.proofs.var.var_int_write.Goals.{then-z, else-z}
use Rattle.ion_value.proofs.var.var_int_write.Goals as goal

pub overflow_add-z-2 : goal.overflow_add-z-2
overflow_add-z-2 c =
    let small = sign-small c.octet_count-count.result c.octet_count-count.ensures.short in
    elim c.if-z.branch [
      | then-z w ↦ omega (arith, w.sign-is, w.sign_bit-sign.ensures)
      | else-z w ↦ omega (arith, w.sign-is)
    ]

pub returns-clause-value : goal.returns-clause-value
returns-clause-value c =
    let z = c.args.z in
    let b = c.octets.result.items in
    let k = c.octet_count-count.result in
    let len : length b ≡ k = c.octets.ensures.len in
    let short : length b ≤ 9 = omega arith in
    elim c.if-z.branch [
      | then-z w ↦ VarInt-minus z b w.if-z.true short c.octets.ensures.ends (rw len (omega (arith, w.sign-is, w.sign_bit-sign.ensures)))
      | else-z w ↦
          let small : z.magnitude < 64 * 128 ^ (k - 1) = magnitude-fits z.magnitude k c.octet_count-count.ensures.some c.octet_count-count.ensures.enough in
          VarInt-plus z b w.if-z.false short c.octets.ensures.ends (rw len small) (omega (arith, w.sign-is))
    ]

pub returns-clause-shortest : goal.returns-clause-shortest
returns-clause-shortest c =
    λ b other.
    let n : ℕ = 2 * c.args.z.magnitude + 1 in
    let small : n < 128 ^ length b = omega (arith, other.magnitude, var_int-lt b other.ends) in
    rw c.octets.ensures.len (digits-least 128 c.octet_count-count.result (length b) n (omega arith) c.octet_count-count.ensures.least small)

pub returns-clause-spelled : goal.returns-clause-spelled
returns-clause-spelled c =
    let b = c.octets.result.items in
    var_int-spelled c.args.z b (returns-clause-value c) (Below-All 256 b c.octets.ensures.octets) (returns-clause-shortest c) c.requires
