use Rattle.std.proofs.Common.{◌≡◌, ℕ, ◌<◌, All, take, Option, IfSome, IfNone, None, subst, sym, slice_index, arith}
use Rattle.std.proofs.lemmas.Grind.{common_steps}
use Rattle.base64.specs.Engines.{standard}
use Rattle.base64.specs.GeneralPurpose.{encode_of, decoded_of}
use Rattle.ion_text_in.proofs.LobTurns.{decoded-encodes, decoded-octets, decoded-none}
use Rattle.ion_text_in.proofs.lob.decode.Goals as goal

pub returns-clause-some : goal.returns-clause-some
returns-clause-some c =
    let d = c.decode_slice_unchecked in
    subst (λ (o : Option ℕ). IfSome o (λ n. c.args.chars.now ≡ encode_of standard (take n d.new.output))) (sym c.ok.ensures.value)
    (decoded-encodes d.result c.args.chars.now c.args.room.now d.new.output (λ i. let b : slice_index c.args.chars.now i < 256 = omega (arith, c.type_inv.chars i) in b) d.ensures.ok)

pub returns-clause-octets : goal.returns-clause-octets
returns-clause-octets c =
    let d = c.decode_slice_unchecked in
    subst (λ (o : Option ℕ). IfSome o (λ n. All (λ octet. octet < 256) (take n d.new.output))) (sym c.ok.ensures.value)
    (decoded-octets d.result d.new.output (λ i. let b : slice_index d.new.output i < 256 = omega (arith, c.type_inv.room i) in b))

pub returns-clause-none : goal.returns-clause-none
returns-clause-none c =
    let d = c.decode_slice_unchecked in
    subst (λ (o : Option ℕ). IfNone o (decoded_of standard c.args.chars.now ≡ None)) (sym c.ok.ensures.value)
    (decoded-none d.result c.args.chars.now d.ensures.err)

pub invariant_of-decode_slice_unchecked-2 : goal.invariant_of-decode_slice_unchecked-2
invariant_of-decode_slice_unchecked-2 c = grind (arith, common_steps) steps 400000

pub returns-clause-within : goal.returns-clause-within
returns-clause-within c = grind (arith, common_steps) steps 400000
