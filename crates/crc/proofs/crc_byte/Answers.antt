-- The bits that are still to do give the byte's result. Assumes nothing.
use Rattle.std.proofs.Common.{◌≡◌, ℕ, suc, ◌+◌, ◌-◌, ◌*◌, ◌%◌, ap, arith}
use Rattle.std.specs.Prelude.{bit_xor}
use Rattle.crc.specs.Crc.{crc_bits, crc_byte}
use Rattle.crc.proofs.crc_byte.Goals as goal

pub loop-init : goal.loop-init
unfolding crc_byte
loop-init c =
    let e : c.args.b * 256 % 65536 ≡ c.args.b * 256 = omega arith in
    ap (λ (x : ℕ). crc_bits 8 (bit_xor c.args.c x)) e

pub loop-preserved : goal.loop-preserved
unfolding crc_bits
loop-preserved c =
    let e : 8 - c.loop.counter ≡ suc (8 - (c.loop.counter + 1)) = omega arith in
    rw c.crc_bit-r.ensures (rw e at c.loop.invariant)

pub returns : goal.returns
unfolding crc_bits
returns c =
    let z : 8 - c.loop.counter ≡ 0 = omega arith in
    rw z at c.loop.invariant
