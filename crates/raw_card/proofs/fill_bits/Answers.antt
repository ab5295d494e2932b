use Rattle.std.proofs.Common.{◌≡◌, ◌+◌, ◌*◌, ◌<◌, length, arith}
use Rattle.raw_card.proofs.Filled.{filled_more}
use Rattle.raw_card.proofs.Bits.{length_all, bit_at}
use Rattle.raw_card.proofs.fill_bits.Goals as goal

pub loop-k-preserved : goal.loop-k-preserved
loop-k-preserved c =
    let bits = c.args.bits.now in
    let i = c.bytes.i in
    let l = c.loop-k in
    let room : 8 * i + l.k < length l.out = omega arith in
    let next : 8 * i + (l.k + 1) ≡ 8 * i + l.k + 1 = omega arith in
    let more = filled_more _ _ l.invariant.filled (omega (arith, length_all bits)) room (bit_at bits i l.k c.bytes-test.true c.loop-k-test.true) in
    record { within = omega (arith, more.long, l.invariant.filled.long); filled = rw next more }
