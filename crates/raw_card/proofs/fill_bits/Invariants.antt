-- The buffer holds the bits that were written.
use Rattle.std.proofs.Common.{◌+◌, ◌*◌, ◌≤◌, length}
use Rattle.raw_card.proofs.Filled.{Filled}
use Rattle.raw_card.specs.Raw.{all_bits}
use Rattle.raw_card.proofs.fill_bits.Given as goal

abbrev pub invariant-bytes : goal.invariant-bytes
invariant-bytes l = record { within : 8 * l.i ≤ length l.out; filled : Filled (all_bits l.bits) l.fn.out (8 * l.i) l.out }

abbrev pub invariant-loop-k : goal.invariant-loop-k
invariant-loop-k l = record { within : 8 * l.i + l.k ≤ length l.out; filled : Filled (all_bits l.bits) l.fn.out (8 * l.i + l.k) l.out }
