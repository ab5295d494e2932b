-- The bits that are still to do give the byte's result.
use Rattle.std.proofs.Common.{◌≡◌, ◌-◌}
use Rattle.crc.specs.Crc.{crc_bits, crc_byte}
use Rattle.crc.proofs.crc_byte.Given as goal

abbrev pub invariant-loop : goal.invariant-loop
invariant-loop l = crc_bits (8 - l.counter) l.r ≡ crc_byte l.c l.b
