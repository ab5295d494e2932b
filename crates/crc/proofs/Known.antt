-- The definitions give the known values. Assumes nothing.
use Rattle.std.proofs.Common.{refl}
use Rattle.crc.specs.Crc.{crc_bit, crc_bits, crc_byte}
use Rattle.crc.specs.Known.{KnownValues}

pub known_values : KnownValues
unfolding crc_bit crc_bits crc_byte
known_values = (refl, refl, refl, refl, refl, refl)
