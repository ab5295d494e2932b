-- The definitions give what each example says.
-- Assumes nothing.
use mathlib.Core.Path.{refl}
use Rattle.payload_util.specs.Guards.{at_least, declared_len, at_most, tail_len}
use Rattle.payload_util.specs.Examples.{KnownLengths}

pub known_lengths : KnownLengths
unfolding at_least declared_len at_most tail_len
known_lengths = (refl, refl, refl, refl, refl, refl, refl)
