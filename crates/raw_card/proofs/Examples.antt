-- The definitions give what each example says.
-- Assumes nothing.
use mathlib.Core.Path.{refl}
use Rattle.payload_util.specs.Guards.{at_least, declared_len}
use Rattle.raw_card.specs.Examples.{KnownCounts}

pub known_counts : KnownCounts
unfolding at_least declared_len
known_counts = (refl, refl, refl, refl, refl, refl, refl, refl, refl)
