-- The definitions give what each example says.
-- Assumes nothing.
use mathlib.Core.Path.{refl}
use Rattle.payload_util.specs.Refusals.{in_order}
use Rattle.payload_util.specs.Loss.{within_limits}
use Rattle.led.specs.Examples.{KnownColors}

pub known_colors : KnownColors
unfolding within_limits in_order
known_colors = (refl, refl, refl, refl, refl)
