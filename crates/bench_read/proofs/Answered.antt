-- What is below half a signed width is not negative as a signed number. Assumes nothing.
use Rattle.std.proofs.Common.{ℕ, ◌^◌, ◌<◌, w32, to_z}
use mir.Val.{hbits}
use mir.Facts.{to_z_pos}
use Rattle.bench_read.specs.Answer.{NotNegative}

pub not_negative : {n : ℕ} → n < 2 ^ hbits w32 → NotNegative (to_z w32 n)
not_negative {n} low = (n, to_z_pos w32 low)
