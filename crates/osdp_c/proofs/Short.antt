-- How many bytes a frame has fits in a signed number of 32 bits.
-- Assumes nothing.
use mathlib.Core.Path.{◌≡◌, refl}
use mathlib.Core.List.{List}
use Prim.Native.Nat.{ℕ, ◌≤◌}
use native.Mathlib.Omega.{arith}
use Rattle.std.specs.Prelude.{Ok, Err}
use Rattle.payload_util.specs.Refusals.{Outcome}
use Rattle.frame.specs.declared.Frame.{Frame}
use Rattle.frame.specs.Frame.{longest, write_frame}
use Rattle.frame.proofs.Promises.{reads_back}
use Rattle.osdp.specs.Signed.{Short}

short : (w : Outcome ℕ) → ((n : ℕ) → w ≡ Ok n → n ≤ longest) → Short w
short (Ok n) h = omega (arith, h n refl)
short (Err e) h = tt

pub frame_short : (r : Frame) (p out : List ℕ) → Short (write_frame r p out).0
frame_short r p out = short (write_frame r p out).0 (λ n e. (reads_back r p out n e).2)
