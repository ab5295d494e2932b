-- What the writer of frames counts fits in a signed number.
use Rattle.std.proofs.Common.{◌≡◌, ℕ, ◌≤◌, List, refl, sym, subst, arith}
use Rattle.payload_util.specs.Prelude.{Effect}
use Rattle.frame.specs.declared.Frame.{Frame}
use Rattle.frame.specs.Frame.{write_frame}
use Rattle.frame.proofs.Promises.{reads_back}
use Rattle.osdp.specs.ByCode.{longest}
use Rattle.osdp.specs.Signed.{Short}
use Rattle.std.specs.Prelude.{Ok, Err}
use Rattle.payload_util.specs.Refusals.{Outcome}
use Rattle.bench_read.proofs.frames.bench_write_frame.Goals as goal

counted : (w : Outcome ℕ) → ((n : ℕ) → w ≡ Ok n → n ≤ longest) → Short w
counted (Ok n) most = most n refl
counted (Err e) most = tt

short : (r : Frame) (p out : List ℕ) → Short (write_frame r p out).0
short r p out = counted (write_frame r p out).0 (λ n e. omega (arith, (reads_back r p out n e).2))

pub count_of-requires : goal.count_of-requires
count_of-requires c = subst (λ (x : Effect). Short x.0) (sym c.encode.ensures) (short _ c.args.p.now c.args.out.now)
