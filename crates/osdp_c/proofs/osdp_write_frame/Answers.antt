-- `osdp_write_frame` meets its contract: how many bytes were written fits in the answer. Assumes nothing.
use Rattle.std.proofs.Common.{ap}
use Rattle.payload_util.specs.Writing.{Effect}
use Rattle.osdp_c.proofs.Short.{frame_short}
use Rattle.osdp_c.proofs.osdp_write_frame.Goals as goal

pub count_of-requires : goal.count_of-requires
count_of-requires c = rw (ap (λ (e : Effect). e.0) c.encode.ensures) (frame_short _ _ _)
