-- What we write, we read; and each kind accepts a payload.
-- Assumes nothing.
use mathlib.Core.Path.{◌∙◌}
use Rattle.payload_util.proofs.Scheme.{accepts, written_passes, written_reads}
use Rattle.osdp.specs.Kinds.{form}
use Rattle.osdp.specs.Promises.{Accepting, WrittenIsRead}
use Rattle.osdp.proofs.Laws.{law, uncut, sample, sample_passes}
use Rattle.osdp.proofs.OwnCodes.{own_codes}

pub written_is_read : WrittenIsRead
written_is_read k r b w =
    let passes = written_passes (form k) (law k) r b w in (
      accepts (form k) (law k) b passes,
      (λ short. ((own_codes.0 k).2 b b short).0 ∙ passes),
      (λ nak. written_reads (form k) (law k) r b w (uncut k b nak)),
    )

pub accepting : Accepting
accepting k = (sample k, accepts (form k) (law k) (sample k) (sample_passes k))
