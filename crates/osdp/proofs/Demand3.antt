-- R1.3, over all twenty kinds.
-- Assumes nothing.
use Rattle.payload_util.proofs.Scheme.{loses_only}
use Rattle.osdp.specs.Kinds.{form}
use Rattle.osdp.specs.Promises.{Demand3}
use Rattle.osdp.proofs.Laws.{law}

pub demand3 : Demand3
demand3 k = loses_only (form k) (law k)
