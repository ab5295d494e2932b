-- So far the first `l.k` records are written.
use Rattle.std.proofs.Common.{◌≡◌}
use Rattle.lists.proofs.State.{state}
use Rattle.lists.proofs.ListRecord.encode.Given as goal

abbrev pub invariant-loop-k : goal.invariant-loop-k
invariant-loop-k g l = l.out ≡ state g.Self.ListRecord.list_row.bytes g.Self.ListRecord.list_row.width l.records l.initial.out l.k
