-- Checking the codes that are left gives the answer for all.
use Rattle.std.proofs.Common.{◌≡◌}
use Rattle.std.specs.Slice.Iter.{chunks_exact_rest, chunks_exact_size}
use Rattle.output.specs.Output.{codes_known}
use Rattle.output.proofs.OutputRecord.check_few.Given as goal

abbrev pub invariant-loop-record : goal.invariant-loop-record
invariant-loop-record l = record { left : codes_known (chunks_exact_rest l.record-iterator) ≡ codes_known l.p; size : chunks_exact_size l.record-iterator ≡ 4 }
