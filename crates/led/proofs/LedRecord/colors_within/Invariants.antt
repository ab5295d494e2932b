-- Checking the records that are left gives the answer for all.
use Rattle.std.proofs.Common.{◌≡◌, ◌-◌, ◌/◌, length}
use Rattle.payload_util.specs.Refusals.{in_order}
use Rattle.led.specs.Led.{record_within}
use Rattle.led.proofs.LedRecord.colors_within.Given as goal

abbrev pub invariant-loop-k : goal.invariant-loop-k
invariant-loop-k l =
    in_order (record_within l.row l.highest l.p) l.k (length l.p / 14 - l.k) ≡ in_order (record_within l.row l.highest l.p) 0 (length l.p / 14)
