-- So far the colours of the first `l.k` records are folded.
use Rattle.std.proofs.Common.{◌≡◌}
use Rattle.payload_util.specs.Loss.{keep, times}
use Rattle.led.specs.Led.{highest_color, led_limits}
use Rattle.led.proofs.LedRecord.fold_all.Given as goal

abbrev pub invariant-loop-k : goal.invariant-loop-k
invariant-loop-k l = l.p ≡ keep (times l.k (led_limits highest_color)) l.initial.p
