-- One record more is folded.
use Rattle.std.proofs.Common.{arith, ◌≡◌, ◌+◌, ◌*◌, ◌-◌}
use Rattle.led.proofs.Folded.{next_folded}
use Rattle.led.proofs.LedRecord.fold_all.Goals as goal

pub loop-k-preserved : goal.loop-k-preserved
loop-k-preserved c =
    let width : c.loop-k.k * 14 + 14 - c.loop-k.k * 14 ≡ 14 = omega arith in
    next_folded c.args.p.now c.loop-k.p _ c.loop-k.k _ width c.loop-k.invariant c.fold.ensures
