-- `sum` meets its contract: `fold` adds each byte. Assumes nothing.
use Rattle.std.proofs.Common.{rules, ◌+◌, ◌%◌, ◌∙◌, arith}
use Rattle.std.proofs.lemmas.Iterator.{YieldsList-from_slice}
use Rattle.std.proofs.lemmas.Iterator.Consumers.{fold_from_yields_List}
use Rattle.crc.proofs.Laws.{sum_wraps}
use Rattle.crc.proofs.sum.Goals as goal

pub returns : goal.returns
returns c =
    let s = c.args.bytes.now in
    fold_from_yields_List _ (λ a b. (a + b) % 256) c.args.start c.fold.result c.fold.ensures.ran (YieldsList-from_slice s cc) (λ a x b q k. search rules)
    ∙ sum_wraps s c.args.start (omega (arith, c.ranges.start.fits))
