-- The need does not fit a usize.
use Rattle.std.proofs.Common.{arith, ◌*◌}
use Rattle.payload_util.proofs.Guards.{passed}
use Rattle.lists.specs.List.{list_answer}
use Rattle.lists.proofs.Sizes.{too_large}
use Rattle.lists.proofs.list_answer.Goals as goal

pub returns-in_default : goal.returns-in_default
unfolding list_answer
returns-in_default c =
    let a = c.args in
    let some = rw c.new.ensures at (passed c.require.ensures c.in_ok-require.was) in
    let large = too_large a.code (a.n * a.size) a.given (omega arith) (omega (arith, c.in_default.ensures)) in
    simp (c.with_values.ensures, some, large)
