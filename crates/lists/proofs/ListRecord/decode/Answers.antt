-- The index is below the count.
use Rattle.std.proofs.Common.{arith, ◌≤◌, ◌+◌, ◌*◌, length, sym}
use Rattle.payload_util.proofs.Guards.{passed, present_pass}
use Rattle.lists.proofs.Sizes.{record_ends}
use Rattle.lists.proofs.ListRecord.decode.Goals as goal
use Rattle.lists.proofs.ListRecord.decode.Goals.{In_ok-require_present}
use Rattle.lists.proofs.ListRecord.decode.Given.{Over}

ends : (g : Over) (c : In_ok-require_present g) → g.Self.ListRecord.list_row.width * c.args.index + g.Self.ListRecord.list_row.width ≤ length c.args.p.now
ends g c =
    record_ends g.Self.ListRecord.list_row.width c.args.index (length c.args.p.now)
    (rw c.count.ensures at (present_pass _ _ _ (passed c.require_present.ensures c.in_ok-require_present.was)))

pub overflow_mul-WIRE_LEN : goal.overflow_mul-WIRE_LEN
overflow_mul-WIRE_LEN g c = rw (c.WIRE_LEN.ensures, sym g.met.Self.ListRecord.same_width) (omega (arith, ends g (goal.at.overflow_mul-WIRE_LEN g c).In_ok-require_present))
