use Rattle.payload_util.proofs.Guards.{passed}
use Rattle.payload_util.proofs.Parts.{two_parts}
use Rattle.payload_util.proofs.put_bytes.Goals as goal

pub returns : goal.returns
returns c =
    let a = c.args in
    two_parts a.code a.head.now a.tail.now a.out.now _ _
    (passed c.require_room.ensures c.in_ok-require_room.was)
    c.copy_at.ensures c.copy_at-2.ensures
