-- The bytes are put at the front of the part that starts at the offset, which has room for them: a slice's length is below the largest usize,
-- so the need is not capped where it fits.
use Rattle.std.proofs.Common.{rules, arith, ◌≡◌, ◌+◌, length}
use Rattle.payload_util.specs.Guards.{room}
use Rattle.payload_util.proofs.Guards.{passed, refused, room_capped}
use Rattle.lists.proofs.State.{placed, not_placed}
use Rattle.lists.proofs.put_at.Goals as goal
use Rattle.lists.proofs.put_at.Goals.{After-require_room}

fits : (c : After-require_room) → c.require_room.result ≡ room c.args.code (c.args.offset + length c.args.bytes.now) (length c.args.out.now)
fits c = room_capped _ _ _ (omega arith) c.require_room.ensures c.saturating_add.ensures

pub returns-in_err-require_room : goal.returns-in_err-require_room
returns-in_err-require_room c =
    let a = c.args in
    let roomless = refused (fits (goal.at.returns-in_err-require_room c).After-require_room) c.in_err-require_room.was in
    let e = not_placed a.code a.offset a.bytes.now a.out.now roomless in
    search rules

pub returns : goal.returns
returns c =
    let a = c.args in
    placed a.code a.offset a.bytes.now a.out.now _ _ (passed (fits (goal.at.returns c).After-require_room) c.in_ok-require_room.was) c.put_payload.ensures
