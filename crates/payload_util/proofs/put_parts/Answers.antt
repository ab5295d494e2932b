use Rattle.std.proofs.Common.{rules, ◌++◌, ◌≡◌, ◌+◌, length, arith, ◌∙◌, length-append}
use Rattle.std.proofs.Math.Nat.{min-eq_left}
use Rattle.payload_util.specs.Guards.{room}
use Rattle.payload_util.proofs.Guards.{passed, refused, room_pass, room_capped}
use Rattle.payload_util.proofs.Parts.{three_parts, put_refused}
use Rattle.payload_util.proofs.put_parts.Goals as goal
use Rattle.payload_util.proofs.put_parts.Goals.{After-require_room}

-- what the test of the room answers, of the sum that does not wrap
fits : (c : After-require_room)
    → c.require_room.result ≡ room c.args.code (length c.args.head.now + length c.args.body.now + length c.args.tail.now) (length c.args.out.now)
fits c = room_capped _ _ _ (omega arith) c.require_room.ensures c.saturating_add-needed.ensures

pub returns-in_err-require_room : goal.returns-in_err-require_room
returns-in_err-require_room c =
    let e = refused (fits (goal.at.returns-in_err-require_room c).After-require_room) c.in_err-require_room.was in
    let l = length-append (c.args.head.now ++ c.args.body.now) c.args.tail.now in
    let k = length-append c.args.head.now c.args.body.now in
    let p = put_refused c.args.code ((c.args.head.now ++ c.args.body.now) ++ c.args.tail.now) c.args.out.now (omega (arith, l, k)) e in
    search rules

pub returns : goal.returns
returns c =
    let a = c.args in
    let pass = passed (fits (goal.at.returns c).After-require_room) c.in_ok-require_room.was in
    let need : c.saturating_add-needed.result ≡ length a.head.now + length a.body.now + length a.tail.now =
    c.saturating_add-needed.ensures ∙ min-eq_left (omega (arith, room_pass _ _ _ pass)) in
    three_parts a.code _ a.head.now a.body.now a.tail.now a.out.now _ _ _ need (rw need pass)
    c.copy_at.ensures c.copy_at-2.ensures c.copy_at-3.ensures
