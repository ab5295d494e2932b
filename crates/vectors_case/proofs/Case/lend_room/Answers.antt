-- The room is the first bytes of the buffer that was filled up. What both answers say of it stands in each: the goals of a generic function have no
-- context in common that a lemma could name.
use Rattle.std.proofs.Common.{rules, ◌≡◌, ◌≤◌, length, replicate}
use Rattle.vectors_case.proofs.Writes.{lent_before, lent_after, lent_behind}
use Rattle.vectors_case.proofs.Case.lend_room.Goals as goal

pub returns-clause-called : goal.returns-clause-called
returns-clause-called g c =
    let s = c.fill_up.new.out in
    let new = c.call.new.arg2 in
    let a = c.args.self in
    let fits : a.room ≤ length s = search rules in
    let all : s ≡ replicate (length s) a.fill = search rules in
    let same : length new ≡ a.room = search rules in
    record { shown = _; shows = lent_before s new a.room a.fill all fits same; left = _; met = c.call.ensures; leaves = lent_after s new a.room a.fill all fits same }

pub returns-clause-behind : goal.returns-clause-behind
returns-clause-behind g c =
    let s = c.fill_up.new.out in
    let new = c.call.new.arg2 in
    let a = c.args.self in
    let fits : a.room ≤ length s = search rules in
    let all : s ≡ replicate (length s) a.fill = search rules in
    let same : length new ≡ a.room = search rules in
    lent_behind s new a.room a.fill all fits same
