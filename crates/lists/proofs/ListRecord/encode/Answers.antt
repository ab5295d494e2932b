-- The answer is known before the first record is written.
use Rattle.std.proofs.Common.{rules, arith, ◌≡◌, ◌∙◌, ◌≤◌, ◌*◌, length, sym}
use Rattle.std.proofs.Math.Nat.{mul-le-mul_right}
use Rattle.lists.specs.List.{list_answer}
use Rattle.lists.proofs.State.{state_start, turn, refused_is, records_fit, written_is}
use Rattle.lists.proofs.ListRecord.encode.Goals as goal
use Rattle.lists.proofs.ListRecord.encode.Goals.{After-list_answer, In_ok-needed}
use Rattle.lists.proofs.ListRecord.encode.Given.{Over}

-- the answer by the kind's width and code
answered : (g : Over) (c : After-list_answer g)
    → c.list_answer.result ≡ list_answer (length c.args.records.now) g.Self.ListRecord.list_row.width g.Self.ListRecord.list_row.code (length c.args.out.now)
answered g c = c.list_answer.ensures ∙ simp (c.WIRE_LEN.ensures, sym g.met.Self.ListRecord.same_width, c.code.ensures)

room : (g : Over) (c : In_ok-needed g) → length c.args.records.now * g.Self.ListRecord.list_row.width ≤ length c.args.out.now
room g c =
    let k = g.Self.ListRecord in
    records_fit k.list_row.bytes k.list_row.width g.met.Self.ListRecord.all_bytes g.Self.ListRecord.list_row.code c.args.records.now c.args.out.now
    (answered g (goal.at.loop-k-init g c).After-list_answer) c.in_ok-needed.was

pub returns-in_err-needed : goal.returns-in_err-needed
returns-in_err-needed g c =
    let k = g.Self.ListRecord in
    let e = refused_is k.list_row.bytes k.list_row.width g.met.Self.ListRecord.all_bytes g.Self.ListRecord.list_row.code c.args.records.now c.args.out.now
    (answered g (goal.at.returns-in_err-needed g c).After-list_answer) c.in_err-needed.was in
    search rules

pub loop-k-init : goal.loop-k-init
loop-k-init g c =
    let k = g.Self.ListRecord in
    sym (state_start k.list_row.bytes k.list_row.width g.met.Self.ListRecord.all_bytes g.Self.ListRecord.list_row.code c.args.records.now c.args.out.now)

pub overflow_mul-k : goal.overflow_mul-k
overflow_mul-k g c =
    let all = room g (goal.at.overflow_mul-k g c).In_ok-needed in
    let here = mul-le-mul_right c.WIRE_LEN-in-loop-k.result c.loop-k.auto.k-end in
    rw (c.WIRE_LEN-in-loop-k.ensures, sym g.met.Self.ListRecord.same_width) (omega (arith, rw (c.WIRE_LEN-in-loop-k.ensures, sym g.met.Self.ListRecord.same_width) at here))

pub loop-k-preserved : goal.loop-k-preserved
loop-k-preserved g c =
    let k = g.Self.ListRecord in
    let all = room g (goal.at.loop-k-preserved g c).In_ok-needed in
    turn k.list_row.bytes k.list_row.width g.met.Self.ListRecord.all_bytes g.Self.ListRecord.list_row.code c.args.records.now c.args.out.now c.index-records-k.result
    c.loop-k.k all c.loop-k-test.true c.loop-k.invariant
    (rw (c.WIRE_LEN-in-loop-k.ensures, sym g.met.Self.ListRecord.same_width, c.index-records-k.is) at c.encode_at.ensures)

pub returns : goal.returns
returns g c =
    let k = g.Self.ListRecord in
    written_is k.list_row.bytes k.list_row.width g.met.Self.ListRecord.all_bytes g.Self.ListRecord.list_row.code c.args.records.now c.args.out.now
    (answered g (goal.at.returns g c).After-list_answer) c.loop-k.k c.in_ok-needed.was c.loop-k.invariant (omega arith)
