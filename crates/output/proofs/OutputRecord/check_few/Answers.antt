-- In each turn, checking the codes that are left gives the answer for all.
use Rattle.std.proofs.Common.{rules, arith, sym, ◌∙◌, ◌≡◌}
use Rattle.std.specs.Slice.Iter.{chunks_exact_rest}
use Rattle.payload_util.specs.Bytes.{byte_at}
use Rattle.payload_util.specs.Refusals.{◌also◌}
use Rattle.payload_util.specs.Outcome.{guard_of}
use Rattle.payload_util.proofs.Guards.{guard_gives, guard_refuses}
use Rattle.output.specs.Output.{read_output_code, codes_known}
use Rattle.output.proofs.Laws.{codes_of_record, no_codes}
use Rattle.output.proofs.OutputRecord.check_few.Goals as goal
use Rattle.output.proofs.OutputRecord.check_few.Goals.{In-Some}

-- the code of the record, and then those of the rest
parted : (c : In-Some) → codes_known (chunks_exact_rest c.loop-record.record-iterator)
    ≡ (guard_of (read_output_code (byte_at c.in-Some.record.now 1)) also codes_known (chunks_exact_rest c.next.new.self))
parted c =
    let (size, (is, wide), rest) = c.in-Some.ensures.steps in
    codes_of_record c.in-Some.record.now (chunks_exact_rest c.next.new.self) (chunks_exact_rest c.loop-record.record-iterator) is
    (wide ∙ c.loop-record.invariant.size)

pub loop-record-preserved : goal.loop-record-preserved
loop-record-preserved c =
    let (size, taken, rest) = c.in-Some.ensures.steps in
    let all = parted (goal.at.loop-record-preserved c).In-Some in
    let here = guard_gives (sym c.from_byte.ensures ∙ c.in_ok-from_byte.was) in
    record { left = sym (rw here at all) ∙ c.loop-record.invariant.left; size = size ∙ c.loop-record.invariant.size }

pub returns-in_err-from_byte : goal.returns-in_err-from_byte
returns-in_err-from_byte c =
    let all = parted (goal.at.returns-in_err-from_byte c).In-Some in
    let here = guard_refuses (sym c.from_byte.ensures ∙ c.in_err-from_byte.was) in
    let e = sym (rw here at all) ∙ c.loop-record.invariant.left in
    search rules

pub returns : goal.returns
returns c =
    let (size, (short, same), rest) = c.in-None.ensures.steps in
    sym (no_codes (chunks_exact_rest c.loop-record.record-iterator) (omega (arith, c.loop-record.invariant.size))) ∙ c.loop-record.invariant.left
