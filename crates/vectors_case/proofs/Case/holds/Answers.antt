-- Each of the three parts is as wanted.
use Rattle.std.proofs.Common.{◌≡◌, ◌+◌, ◌-◌, ◌≤◌, length, take, replicate, arith}
use Rattle.std.proofs.lemmas.List.{length-take-le}
use native.Mathlib.Nat.{sub-zero}
use mathlib.Core.Logic.Iff
use Rattle.vectors_case.proofs.Buffers.{around_parts, parts_around}
use Rattle.vectors_case.proofs.Case.holds.Goals as goal

pub returns : goal.returns
returns c =
    let a = c.args in
    let want = a.self.want.now in
    let n : a.at + length want - a.at ≡ length want = omega arith in
    let fits : a.at ≤ length a.out.now = omega arith in
    let front : take a.at a.out.now ≡ replicate a.at a.self.fill = simp (sub-zero, length-take-le a.at a.out.now fits) at (c.filled.ensures.0 c.if-not-filled.false) in
    let middle = c.same.ensures.0 c.if-not-same.false in
    Iff.trans c.filled-2.ensures (
      λ r. parts_around a.out.now want a.at a.self.fill front (rw n at middle) r,
      λ q. (around_parts a.out.now want a.at a.self.fill q).2,
    )
