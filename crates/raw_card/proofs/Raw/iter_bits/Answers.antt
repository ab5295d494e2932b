use Rattle.std.proofs.Common.{ℕ, rules, take, sym, ap, length-take-le}
use Rattle.payload_util.proofs.Parts.{put_refused}
use Rattle.raw_card.specs.Raw.{all_bits}
use Rattle.payload_util.proofs.Guards.{passed, refused, room_pass}
use Rattle.raw_card.proofs.Bits.{length_bits}
use Rattle.raw_card.proofs.Raw.iter_bits.Goals as goal

pub returns-in_err-require_room : goal.returns-in_err-require_room
returns-in_err-require_room c =
    let a = c.args in
    let e = c.bits_given-n.ensures in
    let count = ap (λ (n : ℕ). take n (all_bits a.bits.now)) e in
    let p =
    put_refused _ (take c.bits_given-n.result (all_bits a.bits.now)) a.out.now (sym (length_bits a.self.bit_count a.bits.now e))
    (refused c.require_room.ensures c.in_err-require_room.was) in
    search rules

pub slice_bounds-fill_bits-end-2 : goal.slice_bounds-fill_bits-end-2
slice_bounds-fill_bits-end-2 c =
    let fits = room_pass _ _ _ (passed c.require_room.ensures c.in_ok-require_room.was) in
    sym (length-take-le c.bits_given-n.result c.args.out.now fits)

pub returns : goal.returns
returns c =
    let a = c.args in
    let e = c.bits_given-n.ensures in
    let pass = passed c.require_room.ensures c.in_ok-require_room.was in
    simp (
      ← e,
      length_bits a.self.bit_count a.bits.now e,
      pass,
      c.fill_bits.ensures,
      length-take-le c.bits_given-n.result a.out.now (room_pass _ _ _ pass),
    )
