-- R105 in numbers: what the guards of rows 4, 6, 12 and 13 say of lengths.
use Rattle.std.specs.Prelude.{replicate, ◌≡◌, Err}
use Rattle.payload_util.specs.Refusals.{Pass, refusal}
use Rattle.payload_util.specs.Guards.{declared_len, head_and_tail, at_most, tail_len}
use Rattle.payload_util.specs.declared.Row.TheVariants.{DeclaredLength, PayloadTooShort, TailLength, TailTooLong}

abbrev pub KnownLengths : Type 0
KnownLengths =
    -- four fixed bytes that ask for one more, and none, two or one of it came
    (head_and_tail 4 1 0x50 (replicate 4 0x00) ≡ Err (refusal DeclaredLength 0x50 5 4))
    × (head_and_tail 4 1 0x50 (replicate 6 0x00) ≡ Err (refusal DeclaredLength 0x50 5 6))
    × (head_and_tail 4 1 0x50 (replicate 5 0x00) ≡ Pass)
    -- not all fixed bytes came: row 4
    × (head_and_tail 4 1 0x50 (replicate 3 0x00) ≡ Err (refusal PayloadTooShort 0x50 4 3))
    -- a field that asks for all bytes at once
    × (declared_len 9 0x00 (replicate 7 0x00) ≡ Err (refusal DeclaredLength 0x00 9 7))
    -- of a record to be written rows 12 and 13 say no numbers
    × (at_most 1 0x6B (replicate 2 0x41) ≡ Err (refusal TailTooLong 0x6B 0 0))
    × (tail_len 2 0x50 (replicate 1 0x00) ≡ Err (refusal TailLength 0x50 0 0))
