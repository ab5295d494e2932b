-- osdp_KEYPAD (0x53), R101.1, §7.12: reader, count, and that many digits.
use Rattle.std.specs.Prelude.{◌∷◌, drop}
use Rattle.payload_util.specs.Prelude.{byte_at, head_and_tail, tail_len, nothing, Form, tailed}
use Rattle.keypad.specs.declared.Keypad.{Keypad}

-- a payload is refused by rows 4 and 6, a record by row 13
abbrev pub keypad : Form
keypad = tailed {A = Keypad} (record {
  code = 0x53;
  check = λ c p. head_and_tail 2 (byte_at p 1) c p;
  fields = λ p. record { reader = byte_at p 0; digit_count = byte_at p 1 };
  rest = drop 2;
  refuse = λ c k t. tail_len k.digit_count c t;
  bytes = λ k t. k.reader ∷ k.digit_count ∷ t;
  loss = nothing;
})
