-- osdp_FMT (0x51), R4.9, §7.11: reader, direction, count, and that many characters.
use Rattle.std.specs.Prelude.{◌∷◌, drop}
use Rattle.payload_util.specs.Prelude.{byte_at, head_and_tail, tail_len, nothing, Form, tailed}
use Rattle.raw_card.specs.declared.Fmt.{Fmt}

-- a payload is refused by rows 4 and 6, a record by row 13
abbrev pub fmt : Form
fmt = tailed {A = Fmt} (record {
  code = 0x51;
  check = λ c p. head_and_tail 3 (byte_at p 2) c p;
  fields = λ p. record { reader = byte_at p 0; direction = byte_at p 1; char_count = byte_at p 2 };
  rest = drop 3;
  refuse = λ c f t. tail_len f.char_count c t;
  bytes = λ f t. f.reader ∷ f.direction ∷ f.char_count ∷ t;
  loss = nothing;
})
