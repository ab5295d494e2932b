-- A kind of one exact length: a payload of another length is refused by row 3, every value of a field is taken, and reading loses nothing.
use Rattle.std.specs.Prelude.{List, ℕ}
use Rattle.payload_util.specs.Prelude.{exact_len, nothing, Form, fixed}
use Rattle.payload_util.specs.Refusals.{Pass}

abbrev pub exact : {A : Type 0} → ℕ → ℕ → (List ℕ → A) → (A → List ℕ) → Form
exact code len fields bytes = fixed (record {
  code = code;
  check = exact_len len;
  fields = fields;
  refuse = λ c r. Pass;
  bytes = bytes;
  loss = nothing;
})
