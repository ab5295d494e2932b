-- osdp_XRD (0xB1), R4.13, §7.26: the mode, and its reply.
use Rattle.std.specs.Prelude.{◌∷◌, drop}
use Rattle.payload_util.specs.Prelude.{byte_at, at_least, nothing, Form, tailed}
use Rattle.xrd.specs.declared.Xrd.{Xrd}
use Rattle.payload_util.specs.Refusals.{Pass}

abbrev pub xrd : Form
xrd = tailed {A = Xrd} (record {
  code = 0xB1;
  check = at_least 1;
  fields = λ p. record { mode = byte_at p 0 };
  rest = drop 1;
  refuse = λ c x t. Pass;
  bytes = λ x t. x.mode ∷ t;
  loss = nothing;
})
