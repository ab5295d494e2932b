-- The names that a kind's definitions and contracts use, exported again.
pub use Rattle.std.specs.Prelude.{◌≡◌, List, [], ◌∷◌, ◌++◌, cond, ℕ, zero, suc, ◌+◌, ◌*◌, ◌/◌, ◌%◌, ◌≤◌, ◌<◌, min, length, take, drop, eqb, leb, ltb, Ok, Err}
pub use Rattle.payload_util.specs.Bytes.{byte_at, u16_at, u32_at, u16_bytes, u32_bytes, flat}
pub use Rattle.payload_util.specs.Refusals.{number_of, refusal, Outcome, Guard, Pass, require, ◌also◌}
unfoldable pub use Rattle.payload_util.specs.Guards.{exact_len, at_least, positive_multiple_of, head_and_tail, at_most, tail_len}
unfoldable pub use Rattle.payload_util.specs.Refusals.{in_order}
pub use Rattle.payload_util.specs.Outcome.{named, outcome, guard_of, value_or, tail_where}
pub use Rattle.payload_util.specs.Writing.{Effect, put, put_checked, rewrite}
pub use Rattle.payload_util.specs.Loss.{Keep, any, up_to, keep, only_at, times, Loss, nothing, above, above_in_each, rest_unless, without, limited}
unfoldable pub use Rattle.payload_util.specs.Loss.{within_limits}
pub use Rattle.payload_util.specs.Form.{Form, fixed, tailed, listed, code, loss, check, whole, fields, read, tail, write, normalise}
