-- The laws of TEXT's commands, and TEXT's law.
-- Assumes nothing.
use mathlib.Core.Path.{◌≡◌, refl}
use mathlib.Core.List.{List}
use Prim.Native.Nat.{ℕ, ◌≤◌}
use native.Mathlib.Omega.{arith}
use lib.ListN.{length, drop}
use Rattle.payload_util.specs.Outcome.{guard_of, value_or}
use Rattle.payload_util.specs.Guards.{head_and_tail, at_most}
use Rattle.payload_util.specs.Bytes.{byte_at}
use Rattle.payload_util.specs.Form.{check, bytes}
use Rattle.payload_util.proofs.Guards.{also_left, also_right, head_and_tail_pass, pass_head_and_tail, pass_most}
use Rattle.payload_util.proofs.Table.{exact, exact_value}
use Rattle.payload_util.proofs.Parts.{by_head}
use Rattle.payload_util.specs.Law.{Law}
use Rattle.payload_util.proofs.Forms.{tailed_law}
use Rattle.text.specs.Text.{text_code, text_command_byte, text_commands, read_text_command, printable, text_shape, text_kind}
use Rattle.text.specs.declared.Text.{Text}
use Rattle.text.specs.declared.TextCommand.{TextCommand}
use Rattle.text.specs.declared.TextCommand.TheVariants.{PermanentNoWrap}
use Rattle.std.specs.Prelude.{Ok}
use Rattle.payload_util.specs.Refusals.{Pass, refusal}
use Rattle.payload_util.specs.declared.Row.TheVariants.{UnknownTextCommand}

-- a command's byte reads back as the command; `other` is each other command
pub text_command_back : (c : TextCommand) → read_text_command (text_command_byte c) ≡ Ok c
unfolding read_text_command
text_command_back PermanentNoWrap = refl
text_command_back other = refl

-- a byte that reads as a command is that command's byte
pub text_command_exact : (b : ℕ) (c : TextCommand) → read_text_command b ≡ Ok c → text_command_byte c ≡ b
unfolding read_text_command
text_command_exact b = exact text_command_byte (refusal UnknownTextCommand text_code 0 0) text_commands b

text_command_kept : (b : ℕ) → guard_of (read_text_command b) ≡ Pass
    → text_command_byte (value_or PermanentNoWrap (read_text_command b)) ≡ b
unfolding read_text_command
text_command_kept b = exact_value text_command_byte (refusal UnknownTextCommand text_code 0 0) text_commands b PermanentNoWrap

-- the fixed fields are there before the command is looked at
pub shape_least : (p : List ℕ) → text_shape p ≡ Pass → 6 ≤ length p
unfolding text_shape
shape_least p g = (head_and_tail_pass 6 text_code p (byte_at p 5) (search also_left)).0

text_passes : (p : List ℕ) → check text_kind p ≡ Pass
    → (head_and_tail 6 (byte_at p 5) text_code p ≡ Pass) × (printable (drop 6 p) ≡ Pass) × (guard_of (read_text_command (byte_at p 1)) ≡ Pass)
unfolding text_shape
text_passes p g = search (also_left, also_right)

text_written : (t : Text) (s : List ℕ) → printable s ≡ Pass → check text_kind (bytes text_kind (t, s)) ≡ Pass
unfolding text_shape
text_written t s shown = simp (pass_head_and_tail 6 text_code (bytes text_kind (t, s)) (length s) (omega arith), shown, text_command_back)

pub text_law : Law text_kind
text_law =
    tailed_law 6
    (λ p b g.
    let (whole, shown, command) = text_passes p g in
    let (h, e) = head_and_tail_pass 6 text_code p (byte_at p 5) whole in
    by_head 6 p (λ q. q) h (simp (e, text_command_kept (byte_at p 1) command)))
    (λ p b g.
    let (whole, shown, command) = text_passes p g in
    let short : length (drop 6 p) ≤ 255 = omega (arith, (head_and_tail_pass 6 text_code p (byte_at p 5) whole).1, b 5) in
    simp (shown, pass_most 255 text_code (drop 6 p) short))
    (λ t s w. simp text_command_back) (λ t s. refl) (λ p u. refl) (λ p. refl)
    (λ t s w. text_written t s (also_left (printable s) (at_most 255 text_code s) w))
