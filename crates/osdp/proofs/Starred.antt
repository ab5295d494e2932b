-- The definitions give what R8.1 says of each starred payload.
-- Assumes nothing.
use mathlib.Core.Path.{refl}
use mathlib.Core.List.{[], ◌∷◌}
use Prim.Native.Nat.{ℕ, zero, suc, ◌<◌}
use native.Mathlib.Omega.{arith}
use lib.ListN.{replicate}
use Rattle.payload_util.specs.Refusals.{in_order, refusal}
use Rattle.payload_util.specs.Guards.{exact_len, at_least, blocks_from, declared_len, at_most, room, present}
use Rattle.payload_util.specs.Loss.{within_limits}
use Rattle.payload_util.specs.Form.{ReadsAs}
use Rattle.output.specs.declared.OutputControlCode.TheVariants.{TemporaryOnResume}
use Rattle.led.specs.Led.{color_of}
use Rattle.output.specs.Output.{read_output_code, codes_known}
use Rattle.text.specs.Text.{read_text_command, printable, text_shape}
use Rattle.biometric.specs.Biometric.{bio_type_of, bio_format_of}
use Rattle.nak.specs.Nak.{read_nak_error}
use Rattle.osdp.specs.declared.Kind.TheVariants.{Led, Out}
use Rattle.codes.specs.CommandCode.{read_command}
use Rattle.codes.specs.ReplyCode.{read_reply}
use Rattle.osdp.specs.Kinds.{form, kind_of}
use Rattle.osdp.specs.ByCode.{not_too_long, kind_for}
use Rattle.osdp.specs.Starred.{starred, RefusedAs, AllHold, none, ◌and◌, green_bytes, green, dark}
use Rattle.payload_util.specs.declared.Row.TheVariants.{PayloadNotMultiple, UnknownOutputCode}

-- what holds of each record of a list of one or two
pub one : (P : ℕ → Type 0) → P 0 → (k : ℕ) → k < 1 → P k
one P first zero h = first
one P first (suc k) h = absurd (omega arith)

two : (P : ℕ → Type 0) → P 0 → P 1 → (k : ℕ) → k < 2 → P k
two P first second zero h = first
two P first second (suc zero) h = second
two P first second (suc (suc k)) h = absurd (omega arith)

lit : (color : ℕ) → ReadsAs (form Led) (green_bytes color) (green (color_of color) ∷ [])
unfolding in_order blocks_from present color_of read_output_code codes_known
lit color = (green (color_of color), refl, refl, one _ refl)

zeros : ReadsAs (form Led) (replicate 28 0x00) (dark ∷ dark ∷ [])
unfolding in_order blocks_from present color_of read_output_code codes_known
zeros = (dark, refl, refl, two _ refl refl)

three : ReadsAs (form Out) (0x03 ∷ 0x05 ∷ 0x0A ∷ 0x00 ∷ []) (record { output = 3; code = TemporaryOnResume; timer = 10 } ∷ [])
unfolding in_order blocks_from present color_of read_output_code codes_known
three = (record { output = 3; code = TemporaryOnResume; timer = 10 }, refl, refl, one _ refl)

-- a record and its tail
pub both : {A B : Type 0} → A → B → A × B
both a b = (a, b)

-- a list that is refused is refused for every record that is asked for
thirteen : RefusedAs (form Led) (replicate 13 0x00) (refusal PayloadNotMultiple 0x69 14 13)
unfolding blocks_from
thirteen k = refl

pub empty : RefusedAs (form Led) [] (refusal PayloadNotMultiple 0x69 14 0)
unfolding blocks_from
empty k = refl

unknown : RefusedAs (form Out) (0x03 ∷ 0x05 ∷ 0x0A ∷ 0x00 ∷ 0x04 ∷ 0x07 ∷ 0x00 ∷ 0x00 ∷ []) (refusal UnknownOutputCode 0x68 0 0)
unfolding in_order blocks_from read_output_code codes_known
unknown k = refl

pub starred_hold : AllHold starred
unfolding starred kind_for kind_of not_too_long read_command read_reply in_order exact_len at_least blocks_from declared_len at_most room present color_of read_output_code codes_known read_text_command printable text_shape bio_type_of bio_format_of read_nak_error within_limits
starred_hold =
    lit 0x02
    and refl
    and lit 0x08
    and refl
    and refl
    and thirteen
    and empty
    and zeros
    and three
    and refl
    and refl
    and refl
    and unknown
    and both refl refl
    and refl
    and both refl refl
    and both refl refl
    and both refl refl
    and refl
    and both refl refl
    and refl
    and refl
    and both refl refl
    and none
