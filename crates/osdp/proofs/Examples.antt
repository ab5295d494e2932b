-- The definitions give what each example says.
-- Assumes nothing.
use mathlib.Core.Path.{refl}
use mathlib.Core.List.{[], ◌∷◌}
use Rattle.payload_util.specs.Refusals.{in_order, refusal}
use Rattle.payload_util.specs.Guards.{exact_len, at_least, blocks_from, declared_len, at_most, tail_len, room, present}
use Rattle.payload_util.specs.Loss.{within_limits}
use Rattle.payload_util.specs.Form.{ReadsAs}
use Rattle.codes.specs.CommandCode.{read_command}
use Rattle.codes.specs.ReplyCode.{read_reply}
use Rattle.led.specs.Led.{color_of}
use Rattle.output.specs.Output.{read_output_code, codes_known}
use Rattle.text.specs.Text.{read_text_command, printable, text_shape}
use Rattle.biometric.specs.Biometric.{bio_type_of, bio_format_of, check_template}
use Rattle.raw_card.specs.Raw.{all_bits}
use Rattle.nak.specs.Nak.{read_nak_error}
use Rattle.osdp.specs.declared.Kind.TheVariants.{Led, Out}
use Rattle.osdp.specs.Kinds.{form, kind_of}
use Rattle.osdp.specs.ByCode.{not_too_long, kind_for}
use Rattle.osdp.specs.Starred.{RefusedAs, AllHold, none, ◌and◌}
use Rattle.osdp.specs.Examples.{row_examples, order_examples, generation_examples, code_examples, unstarred, distinct_led, field_examples, refusal_examples, length_examples, number_examples}
use Rattle.osdp.proofs.Starred.{one, both, empty}
use Rattle.payload_util.specs.declared.Row.TheVariants.{PayloadNotMultiple, UnknownOutputCode}

unknown : RefusedAs (form Out) (0x03 ∷ 0x07 ∷ 0x0A ∷ 0x00 ∷ []) (refusal UnknownOutputCode 0x68 0 0)
unfolding in_order blocks_from read_output_code codes_known
unknown i = refl

three_bytes : RefusedAs (form Out) (0x03 ∷ 0x07 ∷ 0x0A ∷ []) (refusal PayloadNotMultiple 0x68 4 3)
unfolding blocks_from
three_bytes i = refl

distinct : ReadsAs (form Led) (0x01 ∷ 0x02 ∷ 0x03 ∷ 0x04 ∷ 0x05 ∷ 0x06 ∷ 0x07 ∷ 0x08 ∷ 0x09 ∷ 0x0A ∷ 0x0B ∷ 0x0C ∷ 0x02 ∷ 0x03 ∷ []) (distinct_led ∷ [])
unfolding in_order blocks_from present color_of
distinct = (distinct_led, refl, refl, one _ refl)

pub rows_hold : AllHold row_examples
unfolding row_examples kind_for kind_of not_too_long read_command read_reply in_order exact_len at_least blocks_from declared_len at_most tail_len room present color_of read_output_code codes_known read_text_command printable text_shape bio_type_of bio_format_of check_template read_nak_error within_limits
rows_hold =
    refl and refl and refl and refl and empty and refl and unknown and refl and refl and refl and refl and refl and refl and refl
    and refl and refl and refl and refl and refl and none

pub orders_hold : AllHold order_examples
unfolding order_examples kind_for kind_of not_too_long read_command read_reply in_order exact_len at_least blocks_from declared_len at_most tail_len room present color_of read_output_code codes_known read_text_command printable text_shape bio_type_of bio_format_of check_template read_nak_error within_limits
orders_hold =
    refl and refl and refl and refl and refl and refl and refl and three_bytes and refl and refl and none

pub generations_hold : AllHold generation_examples
unfolding generation_examples kind_for kind_of not_too_long read_command in_order exact_len blocks_from within_limits
generations_hold =
    refl and refl and refl and refl and refl and refl and refl and refl and refl and refl and refl and refl and refl and none

pub codes_hold : AllHold code_examples
unfolding code_examples kind_for kind_of not_too_long read_command read_reply in_order exact_len at_least blocks_from declared_len at_most tail_len room present color_of read_output_code codes_known read_text_command printable text_shape bio_type_of bio_format_of check_template read_nak_error within_limits
codes_hold =
    refl and refl and refl and refl and refl and refl and refl and refl and refl and refl and refl and refl and refl
    and refl and refl and refl and refl and refl and refl and refl and none

pub unstarred_hold : AllHold unstarred
unfolding unstarred kind_for kind_of not_too_long read_command read_reply in_order exact_len at_least blocks_from declared_len at_most tail_len room present color_of read_output_code codes_known read_text_command printable text_shape bio_type_of bio_format_of check_template read_nak_error within_limits
unstarred_hold =
    both refl refl and both refl refl and both refl refl and refl and both refl refl and refl and none

pub fields_hold : AllHold field_examples
unfolding field_examples kind_for kind_of not_too_long read_command read_reply in_order exact_len at_least blocks_from declared_len at_most tail_len room present color_of read_output_code codes_known read_text_command printable text_shape bio_type_of bio_format_of check_template read_nak_error within_limits all_bits
fields_hold =
    distinct and both refl refl and refl and both refl refl and both refl refl and both refl refl and both refl refl and both refl refl
    and both refl refl and both refl refl and refl and refl and refl and refl and refl and refl and refl
    and refl and refl and refl and refl and refl and refl and refl and none

pub refusals_hold : AllHold refusal_examples
unfolding refusal_examples exact_len at_least declared_len tail_len room
refusals_hold =
    refl and refl and refl and refl and refl and refl and refl and refl and refl and refl and refl and refl and refl and none

pub lengths_hold : AllHold length_examples
unfolding length_examples at_least declared_len text_shape check_template
lengths_hold =
    refl and refl and refl and refl and refl and refl and refl and refl and refl and refl and refl and refl and refl and refl and none

pub numbers_hold : AllHold number_examples
unfolding number_examples
numbers_hold =
    refl and refl and refl and refl and refl and refl and refl and refl and refl and refl and refl and refl and refl and refl and refl and refl and refl and refl and refl and refl and refl and refl and none
