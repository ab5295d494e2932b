-- The definitions give what each example says.
-- Assumes nothing.
use mathlib.Core.Path.{refl}
use Rattle.payload_util.specs.Guards.{at_least, declared_len, room}
use Rattle.codes.specs.CommandCode.{read_command}
use Rattle.codes.specs.ReplyCode.{read_reply}
use Rattle.crc.specs.Crc.{crc_bit, crc_bits, crc_byte}
use Rattle.frame.specs.Frame.{check_over, right_check, known_code, front, control, check_frame, refuse_frame}
use Rattle.frame.specs.Examples.{Published, InOrder, WriterInOrder, Streams}

pub published : Published
unfolding at_least declared_len room read_command read_reply crc_bit crc_bits crc_byte check_over right_check known_code front control check_frame refuse_frame
published = ((refl, refl, refl), (refl, refl, refl), (refl, refl, refl), (refl, refl, refl), (refl, refl, refl))

pub in_order_lem : InOrder
unfolding at_least declared_len read_command read_reply crc_bit crc_bits crc_byte check_over right_check known_code front control check_frame
in_order_lem =
    ((refl, refl), (refl, refl), (refl, refl), (refl, refl), (refl, refl), (refl, refl), (refl, refl), (refl, refl), (refl, refl), (refl, refl), (refl, refl), (refl, refl), (refl, refl), (refl, refl))

pub writer_in_order : WriterInOrder
unfolding room read_command read_reply crc_bit crc_bits crc_byte check_over known_code refuse_frame
writer_in_order = (refl, refl, refl, refl, refl, refl, refl)

pub streams : Streams
unfolding at_least declared_len read_command read_reply crc_bit crc_bits crc_byte check_over right_check known_code front control check_frame
streams = (refl, refl, refl, refl, refl, refl, refl, refl, refl, refl, refl, refl, refl, refl)
