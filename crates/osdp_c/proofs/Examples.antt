-- The definitions give what each example says.
-- Assumes nothing.
use mathlib.Core.Path.{refl}
use Rattle.payload_util.specs.Guards.{at_least, declared_len, room}
use Rattle.codes.specs.CommandCode.{read_command}
use Rattle.codes.specs.ReplyCode.{read_reply}
use Rattle.crc.specs.Crc.{crc_bit, crc_bits, crc_byte}
use Rattle.frame.specs.Frame.{check_over, right_check, known_code, front, control, check_frame, refuse_frame}
use Rattle.osdp_c.specs.Examples.{Flagged, Refused}

pub flagged : Flagged
unfolding at_least declared_len room read_command read_reply crc_bit crc_bits crc_byte check_over right_check known_code front control check_frame refuse_frame
flagged = ((refl, refl), (refl, refl), (refl, refl), (refl, refl))

pub refused : Refused
unfolding at_least declared_len room read_command read_reply crc_bit crc_bits crc_byte check_over right_check known_code front control check_frame refuse_frame
refused = (refl, refl, refl, refl, refl, refl)
