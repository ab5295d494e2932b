-- `Text::printable_word` meets its contract: eight bytes of `word_test`, whose masks are the code's. Assumes nothing.
use Rattle.std.proofs.Common.{ap, ◌∙◌, refl}
use Rattle.text.specs.Text.{printable}
use Rattle.text.proofs.Marks.{word_test, word_read}
use Rattle.text.proofs.Text.printable_word.Goals as goal

pub returns : goal.returns
returns c =
    let w = c.from_le_bytes-w.result in
    word_test 8 _ _ _ _ w refl ∙ ap printable (word_read c.args.s.now w c.told-s c.fits-s c.from_le_bytes-w.ensures)
