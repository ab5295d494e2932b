-- `Text::printable_singly` meets its contract: `all` asks each byte. Assumes nothing.
use Rattle.std.proofs.Common.{rules, ap, ◌∙◌}
use Rattle.std.proofs.lemmas.Iterator.{YieldsList-from_slice}
use Rattle.std.proofs.lemmas.Iterator.Search.{all_from_yields_List}
use borrow.Author.Tests.{tests}
use Rattle.text.specs.Text.{shown, told}
use Rattle.text.proofs.Marks.{singly}
use Rattle.text.proofs.Text.printable_singly.Goals as goal

pub returns : goal.returns
returns c =
    let s = c.args.s.now in
    ap told (all_from_yields_List shown _ _ c.all.result c.all.ensures.ran (YieldsList-from_slice s cc) (λ x b q k. search (rules, tests))) ∙ singly s
