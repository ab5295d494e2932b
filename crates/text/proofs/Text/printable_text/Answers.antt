-- `Text::printable_text` meets its contract: `position` finds no word that fails, and the rest is asked then. Assumes nothing.
use Rattle.std.proofs.Common.{rules, ◌≡◌, ◌/◌, Bool, true, false, length, ap, sym, ◌∙◌}
use mathlib.Core.Bool.{not}
use Rattle.std.specs.List.{list_all}
use Rattle.std.specs.Option.{is_some}
use Rattle.std.specs.Simd.{first_chunks}
use Rattle.std.proofs.lemmas.Iterator.{YieldsList-from_slice}
use Rattle.std.proofs.lemmas.Iterator.Search.{position_from_yields_List}
use Rattle.std.proofs.lemmas.Iterator.Adapters.{position_from-zero}
use borrow.Author.Tests.{tests}
use Rattle.text.specs.Text.{told, printable}
use Rattle.text.proofs.Marks.{told_is, all_shown, in_words, none_other}
use Rattle.text.proofs.Text.printable_text.Goals as goal
use Rattle.text.proofs.Text.printable_text.Goals.{After-is_none}

turned : (s t : Bool) → s ≡ not t → t ≡ not s
turned s true e = ap not (sym e)
turned s false e = ap not (sym e)

-- what `position` says of the words
asked : (c : After-is_none) → c.is_none.result ≡ list_all all_shown (first_chunks 8 (length c.args.s.now / 8) c.args.s.now)
asked c =
    let words = first_chunks 8 (length c.args.s.now / 8) c.args.s.now in
    let found = position_from_yields_List (λ w. not (all_shown w)) _ _ c.position-other.result c.position-other.ensures.ran (YieldsList-from_slice words cc)
    (λ x b q k. (search rules, turned _ _ (sym (told_is (not b) (printable x.now) (search (rules, tests)))))) in
    turned _ _ c.is_none.ensures ∙ ap (λ r. not (is_some r)) (found ∙ position_from-zero (λ w. not (all_shown w)) words) ∙ none_other all_shown 0 words

pub returns-then-is_none : goal.returns-then-is_none
returns-then-is_none c =
    let s = c.args.s.now in
    c.printable_singly.ensures ∙ ap printable c.as_chunks.ensures.back
    ∙ in_words (length s / 8) s true (sym c.if-is_none.true ∙ asked (goal.at.returns-then-is_none c).After-is_none)

pub returns-else-is_none : goal.returns-else-is_none
returns-else-is_none c =
    let s = c.args.s.now in
    ap told c.if-is_none.false ∙ in_words (length s / 8) s false (sym c.if-is_none.false ∙ asked (goal.at.returns-else-is_none c).After-is_none)
