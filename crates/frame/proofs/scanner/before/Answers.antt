-- `before` meets its contract: `position` finds the first byte that can begin a frame, if there is one. Assumes nothing.
use Rattle.std.proofs.Common.{rules, ◌≡◌, eqb, arith}
use Rattle.std.specs.List.{position}
use Rattle.std.proofs.lemmas.Grind.{common_steps}
use Rattle.std.proofs.lemmas.Iterator.{YieldsList-from_slice}
use Rattle.std.proofs.lemmas.Iterator.Search.{position_from_yields_List}
use Rattle.std.proofs.lemmas.List.Sums.{prefix_len-le-length}
use borrow.Author.Tests.{tests}
use mathlib.Core.Bool.{not}
use Rattle.frame.specs.Frame.{som}
use Rattle.frame.proofs.scanner.before.Goals as goal

pub returns : goal.returns
returns c =
    let s = c.args.s.now in
    let found : c.position.result ≡ position (λ b. eqb b som) s = position_from_yields_List (λ b. eqb b som) _ _ c.position.result c.position.ensures.ran (YieldsList-from_slice s cc) (λ x b q k. search (rules, tests)) in
    let within = prefix_len-le-length (λ b. not (eqb b som)) s in
    (grind (arith, common_steps), grind (arith, common_steps))
