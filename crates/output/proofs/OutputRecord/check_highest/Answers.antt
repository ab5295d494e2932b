-- The check gives row 7 unless the highest code is known. Assumes nothing.
use Rattle.std.proofs.Common.{rules, refl, ap, ◌∙◌, ◌/◌, length, leb, max}
use Rattle.std.specs.Simd.{first_chunks}
use Rattle.std.proofs.lemmas.Iterator.{YieldsList-from_slice}
use Rattle.std.proofs.lemmas.Iterator.Consumers.{fold_from_yields_List}
use Rattle.payload_util.specs.Refusals.{require}
use Rattle.output.specs.Output.{code_in_place}
use Rattle.output.proofs.Codes.{limited, highest_of}
use Rattle.output.proofs.OutputRecord.check_highest.Goals as goal

pub returns : goal.returns
returns c =
    let p = c.args.p.now in
    let n = length p / 4 in
    let highest = fold_from_yields_List _ (λ m r. max m (code_in_place r)) 0 c.fold-highest.result c.fold-highest.ensures.ran
    (YieldsList-from_slice (first_chunks 4 n p) cc) (λ a x b q k. search rules) in
    c.require.ensures ∙ ap (require (leb c.fold-highest.result 0x600)) c.new.ensures ∙ ap limited highest ∙ highest_of n p 0 refl
