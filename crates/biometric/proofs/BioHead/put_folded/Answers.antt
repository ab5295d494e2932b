use Rattle.std.proofs.Common.{ap, ◌∙◌}
use Rattle.payload_util.specs.Loss.{keep, only_at}
use Rattle.payload_util.proofs.Losses.{length_keep}
use Rattle.payload_util.proofs.Folds.{part_folded}
use Rattle.biometric.specs.Biometric.{highest_format, bio_limits}
use Rattle.biometric.proofs.Laws.{folded_twice}
use Rattle.biometric.proofs.BioHead.put_folded.Goals as goal

pub returns : goal.returns
returns c =
    part_folded c.args.code (keep bio_limits) c.args.p.now c.args.out.now (length_keep bio_limits) c.put_payload.ensures c.in_ok-n.was
    (c.fold_at-2.ensures ∙ ap (keep (only_at 2 highest_format)) c.fold_at.ensures ∙ folded_twice _)
