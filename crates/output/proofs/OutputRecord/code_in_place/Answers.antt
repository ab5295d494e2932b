-- The code of a record, as its number has it. Assumes nothing.
use Rattle.output.proofs.Codes.{in_place}
use Rattle.output.proofs.OutputRecord.code_in_place.Goals as goal

pub returns : goal.returns
returns c = in_place c.args.r.now c.from_le_bytes.result c.told-r c.fits-r c.from_le_bytes.ensures
