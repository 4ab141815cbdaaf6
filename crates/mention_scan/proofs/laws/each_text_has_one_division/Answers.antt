use Rattle.mention_scan.proofs.Divides.{division-one}
use Rattle.mention_scan.proofs.laws.each_text_has_one_division.Goals as goal

pub returns : goal.returns
returns c = division-one
