use Rattle.mention_scan.proofs.Lines.{division-whole}
use Rattle.mention_scan.proofs.laws.a_division_is_whole.Goals as goal

pub returns : goal.returns
returns c = division-whole
