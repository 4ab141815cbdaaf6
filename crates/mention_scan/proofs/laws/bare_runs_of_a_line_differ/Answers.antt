use Rattle.mention_scan.proofs.Bare.{division-bare}
use Rattle.mention_scan.proofs.laws.bare_runs_of_a_line_differ.Goals as goal

pub returns : goal.returns
returns c = division-bare
