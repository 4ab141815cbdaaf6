use Rattle.missed_hook.proofs.OrderlyLists.{front_orderly}
use Rattle.missed_hook.proofs.post.front_is_orderly.Goals as goal

pub returns : goal.returns
returns c = front_orderly
