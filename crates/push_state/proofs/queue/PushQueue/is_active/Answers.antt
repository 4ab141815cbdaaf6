use Rattle.std.proofs.Common.{◌∙◌, sym, ap}
use Rattle.std.specs.List.{list_any}
use Rattle.std.specs.FinSet as set
use Rattle.push_state.specs.Pushes.{flag}
use Rattle.push_state.proofs.Flags.{is_of, contains-flags_in}
use Rattle.push_state.proofs.queue.PushQueue.is_active.Goals as goal

pub returns : goal.returns
returns c =
    c.is_among.ensures
    ∙ (ap (list_any (is_of c.args.user c.args.message)) c.deref.ensures.value
    ∙ (sym (contains-flags_in c.args.user c.args.message c.self.inside.flags.items)
    ∙ ap (λ q. set.contains q.flags (flag c.args.user c.args.message)) c.self.view_is))
