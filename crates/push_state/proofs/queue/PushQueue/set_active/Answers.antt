use Rattle.std.proofs.Common.{◌≡◌, ◌-◌, ◌∙◌, ap}
use Rattle.std.specs.FinSet as set
use Rattle.push_state.specs.Pushes.{flag}
use Rattle.push_state.proofs.Flags.{flags_in, queue_of, flags_in-push}
use Rattle.push_state.proofs.queue.PushQueue.set_active.Goals as goal

pub returns : goal.returns
returns c =
    let flags : flags_in c.push_reserved.new.self.items ≡ set.insert c.args.self.now.flags (flag c.args.user c.args.message) =
    ap flags_in c.push_reserved.ensures.items
    ∙ (flags_in-push c.self.inside.flags.items (record { user = c.args.user; message = c.args.message })
    ∙ ap (λ q. set.insert q.flags (flag c.args.user c.args.message)) c.self.view_is) in
    ap (λ fs. queue_of c.self.inside.items.items fs c.self.inside.item_room (c.self.inside.flag_room - 1)) flags
    ∙ ap (λ q. queue_of q.items (set.insert c.args.self.now.flags (flag c.args.user c.args.message)) q.item_room (q.flag_room - 1)) c.self.view_is
