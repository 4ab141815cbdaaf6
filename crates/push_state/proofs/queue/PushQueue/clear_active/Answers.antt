use Rattle.std.proofs.Common.{◌≡◌, ◌∙◌, not, sym, ap, rules}
use Rattle.std.specs.FinSet as set
use Rattle.std.proofs.lemmas.Fn.{filter_same}
use Rattle.push_state.specs.Pushes.{flag}
use Rattle.push_state.proofs.Flags.{flags_in, queue_of, is_of, flags_in-without}
use Rattle.push_state.proofs.queue.PushQueue.clear_active.Goals as goal

pub returns : goal.returns
returns c =
    let kept = filter_same _ (λ f. not (is_of c.args.user c.args.message f)) _ (λ x b f k. search rules) c.self.inside.flags.items c.retain.new.self.items c.retain.ensures.filtered in
    let flags : flags_in c.retain.new.self.items ≡ set.remove c.args.self.now.flags (flag c.args.user c.args.message) =
    ap flags_in kept
    ∙ (flags_in-without c.args.user c.args.message c.self.inside.flags.items
    ∙ ap (λ q. set.remove q.flags (flag c.args.user c.args.message)) c.self.view_is) in
    ap (λ fs. queue_of c.self.inside.items.items fs c.self.inside.item_room (c.self.inside.flag_room)) flags
    ∙ ap (λ q. queue_of q.items (set.remove c.args.self.now.flags (flag c.args.user c.args.message)) q.item_room (q.flag_room)) c.self.view_is
