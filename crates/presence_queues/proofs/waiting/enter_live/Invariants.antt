use Rattle.std.specs.Prelude.{◌≡◌, true, take}
use Rattle.chat_model.specs.declared.ids.UserId.{UserId}
use Rattle.missed_hook.specs.Outstanding.{gives_live}
use Rattle.presence_queues.specs.Fields.{deals_of, has_entry, waiting_seen}
use Rattle.presence_queues.proofs.waiting.enter_live.Given as goal

abbrev pub invariant-loop-given : goal.invariant-loop-given
invariant-loop-given l = record {
  same : (u : UserId) → deals_of u (waiting_seen l.waiting.items) ≡ deals_of u (waiting_seen l.initial.waiting.items);
  entered : (u : UserId) → gives_live (take l.given-index l.verdicts) u ≡ true → has_entry u (waiting_seen l.waiting.items) ≡ true;
}
