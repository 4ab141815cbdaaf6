use Rattle.std.proofs.Common.{Bool, false, ◌==◌, ap, ◌∙◌}
use Rattle.std.specs.Prelude.{List, unwrap_or}
use Rattle.notice_ledger.specs.Past.Values.{numbered}
use Rattle.notice_ledger.specs.Plain.{facts_heard}
use Rattle.notice_ledger.proofs.facts.Heard.facts.Goals as goal

pub returns : goal.returns
unfolding facts_heard
returns c = λ i. record {
  own = c.args.user.0 == c.args.self.now.sender.0;
  bot = (c.is_bot.ensures ∙ ap (λ (bots : List Bool). unwrap_or (numbered c.args.user.0 bots) false) c.deref.ensures.value) i;
  sender_muted = c.has_muted.ensures i;
  recipient = c.is_recipient.ensures i;
  direct = c.is_direct.ensures i;
  mentioned = c.is_mentioned.ensures i;
  channel_wildcard = c.wildcard_counts.ensures i;
  topic_wildcard = c.wildcard_counts-2.ensures i;
  participant = c.is_participant_of.ensures i;
  policy = c.policy_for.ensures i;
  specific = c.specific_for.ensures i;
  settings = c.settings.ensures i;
}
