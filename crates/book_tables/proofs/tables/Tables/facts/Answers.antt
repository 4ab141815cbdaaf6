use Rattle.std.proofs.Common.{◌==◌, ◌&&◌, not, sym, ap, ◌∙◌}
use Rattle.chat_model.specs.declared.mentions.Mentions.{Mentions}
use Rattle.notice_ledger.specs.Past.Triggers.{is_direct, facts_of}
use Rattle.book_tables.proofs.tables.Tables.facts.Goals as goal

pub returns : goal.returns
unfolding facts_of
returns c = λ past h g goes. λ i. record {
  own = c.args.user.0 == c.args.message.now.sender.0;
  bot = c.is_bot.ensures past h i;
  sender_muted = c.has_muted.ensures past h i;
  recipient = ap (λ b. b && not (c.args.user.0 == c.args.message.now.sender.0)) (sym goes) i;
  direct = c.is_direct.ensures i;
  mentioned = c.is_mentioned.ensures past c.args.message.now.text h g.mentioned i;
  channel_wildcard = (c.counts.ensures ∙ ap (λ (m : Mentions). m.channel_wildcard && not (is_direct c.args.message.now.to)) g.mentioned) i;
  topic_wildcard = (c.counts-2.ensures ∙ ap (λ (m : Mentions). m.topic_wildcard && not (is_direct c.args.message.now.to)) g.mentioned) i;
  participant = c.has.ensures i;
  policy = c.policy_for.ensures past c.args.message.now.to h g.topic i;
  specific = c.specific_for.ensures past h i;
  settings = c.settings.ensures past h i;
}
