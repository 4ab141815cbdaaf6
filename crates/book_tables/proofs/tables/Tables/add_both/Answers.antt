use Rattle.std.proofs.Common.{◌≡◌, ◌++◌, List, refl, ap, ◌∙◌}
use Rattle.std.specs.Prelude.{option_to_list}
use Rattle.chat_model.specs.declared.facts.Facts.{Facts}
use Rattle.chat_model.specs.declared.mentions.Mentions.{Mentions}
use Rattle.chat_model.specs.declared.trigger.Way.{Way}
use Rattle.chat_model.specs.declared.trigger.Way.TheVariants.{Mail, Push}
use Rattle.chat_model.specs.Triggers.{trigger_of}
use Rattle.notice_ledger.specs.Past.Values.{is_one_of, settings}
use Rattle.notice_ledger.specs.Past.Triggers.{trigger}
use Rattle.book_tables.specs.declared.tables.Waiting.{Waiting}
use Rattle.book_tables.specs.Tables.{sent_after}
use Rattle.book_tables.proofs.Following.{both_added, owed_way, facts_settings, trigger-found}
use Rattle.book_tables.proofs.tables.Tables.add_both.Goals as goal

pub returns : goal.returns
returns c = λ past at h g goes.
    let k = c.args.message.now in let u = c.args.user in let gathered = c.args.gathered.now in
    let found : (w : Way) → trigger_of c.facts-facts.result w ≡ trigger past (sent_after past k) k.text u w = λ w.
    ap (λ (f : Facts). trigger_of f w) (c.facts-facts.ensures past h g goes)
    ∙ trigger-found past k u w gathered.mentioned.topic_wildcard (is_one_of gathered.participants.users.items u) (ap (λ (m : Mentions). m.topic_wildcard) g.mentioned) (λ is. g.participants is u) in
    let settled : c.facts-facts.result.settings ≡ settings past u = ap (λ (f : Facts). f.settings) (c.facts-facts.ensures past h g goes) ∙ facts_settings past (sent_after past k) k.text u in
    let way = λ (w : Way). option_to_list (owed_way past at k u w) in
    c.in_ok-add_notice-2.ensures past at k h g.mentioned (found Push) settled
    ∙ (ap (λ (ws : List Waiting). ws ++ way Push) (c.in_ok-add_notice.ensures past at k h g.mentioned (found Mail) settled)
    ∙ both_added past at k u c.args.owed.now.items (owed_way past at k u Mail) (owed_way past at k u Push) refl refl)
