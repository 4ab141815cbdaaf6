use Rattle.std.proofs.Common.{sym, ap, ◌∙◌, subst, List, ℕ}
use Rattle.chat_model.specs.declared.event.Event.TheVariants.{Asked}
use Rattle.chat_model.specs.declared.request.Request.{Request}
use Rattle.book_tables.specs.Prepared.{IsNext, Follows}
use Rattle.book_tables.specs.declared.prepared.Effect.TheVariants as effect
use Rattle.book_tables.proofs.Following.{no-changes_member, no-changes_channel, no-changes_subscription, no-changes_specific, no-changes_mute}
use Rattle.book_tables.proofs.Steps.{as_made}
use Rattle.book_tables.proofs.tables.Tables.prepare_asked.Goals as goal

pub returns-in-Member : goal.returns-in-Member
returns-in-Member c = λ past h next.
    let is = c.without_rows.ensures in
    subst (λ (r : Request). Follows past (record { at = c.args.at; event = Asked r }) c.without_rows.result) (sym c.in-Member.is)
    (record { at = is.0; changes = as_made _ is.1 (no-changes_member c.args.self.now past h c.args.at c.in-Member.group c.in-Member.user c.in-Member.on (subst (λ (r : Request). IsNext past (record { at = c.args.at; event = Asked r })) c.in-Member.is next)); effect = is.2 })

pub returns-in_ok-name-in-AddChannel : goal.returns-in_ok-name-in-AddChannel
returns-in_ok-name-in-AddChannel c = λ past h next.
    let is = c.without_rows-in-AddChannel.ensures in
    subst (λ (r : Request). Follows past (record { at = c.args.at; event = Asked r }) c.without_rows-in-AddChannel.result) (sym c.in-AddChannel.is)
    (record { at = is.0; changes = as_made _ is.1 (no-changes_channel c.args.self.now past h c.args.at c.in-AddChannel.name (subst (λ (r : Request). IsNext past (record { at = c.args.at; event = Asked r })) c.in-AddChannel.is next)); effect = is.2 ∙ ap (λ (name : List ℕ). effect.Channel name) c.in_ok-name-in-AddChannel.ensures })

pub returns-in-Subscribe : goal.returns-in-Subscribe
returns-in-Subscribe c = λ past h next.
    let is = c.without_rows-in-Subscribe.ensures in
    subst (λ (r : Request). Follows past (record { at = c.args.at; event = Asked r }) c.without_rows-in-Subscribe.result) (sym c.in-Subscribe.is)
    (record { at = is.0; changes = as_made _ is.1 (no-changes_subscription c.args.self.now past h c.args.at c.in-Subscribe.user c.in-Subscribe.channel c.in-Subscribe.on (subst (λ (r : Request). IsNext past (record { at = c.args.at; event = Asked r })) c.in-Subscribe.is next)); effect = is.2 })

pub returns-in-SetChannel : goal.returns-in-SetChannel
returns-in-SetChannel c = λ past h next.
    let is = c.without_rows-in-SetChannel.ensures in
    subst (λ (r : Request). Follows past (record { at = c.args.at; event = Asked r }) c.without_rows-in-SetChannel.result) (sym c.in-SetChannel.is)
    (record { at = is.0; changes = as_made _ is.1 (no-changes_specific c.args.self.now past h c.args.at c.in-SetChannel.user c.in-SetChannel.channel c.in-SetChannel.change (subst (λ (r : Request). IsNext past (record { at = c.args.at; event = Asked r })) c.in-SetChannel.is next)); effect = is.2 })

pub returns-in-Mute : goal.returns-in-Mute
returns-in-Mute c = λ past h next.
    let is = c.without_rows-in-Mute.ensures in
    subst (λ (r : Request). Follows past (record { at = c.args.at; event = Asked r }) c.without_rows-in-Mute.result) (sym c.in-Mute.is)
    (record { at = is.0; changes = as_made _ is.1 (no-changes_mute c.args.self.now past h c.args.at c.in-Mute.user c.in-Mute.other c.in-Mute.on (subst (λ (r : Request). IsNext past (record { at = c.args.at; event = Asked r })) c.in-Mute.is next)); effect = is.2 })
