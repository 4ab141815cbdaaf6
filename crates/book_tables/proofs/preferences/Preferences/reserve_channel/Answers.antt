use Rattle.std.proofs.Common.{ap}
use Rattle.chat_model.specs.declared.ids.ChannelId.{ChannelId}
use Rattle.chat_model.specs.declared.policy.Specific.{Specific}
use Rattle.book_tables.specs.Preferences.{preferred}
use Rattle.book_tables.proofs.PreferenceLemmas.{specific-same}
use Rattle.book_tables.proofs.preferences.Preferences.reserve_channel.Goals as goal

pub returns-clause-same : goal.returns-clause-same
returns-clause-same c =
    ap (λ (f : ChannelId → Specific). record (preferred c.args.self.now) { specific = f }) (specific-same c.args.self.now.channels c.reserve.new.self c.reserve.ensures.entries.2)

pub returns-in_err-reserve-clause-same : goal.returns-in_err-reserve-clause-same
returns-in_err-reserve-clause-same c =
    ap (λ (f : ChannelId → Specific). record (preferred c.args.self.now) { specific = f }) (specific-same c.args.self.now.channels c.reserve.new.self c.reserve.ensures.entries.2)
