use Rattle.std.proofs.Common.{List, ℕ, ap}
use Rattle.chat_model.specs.declared.ids.ChannelId.{ChannelId}
use Rattle.chat_model.specs.declared.policy.Policy.{Policy}
use Rattle.book_tables.specs.Preferences.{preferred}
use Rattle.book_tables.proofs.PreferenceLemmas.{policy-same}
use Rattle.book_tables.proofs.preferences.Preferences.reserve_topic.Goals as goal

pub returns-clause-same : goal.returns-clause-same
returns-clause-same c =
    ap (λ (f : ChannelId → List ℕ → Policy). record (preferred c.args.self.now) { policy = f }) (policy-same c.args.self.now.topics c.reserve.new.self c.reserve.ensures.entries.2)

pub returns-in_err-reserve-clause-same : goal.returns-in_err-reserve-clause-same
returns-in_err-reserve-clause-same c =
    ap (λ (f : ChannelId → List ℕ → Policy). record (preferred c.args.self.now) { policy = f }) (policy-same c.args.self.now.topics c.reserve.new.self c.reserve.ensures.entries.2)
