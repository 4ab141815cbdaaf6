use Rattle.std.proofs.Common.{List, ℕ, ap}
use Rattle.chat_model.specs.declared.ids.ChannelId.{ChannelId}
use Rattle.chat_model.specs.declared.policy.Policy.{Policy}
use Rattle.book_tables.specs.Preferences.{preferred}
use Rattle.book_tables.proofs.PreferenceLemmas.{policy-changed}
use Rattle.book_tables.proofs.preferences.Preferences.set_policy.Goals as goal

pub returns : goal.returns
returns c =
    ap (λ (f : ChannelId → List ℕ → Policy). record (preferred c.args.self.now) { policy = f })
    (λ i d topic. policy-changed c.args.self.now.topics c.keep.new.kept c.args.topic c.args.policy c.keep.ensures.0 (record { channel = d; topic = topic }) i)
