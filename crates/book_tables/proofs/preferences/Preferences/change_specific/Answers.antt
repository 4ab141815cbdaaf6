use Rattle.std.proofs.Common.{◌==◌, cond, ap, ◌∙◌}
use Rattle.std.specs.Prelude.{Some}
use Rattle.std.specs.HashMap.{get_by}
use Rattle.chat_model.specs.declared.ids.ChannelId.{ChannelId}
use Rattle.chat_model.specs.declared.policy.Specific.{Specific}
use Rattle.chat_model.specs.Settings.{changed_specific}
use Rattle.book_tables.specs.Preferences.{preferred}
use Rattle.book_tables.proofs.PreferenceLemmas.{specific-changed}
use Rattle.book_tables.proofs.preferences.Preferences.change_specific.Goals as goal

pub returns : goal.returns
returns c =
    let kept = c.args.self.now.channels in let channel = c.args.channel in
    ap (λ (f : ChannelId → Specific). record (preferred c.args.self.now) { specific = f })
    (λ i d. specific-changed kept c.keep.new.kept channel c.args.change
    (λ e. c.keep.ensures.0 e ∙ ap (λ (s : Specific). cond (channel.0 == e.0) (Some s) (get_by (λ (k : ChannelId). e.0 == k.0) kept)) (c.changed-specific.ensures ∙ ap (changed_specific c.args.change) c.specific.ensures)) d i)
