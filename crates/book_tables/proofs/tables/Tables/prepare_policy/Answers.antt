use Rattle.std.proofs.Common.{List, ℕ, ap, ◌∙◌}
use Rattle.book_tables.specs.declared.prepared.Effect.TheVariants as effect
use Rattle.book_tables.specs.declared.preferences.Preference.TheVariants as preference
use Rattle.book_tables.proofs.Following.{no-changes_policy}
use Rattle.book_tables.proofs.Steps.{as_made}
use Rattle.book_tables.proofs.tables.Tables.prepare_policy.Goals as goal

pub returns : goal.returns
returns c = λ past h next.
    let is = c.without_rows.ensures in
    record {
      at = is.0;
      changes = as_made _ is.1 (no-changes_policy c.args.self.now past h c.args.at c.args.user c.args.channel c.args.topic.now c.args.policy next);
      effect = is.2 ∙ ap (λ (t : List ℕ). effect.Preference c.args.user (preference.Policy c.args.channel t c.args.policy)) c.in_ok-copy.ensures;
    }
