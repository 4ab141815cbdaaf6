use Rattle.std.proofs.Common.{◌≡◌, ℕ, ◌+◌, List, length, refl, ap, ◌∙◌, arith}
use Rattle.chat_model.specs.declared.mentions.GroupName.{GroupName}
use Rattle.notice_ledger.specs.Past.Values.{groups}
use Rattle.book_tables.proofs.Standing.{groups_long}
use Rattle.book_tables.proofs.Following.{no-changes_group}
use Rattle.book_tables.proofs.Steps.{as_made}
use Rattle.book_tables.proofs.tables.Tables.prepare_group.Goals as goal

pub returns : goal.returns
returns c = λ past h next.
    let t = c.args.self.now in
    let many : c.len.result ≡ length t.groups.items = omega (arith, c.len.ensures, t.groups.ok.0) in record {
      at = refl;
      changes = as_made _ c.new.ensures.items (no-changes_group t past h c.args.at c.args.name.now c.args.members.now next);
      effect = (
        ap (λ n. let g : GroupName = record { id = record { 0 = n + 1 }; name = c.in_ok-copy.field-0 } in g) (many ∙ groups_long t past h)
            ∙ ap (λ (x : List ℕ). let g : GroupName = record { id = record { 0 = length (groups past) + 1 }; name = x } in g) c.in_ok-copy.ensures,
        c.from_ascending-members.ensures ∙ c.in_ok-copy-2.ensures,
      );
    }
