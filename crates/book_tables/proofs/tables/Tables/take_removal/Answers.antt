use Rattle.std.proofs.Common.{◌≡◌, ◌+◌, ◌-◌, length, refl, ap, ◌∙◌, arith}
use Rattle.std.specs.Prelude.{filter, drop, min, ◌^◌}
use Rattle.book_tables.specs.Bars.{is_removed}
use Rattle.book_tables.proofs.Kept.{filter-both}
use Rattle.book_tables.proofs.tables.Tables.take_removal.Goals as goal

pub returns : goal.returns
returns c =
    let old = c.args.self.now.active in let new = c.take_removed.new.active in let test = is_removed c.args.user c.args.messages.now in
    let taken = c.take_removed.ensures c.requires.sound.active_order c.requires.sound.active_numbered in record {
      rest = refl;
      items = ap (λ q. q.items) c.drop_oldest.ensures;
      active = taken;
      outbox = c.push_reserved.ensures.items;
      written =
          let fewer : c.saturating_sub-removed.result ≡ length (filter test old.items) =
          omega (arith, c.saturating_sub-removed.ensures, c.len-before.ensures, c.len.ensures, old.ok.0, new.ok.0, ap length taken, filter-both test old.items) in
          c.saturating_add-self.ensures ∙ ap (λ n. min (c.args.self.now.written + n) (2 ^ 64 - 1)) fewer;
    }
