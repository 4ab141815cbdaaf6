use Rattle.std.proofs.Common.{◌≡◌, ◌≤◌, ◌+◌, length, map, take}
use Rattle.book_tables.specs.Notices.{is_named, readied_if}
use Rattle.book_tables.specs.Batched.{WithNotices, AreReadied, period_in}
use Rattle.book_tables.proofs.tables.Tables.ready_named.Given as goal

abbrev pub invariant-loop-deal : goal.invariant-loop-deal
invariant-loop-deal l = record {
  rest : WithNotices l.fn.self l.self;
  waiting : l.self.waiting.items ≡ map (λ w. readied_if (is_named l.user (take l.deal-index l.deals) w) w) l.fn.self.waiting.items;
  batches : AreReadied (period_in l.fn.self.preferences.items) l.at l.self.waiting.items l.fn.self.batches l.self.batches;
  room : length l.deals ≤ l.self.batches.spare + l.deal-index;
}
