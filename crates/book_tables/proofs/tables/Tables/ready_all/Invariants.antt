use Rattle.std.proofs.Common.{◌≡◌, ◌≤◌, ◌+◌, ◌++◌, length, map, take, drop}
use Rattle.book_tables.specs.Notices.{readied}
use Rattle.book_tables.specs.Batched.{WithNotices, AreReadied, period_in}
use Rattle.book_tables.proofs.tables.Tables.ready_all.Given as goal

abbrev pub invariant-loop-place : goal.invariant-loop-place
invariant-loop-place l = record {
  rest : WithNotices l.fn.self l.self;
  waiting : l.self.waiting.items ≡ map readied (take l.place l.fn.self.waiting.items) ++ drop l.place l.fn.self.waiting.items;
  batches : AreReadied (period_in l.fn.self.preferences.items) l.at l.self.waiting.items l.fn.self.batches l.self.batches;
  room : length l.fn.self.waiting.items ≤ l.self.batches.spare + l.place;
}
