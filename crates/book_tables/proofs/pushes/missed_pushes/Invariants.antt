use Rattle.std.proofs.Common.{◌≡◌, map, take}
use Rattle.std.specs.Prelude.{filter}
use Rattle.std.specs.List.{flat_map}
use Rattle.chat_model.specs.declared.trigger.Way.TheVariants.{Push}
use Rattle.book_tables.specs.Notices.{is_undecided_at, IsInOrder}
use Rattle.book_tables.specs.Pushes.{push_of}
use Rattle.book_tables.proofs.pushes.missed_pushes.Given as goal

abbrev pub invariant-loop-deal : goal.invariant-loop-deal
invariant-loop-deal l = IsInOrder l.waiting → l.pushes.items ≡ flat_map (λ k. map push_of (filter (is_undecided_at k l.user Push) l.waiting)) (take l.deal-index l.deals)
