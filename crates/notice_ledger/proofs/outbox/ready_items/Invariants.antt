use Rattle.std.proofs.Common.{◌≡◌, take}
use Rattle.std.specs.List.{filter_map}
use Rattle.notice_ledger.specs.Plain.{ready_item_kept}
use Rattle.notice_ledger.proofs.outbox.ready_items.Given as goal

abbrev pub invariant-loop-row : goal.invariant-loop-row
invariant-loop-row l = l.items ≡ filter_map (ready_item_kept l.past) (take l.row-index l.rows)
