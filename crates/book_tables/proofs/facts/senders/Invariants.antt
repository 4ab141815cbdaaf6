use Rattle.std.proofs.Common.{◌≡◌, ◌+◌, ◌||◌, drop}
use Rattle.chat_model.specs.declared.ids.UserId.{UserId}
use Rattle.notice_ledger.specs.Past.Values.{is_one_of}
use Rattle.book_tables.specs.Gathered.{took_part_from}
use Rattle.book_tables.proofs.facts.senders.Given as goal

abbrev pub invariant-loop-i : goal.invariant-loop-i
invariant-loop-i l = (u : UserId) → (is_one_of l.senders.items u || took_part_from l.deleted u l.channel l.topic (1 + l.i) (drop l.i l.messages)) ≡ took_part_from l.deleted u l.channel l.topic 1 l.messages
