use Rattle.std.proofs.Common.{[], ◌∷◌, ◌++◌, Some, None, take, get_or, sym, ap, ◌∙◌}
use Rattle.std.specs.List.{filter_map}
use Rattle.std.proofs.lemmas.List.{take_more}
use Rattle.notice_ledger.specs.Plain.{ready_item_kept}
use Rattle.notice_ledger.proofs.SlowLemmas.{nobody}
use Rattle.notice_ledger.proofs.SlowEntries.{conversation-found, items-more, items-same}
use Rattle.notice_ledger.proofs.outbox.ready_items.Goals as goal
use Rattle.notice_ledger.proofs.outbox.ready_items.Goals.{in-Some+in_ok-conversation+in_ok-item+in_ok-push, in_default}

pub loop-row-preserved : goal.loop-row-preserved
loop-row-preserved c =
    let j = c.args.past.now in let rows = c.args.rows.now in let i = c.loop-row.row-index in
    let n = get_or rows i nobody in
    let next = take_more rows i nobody c.loop-row-test.true in
    let items = c.loop-row.items in
    let found = c.deref.result.now in
    let are = c.deref.ensures.value ∙ c.in_ok-conversations.ensures in
    elim c.match-item_at.branch [
      | in-Some+in_ok-conversation+in_ok-item+in_ok-push w ↦
          let at = w.in-Some.conversation.now in
          w.items-is
          ∙ (w.in_ok-push.ensures.ok
          ∙ ((λ k. items ++ record { conversation = w.in_ok-conversation.ensures k; item = w.in_ok-item.ensures k } ∷ [])
          ∙ (items-more j (take i rows) n items at c.loop-row.invariant (conversation-found j n found (Some at) are w.in-Some.ensures)
          ∙ ap (filter_map (ready_item_kept j)) (sym next))))
      | in_default w ↦
          w.items-is
          ∙ (items-same j (take i rows) n items c.loop-row.invariant (conversation-found j n found None are w.in_default.ensures)
          ∙ ap (filter_map (ready_item_kept j)) (sym next))
    ]
