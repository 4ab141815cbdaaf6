use Rattle.std.proofs.Common.{◌&&◌, ◌++◌, false, not, take, map, get_or, sym, ap, ◌∙◌, subst, arith}
use Rattle.std.specs.Prelude.{filter}
use Rattle.std.proofs.lemmas.List.{take_more, take_all}
use Rattle.chat_model.specs.declared.ids.DealNo.{DealNo}
use Rattle.chat_model.specs.declared.trigger.Way.TheVariants.{Mail, Push}
use Rattle.book_tables.specs.declared.tables.Waiting.{Waiting}
use Rattle.book_tables.specs.Notices.{is_undecided_at, is_named, is_undecided, moved, put_all_in_order, IsInOrder, AreSorted}
use Rattle.book_tables.proofs.Sought.{order-filter, clear-next, nobody-cleared}
use Rattle.book_tables.proofs.Placing.{sorted-put_all, cleared-more, nobody-named_undecided}
use Rattle.book_tables.proofs.waiting.clear_named.Goals as goal

pub loop-deal-init : goal.loop-deal-init
loop-deal-init c = record {
  waiting = λ order. sym (nobody-cleared c.args.user c.args.waiting.now.items);
  cleared = λ order sorted. sym (ap (λ ws. put_all_in_order (map (moved false) ws) c.args.cleared.now.items) (nobody-named_undecided c.args.user c.args.waiting.now.items));
  room = let room = c.requires in omega (arith, room);
}

pub loop-deal-preserved : goal.loop-deal-preserved
loop-deal-preserved c =
    let ws = c.args.waiting.now.items in let u = c.args.user in let ks = c.args.deals.now in let i = c.loop-deal.deal-index in
    let none : DealNo = record { 0 = 0 } in let k = get_or ks i none in
    let others = λ (w : Waiting). not (is_named u (take i ks) w && is_undecided w) in
    let no_mail = λ (w : Waiting). not (is_undecided_at k u Mail w) in
    let first : IsInOrder ws → IsInOrder c.loop-deal.waiting.items = λ order. subst IsInOrder (sym (c.loop-deal.invariant.waiting order)) (order-filter others ws order) in
    let mail = λ (order : IsInOrder ws). c.clear_one.ensures.waiting (first order) in
    let second : IsInOrder ws → IsInOrder c.clear_one.new.waiting.items = λ order. subst IsInOrder (sym (mail order)) (order-filter no_mail c.loop-deal.waiting.items (first order)) in
    record {
      waiting = λ order. c.clear_one-in-loop-deal.ensures.waiting (second order)
          ∙ (ap (filter (λ (w : Waiting). not (is_undecided_at k u Push w))) (mail order ∙ ap (filter no_mail) (c.loop-deal.invariant.waiting order))
          ∙ (clear-next u (take i ks) k ws ∙ ap (λ ds. filter (λ (w : Waiting). not (is_named u ds w && is_undecided w)) ws) (sym (take_more ks i none c.loop-deal-test.true))));
      cleared = λ order sorted.
          let vs = c.args.cleared.now.items in
          let so_far = c.loop-deal.invariant.waiting order in
          let held = c.loop-deal.invariant.cleared order sorted in
          let sorted_now = subst AreSorted (sym held) (sorted-put_all (map (moved false) (filter (λ (w : Waiting). is_named u (take i ks) w && is_undecided w) ws)) vs sorted) in
          let by_mail = c.clear_one.ensures.cleared (first order) sorted_now in
          let sorted_then = subst AreSorted (sym by_mail) (sorted-put_all (map (moved false) (filter (is_undecided_at k u Mail) c.loop-deal.waiting.items)) c.loop-deal.cleared.items sorted_now) in
          c.clear_one-in-loop-deal.ensures.cleared (second order) sorted_then
          ∙ (ap (λ xs. put_all_in_order (map (moved false) (filter (is_undecided_at k u Push) xs)) c.clear_one.new.cleared.items) (mail order ∙ ap (filter no_mail) so_far)
          ∙ (ap (put_all_in_order (map (moved false) (filter (is_undecided_at k u Push) (filter no_mail (filter others ws)))))
          (by_mail ∙ (ap (λ xs. put_all_in_order (map (moved false) (filter (is_undecided_at k u Mail) xs)) c.loop-deal.cleared.items) so_far
          ∙ ap (put_all_in_order (map (moved false) (filter (is_undecided_at k u Mail) (filter others ws)))) held))
          ∙ (cleared-more u (take i ks) k ws order vs
          ∙ ap (λ ds. put_all_in_order (map (moved false) (filter (λ (w : Waiting). is_named u ds w && is_undecided w) ws)) vs) (sym (take_more ks i none c.loop-deal-test.true)))));
      room = let mail_room = c.clear_one.ensures.room in let mail_long = c.clear_one.ensures.long in
          let push_room = c.clear_one-in-loop-deal.ensures.room in let push_long = c.clear_one-in-loop-deal.ensures.long in let room = c.loop-deal.invariant.room in
          omega (arith, mail_room, mail_long, push_room, push_long, room);
    }
