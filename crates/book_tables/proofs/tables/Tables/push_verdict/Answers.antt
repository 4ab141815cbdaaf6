use Rattle.std.proofs.Common.{◌≡◌, ◌++◌, ◌∷◌, [], List, Some, sym, ap, ◌∙◌}
use Rattle.std.specs.Prelude.{option_map}
use Rattle.chat_model.specs.declared.event.Stamped.{Stamped}
use Rattle.chat_model.specs.declared.trigger.Way.TheVariants.{Push}
use Rattle.notice_ledger.specs.Lawful.{lawful}
use Rattle.notice_ledger.specs.Past.Values.{settings}
use Rattle.notice_ledger.specs.Past.Owed.{Notice, notice_to, account, cause_of_bar}
use Rattle.notice_ledger.proofs.LawfulLemmas.{lawful-next}
use Rattle.notice_ledger.proofs.PushTurns.{account-pushed, notice_to-append}
use Rattle.book_tables.specs.declared.tables.Waiting.{Waiting}
use Rattle.book_tables.specs.Tables.{push_turn}
use Rattle.book_tables.proofs.NextPush.{handed-judged, dropped-judged, next_notice, next_is, next_judged}
use Rattle.book_tables.proofs.tables.Tables.push_verdict.Goals as goal

pub returns-in-Hand : goal.returns-in-Hand
returns-in-Hand c = λ j at stands next.
    let t = c.args.self.now in let u = c.args.user in let m = c.args.message in let past = lawful j in let s = push_turn at u m in let n = next_notice t u m c.requires j stands in
    let after = lawful-next j s next in let found = c.next_push-notice.ensures j stands in
    let owed : notice_to (past ++ s ∷ []) u m Push ≡ Some found.notice = notice_to-append past s u m Push found.notice found.owed in
    let judged_so = sym (next_judged t u m c.requires j stands c.next_push-notice.result found) ∙ (sym (c.judge_push.ensures past stands) ∙ c.in-Hand.is) in (
      ap (λ (k : List Stamped). account k u m Push) after ∙ (account-pushed past at u m n (next_is t u m c.requires j stands) ∙ handed-judged (cause_of_bar past n) (settings past u) judged_so),
      ap (λ (k : List Stamped). option_map (λ (n : Notice). n.trigger) (notice_to k u m Push)) after
          ∙ (ap (option_map (λ (n : Notice). n.trigger)) owed ∙ ap (λ (w : Waiting). Some w.trigger) (sym found.kept)),
    )

pub returns-in-Drop : goal.returns-in-Drop
returns-in-Drop c = λ j at stands next.
    let t = c.args.self.now in let u = c.args.user in let m = c.args.message in let past = lawful j in let s = push_turn at u m in let n = next_notice t u m c.requires j stands in
    let found = c.next_push-notice.ensures j stands in
    let judged_so = sym (next_judged t u m c.requires j stands c.next_push-notice.result found) ∙ (sym (c.judge_push.ensures past stands) ∙ c.in-Drop.is) in
    ap (λ (k : List Stamped). account k u m Push) (lawful-next j s next)
    ∙ (account-pushed past at u m n (next_is t u m c.requires j stands) ∙ dropped-judged (cause_of_bar past n) (settings past u) c.in-Drop.cause judged_so)
