use Rattle.std.proofs.Common.{◌≡◌, ◌++◌, ◌&&◌, List, map, filter, refl, sym, ap, ◌∙◌, subst}
use Rattle.chat_model.specs.declared.row.RowChange.{RowChange}
use Rattle.chat_model.specs.declared.ids.UserId.{UserId}
use Rattle.chat_model.specs.declared.deal.UserVerdict.{UserVerdict}
use Rattle.chat_model.specs.Outcomes.{is_idle, is_live, gives_idle, gives_live}
use Rattle.notice_ledger.specs.Past.Values.{is_one_of}
use Rattle.book_tables.specs.declared.tables.Waiting.{Waiting}
use Rattle.book_tables.specs.Notices.{is_undecided_of, of_deal, dealt_to, IsInOrder}
use Rattle.book_tables.specs.UserSets.{users_in}
use Rattle.book_tables.specs.Prepared.{puts_where}
use Rattle.book_tables.specs.Pushes.{push_of, is_readied_push}
use Rattle.book_tables.proofs.Following.{changes-dealt}
use Rattle.book_tables.proofs.ReadyPushes.{items-dealt}
use Rattle.book_tables.proofs.Ordered.{in_order, given_idle, given_live}
use Rattle.book_tables.proofs.Steps.{as_made}
use Rattle.book_tables.proofs.tables.Tables.prepare_dealt.Goals as goal

pub returns : goal.returns
returns c = λ past h next.
    let t = c.args.self.now in let at = c.args.at in let k = c.args.deal in let verdicts = c.args.verdicts.now in
    let idle = users_in c.set_of-idle.result in let live = users_in c.set_of-live.result in
    let are_idle : (u : UserId) → is_one_of idle u ≡ gives_idle verdicts u = λ u.
    c.set_of-idle.ensures u ∙ (ap (λ (us : List UserId). is_one_of us u) (c.in_ok-idle_users.ensures ∙ ap (λ (vs : List UserVerdict). map (λ v. v.user) (filter (λ v. is_idle v.verdict) vs)) c.as_slice.ensures) ∙ given_idle verdicts u) in
    let are_live : (u : UserId) → is_one_of live u ≡ gives_live verdicts u = λ u.
    c.set_of-live.ensures u ∙ (ap (λ (us : List UserId). is_one_of us u) (c.in_ok-live_users.ensures ∙ ap (λ (vs : List UserVerdict). map (λ v. v.user) (filter (λ v. is_live v.verdict) vs)) c.as_slice-2.ensures) ∙ given_live verdicts u) in
    let order : IsInOrder c.deref.result.now = subst IsInOrder (sym c.deref.ensures.value) (in_order t past h) in
    let order_again : IsInOrder c.deref-2.result.now = subst IsInOrder (sym c.deref-2.ensures.value) (in_order t past h) in
    record {
      at = refl;
      changes = as_made _ (c.in_ok-put_dealt.ensures order
          ∙ (ap (λ (cs : List RowChange). cs ++ puts_where (is_undecided_of k) (dealt_to idle live) c.deref.result.now) c.new-changes.ensures.items
          ∙ ap (λ (ws : List Waiting). puts_where (is_undecided_of k) (dealt_to idle live) ws) c.deref.ensures.value))
          (changes-dealt t past h at k verdicts idle live are_idle are_live next);
      effect = (
        refl,
        are_idle,
        are_live,
        items-dealt t past h at k verdicts idle live are_idle are_live _ _ c.once_each-pushes.ensures
            (c.in_ok-pushes.ensures order_again ∙ ap (λ (ws : List Waiting). map push_of (filter (λ w. of_deal k w && is_readied_push idle live w) ws)) c.deref-2.ensures.value),
      );
    }
