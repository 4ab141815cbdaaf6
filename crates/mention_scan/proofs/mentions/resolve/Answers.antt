use Rattle.std.proofs.Common.{◌≡◌, ◌∙◌, ◌&&◌, Bool, true, false, refl, List, All, ap, filter, map, sym, subst}
use Rattle.std.specs.List.{list_any}
use Rattle.std.proofs.lemmas.List.Elements.{All-filter, filter_agree}
use Rattle.chat_model.specs.declared.ids.GroupId.{GroupId}
use Rattle.chat_model.specs.declared.ids.UserId.{UserId}
use Rattle.mention_scan.specs.declared.span.Span.{Span}
use Rattle.mention_scan.specs.Division.{LiesWithin, spans_of}
use Rattle.mention_scan.specs.Mentions.{inner_of, is_channel_wildcard, is_group_named, is_group_span, is_mentioned, is_topic_wildcard, is_user_span, may_name, speaks_of}
use Rattle.chat_model.specs.declared.mentions.GroupName.{GroupName}
use Rattle.chat_model.specs.declared.mentions.UserName.{UserName}
use Rattle.chat_model.specs.Ascending.{ascending_once_by, is_ascending_by}
use Rattle.chat_model.proofs.OnceEach.{ascending_once-ascending}
use Rattle.mention_scan.proofs.Judging.{list_any-filter}
use Rattle.mention_scan.proofs.Within.{spans_of-within}
use Rattle.mention_scan.proofs.mentions.resolve.Goals as goal

pub naming_spans-requires : goal.naming_spans-requires
naming_spans-requires c =
    record { within = subst (All (LiesWithin c.args.text.now)) (sym c.requires.spans_of_the_text) (spans_of-within c.args.text.now c.utf8.text) }

pub named_users-requires : goal.named_users-requires
named_users-requires c =
    let text = c.args.text.now in
    let p : Span → Bool = λ s. is_user_span s && may_name c.args.users.now (inner_of text s) in
    let within : All (LiesWithin text) c.args.spans.now = subst (All (LiesWithin text)) (sym c.requires.spans_of_the_text) (spans_of-within text c.utf8.text) in
    record { within = subst (All (LiesWithin text)) (sym (c.as_slice.ensures ∙ c.in_ok-naming.ensures)) (All-filter p (LiesWithin text) c.args.spans.now within) }

pub named_groups-requires : goal.named_groups-requires
named_groups-requires c =
    record { within = subst (All (LiesWithin c.args.text.now)) (sym c.requires.spans_of_the_text) (spans_of-within c.args.text.now c.utf8.text) }

pub has_channel_wildcard-requires : goal.has_channel_wildcard-requires
has_channel_wildcard-requires c =
    record { within = subst (All (LiesWithin c.args.text.now)) (sym c.requires.spans_of_the_text) (spans_of-within c.args.text.now c.utf8.text) }

pub has_topic_wildcard-requires : goal.has_topic_wildcard-requires
has_topic_wildcard-requires c =
    record { within = subst (All (LiesWithin c.args.text.now)) (sym c.requires.spans_of_the_text) (spans_of-within c.args.text.now c.utf8.text) }

and_assoc : (a b d : Bool) → ((a && b) && d) ≡ (a && (b && d))
and_assoc true b d = refl
and_assoc false b d = refl

pub returns-clause-mentions : goal.returns-clause-mentions
returns-clause-mentions c =
    let text = c.args.text.now in
    let users = c.args.users.now in
    let groups = c.args.groups.now in
    let p : Span → Bool = λ s. is_user_span s && may_name users (inner_of text s) in
    let spoken : List Span → UserName → Bool = λ ss u. list_any (λ s. speaks_of (inner_of text s) u) ss in
    let named : List Span → GroupName → Bool = λ ss g. list_any (λ s. is_group_span s && is_group_named (inner_of text s) g) ss in
    let chosen : c.as_slice.result.now ≡ filter p (spans_of text) =
    c.as_slice.ensures ∙ c.in_ok-naming.ensures ∙ ap (filter p) c.requires.spans_of_the_text in
    let same : filter (spoken c.as_slice.result.now) users ≡ filter (is_mentioned text users) users =
    filter_agree (spoken c.as_slice.result.now) (is_mentioned text users)
    (λ u. ap (λ ss. spoken ss u) chosen ∙ list_any-filter p (λ s. speaks_of (inner_of text s) u) (spans_of text)
    ∙ (λ i. list_any (λ s. and_assoc (is_user_span s) (may_name users (inner_of text s)) (speaks_of (inner_of text s) u) i) (spans_of text))) users in
    let user_ids = c.ascending_users.ensures ∙ ap (ascending_once_by (λ (u : UserId). u.0)) (c.in_ok-users.ensures ∙ ap (map (λ (u : UserName). u.id)) same) in
    let group_ids = c.ascending_groups.ensures ∙ ap (ascending_once_by (λ (g : GroupId). g.0)) (c.in_ok-groups.ensures ∙ ap (λ ss. map (λ (g : GroupName). g.id) (filter (named ss) groups)) c.requires.spans_of_the_text) in
    let channel = c.has_channel_wildcard.ensures ∙ ap (λ ss. list_any (λ s. is_user_span s && is_channel_wildcard (inner_of text s)) ss) c.requires.spans_of_the_text in
    let topic = c.has_topic_wildcard.ensures ∙ ap (λ ss. list_any (λ s. is_user_span s && is_topic_wildcard (inner_of text s)) ss) c.requires.spans_of_the_text in
    rw (user_ids, group_ids, channel, topic) refl

pub returns-clause-ascending_users : goal.returns-clause-ascending_users
returns-clause-ascending_users c =
    ap (is_ascending_by (λ (u : UserId). u.0)) c.ascending_users.ensures ∙ ascending_once-ascending (λ (u : UserId). u.0) c.in_ok-users.users

pub returns-clause-ascending_groups : goal.returns-clause-ascending_groups
returns-clause-ascending_groups c =
    ap (is_ascending_by (λ (g : GroupId). g.0)) c.ascending_groups.ensures ∙ ascending_once-ascending (λ (g : GroupId). g.0) c.in_ok-groups.groups
