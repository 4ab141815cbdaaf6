-- The order of the keys of rows is total, and only equal keys tie.
use Rattle.std.proofs.Common.{◌≡◌, ℕ, ◌<◌, sym, ◌∙◌, ap, refl}
use Rattle.std.specs.declared.cmp.Ordering.TheVariants.{Less, Equal}
use Rattle.std.specs.Ordering.{nat_cmp, is_eq}
use Rattle.std.specs.Cmp.{IsTotalOrder, nat_cmp_total, on_total, tied_itself}
use Rattle.std.proofs.lemmas.Cmp.{nat_list_cmp_total}
use Rattle.std.proofs.lemmas.Map.Text.{is_eq-slice_cmp}
use Rattle.std.proofs.lemmas.Slice.Eq.{bytes_eq-Decides}
use borrow.Author.Tests.{lt-ltb}
use Rattle.chat_model.specs.declared.ids.UserId.{UserId}
use Rattle.chat_model.specs.declared.ids.MessageId.{MessageId}
use Rattle.chat_model.specs.declared.ids.EntryNo.{EntryNo}
use Rattle.chat_model.specs.declared.trigger.Way.{Way}
use Rattle.chat_model.specs.declared.trigger.Way.TheVariants.{Mail, Push}
use Rattle.chat_model.specs.declared.row.RowKey.{RowKey}
use Rattle.chat_model.specs.declared.row.RowKey.TheVariants as key
use Rattle.chat_model.specs.Rows.{key_cmp, key_place, way_place}

pub key_cmp_total : IsTotalOrder key_cmp
unfolding key_cmp
key_cmp_total = on_total key_place nat_list_cmp_total

pub key_cmp_itself : (k : RowKey) → key_cmp k k ≡ Equal
key_cmp_itself k = tied_itself key_cmp_total k

same_way : (v w : Way) → way_place v ≡ way_place w → v ≡ w
same_way Mail Mail e = refl
same_way Push Push e = refl
same_way v w e = cc

same_place : (a b : RowKey) → key_place a ≡ key_place b → a ≡ b
same_place (key.User u) (key.User v) e =
    let h : u.0 ≡ v.0 = cc in ap (λ n. key.User (record { 0 = n })) h
same_place (key.Message m) (key.Message n) e =
    let h : m.0 ≡ n.0 = cc in ap (λ i. key.Message (record { 0 = i })) h
same_place (key.Pending u m v) (key.Pending t n w) e =
    let users : u.0 ≡ t.0 = cc in
    let messages : m.0 ≡ n.0 = cc in
    let places : way_place v ≡ way_place w = cc in
    (λ i. key.Pending (record { 0 = users i }) (record { 0 = messages i }) (same_way v w places i))
same_place (key.Active u m) (key.Active v n) e =
    let users : u.0 ≡ v.0 = cc in
    let messages : m.0 ≡ n.0 = cc in
    (λ i. key.Active (record { 0 = users i }) (record { 0 = messages i }))
same_place (key.Outbox m) (key.Outbox n) e =
    let h : m.0 ≡ n.0 = cc in ap (λ i. key.Outbox (record { 0 = i })) h
same_place a b e = cc

pub same_key : (a b : RowKey) → key_cmp a b ≡ Equal → a ≡ b
unfolding key_cmp
same_key a b e =
    same_place a b ((bytes_eq-Decides (key_place a) (key_place b)).0 (sym (is_eq-slice_cmp (key_place a) (key_place b)) ∙ ap is_eq e))

-- ---- the order of the keys of one table

less : (m n : ℕ) → m < n → nat_cmp m n ≡ Less
less m n h = rw (lt-ltb m n h) refl

tied : (n : ℕ) → nat_cmp n n ≡ Equal
tied n = tied_itself nat_cmp_total n

pub users_ascend : (u v : UserId) → u.0 < v.0 → key_cmp (key.User u) (key.User v) ≡ Less
unfolding key_cmp
users_ascend u v h = rw (less u.0 v.0 h) refl

pub messages_ascend : (m n : MessageId) → m.0 < n.0 → key_cmp (key.Message m) (key.Message n) ≡ Less
unfolding key_cmp
messages_ascend m n h = rw (less m.0 n.0 h) refl

pub outbox_ascends : (m n : EntryNo) → m.0 < n.0 → key_cmp (key.Outbox m) (key.Outbox n) ≡ Less
unfolding key_cmp
outbox_ascends m n h = rw (less m.0 n.0 h) refl

pub pending_by_user : (u v : UserId) (m n : MessageId) (w x : Way) → u.0 < v.0 → key_cmp (key.Pending u m w) (key.Pending v n x) ≡ Less
unfolding key_cmp
pending_by_user u v m n w x h = rw (less u.0 v.0 h) refl

pub pending_by_message : (u : UserId) (m n : MessageId) (w x : Way) → m.0 < n.0 → key_cmp (key.Pending u m w) (key.Pending u n x) ≡ Less
unfolding key_cmp
pending_by_message u m n w x h = rw (tied u.0, less m.0 n.0 h) refl

pub pending_by_way : (u : UserId) (m : MessageId) → key_cmp (key.Pending u m Mail) (key.Pending u m Push) ≡ Less
unfolding key_cmp
pending_by_way u m = rw (tied u.0, tied m.0) refl

pub active_by_user : (u v : UserId) (m n : MessageId) → u.0 < v.0 → key_cmp (key.Active u m) (key.Active v n) ≡ Less
unfolding key_cmp
active_by_user u v m n h = rw (less u.0 v.0 h) refl

pub active_by_message : (u : UserId) (m n : MessageId) → m.0 < n.0 → key_cmp (key.Active u m) (key.Active u n) ≡ Less
unfolding key_cmp
active_by_message u m n h = rw (tied u.0, less m.0 n.0 h) refl

-- ---- the order of the tables

pub user_below_message : (u : UserId) (m : MessageId) → key_cmp (key.User u) (key.Message m) ≡ Less
unfolding key_cmp
user_below_message u m = refl

pub user_below_pending : (u v : UserId) (m : MessageId) (w : Way) → key_cmp (key.User u) (key.Pending v m w) ≡ Less
unfolding key_cmp
user_below_pending u v m w = refl

pub user_below_outbox : (u : UserId) (n : EntryNo) → key_cmp (key.User u) (key.Outbox n) ≡ Less
unfolding key_cmp
user_below_outbox u n = refl

pub message_below_pending : (m n : MessageId) (u : UserId) (w : Way) → key_cmp (key.Message m) (key.Pending u n w) ≡ Less
unfolding key_cmp
message_below_pending m n u w = refl

pub user_below_active : (u v : UserId) (m : MessageId) → key_cmp (key.User u) (key.Active v m) ≡ Less
unfolding key_cmp
user_below_active u v m = refl

pub message_below_active : (m n : MessageId) (u : UserId) → key_cmp (key.Message m) (key.Active u n) ≡ Less
unfolding key_cmp
message_below_active m n u = refl

pub pending_below_active : (u v : UserId) (m n : MessageId) (w : Way) → key_cmp (key.Pending u m w) (key.Active v n) ≡ Less
unfolding key_cmp
pending_below_active u v m n w = refl

pub active_below_outbox : (u : UserId) (m : MessageId) (n : EntryNo) → key_cmp (key.Active u m) (key.Outbox n) ≡ Less
unfolding key_cmp
active_below_outbox u m n = refl

pub message_below_outbox : (m : MessageId) (n : EntryNo) → key_cmp (key.Message m) (key.Outbox n) ≡ Less
unfolding key_cmp
message_below_outbox m n = refl

pub pending_below_outbox : (u : UserId) (m : MessageId) (w : Way) (n : EntryNo) → key_cmp (key.Pending u m w) (key.Outbox n) ≡ Less
unfolding key_cmp
pending_below_outbox u m w n = refl
