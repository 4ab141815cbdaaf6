use Rattle.std.proofs.Common.{◌≡◌, ℕ, ap}
use Rattle.chat_model.specs.declared.ids.GroupId.{GroupId}
use Rattle.chat_model.proofs.OnceEach.{once_each}
use Rattle.chat_model.proofs.ascending.ascending_groups.Goals as goal

same_id : (x y : GroupId) → x.0 ≡ y.0 → x ≡ y
same_id x y e = ap {A = ℕ} {B = GroupId} (λ n. record { 0 = n }) e

pub returns : goal.returns
returns c = search (once_each (λ (g : GroupId). g.0) same_id)
