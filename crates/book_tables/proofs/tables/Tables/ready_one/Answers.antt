use Rattle.std.proofs.Common.{◌≡◌, ◌<◌, ◌&&◌, Bool, List, cond, length, true, false, refl, sym, ◌∙◌, subst, arith}
use Rattle.chat_model.specs.declared.row.Stage.{Stage}
use Rattle.chat_model.specs.declared.row.Stage.TheVariants.{Flight, Held, Ready}
use Rattle.book_tables.specs.declared.tables.Waiting.{Waiting}
use Rattle.book_tables.specs.Notices.{is_at, is_undecided, is_undecided_at, moved, readied, readied_if, IsInOrder, IsOnly, NonePasses}
use Rattle.book_tables.proofs.Sought.{got, at_place, only-passes, way-sought, set-only, none-changed, same_map}
use Rattle.book_tables.proofs.tables.Tables.ready_one.Goals as goal

-- what is ready stays
again : (w : Waiting) (b : Bool) (g : Stage) → cond (b && is_undecided (record w { stage = g })) (readied (record w { stage = g })) (record w { stage = g }) ≡ readied_if b (record w { stage = g })
again w true Flight = refl
again w true Held = refl
again w true Ready = refl
again w false g = refl

pub move_on-requires-clause-room : goal.move_on-requires-clause-room
move_on-requires-clause-room c = λ w there.
    let test = is_undecided_at c.args.deal c.args.user c.args.way in let ws = c.args.self.now.waiting.items in
    let only = subst (λ (vs : List Waiting). IsInOrder vs → IsOnly test vs c.in-Some.place) c.deref.ensures.value c.in-Some.ensures.found c.requires.order in
    let way = way-sought c.args.deal c.args.user c.args.way w (only-passes test ws c.in-Some.place w only there) in
    let room = c.requires.room in omega (arith, way, room)

pub returns-in-Some-clause-waiting : goal.returns-in-Some-clause-waiting
returns-in-Some-clause-waiting c =
    let test = is_undecided_at c.args.deal c.args.user c.args.way in let ws = c.args.self.now.waiting.items in
    let only = subst (λ (vs : List Waiting). IsInOrder vs → IsOnly test vs c.in-Some.place) c.deref.ensures.value c.in-Some.ensures.found c.requires.order in
    at_place ws c.in-Some.place (subst (λ (vs : List Waiting). c.in-Some.place < length vs) c.deref.ensures.value c.in-Some.ensures.within) (λ x there.
    c.move_on.ensures.waiting x there
    ∙ (set-only test readied ws c.in-Some.place x (moved true x) only (sym (got ws c.in-Some.place x x there)) refl
    ∙ same_map (λ w. cond (test w) (readied w) w) (λ w. readied_if (is_at c.args.deal c.args.user c.args.way w) w) (λ w. again w (is_at c.args.deal c.args.user c.args.way w) w.stage) ws))

pub returns-in-Some-clause-spare : goal.returns-in-Some-clause-spare
returns-in-Some-clause-spare c =
    let test = is_undecided_at c.args.deal c.args.user c.args.way in let ws = c.args.self.now.waiting.items in
    let only = subst (λ (vs : List Waiting). IsInOrder vs → IsOnly test vs c.in-Some.place) c.deref.ensures.value c.in-Some.ensures.found c.requires.order in
    at_place ws c.in-Some.place (subst (λ (vs : List Waiting). c.in-Some.place < length vs) c.deref.ensures.value c.in-Some.ensures.within) (λ w there.
    let way = way-sought c.args.deal c.args.user c.args.way w (only-passes test ws c.in-Some.place w only there) in
    let spare = c.move_on.ensures.spare w there in omega (arith, way, spare))

pub returns-in_default-clause-waiting : goal.returns-in_default-clause-waiting
returns-in_default-clause-waiting c =
    let test = is_undecided_at c.args.deal c.args.user c.args.way in let ws = c.args.self.now.waiting.items in
    let none = subst (λ (vs : List Waiting). IsInOrder vs → NonePasses test vs) c.deref.ensures.value c.in_default.ensures.found c.requires.order in
    sym (none-changed test readied ws none)
    ∙ same_map (λ w. cond (test w) (readied w) w) (λ w. readied_if (is_at c.args.deal c.args.user c.args.way w) w) (λ w. again w (is_at c.args.deal c.args.user c.args.way w) w.stage) ws
