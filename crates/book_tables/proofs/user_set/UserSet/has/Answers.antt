use Rattle.std.proofs.Common.{◌≡◌, true, ap, ◌∙◌}
use Rattle.notice_ledger.specs.InOrder.{is_ascending}
use Rattle.notice_ledger.specs.Past.Values.{is_one_of}
use Rattle.book_tables.proofs.SetPlaces.{search-has}
use Rattle.book_tables.proofs.user_set.UserSet.has.Goals as goal

pub returns : goal.returns
returns c =
    let xs = c.deref.result.now in
    let up : is_ascending xs ≡ true = ap is_ascending c.deref.ensures.value ∙ c.args.self.now.ascending in
    c.is_ok.ensures.value ∙ (search-has xs c.args.user c.binary_search.result up c.binary_search.ensures.bound c.binary_search.ensures.position ∙ ap (λ us. is_one_of us c.args.user) c.deref.ensures.value)
