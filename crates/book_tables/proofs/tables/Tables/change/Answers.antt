use Rattle.std.proofs.Common.{◌≡◌, ◌≤◌, ◌++◌, length, map, take, drop, sym, ap, ◌∙◌, subst}
use Rattle.std.proofs.Math.Seq.{take-append_seam}
use Rattle.std.proofs.lemmas.List.{length-map}
use Rattle.book_tables.specs.Preferences.{Preferred, preferred, preferred_after}
use Rattle.book_tables.specs.UserSets.{changed_numbered}
use Rattle.book_tables.proofs.Numbered.{changed-long}
use Rattle.book_tables.proofs.PreferenceLemmas.{at_number, at_number-keeps, preferred_in-list}
use Rattle.book_tables.proofs.tables.Tables.change.Goals as goal

-- the period that the user has then isn't above the longest, whether the user is there or not
pub shift-requires-clause-new : goal.shift-requires-clause-new
shift-requires-clause-new c =
    let all = c.change_preference.new.all in let old = c.args.self.now.preferences.items in let n = c.args.user.0 in let f = preferred_after c.args.change in
    let long : length all ≡ c.args.self.now.preferences.len =
    sym (length-map all preferred)
    ∙ (ap length c.change_preference.ensures ∙ (changed-long n f (map preferred c.deref_mut.result.now) ∙ (length-map c.deref_mut.result.now preferred ∙ c.deref_mut.ensures.len))) in
    let kept : c.deref-2.result.now ≡ all = c.deref-2.ensures.value ∙ (ap (λ k. take k (all ++ drop (length all) old)) (sym long) ∙ take-append_seam all (drop (length all) old)) in
    let set : map preferred c.deref-2.result.now ≡ changed_numbered n f (map preferred old) = ap (map preferred) kept ∙ (c.change_preference.ensures ∙ ap (λ ps. changed_numbered n f (map preferred ps)) c.deref_mut.ensures.value) in
    subst (λ p. p ≤ 604800) (sym (c.period_of-after.ensures ∙ (ap (λ (p : Preferred). p.settings.period) (preferred_in-list c.deref-2.result.now n) ∙ ap (λ (ps : _). (at_number ps n).settings.period) set)))
    (at_number-keeps (λ p. p.settings.period ≤ 604800) (map preferred old) n f
    (subst (λ (p : Preferred). p.settings.period ≤ 604800) (preferred_in-list old n) (c.requires.sound.batches.periods c.args.user))
    (subst (λ (p : Preferred). (f p).settings.period ≤ 604800) (preferred_in-list old n) c.requires.period))
