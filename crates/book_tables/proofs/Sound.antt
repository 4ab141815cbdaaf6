-- Tables that hold what lawful events leave are sound, and so is what is prepared for the next event.
use Rattle.chat_model.specs.declared.row.Cause.{Cause}
use Rattle.std.proofs.Common.{◌≢◌, ◌≡◌, ℕ, ◌+◌, ◌≤◌, true, cond, List, [], ◌∷◌, ◌++◌, refl, sym, ap, ◌∙◌, subst}
use Rattle.std.specs.Prelude.{Option, Some, None, IfSome, IsPermutation, nat_le, slice_get}
use Rattle.std.proofs.lemmas.Bool.{and_parts, eq-eqb}
use Rattle.chat_model.specs.declared.event.Stamped.{Stamped}
use Rattle.chat_model.specs.declared.event.Event.{Event}
use Rattle.chat_model.specs.declared.event.Event.TheVariants.{Restart, Asked, Absorbed, MailTurn, PushTurn}
use Rattle.chat_model.specs.declared.request.Request.TheVariants.{AddUser, AddGroup, Member, AddChannel, Subscribe, Set, SetChannel, SetPolicy, Mute, Send, Direct, Delete, Read}
use Rattle.chat_model.specs.declared.deal.Outcome.TheVariants.{Dealt, Cleared, Missed}
use Rattle.chat_model.specs.declared.deal.Deal.{Deal}
use Rattle.chat_model.specs.declared.deal.UserVerdict.{UserVerdict}
use Rattle.chat_model.specs.declared.entry.Entry.{Entry}
use Rattle.chat_model.specs.declared.ids.DealNo.{DealNo}
use Rattle.chat_model.specs.declared.ids.MessageId.{MessageId}
use Rattle.chat_model.specs.declared.ids.UserId.{UserId}
use Rattle.chat_model.specs.declared.mentions.GroupName.{GroupName}
use Rattle.chat_model.specs.declared.push_item.PushItem.{PushItem}
use Rattle.chat_model.specs.declared.push_item.PushItem.TheVariants as item
use Rattle.chat_model.specs.declared.settings.SettingChange.{SettingChange}
use Rattle.notice_ledger.specs.Lawful.{lawful, is_lawful_after}
use Rattle.notice_ledger.specs.Limits.{longest_period}
use Rattle.notice_ledger.specs.Past.Journal.{last_stamp}
use Rattle.notice_ledger.specs.Past.Lawful.{may_stand}
use Rattle.notice_ledger.specs.Past.Values.{settings}
use Rattle.notice_ledger.proofs.PushesWait.{turned_first}
use Rattle.notice_ledger.proofs.LawfulLemmas.{lawful-next}
use Rattle.notice_ledger.proofs.Periods.{period-bounded}
use Rattle.notice_ledger.proofs.Stamps.{lawful-stamped}
use Rattle.mail_batches.specs.Batches.{due_of, rows_of}
use Rattle.book_tables.specs.declared.preferences.Preference.TheVariants as preference
use Rattle.book_tables.specs.declared.prepared.Effect.{Effect}
use Rattle.book_tables.specs.declared.prepared.Effect.TheVariants as effect
use Rattle.book_tables.specs.declared.prepared.Prepared.{Prepared}
use Rattle.book_tables.specs.declared.tables.Message.{Message}
use Rattle.book_tables.specs.declared.tables.Tables.{Tables}
use Rattle.book_tables.specs.declared.tables.Waiting.{Waiting}
use Rattle.book_tables.specs.Applied.{Fits}
use Rattle.book_tables.specs.Batched.{period_in, messages_to, IsSound}
use Rattle.book_tables.specs.Preferences.{Preferred, preferred_by, preferred_after}
use Rattle.book_tables.specs.Prepared.{IsGroup, IsMessage, IsStart, IsDealt, IsMissed, IsMailed, IsPushed, IsRemoved, IsBarred, IsEffectOf, WasPrepared}
use Rattle.book_tables.specs.Tables.{StandsFor}
use Rattle.book_tables.proofs.BatchesAfter.{held_due}
use Rattle.book_tables.proofs.Kept.{holds-kept, messages-kept}
use Rattle.book_tables.proofs.Ordered.{in_order, numbered_so, cleared_in_order, cleared_numbered_so, active_in_order, active_numbered_so}
use Rattle.book_tables.proofs.PreferenceLemmas.{after-setting}

module _ (t : Tables) (j : List Stamped) (stands : StandsFor t j) where
  period_so : (u : UserId) → period_in t.preferences.items u ≡ (settings (lawful j) u).period
  period_so u = ap (λ (p : Preferred). p.settings.period) (stands.preferences u)

  bounded : (u : UserId) → period_in t.preferences.items u ≤ longest_period
  bounded u = subst (λ n. n ≤ longest_period) (sym (period_so u)) (period-bounded j u)

  pub sound : IsSound t
  sound = record {
    order = in_order t (lawful j) stands;
    numbered = numbered_so t (lawful j) stands;
    cleared_order = cleared_in_order t (lawful j) stands;
    cleared_numbered = cleared_numbered_so t (lawful j) stands;
    active_order = active_in_order t (lawful j) stands;
    active_numbered = active_numbered_so t (lawful j) stands;
    batches = record {
      rows = λ u.
          subst (λ (ms : List MessageId). IsPermutation ms (rows_of t.batches u)) (sym (ap (messages_to u) (holds-kept t (lawful j) stands) ∙ messages-kept u (lawful j))) (stands.batches.rows u);
      periods = bounded;
    };
    due = λ u.
        subst (λ p. IfSome (due_of t.batches u) (λ due. (p ≤ due) × (due ≤ t.last + p))) (sym (period_so u))
        (subst (λ n. IfSome (due_of t.batches u) (λ due. ((settings (lawful j) u).period ≤ due) × (due ≤ n + (settings (lawful j) u).period))) (sym stands.last)
        (held_due t.batches (lawful j) stands.batches (lawful-stamped j) u));
  }

  -- ---- a period that is set

  of_group : (e : Effect) (g : GroupName) (us : List UserId) → IsGroup e g us → Fits t e
  of_group (effect.Preference user change) g us fits = absurd fits
  of_group (effect.Pushed user message entry off) g us fits = absurd fits
  of_group (effect.Removed user those entry) g us fits = absurd fits
  of_group e g us fits = tt

  of_message : (e : Effect) (m : Message) (ws : List Waiting) (d : Deal) → IsMessage (lawful j) e m ws d → Fits t e
  of_message (effect.Preference user change) m ws d fits = absurd fits
  of_message (effect.Pushed user message entry off) m ws d fits = absurd fits
  of_message (effect.Removed user those entry) m ws d fits = absurd fits
  of_message e m ws d fits = tt

  of_start : (e : Effect) (is : List PushItem) → IsStart e is → Fits t e
  of_start (effect.Preference user change) is fits = absurd fits
  of_start (effect.Pushed user message entry off) is fits = absurd fits
  of_start (effect.Removed user those entry) is fits = absurd fits
  of_start e is fits = tt

  of_dealt : (e : Effect) (k : DealNo) (verdicts : List UserVerdict) (is : List PushItem) → IsDealt e k verdicts is → Fits t e
  of_dealt (effect.Preference user change) k verdicts is fits = absurd fits
  of_dealt (effect.Pushed user message entry off) k verdicts is fits = absurd fits
  of_dealt (effect.Removed user those entry) k verdicts is fits = absurd fits
  of_dealt e k verdicts is fits = tt

  of_missed : (e : Effect) (u : UserId) (ks : List DealNo) (is : List PushItem) → IsMissed e u ks is → Fits t e
  of_missed (effect.Preference user change) u ks is fits = absurd fits
  of_missed (effect.Pushed user message entry off) u ks is fits = absurd fits
  of_missed (effect.Removed user those entry) u ks is fits = absurd fits
  of_missed e u ks is fits = tt

  of_mailed : (e : Effect) (u : UserId) (es : List Entry) (h n : ℕ) → IsMailed e u es h n → Fits t e
  of_mailed (effect.Preference user change) u es h n fits = absurd fits
  of_mailed (effect.Pushed user message entry off) u es h n fits = absurd fits
  of_mailed (effect.Removed user those entry) u es h n fits = absurd fits
  of_mailed e u es h n fits = tt

  -- a turn that may stand takes an item that waits
  some_waits : (at : ℕ) (i : PushItem) → is_lawful_after j (record { at = at; event = PushTurn i }) ≡ true → t.pushes.items ≢ []
  some_waits at i next =
      let may = (and_parts (nat_le (last_stamp (lawful j)) at) (may_stand (lawful j) at (PushTurn i)) next).1 in
      let first = turned_first (lawful j) at i may in
      λ none. no_first (ap (λ (is : List PushItem). slice_get is 0) (sym none ∙ stands.items) ∙ first)
    where
      no_first : None ≡ Some i → ⊥
      no_first e = cc

  -- so does a push turn
  of_pushed : (at : ℕ) (u : UserId) (m : MessageId) (e : Effect) (es : List Entry) (n : ℕ) → is_lawful_after j (record { at = at; event = PushTurn (item.Notify u m) }) ≡ true → IsPushed e u m es n → Fits t e
  of_pushed at u m (effect.Preference user change) es n next fits = absurd fits
  of_pushed at u m (effect.Removed user those entry) es n next fits = absurd fits
  of_pushed at u m (effect.Pushed user message entry off) es n next fits = some_waits at (item.Notify u m) next
  of_pushed at u m e es n next fits = tt

  -- and so does the turn of a removal
  of_removed : (at : ℕ) (u : UserId) (ms : List MessageId) (e : Effect) (es : List Entry) → is_lawful_after j (record { at = at; event = PushTurn (item.Remove u ms) }) ≡ true → IsRemoved e u ms es → Fits t e
  of_removed at u ms (effect.Preference user change) es next fits = absurd fits
  of_removed at u ms (effect.Pushed user message entry off) es next fits = absurd fits
  of_removed at u ms (effect.Removed user those entry) es next fits = some_waits at (item.Remove u ms) next
  of_removed at u ms e es next fits = tt

  -- a read or a deletion needs nothing
  of_barred : (s : Stamped) (c : Cause) (m : Option MessageId) (e : Effect) → IsBarred (lawful j) s c m e → Fits t e
  of_barred s c m (effect.Preference user change) fits = absurd fits
  of_barred s c m (effect.Pushed user message entry off) fits = absurd fits
  of_barred s c m (effect.Removed user those entry) fits = absurd fits
  of_barred s c m e fits = tt

  -- the period that a lawful request sets isn't longer than the longest
  of_setting : (at : ℕ) (user : UserId) (change : SettingChange) → is_lawful_after j (record { at = at; event = Asked (Set user change) }) ≡ true → Fits t (effect.Preference user (preference.Setting change))
  of_setting at user change next =
      let s : Stamped = record { at = at; event = Asked (Set user change) } in
      let set : preferred_by (lawful j ++ s ∷ []) user ≡ preferred_after (preference.Setting change) (preferred_by (lawful j) user) =
      after-setting (lawful j) at user change user ∙ ap (λ b. cond b (preferred_after (preference.Setting change) (preferred_by (lawful j) user)) (preferred_by (lawful j) user)) (eq-eqb user.0 user.0 refl) in
      subst (λ (p : Preferred). (preferred_after (preference.Setting change) p).settings.period ≤ longest_period) (sym (stands.preferences user))
      (subst (λ (p : Preferred). p.settings.period ≤ longest_period) set
      (subst (λ (k : List Stamped). (settings k user).period ≤ longest_period) (lawful-next j s next) (period-bounded (j ++ s ∷ []) user)))

  pub fits_so : (at : ℕ) (event : Event) (e : Effect) → is_lawful_after j (record { at = at; event = event }) ≡ true → IsEffectOf (lawful j) at event e → Fits t e
  fits_so at Restart e next fits = of_start e _ fits
  fits_so at (Asked (AddUser name bot)) e next fits = subst (Fits t) (sym fits) tt
  fits_so at (Asked (AddGroup name members)) e next fits = of_group e _ members fits
  fits_so at (Asked (Member group user on)) e next fits = subst (Fits t) (sym fits) tt
  fits_so at (Asked (AddChannel name)) e next fits = subst (Fits t) (sym fits) tt
  fits_so at (Asked (Subscribe user channel on)) e next fits = subst (Fits t) (sym fits) tt
  fits_so at (Asked (Set user change)) e next fits = subst (Fits t) (sym fits) (of_setting at user change next)
  fits_so at (Asked (SetChannel user channel change)) e next fits = subst (Fits t) (sym fits) (bounded user)
  fits_so at (Asked (SetPolicy user channel topic policy)) e next fits = subst (Fits t) (sym fits) (bounded user)
  fits_so at (Asked (Mute user other on)) e next fits = subst (Fits t) (sym fits) (bounded user)
  fits_so at (Asked (Send sender channel topic text)) e next fits = of_message e _ _ _ fits
  fits_so at (Asked (Direct sender to text)) e next fits = of_message e _ _ _ fits
  fits_so at (Asked (Delete user message)) e next fits = of_barred _ _ _ e fits
  fits_so at (Asked (Read user messages)) e next fits = of_barred _ _ _ e fits
  fits_so at (Absorbed (Dealt k verdicts)) e next fits = of_dealt e k verdicts _ fits
  fits_so at (Absorbed (Cleared user deals queue)) e next fits = subst (Fits t) (sym fits) tt
  fits_so at (Absorbed (Missed user deals)) e next fits = of_missed e user deals _ fits
  fits_so at (MailTurn user) e next fits = of_mailed e user _ _ _ fits
  fits_so at (PushTurn (item.Notify user message)) e next fits = of_pushed at user message e _ _ next fits
  fits_so at (PushTurn (item.Remove user messages)) e next fits = of_removed at user messages e _ next fits

pub sound_prepared : (t : Tables) (p : Prepared) → WasPrepared t p → IsSound t
sound_prepared t p was = sound t was.0 was.2

pub fits_prepared : (t : Tables) (p : Prepared) → WasPrepared t p → Fits t p.effect
fits_prepared t p was = fits_so t was.0 was.2 was.1.at was.1.event p.effect was.3 was.4.effect
