use Rattle.std.proofs.Common.{Option, List, ◌++◌, refl, sym, ap, ◌∙◌}
use Rattle.std.specs.Prelude.{option_to_list}
use Rattle.std.proofs.lemmas.List.{append-nil}
use Rattle.chat_model.specs.declared.entry.Entry.{Entry}
use Rattle.book_tables.specs.declared.prepared.Effect.TheVariants as effect
use Rattle.book_tables.specs.declared.tables.Waiting.{Waiting}
use Rattle.book_tables.specs.Notices.{put_all_in_order}
use Rattle.book_tables.specs.Applied.{active_after, handed_after}
use Rattle.book_tables.proofs.Placing.{order-sorted}
use Rattle.book_tables.proofs.tables.Tables.take_turn.Goals as goal

pub returns-in-Some : goal.returns-in-Some
returns-in-Some c =
    let old = c.args.self.now in let sound = c.requires.sound in let u = c.args.user in let m = c.args.message in let off = c.args.off in record {
      rest = refl;
      waiting = c.take_ready-taken.ensures.rest sound.order sound.numbered;
      items = ap (λ q. q.items) c.drop_oldest.ensures;
      active = c.put_taken.ensures (order-sorted old.active.items sound.active_order)
          ∙ (ap (λ (ws : List Waiting). put_all_in_order ws old.active.items) (c.take_ready-taken.ensures.taken sound.order sound.numbered)
          ∙ ap (λ (o : Option Entry). active_after (effect.Pushed u m o off) old.waiting.items old.active.items) (sym c.in-Some.is));
      outbox = c.push_reserved.ensures.items ∙ ap (λ (o : Option Entry). old.outbox.items ++ option_to_list o) (sym c.in-Some.is);
      handed = c.saturating_add-self-in-Some.ensures ∙ ap (λ (o : Option Entry). handed_after (effect.Pushed u m o off) old.handed) (sym c.in-Some.is);
      off = c.saturating_add-self.ensures;
    }

pub returns-in_default : goal.returns-in_default
returns-in_default c =
    let old = c.args.self.now in let sound = c.requires.sound in let u = c.args.user in let m = c.args.message in let off = c.args.off in record {
      rest = refl;
      waiting = c.take_ready-taken.ensures.rest sound.order sound.numbered;
      items = ap (λ q. q.items) c.drop_oldest.ensures;
      active = ap (λ (o : Option Entry). active_after (effect.Pushed u m o off) old.waiting.items old.active.items) (sym c.in_default.is);
      outbox = sym (append-nil old.outbox.items) ∙ ap (λ (o : Option Entry). old.outbox.items ++ option_to_list o) (sym c.in_default.is);
      handed = ap (λ (o : Option Entry). handed_after (effect.Pushed u m o off) old.handed) (sym c.in_default.is);
      off = c.saturating_add-self.ensures;
    }
