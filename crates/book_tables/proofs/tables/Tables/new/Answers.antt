use Rattle.std.proofs.Common.{List, sym, ap, subst, refl}
use Rattle.chat_model.specs.declared.event.Stamped.{Stamped}
use Rattle.notice_ledger.proofs.LawfulLemmas.{IsLawful-nil}
use Rattle.book_tables.specs.declared.tables.Tables.{Tables}
use Rattle.book_tables.specs.Tables.{Holds}
use Rattle.book_tables.proofs.Empty.{empty_stands}
use Rattle.book_tables.proofs.tables.Tables.new.Goals as goal

pub returns : goal.returns
returns c =
    let t : Tables = record {
      alloc = c.args.alloc;
      last = c.in-Some.last;
      starts = 0;
      names = c.new-2.result;
      bots = c.new-3.result;
      preferences = c.new-4.result;
      groups = c.new-5.result;
      members = c.new-6.result;
      channels = c.new-7.result;
      subscribers = c.new-8.result;
      messages = c.new-9.result;
      addressees = c.new-10.result;
      deleted = c.new-11.result;
      waiting = c.new-12.result;
      cleared = c.new-13.result;
      batches = c.new-14.result;
      pushes = c.new-15.result;
      active = c.new-16.result;
      deals = c.new-17.result;
      outbox = c.new-18.result;
      handed = 0;
      off = 0;
      read = 0;
      gone = 0;
      written = 0;
    } in
    subst (λ (j : List Stamped). Holds t j) (sym IsLawful-nil)
    (empty_stands t c.in-Some.ensures.value refl c.new-2.ensures.items c.new-3.ensures.items c.new-5.ensures.items c.new-6.ensures.items c.new-7.ensures.items c.new-8.ensures.items c.new-9.ensures.items c.new-10.ensures.items c.new-11.ensures.items c.new-12.ensures.items c.new-13.ensures.items
    c.new-14.ensures (ap (λ q. q.items) c.new-15.ensures) c.new-16.ensures.items c.new-17.ensures.items c.new-18.ensures.items c.new-4.ensures.items refl refl refl refl refl)
