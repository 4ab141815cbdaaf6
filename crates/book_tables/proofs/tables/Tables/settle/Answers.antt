use Rattle.std.proofs.Common.{refl, sym, ◌∙◌, subst}
use Rattle.std.specs.Prelude.{IsPermutation}
use Rattle.book_tables.specs.Batched.{messages_to}
use Rattle.book_tables.proofs.Sought.{rows-taken}
use Rattle.book_tables.proofs.tables.Tables.settle.Goals as goal

pub returns : goal.returns
returns c =
    let ws = c.args.self.now.waiting.items in let u = c.args.user in
    record {
      rest = refl;
      waiting = c.take_batch_rows.ensures c.requires.order c.requires.numbered
          ∙ rows-taken u ws c.rows.result.now (subst (λ ms. IsPermutation (messages_to u ws) ms) (sym c.rows.ensures) (c.requires.batches.rows u));
      batches = c.settle.ensures;
    }
