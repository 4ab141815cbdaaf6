use Rattle.std.proofs.Common.{◌≤◌, ◌++◌, take}
use Rattle.notifyd.specs.Pieces.{texts_of}
use Rattle.notifyd.specs.Tokens.{token_text}
use Rattle.notifyd.specs.Sink.{GoesOut}
use Rattle.notifyd.proofs.pieces.write_tokens.Given as goal

abbrev pub invariant-loop-token : goal.invariant-loop-token
invariant-loop-token g l =
    GoesOut (l.initial.line ++ texts_of token_text (take l.token-index l.tokens)) (g.O.Sink.written l.initial.out) (g.O.Sink.written l.out) l.line × (g.O.Sink.faults l.initial.out ≤ g.O.Sink.faults l.out)
