-- Its own change, or the first of those that it heard.
use Rattle.std.specs.Option.{option_copied}
use Rattle.fw_turn.proofs.Turning.{own_change, other_change}
use Rattle.fw_turn.proofs.choosing.change_by.Goals as goal

pub returns-then-agree-own : goal.returns-then-agree-own
returns-then-agree-own c = λ me e.
    own_change me c.args.keeps.now c.args.agree c.args.own (option_copied c.last_move.result) c.oldest_first.result.now e c.if-agree-own.true c.oldest_first.ensures c.last_move.ensures

pub returns-else-agree-own : goal.returns-else-agree-own
returns-else-agree-own c = λ me e.
    other_change me c.args.keeps.now c.args.agree c.args.own (option_copied c.first.result) e c.if-agree-own.false c.first.ensures
