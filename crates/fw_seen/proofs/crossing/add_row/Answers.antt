-- The lines of a row, if all of it is correct.
use Rattle.std.proofs.Common.{◌≡◌, ◌++◌, ◌∙◌, Bool, List, ℕ, [], sym, ap, append-nil}
use Rattle.std.specs.Prelude.{if◌then◌else◌}
use Rattle.fw_list.specs.Lists.{numbers_from}
use Rattle.fw_trace.specs.Trace.{crossing}
use Rattle.fw_rules.specs.World.{in_row}
use Rattle.fw_seen.specs.Summary.{reply_numbers, row_lines}
use Rattle.fw_seen.proofs.Counting.{on_ok}
use Rattle.fw_seen.proofs.crossing.add_row.Goals as goal

pub returns-then-not-is_whole : goal.returns-then-not-is_whole
returns-then-not-is_whole c =
    sym (append-nil c.args.lines.now)
    ∙ ap (λ (t : Bool). c.args.lines.now ++ (if t then row_lines c.args.row (reply_numbers c.args.params.now (crossing (in_row c.args.row) c.args.pool.now)) (numbers_from 1 c.args.params.now.numbers) else []))
    (sym (sym c.is_whole.ensures ∙ c.if-not-is_whole.true))

pub returns : goal.returns
returns c =
    on_ok c.push_row.result _ _ (λ pushed.
    pushed
    ∙ ap (λ (down : List ℕ). c.args.lines.now ++ row_lines c.args.row down (numbers_from 1 c.args.params.now.numbers)) (c.items.ensures ∙ c.in_ok-down.ensures.numbers)
    ∙ ap (λ (t : Bool). c.args.lines.now ++ (if t then row_lines c.args.row (reply_numbers c.args.params.now (crossing (in_row c.args.row) c.args.pool.now)) (numbers_from 1 c.args.params.now.numbers) else []))
    (sym (sym c.is_whole.ensures ∙ c.if-not-is_whole.false))) c.push_row.ensures
