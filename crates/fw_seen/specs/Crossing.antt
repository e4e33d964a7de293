-- The number of a frame that crosses a row, and the lines of a row.
use Rattle.std.specs.Prelude.{ℕ, List, [], ◌&&◌, Option, None, if◌then◌else◌}
use Rattle.fw_base.specs.declared.params.Params.{Params}
use Rattle.fw_list.specs.Lists.{numbers_from}
use Rattle.fw_base.specs.declared.seat.Seat.{Seat}
use Rattle.fw_base.specs.Seats.{below}
use Rattle.fw_trace.specs.Trace.{crossing}
use Rattle.fw_trace.specs.declared.Sent.{Sent}
use Rattle.fw_rules.specs.World.{in_row}
use Rattle.fw_fair.specs.Correct.{is_whole}
use Rattle.fw_report.specs.declared.summary.CrossLine.{CrossLine}
use Rattle.fw_seen.specs.Summary.{reply_number, reply_numbers, row_lines}

-- where it is a reply frame that a filter of the row sent downwards
abbrev pub crossing_number : Params → ℕ → Sent (List ℕ) → Option ℕ
crossing_number p row s = if in_row row s.from && below s.from s.to then reply_number p s.message else None

-- the lines of a row, if all its filters are correct
abbrev pub whole_row_lines : Params → List Seat → List (Sent (List ℕ)) → ℕ → List CrossLine
whole_row_lines p faulty pool row =
    if is_whole p faulty row then row_lines row (reply_numbers p (crossing (in_row row) pool)) (numbers_from 1 p.numbers) else []
