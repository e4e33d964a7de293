-- What the report says of a trace over frames in bytes, in a deployment of any size: of its correct clients, agreement nodes and rows.
use Rattle.std.specs.Prelude.{ℕ, ◌+◌, ◌-◌, List, [], ◌∷◌, ◌++◌, map, length, Option, Some, None, option_and_then, if◌then◌else◌, count_by, ◌==◌}
use Rattle.std.specs.Option.{option_to_list}
use Rattle.std.specs.List.{sum_by}
use Rattle.fw_list.specs.Lists.{numbers_from}
use Rattle.fw_base.specs.declared.params.Params.{Params}
use Rattle.fw_base.specs.declared.seat.Seat.{Seat}
use Rattle.fw_base.specs.declared.seat.Seat.TheVariants.{Agree, Exec, Client}
use Rattle.fw_base.specs.Sizes.{agreements}
use Rattle.fw_op.specs.declared.op.Op.{Op}
use Rattle.fw_op.specs.declared.reply.Reply.{Reply}
use Rattle.fw_trace.specs.declared.Told.{Told}
use Rattle.fw_trace.specs.declared.Sent.{Sent}
use Rattle.fw_trace.specs.declared.Input.TheVariants.{Submitted}
use Rattle.fw_trace.specs.Trace.{Trace, history, crossing, rests_from}
use Rattle.fw_trace.specs.Role.{kept}
use Rattle.fw_frame.specs.Frames.{PlainFrame}
use Rattle.fw_frame.specs.Frames as frames
use Rattle.fw_frame.specs.Undoing.{frame_in}
use Rattle.fw_frame.specs.View.{Entry}
use Rattle.fw_hand.specs.Hands.{PlainHand}
use Rattle.fw_node.specs.Histories.{History}
use Rattle.fw_rules.specs.Agree.{greatest}
use Rattle.fw_rules.specs.Views.{agree_role}
use Rattle.fw_rules.specs.Deployed.{means_of, bodies_of}
use Rattle.fw_rules.specs.World.{Deployed, rule_at, agreed, accepted_by, in_row}
use Rattle.fw_fair.specs.Correct.{correct_below, whole_rows}
use Rattle.fw_fair.specs.Hostile.{rules_among}
use Rattle.fw_report.specs.declared.summary.Said.{Said}
use Rattle.fw_report.specs.declared.summary.Said.TheVariants as said
use Rattle.fw_report.specs.declared.summary.AgreedLine.{AgreedLine}
use Rattle.fw_report.specs.declared.summary.AcceptLine.{AcceptLine}
use Rattle.fw_report.specs.declared.summary.CrossLine.{CrossLine}
use Rattle.fw_report.specs.declared.summary.Summary.{Summary}
use Rattle.fw_report.specs.Report.{report_text}

-- ---- the agreed list

-- what a body opens to: an operation, or something that is none
abbrev pub said_of : Option Op → Said
said_of None = said.Bad
said_of (Some op) = said.Op op

-- what stands at a number, by the keys of a hand
abbrev pub agreed_line : PlainHand → ℕ → Entry → AgreedLine
agreed_line hand n [] = record { number = n; client = 0; stamp = 0; said = said.Null }
agreed_line hand n (r ∷ rs) =
    record { number = n; client = r.client; stamp = r.stamp; said = said_of ((bodies_of hand).open_op r.client r.stamp r.body) }

-- the entries of a list, from this number on
abbrev pub agreed_lines : PlainHand → ℕ → List Entry → List AgreedLine
agreed_lines hand n [] = []
agreed_lines hand n (e ∷ entries) = agreed_line hand n e ∷ agreed_lines hand (n + 1) entries

-- ---- what was accepted

abbrev pub accept_line_of : ℕ → Told Reply → AcceptLine
accept_line_of c told = record { client = c; stamp = told.stamp; number = told.number; reply = told.reply }

-- what each of these clients accepted, in order
abbrev pub accept_lines : Deployed → Trace (List ℕ) Op → List ℕ → List AcceptLine
accept_lines d t [] = []
accept_lines d t (c ∷ clients) = map (accept_line_of c) (accepted_by d c t) ++ accept_lines d t clients

-- ---- what crossed the rows of filters

abbrev pub reply_in : PlainFrame → Option ℕ
reply_in (frames.Reply number client stamp body secrets) = Some number
reply_in _ = None

-- the number of the reply frame that bytes are, if they are one
abbrev pub reply_number : Params → List ℕ → Option ℕ
reply_number p bytes = option_and_then reply_in (frame_in p bytes)

-- the numbers of the reply frames among these, in order
abbrev pub reply_numbers : Params → List (Sent (List ℕ)) → List ℕ
reply_numbers p [] = []
reply_numbers p (s ∷ frames) = option_to_list (reply_number p s.message) ++ reply_numbers p frames

-- a line, where there are copies
abbrev pub line_of_copies : ℕ → ℕ → ℕ → List CrossLine
line_of_copies row n copies = if copies == 0 then [] else record { row = row; number = n; copies = copies } ∷ []

-- the lines of a row that let the replies of these numbers down, at each of some numbers
abbrev pub row_lines : ℕ → List ℕ → List ℕ → List CrossLine
row_lines row down [] = []
row_lines row down (n ∷ numbers) = line_of_copies row n (count_by (λ x. x == n) down) ++ row_lines row down numbers

-- the lines of some rows, each at all numbers of the list, by what the row sent downwards
abbrev pub cross_lines : Params → List (Sent (List ℕ)) → List ℕ → List CrossLine
cross_lines p pool [] = []
cross_lines p pool (row ∷ rows) =
    row_lines row (reply_numbers p (crossing (in_row row) pool)) (numbers_from 1 p.numbers) ++ cross_lines p pool rows

-- ---- counts

-- how many of these inputs are submissions
abbrev pub submitted : History → ℕ
submitted [] = 0
submitted (Submitted op ∷ h) = submitted h + 1
submitted (input ∷ h) = submitted h

-- the submissions to a client that it hasn't accepted a reply to; one beyond its limit is among them
abbrev pub waiting_at : Deployed → Trace (List ℕ) Op → ℕ → ℕ
waiting_at d t c = submitted (history (Client c) t.log) - length (accepted_by d c t)

-- the correct clients of a deployment with these faulty seats, by number
abbrev pub correct_clients : Deployed → List Seat → List ℕ
correct_clients d faulty = correct_below faulty Client d.directory.params.clients

-- those of all correct clients
abbrev pub waiting : Deployed → List Seat → Trace (List ℕ) Op → ℕ
waiting d faulty t = sum_by (waiting_at d t) (correct_clients d faulty)

-- the view of an agreement node
abbrev pub view_at : Deployed → Trace (List ℕ) Op → ℕ → ℕ
view_at d t i =
    let seat = Agree i in
    (kept (agree_role (record { own = i; means = means_of d.directory (d.hand seat) })) (history seat t.log)).own.view

-- the greatest view of a correct one
abbrev pub greatest_view : Deployed → List Seat → Trace (List ℕ) Op → ℕ
greatest_view d faulty t = greatest (map (view_at d t) (correct_below faulty Agree (agreements d.directory.params)))

-- ---- the whole

-- the summary of a trace; an executor's hand has the keys of all clients
unfoldable pub summary_of : Deployed → List Seat → Trace (List ℕ) Op → Summary
summary_of d faulty t =
    let p = d.directory.params in
    record {
      agreed = agreed_lines (d.hand (Exec 0)) 1 (agreed d t);
      accepted = accept_lines d t (correct_clients d faulty);
      cross = cross_lines p t.pool (whole_rows p faulty);
      waiting = waiting d faulty t;
      rest = rests_from (rules_among p faulty (rule_at d)) t.log 0 t.pool;
      view = greatest_view d faulty t;
      events = length t.log;
      frames = length t.pool;
    }

-- the report of a trace
abbrev pub report_of : Deployed → List Seat → Trace (List ℕ) Op → List ℕ
report_of d faulty t = report_text (summary_of d faulty t)
