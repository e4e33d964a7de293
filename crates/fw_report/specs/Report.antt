-- The text of a report.
use Rattle.std.specs.Prelude.{ℕ, Bool, List, [], ◌∷◌, ◌++◌, codes, decimal, if◌then◌else◌}
use Rattle.std.specs.List.{flat_map}
use Rattle.fw_op.specs.Words.{sentence, client_word}
use Rattle.fw_op.specs.Ops.{op_words}
use Rattle.fw_op.specs.Replies.{reply_words}
use Rattle.fw_report.specs.declared.summary.Said.{Said}
use Rattle.fw_report.specs.declared.summary.Said.TheVariants as said
use Rattle.fw_report.specs.declared.summary.AgreedLine.{AgreedLine}
use Rattle.fw_report.specs.declared.summary.AcceptLine.{AcceptLine}
use Rattle.fw_report.specs.declared.summary.CrossLine.{CrossLine}
use Rattle.fw_report.specs.declared.summary.Summary.{Summary}

-- a line of words, with a line feed at its end
abbrev pub line : List (List ℕ) → List ℕ
line words = sentence words ++ 10 ∷ []

-- the words of what stands at a number
abbrev pub said_words : ℕ → ℕ → Said → List (List ℕ)
said_words client stamp said.Null = codes "null" ∷ []
said_words client stamp said.Bad = client_word client ∷ decimal stamp ∷ codes "bad" ∷ []
said_words client stamp (said.Op op) = client_word client ∷ decimal stamp ∷ op_words op

abbrev pub agreed_line : AgreedLine → List ℕ
agreed_line a = line (codes "agreed" ∷ decimal a.number ∷ said_words a.client a.stamp a.said)

abbrev pub accept_line : AcceptLine → List ℕ
accept_line a = line (codes "accept" ∷ client_word a.client ∷ decimal a.stamp ∷ decimal a.number ∷ reply_words a.reply)

abbrev pub cross_line : CrossLine → List ℕ
cross_line c = line (codes "cross" ∷ decimal c.row ∷ decimal c.number ∷ decimal c.copies ∷ [])

abbrev pub yes_or_no : Bool → List ℕ
yes_or_no b = if b then codes "yes" else codes "no"

-- the report, line by line
abbrev pub report_text : Summary → List ℕ
report_text s =
    flat_map agreed_line s.agreed
    ++ flat_map accept_line s.accepted
    ++ flat_map cross_line s.cross
    ++ line (codes "waiting" ∷ decimal s.waiting ∷ [])
    ++ line (codes "rest" ∷ yes_or_no s.rest ∷ [])
    ++ line (codes "view" ∷ decimal s.view ∷ [])
    ++ line (codes "events" ∷ decimal s.events ∷ codes "frames" ∷ decimal s.frames ∷ [])
