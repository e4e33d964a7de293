-- The texts of frames as the rules see them: those of the plain frames that they are spelled as.
use Rattle.std.specs.Prelude.{ℕ, List, map}
use Rattle.fw_text.specs.Texts.{Text, Answered, Hash}
use Rattle.fw_frame.specs.View.{Request, Entry, Given, Change, NewView, plain_request_of, plain_entry_of, plain_change_of, first_given}
use Rattle.fw_frame.specs.Parts as parts

abbrev pub request_text : Request → Text
request_text r = parts.request_text (plain_request_of r)

abbrev pub entry_digest : Hash → Entry → List ℕ
entry_digest hash entry = parts.entry_digest hash (plain_entry_of entry)

abbrev pub change_text : Hash → Change → Text
change_text hash c = parts.change_text hash (plain_change_of c)

abbrev pub new_view_text : Hash → NewView → Text
new_view_text hash n = parts.new_view_text hash n.view (map plain_change_of n.changes)

abbrev pub reply_text : ℕ → List Given → Text
reply_text number answers = let g = first_given answers in Answered number g.client g.stamp g.body
