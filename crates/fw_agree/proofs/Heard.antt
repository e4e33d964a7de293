-- What was heard, and the passes after it.
use Rattle.std.proofs.Common.{◌≡◌, ℕ, List, [], ◌∷◌, ◌++◌, length, take, Option, Some, None, sym, ap, ◌∙◌}
use Rattle.std.specs.Prelude.{option_and_then}
use Rattle.std.proofs.lemmas.List.{append-nil}
use Rattle.std.proofs.Math.Seq.{take-append_seam}
use Rattle.fw_base.specs.declared.seat.Seat.{Seat}
use Rattle.fw_directory.specs.Directories.{PlainDirectory}
use Rattle.fw_hand.specs.Hands.{PlainHand}
use Rattle.fw_frame.specs.View as frames
use Rattle.fw_frame.specs.View.{Frame, Replies}
use Rattle.fw_means.specs.Means.{written}
use Rattle.fw_node.specs.Histories.{Out}
use Rattle.fw_rules.specs.Agree as agree
use Rattle.fw_rules.specs.Views as views
use Rattle.fw_rules.specs.Agree.{Node, Self, Step}
use Rattle.fw_owned.specs.declared.owned.OwnedReply.{OwnedReply}
use Rattle.fw_kept.specs.Kept.{self_of}
use Rattle.fw_owned.specs.Pieces.{reply_of}
use Rattle.fw_agree.specs.Steps.{behind, behind_some}
use Rattle.fw_agree.proofs.Going.{views_behind}

-- ---- a request

pub answered : (d : PlainDirectory) (hand : PlainHand) (own : ℕ) (x : Node) (from : Seat) (r : frames.Request) (reply : OwnedReply) (out new : Out) → Some (reply_of reply) ≡ agree.reply_to (self_of d hand own) x r.client r.stamp → new ≡ out ++ (from, written (Replies (reply_of reply))) ∷ []
    → (x, new) ≡ behind out (agree.hears_request (self_of d hand own) x from r (agree.reply_to (self_of d hand own) x r.client r.stamp))
answered d hand own x from r reply out new found sent =
    ap (λ (o : Out). (x, o)) sent ∙ ap (λ o. behind out (agree.hears_request (self_of d hand own) x from r o)) found

pub unanswered : (d : PlainDirectory) (hand : PlainHand) (own : ℕ) (x y : Node) (from : Seat) (r : frames.Request) (out : Out) → None ≡ agree.reply_to (self_of d hand own) x r.client r.stamp → y ≡ agree.remembers_request x r
    → (y, out) ≡ behind out (agree.hears_request (self_of d hand own) x from r (agree.reply_to (self_of d hand own) x r.client r.stamp))
unanswered d hand own x y from r out none kept =
    ap (λ (z : Node). (z, out)) kept ∙ ap (λ (o : Out). (agree.remembers_request x r, o)) (sym (append-nil out))
    ∙ ap (λ o. behind out (agree.hears_request (self_of d hand own) x from r o)) none

-- ---- what is sent stands behind what was there

pub heard_begins : (y : Node) (out new : Out) (o : Option (Step (List ℕ))) → behind_some out o ≡ Some (y, new) → take (length out) new ≡ out
heard_begins y out new None is = absurd (let no : ⊥ = cc in no)
heard_begins y out new (Some s) is =
    let pair : behind out s ≡ (y, new) = cc in
    let sent : out ++ s.1 ≡ new = ap (λ t. t.1) pair in
    ap (take (length out)) (sym sent) ∙ take-append_seam out s.1

-- ---- the passes after what was heard

some_then : (me : Self (List ℕ)) (x : Node) (out : Out) (s t : Step (List ℕ)) (o : Option (Step (List ℕ))) → behind_some out o ≡ Some s → t ≡ views.passes me s → t ≡ behind out (views.passes_after me x o)
some_then me x out s t None is all = absurd (let no : ⊥ = cc in no)
some_then me x out s t (Some r) is all =
    let same : behind out r ≡ s = cc in
    all ∙ ap (views.passes me) (sym same) ∙ views_behind me out r

none_then : (me : Self (List ℕ)) (x : Node) (out : Out) (t : Step (List ℕ)) (o : Option (Step (List ℕ))) → behind_some out o ≡ None → t ≡ (x, out) → t ≡ behind out (views.passes_after me x o)
none_then me x out t None is all = all ∙ ap (λ (o : Out). (x, o)) (sym (append-nil out))
none_then me x out t (Some r) is all = absurd (let no : ⊥ = cc in no)

pub heard_then : (me : Self (List ℕ)) (x : Node) (from : Seat) (f : Frame) (o : Option Frame) (out : Out) (s t : Step (List ℕ)) → Some f ≡ o → behind_some out (views.hears_all me x from f) ≡ Some s → t ≡ views.passes me s → t ≡ behind out (views.passes_after me x (option_and_then (views.hears_all me x from) o))
heard_then me x from f o out s t found is all =
    some_then me x out s t (views.hears_all me x from f) is all ∙ ap (λ q. behind out (views.passes_after me x (option_and_then (views.hears_all me x from) q))) found

pub ignored_then : (me : Self (List ℕ)) (x : Node) (from : Seat) (f : Frame) (o : Option Frame) (out : Out) (t : Step (List ℕ)) → Some f ≡ o → behind_some out (views.hears_all me x from f) ≡ None → t ≡ (x, out) → t ≡ behind out (views.passes_after me x (option_and_then (views.hears_all me x from) o))
ignored_then me x from f o out t found is all =
    none_then me x out t (views.hears_all me x from f) is all ∙ ap (λ q. behind out (views.passes_after me x (option_and_then (views.hears_all me x from) q))) found
