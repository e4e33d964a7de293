-- What was signed, and what is kept, stays so.
use Rattle.std.proofs.Common.{ℕ, Bool, true, false, cond, List, [], ◌∷◌, refl}
use Rattle.fw_base.specs.declared.seat.Seat.{Seat}
use Rattle.fw_base.specs.declared.seat.Seat.TheVariants as seats
use Rattle.fw_base.specs.Seats.{seat_eq}
use Rattle.fw_base.specs.declared.slot.Slot.{Slot}
use Rattle.fw_text.specs.Texts.{Text}
use Rattle.fw_op.specs.declared.op.Op.{Op}
use Rattle.fw_trace.specs.declared.Sent.{Sent}
use Rattle.fw_trace.specs.declared.Logged.{Logged}
use Rattle.fw_trace.specs.Lists.{In}
use Rattle.fw_trace.specs.Trace.{Trace, history, takes}
use Rattle.fw_source.specs.Sources.{lied}
use Rattle.fw_node.specs.Histories.{Taken, History}
use Rattle.fw_frame.specs.Parts.{Part}
use Rattle.fw_frame.specs.declared.shown.Text as shown
use Rattle.fw_rules.specs.Roles.{client_speech}
use Rattle.fw_rules.specs.Agree.{Self, Own}
use Rattle.fw_law_client.proofs.Asked.{asked_stays}
use Rattle.fw_law_node.specs.Once.{node_after}
use Rattle.fw_law_node.specs.Sources.{Names, IsOwn}
use Rattle.fw_law_node.proofs.Having.{Grows, own_grows}
use Rattle.fw_law_node.proofs.Source.{next_grows}
use Rattle.fw_fair.specs.Showing.{kept_in}
use Rattle.fw_fair.specs.Faults.{kept}
use Rattle.fw_fair.specs.Hostile.{Hostile, rules}
use Rattle.fw_law_agree.specs.Signed.{means_at, bodies_at, node_at, SignedBy}
use Rattle.fw_law_agree.proofs.Listed.{flat-more}

names_grow : {M : Type 0} (me : Self M) (o p : Own) → Grows o p → (slot : Slot) (text : Text) → Names me o slot text → Names me p slot text
names_grow me o p g slot text a =
    let part : Part = record { slot = slot; point = 0; text = text; values = me.means.sign slot 0 text } in
    let mine : IsOwn me o part = record { named = a; point = refl; values = refl } in
    (own_grows me o p g part mine).named

pub signed_grows : (w : Hostile) (seat : Seat) (i : Taken) (h : History) (slot : Slot) (text : Text) → SignedBy w seat h slot text → SignedBy w seat (i ∷ h) slot text
signed_grows w (seats.Agree k) i h slot text a =
    let me = node_at w k in names_grow me (node_after me h).own (node_after me (i ∷ h)).own (next_grows me (node_after me h) i) slot text a
signed_grows w (seats.Client c) i h slot text a = record {
  stamp = a.stamp;
  op = a.op;
  asked = asked_stays (client_speech (means_at w (seats.Client c)) (bodies_at w (seats.Client c)) c) (i ∷ []) h a.stamp a.op a.asked;
  at = a.at;
  is = a.is;
}
signed_grows w (seats.Exec j) i h slot text a = absurd a
signed_grows w (seats.Filter r c) i h slot text a = absurd a

-- whoever takes an input
pub signed_after : (w : Hostile) (seat : Seat) (l : Logged (List ℕ) Op) (log : List (Logged (List ℕ) Op)) (slot : Slot) (text : Text) → SignedBy w seat (history seat log) slot text → SignedBy w seat (history seat (l ∷ log)) slot text
signed_after w seat l log slot text a = by (seat_eq l.seat seat)
  where
    by : (b : Bool) → SignedBy w seat (cond b (l.input ∷ history seat log) (history seat log)) slot text
    by true = signed_grows w seat l.input (history seat log) slot text a
    by false = a

abbrev kept_of : Hostile → Sent (List ℕ) → List shown.Text
kept_of w s = kept_in w.deal.origin w.directory s.message

-- what is kept stays so, whoever takes an input or lies
pub kept_taken : (w : Hostile) (t : Trace (List ℕ) Op) (l : Logged (List ℕ) Op) (text : shown.Text) → In text (kept w.deal.origin w.directory t.pool) → In text (kept w.deal.origin w.directory (takes (rules w) t l).pool)
kept_taken w t l text i = flat-more (kept_of w) t.pool _ text i

pub kept_lied : (w : Hostile) (t : Trace (List ℕ) Op) (s : Sent (List ℕ)) (text : shown.Text) → In text (kept w.deal.origin w.directory t.pool) → In text (kept w.deal.origin w.directory (lied t s).pool)
kept_lied w t s text i = flat-more (kept_of w) t.pool _ text i
