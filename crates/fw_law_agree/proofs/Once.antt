-- At each of its slots a seat has signed one text, and each text that it signed is at a slot of its own.
use Rattle.std.proofs.Common.{ℕ, ◌-◌, ◌≡◌, sym, ◌∙◌, ap, subst, Some, reverse}
use Rattle.std.specs.Prelude.{slice_get}
use Rattle.std.proofs.lemmas.Option.{same_Some}
use Rattle.fw_base.specs.declared.seat.Seat.{Seat}
use Rattle.fw_base.specs.declared.seat.Seat.TheVariants as seats
use Rattle.fw_base.specs.declared.slot.Slot.{Slot}
use Rattle.fw_base.specs.declared.slot.Slot.TheVariants as slots
use Rattle.fw_base.specs.Places.{owner}
use Rattle.fw_text.specs.Texts.{Text}
use Rattle.fw_op.specs.declared.op.Op.{Op}
use Rattle.fw_node.specs.Histories.{History}
use Rattle.fw_rules.specs.Signing.{request_text}
use Rattle.fw_rules.specs.Roles.{request_of}
use Rattle.fw_rules.specs.Agree.{Self, Own}
use Rattle.fw_law_node.specs.Once.{own_after}
use Rattle.fw_law_node.specs.Sources.{Names}
use Rattle.fw_law_node.proofs.OneText.{one_text}
use Rattle.fw_fair.specs.Hostile.{Hostile}
use Rattle.fw_law_agree.specs.Signed.{means_at, bodies_at, node_at, client_after, HasAsked, SignedBy}

abbrev stamp_in : Slot → ℕ
stamp_in (slots.Request c s) = s
stamp_in (slots.Prepare v n i) = 0
stamp_in (slots.Commit v n i) = 0
stamp_in (slots.Change v i) = 0
stamp_in (slots.NewView v i) = 0
stamp_in (slots.Reply n) = 0

abbrev text_asked : Hostile → ℕ → ℕ → Op → Text
text_asked w c stamp op = request_text (request_of (means_at w (seats.Client c)) (bodies_at w (seats.Client c)) c stamp op)

asked_once : (w : Hostile) (c : ℕ) (h : History) (slot : Slot) (one other : Text) → HasAsked w c h slot one → HasAsked w c h slot other → one ≡ other
asked_once w c h slot one other a b =
    let stamp : a.stamp ≡ b.stamp = ap stamp_in (sym a.at ∙ b.at) in
    let found : slice_get (reverse (client_after w c h).asked) (b.stamp - 1) ≡ Some a.op = subst (λ (s : ℕ). slice_get (reverse (client_after w c h).asked) (s - 1) ≡ Some a.op) stamp a.asked.is in
    let op : a.op ≡ b.op = same_Some a.op b.op (sym found ∙ b.asked.is) in
    a.is ∙ ap (λ (s : ℕ). text_asked w c s a.op) stamp ∙ ap (λ (o : Op). text_asked w c b.stamp o) op ∙ sym b.is

pub signed_once : (w : Hostile) (seat : Seat) (h : History) (slot : Slot) (one other : Text) → SignedBy w seat h slot one → SignedBy w seat h slot other → one ≡ other
signed_once w (seats.Agree i) h slot one other a b = one_text (node_at w i) h slot one other a b
signed_once w (seats.Client c) h slot one other a b = asked_once w c h slot one other a b
signed_once w (seats.Exec j) h slot one other a b = absurd a
signed_once w (seats.Filter r c) h slot one other a b = absurd a

-- ---- whose slot it is

names_own : {M : Type 0} (me : Self M) (own : Own) (slot : Slot) (text : Text) → Names me own slot text → owner slot ≡ Some (seats.Agree me.own)
names_own me own (slots.Prepare v n i) text a = ap (λ (k : ℕ). Some (seats.Agree k)) a.0
names_own me own (slots.Commit v n i) text a = ap (λ (k : ℕ). Some (seats.Agree k)) a.0
names_own me own (slots.Change v i) text a = ap (λ (k : ℕ). Some (seats.Agree k)) a.0
names_own me own (slots.NewView v i) text a = ap (λ (k : ℕ). Some (seats.Agree k)) a.0
names_own me own (slots.Request c s) text a = absurd a
names_own me own (slots.Reply n) text a = absurd a

pub signed_own : (w : Hostile) (seat : Seat) (h : History) (slot : Slot) (text : Text) → SignedBy w seat h slot text → owner slot ≡ Some seat
signed_own w (seats.Agree i) h slot text a = names_own (node_at w i) (own_after (node_at w i) h) slot text a
signed_own w (seats.Client c) h slot text a = ap owner a.at
signed_own w (seats.Exec j) h slot text a = absurd a
signed_own w (seats.Filter r c) h slot text a = absurd a
