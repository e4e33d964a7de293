-- The places of correct owners' slots are guarded: what a correct seat sends shows what is released by then, or what it heard.
use Rattle.std.proofs.Common.{ℕ, ◌≡◌, ◌⊎◌, not, inl, inr, Bool, true, cond, List, [], ◌∷◌, refl, sym, ◌∙◌, ap, subst, Some, IsTrue}
use Rattle.std.proofs.lemmas.Bool.{and_parts}
use Rattle.std.proofs.lemmas.Option.{none-some, same_Some}
use Rattle.fw_base.specs.declared.seat.Seat.{Seat}
use Rattle.fw_base.specs.declared.slot.Slot.{Slot}
use Rattle.fw_base.specs.declared.slot.Place.{Place}
use Rattle.fw_base.specs.Places.{owner}
use Rattle.fw_base.specs.Seats.{fits}
use Rattle.fw_text.specs.Bits.{bit_of}
use Rattle.fw_text.specs.Texts.{hash}
use Rattle.fw_op.specs.declared.op.Op.{Op}
use Rattle.fw_step.specs.Fitting.{is_faulty, is_correct}
use Rattle.fw_trace.specs.declared.Sent.{Sent}
use Rattle.fw_trace.specs.declared.Logged.{Logged}
use Rattle.fw_trace.specs.Lists.{In}
use Rattle.fw_trace.specs.Trace.{Trace, history, from_seat, takes}
use Rattle.fw_source.specs.Sources.{lied}
use Rattle.fw_source.specs.Shown.{Places, HeardIn, Guards}
use Rattle.fw_node.specs.Histories.{History}
use Rattle.fw_frame.specs.Frames.{PlainFrame}
use Rattle.fw_frame.specs.Parts.{Part, parts, with_digest, digested, shown_at}
use Rattle.fw_frame.specs.Undoing.{frame_in}
use Rattle.fw_frame.proofs.Undoing.{frame_in-only}
use Rattle.fw_frame.specs.declared.shown.Shown.{Shown}
use Rattle.fw_deal.specs.Deals.{hand_of}
use Rattle.fw_rules.specs.Deployed.{rule_by}
use Rattle.fw_law_filter.proofs.Holding.{In-right}
use Rattle.fw_law_text.specs.OneText.{text_fits}
use Rattle.fw_fair.specs.Showing.{shown_in, kept_in}
use Rattle.fw_fair.specs.Faults.{knows}
use Rattle.fw_fair.specs.Hostile.{Hostile, rules}
use Rattle.fw_law_agree.specs.Runs.{IsDeployment}
use Rattle.fw_law_agree.specs.Signed.{SignedBy}
use Rattle.fw_law_agree.specs.OneSignature.{Shows, IsOwned, IsOnSigned}
use Rattle.fw_law_agree.proofs.Listed.{flat-In}
use Rattle.fw_law_agree.proofs.Once.{signed_own}
use Rattle.fw_law_agree.proofs.Growing.{signed_after, kept_taken, kept_lied}
use Rattle.fw_law_agree.proofs.Sending.{IsMadeFrom, seat_sends}
use Rattle.fw_law_agree.proofs.Showing.{shown_part, bit_in, shows_again, shown_by_frame, keeps_text}
use Rattle.fw_law_agree.proofs.Knowing.{known_shown}
use Rattle.fw_law_agree.proofs.Fitting.{are_few, part_fits}

-- a place is on the side of what a seat has signed there, and the spelling of that text tells it apart
pub record IsReleased (w : Hostile) (t : Trace (List ℕ) Op) (seat : Seat) (place : Place) : Type 0 where
  pub on : IsOnSigned w t seat place
  pub fits : IsTrue (text_fits on.text)

-- a place is released once it is so of the owner of its slot, where the owner is correct
abbrev pub Released : Hostile → Trace (List ℕ) Op → Place → Type 0
Released w t place = (seat : Seat) → IsOwned w place.slot seat → IsReleased w t seat place

abbrev pub guarded : Hostile → Places (List ℕ) Op Place
guarded w = record {
  shows = λ m place. Shows w.directory m place;
  released = Released w;
  known = λ pool place. IsTrue (knows w.directory w.faulty pool place);
}

from_seat-In : {M : Type 0} (seat to : Seat) (m : M) (out : List (Seat × M)) → In (to, m) out → In (record { from = seat; to = to; message = m }) (from_seat seat out)
from_seat-In seat to m [] i = absurd i
from_seat-In seat to m (o ∷ out) (inl e) = inl (ap (λ (x : Seat × _). record { from = seat; to = x.0; message = x.1 }) e)
from_seat-In seat to m (o ∷ out) (inr i) = inr (from_seat-In seat to m out i)

module _ (w : Hostile) (k : IsDeployment w) where
  it_fits : (m : List ℕ) (frame : PlainFrame) → frame_in w.directory.params m ≡ Some frame → (part : Part) → In part (parts w.directory.params hash frame) → IsTrue (text_fits part.text)
  it_fits m frame read part among =
      part_fits w.directory.params (are_few w.directory.params k.directory.whole.sizes) frame (frame_in-only w.directory.params m frame read).fits part among

  -- the pool keeps what a frame says that was sent on an input
  sent_kept : (t : Trace (List ℕ) Op) (l : Logged (List ℕ) Op) (to : Seat) (m : List ℕ) → In (to, m) ((rules w).rule l.seat (history l.seat (l ∷ t.log))) → In (record { from = l.seat; to = to; message = m }) (takes (rules w) t l).pool
  sent_kept t l to m i = In-right _ t.pool _ (from_seat-In l.seat to m _ i)

  -- a place of a part that the seat signed is released
  signed_released : (t : Trace (List ℕ) Op) (l : Logged (List ℕ) Op) (to : Seat) (m : List ℕ) → In (to, m) ((rules w).rule l.seat (history l.seat (l ∷ t.log)))
      → (part : Part) → SignedBy w l.seat (history l.seat (l ∷ t.log)) part.slot part.text → In (with_digest hash part.text) (kept_in w.deal.origin w.directory m) → IsTrue (text_fits part.text)
      → (pair : Shown) (b : ℕ) → pair ≡ shown_at (digested hash part) b → Released w (takes (rules w) t l) pair.place
  signed_released t l to m i part signed kept fit pair b is seat owned =
      let slot : part.slot ≡ pair.place.slot = ap (λ (z : Shown). z.place.slot) (sym is) in
      let same : l.seat ≡ seat = same_Some l.seat seat (sym (signed_own w l.seat (history l.seat (l ∷ t.log)) part.slot part.text signed) ∙ ap owner slot ∙ owned.owned) in
      record {
        on = record {
          text = part.text;
          signed = subst (λ (z : Seat). SignedBy w z (history z (l ∷ t.log)) pair.place.slot part.text) same (subst (λ (z : Slot). SignedBy w l.seat (history l.seat (l ∷ t.log)) z part.text) slot signed);
          side = ap (λ (z : Shown). z.place.side) is ∙ ap (λ (z : ℕ). bit_of (hash part.text) z) (sym (ap (λ (z : Shown). z.place.bit) is));
          kept = flat-In (λ (s : Sent (List ℕ)). kept_in w.deal.origin w.directory s.message) (takes (rules w) t l).pool _ (with_digest hash part.text) (sent_kept t l to m i) kept;
        };
        fits = fit;
      }

  -- by where the part comes from that a pair is of
  pair_released : (t : Trace (List ℕ) Op) (l : Logged (List ℕ) Op) (to : Seat) (m : List ℕ) → In (to, m) ((rules w).rule l.seat (history l.seat (l ∷ t.log)))
      → IsMadeFrom w l.seat (history l.seat (l ∷ t.log)) m → (pair : Shown) → In pair (shown_in w.directory m) → Released w (takes (rules w) t l) pair.place ⊎ HeardIn (guarded w) (history l.seat (l ∷ t.log)) pair.place
  pair_released t l to m i a pair there =
      let of = shown_part w.directory a.frame pair (shown_by_frame w.directory m a.frame pair a.read there) in
      let at = bit_in w.directory pair of.part of.of in
      let slot : of.part.slot ≡ pair.place.slot = ap (λ (z : Shown). z.place.slot) (sym at.1) in
      elim (a.each of.part of.among) [
        | inl signed ↦ inl (signed_released t l to m i of.part signed (keeps_text w.deal.origin w.directory m a.frame of.part a.read of.among) (it_fits m a.frame a.read of.part of.among) pair at.0 at.1)
        | inr (inl nobody) ↦ inl (λ seat owned. absurd (none-some seat (sym nobody ∙ ap owner slot ∙ owned.owned)))
        | inr (inr heard) ↦ inr (heard.from, heard.bytes, heard.heard, (pair, shows_again w.directory heard.bytes heard.frame pair of.part heard.read heard.among of.of, refl))
      ]

  -- what a correct seat sends is what its rule says
  ruled : (seat : Seat) (h : History) (o : Seat × List ℕ) → is_correct w.directory.params w.faulty seat ≡ true → In o ((rules w).rule seat h) → In o (rule_by w.directory (hand_of w.deal seat) h)
  ruled seat h o correct i = subst (λ (b : Bool). In o (cond b (rule_by w.directory (hand_of w.deal seat) h) [])) correct i

  sends_released : (t : Trace (List ℕ) Op) (l : Logged (List ℕ) Op) → is_correct w.directory.params w.faulty l.seat ≡ true → (to : Seat) (m : List ℕ) → In (to, m) ((rules w).rule l.seat (history l.seat (l ∷ t.log)))
      → (place : Place) → Shows w.directory m place → Released w (takes (rules w) t l) place ⊎ HeardIn (guarded w) (history l.seat (l ∷ t.log)) place
  sends_released t l correct to m i place shows =
      let h = history l.seat (l ∷ t.log) in
      let fit : fits w.directory.params l.seat ≡ true = (and_parts (fits w.directory.params l.seat) (not (is_faulty w.faulty l.seat)) correct).0 in
      elim (seat_sends w k l.seat fit h (to, m) (ruled l.seat h (to, m) correct i)) [
        | inl made ↦ subst (λ (z : Place). Released w (takes (rules w) t l) z ⊎ HeardIn (guarded w) h z) shows.2 (pair_released t l to m i made shows.0 shows.1)
        | inr was ↦ inr (was.0, m, was.1, shows)
      ]

  stays_taken : (t : Trace (List ℕ) Op) (l : Logged (List ℕ) Op) (seat : Seat) (place : Place) → IsReleased w t seat place → IsReleased w (takes (rules w) t l) seat place
  stays_taken t l seat place r = record {
    on = record {
      text = r.on.text;
      signed = signed_after w seat l t.log place.slot r.on.text r.on.signed;
      side = r.on.side;
      kept = kept_taken w t l (with_digest hash r.on.text) r.on.kept;
    };
    fits = r.fits;
  }

  stays_lied : (t : Trace (List ℕ) Op) (s : Sent (List ℕ)) (seat : Seat) (place : Place) → IsReleased w t seat place → IsReleased w (lied t s) seat place
  stays_lied t s seat place r = record {
    on = record { text = r.on.text; signed = r.on.signed; side = r.on.side; kept = kept_lied w t s (with_digest hash r.on.text) r.on.kept };
    fits = r.fits;
  }

  pub places_guarded : Guards (rules w) (guarded w)
  places_guarded = record {
    source = λ t l traced all correct new to m i place shows. sends_released t l correct to m i place shows;
    stays = λ t l place released seat owned. stays_taken t l seat place (released seat owned);
    stays_lied = λ t s place released seat owned. stays_lied t s seat place (released seat owned);
    knows = λ t traced all place known seat owned. all place (known_shown w.directory w.faulty place seat owned.owned owned.correct t.pool known) seat owned;
  }
