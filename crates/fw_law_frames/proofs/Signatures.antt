-- Each signature that a node keeps is whole: it stood in a frame that it heard, or it made it.
use Rattle.std.proofs.Common.{ℕ, ◌<◌, ◌≡◌, ◌&&◌, nat_eq, List, [], ◌∷◌, map, length, arith, IsTrue, refl, sym, ◌∙◌, ap, subst, Some, All}
use Rattle.std.specs.Prelude.{flat_map}
use Rattle.std.proofs.lemmas.Bool.{and_from, lt-ltb, le-leb, eq-eqb}
use Rattle.std.proofs.lemmas.List.Elements.{All-head, All-tail}
use Rattle.fw_list.specs.declared.limits.TheConstants.{SIGNATURE_LEN}
use Rattle.fw_list.specs.Numbers.{within}
use Rattle.fw_base.specs.declared.seat.Seat.{Seat}
use Rattle.fw_base.specs.declared.seat.Seat.TheVariants as seats
use Rattle.fw_base.specs.declared.slot.Slot.{Slot}
use Rattle.fw_base.specs.declared.slot.Slot.TheVariants as slots
use Rattle.fw_base.specs.Sizes.{agreements}
use Rattle.fw_base.specs.Seats.{fits, linked}
use Rattle.fw_text.specs.Texts.{Text, Hash}
use Rattle.fw_trace.specs.declared.Input.{Input}
use Rattle.fw_trace.specs.declared.Input.TheVariants.{Heard, Tick, Submitted}
use Rattle.fw_frame.specs.Parts.{Part, Piece, Signed, Unsigned, digested, IsWhole, pieces, part_of}
use Rattle.fw_frame.specs.View.{Frame, plain_of}
use Rattle.fw_frame.proofs.Whole.{whole_where_fits}
use Rattle.fw_rules.specs.Choices.{admitted}
use Rattle.fw_rules.specs.Agree.{Self, Own}
use Rattle.fw_law_words.proofs.Tests.{when-some}
use Rattle.fw_law_node.specs.Once.{node_after, own_after}
use Rattle.fw_law_node.specs.Facts.{IsNumber, UpToItsView}
use Rattle.fw_law_node.specs.Ranges.{InRange}
use Rattle.fw_law_node.specs.Sources.{Names}
use Rattle.fw_law_node.proofs.Facts.{keeps_to}
use Rattle.fw_law_node.proofs.Ranges.{in_range}
use Rattle.fw_law_node.proofs.Having.{EachPiece, FrameHas, NodeHas, CoversOwn}
use Rattle.fw_law_node.proofs.Source.{AdmittedHas, kept_has}
use Rattle.fw_law_frames.specs.Plain.{IsPlain, MakesPlain}

-- all its values
abbrev pub Whole : Part → Type 0
Whole part = length part.values ≡ SIGNATURE_LEN

-- ---- what it hears

pub admitted_plain : {M : Type 0} (me : Self M) → MakesPlain me.means (seats.Agree me.own) → (from : Seat) (m : M) (frame : Frame) → admitted me.means (seats.Agree me.own) from m ≡ Some frame → IsPlain me.means.params frame
admitted_plain me k from m frame e =
    k.reads m frame (when-some (fits me.means.params from && linked me.means.params from (seats.Agree me.own)) (me.means.read m) frame e).1

pieces_whole : (hash : Hash) (ps : List Piece) → All IsWhole (map (digested hash) (flat_map part_of ps)) → EachPiece Whole ps
pieces_whole hash [] all = tt
pieces_whole hash (Signed part ∷ ps) all =
    (All-head IsWhole (digested hash part) (map (digested hash) (flat_map part_of ps)) all, pieces_whole hash ps (All-tail IsWhole (digested hash part) (map (digested hash) (flat_map part_of ps)) all))
pieces_whole hash (Unsigned text ∷ ps) all = (tt, pieces_whole hash ps all)

plain_whole : {M : Type 0} (me : Self M) (frame : Frame) → IsPlain me.means.params frame → FrameHas me Whole frame
plain_whole me frame plain =
    pieces_whole me.means.hash (pieces me.means.params me.means.hash (plain_of frame)) (whole_where_fits me.means.params me.means.hash (plain_of frame) plain.fits)

admitted_whole : {M O : Type 0} (me : Self M) → MakesPlain me.means (seats.Agree me.own) → (h : List (Input M O)) → AdmittedHas me Whole h
admitted_whole me k [] = tt
admitted_whole me k (Heard from m ∷ h) = (λ frame e. plain_whole me frame (admitted_plain me k from m frame e), admitted_whole me k h)
admitted_whole me k (Tick ∷ h) = admitted_whole me k h
admitted_whole me k (Submitted op ∷ h) = admitted_whole me k h

-- ---- what it makes

module _ {M : Type 0} (me : Self M) (k : MakesPlain me.means (seats.Agree me.own)) (small : me.own < agreements me.means.params) where
  at_number : (n : ℕ) → IsNumber me.means.params n → IsTrue (within 1 n me.means.params.numbers)
  at_number n is = and_from _ _ (le-leb 1 n is.0) (le-leb n me.means.params.numbers is.1)

  mine : IsTrue (nat_eq me.own me.own)
  mine = eq-eqb me.own me.own refl

  pub prepare_whole : (v n : ℕ) (text : Text) → v < me.means.params.views → IsNumber me.means.params n → length (me.means.sign (slots.Prepare v n me.own) 0 text) ≡ SIGNATURE_LEN
  prepare_whole v n text below is =
      k.signs (slots.Prepare v n me.own) 0 text (and_from _ _ (and_from _ _ (lt-ltb v me.means.params.views below) (at_number n is)) (lt-ltb me.own (agreements me.means.params) small)) mine

  pub commit_whole : (v n : ℕ) (text : Text) → v < me.means.params.views → IsNumber me.means.params n → length (me.means.sign (slots.Commit v n me.own) 0 text) ≡ SIGNATURE_LEN
  commit_whole v n text below is =
      k.signs (slots.Commit v n me.own) 0 text (and_from _ _ (and_from _ _ (lt-ltb v me.means.params.views below) (at_number n is)) (lt-ltb me.own (agreements me.means.params) small)) mine

  pub change_whole : (v : ℕ) (text : Text) → v < me.means.params.views → length (me.means.sign (slots.Change v me.own) 0 text) ≡ SIGNATURE_LEN
  change_whole v text below =
      k.signs (slots.Change v me.own) 0 text (and_from _ _ (lt-ltb v me.means.params.views below) (lt-ltb me.own (agreements me.means.params) small)) mine

  pub new_view_whole : (v : ℕ) (text : Text) → v < me.means.params.views → length (me.means.sign (slots.NewView v me.own) 0 text) ≡ SIGNATURE_LEN
  new_view_whole v text below =
      k.signs (slots.NewView v me.own) 0 text (and_from _ _ (lt-ltb v me.means.params.views below) (lt-ltb me.own (agreements me.means.params) small)) mine

  named_whole : (own : Own) → InRange me.means.params me.own own → UpToItsView own → (slot : Slot) (text : Text) → Names me own slot text → length (me.means.sign slot 0 text) ≡ SIGNATURE_LEN
  named_whole own range up (slots.Prepare v n i) text h =
      let place = range.casts h.1.0 h.1.1 in
      subst (λ (j : ℕ). length (me.means.sign (slots.Prepare v n j) 0 text) ≡ SIGNATURE_LEN) (sym h.0)
      (prepare_whole v n text (subst (λ (u : ℕ). u < me.means.params.views) h.1.2 place.0) (subst (IsNumber me.means.params) h.1.3 place.1))
  named_whole own range up (slots.Commit v n i) text h =
      let place = range.pledges h.1.0 h.1.1 in
      subst (λ (j : ℕ). length (me.means.sign (slots.Commit v n j) 0 text) ≡ SIGNATURE_LEN) (sym h.0)
      (commit_whole v n text (subst (λ (u : ℕ). u < me.means.params.views) h.1.2 place.0) (subst (IsNumber me.means.params) h.1.3 place.1))
  named_whole own range up (slots.Change v i) text h =
      subst (λ (j : ℕ). length (me.means.sign (slots.Change v j) 0 text) ≡ SIGNATURE_LEN) (sym h.0)
      (change_whole v text (subst (λ (u : ℕ). u < me.means.params.views) h.1.2 (range.moves h.1.0 h.1.1).below))
  named_whole own range up (slots.NewView v i) text h =
      let low = up.adopted h.1.0 h.1.1 in
      let high = range.view in
      let same = h.1.2 in
      subst (λ (j : ℕ). length (me.means.sign (slots.NewView v j) 0 text) ≡ SIGNATURE_LEN) (sym h.0) (new_view_whole v text (omega (arith, low, high, same)))
  named_whole own range up (slots.Request c s) text h = absurd h
  named_whole own range up (slots.Reply n) text h = absurd h

  own_whole : {O : Type 0} → 0 < me.means.params.views → (h : List (Input M O)) → CoversOwn me Whole (own_after me h)
  own_whole some h part o = ap length o.values ∙ named_whole (own_after me h) (in_range me h some) (keeps_to me h).up_to part.slot part.text o.named

  -- all that it keeps
  pub kept_whole : {O : Type 0} → 0 < me.means.params.views → (h : List (Input M O)) → NodeHas me Whole (node_after me h)
  kept_whole some h = kept_has me Whole h (admitted_whole me k h) (own_whole some h)
