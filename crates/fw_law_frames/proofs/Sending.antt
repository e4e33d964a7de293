-- All that an agreement node sends are frames of the deployment.
use Rattle.std.proofs.Common.{ℕ, ◌<◌, ◌≡◌, ◌⊎◌, inl, inr, nat_lt, nat_le, List, [], ◌∷◌, map, length, IsTrue, refl, sym, ◌∙◌, ap, subst}
use Rattle.std.proofs.lemmas.Bool.{and_from, lt-ltb, eq-eqb, ltb-true}
use Rattle.fw_list.specs.declared.limits.TheConstants.{SIGNATURE_LEN}
use Rattle.fw_base.specs.declared.seat.Seat.{Seat}
use Rattle.fw_base.specs.declared.seat.Seat.TheVariants as seats
use Rattle.fw_base.specs.Sizes.{agreements}
use Rattle.fw_trace.specs.declared.Input.{Input}
use Rattle.fw_trace.specs.declared.Input.TheVariants.{Heard, Tick, Submitted}
use Rattle.fw_trace.specs.Lists.{In}
use Rattle.fw_trace.specs.Role.{sends}
use Rattle.fw_frame.specs.Ranges.{view_fits, values_fit, proofs_fit, change_fits}
use Rattle.fw_frame.specs.Parts.{Part, Piece, Signed, Unsigned, part_of, pieces, proof_pieces}
use Rattle.fw_frame.specs.View.{Proof, Change, Agreed, Reply, Frame, Asks, Proposes, Votes, Changes, Begins, Agrees, Shares, Replies, Wants, plain_of, plain_proof_of, plain_change_of, is_single_entry, is_single_change}
use Rattle.fw_frame.proofs.Fields.{five}
use Rattle.std.specs.Prelude.{flat_map}
use Rattle.fw_rules.specs.Signing.{entry_digest}
use Rattle.fw_rules.specs.Agree.{Self, Cast, Pledge, Adopted, own_vote, own_proposal}
use Rattle.fw_rules.specs.Views.{agree_role, own_new_view}
use Rattle.fw_law_node.specs.Once.{node_after, own_after}
use Rattle.fw_law_node.specs.Ranges.{IsPlace, InRange}
use Rattle.fw_law_node.specs.Begun.{IsMade, AreCommitted}
use Rattle.fw_law_node.specs.Remembered.{WasAdmitted, Remembers}
use Rattle.fw_law_node.specs.Sent.{IsOf}
use Rattle.fw_law_node.specs.Sources.{IsOwn, WasHeard}
use Rattle.fw_law_node.proofs.Facts.{keeps_to}
use Rattle.fw_law_node.proofs.Ranges.{in_range}
use Rattle.fw_law_node.proofs.Begun.{are_committed}
use Rattle.fw_law_node.proofs.Remembered.{remembered}
use Rattle.fw_law_node.proofs.Sent.{are_sent}
use Rattle.fw_law_node.proofs.Each.{Each, Each-at, Each-right}
use Rattle.fw_law_node.proofs.Having.{OfPiece, EachPiece, FrameHas, EntryHas, ProofHas, ChangeHas, NodeHas, own_vote_has, own_pledge_has, own_proposal_has, own_new_view_has}
use Rattle.fw_law_node.proofs.Source.{AdmittedHas, kept_has}
use Rattle.fw_law_frames.specs.Plain.{IsPlain, MakesPlain}
use Rattle.fw_law_frames.specs.Sent.{IsPlainOf}
use Rattle.fw_law_frames.proofs.Entries.{EntriesHave, entries_kept}
use Rattle.fw_law_frames.proofs.Lists.{all_from}
use Rattle.fw_law_frames.proofs.Signatures.{Whole, admitted_plain, prepare_whole, commit_whole, new_view_whole, kept_whole}
use Rattle.fw_law_frames.proofs.Fitting.{IsFit, plain_from, plain_entries, number_is, signers_are, change_is, changes_are, some_member, was_plain}

-- what holds of each piece holds of each part, and the other way round
part_has : (Q : Part → Type 0) (ps : List Piece) → EachPiece Q ps → (part : Part) → In part (flat_map part_of ps) → Q part
part_has Q [] has part i = absurd i
part_has Q (Signed p ∷ ps) has part (inl e) = subst Q (sym e) has.0
part_has Q (Signed p ∷ ps) has part (inr i) = part_has Q ps has.1 part i
part_has Q (Unsigned t ∷ ps) has part i = part_has Q ps has.1 part i

has_parts : (Q : Part → Type 0) (ps : List Piece) → ((part : Part) → In part (flat_map part_of ps) → Q part) → EachPiece Q ps
has_parts Q [] each = tt
has_parts Q (Signed p ∷ ps) each = (each p (inl refl), has_parts Q ps (λ part i. each part (inr i)))
has_parts Q (Unsigned t ∷ ps) each = (tt, has_parts Q ps each)

heard_parts : {M O : Type 0} (me : Self M) (Q : Part → Type 0) (h : List (Input M O)) → ((part : Part) → WasHeard me h part → Q part) → AdmittedHas me Q h
heard_parts me Q [] each = tt
heard_parts me Q (Heard from m ∷ h) each = (
  λ frame e. has_parts Q (pieces me.means.params me.means.hash (plain_of frame)) (λ part i. each part (inl (record { frame = frame; read = e; among = i }))),
  heard_parts me Q h (λ part was. each part (inr was)),
)
heard_parts me Q (Tick ∷ h) each = heard_parts me Q h each
heard_parts me Q (Submitted op ∷ h) each = heard_parts me Q h each

module _ {M O : Type 0} (me : Self M) (k : MakesPlain me.means (seats.Agree me.own)) (small : me.own < agreements me.means.params) (some : 0 < me.means.params.views) (h : List (Input M O)) where
  entries : EntriesHave (IsFit me.means.params) (node_after me h)
  entries =
      entries_kept (IsFit me.means.params) me (refl, refl) (λ from m frame e. plain_entries me.means.params frame (admitted_plain me k from m frame e)) h

  whole : NodeHas me Whole (node_after me h)
  whole = kept_whole me k small some h

  range : InRange me.means.params me.own (node_after me h).own
  range = in_range me h some

  heard : Remembers (WasAdmitted me h) (node_after me h).heard
  heard = remembered me h

  at_view : (v : ℕ) → v < me.means.params.views → IsTrue (view_fits me.means.params v)
  at_view v below = lt-ltb v me.means.params.views below

  all_values : (values : List ℕ) → length values ≡ SIGNATURE_LEN → IsTrue (values_fit values)
  all_values values e = eq-eqb (length values) SIGNATURE_LEN e

  -- ---- proposals and votes

  proposal_plain : (c : Cast) → In c (node_after me h).own.casts → IsPlain me.means.params (Proposes (own_proposal me c.view c.number c.entry))
  proposal_plain c i =
      let p = me.means.params in
      let place = range.casts c i in
      let fit = entries.casts c i in
      plain_from p (Proposes (own_proposal me c.view c.number c.entry))
      (and_from _ _
      (and_from _ _ (and_from _ _ (at_view c.view place.0) (number_is p c.number place.1)) fit.1)
      (all_values (own_proposal me c.view c.number c.entry).sig (prepare_whole me k small c.view c.number _ place.0 place.1))) fit.0

  vote_plain : (phase v n : ℕ) (digest : List ℕ) → IsTrue (nat_le phase 1) → IsPlace me.means.params v n → length digest ≡ 32 → length (own_vote me phase v n digest).sig ≡ SIGNATURE_LEN → IsPlain me.means.params (Votes (own_vote me phase v n digest))
  vote_plain phase v n digest kind place long signed =
      let p = me.means.params in
      record {
        fits = and_from _ _
            (and_from _ _
            (and_from _ _
            (and_from _ _ (and_from _ _ kind (at_view v place.0)) (number_is p n place.1))
            (lt-ltb me.own (agreements p) small))
            (eq-eqb (length digest) 32 long))
            (all_values (own_vote me phase v n digest).sig signed);
        seen = refl;
      }

  cast_plain : (c : Cast) → In c (node_after me h).own.casts → IsPlain me.means.params (Votes (own_vote me 0 c.view c.number (entry_digest me.means.hash c.entry)))
  cast_plain c i =
      let place = range.casts c i in
      vote_plain 0 c.view c.number (entry_digest me.means.hash c.entry) refl place (k.hashes _) (prepare_whole me k small c.view c.number _ place.0 place.1)

  pledge_plain : (c : Pledge) → In c (node_after me h).own.pledges → IsPlain me.means.params (Votes (own_vote me 1 c.view c.number c.digest))
  pledge_plain c i =
      let place = range.pledges c i in
      let cast = (keeps_to me h).proved.cast c i in
      vote_plain 1 c.view c.number c.digest refl place (ap length (sym cast.its_digest) ∙ k.hashes _) (commit_whole me k small c.view c.number _ place.0 place.1)

  -- ---- view changes and new views

  signed_change : (c : Change) → ChangeHas me.means.hash Whole c → length c.sig ≡ SIGNATURE_LEN
  signed_change c has =
      (Each-right (OfPiece Whole) (flat_map (proof_pieces me.means.hash) (map plain_proof_of c.proofs)) _ has).0

  move_fits : (c : Change) → In c (node_after me h).own.moves → IsTrue (change_fits me.means.params (plain_change_of c))
  move_fits c i =
      let own = (node_after me h).own in
      change_is me.means.params me.own me.means.hash own.proofs c small (range.moves c i) range.proofs entries.proofs
      (λ q j. Each-at (ProofHas me.means.hash Whole) own.proofs q whole.own.proofs j)
      (signed_change c (Each-at (ChangeHas me.means.hash Whole) own.moves c whole.own.moves i))

  one_by_one : (c : Change) → ((q : Proof) → In q c.proofs → IsFit me.means.params q.entry) → IsTrue (is_single_change c)
  one_by_one c each = all_from (λ q. is_single_entry q.entry) c.proofs (λ q i. (each q i).0)

  move_plain : (c : Change) → In c (node_after me h).own.moves → IsPlain me.means.params (Changes c)
  move_plain c i = plain_from me.means.params (Changes c) (move_fits c i) (one_by_one c (entries.moves c i))

  new_view_plain : (a : Adopted) → In a (node_after me h).own.adopted → IsMade me.means.params me.own (node_after me h) a → IsPlain me.means.params (Begins (own_new_view me a.view a.changes))
  new_view_plain a i made =
      let p = me.means.params in
      let each : (c : Change) → In c a.changes → IsTrue (change_fits p (plain_change_of c)) =
      λ c j. elim (made.known c j) [
        | inl own ↦ move_fits c own
        | inr other ↦ (was_plain me k h (Changes c) (heard.changes c other)).fits
      ] in
      let one = some_member p a.changes made.nodes in
      let its = five (nat_lt 0 one.0.view) (view_fits p one.0.view) (nat_lt one.0.agree (agreements p)) (proofs_fit p one.0.view (map plain_proof_of one.0.proofs)) (values_fit one.0.sig) (each one.0 one.1) in
      let same = made.views one.0 one.1 in
      let later : IsTrue (nat_lt 0 a.view) = subst (λ (v : ℕ). IsTrue (nat_lt 0 v)) same its.0 in
      let low : IsTrue (view_fits p a.view) = subst (λ (v : ℕ). IsTrue (view_fits p v)) same its.1 in
      plain_from p (Begins (own_new_view me a.view a.changes))
      (and_from _ _
      (and_from _ _ (and_from _ _ later low) (changes_are p a.view a.changes made.nodes made.views each))
      (all_values (own_new_view me a.view a.changes).sig (new_view_whole me k small a.view _ (ltb-true a.view p.views low))))
      (all_from is_single_change a.changes (λ c j. one_by_one c (entries.adopted a i c j)))

  -- ---- what it has committed

  agreed_plain : (a : Agreed) → In a (node_after me h).committed → IsPlain me.means.params (Agrees a)
  agreed_plain a i =
      let p = me.means.params in
      let x = node_after me h in
      let is : AreCommitted p x.committed = are_committed me h in
      let place = is.places a i in
      let fit = entries.committed a i in
      let has = Each-at (λ (b : Agreed). FrameHas me Whole (Agrees b)) x.committed a whole.committed i in
      plain_from p (Agrees a)
      (and_from _ _
      (and_from _ _ (and_from _ _ (at_view a.view place.0) (number_is p a.number place.1)) fit.1)
      (signers_are p 1 a.view a.number _ a.signers (is.signers a i) has.1)) fit.0

  -- ---- all that it sends

  of_plain : (frame : Frame) → IsOf me (node_after me h) frame → IsPlain me.means.params frame
  of_plain (Proposes m) is = subst (λ z. IsPlain me.means.params (Proposes z)) (sym is.2) (proposal_plain is.0 is.1)
  of_plain (Votes v) (inl is) = subst (λ z. IsPlain me.means.params (Votes z)) (sym is.2) (cast_plain is.0 is.1)
  of_plain (Votes v) (inr is) = subst (λ z. IsPlain me.means.params (Votes z)) (sym is.2) (pledge_plain is.0 is.1)
  of_plain (Changes c) is = move_plain c is
  of_plain (Begins n) is = subst (λ z. IsPlain me.means.params (Begins z)) (sym is.2) (new_view_plain is.0 is.1 is.3)
  of_plain (Agrees a) is = agreed_plain a is
  of_plain (Replies r) is = was_plain me k h (Replies r) (heard.held r is)
  of_plain (Asks r) is = absurd is
  of_plain (Shares s) is = absurd is
  of_plain (Wants n) is = absurd is

  -- ---- where its signatures come from

  abbrev FromHere : Part → Type 0
  FromHere part = IsOwn me (own_after me h) part ⊎ WasHeard me h part

  known : NodeHas me FromHere (node_after me h)
  known = kept_has me FromHere h (heard_parts me FromHere h (λ part was. inr was)) (λ part own. inl own)

  of_has : (frame : Frame) → IsOf me (node_after me h) frame → FrameHas me FromHere frame
  of_has (Proposes m) is =
      let c = is.0 in
      let own = (node_after me h).own in
      subst (λ z. FrameHas me FromHere (Proposes z)) (sym is.2)
      (own_proposal_has me FromHere own c.view c.number c.entry (λ part k. inl k) is.1 is.3 (Each-at (λ (z : Cast). EntryHas FromHere z.entry) own.casts c known.own.casts is.1))
  of_has (Votes v) (inl is) =
      let c = is.0 in
      subst (λ z. FrameHas me FromHere (Votes z)) (sym is.2)
      (own_vote_has me FromHere (node_after me h).own c.view c.number c.entry (λ part k. inl k) is.1 me.own refl, tt)
  of_has (Votes v) (inr is) =
      let c = is.0 in
      subst (λ z. FrameHas me FromHere (Votes z)) (sym is.2) (own_pledge_has me FromHere (node_after me h).own c.view c.number c.digest (λ part k. inl k) is.1)
  of_has (Changes c) is = Each-at (ChangeHas me.means.hash FromHere) (node_after me h).own.moves c known.own.moves is
  of_has (Begins n) is =
      let a = is.0 in
      let own = (node_after me h).own in
      subst (λ z. FrameHas me FromHere (Begins z)) (sym is.2)
      (own_new_view_has me FromHere own a.view a.changes (λ part k. inl k) is.1 is.3.by (Each-at (λ (z : Adopted). Each (ChangeHas me.means.hash FromHere) z.changes) own.adopted a known.own.adopted is.1))
  of_has (Agrees a) is = Each-at (λ (b : Agreed). FrameHas me FromHere (Agrees b)) (node_after me h).committed a known.committed is
  of_has (Replies r) is = Each-at (λ (b : Reply). FrameHas me FromHere (Replies b)) (node_after me h).heard.held r known.heard.held is
  of_has (Asks r) is = absurd is
  of_has (Shares s) is = absurd is
  of_has (Wants n) is = absurd is

  pub sent_plain : (o : Seat × M) → In o (sends (agree_role me) h) → IsPlainOf me h o.1
  sent_plain o i =
      let sent = are_sent me h o i in
      record {
        frame = sent.frame;
        written = sent.written;
        of = sent.of;
        plain = of_plain sent.frame sent.of;
        sourced = λ part j. part_has FromHere (pieces me.means.params me.means.hash (plain_of sent.frame)) (of_has sent.frame sent.of) part j;
      }
