-- The texts of frames of a deployment fit: their spelling tells them apart.
use Rattle.std.proofs.Common.{ℕ, ◌^◌, ◌<◌, ◌≤◌, ◌≡◌, ◌&&◌, ◌||◌, inl, inr, nat_eq, nat_lt, nat_le, true, List, map, length, arith, IsTrue, refl, sym, subst, Some, None}
use Rattle.std.specs.Prelude.{flat_map}
use Rattle.std.specs.List.{list_all}
use Rattle.std.proofs.lemmas.Bool.{and_parts, and_from, or_cases, lt-ltb, ltb-true, leb-true, eq-eqb, eqb-true}
use Rattle.std.proofs.lemmas.List.{length-map}
use Rattle.fw_list.specs.Numbers.{ascending, within}
use Rattle.fw_base.specs.declared.params.Params.{Params}
use Rattle.fw_base.specs.Sizes.{accepted, agreements, executors, quorum, primary}
use Rattle.fw_base.proofs.Naming.{agreements_few}
use Rattle.fw_text.specs.Texts.{Text, hash}
use Rattle.fw_trace.specs.Lists.{In}
use Rattle.fw_trace.proofs.Words.{In-append}
use Rattle.fw_frame.specs.Frames.{PlainRequest, PlainEntry, PlainSigner, PlainProof, PlainChange, PlainFrame}
use Rattle.fw_frame.specs.Frames as frames
use Rattle.fw_frame.specs.Ranges.{view_fits, number_fits, asker_fits, body_fits, values_fit, request_fits, entry_fits, signers_fit, proof_fits, proofs_fit, change_fits, changes_fit, answer_fits, frame_fits}
use Rattle.fw_frame.specs.Parts.{Part, Piece, Signed, Unsigned, request_piece, entry_piece, vote_piece, signer_piece, signer_pieces, proof_pieces, change_pieces, new_view_pieces, change_text, new_view_text, listed, heading, pieces, part_of, parts, text_of, entry_digest}
use Rattle.fw_frame.proofs.Fields.{three, four, five}
use Rattle.fw_deal.proofs.InRows.{length-hash}
use Rattle.fw_law_text.specs.OneText as texts
use Rattle.fw_law_words.proofs.Lists.{In-map}
use Rattle.fw_law_frames.proofs.Lists.{all_at, mapped_all}
use Rattle.fw_law_agree.proofs.Listed.{In-flat}

-- how large the sizes of a deployment are at most
pub record AreFew (p : Params) : Type 0 where
  pub views : p.views < 1000
  pub numbers : p.numbers < 1000
  pub clients : p.clients < 1000
  pub stamps : p.stamps < 1000
  pub nodes : agreements p < 1000
  pub quorum : quorum p < 1000

pub are_few : (p : Params) → IsTrue (accepted p) → AreFew p
are_few p ok = record {
  views = grind arith;
  numbers = grind arith;
  clients = grind arith;
  stamps = grind arith;
  nodes = (let few = agreements_few p ok in omega (arith, few));
  quorum = grind arith;
}

word : (n : ℕ) → n < 1000 → texts.number_fits n ≡ true
word n small = lt-ltb n (2 ^ 32) (omega arith)

digest_long : (text : Text) → texts.digest_fits (hash text) ≡ true
digest_long text = eq-eqb (length (hash text)) 32 (length-hash text)

below_within : (n most : ℕ) → IsTrue (within 1 n most) → n ≤ most
below_within n most e = leb-true n most (and_parts (nat_le 1 n) (nat_le n most) e).1

abbrev pub Fits : Piece → Type 0
Fits piece = IsTrue (texts.text_fits (text_of piece))

module _ (p : Params) (few : AreFew p) where
  view_word : (v : ℕ) → IsTrue (view_fits p v) → texts.number_fits v ≡ true
  view_word v e = let below = ltb-true v p.views e in let most = few.views in word v (omega (arith, below, most))

  number_word : (n : ℕ) → IsTrue (number_fits p n) → texts.number_fits n ≡ true
  number_word n e = let below = below_within n p.numbers e in let most = few.numbers in word n (omega (arith, below, most))

  node_word : (i : ℕ) → IsTrue (nat_lt i (agreements p)) → texts.number_fits i ≡ true
  node_word i e = let below = ltb-true i (agreements p) e in let most = few.nodes in word i (omega (arith, below, most))

  asker_words : (client stamp : ℕ) → IsTrue (asker_fits p client stamp) → (texts.number_fits client ≡ true) × (texts.number_fits stamp ≡ true)
  asker_words client stamp e =
      let both = and_parts (nat_lt client p.clients) (within 1 stamp p.stamps) e in
      let c = ltb-true client p.clients both.0 in
      let s = below_within stamp p.stamps both.1 in
      let cs = few.clients in
      let ss = few.stamps in
      (word client (omega (arith, c, cs)), word stamp (omega (arith, s, ss)))

  request_piece_fits : (r : PlainRequest) → IsTrue (request_fits p r) → Fits (request_piece r)
  request_piece_fits r e =
      let f = three (asker_fits p r.client r.stamp) (body_fits r.body) (values_fit r.sig) e in
      let words = asker_words r.client r.stamp f.0 in
      and_from _ _ words.0 words.1

  entry_piece_fits : (entry : PlainEntry) → IsTrue (entry_fits p entry) → Fits (entry_piece entry)
  entry_piece_fits None e = refl
  entry_piece_fits (Some r) e = request_piece_fits r e

  vote_piece_fits : (phase view number agree : ℕ) (digest sig : List ℕ) → IsTrue (nat_le phase 1) → IsTrue (view_fits p view) → IsTrue (number_fits p number) → Fits (vote_piece phase view number agree digest sig)
  vote_piece_fits phase view number agree digest sig e v n = and_from _ _ (and_from _ _ e (view_word view v)) (number_word number n)

  signer_pieces_fit : (phase view number : ℕ) (digest : List ℕ) (signers : List PlainSigner) → IsTrue (nat_le phase 1) → IsTrue (view_fits p view) → IsTrue (number_fits p number) → (piece : Piece) → In piece (signer_pieces phase view number digest signers) → Fits piece
  signer_pieces_fit phase view number digest signers e v n piece i =
      let s = In-map (signer_piece phase view number digest) signers piece i in
      subst Fits (sym s.2) (vote_piece_fits phase view number s.0.agree digest s.0.sig e v n)

  earlier_view : (v view : ℕ) → IsTrue (nat_lt v view) → IsTrue (view_fits p view) → IsTrue (view_fits p v)
  earlier_view v view e f = let one = ltb-true v view e in let two = ltb-true view p.views f in lt-ltb v p.views (omega (arith, one, two))

  proof_pieces_fit : (view : ℕ) (q : PlainProof) → IsTrue (view_fits p view) → IsTrue (proof_fits p view q) → (piece : Piece) → In piece (proof_pieces hash q) → Fits piece
  proof_pieces_fit view q v e piece i =
      let f = four (nat_lt q.view view) (number_fits p q.number) (entry_fits p q.entry) (signers_fit p q.signers) e in
      elim i [
        | inl s ↦ subst Fits (sym s) (entry_piece_fits q.entry f.2)
        | inr j ↦ signer_pieces_fit 0 q.view q.number (entry_digest hash q.entry) q.signers refl (earlier_view q.view view f.0 v) f.1 piece j
      ]

  listed_word : (view : ℕ) (q : PlainProof) → IsTrue (view_fits p view) → IsTrue (proof_fits p view q) → IsTrue (texts.listed_fits (listed hash q))
  listed_word view q v e =
      let f = four (nat_lt q.view view) (number_fits p q.number) (entry_fits p q.entry) (signers_fit p q.signers) e in
      and_from _ _ (and_from _ _ (view_word q.view (earlier_view q.view view f.0 v)) (number_word q.number f.1)) (digest_long _)

  change_text_fits : (c : PlainChange) → IsTrue (change_fits p c) → IsTrue (texts.text_fits (change_text hash c))
  change_text_fits c e =
      let f = five (nat_lt 0 c.view) (view_fits p c.view) (nat_lt c.agree (agreements p)) (proofs_fit p c.view c.proofs) (values_fit c.sig) e in
      let g = three (nat_le (length c.proofs) p.numbers) (list_all (proof_fits p c.view) c.proofs) (ascending (map (λ q. q.number) c.proofs)) f.3 in
      let long = length-map c.proofs (listed hash) in
      let most = leb-true (length c.proofs) p.numbers g.0 in
      let numbers = few.numbers in
      let count = word (length (map (listed hash) c.proofs)) (omega (arith, long, most, numbers)) in
      let each = mapped_all texts.listed_fits (listed hash) c.proofs (λ q i. listed_word c.view q f.1 (all_at (proof_fits p c.view) c.proofs q g.1 i)) in
      and_from _ _ (and_from _ _ (and_from _ _ (view_word c.view f.1) (node_word c.agree f.2)) count) each

  change_pieces_fit : (c : PlainChange) → IsTrue (change_fits p c) → (piece : Piece) → In piece (change_pieces hash c) → Fits piece
  change_pieces_fit c e piece i =
      let f = five (nat_lt 0 c.view) (view_fits p c.view) (nat_lt c.agree (agreements p)) (proofs_fit p c.view c.proofs) (values_fit c.sig) e in
      let g = three (nat_le (length c.proofs) p.numbers) (list_all (proof_fits p c.view) c.proofs) (ascending (map (λ q. q.number) c.proofs)) f.3 in
      elim (In-append piece (flat_map (proof_pieces hash) c.proofs) _ i) [
        | inl j ↦
            let q = In-flat (proof_pieces hash) c.proofs piece j in
            proof_pieces_fit c.view q.0 f.1 (all_at (proof_fits p c.view) c.proofs q.0 g.1 q.1) piece q.2
        | inr (inl s) ↦ subst Fits (sym s) (change_text_fits c e)
        | inr (inr none) ↦ absurd none
      ]

  answer_words : (number client stamp : ℕ) (body : List ℕ) → IsTrue (number_fits p number) → IsTrue (answer_fits p client stamp body) → IsTrue (texts.number_fits number && texts.number_fits client && texts.number_fits stamp)
  answer_words number client stamp body n e =
      let both = and_parts (body_fits body) (asker_fits p client stamp || nat_eq client 0 && nat_eq stamp 0 && list_all (nat_eq 0) body) e in
      elim (or_cases (asker_fits p client stamp) (nat_eq client 0 && nat_eq stamp 0 && list_all (nat_eq 0) body) both.1) [
        | inl asked ↦ let words = asker_words client stamp asked in and_from _ _ (and_from _ _ (number_word number n) words.0) words.1
        | inr null ↦
            let z = three (nat_eq client 0) (nat_eq stamp 0) (list_all (nat_eq 0) body) null in
            let c = eqb-true client 0 z.0 in
            let s = eqb-true stamp 0 z.1 in
            and_from _ _ (and_from _ _ (number_word number n) (word client (omega (arith, c)))) (word stamp (omega (arith, s)))
      ]

  changes_each : (view : ℕ) (changes : List PlainChange) → IsTrue (changes_fit p view changes) → (length changes ≡ quorum p) × ((c : PlainChange) → In c changes → IsTrue (change_fits p c))
  changes_each view changes e =
      let g = three (nat_eq (length changes) (quorum p)) (list_all (λ c. nat_eq c.view view && change_fits p c) changes) (ascending (map (λ c. c.agree) changes)) e in
      (eqb-true (length changes) (quorum p) g.0, λ c i. (and_parts (nat_eq c.view view) (change_fits p c) (all_at (λ c. nat_eq c.view view && change_fits p c) changes c g.1 i)).1)

  heading_word : (c : PlainChange) → IsTrue (change_fits p c) → IsTrue (texts.heading_fits (heading hash c))
  heading_word c e =
      let f = five (nat_lt 0 c.view) (view_fits p c.view) (nat_lt c.agree (agreements p)) (proofs_fit p c.view c.proofs) (values_fit c.sig) e in
      and_from _ _ (node_word c.agree f.2) (digest_long _)

  new_view_text_fits : (view : ℕ) (changes : List PlainChange) → IsTrue (view_fits p view) → IsTrue (changes_fit p view changes) → IsTrue (texts.text_fits (new_view_text hash view changes))
  new_view_text_fits view changes v e =
      let g = changes_each view changes e in
      let long = length-map changes (heading hash) in
      let count = g.0 in
      let most = few.quorum in
      and_from _ _ (and_from _ _ (view_word view v) (word (length (map (heading hash) changes)) (omega (arith, long, count, most))))
      (mapped_all texts.heading_fits (heading hash) changes (λ c i. heading_word c (g.1 c i)))

  new_view_pieces_fit : (view agree : ℕ) (changes : List PlainChange) (sig : List ℕ) → IsTrue (view_fits p view) → IsTrue (changes_fit p view changes) → (piece : Piece) → In piece (new_view_pieces hash view agree changes sig) → Fits piece
  new_view_pieces_fit view agree changes sig v e piece i =
      elim (In-append piece (flat_map (change_pieces hash) changes) _ i) [
        | inl j ↦ let c = In-flat (change_pieces hash) changes piece j in change_pieces_fit c.0 ((changes_each view changes e).1 c.0 c.1) piece c.2
        | inr (inl s) ↦ subst Fits (sym s) (new_view_text_fits view changes v e)
        | inr (inr none) ↦ absurd none
      ]

  pieces_fit : (frame : PlainFrame) → IsTrue (frame_fits p frame) → (piece : Piece) → In piece (pieces p hash frame) → Fits piece
  pieces_fit (frames.Request r) e piece (inl s) = subst Fits (sym s) (request_piece_fits r e)
  pieces_fit (frames.Request r) e piece (inr i) = absurd i
  pieces_fit (frames.Propose view number entry sig) e piece (inl s) =
      let f = four (view_fits p view) (number_fits p number) (entry_fits p entry) (values_fit sig) e in subst Fits (sym s) (entry_piece_fits entry f.2)
  pieces_fit (frames.Propose view number entry sig) e piece (inr (inl s)) =
      let f = four (view_fits p view) (number_fits p number) (entry_fits p entry) (values_fit sig) e in
      subst Fits (sym s) (vote_piece_fits 0 view number (primary p view) (entry_digest hash entry) sig refl f.0 f.1)
  pieces_fit (frames.Propose view number entry sig) e piece (inr (inr i)) = absurd i
  pieces_fit (frames.Vote phase view number agree digest sig) e piece (inl s) =
      let front = (and_parts _ _ (and_parts _ _ e).0).0 in
      let f = four (nat_le phase 1) (view_fits p view) (number_fits p number) (nat_lt agree (agreements p)) front in
      subst Fits (sym s) (vote_piece_fits phase view number agree digest sig f.0 f.1 f.2)
  pieces_fit (frames.Vote phase view number agree digest sig) e piece (inr i) = absurd i
  pieces_fit (frames.Change c) e piece i = change_pieces_fit c e piece i
  pieces_fit (frames.NewView view changes sig) e piece i =
      let f = four (nat_lt 0 view) (view_fits p view) (changes_fit p view changes) (values_fit sig) e in new_view_pieces_fit view (primary p view) changes sig f.1 f.2 piece i
  pieces_fit (frames.Agreed view number entry signers) e piece (inl s) =
      let f = four (view_fits p view) (number_fits p number) (entry_fits p entry) (signers_fit p signers) e in subst Fits (sym s) (entry_piece_fits entry f.2)
  pieces_fit (frames.Agreed view number entry signers) e piece (inr i) =
      let f = four (view_fits p view) (number_fits p number) (entry_fits p entry) (signers_fit p signers) e in
      signer_pieces_fit 1 view number (entry_digest hash entry) signers refl f.0 f.1 piece i
  pieces_fit (frames.Share number exec client stamp body shares) e piece (inl s) =
      let f = four (number_fits p number) (nat_lt exec (executors p)) (answer_fits p client stamp body) (values_fit shares) e in subst Fits (sym s) (answer_words number client stamp body f.0 f.2)
  pieces_fit (frames.Share number exec client stamp body shares) e piece (inr i) = absurd i
  pieces_fit (frames.Reply number client stamp body secrets) e piece (inl s) =
      let f = three (number_fits p number) (answer_fits p client stamp body) (values_fit secrets) e in subst Fits (sym s) (answer_words number client stamp body f.0 f.1)
  pieces_fit (frames.Reply number client stamp body secrets) e piece (inr i) = absurd i
  pieces_fit (frames.Want number) e piece i = absurd i

  pub part_fits : (frame : PlainFrame) → IsTrue (frame_fits p frame) → (part : Part) → In part (parts p hash frame) → IsTrue (texts.text_fits part.text)
  part_fits frame e part i =
      let piece = In-flat part_of (pieces p hash frame) part i in its_text piece.0 piece.2 (pieces_fit frame e piece.0 piece.1)
    where
      its_text : (piece : Piece) → In part (part_of piece) → Fits piece → IsTrue (texts.text_fits part.text)
      its_text (Signed one) (inl s) h = subst (λ (z : Part). IsTrue (texts.text_fits z.text)) (sym s) h
      its_text (Signed one) (inr i) h = absurd i
      its_text (Unsigned text) i h = absurd i
