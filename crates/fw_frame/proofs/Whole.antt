-- For callers of `Frame::carried`: in a frame of the deployment each signature and each list of shares is whole.
use Rattle.std.proofs.Common.{◌≡◌, ℕ, Bool, true, false, List, [], ◌∷◌, ◌++◌, map, length, All, refl}
use Rattle.std.specs.Prelude.{◌&&◌, nat_eq, IsTrue, flat_map, Some, None}
use Rattle.std.specs.List.{list_all}
use Rattle.std.proofs.lemmas.Bool.{eqb-true}
use Rattle.std.proofs.lemmas.List.Elements.{All-nil, All-cons}
use Rattle.fw_list.specs.declared.limits.TheConstants.{SIGNATURE_LEN}
use Rattle.fw_base.specs.declared.params.Params.{Params}
use Rattle.fw_text.specs.Texts.{Hash}
use Rattle.fw_frame.specs.Frames.{PlainEntry, PlainSigner, PlainProof, PlainChange, PlainFrame, Request, Propose, Vote, Change, NewView, Agreed, Share, Reply, Want}
use Rattle.fw_frame.specs.Ranges.{values_fit, entry_fits, signer_fits, signers_fit, proof_fits, change_fits, frame_fits}
use Rattle.fw_frame.specs.Parts.{Piece, Signed, Unsigned, part_of, digested, digested_parts, IsWhole, pieces, entry_piece, signer_pieces, proof_pieces, change_pieces}

-- what it says of a piece
abbrev pub IsWholePiece : Piece → Type 0
IsWholePiece (Signed part) = length part.values ≡ SIGNATURE_LEN
IsWholePiece (Unsigned text) = Unit {0}

abbrev pub AreWhole : List Piece → Type 0
AreWhole [] = Unit {0}
AreWhole (piece ∷ ps) = IsWholePiece piece × AreWhole ps

AreWhole-append : (ps qs : List Piece) → AreWhole ps → AreWhole qs → AreWhole (ps ++ qs)
AreWhole-append [] qs first then = then
AreWhole-append (piece ∷ ps) qs first then = (first.0, AreWhole-append ps qs first.1 then)

both : (a b : Bool) → IsTrue (a && b) → IsTrue a × IsTrue b
both true b e = (refl, e)
both false b e = cc

whole_values : (values : List ℕ) → IsTrue (values_fit values) → length values ≡ SIGNATURE_LEN
whole_values values fits = eqb-true (length values) SIGNATURE_LEN fits

-- from pieces to parts
parts_whole : (hash : Hash) (ps : List Piece) → AreWhole ps → All IsWhole (map (digested hash) (flat_map part_of ps))
parts_whole hash [] all = All-nil IsWhole
parts_whole hash (Signed part ∷ ps) all = All-cons IsWhole (digested hash part) _ all.0 (parts_whole hash ps all.1)
parts_whole hash (Unsigned text ∷ ps) all = parts_whole hash ps all.1

entry_whole : (p : Params) (entry : PlainEntry) → IsTrue (entry_fits p entry) → IsWholePiece (entry_piece entry)
entry_whole p None fits = tt
entry_whole p (Some r) fits = whole_values r.sig (both _ _ fits).1

signers_whole : (p : Params) (phase view number : ℕ) (digest : List ℕ) (signers : List PlainSigner) → IsTrue (list_all (signer_fits p) signers) → AreWhole (signer_pieces phase view number digest signers)
signers_whole p phase view number digest [] fits = tt
signers_whole p phase view number digest (s ∷ signers) fits =
    let parts = both (signer_fits p s) (list_all (signer_fits p) signers) fits in
    (whole_values s.sig (both _ _ parts.0).1, signers_whole p phase view number digest signers parts.1)

quorum_whole : (p : Params) (phase view number : ℕ) (digest : List ℕ) (signers : List PlainSigner) → IsTrue (signers_fit p signers) → AreWhole (signer_pieces phase view number digest signers)
quorum_whole p phase view number digest signers fits =
    signers_whole p phase view number digest signers (both _ _ (both _ _ fits).0).1

proofs_whole : (p : Params) (hash : Hash) (view : ℕ) (proofs : List PlainProof) → IsTrue (list_all (proof_fits p view) proofs) → AreWhole (flat_map (proof_pieces hash) proofs)
proofs_whole p hash view [] fits = tt
proofs_whole p hash view (q ∷ proofs) fits =
    let parts = both (proof_fits p view q) (list_all (proof_fits p view) proofs) fits in
    let own = both _ _ parts.0 in
    AreWhole-append (proof_pieces hash q) (flat_map (proof_pieces hash) proofs)
    (entry_whole p q.entry (both _ _ own.0).1, quorum_whole p 0 q.view q.number _ q.signers own.1)
    (proofs_whole p hash view proofs parts.1)

change_whole : (p : Params) (hash : Hash) (c : PlainChange) → IsTrue (change_fits p c) → AreWhole (change_pieces hash c)
change_whole p hash c fits =
    let last = both _ _ fits in
    let proofs = (both _ _ last.0).1 in
    AreWhole-append (flat_map (proof_pieces hash) c.proofs) _
    (proofs_whole p hash c.view c.proofs (both _ _ (both _ _ proofs).0).1)
    (whole_values c.sig last.1, tt)

changes_whole : (p : Params) (hash : Hash) (view : ℕ) (changes : List PlainChange) → IsTrue (list_all (λ c. nat_eq c.view view && change_fits p c) changes) → AreWhole (flat_map (change_pieces hash) changes)
changes_whole p hash view [] fits = tt
changes_whole p hash view (c ∷ changes) fits =
    let parts = both (nat_eq c.view view && change_fits p c) (list_all (λ c. nat_eq c.view view && change_fits p c) changes) fits in
    AreWhole-append (change_pieces hash c) (flat_map (change_pieces hash) changes)
    (change_whole p hash c (both _ _ parts.0).1)
    (changes_whole p hash view changes parts.1)

pieces_whole : (p : Params) (hash : Hash) (frame : PlainFrame) → IsTrue (frame_fits p frame) → AreWhole (pieces p hash frame)
pieces_whole p hash (Request r) fits = (whole_values r.sig (both _ _ fits).1, tt)
pieces_whole p hash (Propose view number entry sig) fits =
    let last = both _ _ fits in
    (entry_whole p entry (both _ _ last.0).1, (whole_values sig last.1, tt))
pieces_whole p hash (Vote phase view number agree digest sig) fits = (whole_values sig (both _ _ fits).1, tt)
pieces_whole p hash (Change c) fits = change_whole p hash c fits
pieces_whole p hash (NewView view changes sig) fits =
    let last = both _ _ fits in
    let all = (both _ _ last.0).1 in
    AreWhole-append (flat_map (change_pieces hash) changes) _
    (changes_whole p hash view changes (both _ _ (both _ _ all).0).1)
    (whole_values sig last.1, tt)
pieces_whole p hash (Agreed view number entry signers) fits =
    let last = both _ _ fits in
    (entry_whole p entry (both _ _ last.0).1, quorum_whole p 1 view number _ signers last.1)
pieces_whole p hash (Share number exec client stamp body shares) fits = (whole_values shares (both _ _ fits).1, tt)
pieces_whole p hash (Reply number client stamp body secrets) fits = (whole_values secrets (both _ _ fits).1, tt)
pieces_whole p hash (Want number) fits = tt

-- what `Frame::carried` requires of a frame
pub whole_where_fits : (p : Params) (hash : Hash) (frame : PlainFrame) → IsTrue (frame_fits p frame) → All IsWhole (digested_parts p hash frame)
whole_where_fits p hash frame fits = parts_whole hash (pieces p hash frame) (pieces_whole p hash frame fits)
