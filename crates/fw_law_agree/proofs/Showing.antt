-- What a frame shows: values of its signatures and lists of shares. A part that stands in another frame is shown there too, and the text
-- of each part is kept.
use Rattle.std.proofs.Common.{ℕ, ◌≡◌, inl, inr, true, List, map, sym, ap, subst, Option, Some}
use Rattle.std.specs.Prelude.{flat_map}
use Rattle.fw_list.specs.Lists.{numbers_from}
use Rattle.fw_text.specs.Texts.{Text, hash}
use Rattle.fw_trace.specs.Lists.{In}
use Rattle.fw_trace.proofs.Words.{In-filter}
use Rattle.fw_frame.specs.Frames.{PlainFrame}
use Rattle.fw_frame.specs.Parts.{Part, Piece, Signed, Unsigned, PlainPart, part_of, parts, pieces, text_of, texts, with_digest, digested, digested_parts, shown_at, shown_of, carried}
use Rattle.fw_frame.specs.Undoing.{frame_in}
use Rattle.fw_frame.specs.declared.shown.Shown.{Shown}
use Rattle.fw_secret.specs.Dealt.{Origin}
use Rattle.fw_directory.specs.Directories.{PlainDirectory}
use Rattle.fw_valid.specs.Validity.{is_shown}
use Rattle.fw_law_words.proofs.Lists.{In-map}
use Rattle.fw_law_filter.proofs.Holding.{In-right}
use Rattle.fw_law_node.proofs.Best.{filter-In}
use Rattle.fw_fair.specs.Showing.{of_frame, shown_by, shown_in, value_texts, kept_by, kept_in}
use Rattle.fw_law_agree.proofs.Listed.{In-flat, flat-In, map-In}

-- a pair is of a bit of a part
abbrev pub IsOf : PlainDirectory → Shown → Part → Type 0
IsOf d pair part = In pair (shown_of (digested hash part)) × (is_shown d pair ≡ true)

pub record OfPart (d : PlainDirectory) (frame : PlainFrame) (pair : Shown) : Type 0 where
  pub part : Part
  pub among : In part (parts d.params hash frame)
  pub of : IsOf d pair part

pub shown_part : (d : PlainDirectory) (frame : PlainFrame) (pair : Shown) → In pair (shown_by d frame) → OfPart d frame pair
shown_part d frame pair i =
    let passed = In-filter (is_shown d) pair (carried d.params hash frame) i in
    let one = In-flat shown_of (digested_parts d.params hash frame) pair passed.0 in
    let part = In-map (digested hash) (parts d.params hash frame) one.0 one.1 in
    record { part = part.0; among = part.1; of = (subst (λ (q : PlainPart). In pair (shown_of q)) part.2 one.2, passed.1) }

-- the bit of a pair of a part
pub bit_in : (d : PlainDirectory) (pair : Shown) (part : Part) → IsOf d pair part → (b : ℕ) × (pair ≡ shown_at (digested hash part) b)
unfolding shown_of
bit_in d pair part of = let at = In-map (shown_at (digested hash part)) (numbers_from 0 256) pair of.0 in (at.0, at.2)

-- what a frame of a message has, the message has
of_message : {Item : Type 0} (items : PlainFrame → List Item) (o : Option PlainFrame) (frame : PlainFrame) (x : Item) → o ≡ Some frame → In x (items frame) → In x (of_frame items o)
of_message {Item} items o frame x e i = subst (λ (p : Option PlainFrame). In x (of_frame items p)) (sym e) i

pub shows_again : (d : PlainDirectory) (bytes : List ℕ) (frame : PlainFrame) (pair : Shown) (part : Part) → frame_in d.params bytes ≡ Some frame → In part (parts d.params hash frame) → IsOf d pair part → In pair (shown_in d bytes)
shows_again d bytes frame pair part read among of =
    let there : In pair (carried d.params hash frame) =
    flat-In shown_of (digested_parts d.params hash frame) (digested hash part) pair (map-In (digested hash) (parts d.params hash frame) part among) of.0 in
    of_message (shown_by d) (frame_in d.params bytes) frame pair read (filter-In (is_shown d) (carried d.params hash frame) pair there of.1)

pub shown_by_frame : (d : PlainDirectory) (bytes : List ℕ) (frame : PlainFrame) (pair : Shown) → frame_in d.params bytes ≡ Some frame → In pair (shown_in d bytes) → In pair (shown_by d frame)
shown_by_frame d bytes frame pair read i = subst (λ (o : Option PlainFrame). In pair (of_frame (shown_by d) o)) read i

-- ---- kept

text_among : (d : PlainDirectory) (frame : PlainFrame) (part : Part) → In part (parts d.params hash frame) → In part.text (texts d.params hash frame)
text_among d frame part among =
    let piece = In-flat part_of (pieces d.params hash frame) part among in
    subst (λ (text : Text). In text (texts d.params hash frame)) (its_text piece.0 piece.2) (map-In text_of (pieces d.params hash frame) piece.0 piece.1)
  where
    its_text : (piece : Piece) → In part (part_of piece) → text_of piece ≡ part.text
    its_text (Signed one) (inl e) = ap (λ (z : Part). z.text) (sym e)
    its_text (Signed one) (inr i) = absurd i
    its_text (Unsigned text) i = absurd i

pub keeps_text : (o : Origin) (d : PlainDirectory) (bytes : List ℕ) (frame : PlainFrame) (part : Part) → frame_in d.params bytes ≡ Some frame → In part (parts d.params hash frame) → In (with_digest hash part.text) (kept_in o d bytes)
keeps_text o d bytes frame part read among =
    of_message (kept_by o d) (frame_in d.params bytes) frame (with_digest hash part.text) read
    (In-right (with_digest hash part.text) (flat_map (value_texts o) (shown_by d frame)) (map (with_digest hash) (texts d.params hash frame)) (map-In (with_digest hash) (texts d.params hash frame) part.text (text_among d frame part among)))
