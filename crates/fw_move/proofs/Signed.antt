-- What is signed for a view change and for a new view, of what was lent; and the hand has the values of their slots.
use Rattle.std.proofs.Common.{◌≡◌, ℕ, ◌<◌, List, [], ◌∷◌, map, Some, None, refl, sym, ap, ◌∙◌}
use Rattle.std.proofs.lemmas.Bool.{and_from, eq-eqb, lt-ltb}
use Rattle.fw_base.specs.declared.params.Params.{Params}
use Rattle.fw_base.specs.declared.seat.Seat.TheVariants as seats
use Rattle.fw_base.specs.declared.slot.Slot.{Slot}
use Rattle.fw_base.specs.declared.slot.Slot.TheVariants as slots
use Rattle.fw_base.specs.Sizes.{agreements}
use Rattle.fw_text.specs.Texts.{hash}
use Rattle.fw_hand.specs.declared.hand.Held.{Held}
use Rattle.fw_hand.specs.Hands.{PlainHand, slots_of, values_in}
use Rattle.fw_frame.specs.Frames.{PlainEntry, PlainSigner, PlainProof, PlainChange}
use Rattle.fw_frame.specs.View.{Proof, Change, NewView, viewed_entry, viewed_signer, viewed_proof, viewed_change, plain_entry_of, plain_signer_of, plain_proof_of, plain_change_of}
use Rattle.fw_frame.specs.Parts as parts
use Rattle.fw_means.specs.Means.{signed_by, signature_by}
use Rattle.fw_means.proofs.Hands.{has-own}
use Rattle.fw_rules.specs.Signing.{change_text, new_view_text}
use Rattle.fw_rules.specs.Views.{bare_new_view}

-- ---- the plain pieces again, of what is seen of them

entry_back : (entry : PlainEntry) → plain_entry_of (viewed_entry entry) ≡ entry
entry_back None = refl
entry_back (Some r) = refl

signers_back : (signers : List PlainSigner) → map plain_signer_of (map viewed_signer signers) ≡ signers
signers_back [] = refl
signers_back (s ∷ signers) = ap (λ (all : List PlainSigner). s ∷ all) (signers_back signers)

proofs_back : (proofs : List PlainProof) → map plain_proof_of (map viewed_proof proofs) ≡ proofs
proofs_back [] = refl
proofs_back (q ∷ proofs) =
    ap (λ (e : PlainEntry). record { view = q.view; number = q.number; entry = e; signers = map plain_signer_of (map viewed_signer q.signers) } ∷ map plain_proof_of (map viewed_proof proofs)) (entry_back q.entry)
    ∙ ap (λ (s : List PlainSigner). record q { signers = s } ∷ map plain_proof_of (map viewed_proof proofs)) (signers_back q.signers)
    ∙ ap (λ (all : List PlainProof). q ∷ all) (proofs_back proofs)

change_back : (c : PlainChange) → plain_change_of (viewed_change c) ≡ c
change_back c = ap (λ (all : List PlainProof). record c { proofs = all }) (proofs_back c.proofs)

changes_back : (changes : List PlainChange) → map plain_change_of (map viewed_change changes) ≡ changes
changes_back [] = refl
changes_back (c ∷ changes) =
    ap (λ (d : PlainChange). d ∷ map plain_change_of (map viewed_change changes)) (change_back c) ∙ ap (λ (all : List PlainChange). c ∷ all) (changes_back changes)

-- ---- the texts

change_signed : (c : PlainChange) (seen : Change) → viewed_change c ≡ seen → parts.change_text hash c ≡ change_text hash seen
change_signed c seen one = ap (parts.change_text hash) (sym (change_back c)) ∙ ap (change_text hash) one

new_view_signed : (view : ℕ) (cs : List PlainChange) (changes : List Change) → map viewed_change cs ≡ changes → parts.new_view_text hash view cs ≡ new_view_text hash (bare_new_view view changes)
new_view_signed view cs changes one =
    ap (parts.new_view_text hash view) (sym (changes_back cs)) ∙ ap (λ (x : List Change). new_view_text hash (bare_new_view view x)) one

-- ---- the signatures

pub change_signature : (hand : PlainHand) (slot : Slot) (sig digest : List ℕ) (c : PlainChange) (seen : Change) → sig ≡ signed_by hand slot digest → digest ≡ hash (parts.change_text hash c) → viewed_change c ≡ seen → sig ≡ signature_by hand slot 0 (change_text hash seen)
change_signature hand slot sig digest c seen is of one = is ∙ ap (signed_by hand slot) (of ∙ ap hash (change_signed c seen one))

pub new_view_signature : (hand : PlainHand) (slot : Slot) (sig digest : List ℕ) (view : ℕ) (cs : List PlainChange) (changes : List Change) → sig ≡ signed_by hand slot digest → digest ≡ hash (parts.new_view_text hash view cs) → map viewed_change cs ≡ changes
    → sig ≡ signature_by hand slot 0 (new_view_text hash (bare_new_view view changes))
new_view_signature hand slot sig digest view cs changes is of one = is ∙ ap (signed_by hand slot) (of ∙ ap hash (new_view_signed view cs changes one))

-- ---- a hand has the values of the slots of its view changes and its new views

pub has-change : (p : Params) (i v : ℕ) (held : List Held) → i < agreements p → v < p.views → map (λ h. h.slot) held ≡ slots_of p (seats.Agree i) → values_in held (slots.Change v i) ≡ None → ⊥
has-change p i v held agree view own none =
    let small = lt-ltb i (agreements p) agree in
    has-own p (seats.Agree i) (slots.Change v i) held small (and_from _ _ (lt-ltb v p.views view) small) (eq-eqb i i refl) own none

pub has-new-view : (p : Params) (i v : ℕ) (held : List Held) → i < agreements p → v < p.views → map (λ h. h.slot) held ≡ slots_of p (seats.Agree i) → values_in held (slots.NewView v i) ≡ None → ⊥
has-new-view p i v held agree view own none =
    let small = lt-ltb i (agreements p) agree in
    has-own p (seats.Agree i) (slots.NewView v i) held small (and_from _ _ (lt-ltb v p.views view) small) (eq-eqb i i refl) own none

-- ---- the view change and the new view, made

abbrev change_with : ℕ → ℕ → List Proof → List ℕ → Change
change_with view own proofs sig = record { view = view; agree = own; proofs = proofs; sig = sig }

abbrev new_view_with : ℕ → List Change → List ℕ → NewView
new_view_with view changes sig = record { view = view; changes = changes; sig = sig }

pub made_change : (hand : PlainHand) (view own : ℕ) (proofs all : List Proof) (none sig digest : List ℕ) (c : PlainChange) → proofs ≡ all → viewed_change c ≡ change_with view own proofs none → digest ≡ hash (parts.change_text hash c) → sig ≡ signed_by hand (slots.Change view own) digest
    → change_with view own proofs sig ≡ change_with view own all (signature_by hand (slots.Change view own) 0 (change_text hash (change_with view own all [])))
made_change hand view own proofs all none sig digest c same one of is =
    ap (change_with view own proofs) (change_signature hand (slots.Change view own) sig digest c (change_with view own proofs none) is of one)
    ∙ ap (λ (l : List Proof). change_with view own l (signature_by hand (slots.Change view own) 0 (change_text hash (change_with view own l [])))) same

pub made_new_view : (hand : PlainHand) (view own : ℕ) (copied changes : List Change) (sig digest : List ℕ) (cs : List PlainChange) → copied ≡ changes → map viewed_change cs ≡ changes → digest ≡ hash (parts.new_view_text hash view cs) → sig ≡ signed_by hand (slots.NewView view own) digest
    → new_view_with view copied sig ≡ new_view_with view changes (signature_by hand (slots.NewView view own) 0 (new_view_text hash (bare_new_view view changes)))
made_new_view hand view own copied changes sig digest cs same one of is =
    ap (λ (l : List Change). new_view_with view l sig) same
    ∙ ap (new_view_with view changes) (new_view_signature hand (slots.NewView view own) sig digest view cs changes is of one)
