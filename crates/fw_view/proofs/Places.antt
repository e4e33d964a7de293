-- The changes and proofs of a frame, by their places.
use Rattle.std.proofs.Common.{◌≡◌, ℕ, ◌+◌, ◌<◌, List, length, map, take, get_or, Some, refl, sym, ap, ◌∙◌}
use Rattle.std.specs.Prelude.{slice_get}
use Rattle.std.specs.Option.{option_map}
use Rattle.std.proofs.lemmas.List.{length-map}
use Rattle.std.proofs.lemmas.Option.{slice_get_read, slice_get-map}
use Rattle.fw_frame.specs.declared.frame.Change as lent_change
use Rattle.fw_frame.specs.declared.frame.Proof as lent_proof
use Rattle.fw_frame.specs.View.{viewed_change, viewed_proof}
use Rattle.fw_frame.specs.Plain.{plain_change, plain_proof}
use Rattle.fw_view.specs.Choices.{before, all_proofs, proofs_at, proof_at, seen, seen_proof}
use Rattle.fw_view.proofs.Best.{whole}

-- as many changes are seen
pub count : (changes : List lent_change.Change) → length (seen changes) ≡ length changes
count changes = length-map (map plain_change changes) viewed_change ∙ length-map changes plain_change

change_here : (changes : List lent_change.Change) (k : ℕ) (x : lent_change.Change) → k < length changes → x ≡ get_or changes k x → slice_get (seen changes) k ≡ Some (viewed_change (plain_change x))
change_here changes k x within is =
    slice_get-map viewed_change (map plain_change changes) k
    ∙ ap (option_map viewed_change) (slice_get-map plain_change changes k ∙ ap (option_map plain_change) (slice_get_read changes (length changes) k x refl within is))

same_proofs : (changes : List lent_change.Change) (k : ℕ) (x : lent_change.Change) (ps : List lent_proof.Proof) → x ≡ get_or changes k x → ps ≡ (get_or changes k x).proofs → x.proofs ≡ ps
same_proofs changes k x ps is these = ap (λ (c : lent_change.Change). c.proofs) is ∙ sym these

read_proof : (ps : List lent_proof.Proof) (j : ℕ) (q : lent_proof.Proof) → j < length ps → q ≡ get_or ps j q → slice_get (map viewed_proof (map plain_proof ps)) j ≡ Some (seen_proof q)
read_proof ps j q within is =
    slice_get-map viewed_proof (map plain_proof ps) j
    ∙ ap (option_map viewed_proof) (slice_get-map plain_proof ps j ∙ ap (option_map plain_proof) (slice_get_read ps (length ps) j q refl within is))

-- the proof that is read stands at its place
pub proof_here : (changes : List lent_change.Change) (k j : ℕ) (x : lent_change.Change) (ps : List lent_proof.Proof) (q : lent_proof.Proof)
    → k < length changes → x ≡ get_or changes k x → ps ≡ (get_or changes k x).proofs → j < length ps → q ≡ get_or ps j q → proof_at (seen changes) k j ≡ Some (seen_proof q)
proof_here changes k j x ps q within is these below one =
    ap (λ o. slice_get (proofs_at o) j) (change_here changes k x within is)
    ∙ ap (λ l. slice_get (map viewed_proof (map plain_proof l)) j) (same_proofs changes k x ps is these)
    ∙ read_proof ps j q below one

-- all proofs of a change
pub all_here : (changes : List lent_change.Change) (k j : ℕ) (x : lent_change.Change) (ps : List lent_proof.Proof)
    → k < length changes → x ≡ get_or changes k x → ps ≡ (get_or changes k x).proofs → j ≡ length ps → before (seen changes) k j ≡ all_proofs (take (k + 1) (seen changes))
all_here changes k j x ps within is these end =
    let many : length (map viewed_proof (map plain_proof x.proofs)) ≡ length ps =
    length-map (map plain_proof x.proofs) viewed_proof ∙ length-map x.proofs plain_proof ∙ ap (λ (l : List lent_proof.Proof). length l) (same_proofs changes k x ps is these) in
    ap (λ n. before (seen changes) k n) (end ∙ sym many) ∙ whole (seen changes) k (viewed_change (plain_change x)) (change_here changes k x within is)
