-- A frame of a deployment can be written.
use Rattle.std.proofs.Common.{ℕ, ◌<◌, ◌^◌, ◌&&◌, nat_le, nat_lt, nat_eq, List, [], ◌∷◌, length, map, arith, IsTrue}
use Rattle.std.specs.List.{list_all, AllByRecursion}
use Rattle.std.proofs.lemmas.Bool.{and_parts, leb-true, eqb-true}
use Rattle.std.proofs.lemmas.List.{length-map}
use Rattle.std.proofs.lemmas.List.Elements.{All-from_recursion}
use Rattle.fw_base.specs.Sizes.{accepted, quorum, agreements}
use Rattle.fw_base.specs.declared.params.Params.{Params}
use Rattle.fw_frame.specs.declared.frame.Signer.{Signer}
use Rattle.fw_frame.specs.declared.frame.Proof.{Proof}
use Rattle.fw_frame.specs.declared.frame.Change.{Change}
use Rattle.fw_frame.specs.declared.frame.Frame.{Frame}
use Rattle.fw_frame.specs.declared.frame.Frame.TheVariants as frame
use Rattle.fw_frame.specs.Plain.{plain, plain_signer, plain_proof, plain_change, plain_entry}
use Rattle.fw_list.specs.Numbers.{ascending}
use Rattle.fw_frame.specs.Ranges.{view_fits, number_fits, entry_fits, signers_fit, signer_fits, proof_fits, proofs_fit, change_fits, changes_fit, values_fit, frame_fits}
use Rattle.fw_frame.specs.Writing.{IsCountable, IsWritableProof, IsWritableChange, IsWritable}
use Rattle.fw_frame.proofs.Fields.{three, four, five}

quorum_small : (p : Params) → IsTrue (accepted p) → quorum p < 2 ^ 32
quorum_small p h = grind arith

numbers_small : (p : Params) → IsTrue (accepted p) → p.numbers < 2 ^ 32
numbers_small p h = grind arith

signers_countable : (p : Params) → IsTrue (accepted p) → (signers : List Signer) → IsTrue (signers_fit p (map plain_signer signers)) → IsCountable signers
signers_countable p a signers h =
    let f = three (nat_eq (length (map plain_signer signers)) (quorum p)) (list_all (signer_fits p) (map plain_signer signers)) (ascending (map (λ s. s.agree) (map plain_signer signers))) h in
    omega (arith, quorum_small p a, eqb-true (length (map plain_signer signers)) (quorum p) f.0, length-map signers plain_signer)

each_proof : (p : Params) → IsTrue (accepted p) → (view : ℕ) (proofs : List Proof) → IsTrue (list_all (proof_fits p view) (map plain_proof proofs)) → AllByRecursion IsWritableProof proofs
each_proof p a view [] h = tt
each_proof p a view (q ∷ proofs) h =
    let parts = and_parts (proof_fits p view (plain_proof q)) (list_all (proof_fits p view) (map plain_proof proofs)) h in
    let f = four (nat_lt q.view view) (number_fits p q.number) (entry_fits p (plain_entry q.entry)) (signers_fit p (map plain_signer q.signers)) parts.0 in
    (signers_countable p a q.signers f.3, each_proof p a view proofs parts.1)

writable_change : (p : Params) → IsTrue (accepted p) → (c : Change) → IsTrue (change_fits p (plain_change c)) → IsWritableChange c
writable_change p a c h =
    let f = five (nat_lt 0 c.view) (view_fits p c.view) (nat_lt c.agree (agreements p)) (proofs_fit p c.view (map plain_proof c.proofs)) (values_fit c.sig.now) h in
    let g = three (nat_le (length (map plain_proof c.proofs)) p.numbers) (list_all (proof_fits p c.view) (map plain_proof c.proofs)) (ascending (map (λ q. q.number) (map plain_proof c.proofs))) f.3 in
    (omega (arith, numbers_small p a, leb-true (length (map plain_proof c.proofs)) p.numbers g.0, length-map c.proofs plain_proof), All-from_recursion IsWritableProof c.proofs (each_proof p a c.view c.proofs g.1))

each_change : (p : Params) → IsTrue (accepted p) → (view : ℕ) (changes : List Change) → IsTrue (list_all (λ c. nat_eq c.view view && change_fits p c) (map plain_change changes)) → AllByRecursion IsWritableChange changes
each_change p a view [] h = tt
each_change p a view (c ∷ changes) h =
    let parts = and_parts (nat_eq c.view view && change_fits p (plain_change c)) (list_all (λ d. nat_eq d.view view && change_fits p d) (map plain_change changes)) h in
    (writable_change p a c (and_parts (nat_eq c.view view) (change_fits p (plain_change c)) parts.0).1, each_change p a view changes parts.1)

pub writable : (p : Params) (f : Frame) → IsTrue (accepted p) → IsTrue (frame_fits p (plain f)) → IsWritable f
writable p (frame.Request r) a h = tt
writable p (frame.Propose view number e sig) a h = tt
writable p (frame.Vote phase view number agree digest sig) a h = tt
writable p (frame.Change c) a h = writable_change p a c h
writable p (frame.NewView view changes sig) a h =
    let f = four (nat_lt 0 view) (view_fits p view) (changes_fit p view (map plain_change changes)) (values_fit sig.now) h in
    let g = three (nat_eq (length (map plain_change changes)) (quorum p)) (list_all (λ c. nat_eq c.view view && change_fits p c) (map plain_change changes)) (ascending (map (λ c. c.agree) (map plain_change changes))) f.2 in
    (omega (arith, quorum_small p a, eqb-true (length (map plain_change changes)) (quorum p) g.0, length-map changes plain_change), All-from_recursion IsWritableChange changes (each_change p a view changes g.1))
writable p (frame.Agreed view number e signers) a h =
    let f = four (view_fits p view) (number_fits p number) (entry_fits p (plain_entry e)) (signers_fit p (map plain_signer signers)) h in
    signers_countable p a signers f.3
writable p (frame.Share number exec client stamp body shares) a h = tt
writable p (frame.Reply number client stamp body secrets) a h = tt
writable p (frame.Want number) a h = tt
