-- What a quorum has voted to commit, each later new view chooses, and so each later vote is for it.
use Rattle.std.proofs.Common.{ℕ, zero, suc, ◌<◌, ◌≤◌, ◌≡◌, inl, inr, false, List, map, arith, refl, sym, ◌∙◌, subst}
use Rattle.std.proofs.lemmas.Bool.{cases_eq, cases_order}
use Rattle.std.proofs.lemmas.Option.{same_Some}
use Rattle.fw_quorum.specs.Quorum.{SharesCorrect, IsQuorum}
use Rattle.fw_quorum.proofs.Counting.{quorums_share_correct}
use Rattle.fw_quorum.proofs.Members.{contains_map, contains_flat_map}
use Rattle.fw_safety.specs.Deeds.{ListedProof, ListedChange, Deeds, VotesToPrepare, VotesToCommit, IsPrepared, IsCommitted, IsNewView, node_of, proofs_of, all_proofs, HasNumber, IsChoice, Follows, IsKept, Covers, KeepsRules}
use Rattle.fw_safety.proofs.Best.{best_of_some}

-- two quorums share a correct node
shared : (w : Deeds) (xs ys : List ℕ) → KeepsRules w → IsQuorum w.params xs → IsQuorum w.params ys → SharesCorrect w.faulty xs ys
shared w xs ys k one two = quorums_share_correct w.params w.faulty xs ys k.few one two

-- within one view a quorum of commit votes and one of prepare votes are for one digest
same_view : (w : Deeds) (v n : ℕ) (d e : List ℕ) → KeepsRules w → IsCommitted w v n d → IsPrepared w v n e → e ≡ d
same_view w v n d e k committed prepared =
    let i = shared w committed.members prepared.members k committed.many prepared.many in
    let vote = (k.commits i.0 v n d i.3 (committed.each i.0 i.1 i.3)).0 in
    same_Some e d (sym (prepared.each i.0 i.2 i.3) ∙ vote)

-- a later new view has a proof of the number, of the quorum's view or a later one
covered : (w : Deeds) (v u n : ℕ) (d : List ℕ) (changes : List ListedChange) → KeepsRules w → IsCommitted w v n d → v < u → IsNewView w u changes → Covers v n (all_proofs changes)
covered w v u n d changes k committed later new =
    let i = shared w committed.members (map node_of changes) k committed.many new.many in
    let c = contains_map node_of changes i.0 i.2 in
    let right : w.faulty c.0.node ≡ false = subst (λ (x : ℕ). w.faulty x ≡ false) (sym c.2) i.3 in
    let voted : VotesToCommit w v n d c.0.node = subst (VotesToCommit w v n d) (sym c.2) (committed.each i.0 i.1 i.3) in
    let p = k.changes c.0.node u v n d c.0.proofs right (new.made c.0 c.1 right) voted later in
    (p.0, contains_flat_map proofs_of changes c.0 p.0 c.1 p.1, p.2, p.3)

-- what a new view chooses is prepared in an earlier view, which is the quorum's or a later one
best_proof : (w : Deeds) (v u n : ℕ) (d e : List ℕ) (changes : List ListedChange) → KeepsRules w → IsCommitted w v n d → v < u → IsNewView w u changes → IsChoice n e (all_proofs changes) → (t : ℕ) × (v ≤ t) × (t < u) × IsPrepared w t n e
best_proof w v u n d e changes k committed later new choice =
    let b = choice.0 in
    let p = covered w v u n d changes k committed later new in
    let most : p.0.view ≤ b.view = choice.1.greatest p.0 p.1 p.2 in
    let proved = new.proved b choice.1.among in (
      b.view,
      omega (arith, most, p.3),
      proved.before,
      subst (λ (x : ℕ). IsPrepared w b.view x e) choice.1.its_number (subst (λ (x : List ℕ). IsPrepared w b.view b.number x) choice.2 proved.prepared),
    )

-- the vote of a correct node that follows a new view which keeps the digest is for it
vote_kept : (n : ℕ) (d e : List ℕ) (proofs : List ListedProof) → IsKept n d proofs → Follows n e proofs → e ≡ d
vote_kept n d e proofs kept (inl none) = absurd (none kept.has)
vote_kept n d e proofs kept (inr choice) = kept.only e choice

abbrev KeptFrom : Deeds → ℕ → ℕ → List ℕ → ℕ → Type 0
KeptFrom w v n d bound = (u : ℕ) (changes : List ListedChange) → u < bound → v < u → IsNewView w u changes → IsKept n d (all_proofs changes)

-- where new views of views below a bound keep it, what is prepared in such a view is for it
prepared_kept : (w : Deeds) (v n bound t : ℕ) (d e : List ℕ) → KeepsRules w → IsCommitted w v n d → KeptFrom w v n d bound → v ≤ t → t < bound → IsPrepared w t n e → e ≡ d
prepared_kept w v n bound t d e k committed before from below prepared = elim (cases_eq t v) [
  | inl same ↦ same_view w v n d e k committed (subst (λ (x : ℕ). IsPrepared w x n e) same prepared)
  | inr other ↦
      let i = shared w prepared.members prepared.members k prepared.many prepared.many in
      let new = k.prepares i.0 t n e i.3 (omega (arith, from, other)) (prepared.each i.0 i.1 i.3) in
      vote_kept n d e (all_proofs new.0) (before t new.0 below (omega (arith, from, other)) new.1) new.2
]

-- by induction on a bound of the later view
kept_below : (w : Deeds) (v n bound : ℕ) (d : List ℕ) → KeepsRules w → IsCommitted w v n d → KeptFrom w v n d bound
kept_below w v n zero d k committed = λ u changes below later new. absurd (omega (arith, below))
kept_below w v n (suc bound) d k committed = λ u changes below later new. at u changes below later new (kept_below w v n bound d k committed)
  where
    at : (u : ℕ) (changes : List ListedChange) → u < suc bound → v < u → IsNewView w u changes → KeptFrom w v n d bound → IsKept n d (all_proofs changes)
    at u changes below later new before =
        let p = covered w v u n d changes k committed later new in
        let some : HasNumber n (all_proofs changes) = (p.0, p.1, p.2) in
        let only : (e : List ℕ) → IsChoice n e (all_proofs changes) → e ≡ d = λ e choice.
        let b = best_proof w v u n d e changes k committed later new choice in
        prepared_kept w v n bound b.0 d e k committed before b.1 (omega (arith, b.2, below)) b.3 in
        let best = best_of_some n (all_proofs changes) some in
        record { has = some; choice = (best.0, best.1, only best.0.digest (best.0, best.1, refl)); only = only }

-- each later new view has the number among its proofs, and the digest alone as its choice
pub choice_kept : (w : Deeds) (v u n : ℕ) (d : List ℕ) (changes : List ListedChange) → KeepsRules w → IsCommitted w v n d → v < u → IsNewView w u changes → IsKept n d (all_proofs changes)
choice_kept w v u n d changes k committed later new = kept_below w v n (suc u) d k committed u changes (omega arith) later new

-- each later prepare vote of a correct node is for the digest
pub later_votes : (w : Deeds) (v u n i : ℕ) (d e : List ℕ) → KeepsRules w → IsCommitted w v n d → v < u → w.faulty i ≡ false → VotesToPrepare w u n e i → e ≡ d
later_votes w v u n i d e k committed later right vote =
    let new = k.prepares i u n e right (omega (arith, later)) vote in
    vote_kept n d e (all_proofs new.0) (choice_kept w v u n d new.0 k committed later new.1) new.2

-- what a quorum commits in a later view is the same
later_commit : (w : Deeds) (v u n : ℕ) (d e : List ℕ) → KeepsRules w → IsCommitted w v n d → IsCommitted w u n e → v < u → e ≡ d
later_commit w v u n d e k committed other later =
    let i = shared w other.members other.members k other.many other.many in
    later_votes w v u n i.0 d e k committed later i.3 (k.commits i.0 u n e i.3 (other.each i.0 i.1 i.3)).0

-- two quorums of commit votes at one number are for one digest
pub one_digest : (w : Deeds) (v u n : ℕ) (d e : List ℕ) → KeepsRules w → IsCommitted w v n d → IsCommitted w u n e → d ≡ e
one_digest w v u n d e k one two = elim (cases_order v u) [
  | inl same ↦
      let q : IsCommitted w u n d = subst (λ (x : ℕ). IsCommitted w x n d) same one in
      let i = shared w q.members two.members k q.many two.many in
      same_Some d e (sym (q.each i.0 i.1 i.3) ∙ two.each i.0 i.2 i.3)
  | inr (inl later) ↦ sym (later_commit w v u n d e k one two later)
  | inr (inr later) ↦ later_commit w u v n e d k two one later
]
