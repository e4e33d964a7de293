-- What a node's votes, view changes and new views have to do with one another: each act keeps it.
use Rattle.std.proofs.Common.{ℕ, ◌<◌, ◌≤◌, ◌≡◌, ◌⊎◌, inl, inr, Bool, true, false, ◌&&◌, nat_eq, List, [], ◌∷◌, arith, refl, sym, ap, subst, cond, Some}
use Rattle.std.proofs.lemmas.Bool.{eqb-true, and_parts, ltb-true}
use Rattle.std.specs.Prelude.{nat_lt, bytes_eq}
use Rattle.std.proofs.lemmas.Option.{same_Some}
use Rattle.std.proofs.lemmas.Slice.Eq.{bytes_eq-Decides}
use Rattle.fw_base.specs.declared.params.Params.{Params}
use Rattle.fw_text.specs.Texts.{Hash}
use Rattle.fw_trace.specs.declared.Input.{Input}
use Rattle.fw_trace.specs.Lists.{In}
use Rattle.fw_frame.specs.View.{Entry, Signer, Proof, Change}
use Rattle.fw_rules.specs.Signing.{entry_digest}
use Rattle.fw_rules.specs.Agree.{Self, Own, Node, Cast, Pledge, Adopted, Act, Offer, Prepare, Pledge_to, Commit, Up, performs, top, choice, best, proofs_of, numbers, cast_if, chosen, last_changes, new_node}
use Rattle.fw_rules.specs.Views.{Turn, Adopt, Start, Make, turns, own_change}
use Rattle.fw_law_node.specs.Once.{own_after}
use Rattle.fw_law_node.specs.Facts.{IsNumber, HasCast, HasProof, FollowsNewView, HasProofSince, IsBegun, KeepsTo}
use Rattle.fw_law_words.proofs.Tests.{when-some}
use Rattle.fw_law_words.proofs.Firsts.{first_some-in}
use Rattle.fw_law_words.proofs.Lists.{numbers-In}
use Rattle.fw_law_node.proofs.Acts.{MayTurn, MayAct}
use Rattle.fw_law_node.proofs.Own.{kept_always}
use Rattle.fw_law_node.proofs.Best.{best_of-is, best_of-since, filter_map-In}
use Rattle.fw_law_node.proofs.Quorums.{vote_quorum-is}

-- it keeps to all, and commits at numbers of the list alone
record Keeping {M : Type 0} (me : Self M) (own : Own) : Type 0 where
  keeps : KeepsTo me.means.params me.means.hash own
  numbered : (c : Pledge) → In c own.pledges → IsNumber me.means.params c.number

-- ---- one more

more_follow : (hash : Hash) (adopted : List Adopted) (a : Adopted) (c : Cast) → FollowsNewView hash adopted c → FollowsNewView hash (a ∷ adopted) c
more_follow hash adopted a c f = record { new_view = f.new_view; among = inr f.among; its_view = f.its_view; free_or_chosen = f.free_or_chosen }

more_casts : (hash : Hash) (casts : List Cast) (c : Cast) (v n : ℕ) (d : List ℕ) → HasCast hash casts v n d → HasCast hash (c ∷ casts) v n d
more_casts hash casts c v n d h = record { cast = h.cast; among = inr h.among; its_view = h.its_view; its_number = h.its_number; its_digest = h.its_digest }

more_proofs : (p : Params) (hash : Hash) (proofs : List Proof) (q : Proof) (v n : ℕ) (d : List ℕ) → HasProof p hash proofs v n d → HasProof p hash (q ∷ proofs) v n d
more_proofs p hash proofs q v n d h =
    record { proof = h.proof; among = inr h.among; its_view = h.its_view; its_number = h.its_number; its_digest = h.its_digest; its_signers = h.its_signers }

-- ---- a prepare vote

-- in its view while it is active
new_follows : (hash : Hash) (own : Own) (adopted : List Adopted) (n : ℕ) (entry : Entry) → IsBegun own adopted → (top (last_changes adopted) < n) ⊎ (entry_digest hash entry ≡ entry_digest hash (choice (last_changes adopted) n)) → 0 < own.view → FollowsNewView hash adopted (record { view = own.view; number = n; entry = entry })
new_follows hash own [] n entry begun free high = absurd (omega arith)
new_follows hash own (a ∷ adopted) n entry begun free high = record { new_view = a; among = inl refl; its_view = begun; free_or_chosen = free }

cast_keeps : {M : Type 0} (me : Self M) (x : Node) (n : ℕ) (entry : Entry) → x.own.active ≡ true → (top (chosen x) < n) ⊎ (entry_digest me.means.hash entry ≡ entry_digest me.means.hash (choice (chosen x) n)) → Keeping me x.own → Keeping me (record x.own { casts = record { view = x.own.view; number = n; entry = entry } ∷ x.own.casts })
cast_keeps me x n entry active free f =
    let hash = me.means.hash in
    let k = f.keeps in
    record {
      keeps = record {
        up_to = record {
          casts = λ c i. elim i [ inl s ↦ omega (arith, ap (λ (y : Cast). y.view) s) | inr j ↦ k.up_to.casts c j ];
          pledges = k.up_to.pledges;
          proofs = k.up_to.proofs;
          moves = k.up_to.moves;
          adopted = k.up_to.adopted;
        };
        begun = k.begun;
        proved = record { cast = λ c i. more_casts hash x.own.casts _ c.view c.number c.digest (k.proved.cast c i); proof = k.proved.proof };
        covers = k.covers;
        follows = λ c i high. elim i [
          | inl s ↦
              subst (FollowsNewView hash x.own.adopted) (sym s)
              (new_follows hash x.own x.own.adopted n entry (k.begun active) free (subst (λ (y : Cast). 0 < y.view) s high))
          | inr j ↦ k.follows c j high
        ];
      };
      numbered = f.numbered;
    }

-- ---- a new view

adopt_keeps : {M : Type 0} (me : Self M) (own : Own) (view : ℕ) (changes : List Change) → own.view ≤ view → Keeping me own → Keeping me (record own { view = view; active = true; adopted = record { view = view; changes = changes } ∷ own.adopted })
adopt_keeps me own view changes high f =
    let k = f.keeps in
    record {
      keeps = record {
        up_to = record {
          casts = λ c i. omega (arith, k.up_to.casts c i);
          pledges = λ c i. omega (arith, k.up_to.pledges c i);
          proofs = λ q i. omega (arith, k.up_to.proofs q i);
          moves = λ m i. omega (arith, k.up_to.moves m i);
          adopted = λ a i. elim i [ inl s ↦ omega (arith, ap (λ (y : Adopted). y.view) s) | inr j ↦ omega (arith, k.up_to.adopted a j) ];
        };
        begun = λ e. refl;
        proved = record { cast = k.proved.cast; proof = k.proved.proof };
        covers = k.covers;
        follows = λ c i high. more_follow me.means.hash own.adopted _ c (k.follows c i high);
      };
      numbered = f.numbered;
    }

-- ---- a view change

-- one that starts now covers each commit vote so far
new_covers : {M : Type 0} (me : Self M) (x : Node) (view : ℕ) → Keeping me x.own → (c : Pledge) → In c x.own.pledges → HasProofSince (own_change me x view) c.view c.number
new_covers me x view f c i =
    let q = f.keeps.proved.proof c i in
    let b = best_of-since c.number x.own.proofs q.proof q.among q.its_number in
    let number = f.numbered c i in
    let among = numbers-In c.number 1 me.means.params.numbers number.0 (omega (arith, number.1)) in
    let is = best_of-is c.number x.own.proofs b.0 b.1 in
    record {
      proof = b.0;
      among = filter_map-In (λ n. best (proofs_of n x.own.proofs)) (numbers me) c.number b.0 among b.1;
      its_number = is.1;
      its_view = omega (arith, q.its_view, b.2);
    }

turn_keeps : {M : Type 0} (me : Self M) (x : Node) (turn : Turn) → MayTurn me x turn → Keeping me x.own → Keeping me (turns me x turn).0.own
turn_keeps me x (Adopt view changes) m f =
    adopt_keeps me x.own view changes (elim m.later [ inl h ↦ omega arith | inr h ↦ omega (arith, h.0) ]) f
turn_keeps me x (Start view) m f =
    let k = f.keeps in
    let above = m.above in
    record {
      keeps = record {
        up_to = record {
          casts = λ c i. omega (arith, k.up_to.casts c i);
          pledges = λ c i. omega (arith, k.up_to.pledges c i);
          proofs = λ q i. omega (arith, k.up_to.proofs q i);
          moves = λ c i. elim i [ inl s ↦ omega (arith, ap (λ (y : Change). y.view) s) | inr j ↦ omega (arith, k.up_to.moves c j) ];
          adopted = λ a i. omega (arith, k.up_to.adopted a i);
        };
        begun = λ e. absurd (let differ : ⊥ = cc in differ);
        proved = record { cast = k.proved.cast; proof = k.proved.proof };
        covers = λ c i p j low. elim i [
          | inl s ↦ subst (λ (y : Change). HasProofSince y p.view p.number) (sym s) (new_covers me x view f p j)
          | inr t ↦ k.covers c t p j low
        ];
        follows = k.follows;
      };
      numbered = f.numbered;
    }
turn_keeps me x (Make changes) m f = adopt_keeps me x.own x.own.view changes (omega arith) f

-- ---- a commit vote

pledge_keeps : {M : Type 0} (me : Self M) (x : Node) (n : ℕ) (entry : Entry) (signers : List Signer) → MayAct me x (Pledge_to n entry signers) → Keeping me x.own → Keeping me (performs me x (Pledge_to n entry signers)).0.own
pledge_keeps me x n entry signers m f =
    let p = me.means.params in
    let hash = me.means.hash in
    let k = f.keeps in
    let c = first_some-in (cast_if x.own.view n) x.own.casts entry m.cast in
    let w = when-some (nat_eq c.0.view x.own.view && nat_eq c.0.number n) (Some c.0.entry) entry c.2 in
    let t = and_parts (nat_eq c.0.view x.own.view) (nat_eq c.0.number n) w.0 in
    let proof : Proof = record { view = x.own.view; number = n; entry = entry; signers = signers } in
    record {
      keeps = record {
        up_to = record {
          casts = k.up_to.casts;
          pledges = λ d i. elim i [ inl s ↦ omega (arith, ap (λ (y : Pledge). y.view) s) | inr j ↦ k.up_to.pledges d j ];
          proofs = λ q i. elim i [ inl s ↦ omega (arith, ap (λ (y : Proof). y.view) s) | inr j ↦ k.up_to.proofs q j ];
          moves = k.up_to.moves;
          adopted = k.up_to.adopted;
        };
        begun = k.begun;
        proved = record {
          cast = λ d i. elim i [
            | inl s ↦
                subst (λ (y : Pledge). HasCast hash x.own.casts y.view y.number y.digest) (sym s)
                (record { cast = c.0; among = c.1; its_view = eqb-true _ _ t.0; its_number = eqb-true _ _ t.1; its_digest = ap (entry_digest hash) (same_Some _ _ w.1) })
            | inr j ↦ k.proved.cast d j
          ];
          proof = λ d i. elim i [
            | inl s ↦
                subst (λ (y : Pledge). HasProof p hash (proof ∷ x.own.proofs) y.view y.number y.digest) (sym s)
                (record { proof = proof; among = inl refl; its_view = refl; its_number = refl; its_digest = refl; its_signers = vote_quorum-is me x 0 x.own.view n _ signers m.quorum })
            | inr j ↦ more_proofs p hash x.own.proofs proof d.view d.number d.digest (k.proved.proof d j)
          ];
        };
        covers = λ c i d j low. elim j [
          | inl s ↦ absurd (omega (arith, k.up_to.moves c i, ap (λ (y : Pledge). y.view) s))
          | inr t ↦ k.covers c i d t low
        ];
        follows = k.follows;
      };
      numbered = λ d i. elim i [ inl s ↦ subst (λ (y : Pledge). IsNumber p y.number) (sym s) m.number | inr j ↦ f.numbered d j ];
    }

-- what may be prepared at a number is above all that is chosen, or is what is chosen there
free_or_chosen : (hash : Hash) (changes : List Change) (n : ℕ) (entry : Entry) (free : Bool) → nat_lt (top changes) n ≡ free → cond free true (bytes_eq (entry_digest hash entry) (entry_digest hash (choice changes n))) ≡ true → (top changes < n) ⊎ (entry_digest hash entry ≡ entry_digest hash (choice changes n))
free_or_chosen hash changes n entry true e t = inl (ltb-true _ _ e)
free_or_chosen hash changes n entry false e t = inr ((bytes_eq-Decides (entry_digest hash entry) (entry_digest hash (choice changes n))).0 t)

act_keeps : {M : Type 0} (me : Self M) (x : Node) (act : Act) → MayAct me x act → Keeping me x.own → Keeping me (performs me x act).0.own
act_keeps me x (Offer n entry) m f = cast_keeps me x n entry m.active (elim m.source [
  | inl h ↦ inr (ap (entry_digest me.means.hash) h.2)
  | inr h ↦ inl (omega (arith, h.3))
]) f
act_keeps me x (Prepare n entry) m f =
    let t = and_parts _ _ m.fits in
    cast_keeps me x n entry m.active (subst (λ (e : Entry). (top (chosen x) < n) ⊎ (entry_digest me.means.hash e ≡ entry_digest me.means.hash (choice (chosen x) n))) m.its_entry (free_or_chosen me.means.hash (chosen x) n m.proposal.entry (nat_lt (top (chosen x)) n) refl t.1)) f
act_keeps me x (Pledge_to n entry signers) m f = pledge_keeps me x n entry signers m f
act_keeps me x (Commit a) m f = f
act_keeps me x (Up a) m f = f

start_keeps : {M : Type 0} (me : Self M) → Keeping me new_node.own
start_keeps me = record {
  keeps = record {
    up_to = record { casts = λ c i. absurd i; pledges = λ c i. absurd i; proofs = λ q i. absurd i; moves = λ m i. absurd i; adopted = λ a i. absurd i };
    begun = λ e. refl;
    proved = record { cast = λ c i. absurd i; proof = λ c i. absurd i };
    covers = λ m i. absurd i;
    follows = λ c i. absurd i;
  };
  numbered = λ c i. absurd i;
}

pub keeps_to : {M O : Type 0} (me : Self M) (h : List (Input M O)) → KeepsTo me.means.params me.means.hash (own_after me h)
keeps_to me h = (kept_always me (Keeping me) (record { turn = turn_keeps me; act = act_keeps me }) (start_keeps me) h).keeps
