-- All that a node does itself is in range: each act keeps it.
use Rattle.std.proofs.Common.{ℕ, ◌+◌, ◌<◌, ◌≤◌, ◌≡◌, inl, inr, true, List, ◌∷◌, arith, refl, sym, ap, subst, Some, filter_map}
use Rattle.fw_base.specs.declared.params.Params.{Params}
use Rattle.fw_trace.specs.declared.Input.{Input}
use Rattle.fw_trace.specs.Lists.{In}
use Rattle.fw_frame.specs.View.{Entry, Proof, Change}
use Rattle.fw_rules.specs.Agree.{Self, Own, Node, Cast, Pledge, Adopted, Act, Offer, Prepare, Pledge_to, Commit, Up, performs, best, proofs_of, numbers, new_node}
use Rattle.fw_rules.specs.Views.{Turn, Adopt, Start, Make, turns, own_change}
use Rattle.fw_law_node.specs.Once.{own_after}
use Rattle.fw_law_node.specs.Facts.{IsNumber}
use Rattle.fw_law_node.specs.Ranges.{IsPlace, IsProof, IsChangeBy, InRange}
use Rattle.fw_law_node.proofs.Acts.{MayTurn, MayAct}
use Rattle.fw_law_node.proofs.Own.{kept_always}
use Rattle.fw_law_node.proofs.Best.{best_of-is, In-filter_map}
use Rattle.fw_law_node.proofs.Quorums.{found-rises, rises-ascending, vote_quorum-is}
use Rattle.std.specs.Prelude.{Option}

-- it is in range, and its proofs are of views up to its own
record Ranging {M : Type 0} (me : Self M) (own : Own) : Type 0 where
  ranges : InRange me.means.params me.own own
  reached : (q : Proof) → In q own.proofs → q.view ≤ own.view

cast_ranges : {M : Type 0} (me : Self M) (own : Own) (n : ℕ) (entry : Entry) → IsNumber me.means.params n → Ranging me own → Ranging me (record own { casts = record { view = own.view; number = n; entry = entry } ∷ own.casts })
cast_ranges me own n entry number f =
    let r = f.ranges in
    record {
      ranges = record {
        view = r.view;
        casts = λ c i. elim i [ inl s ↦ subst (λ (y : Cast). IsPlace me.means.params y.view y.number) (sym s) (r.view, number) | inr j ↦ r.casts c j ];
        pledges = r.pledges;
        proofs = r.proofs;
        moves = r.moves;
      };
      reached = f.reached;
    }

adopt_ranges : {M : Type 0} (me : Self M) (own : Own) (view : ℕ) (adopted : List Adopted) → own.view ≤ view → view < me.means.params.views → Ranging me own → Ranging me (record own { view = view; active = true; adopted = adopted })
adopt_ranges me own view adopted high below f =
    let r = f.ranges in
    record {
      ranges = record { view = below; casts = r.casts; pledges = r.pledges; proofs = r.proofs; moves = r.moves };
      reached = λ q i. let low = f.reached q i in omega arith;
    }

-- its view changes list proofs that it has made, one more it has made too
more_made : (p : Params) (node : ℕ) (proofs : List Proof) (q : Proof) (m : Change) → IsChangeBy p node proofs m → IsChangeBy p node (q ∷ proofs) m
more_made p node proofs q m k =
    record { later = k.later; below = k.below; signer = k.signer; among = λ r i. inr (k.among r i); earlier = k.earlier; distinct = k.distinct }

-- a view change that starts now
start_range : {M : Type 0} (me : Self M) (x : Node) (view : ℕ) → x.own.view < view → view < me.means.params.views → Ranging me x.own → IsChangeBy me.means.params me.own x.own.proofs (own_change me x view)
start_range me x view above below f = record {
  later = omega arith;
  below = below;
  signer = refl;
  among = λ q i. found q i;
  earlier = λ q i. let low = f.reached q (found q i) in omega arith;
  distinct = rises-ascending 1 (me.means.params.numbers + 1) _ (found-rises (λ (q : Proof). q.number) best_at is 1 me.means.params.numbers (me.means.params.numbers + 1) (omega arith));
}
  where
    best_at : ℕ → Option Proof
    best_at n = best (proofs_of n x.own.proofs)

    is : (n : ℕ) (q : Proof) → best_at n ≡ Some q → q.number ≡ n
    is n q e = (best_of-is n x.own.proofs q e).1

    found : (q : Proof) → In q (filter_map best_at (numbers me)) → In q x.own.proofs
    found q i = let t = In-filter_map best_at (numbers me) q i in (best_of-is t.0 x.own.proofs q t.2).0

turn_ranges : {M : Type 0} (me : Self M) (x : Node) (turn : Turn) → MayTurn me x turn → Ranging me x.own → Ranging me (turns me x turn).0.own
turn_ranges me x (Adopt view changes) m f =
    adopt_ranges me x.own view _ (elim m.later [ inl h ↦ omega arith | inr h ↦ let same = h.0 in omega arith ]) m.below f
turn_ranges me x (Start view) m f =
    let r = f.ranges in
    let above = m.above in
    record {
      ranges = record {
        view = m.below;
        casts = r.casts;
        pledges = r.pledges;
        proofs = r.proofs;
        moves = λ c i. elim i [
          | inl s ↦ subst (IsChangeBy me.means.params me.own x.own.proofs) (sym s) (start_range me x view m.above m.below f)
          | inr j ↦ r.moves c j
        ];
      };
      reached = λ q i. let low = f.reached q i in omega arith;
    }
turn_ranges me x (Make changes) m f = adopt_ranges me x.own x.own.view _ (omega arith) f.ranges.view f

act_ranges : {M : Type 0} (me : Self M) (x : Node) (act : Act) → MayAct me x act → Ranging me x.own → Ranging me (performs me x act).0.own
act_ranges me x (Offer n entry) m f = cast_ranges me x.own n entry m.number f
act_ranges me x (Prepare n entry) m f = cast_ranges me x.own n entry m.number f
act_ranges me x (Pledge_to n entry signers) m f =
    let p = me.means.params in
    let r = f.ranges in
    let proof : Proof = record { view = x.own.view; number = n; entry = entry; signers = signers } in
    record {
      ranges = record {
        view = r.view;
        casts = r.casts;
        pledges = λ c i. elim i [ inl s ↦ subst (λ (y : Pledge). IsPlace p y.view y.number) (sym s) (r.view, m.number) | inr j ↦ r.pledges c j ];
        proofs = λ q i. elim i [
          | inl s ↦ subst (IsProof p) (sym s) (record { place = (r.view, m.number); signers = vote_quorum-is me x 0 x.own.view n _ signers m.quorum })
          | inr j ↦ r.proofs q j
        ];
        moves = λ c i. more_made p me.own x.own.proofs proof c (r.moves c i);
      };
      reached = λ q i. elim i [ inl s ↦ let same = ap (λ (y : Proof). y.view) s in omega arith | inr j ↦ f.reached q j ];
    }
act_ranges me x (Commit a) m f = f
act_ranges me x (Up a) m f = f

start_ranges : {M : Type 0} (me : Self M) → 0 < me.means.params.views → Ranging me new_node.own
start_ranges me some = record {
  ranges = record { view = some; casts = λ c i. absurd i; pledges = λ c i. absurd i; proofs = λ q i. absurd i; moves = λ m i. absurd i };
  reached = λ q i. absurd i;
}

-- where there is a view
pub in_range : {M O : Type 0} (me : Self M) (h : List (Input M O)) → 0 < me.means.params.views → InRange me.means.params me.own (own_after me h)
in_range me h some = (kept_always me (Ranging me) (record { turn = turn_ranges me; act = act_ranges me }) (start_ranges me some) h).ranges
