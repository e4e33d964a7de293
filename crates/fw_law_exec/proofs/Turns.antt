-- What an executor does where the next numbers are kept.
use Rattle.std.proofs.Common.{ℕ, zero, suc, ◌+◌, ◌≡◌, ◌≤◌, ◌<◌, ◌⊎◌, inl, inr, Bool, true, false, nat_le, List, [], ◌∷◌, ◌++◌, refl, sym, ◌∙◌, ap, subst, Option, Some, None, arith}
use Rattle.std.proofs.lemmas.Bool.{leb-true, leb-false}
use Rattle.fw_base.specs.declared.seat.Seat.{Seat}
use Rattle.fw_trace.specs.Lists.{In}
use Rattle.fw_trace.specs.Client.{to_all}
use Rattle.fw_trace.specs.Executor.{Speech, Executor, Sends, entry_of, execute_one, execute_on}
use Rattle.fw_trace.proofs.Words.{In-append, In-left}
use Rattle.fw_source.proofs.Listed.{In-to_all}
use Rattle.fw_law_exec.specs.Executed.{fold_of, IsKept, Executes, Waits}
use Rattle.fw_law_exec.proofs.Folds.{fold_same, shares_same, fold_next, shares_next}
use Rattle.fw_law_exec.proofs.Kept.{above, above_uses}

pub In-right : {A : Type 0} (x : A) (xs ys : List A) → In x ys → In x (xs ++ ys)
In-right x [] ys h = h
In-right x (y ∷ xs) ys h = inr (In-right x xs ys h)

pub to_all-In : {M : Type 0} (seats : List Seat) (m : M) (seat : Seat) → In seat seats → In (seat, m) (to_all seats m)
to_all-In [] m seat i = absurd i
to_all-In (s ∷ seats) m seat (inl e) = inl (ap (λ (x : Seat). (x, m)) e)
to_all-In (s ∷ seats) m seat (inr i) = inr (to_all-In seats m seat i)

-- what executing makes of x in so many turns, and what it sends; each turn uses up one kept number, so as many turns as are kept suffice
pub record Ran {M E A X : Type 0} (sp : Speech M E A X) (most : ℕ) (x : Executor M E A X) (r : Executor M E A X × Sends M) : Type 0 where
  pub executes : Executes sp x → Executes sp r.0
  pub waits : above x.done x.kept < most → Waits r.0
  pub kept : r.0.kept ≡ x.kept
  pub from : r.0.from ≡ x.from
  pub done : x.done ≤ r.0.done
  pub shares : (s : ℕ × M) → In s x.shares → In s r.0.shares
  pub sent : (s : ℕ × M) → In s r.0.shares → In s x.shares ⊎ ((seat : Seat) → In seat sp.filters → In (seat, s.1) r.1)
  pub outs : (o : Seat × M) → In o r.1 → In o.0 sp.filters × ((n : ℕ) × In (n, o.1) r.0.shares)

module _ {M E A X : Type 0} (sp : Speech M E A X) where
  one_executes : (x : Executor M E A X) (e : E) → entry_of x.kept (x.done + 1) ≡ Some e → Executes sp x → Executes sp (execute_one sp x e).0
  one_executes x e q c = record {
    each = λ n l u. each n l u (nat_le n x.done) refl;
    state = ap (λ (s : X). (sp.step s e).1) c.state ∙ sym (fold_next sp (entry_of x.kept) x.done e q);
    shares =
        ap (λ (s : X). (x.done + 1, sp.share (x.done + 1) (sp.step s e).0) ∷ x.shares) c.state
        ∙ ap (λ (l : List (ℕ × M)). (x.done + 1, sp.share (x.done + 1) (sp.step (fold_of sp (entry_of x.kept) x.done) e).0) ∷ l) c.shares
        ∙ sym (shares_next sp (entry_of x.kept) x.done e q);
  }
    where
      each : (n : ℕ) → 1 ≤ n → n ≤ x.done + 1 → (b : Bool) → nat_le n x.done ≡ b → IsKept x.kept n
      each n l u true t = c.each n l (leb-true n x.done t)
      each n l u false t = let z : x.done + 1 ≡ n = omega (arith, u, leb-false n x.done t) in (e, subst (λ (k : ℕ). entry_of x.kept k ≡ Some e) z q)

  stopped : (most : ℕ) (x : Executor M E A X) → (above x.done x.kept < most → Waits x) → Ran sp most x (x, [])
  stopped most x w = record { executes = λ c. c; waits = w; kept = refl; from = refl; done = omega arith; shares = λ s i. i; sent = λ s i. inl i; outs = λ o i. absurd i }

  pub ran : (most : ℕ) (x : Executor M E A X) → Ran sp most x (execute_on sp most x)
  ran zero x = stopped zero x (λ l. absurd (omega (arith, l)))
  ran (suc most) x = by (entry_of x.kept (x.done + 1)) refl (ran most)
    where
      by : (o : Option E) → entry_of x.kept (x.done + 1) ≡ o → ((y : Executor M E A X) → Ran sp most y (execute_on sp most y))
          → Ran sp (suc most) x (elim o [
            | None ↦ (x, [])
            | Some e ↦
                let one = execute_one sp x e in
                let rest = execute_on sp most one.0 in
                (rest.0, one.1 ++ rest.1)
          ])
      by None q more = stopped (suc most) x (λ l. q)
      by (Some e) q more = record {
        executes = λ c. rest.executes (one_executes x e q c);
        waits = λ l. rest.waits (let u : above (x.done + 1) x.kept < above x.done x.kept = above_uses x.done x.kept e q in omega (arith, l));
        kept = rest.kept;
        from = rest.from;
        done = let d : x.done + 1 ≤ (execute_on sp most one).0.done = rest.done in omega arith;
        shares = λ s i. rest.shares s (inr i);
        sent = λ s i. sent s (rest.sent s i);
        outs = λ o i. outs o (In-append o (to_all sp.filters share) (execute_on sp most one).1 i);
      }
        where
          one : Executor M E A X
          one = (execute_one sp x e).0

          share : M
          share = sp.share (x.done + 1) (sp.step x.state e).0

          rest : Ran sp most one (execute_on sp most one)
          rest = more one

          sent : (s : ℕ × M) → In s one.shares ⊎ ((seat : Seat) → In seat sp.filters → In (seat, s.1) (execute_on sp most one).1)
              → In s x.shares ⊎ ((seat : Seat) → In seat sp.filters → In (seat, s.1) (to_all sp.filters share ++ (execute_on sp most one).1))
          sent s (inl (inl is)) = inr (λ seat f. In-left (seat, s.1) (to_all sp.filters share) (execute_on sp most one).1 (subst (λ (t : ℕ × M). In (seat, t.1) (to_all sp.filters share)) (sym is) (to_all-In sp.filters share seat f)))
          sent s (inl (inr i)) = inl i
          sent s (inr g) = inr (λ seat f. In-right (seat, s.1) (to_all sp.filters share) (execute_on sp most one).1 (g seat f))

          outs : (o : Seat × M) → In o (to_all sp.filters share) ⊎ In o (execute_on sp most one).1 → In o.0 sp.filters × ((n : ℕ) × In (n, o.1) (execute_on sp most one).0.shares)
          outs o (inl i) = let t = In-to_all sp.filters share o i in (t.0, (x.done + 1, rest.shares (x.done + 1, o.1) (inl (ap (λ (m : M). (x.done + 1, m)) t.1))))
          outs o (inr i) = rest.outs o i

  -- what is executed stays so where more is kept
  pub executes_still : (x : Executor M E A X) (kept : List (ℕ × E × M)) (from : List (Seat × ℕ)) → ((n : ℕ) (e : E) → entry_of x.kept n ≡ Some e → entry_of kept n ≡ Some e)
      → Executes sp x → Executes sp (record x { kept = kept; from = from })
  executes_still x kept from stays c = record {
    each = λ n l u. (let k = c.each n l u in (k.0, stays n k.0 k.1));
    state = c.state ∙ fold_same sp (entry_of x.kept) (entry_of kept) x.done same;
    shares = c.shares ∙ shares_same sp (entry_of x.kept) (entry_of kept) x.done same;
  }
    where
      same : (k : ℕ) → 1 ≤ k → k ≤ x.done → entry_of x.kept k ≡ entry_of kept k
      same k l u = let i = c.each k l u in i.1 ∙ sym (stays k i.0 i.1)
