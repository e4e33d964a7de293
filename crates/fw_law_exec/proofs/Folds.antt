-- The fold over the entries at 1, 2, .. n, and their shares.
use Rattle.std.proofs.Common.{ℕ, zero, suc, ◌+◌, ◌≡◌, ◌≤◌, inl, inr, Bool, true, false, cond, nat_le, List, [], ◌∷◌, ◌++◌, length, refl, sym, ◌∙◌, ap, subst, Option, Some, None, arith, length-append}
use Rattle.std.proofs.lemmas.Bool.{leb-true, leb-false, eq-eqb, ne_eqb}
use Rattle.std.proofs.lemmas.Option.{none-some}
use Rattle.fw_trace.specs.Lists.{In, first_at}
use Rattle.fw_trace.specs.Executor.{Speech}
use Rattle.fw_source.proofs.Listed.{EachFrom, EachFrom-push}
use Rattle.fw_law_exec.specs.Executed.{after_one, fold_of, share_one, share_at, with_share, shares_to}

-- two numberings that agree up to n
abbrev pub SameUpTo : {E : Type 0} → (ℕ → Option E) → (ℕ → Option E) → ℕ → Type 0
SameUpTo at also n = (k : ℕ) → 1 ≤ k → k ≤ n → at k ≡ also k

-- a share in the list of shares: of which entry, behind the state of how many
pub record ShareOf {M E A X : Type 0} (sp : Speech M E A X) (at : ℕ → Option E) (n : ℕ) (s : ℕ × M) : Type 0 where
  pub before : ℕ
  pub entry : E
  pub within : before + 1 ≤ n
  pub number : s.0 ≡ before + 1
  pub there : at (before + 1) ≡ Some entry
  pub is : s.1 ≡ sp.share (before + 1) (sp.step (fold_of sp at before) entry).0

-- the entries as a list
pub record Listed {M E A X : Type 0} (sp : Speech M E A X) (at : ℕ → Option E) (n : ℕ) (after_all : List E → X) : Type 0 where
  pub list : List E
  pub each : EachFrom (λ k e. at k ≡ Some e) 1 list
  pub count : length list ≡ n
  pub fold : fold_of sp at n ≡ after_all list

-- the state after a list of entries
abbrev pub after_all : {M E A X : Type 0} → Speech M E A X → X → List E → X
after_all sp x [] = x
after_all sp x (e ∷ es) = after_all sp (sp.step x e).1 es

pub after_push : {M E A X : Type 0} (sp : Speech M E A X) (x : X) (es : List E) (e : E) → after_all sp x (es ++ e ∷ []) ≡ (sp.step (after_all sp x es) e).1
after_push sp x [] e = refl
after_push sp x (y ∷ es) e = after_push sp (sp.step x y).1 es e

module _ {M E A X : Type 0} (sp : Speech M E A X) where
  pub fold_same : (at also : ℕ → Option E) (n : ℕ) → SameUpTo at also n → fold_of sp at n ≡ fold_of sp also n
  fold_same at also zero same = refl
  fold_same at also (suc n) same =
      ap (λ (s : X). after_one sp s (at (suc n))) (fold_same at also n (λ k l u. same k l (omega (arith, u))))
      ∙ ap (after_one sp (fold_of sp also n)) (same (suc n) (omega arith) (omega arith))

  pub share_same : (at also : ℕ → Option E) (n : ℕ) → SameUpTo at also n → share_at sp at n ≡ share_at sp also n
  share_same at also zero same = refl
  share_same at also (suc n) same =
      ap (λ (s : X). share_one sp (suc n) s (at (suc n))) (fold_same at also n (λ k l u. same k l (omega (arith, u))))
      ∙ ap (share_one sp (suc n) (fold_of sp also n)) (same (suc n) (omega arith) (omega arith))

  pub shares_same : (at also : ℕ → Option E) (n : ℕ) → SameUpTo at also n → shares_to sp at n ≡ shares_to sp also n
  shares_same at also zero same = refl
  shares_same at also (suc n) same =
      ap (λ (m : Option M). with_share (suc n) m (shares_to sp at n)) (share_same at also (suc n) same)
      ∙ ap (with_share (suc n) (share_at sp also (suc n))) (shares_same at also n (λ k l u. same k l (omega (arith, u))))

  -- one entry more
  pub fold_next : (at : ℕ → Option E) (n : ℕ) (e : E) → at (n + 1) ≡ Some e → fold_of sp at (n + 1) ≡ (sp.step (fold_of sp at n) e).1
  fold_next at n e =
      let z : suc n ≡ n + 1 = omega arith in
      subst (λ (k : ℕ). at k ≡ Some e → fold_of sp at k ≡ (sp.step (fold_of sp at n) e).1) z (λ q. ap (after_one sp (fold_of sp at n)) q)

  pub shares_next : (at : ℕ → Option E) (n : ℕ) (e : E) → at (n + 1) ≡ Some e → shares_to sp at (n + 1) ≡ (n + 1, sp.share (n + 1) (sp.step (fold_of sp at n) e).0) ∷ shares_to sp at n
  shares_next at n e =
      let z : suc n ≡ n + 1 = omega arith in
      subst (λ (k : ℕ). at k ≡ Some e → shares_to sp at k ≡ (k, sp.share k (sp.step (fold_of sp at n) e).0) ∷ shares_to sp at n) z
      (λ q. ap (λ (o : Option E). with_share (suc n) (share_one sp (suc n) (fold_of sp at n) o) (shares_to sp at n)) q)

  -- each share is that of one of the numbers
  pub share_of : (at : ℕ → Option E) (n : ℕ) (s : ℕ × M) → In s (shares_to sp at n) → ShareOf sp at n s
  share_of at zero s i = absurd i
  share_of at (suc n) s i = by (at (suc n)) refl (share_of at n s) i
    where
      wider : ShareOf sp at n s → ShareOf sp at (suc n) s
      wider r = let w = r.within in record { before = r.before; entry = r.entry; within = omega arith; number = r.number; there = r.there; is = r.is }

      by : (o : Option E) → at (suc n) ≡ o → (In s (shares_to sp at n) → ShareOf sp at n s) → In s (with_share (suc n) (share_one sp (suc n) (fold_of sp at n) o) (shares_to sp at n)) → ShareOf sp at (suc n) s
      by None q more i = wider (more i)
      by (Some e) q more (inr i) = wider (more i)
      by (Some e) q more (inl is) =
          let z : suc n ≡ n + 1 = omega arith in
          record {
            before = n;
            entry = e;
            within = omega arith;
            number = ap (λ (t : ℕ × M). t.0) is ∙ z;
            there = subst (λ (k : ℕ). at k ≡ Some e) z q;
            is = ap (λ (t : ℕ × M). t.1) is ∙ ap (λ (k : ℕ). sp.share k (sp.step (fold_of sp at n) e).0) z;
          }

  -- and each number's share is found there
  pub share_first : (at : ℕ → Option E) (n k : ℕ) (m : M) → k ≤ n → share_at sp at k ≡ Some m → first_at (λ s. Some s) (shares_to sp at n) k ≡ Some m
  share_first at zero k m u h = absurd (none-some m (let z : k ≡ 0 = omega (arith, u) in subst (λ (i : ℕ). share_at sp at i ≡ Some m) z h))
  share_first at (suc n) k m u h = by (nat_le k n) refl (share_first at n k m)
    where
      older : k ≤ n → (o : Option M) → first_at (λ s. Some s) (shares_to sp at n) k ≡ Some m → first_at (λ s. Some s) (with_share (suc n) o (shares_to sp at n)) k ≡ Some m
      older l None i = i
      older l (Some x) i = ap (λ (b : Bool). cond b (Some x) (first_at (λ s. Some s) (shares_to sp at n) k)) (ne_eqb (suc n) k (λ e. omega (arith, e, l))) ∙ i

      newest : share_at sp at (suc n) ≡ Some m → first_at (λ s. Some s) (shares_to sp at (suc n)) (suc n) ≡ Some m
      newest q =
          ap (λ (o : Option M). first_at (λ (s : ℕ × M). Some s) (with_share (suc n) o (shares_to sp at n)) (suc n)) q
          ∙ ap (λ (b : Bool). cond b (Some m) (first_at (λ s. Some s) (shares_to sp at n) (suc n))) (eq-eqb (suc n) (suc n) refl)

      by : (b : Bool) → nat_le k n ≡ b → (k ≤ n → share_at sp at k ≡ Some m → first_at (λ s. Some s) (shares_to sp at n) k ≡ Some m) → first_at (λ s. Some s) (shares_to sp at (suc n)) k ≡ Some m
      by true q more = let l = leb-true k n q in older l (share_at sp at (suc n)) (more l h)
      by false q more =
          let z : suc n ≡ k = omega (arith, u, leb-false k n q) in
          subst (λ (i : ℕ). first_at (λ s. Some s) (shares_to sp at (suc n)) i ≡ Some m) z (newest (subst (λ (i : ℕ). share_at sp at i ≡ Some m) (sym z) h))

  pub listed : (at : ℕ → Option E) (n : ℕ) → ((k : ℕ) → 1 ≤ k → k ≤ n → (e : E) × (at k ≡ Some e)) → Listed sp at n (after_all sp sp.begin)
  listed at zero all = record { list = []; each = tt; count = refl; fold = refl }
  listed at (suc n) all =
      let less = listed at n (λ k l u. all k l (omega (arith, u))) in
      let new = all (suc n) (omega arith) (omega arith) in
      let place : suc n ≡ 1 + length less.list = let c = less.count in omega arith in
      record {
        list = less.list ++ new.0 ∷ [];
        each = EachFrom-push (λ k e. at k ≡ Some e) 1 less.list new.0 less.each (subst (λ (k : ℕ). at k ≡ Some new.0) place new.1);
        count = let c = less.count in omega (arith, length-append less.list (new.0 ∷ []));
        fold = ap (after_one sp (fold_of sp at n)) new.1 ∙ ap (λ (s : X). (sp.step s new.0).1) less.fold ∙ sym (after_push sp sp.begin less.list new.0);
      }
