-- Whether a share is kept, as a search; and what holds where one more is kept.
use Rattle.std.proofs.Common.{◌≡◌, ℕ, ◌+◌, List, [], ◌∷◌, ◌++◌, Bool, true, false, ◌&&◌, ◌||◌, nat_eq, map, refl, ap, arith, inl, inr}
use Rattle.std.specs.List.{list_any, filter}
use Rattle.std.proofs.lemmas.Bool.{cases_Bool, and_parts, eqb-true}
use Rattle.fw_shamir.specs.Polynomial.{IsAbsent, AreDistinct}
use Rattle.fw_trace.specs.Filter.{has_share}
use Rattle.fw_rules.specs.Roles.{is_equal, same_answers}
use Rattle.fw_share.specs.declared.kept.KeptShare.{KeptShare}
use Rattle.fw_share.specs.Shares.{Share, AreFirsts, valued}

-- a search
pub any_share : (kept : List KeptShare) (n j : ℕ) → list_any (λ (s : KeptShare). nat_eq s.number n && nat_eq s.exec j) kept ≡ has_share (map valued kept) n j
any_share [] n j = refl
any_share (s ∷ kept) n j = ap (λ (b : Bool). (nat_eq s.number n && nat_eq s.exec j) || b) (any_share kept n j)

-- neither of two
pub neither : (a b : Bool) → (a || b) ≡ false → (a ≡ false) × (b ≡ false)
neither true b e = absurd (let no : ⊥ = cc in no)
neither false b e = (refl, e)

both-true : (a b : Bool) → a ≡ true → b ≡ true → (a && b) ≡ true
both-true a b x y = cc

-- this share isn't the last one either
other-way : (n j m k : ℕ) → (nat_eq n m && nat_eq j k) ≡ false → (nat_eq m n && nat_eq k j) ≡ false
other-way n j m k apart = elim (cases_Bool (nat_eq m n && nat_eq k j)) [
  | inr other ↦ other
  | inl same ↦
      let parts = and_parts (nat_eq m n) (nat_eq k j) same in
      let one = eqb-true m n parts.0 in
      let two = eqb-true k j parts.1 in
      let back : (nat_eq n n && nat_eq j j) ≡ false = rw (one, two) at apart in
      absurd (grind arith)
]

has-more : (kept : List Share) (s : Share) (n j : ℕ) → has_share kept n j ≡ false → (nat_eq s.number n && nat_eq s.exec j) ≡ false → has_share (kept ++ s ∷ []) n j ≡ false
has-more [] s n j none apart = rw apart refl
has-more (t ∷ kept) s n j none apart =
    let parts = neither (nat_eq t.number n && nat_eq t.exec j) (has_share kept n j) none in
    let rest = has-more kept s n j parts.1 apart in
    rw (parts.0, rest) refl

-- one more that is the first of its number and executor
pub firsts-more : (kept : List Share) (s : Share) → AreFirsts kept → has_share kept s.number s.exec ≡ false → AreFirsts (kept ++ s ∷ [])
firsts-more [] s firsts none = (refl, tt)
firsts-more (t ∷ kept) s firsts none =
    let parts = neither (nat_eq t.number s.number && nat_eq t.exec s.exec) (has_share kept s.number s.exec) none in
    (has-more kept s t.number t.exec firsts.0 (other-way t.number t.exec s.number s.exec parts.0), firsts-more kept s firsts.1 parts.1)

-- ---- the points of shares that say the same

absent : (n : ℕ) (s : Share) (e : ℕ) (kept : List Share) → has_share kept n e ≡ false → IsAbsent (e + 1) (map (λ (t : Share). t.exec + 1) (filter (is_equal n s) kept))
absent n s e [] none = tt
absent n s e (t ∷ kept) none =
    let parts = neither (nat_eq t.number n && nat_eq t.exec e) (has_share kept n e) none in
    elim (cases_Bool (is_equal n s t)) [
      | inr other ↦ rw other (absent n s e kept parts.1)
      | inl same ↦ rw same (apart (and_parts (nat_eq t.number n) (same_answers t.value.0 s.value.0) same).0 parts.0, absent n s e kept parts.1)
    ]
  where
    apart : nat_eq t.number n ≡ true → (nat_eq t.number n && nat_eq t.exec e) ≡ false → t.exec + 1 ≡ e + 1 → ⊥
    apart number other equal =
        let exec : t.exec ≡ e = omega arith in
        let wrong : (nat_eq t.number n && nat_eq e e) ≡ false = rw exec at other in
        grind arith

pub distinct : (n : ℕ) (s : Share) (kept : List Share) → AreFirsts kept → AreDistinct (map (λ (t : Share). t.exec + 1) (filter (is_equal n s) kept))
distinct n s [] firsts = tt
distinct n s (t ∷ kept) firsts = elim (cases_Bool (is_equal n s t)) [
  | inr other ↦ rw other (distinct n s kept firsts.1)
  | inl same ↦
      let number = eqb-true t.number n (and_parts (nat_eq t.number n) (same_answers t.value.0 s.value.0) same).0 in
      rw same (absent n s t.exec kept (rw number at firsts.0), distinct n s kept firsts.1)
]
