-- The views of the correct agreement nodes of a deployment.
use Rattle.std.proofs.Common.{◌≡◌, ℕ, suc, ◌+◌, ◌-◌, ◌<◌, ◌≤◌, Bool, true, false, List, ◌∷◌, map, refl, sym, ap, ◌∙◌, arith}
use Rattle.std.specs.Prelude.{max, filter, if◌then◌else◌}
use Rattle.fw_list.specs.Lists.{numbers_from}
use Rattle.fw_rules.specs.Agree.{greatest}
use Rattle.fw_fair.proofs.Ranks.{filter_yes, filter_no}

-- one number more
numbers_more : (i n : ℕ) → i < n → numbers_from i (n - i) ≡ i ∷ numbers_from (i + 1) (n - (i + 1))
numbers_more i n inside =
    let one : n - i ≡ suc (n - (i + 1)) = omega (arith, inside) in
    ap (numbers_from i) one

-- the greatest of those that are left
abbrev pub left : (ℕ → Bool) → (ℕ → ℕ) → ℕ → ℕ → ℕ
left t f i n = greatest (map f (filter t (numbers_from i (n - i))))

-- one view more, of a node that is correct, or one that isn't
pub greater_yet : (t : ℕ → Bool) (f : ℕ → ℕ) (i n old new all : ℕ) → i < n → new ≡ (if t i then max old (f i) else old) → max old (left t f i n) ≡ all → max new (left t f (i + 1) n) ≡ all
greater_yet t f i n old new all inside is before = by (t i) refl
  where
    rest : ℕ
    rest = left t f (i + 1) n

    by : (b : Bool) → t i ≡ b → max new rest ≡ all
    by true correct =
        let split : max old (max (f i) rest) ≡ all =
        ap (λ (ns : List ℕ). max old (greatest (map f ns))) (sym (ap (filter t) (numbers_more i n inside) ∙ filter_yes t i (numbers_from (i + 1) (n - (i + 1))) correct)) ∙ before in
        let more : new ≡ max old (f i) = is ∙ ap (λ (c : Bool). if c then max old (f i) else old) correct in
        omega (arith, more, split)
    by false wrong =
        let same : max old rest ≡ all =
        ap (λ (ns : List ℕ). max old (greatest (map f ns))) (sym (ap (filter t) (numbers_more i n inside) ∙ filter_no t i (numbers_from (i + 1) (n - (i + 1))) wrong)) ∙ before in
        let more : new ≡ old = is ∙ ap (λ (c : Bool). if c then max old (f i) else old) wrong in
        omega (arith, more, same)

-- none is left
pub none_left : (t : ℕ → Bool) (f : ℕ → ℕ) (i n most all : ℕ) → n ≤ i → max most (left t f i n) ≡ all → most ≡ all
none_left t f i n most all over before =
    let none : n - i ≡ 0 = omega (arith, over) in
    let last : max most 0 ≡ all = ap (λ (k : ℕ). max most (greatest (map f (filter t (numbers_from i k))))) (sym none) ∙ before in
    omega (arith, last)
