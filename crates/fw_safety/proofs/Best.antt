-- Among proofs of a number there is one of the greatest view.
use Rattle.std.proofs.Common.{ℕ, ◌≤◌, ◌≡◌, ◌⊎◌, inl, inr, List, [], ◌∷◌, arith, ◌∙◌, ap}
use Rattle.std.proofs.lemmas.Bool.{cases_eq, cases_order}
use Rattle.fw_quorum.proofs.Members.{contains_none, contains_first, contains_later, contains_cases}
use Rattle.fw_safety.specs.Deeds.{ListedProof, HasNumber, IsBest}

abbrev HasBest : ℕ → List ListedProof → Type 0
HasBest n ps = (b : ListedProof) × IsBest n ps b

-- the first is the best where no other is of the number
first_alone : (n : ℕ) (p : ListedProof) (ps : List ListedProof) → p.number ≡ n → (HasNumber n ps → ⊥) → IsBest n (p ∷ ps) p
first_alone n p ps is none = record {
  among = contains_first p ps;
  its_number = is;
  greatest = λ q h e. elim (contains_cases p ps q h) [
    | inl same ↦ omega (arith, ap (λ (x : ListedProof). x.view) same)
    | inr r ↦ absurd (none (q, r, e))
  ];
}

-- the first is the best where the best of the rest is of no greater view
first_better : (n : ℕ) (p : ListedProof) (ps : List ListedProof) (b : ListedProof) → p.number ≡ n → IsBest n ps b → b.view ≤ p.view → IsBest n (p ∷ ps) p
first_better n p ps b is best less = record {
  among = contains_first p ps;
  its_number = is;
  greatest = λ q h e. elim (contains_cases p ps q h) [
    | inl same ↦ omega (arith, ap (λ (x : ListedProof). x.view) same)
    | inr r ↦ omega (arith, best.greatest q r e, less)
  ];
}

-- the best of the rest stays the best where the first is of another number or of no greater view
rest_better : (n : ℕ) (p : ListedProof) (ps : List ListedProof) (b : ListedProof) → IsBest n ps b → (p.number ≡ n → p.view ≤ b.view) → IsBest n (p ∷ ps) b
rest_better n p ps b best less = record {
  among = contains_later p ps b best.among;
  its_number = best.its_number;
  greatest = λ q h e. elim (contains_cases p ps q h) [
    | inl same ↦ omega (arith, less (ap (λ (x : ListedProof). x.number) same ∙ e), ap (λ (x : ListedProof). x.view) same)
    | inr r ↦ best.greatest q r e
  ];
}

order : (a b : ℕ) → (a ≤ b) ⊎ (b ≤ a)
order a b = elim (cases_order a b) [
  | inl e ↦ inl (omega (arith, e))
  | inr (inl l) ↦ inl (omega (arith, l))
  | inr (inr l) ↦ inr (omega (arith, l))
]

-- there is a best one, or no proof of the number
pub best_or_none : (n : ℕ) (ps : List ListedProof) → (HasNumber n ps → ⊥) ⊎ HasBest n ps
best_or_none n [] = inl (λ h. contains_none h.0 h.1)
best_or_none n (p ∷ ps) = by (cases_eq p.number n) (best_or_none n ps)
  where
    by : (p.number ≡ n) ⊎ (p.number ≡ n → ⊥) → (HasNumber n ps → ⊥) ⊎ HasBest n ps → (HasNumber n (p ∷ ps) → ⊥) ⊎ HasBest n (p ∷ ps)
    by (inl is) (inl none) = inr (p, first_alone n p ps is none)
    by (inl is) (inr best) = elim (order best.0.view p.view) [
      | inl less ↦ inr (p, first_better n p ps best.0 is best.1 less)
      | inr less ↦ inr (best.0, rest_better n p ps best.0 best.1 (λ e. less))
    ]
    by (inr isnt) (inl none) = inl (λ h. elim (contains_cases p ps h.0 h.1) [
      | inl same ↦ isnt (ap (λ (x : ListedProof). x.number) same ∙ h.2)
      | inr r ↦ none (h.0, r, h.2)
    ])
    by (inr isnt) (inr best) = inr (best.0, rest_better n p ps best.0 best.1 (λ e. absurd (isnt e)))

pub best_of_some : (n : ℕ) (ps : List ListedProof) → HasNumber n ps → HasBest n ps
best_of_some n ps some = elim (best_or_none n ps) [ inl none ↦ absurd (none some) | inr best ↦ best ]
