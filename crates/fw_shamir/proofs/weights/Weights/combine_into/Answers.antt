use Rattle.std.proofs.Common.{◌≡◌, ◌∙◌, ◌+◌, ℕ, List, [], length, map, get_or, subst, sym, suc, arith, Bor, below_more}
use Rattle.std.proofs.lemmas.List.{get_or-map, length-map}
use Rattle.fw_shamir.specs.Steps.{AreWeights}
use Rattle.fw_shamir.proofs.Weighing.{front_value-none, front_value-step, front_value-gives, have-column, are-bytes}
use Rattle.fw_shamir.proofs.weights.Weights.combine_into.Goals as goal

-- the bytes of the shares at one place
abbrev column_bytes : List (Bor (List ℕ)) → ℕ → List ℕ
column_bytes shares j = map (λ share. get_or share.now j 0) shares

pub loop-k-init : goal.loop-k-init
loop-k-init c = record {
  weights = (let P : List ℕ → Type 0 = λ xs. AreWeights xs c.self.inside.weights in subst P c.self.view_is c.self.invariant.1);
  fits = λ i low j below. absurd (omega arith);
  sums = λ j below. c.clear.ensures j below ∙ sym (front_value-none c.args.self.now (column_bytes c.args.shares.now j));
}

pub loop-k-preserved : goal.loop-k-preserved
loop-k-preserved c =
    let k = c.loop-k.k in
    let shares = c.args.shares.now in
    let none : Bor (List ℕ) = record { ref_ptr = (0, 0); now = [] } in
    let share : List ℕ = (get_or shares k none).now in
    let size : length share ≡ length c.args.out.now = c.requires.lengths k none (omega arith) in
    record {
      weights = c.loop-k.invariant.weights;
      sums = λ j below.
          let next : k + 1 ≡ suc k = omega arith in
          let byte : get_or (column_bytes shares j) k 0 ≡ get_or share j 0 = get_or-map (λ (s : Bor (List ℕ)). get_or s.now j 0) shares k none 0 (omega arith) in
          front_value-step c.args.self.now (column_bytes shares j) k (k + 1) _ _ _ _ next
          (c.loop-k.invariant.sums j (omega arith)) (c.loop-k.invariant.weights.each k (omega arith)) (sym byte)
          (c.add_product.ensures.bytes j (omega arith)) (c.add_product.ensures.added j below);
      fits = below_more _ _ (λ i low j below. c.loop-k.invariant.fits i low j (omega arith)) (λ j below. c.add_product.ensures.bytes j (omega arith));
    }

pub returns-clause-any : goal.returns-clause-any
returns-clause-any c = λ j below.
    front_value-gives c.args.self.now (column_bytes c.args.shares.now j) c.loop-k.k (get_or c.loop-k.out j 0)
    (length-map c.args.shares.now (λ (s : Bor (List ℕ)). get_or s.now j 0) ∙ c.requires.shares) (omega arith)
    c.loop-k.invariant.weights.bytes c.loop-k.invariant.weights.distinct (c.loop-k.invariant.sums j below)

pub returns-clause-exists : goal.returns-clause-exists
returns-clause-exists c = λ j below.
    let shares = c.args.shares.now in
    let none : Bor (List ℕ) = record { ref_ptr = (0, 0); now = [] } in
    let count : length (column_bytes shares j) ≡ length shares = length-map shares (λ (s : Bor (List ℕ)). get_or s.now j 0) in
    have-column c.args.self.now (column_bytes shares j) (count ∙ c.requires.shares)
    c.loop-k.invariant.weights.bytes c.loop-k.invariant.weights.distinct
    (are-bytes (column_bytes shares j) (λ i low.
    let byte : get_or (column_bytes shares j) i 0 ≡ get_or (get_or shares i none).now j 0 = get_or-map (λ (s : Bor (List ℕ)). get_or s.now j 0) shares i none 0 (omega arith) in
    omega (arith, byte, c.loop-k.invariant.fits i (omega arith) j below)))
