-- Seats of a deployment of which a few may be faulty, and groups of distinct ones.
use Rattle.std.specs.Prelude.{ℕ, ◌<◌, ◌≤◌, ◌≡◌, ◌≢◌, Bool, false, List, length, All, AllPairs, Contains, count_by, sum_by}
use Rattle.fw_list.specs.Lists.{numbers_from}
use Rattle.fw_base.specs.declared.params.Params.{Params}
use Rattle.fw_base.specs.Sizes.{agreements, quorum, executors, width}

-- how many of 0, 1, .., count - 1 are faulty
abbrev pub faulty_below : ℕ → (ℕ → Bool) → ℕ
faulty_below count faulty = count_by faulty (numbers_from 0 count)

-- at most f of the agreement nodes are faulty
abbrev pub FewNodesFaulty : Params → (ℕ → Bool) → Type 0
FewNodesFaulty p faulty = faulty_below (agreements p) faulty ≤ p.f

-- at most g of the executors are faulty
abbrev pub FewExecutorsFaulty : Params → (ℕ → Bool) → Type 0
FewExecutorsFaulty p faulty = faulty_below (executors p) faulty ≤ p.g

-- how many filters of a row are faulty; a filter is named by its row and its column
abbrev pub faulty_in_row : Params → (ℕ → ℕ → Bool) → ℕ → ℕ
faulty_in_row p faulty row = faulty_below (width p) (faulty row)

-- at most h of the filters of all rows together are faulty
abbrev pub FewFiltersFaulty : Params → (ℕ → ℕ → Bool) → Type 0
FewFiltersFaulty p faulty = sum_by (faulty_in_row p faulty) (numbers_from 0 (width p)) ≤ p.h

-- distinct numbers below count, at least so many of them
pub record IsGroup (count least : ℕ) (members : List ℕ) : Type 0 where
  pub distinct : AllPairs (λ i j. i ≢ j) members
  pub below : All (λ i. i < count) members
  pub enough : least ≤ length members

-- agreement nodes, as many as decide
abbrev pub IsQuorum : Params → List ℕ → Type 0
IsQuorum p members = IsGroup (agreements p) (quorum p) members

-- one of the list isn't faulty
abbrev pub HasCorrect : (ℕ → Bool) → List ℕ → Type 0
HasCorrect faulty members = (i : ℕ) × Contains members i × (faulty i ≡ false)

-- one that both lists have isn't faulty
abbrev pub SharesCorrect : (ℕ → Bool) → List ℕ → List ℕ → Type 0
SharesCorrect faulty xs ys = (i : ℕ) × Contains xs i × Contains ys i × (faulty i ≡ false)

-- no filter of the row is faulty
abbrev pub IsCorrectRow : Params → (ℕ → ℕ → Bool) → ℕ → Type 0
IsCorrectRow p faulty row = (column : ℕ) → column < width p → faulty row column ≡ false

-- one row has no faulty filter
abbrev pub HasCorrectRow : Params → (ℕ → ℕ → Bool) → Type 0
HasCorrectRow p faulty = (row : ℕ) × (row < width p) × IsCorrectRow p faulty row
