-- What the laws ask for, from what is at hand: members that ascend are a group, and faulty seats that stand in a list are as few as it is long.
use Rattle.std.proofs.Common.{ℕ, zero, suc, ◌+◌, ◌<◌, ◌≤◌, ◌≡◌, ◌≢◌, inl, inr, Bool, true, false, ◌&&◌, not, nat_eq, nat_lt, List, [], ◌∷◌, length, get_or, All, AllPairs, Contains, IsTrue, arith, refl, sym, ◌∙◌, ap}
use Rattle.std.proofs.lemmas.Bool.{eqb-true, eq-eqb, and_parts, and_from, not-true, ltb-true, cases_Bool, cases_eq}
use Rattle.fw_list.specs.Lists.{numbers_from}
use Rattle.fw_list.specs.Numbers.{ascending}
use Rattle.fw_base.specs.declared.params.Params.{Params}
use Rattle.fw_base.specs.Sizes.{agreements, quorum, width}
use Rattle.fw_quorum.specs.Quorum.{faulty_below, faulty_in_row, FewNodesFaulty, FewFiltersFaulty, IsGroup}
use Rattle.fw_quorum.proofs.Members.{contains_none, contains_cases, contains_numbers, numbers_within}
use Rattle.fw_quorum.proofs.Counting.{total, sum_by_total, one_if, tally, count_by_tally, tally_split, tally_some, total_zero, length_numbers}

-- ---- members that ascend

-- each element is above the first
ascending_above : (x : ℕ) (xs : List ℕ) (j d : ℕ) → IsTrue (ascending (x ∷ xs)) → j < length xs → x < get_or xs j d
ascending_above x [] j d up small = absurd (omega (arith, small))
ascending_above x (y ∷ xs) zero d up small = ltb-true x y (and_parts (nat_lt x y) (ascending (y ∷ xs)) up).0
ascending_above x (y ∷ xs) (suc j) d up small =
    let parts = and_parts (nat_lt x y) (ascending (y ∷ xs)) up in
    omega (arith, ltb-true x y parts.0, ascending_above y xs j d parts.1 (omega (arith, small)))

ascending_rest : (x : ℕ) (xs : List ℕ) → IsTrue (ascending (x ∷ xs)) → IsTrue (ascending xs)
ascending_rest x [] up = refl
ascending_rest x (y ∷ xs) up = (and_parts (nat_lt x y) (ascending (y ∷ xs)) up).1

pub ascending_distinct : (xs : List ℕ) → IsTrue (ascending xs) → AllPairs (λ i j. i ≢ j) xs
ascending_distinct [] up = λ i j d less small. absurd (omega (arith, small))
ascending_distinct (x ∷ xs) up = λ i j d less small. at i j d less small (ascending_distinct xs (ascending_rest x xs up))
  where
    at : (i j d : ℕ) → i < j → j < length (x ∷ xs) → AllPairs (λ i j. i ≢ j) xs → get_or (x ∷ xs) i d ≢ get_or (x ∷ xs) j d
    at i zero d less small rest = absurd (omega (arith, less))
    at zero (suc j) d less small rest = λ e. omega (arith, e, ascending_above x xs j d up (omega (arith, small)))
    at (suc i) (suc j) d less small rest = rest i j d (omega (arith, less)) (omega (arith, small))

-- members that ascend and are below count
pub group_of_ascending : (count least : ℕ) (members : List ℕ) → IsTrue (ascending members) → All (λ i. i < count) members → least ≤ length members → IsGroup count least members
group_of_ascending count least members up below enough = record { distinct = ascending_distinct members up; below = below; enough = enough }

-- ---- faulty seats that stand in a list

tally_none_above : (x first count : ℕ) → x < first → tally (nat_eq x) (numbers_from first count) ≡ 0
tally_none_above x first zero less = refl
tally_none_above x first (suc count) less = elim (cases_Bool (nat_eq x first)) [
  | inl e ↦ absurd (omega (arith, less, eqb-true x first e))
  | inr e ↦
      let sum = ap (λ b. one_if b + tally (nat_eq x) (numbers_from (first + 1) count)) e in
      omega (arith, sum, tally_none_above x (first + 1) count (omega (arith, less)))
]

-- a number stands at most once among numbers that ascend by one
tally_once : (x first count : ℕ) → tally (nat_eq x) (numbers_from first count) ≤ 1
tally_once x first zero = omega arith
tally_once x first (suc count) = elim (cases_Bool (nat_eq x first)) [
  | inl e ↦
      let none = tally_none_above x (first + 1) count (omega (arith, eqb-true x first e)) in
      let sum = ap (λ b. one_if b + tally (nat_eq x) (numbers_from (first + 1) count)) e in
      omega (arith, none, sum)
  | inr e ↦
      let sum = ap (λ b. one_if b + tally (nat_eq x) (numbers_from (first + 1) count)) e in
      omega (arith, sum, tally_once x (first + 1) count)
]

tally_listed : (first count : ℕ) (test : ℕ → Bool) (xs : List ℕ) → ((i : ℕ) → test i ≡ true → Contains xs i) → tally test (numbers_from first count) ≤ length xs
tally_listed first count test [] listed = elim (cases_eq (tally test (numbers_from first count)) 0) [
  | inl e ↦ omega (arith, e)
  | inr n ↦ let some = tally_some test (numbers_from first count) (omega (arith, n)) in absurd (contains_none some.0 (listed some.0 some.1))
]
tally_listed first count test (x ∷ xs) listed =
    omega (
      arith,
      tally_split test (nat_eq x) (numbers_from first count),
      tally_once x first count,
      tally_listed first count (λ i. test i && not (nat_eq x i)) xs rest,
    )
  where
    rest : (i : ℕ) → (test i && not (nat_eq x i)) ≡ true → Contains xs i
    rest i e =
        let parts = and_parts (test i) (not (nat_eq x i)) e in
        elim (contains_cases x xs i (listed i parts.0)) [
          | inl same ↦ absurd (cc (sym (eq-eqb x i same) ∙ not-true (nat_eq x i) parts.1))
          | inr r ↦ r
        ]

-- where each faulty one stands in a list, there are no more of them than the list is long
pub faulty_listed : (count : ℕ) (faulty : ℕ → Bool) (xs : List ℕ) → ((i : ℕ) → faulty i ≡ true → Contains xs i) → faulty_below count faulty ≤ length xs
faulty_listed count faulty xs listed = omega (arith, count_by_tally faulty (numbers_from 0 count), tally_listed 0 count faulty xs listed)

total_split : (f g h : ℕ → ℕ) (ns : List ℕ) → ((n : ℕ) → f n ≤ g n + h n) → total f ns ≤ total g ns + total h ns
total_split f g h [] each = omega arith
total_split f g h (n ∷ ns) each = omega (arith, each n, total_split f g h ns each)

total_least : (f g : ℕ → ℕ) (ns : List ℕ) → ((n : ℕ) → f n ≤ g n) → total f ns ≤ total g ns
total_least f g [] each = omega arith
total_least f g (n ∷ ns) each = omega (arith, each n, total_least f g ns each)

tally_never : (ns : List ℕ) → tally (λ n. false) ns ≡ 0
tally_never [] = refl
tally_never (n ∷ ns) = omega (arith, tally_never ns)

-- whether a row and a column are those of a cell
abbrev is_cell : ℕ × ℕ → ℕ → ℕ → Bool
is_cell cell row column = nat_eq cell.0 row && nat_eq cell.1 column

-- a cell stands at most once in its row, and in no other
cell_in_row : (cell : ℕ × ℕ) (row count : ℕ) → tally (is_cell cell row) (numbers_from 0 count) ≤ one_if (nat_eq cell.0 row)
cell_in_row cell row count = by (nat_eq cell.0 row)
  where
    by : (b : Bool) → tally (λ column. b && nat_eq cell.1 column) (numbers_from 0 count) ≤ one_if b
    by true = tally_once cell.1 0 count
    by false = omega (arith, tally_never (numbers_from 0 count))

total_zeros : (ns : List ℕ) → total (λ row. 0) ns ≡ 0
total_zeros [] = refl
total_zeros (n ∷ ns) = omega (arith, total_zeros ns)

same_cell : (cell : ℕ × ℕ) (row column : ℕ) → ◌≡◌ {A = ℕ × ℕ} cell (row, column) → is_cell cell row column ≡ true
same_cell cell row column same = and_from (nat_eq cell.0 row) (nat_eq cell.1 column) (eq-eqb cell.0 row (ap (λ (x : ℕ × ℕ). x.0) same)) (eq-eqb cell.1 column (ap (λ (x : ℕ × ℕ). x.1) same))

-- how many columns of a row pass
abbrev in_row : ℕ → (ℕ → ℕ → Bool) → ℕ → ℕ
in_row count test row = tally (test row) (numbers_from 0 count)

grid_listed : (count : ℕ) (test : ℕ → ℕ → Bool) (cells : List (ℕ × ℕ)) → ((row column : ℕ) → test row column ≡ true → Contains cells (row, column)) → total (in_row count test) (numbers_from 0 count) ≤ length cells
grid_listed count test [] listed = omega (arith, total_least (in_row count test) (λ row. 0) (numbers_from 0 count) none, total_zeros (numbers_from 0 count))
  where
    none : (row : ℕ) → in_row count test row ≤ 0
    none row = tally_listed 0 count (test row) [] (λ column e. absurd (contains_none (row, column) (listed row column e)))
grid_listed count test (cell ∷ cells) listed =
    let others : ℕ → ℕ → Bool = λ row column. test row column && not (is_cell cell row column) in
    omega (
      arith,
      total_split (in_row count test) (in_row count (is_cell cell)) (in_row count others) (numbers_from 0 count) (λ row. tally_split (test row) (is_cell cell row) (numbers_from 0 count)),
      total_least (in_row count (is_cell cell)) (λ row. one_if (nat_eq cell.0 row)) (numbers_from 0 count) (λ row. cell_in_row cell row count),
      tally_once cell.0 0 count,
      grid_listed count others cells rest,
    )
  where
    rest : (row column : ℕ) → (test row column && not (is_cell cell row column)) ≡ true → Contains cells (row, column)
    rest row column e =
        let parts = and_parts (test row column) (not (is_cell cell row column)) e in
        elim (contains_cases cell cells (row, column) (listed row column parts.0)) [
          | inl same ↦ absurd (cc (sym (same_cell cell row column same) ∙ not-true (is_cell cell row column) parts.1))
          | inr r ↦ r
        ]

-- where each faulty filter stands in a list, there are no more of them than the list is long
pub faulty_filters_listed : (p : Params) (faulty : ℕ → ℕ → Bool) (cells : List (ℕ × ℕ)) → ((row column : ℕ) → faulty row column ≡ true → Contains cells (row, column)) → length cells ≤ p.h → FewFiltersFaulty p faulty
faulty_filters_listed p faulty cells listed short =
    let rows = numbers_from 0 (width p) in
    omega (
      arith,
      short,
      sum_by_total (faulty_in_row p faulty) rows,
      total_least (faulty_in_row p faulty) (in_row (width p) faulty) rows (λ row. omega (arith, count_by_tally (faulty row) rows)),
      grid_listed (width p) faulty cells listed,
    )

-- ---- correct seats

both_ways : (b : Bool) → one_if b + one_if (not b) ≡ 1
both_ways true = refl
both_ways false = refl

tally_not : (p : ℕ → Bool) (ns : List ℕ) → tally p ns + tally (λ n. not (p n)) ns ≡ length ns
tally_not p [] = refl
tally_not p (n ∷ ns) = omega (arith, both_ways (p n), tally_not p ns)

-- as many nodes as decide aren't faulty
pub correct_nodes_enough : (p : Params) (faulty : ℕ → Bool) → FewNodesFaulty p faulty → quorum p ≤ faulty_below (agreements p) (λ i. not (faulty i))
correct_nodes_enough p faulty few =
    let ns = numbers_from 0 (agreements p) in
    omega (arith, few, count_by_tally faulty ns, count_by_tally (λ i. not (faulty i)) ns, tally_not faulty ns, length_numbers 0 (agreements p))

total_at : (f : ℕ → ℕ) (ns : List ℕ) (n : ℕ) → Contains ns n → f n ≤ total f ns
total_at f [] n h = absurd (contains_none n h)
total_at f (m ∷ ns) n h = elim (contains_cases m ns n h) [
  | inl e ↦ omega (arith, ap f e)
  | inr r ↦ omega (arith, total_at f ns n r)
]

zero_once : (b : Bool) → one_if b ≡ 0 → b ≡ false
zero_once true e = absurd (omega (arith, e))
zero_once false e = refl

-- each row has a filter that isn't faulty
pub row_has_correct : (p : Params) (faulty : ℕ → ℕ → Bool) → FewFiltersFaulty p faulty → (row : ℕ) → row < width p → (column : ℕ) × (column < width p) × (faulty row column ≡ false)
row_has_correct p faulty few row small =
    let ns = numbers_from 0 (width p) in
    let one = total_at (faulty_in_row p faulty) ns row (contains_numbers row 0 (width p) (omega arith) (omega (arith, small))) in
    let found = total_zero (λ column. one_if (faulty row column)) ns
    (omega (arith, few, sum_by_total (faulty_in_row p faulty) ns, one, count_by_tally (faulty row) ns, length_numbers 0 (width p))) in
    let within = numbers_within found.0 0 (width p) found.1 in
    (found.0, omega (arith, within.1), zero_once (faulty row found.0) found.2)
