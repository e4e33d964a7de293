-- Names of seats whose numbers have one digit.
use Rattle.std.proofs.Common.{rules, drop, Option, Some, None, IfSome, MatchOption, ℕ, ◌+◌, ◌<◌, ◌≤◌, ◌≡◌, ◌≢◌, ◌∙◌, sym, ap, refl, false, arith, IsTrue, nat_lt, nat_eq, get_or, List, [], ◌∷◌, ◌++◌, decimal, codes}
use Rattle.std.proofs.lemmas.Bool.{eqb-false, ltb-true, and_parts}
use Rattle.std.proofs.lemmas.Fmt.{decimal_digit}
use Rattle.fw_base.specs.declared.params.Params.{Params}
use Rattle.fw_base.specs.declared.seat.Seat.{Seat}
use Rattle.fw_base.specs.declared.seat.Seat.TheVariants.{Agree, Exec, Filter, Client}
use Rattle.fw_base.specs.Names.{seat_name, short_name}
use Rattle.fw_base.specs.Seats.{fits}
use Rattle.fw_base.specs.Sizes.{accepted, agreements, executors, width}

-- two lists that begin differently
differ : (m n : ℕ) (xs ys : List ℕ) → nat_eq m n ≡ false → m ∷ xs ≢ n ∷ ys
differ m n xs ys other = λ e. eqb-false m n other (ap (λ zs. get_or zs 0 0) e)

pub no_agreement_node : (p : Params) (digit : ℕ) (seat : Seat) → ((n : ℕ) → n < agreements p → digit ≢ 48 + n) → IsTrue (fits p seat) → 97 ∷ digit ∷ [] ≢ short_name seat
no_agreement_node p digit (Agree i) none within = λ e. none i (ltb-true i (agreements p) within) cc
no_agreement_node p digit (Exec j) none within = differ 97 101 _ _ refl
no_agreement_node p digit (Filter r c) none within = differ 97 120 _ _ refl
no_agreement_node p digit (Client c) none within = differ 97 99 _ _ refl

pub no_client : (p : Params) (digit : ℕ) (seat : Seat) → ((n : ℕ) → n < p.clients → digit ≢ 48 + n) → IsTrue (fits p seat) → 99 ∷ digit ∷ [] ≢ short_name seat
no_client p digit (Agree i) none within = differ 99 97 _ _ refl
no_client p digit (Exec j) none within = differ 99 101 _ _ refl
no_client p digit (Filter r c) none within = differ 99 120 _ _ refl
no_client p digit (Client c) none within = λ e. none c (ltb-true c p.clients within) cc

-- each number of a seat has one digit
pub agreements_few : (p : Params) → IsTrue (accepted p) → agreements p ≤ 10
agreements_few p sizes = search rules

pub executors_few : (p : Params) → IsTrue (accepted p) → executors p ≤ 10
executors_few p sizes = search rules

pub width_small : (p : Params) → IsTrue (accepted p) → width p ≤ 10
width_small p sizes = search rules

pub clients_few : (p : Params) → IsTrue (accepted p) → p.clients ≤ 10
clients_few p sizes = search rules

-- the names of the deployment's seats are short
pub same_name : (p : Params) (seat : Seat) → IsTrue (accepted p) → IsTrue (fits p seat) → seat_name seat ≡ short_name seat
same_name p (Agree i) sizes within =
    ap (λ xs. 97 ∷ xs) (decimal_digit i (omega (arith, ltb-true i (agreements p) within, agreements_few p sizes)))
same_name p (Exec j) sizes within =
    ap (λ xs. 101 ∷ xs) (decimal_digit j (omega (arith, ltb-true j (executors p) within, executors_few p sizes)))
same_name p (Filter r c) sizes within =
    let both = and_parts (nat_lt r (width p)) (nat_lt c (width p)) within in
    let row : decimal r ≡ (48 + r) ∷ [] = decimal_digit r (omega (arith, ltb-true r (width p) both.0, width_small p sizes)) in
    let column : decimal c ≡ (48 + c) ∷ [] = decimal_digit c (omega (arith, ltb-true c (width p) both.1, width_small p sizes)) in
    ap (λ xs. codes "x" ++ xs ++ codes "." ++ decimal c) row ∙ ap (λ xs. codes "x" ++ (48 + r) ∷ codes "." ++ xs) column
same_name p (Client c) sizes within =
    ap (λ xs. 99 ∷ xs) (decimal_digit c (omega (arith, ltb-true c p.clients within, clients_few p sizes)))

-- two digits that begin lists
digit_same : (m n : ℕ) (xs ys : List ℕ) → (48 + m) ∷ xs ≡ (48 + n) ∷ ys → m ≡ n
digit_same m n xs ys e = let same : 48 + m ≡ 48 + n = ap (λ zs. get_or zs 0 0) e in omega arith

-- a short name is one seat's
pub one_seat : (s t : Seat) → short_name s ≡ short_name t → s ≡ t
one_seat (Agree i) (Agree j) e = ap Agree (digit_same i j [] [] (ap (drop 1) e))
one_seat (Agree i) (Exec j) e = absurd (differ 97 101 _ _ refl e)
one_seat (Agree i) (Filter r c) e = absurd (differ 97 120 _ _ refl e)
one_seat (Agree i) (Client j) e = absurd (differ 97 99 _ _ refl e)
one_seat (Exec i) (Agree j) e = absurd (differ 101 97 _ _ refl e)
one_seat (Exec i) (Exec j) e = ap Exec (digit_same i j [] [] (ap (drop 1) e))
one_seat (Exec i) (Filter r c) e = absurd (differ 101 120 _ _ refl e)
one_seat (Exec i) (Client j) e = absurd (differ 101 99 _ _ refl e)
one_seat (Filter r c) (Agree j) e = absurd (differ 120 97 _ _ refl e)
one_seat (Filter r c) (Exec j) e = absurd (differ 120 101 _ _ refl e)
one_seat (Filter r c) (Filter s d) e =
    ap (λ x. Filter x c) (digit_same r s (46 ∷ (48 + c) ∷ []) (46 ∷ (48 + d) ∷ []) (ap (drop 1) e))
    ∙ ap (Filter s) (digit_same c d [] [] (ap (drop 3) e))
one_seat (Filter r c) (Client j) e = absurd (differ 120 99 _ _ refl e)
one_seat (Client i) (Agree j) e = absurd (differ 99 97 _ _ refl e)
one_seat (Client i) (Exec j) e = absurd (differ 99 101 _ _ refl e)
one_seat (Client i) (Filter r c) e = absurd (differ 99 120 _ _ refl e)
one_seat (Client i) (Client j) e = ap Client (digit_same i j [] [] (ap (drop 1) e))

-- what is read by the short name is read by the name
pub found_by_name : (p : Params) (text : List ℕ) (r : Option Seat) → IsTrue (accepted p) → MatchOption r ((seat : Seat) → IsTrue (fits p seat) → text ≢ short_name seat) (λ seat. IsTrue (fits p seat) × (text ≡ short_name seat)) → IfSome r (λ seat. IsTrue (fits p seat) × (text ≡ seat_name seat))
found_by_name p text None sizes found = tt
found_by_name p text (Some seat) sizes found = (found.0, found.1 ∙ sym (same_name p seat sizes found.0))

pub each_by_name : (p : Params) (text : List ℕ) (r : Option Seat) → IsTrue (accepted p) → MatchOption r ((seat : Seat) → IsTrue (fits p seat) → text ≢ short_name seat) (λ seat. IsTrue (fits p seat) × (text ≡ short_name seat)) → (seat : Seat) → IsTrue (fits p seat) → text ≡ seat_name seat → r ≡ Some seat
each_by_name p text None sizes none seat within e = absurd (none seat within (e ∙ same_name p seat sizes within))
each_by_name p text (Some found) sizes is seat within e = ap Some (one_seat found seat (sym is.1 ∙ e ∙ same_name p seat sizes within))
