-- The names of seats whose numbers are small: each is one seat's, and no seat is named `public`.
use Rattle.std.proofs.Common.{◌≡◌, ◌≢◌, ℕ, ◌<◌, ◌≤◌, Bool, true, false, not, nat_eq, nat_le, List, [], ◌∷◌, ◌++◌, length, get_or, refl, sym, ap, ap₂, ◌∙◌, arith, decimal, codes, append_assoc}
use Rattle.std.proofs.lemmas.Bool.{and_parts, leb-true, true≢false, not-true}
use Rattle.std.proofs.lemmas.Fmt.{decimal_injective}
use Rattle.std.proofs.lemmas.List.Splits.{slice_split_none, slice_split_at}
use Rattle.std.proofs.lemmas.List.Sums.{AllPass-from_list_all}
use Rattle.std.specs.Char.{is_ascii_digit}
use Rattle.std.specs.List.{All, list_all, slice_split}
use Rattle.fw_base.specs.declared.seat.Seat.{Seat}
use Rattle.fw_base.specs.declared.seat.Seat.TheVariants.{Agree, Exec, Filter, Client}
use Rattle.fw_base.specs.Names.{seat_name}
use Rattle.fw_op.proofs.Sentences.{without, digits_of_decimal}
use Rattle.fw_command.specs.Commands.{seat_fits}

-- a list without a point
abbrev pub is_pointless : List ℕ → Bool
is_pointless word = list_all (λ b. not (nat_eq b 46)) word

pub pointless_decimal : (n : ℕ) → n ≤ 99 → is_pointless (decimal n) ≡ true
pointless_decimal n small = without 46 is_ascii_digit refl (decimal n) (digits_of_decimal n (omega arith))

pub no_point : (word : List ℕ) → is_pointless word ≡ true → (i : ℕ) → i < length word → get_or word i 0 ≢ 46
no_point word all i inside e = true≢false (sym (AllPass-from_list_all (λ b. not (nat_eq b 46)) word all i 0 inside) ∙ ap (λ b. not (nat_eq b 46)) e)

abbrev pub is_point : ℕ → Bool
is_point b = nat_eq b 46

passes : (word : List ℕ) → is_pointless word ≡ true → All (λ b. is_point b ≡ false) word
passes word h = λ k d inside. not-true (is_point (get_or word k d)) (AllPass-from_list_all (λ b. not (is_point b)) word h k d inside)

split_place : (r c : ℕ) → r ≤ 99 → c ≤ 99 → slice_split is_point (decimal r ++ 46 ∷ decimal c) ≡ decimal r ∷ decimal c ∷ []
split_place r c small little =
    slice_split_at is_point (decimal r) 46 (decimal c) (passes (decimal r) (pointless_decimal r small)) refl
    ∙ ap (λ rest. decimal r ∷ rest) (slice_split_none is_point (decimal c) (passes (decimal c) (pointless_decimal c little)))

same_number : (m n : ℕ) → m ≤ 99 → n ≤ 99 → decimal m ≡ decimal n → m ≡ n
same_number m n small little e = decimal_injective m n (omega arith) (omega arith) e

below : (n : ℕ) → nat_le n 99 ≡ true → n ≤ 99
below n h = leb-true n 99 h

-- the name of a filter behind its letter
pub dotted : (r c : ℕ) → seat_name (Filter r c) ≡ 120 ∷ (decimal r ++ 46 ∷ decimal c)
dotted r c = append_assoc (120 ∷ decimal r) (46 ∷ []) (decimal c)

first : (xs ys : List ℕ) → xs ≡ ys → get_or xs 0 0 ≡ get_or ys 0 0
first xs ys e = ap (λ w. get_or w 0 0) e

-- a name is one seat's
pub same_seat : (s t : Seat) → seat_fits s ≡ true → seat_fits t ≡ true → seat_name s ≡ seat_name t → s ≡ t
same_seat (Agree i) (Agree j) fs ft e = ap Agree (same_number i j (below i fs) (below j ft) (let digits : decimal i ≡ decimal j = cc in digits))
same_seat (Exec i) (Exec j) fs ft e = ap Exec (same_number i j (below i fs) (below j ft) (let digits : decimal i ≡ decimal j = cc in digits))
same_seat (Client i) (Client j) fs ft e = ap Client (same_number i j (below i fs) (below j ft) (let digits : decimal i ≡ decimal j = cc in digits))
same_seat (Filter r c) (Filter s d) fs ft e =
    let one = and_parts (nat_le r 99) (nat_le c 99) fs in
    let two = and_parts (nat_le s 99) (nat_le d 99) ft in
    let whole : 120 ∷ (decimal r ++ 46 ∷ decimal c) ≡ 120 ∷ (decimal s ++ 46 ∷ decimal d) = sym (dotted r c) ∙ e ∙ dotted s d in
    let places : decimal r ++ 46 ∷ decimal c ≡ decimal s ++ 46 ∷ decimal d = cc in
    let parts : decimal r ∷ decimal c ∷ [] ≡ decimal s ∷ decimal d ∷ [] =
    sym (split_place r c (below r one.0) (below c one.1)) ∙ ap (slice_split is_point) places ∙ split_place s d (below s two.0) (below d two.1) in
    let rows : decimal r ≡ decimal s = cc in
    let columns : decimal c ≡ decimal d = cc in
    ap₂ Filter (same_number r s (below r one.0) (below s two.0) rows) (same_number c d (below c one.1) (below d two.1) columns)
same_seat (Agree i) (Exec j) fs ft e = absurd (let letters : 97 ≡ 101 = first _ _ e in omega arith)
same_seat (Agree i) (Filter s d) fs ft e = absurd (let letters : 97 ≡ 120 = first _ _ e in omega arith)
same_seat (Agree i) (Client j) fs ft e = absurd (let letters : 97 ≡ 99 = first _ _ e in omega arith)
same_seat (Exec i) (Agree j) fs ft e = absurd (let letters : 101 ≡ 97 = first _ _ e in omega arith)
same_seat (Exec i) (Filter s d) fs ft e = absurd (let letters : 101 ≡ 120 = first _ _ e in omega arith)
same_seat (Exec i) (Client j) fs ft e = absurd (let letters : 101 ≡ 99 = first _ _ e in omega arith)
same_seat (Filter r c) (Agree j) fs ft e = absurd (let letters : 120 ≡ 97 = first _ _ e in omega arith)
same_seat (Filter r c) (Exec j) fs ft e = absurd (let letters : 120 ≡ 101 = first _ _ e in omega arith)
same_seat (Filter r c) (Client j) fs ft e = absurd (let letters : 120 ≡ 99 = first _ _ e in omega arith)
same_seat (Client i) (Agree j) fs ft e = absurd (let letters : 99 ≡ 97 = first _ _ e in omega arith)
same_seat (Client i) (Exec j) fs ft e = absurd (let letters : 99 ≡ 101 = first _ _ e in omega arith)
same_seat (Client i) (Filter s d) fs ft e = absurd (let letters : 99 ≡ 120 = first _ _ e in omega arith)

-- no seat is named so
pub not_public : (s : Seat) → codes "public" ≢ seat_name s
not_public (Agree i) e = absurd (let letters : 112 ≡ 97 = first _ _ e in omega arith)
not_public (Exec j) e = absurd (let letters : 112 ≡ 101 = first _ _ e in omega arith)
not_public (Filter r c) e = absurd (let letters : 112 ≡ 120 = first _ _ e in omega arith)
not_public (Client c) e = absurd (let letters : 112 ≡ 99 = first _ _ e in omega arith)

-- a word that is no seat's of any kind is no seat's
pub no_seat : (word : List ℕ) → ((i : ℕ) → i ≤ 99 → word ≢ codes "a" ++ decimal i) → ((j : ℕ) → j ≤ 99 → word ≢ codes "e" ++ decimal j)
    → ((r c : ℕ) → r ≤ 99 → c ≤ 99 → word ≢ 120 ∷ (decimal r ++ 46 ∷ decimal c)) → ((c : ℕ) → c ≤ 99 → word ≢ codes "c" ++ decimal c)
    → (seat : Seat) → seat_fits seat ≡ true → word ≢ seat_name seat
no_seat word a ex x c (Agree i) fits = a i (below i fits)
no_seat word a ex x c (Exec j) fits = ex j (below j fits)
no_seat word a ex x c (Filter r s) fits = let both = and_parts (nat_le r 99) (nat_le s 99) fits in λ e. x r s (below r both.0) (below s both.1) (e ∙ dotted r s)
no_seat word a ex x c (Client k) fits = c k (below k fits)
