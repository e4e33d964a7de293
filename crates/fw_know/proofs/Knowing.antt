-- What follows from the marks, and what is known.
use Rattle.std.proofs.Common.{◌≡◌, ℕ, zero, suc, ◌+◌, ◌-◌, ◌<◌, ◌≤◌, List, [], ◌∷◌, ◌++◌, Bool, true, false, ◌&&◌, ◌||◌, not, nat_eq, nat_le, length, filter, drop, get_or, IsTrue, Option, Some, None, refl, sym, ap, ap₂, ◌∙◌, inl, inr, arith}
use Rattle.std.specs.List.{find, list_any, All}
use Rattle.std.specs.Option.{option_map}
use Rattle.std.proofs.lemmas.Bool.{cases_Bool}
use Rattle.std.proofs.lemmas.List.{drop_more, drop_all}
use Rattle.std.proofs.lemmas.List.Elements.{All-head, All-tail}
use Rattle.std.proofs.lemmas.List.Folds.{list_any-append}
use Rattle.fw_list.specs.Lists.{numbers_from}
use Rattle.fw_base.specs.declared.params.Params.{Params}
use Rattle.fw_base.specs.declared.seat.Seat.{Seat}
use Rattle.fw_base.specs.declared.slot.Slot.{Slot}
use Rattle.fw_base.specs.declared.slot.Slot.TheVariants as slots
use Rattle.fw_base.specs.declared.slot.Place.{Place}
use Rattle.fw_base.specs.Places.{last_point, place_fits}
use Rattle.fw_base.specs.Sizes.{executors}
use Rattle.fw_base.proofs.Placing.{fitting}
use Rattle.fw_frame.specs.declared.shown.Shown.{Shown}
use Rattle.fw_know.specs.Known.{Knowledge, place_eq, dealt_to, is_shown_in, known_once, is_reply, at_point, points, known_by, is_known, first_unknown, is_marked, marked, IsKnowledgeOf}
use Rattle.fw_know.specs.Marks.{Marks}
use Rattle.fw_know.proofs.Marking.{made_fits}

-- ---- points

last_reply : (p : Params) (s : Slot) → is_reply s ≡ true → last_point p s ≡ executors p
last_reply p (slots.Reply n) is = refl
last_reply p (slots.Prepare v n i) is = absurd (let no : ⊥ = cc in no)
last_reply p (slots.Commit v n i) is = absurd (let no : ⊥ = cc in no)
last_reply p (slots.Change v i) is = absurd (let no : ⊥ = cc in no)
last_reply p (slots.NewView v i) is = absurd (let no : ⊥ = cc in no)
last_reply p (slots.Request c s) is = absurd (let no : ⊥ = cc in no)

-- each point of a reply's place is one of the deployment
pub point_fits : (p : Params) (place : Place) (k : ℕ) → IsTrue (place_fits p place) → is_reply place.slot ≡ true → k < executors p + 1 → IsTrue (place_fits p (at_point place k))
point_fits p place k fits reply below =
    let f = fitting p place fits in
    let last : last_point p place.slot ≡ executors p = last_reply p place.slot reply in
    made_fits p place.slot place.bit place.side k f.slot f.bit f.side (omega (arith, last, below))

pub one_more : (t : ℕ → Bool) (k end count whole : ℕ) → k < end → t k ≡ true → count + length (filter t (numbers_from k (end - k))) ≡ whole
    → count + 1 + length (filter t (numbers_from (k + 1) (end - (k + 1)))) ≡ whole
one_more t k end count whole below is before =
    let left : end - k ≡ suc (end - (k + 1)) = omega arith in
    let rest = length (filter t (numbers_from (k + 1) (end - (k + 1)))) in
    let next : length (filter t (numbers_from k (end - k))) ≡ suc rest = rw left (rw is refl) in
    omega arith

pub none_more : (t : ℕ → Bool) (k end count whole : ℕ) → k < end → t k ≡ false → count + length (filter t (numbers_from k (end - k))) ≡ whole
    → count + length (filter t (numbers_from (k + 1) (end - (k + 1)))) ≡ whole
none_more t k end count whole below is before =
    let left : end - k ≡ suc (end - (k + 1)) = omega arith in
    let next : length (filter t (numbers_from k (end - k))) ≡ length (filter t (numbers_from (k + 1) (end - (k + 1)))) = rw left (rw is refl) in
    ap (λ n. count + n) (sym next) ∙ before

-- tests that agree pass as many
same_count : (s t : ℕ → Bool) (first count : ℕ) → ((k : ℕ) → k < first + count → s k ≡ t k) → length (filter s (numbers_from first count)) ≡ length (filter t (numbers_from first count))
same_count s t first zero same = refl
same_count s t first (suc count) same =
    let here : s first ≡ t first = same first (omega arith) in
    let rest : length (filter s (numbers_from (first + 1) count)) ≡ length (filter t (numbers_from (first + 1) count)) = same_count s t (first + 1) count (λ k below. same k (omega arith)) in
    elim (cases_Bool (t first)) [
      | inl is ↦ rw (here, is) (ap suc rest)
      | inr other ↦ rw (here, other) rest
    ]

-- ---- what is known

-- what is told of the places of the deployment decides what is known of them
pub same_known : (p : Params) (f g : Place → Bool) (place : Place) → ((other : Place) → IsTrue (place_fits p other) → f other ≡ g other) → IsTrue (place_fits p place) → known_by p f place ≡ known_by p g place
same_known p f g place same fits = elim (cases_Bool (is_reply place.slot)) [
  | inl reply ↦
      let counts : points p f place ≡ points p g place = same_count (λ k. f (at_point place k)) (λ k. g (at_point place k)) 0 (executors p + 1) (λ k below. same (at_point place k) (point_fits p place k fits reply (omega arith))) in
      ap₂ (λ a n. a || (is_reply place.slot && nat_le (p.g + 1) n)) (same place fits) counts
  | inr other ↦ ap₂ (λ a b. a || (b && nat_le (p.g + 1) (points p f place))) (same place fits) other ∙ sym (ap (λ b. g place || (b && nat_le (p.g + 1) (points p g place))) other)
]

pub known_of : (k : Knowledge) (faulty : List Seat) (pairs : List Shown) (place : Place) → IsKnowledgeOf k faulty pairs → IsTrue (place_fits k.params place) → known_by k.params (is_marked k) place ≡ is_known k.params faulty pairs place
known_of k faulty pairs place is fits = same_known k.params (is_marked k) (known_once faulty pairs) place is fits

-- the first that isn't
pub same_first : (p : Params) (f g : Place → Bool) (shown : List Shown) → ((other : Place) → IsTrue (place_fits p other) → f other ≡ g other) → All (λ (pair : Shown). IsTrue (place_fits p pair.place)) shown
    → find (λ (pair : Shown). not (known_by p f pair.place)) shown ≡ find (λ (pair : Shown). not (known_by p g pair.place)) shown
same_first p f g [] same fits = refl
same_first p f g (x ∷ shown) same fits =
    let here : known_by p f x.place ≡ known_by p g x.place = same_known p f g x.place same (All-head (λ (pair : Shown). IsTrue (place_fits p pair.place)) x shown fits) in
    let rest = same_first p f g shown same (All-tail (λ (pair : Shown). IsTrue (place_fits p pair.place)) x shown fits) in
    elim (cases_Bool (known_by p g x.place)) [
      | inl is ↦ rw (here, is) rest
      | inr other ↦ rw (here, other) refl
    ]

pub first_of : (k : Knowledge) (faulty : List Seat) (pairs shown : List Shown) → IsKnowledgeOf k faulty pairs → All (λ (pair : Shown). IsTrue (place_fits k.params pair.place)) shown
    → option_map (λ (pair : Shown). pair.place) (find (λ (pair : Shown). not (known_by k.params (is_marked k) pair.place)) shown) ≡ first_unknown k.params faulty pairs shown
first_of k faulty pairs shown is fits = ap (option_map (λ (pair : Shown). pair.place)) (same_first k.params (is_marked k) (known_once faulty pairs) shown is fits)

-- ---- a list that is looked through

pub found_at : {X : Type 0} (t : X → Bool) (xs : List X) (k : ℕ) (d : X) → k < length xs → t (get_or xs k d) ≡ true → find t (drop k xs) ≡ find t xs → find t xs ≡ Some (get_or xs k d)
found_at t xs k d inside is before = sym before ∙ ap (find t) (drop_more xs k d inside) ∙ (rw is refl)

pub not_at : {X : Type 0} (t : X → Bool) (xs : List X) (k : ℕ) (d : X) → k < length xs → t (get_or xs k d) ≡ false → find t (drop k xs) ≡ find t xs → find t (drop (k + 1) xs) ≡ find t xs
not_at t xs k d inside is before =
    let next : find t (drop k xs) ≡ find t (drop (k + 1) xs) = ap (find t) (drop_more xs k d inside) ∙ (rw is refl) in
    sym next ∙ before

pub nowhere : {X : Type 0} (t : X → Bool) (xs : List X) (k : ℕ) → length xs ≤ k → find t (drop k xs) ≡ find t xs → find t xs ≡ None
nowhere t xs k end before = sym before ∙ ap (find t) (drop_all k xs end)

-- ---- what is added

or_assoc : (a b c : Bool) → ((a || b) || c) ≡ (a || (b || c))
or_assoc true b c = refl
or_assoc false b c = refl

pub shown_more : (faulty : List Seat) (pairs shown : List Shown) (place : Place) → (known_once faulty pairs place || is_shown_in shown place) ≡ known_once faulty (pairs ++ shown) place
shown_more faulty pairs shown place =
    or_assoc (list_any (dealt_to place) faulty) (is_shown_in pairs place) (is_shown_in shown place)
    ∙ ap (λ b. list_any (dealt_to place) faulty || b) (sym (list_any-append (λ (pair : Shown). place_eq pair.place place) pairs shown))

pub knows_more : (p : Params) (faulty : List Seat) (pairs shown : List Shown) (before after : List Bool) → IsKnowledgeOf (record { params = p; marks = before }) faulty pairs → Marks p (is_shown_in shown) before after
    → IsKnowledgeOf (record { params = p; marks = after }) faulty (pairs ++ shown)
knows_more p faulty pairs shown before after is more = λ place fits. more place fits ∙ ap (λ b. b || is_shown_in shown place) (is place fits) ∙ shown_more faulty pairs shown place

or_nothing : (b : Bool) → b ≡ (b || false)
or_nothing true = refl
or_nothing false = refl

pub knows_dealt : (p : Params) (faulty : List Seat) (before after : List Bool) → ((k : ℕ) → get_or before k false ≡ false) → Marks p (λ place. list_any (dealt_to place) faulty) before after
    → IsKnowledgeOf (record { params = p; marks = after }) faulty []
knows_dealt p faulty before after none more = λ place fits. more place fits ∙ ap (λ b. b || list_any (dealt_to place) faulty) (none _) ∙ or_nothing (list_any (dealt_to place) faulty)
