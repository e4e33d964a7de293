-- A book of texts, and what its digests lead to.
use Rattle.std.proofs.Common.{◌≡◌, ◌≢◌, ℕ, List, [], ◌∷◌, ◌++◌, Bool, true, false, ◌&&◌, ◌||◌, not, map, Option, Some, None, bytes_eq, refl, sym, ap, ap₂, ◌∙◌, subst, inl, inr, append_assoc, append-nil, ◌⊎◌, cond, is_eq, nat_cmp}
use Rattle.std.specs.Prelude.{if◌then◌else◌}
use Rattle.std.specs.List.{find, list_any}
use Rattle.std.specs.Option.{option_map}
use Rattle.std.specs.Map.{lookup}
use Rattle.std.specs.BTreeMap.{is_at}
use Rattle.std.specs.Cmp.Lexicographic.{slice_cmp}
use Rattle.std.proofs.lemmas.Bool.{cases_Bool, and_parts, and_from, or_cases, or_left, or_right, not_from_false, not-true, false_from_ne_true}
use Rattle.std.proofs.lemmas.List.Folds.{list_any-append}
use Rattle.std.proofs.lemmas.Map.Text.{is_eq-slice_cmp}
use Rattle.std.proofs.lemmas.Slice.Eq.{bytes_eq-Decides}
use Rattle.fw_frame.specs.declared.shown.Text.{Text}
use Rattle.fw_know.specs.Books.{given, clashes, clash_in, clash_or, first_clash, clash, same_text, is_among, entry_text, text_under, is_text, IsBookOf}

abbrev pub Entries : Type 0
Entries = List (List ℕ × List ℕ)

-- what is looked up is what the book has
pub looked_up : (entries : Entries) (digest : List ℕ) → lookup (is_at (slice_cmp nat_cmp digest)) entries ≡ text_under (map entry_text entries) digest
looked_up [] digest = refl
looked_up (e ∷ entries) digest =
    let same : is_at (slice_cmp nat_cmp digest) e.0 ≡ bytes_eq digest e.0 = is_eq-slice_cmp digest e.0 in
    elim (cases_Bool (bytes_eq digest e.0)) [
      | inl is ↦ rw (same, is) refl
      | inr other ↦ rw (same, other) (looked_up entries digest)
    ]

pub held : (entries : Entries) (book : List Text) (digest : List ℕ) (found : Option (List ℕ)) → map entry_text entries ≡ book → lookup (is_at (slice_cmp nat_cmp digest)) entries ≡ found → text_under book digest ≡ found
held entries book digest found same is = ap (λ b. text_under b digest) (sym same) ∙ sym (looked_up entries digest) ∙ is

-- after a text was put under its digest
pub put_in : (old new : Entries) (book : List Text) (digest text : List ℕ) → map entry_text old ≡ book
    → ((d : List ℕ) → lookup (is_at (slice_cmp nat_cmp d)) new ≡ (if bytes_eq digest d then Some text else lookup (is_at (slice_cmp nat_cmp d)) old))
    → (d : List ℕ) → text_under (map entry_text new) d ≡ (if bytes_eq digest d then Some text else text_under book d)
put_in old new book digest text same put d =
    sym (looked_up new d) ∙ put d ∙ ap (λ o. if bytes_eq digest d then Some text else o) (looked_up old d ∙ ap (λ b. text_under b d) same)

pub put_one : (digest d value text : List ℕ) (before : Option (List ℕ)) → value ≡ text → cond (is_at (slice_cmp nat_cmp digest) d) (Some value) before ≡ (if bytes_eq digest d then Some text else before)
put_one digest d value text before same = ap₂ (λ (b : Bool) (v : List ℕ). cond b (Some v) before) (is_eq-slice_cmp digest d) same

pub same_bytes : (xs ys : List ℕ) → bytes_eq xs ys ≡ true → xs ≡ ys
same_bytes xs ys e = (bytes_eq-Decides xs ys).0 e

pub bytes_itself : (xs : List ℕ) → bytes_eq xs xs ≡ true
bytes_itself xs = (bytes_eq-Decides xs xs).1 refl

text_itself : (t : Text) → same_text t t ≡ true
text_itself t = and_from (bytes_eq t.digest t.digest) (bytes_eq t.text t.text) (bytes_itself t.digest) (bytes_itself t.text)

-- nothing was added
pub none_added : (book : List Text) → book ≡ [] → IsBookOf book []
none_added book none = λ t. rw none refl

-- ---- what clashes

-- each of the texts that is found is this one
found_one : (p : Text → Bool) (texts : List Text) (y : Text) → list_any p texts ≡ true → ((x : Text) → is_among x texts ≡ true → p x ≡ true → x ≡ y) → find p texts ≡ Some y
found_one p [] y some one = absurd (let no : ⊥ = cc in no)
found_one p (x ∷ texts) y some one = elim (cases_Bool (p x)) [
  | inl is ↦ rw is (ap (λ (t : Text). Some t) (one x (or_left (same_text x x) (is_among x texts) (text_itself x)) is))
  | inr other ↦
      let left : list_any p texts ≡ true = rw other at some in
      rw other (found_one p texts y left (λ z among is. one z (or_right (same_text z x) (is_among z texts) among) is))
]

found_none : (p : Text → Bool) (texts : List Text) → ((x : Text) → is_among x texts ≡ true → p x ≡ false) → find p texts ≡ None
found_none p [] none = refl
found_none p (x ∷ texts) none =
    let here : p x ≡ false = none x (or_left (same_text x x) (is_among x texts) (text_itself x)) in
    rw here (found_none p texts (λ z among. none z (or_right (same_text z x) (is_among z texts) among)))

-- a text that stands there passes
passes : (p : Text → Bool) (texts : List Text) (y : Text) → is_among y texts ≡ true → p y ≡ true → list_any p texts ≡ true
passes p [] y among is = absurd (let no : ⊥ = cc in no)
passes p (x ∷ texts) y among is = elim (cases_Bool (same_text y x)) [
  | inl same ↦
      let both = and_parts (bytes_eq y.digest x.digest) (bytes_eq y.text x.text) same in
      let one : y ≡ x = ap₂ given (same_bytes y.digest x.digest both.0) (same_bytes y.text x.text both.1) in
      or_left (p x) (list_any p texts) (ap p (sym one) ∙ is)
  | inr other ↦
      let left : is_among y texts ≡ true = rw other at among in
      or_right (p x) (list_any p texts) (passes p texts y left is)
]

-- a text that was added is what the book has under its digest
told : (book texts : List Text) (x : Text) (found : Option (List ℕ)) → IsBookOf book texts → text_under book x.digest ≡ found → is_among x texts ≡ true → is_text found x.text ≡ true
told book texts x found is under among = ap (λ o. is_text o x.text) (sym under) ∙ sym (is x) ∙ among

-- nothing clashes with a text under whose digest there is nothing
pub no_clash : (book texts : List Text) (digest text : List ℕ) → IsBookOf book texts → text_under book digest ≡ None → clash_in texts (given digest text) ≡ None
no_clash book texts digest text is none = found_none (λ old. clashes (given digest text) old) texts (λ x among. elim (cases_Bool (bytes_eq digest x.digest)) [
  | inl same ↦
      let one : digest ≡ x.digest = same_bytes digest x.digest same in
      absurd (let no : false ≡ true = told book texts x None is (ap (text_under book) (sym one) ∙ none) among in let never : ⊥ = cc in never)
  | inr other ↦ rw other refl
])

-- nor with the text that is there
pub no_other : (book texts : List Text) (digest text : List ℕ) → IsBookOf book texts → text_under book digest ≡ Some text → clash_in texts (given digest text) ≡ None
no_other book texts digest text is some = found_none (λ old. clashes (given digest text) old) texts (λ x among. elim (cases_Bool (bytes_eq digest x.digest)) [
  | inl same ↦
      let one : digest ≡ x.digest = same_bytes digest x.digest same in
      let here : bytes_eq text x.text ≡ true = told book texts x (Some text) is (ap (text_under book) (sym one) ∙ some) among in
      rw (same, here) refl
  | inr other ↦ rw other refl
])

-- another text under its digest is the one that clashes
pub one_clash : (book texts : List Text) (digest text old : List ℕ) → IsBookOf book texts → text_under book digest ≡ Some old → bytes_eq old text ≡ false → clash_in texts (given digest text) ≡ Some (given digest old)
one_clash book texts digest text old is some other =
    let p : Text → Bool = λ t. clashes (given digest text) t in
    let there : is_among (given digest old) texts ≡ true = is (given digest old) ∙ ap (λ o. is_text o old) some ∙ bytes_itself old in
    let apart : bytes_eq text old ≡ false = false_from_ne_true (bytes_eq text old) (λ e. (let no : false ≡ true = sym other ∙ ap (λ z. bytes_eq z text) (sym (same_bytes text old e)) ∙ bytes_itself text in cc)) in
    let clashing : p (given digest old) ≡ true = and_from (bytes_eq digest digest) (not (bytes_eq text old)) (bytes_itself digest) (not_from_false (bytes_eq text old) apart) in
    found_one p texts (given digest old) (passes p texts (given digest old) there clashing) (λ x among clashes_too.
    let both = and_parts (bytes_eq digest x.digest) (not (bytes_eq text x.text)) clashes_too in
    let one : digest ≡ x.digest = same_bytes digest x.digest both.0 in
    let here : bytes_eq old x.text ≡ true = told book texts x (Some old) is (ap (text_under book) (sym one) ∙ some) among in
    sym (ap₂ given one (same_bytes old x.text here)))

-- ---- texts of a book, in order

among_more : (t : Text) (texts : List Text) (new : Text) → is_among t (texts ++ new ∷ []) ≡ (is_among t texts || (same_text t new || false))
among_more t texts new = list_any-append (same_text t) texts (new ∷ [])

or_none : (b : Bool) → (b || false) ≡ b
or_none true = refl
or_none false = refl

-- a text is what the book has under its digest
abbrev IsHeld : List Text → Text → Type 0
IsHeld book x = is_text (text_under book x.digest) x.text ≡ true

two_held : (found : Option (List ℕ)) (a b : List ℕ) → is_text found a ≡ true → is_text found b ≡ true → bytes_eq a b ≡ true
two_held None a b is other = absurd (let no : ⊥ = cc in no)
two_held (Some old) a b is other = ap (λ z. bytes_eq z b) (sym (same_bytes old a is)) ∙ other

held_apart : (book : List Text) (a b : Text) → IsHeld book a → IsHeld book b → clashes a b ≡ false
held_apart book a b is other = elim (cases_Bool (bytes_eq a.digest b.digest)) [
  | inl same ↦
      let one : a.digest ≡ b.digest = same_bytes a.digest b.digest same in
      let here : is_text (text_under book b.digest) a.text ≡ true = ap (λ d. is_text (text_under book d) a.text) (sym one) ∙ is in
      let texts : bytes_eq a.text b.text ≡ true = two_held (text_under book b.digest) a.text b.text here other in
      rw (same, texts) refl
  | inr apart ↦ rw apart refl
]

among_cases : (x : Text) (before : List Text) (t : Text) → is_among x (before ++ t ∷ []) ≡ true → (is_among x before ≡ true) ⊎ (same_text x t ≡ true)
among_cases x before t among = elim (or_cases (is_among x before) (same_text x t || false) (sym (among_more x before t) ∙ among)) [
  | inl old ↦ inl old
  | inr new ↦ inr (sym (or_none (same_text x t)) ∙ new)
]

-- no two of them clash
none_clash : (book before more : List Text) → ((x : Text) → is_among x before ≡ true → IsHeld book x) → ((x : Text) → is_among x more ≡ true → IsHeld book x) → first_clash before more ≡ None
none_clash book before [] old new = refl
none_clash book before (t ∷ more) old new =
    let here : IsHeld book t = new t (or_left (same_text t t) (is_among t more) (text_itself t)) in
    let none : clash_in before t ≡ None = found_none (λ x. clashes t x) before (λ x among. held_apart book t x here (old x among)) in
    ap (λ o. clash_or o t (first_clash (before ++ t ∷ []) more)) none
    ∙ (none_clash book (before ++ t ∷ []) more
    (λ x among. elim (among_cases x before t among) [
      | inl was ↦ old x was
      | inr same ↦ new x (or_left (same_text x t) (is_among x more) same)
    ])
    (λ x among. new x (or_right (same_text x t) (is_among x more) among)))

pub book_fair : (book texts : List Text) → IsBookOf book texts → clash texts ≡ None
book_fair book texts is = none_clash book [] texts (λ x among. absurd (let no : ⊥ = cc in no)) (λ x among. sym (is x) ∙ among)

pass_on : (found : Option Text) (t : Text) (rest longer end : Option (Text × Text)) → clash_or found t rest ≡ None → (rest ≡ None → longer ≡ end) → clash_or found t longer ≡ end
pass_on None t rest longer end none go = go none
pass_on (Some old) t rest longer end none go = absurd (let never : ⊥ = cc in never)

-- one behind them
behind : (before texts : List Text) (new : Text) → first_clash before texts ≡ None → first_clash before (texts ++ new ∷ []) ≡ first_clash (before ++ texts) (new ∷ [])
behind before [] new none = ap (λ xs. first_clash xs (new ∷ [])) (sym (append-nil before))
behind before (t ∷ texts) new none =
    pass_on (clash_in before t) t (first_clash (before ++ t ∷ []) texts) (first_clash (before ++ t ∷ []) (texts ++ new ∷ [])) (first_clash (before ++ t ∷ texts) (new ∷ [])) none
    (λ left. behind (before ++ t ∷ []) texts new left ∙ ap (λ xs. first_clash xs (new ∷ [])) (append_assoc before (t ∷ []) texts))

pub clash_none : (book texts : List Text) (new : Text) → IsBookOf book texts → clash_in texts new ≡ None → clash (texts ++ new ∷ []) ≡ None
clash_none book texts new is none = behind [] texts new (book_fair book texts is) ∙ ap (λ o. clash_or o new None) none

pub clash_last : (book texts : List Text) (new old : Text) → IsBookOf book texts → clash_in texts new ≡ Some old → clash (texts ++ new ∷ []) ≡ Some (old, new)
clash_last book texts new old is some = behind [] texts new (book_fair book texts is) ∙ ap (λ o. clash_or o new None) some

-- ---- a text more

swapped : (xs ys : List ℕ) → bytes_eq xs ys ≡ bytes_eq ys xs
swapped xs ys = elim (cases_Bool (bytes_eq ys xs)) [
  | inl is ↦ (let one : ys ≡ xs = same_bytes ys xs is in ap (λ z. bytes_eq z ys) (sym one) ∙ bytes_itself ys ∙ sym is)
  | inr other ↦ false_from_ne_true (bytes_eq xs ys) (λ e. (let no : false ≡ true = sym other ∙ ap (λ z. bytes_eq z xs) (sym (same_bytes xs ys e)) ∙ bytes_itself xs in cc)) ∙ sym other
]

-- a new one
pub one_more : (book after texts : List Text) (digest text : List ℕ) → IsBookOf book texts → text_under book digest ≡ None
    → ((d : List ℕ) → text_under after d ≡ (if bytes_eq digest d then Some text else text_under book d)) → IsBookOf after (texts ++ given digest text ∷ [])
one_more book after texts digest text is none put = λ t. elim (cases_Bool (bytes_eq digest t.digest)) [
  | inl same ↦
      let one : digest ≡ t.digest = same_bytes digest t.digest same in
      let fresh : is_among t texts ≡ false = is t ∙ ap (λ d. is_text (text_under book d) t.text) (sym one) ∙ ap (λ o. is_text o t.text) none in
      let here : text_under after t.digest ≡ Some text = put t.digest ∙ (rw same refl) in
      let both : same_text t (given digest text) ≡ bytes_eq text t.text = ap (λ b. b && bytes_eq t.text text) (swapped t.digest digest ∙ same) ∙ swapped t.text text in
      among_more t texts (given digest text) ∙ ap (λ b. b || (same_text t (given digest text) || false)) fresh ∙ or_none (same_text t (given digest text)) ∙ both
      ∙ ap (λ o. is_text o t.text) (sym here)
  | inr other ↦
      let here : text_under after t.digest ≡ text_under book t.digest = put t.digest ∙ (rw other refl) in
      let apart : same_text t (given digest text) ≡ false = ap (λ b. b && bytes_eq t.text text) (swapped t.digest digest ∙ other) in
      among_more t texts (given digest text) ∙ ap (λ b. is_among t texts || (b || false)) apart ∙ or_none (is_among t texts) ∙ is t
      ∙ ap (λ o. is_text o t.text) (sym here)
]

-- the same again
pub again : (book texts : List Text) (digest text : List ℕ) → IsBookOf book texts → text_under book digest ≡ Some text → IsBookOf book (texts ++ given digest text ∷ [])
again book texts digest text is some = λ t. elim (cases_Bool (same_text t (given digest text))) [
  | inl same ↦
      let both = and_parts (bytes_eq t.digest digest) (bytes_eq t.text text) same in
      let one : t ≡ given digest text = ap₂ given (same_bytes t.digest digest both.0) (same_bytes t.text text both.1) in
      let there : is_among t texts ≡ true = is t ∙ ap (λ (z : Text). is_text (text_under book z.digest) z.text) one ∙ ap (λ o. is_text o text) some ∙ bytes_itself text in
      among_more t texts (given digest text) ∙ ap (λ b. b || (same_text t (given digest text) || false)) there ∙ sym there ∙ is t
  | inr other ↦ among_more t texts (given digest text) ∙ ap (λ b. is_among t texts || (b || false)) other ∙ or_none (is_among t texts) ∙ is t
]

-- a text that was added is there
pub is_there : (book texts : List Text) (digest text : List ℕ) (found : Option (List ℕ)) → IsBookOf book texts → is_among (given digest text) texts ≡ true → text_under book digest ≡ found → is_text found text ≡ true
is_there book texts digest text found is among under = told book texts (given digest text) found is under among
