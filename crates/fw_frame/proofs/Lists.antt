-- Lists whose items' keys rise, read from the front.
use Rattle.std.proofs.Common.{◌≡◌, ℕ, ◌+◌, ◌<◌, ◌≤◌, Bool, true, ◌&&◌, nat_le, nat_lt, nat_eq, List, [], ◌∷◌, ◌++◌, length, map, Some, None, refl, sym, ap, subst, ◌∙◌, append_assoc, arith, IsTrue, length-append}
use Rattle.std.specs.List.{flat_map, list_all}
use Rattle.std.proofs.lemmas.Bool.{and_parts, and_from, leb-true, ltb-true, eqb-true, eq-eqb, le-leb, lt-ltb}
use Rattle.std.proofs.lemmas.List.{append-nil}
use Rattle.std.proofs.lemmas.List.Concat.{flat_map-append}
use Rattle.fw_list.specs.Numbers.{ascending}
use Rattle.fw_wire.specs.Reading.{FindsWhere}
use Rattle.fw_frame.specs.Reading.{list_fits}

-- each item fits, and its key is at least one above the key before it, the first at least `least`
abbrev pub rises : {A : Type 0} → (A → ℕ) → (A → Bool) → ℕ → List A → Bool
rises key fits least [] = true
rises key fits least (x ∷ xs) = nat_le least (key x) && fits x && rises key fits (key x + 1) xs

-- what is left of a list, and of its bytes
pub record Rest {A : Type 0} (text : A → List ℕ) (key : A → ℕ) (fits : A → Bool) (least : ℕ) (all items : List A) (left rest : List ℕ) : Type 0 where
  pub more : List A
  pub all-is : all ≡ items ++ more
  pub rising : IsTrue (rises key fits least more)
  pub left-is : left ≡ flat_map text more ++ rest

-- how far a list has been read: each list that the bytes begin with goes on so
pub record SoFar {A : Type 0} (text : A → List ℕ) (key : A → ℕ) (fits : A → Bool) (first count : ℕ) (bytes : List ℕ) (least : ℕ) (items : List A) (left : List ℕ) : Type 0 where
  pub read : bytes ≡ flat_map text items ++ left
  pub rising : (more : List A) → IsTrue (rises key fits least more) → IsTrue (rises key fits first (items ++ more))
  pub each : (all : List A) (rest : List ℕ) → length all ≡ count → IsTrue (rises key fits first all) → bytes ≡ flat_map text all ++ rest → Rest text key fits least all items left rest

pub started : {A : Type 0} (text : A → List ℕ) (key : A → ℕ) (fits : A → Bool) (first count : ℕ) (bytes : List ℕ) → SoFar text key fits first count bytes first [] bytes
started text key fits first count bytes = record {
  read = refl;
  rising = λ more h. h;
  each = λ all rest len h e. record { more = all; all-is = refl; rising = h; left-is = e };
}

-- the next item
abbrev pub next_fits : {A : Type 0} → (A → ℕ) → (A → Bool) → ℕ → A → Bool
next_fits key fits least x = nat_le least (key x) && fits x

regroup : {A : Type 0} (items : List A) (x : A) (more : List A) → (items ++ x ∷ []) ++ more ≡ items ++ x ∷ more
regroup items x more = append_assoc items (x ∷ []) more

goes_on : {A : Type 0} (text : A → List ℕ) (key : A → ℕ) (fits : A → Bool) (least : ℕ) (all items : List A) (left left' rest : List ℕ) (x : A)
    → (more : List A) → all ≡ items ++ more → IsTrue (rises key fits least more) → left ≡ flat_map text more ++ rest
    → length items < length all → FindsWhere text (next_fits key fits least) left (Some x) left' → Rest text key fits (key x + 1) all (items ++ x ∷ []) left' rest
goes_on text key fits least all items left left' rest x [] a r e lt p = absurd (omega (arith, ap length a, length-append items []))
goes_on text key fits least all items left left' rest x (y ∷ more) a r e lt p =
    let parts = and_parts (nat_le least (key y) && fits y) (rises key fits (key y + 1) more) r in
    let next = p.each y (flat_map text more ++ rest) parts.0 (e ∙ append_assoc (text y) (flat_map text more) rest) in
    let same : x ≡ y = cc in
    record {
      more = more;
      all-is = a ∙ sym (ap (λ z. (items ++ z ∷ []) ++ more) same ∙ regroup items y more);
      rising = subst (λ z. IsTrue (rises key fits (key z + 1) more)) (sym same) parts.1;
      left-is = next.1;
    }

stops : {A : Type 0} (text : A → List ℕ) (key : A → ℕ) (fits : A → Bool) (least : ℕ) (all items : List A) (left left' rest : List ℕ)
    → (more : List A) → all ≡ items ++ more → IsTrue (rises key fits least more) → left ≡ flat_map text more ++ rest
    → length items < length all → FindsWhere text (next_fits key fits least) left None left' → ⊥
stops text key fits least all items left left' rest [] a r e lt p = omega (arith, ap length a, length-append items [])
stops text key fits least all items left left' rest (y ∷ more) a r e lt p =
    let parts = and_parts (nat_le least (key y) && fits y) (rises key fits (key y + 1) more) r in
    let next = p.each y (flat_map text more ++ rest) parts.0 (e ∙ append_assoc (text y) (flat_map text more) rest) in
    cc

-- one more item
pub one_more : {A : Type 0} {text : A → List ℕ} {key : A → ℕ} {fits : A → Bool} {first count : ℕ} {bytes : List ℕ} {least : ℕ} {items : List A} {left left' : List ℕ} {x : A}
    → SoFar text key fits first count bytes least items left → length items < count → FindsWhere text (next_fits key fits least) left (Some x) left'
    → SoFar text key fits first count bytes (key x + 1) (items ++ x ∷ []) left'
one_more {text = text} {key = key} {fits = fits} {first = first} {count = count} {bytes = bytes} {least = least} {items = items} {left = left} {left' = left'} {x = x} s lt p = record {
  read = s.read ∙ (ap (λ (m : List ℕ). flat_map text items ++ m) p.read.0 ∙ (sym (append_assoc (flat_map text items) (text x) left')
      ∙ ap (λ (m : List ℕ). m ++ left') (sym (flat_map-append text items (x ∷ []) ∙ ap (λ (m : List ℕ). flat_map text items ++ m) (append-nil (text x))))));
  rising = λ more h. subst (λ zs. IsTrue (rises key fits first zs)) (sym (regroup items x more)) (s.rising (x ∷ more) (and_from _ _ p.read.1 h));
  each = λ all rest len h e.
      let r = s.each all rest len h e in
      goes_on text key fits least all items left left' rest x r.more r.all-is r.rising r.left-is (omega (arith, len, lt)) p;
}

-- ---- rising is what the deployment's ranges ask

abbrev at_least : {A : Type 0} → (A → ℕ) → ℕ → List A → Type 0
at_least key least [] = Unit {0}
at_least key least (x ∷ xs) = least ≤ key x

above_next : {A : Type 0} (key : A → ℕ) (x : A) (xs : List A) → IsTrue (ascending (map key (x ∷ xs))) → at_least key (key x + 1) xs × IsTrue (ascending (map key xs))
above_next key x [] h = (tt, refl)
above_next key x (y ∷ xs) h =
    let parts = and_parts (nat_lt (key x) (key y)) (ascending (map key (y ∷ xs))) h in
    let above = ltb-true (key x) (key y) parts.0 in
    (omega arith, parts.1)

rises_from : {A : Type 0} (key : A → ℕ) (fits : A → Bool) (least : ℕ) (xs : List A) → at_least key least xs → IsTrue (list_all fits xs) → IsTrue (ascending (map key xs)) → IsTrue (rises key fits least xs)
rises_from key fits least [] l f a = refl
rises_from key fits least (x ∷ xs) l f a =
    let next = above_next key x xs a in
    let parts = and_parts (fits x) (list_all fits xs) f in
    and_from _ _ (and_from _ _ (le-leb least (key x) l) parts.0) (rises_from key fits (key x + 1) xs next.0 parts.1 next.1)

ascends_from : {A : Type 0} (key : A → ℕ) (fits : A → Bool) (x : A) (xs : List A) → IsTrue (rises key fits (key x + 1) xs) → IsTrue (ascending (map key xs)) → IsTrue (ascending (map key (x ∷ xs)))
ascends_from key fits x [] r a = refl
ascends_from key fits x (y ∷ xs) r a =
    let parts = and_parts (nat_le (key x + 1) (key y) && fits y) (rises key fits (key y + 1) xs) r in
    let low = leb-true (key x + 1) (key y) (and_parts (nat_le (key x + 1) (key y)) (fits y) parts.0).0 in
    and_from _ _ (lt-ltb (key x) (key y) (omega arith)) a

rises_to : {A : Type 0} (key : A → ℕ) (fits : A → Bool) (least : ℕ) (xs : List A) → IsTrue (rises key fits least xs) → IsTrue (list_all fits xs) × IsTrue (ascending (map key xs))
rises_to key fits least [] r = (refl, refl)
rises_to key fits least (x ∷ xs) r =
    let parts = and_parts (nat_le least (key x) && fits x) (rises key fits (key x + 1) xs) r in
    let rest = rises_to key fits (key x + 1) xs parts.1 in
    (and_from (fits x) (list_all fits xs) (and_parts (nat_le least (key x)) (fits x) parts.0).1 rest.0, ascends_from key fits x xs parts.1 rest.1)

first_least : {A : Type 0} (key : A → ℕ) (fits : A → Bool) (first : ℕ) (xs : List A) → ((x : A) → IsTrue (fits x) → first ≤ key x) → IsTrue (list_all fits xs) → at_least key first xs
first_least key fits first [] low f = tt
first_least key fits first (x ∷ xs) low f = low x (and_parts (fits x) (list_all fits xs) f).0

list_parts : {A : Type 0} (key : A → ℕ) (fits : A → Bool) (count : ℕ) (xs : List A) → IsTrue (list_fits key fits count xs) → (length xs ≡ count) × IsTrue (list_all fits xs) × IsTrue (ascending (map key xs))
list_parts key fits count xs h =
    let two = and_parts (nat_eq (length xs) count && list_all fits xs) (ascending (map key xs)) h in
    let one = and_parts (nat_eq (length xs) count) (list_all fits xs) two.0 in
    (eqb-true _ _ one.0, one.1, two.1)

-- no next item: no list
pub no_item : {A : Type 0} {text : A → List ℕ} {key : A → ℕ} {fits : A → Bool} {first count : ℕ} {bytes : List ℕ} {least : ℕ} {items : List A} {left left' new : List ℕ}
    → ((x : A) → IsTrue (fits x) → first ≤ key x) → SoFar text key fits first count bytes least items left → length items < count → FindsWhere text (next_fits key fits least) left None left'
    → FindsWhere (flat_map text) (list_fits key fits count) bytes None new
no_item {text = text} {key = key} {fits = fits} {first = first} {count = count} {least = least} {items = items} {left = left} {left' = left'} low s lt p = record {
  read = tt;
  each = λ all rest h e.
      let parts = list_parts key fits count all h in
      let r = s.each all rest parts.0 (rises_from key fits first all (first_least key fits first all low parts.1) parts.1 parts.2) e in
      absurd (stops text key fits least all items left left' rest r.more r.all-is r.rising r.left-is (omega (arith, parts.0, lt)) p);
}

nothing_more : {A : Type 0} (text : A → List ℕ) (all items : List A) (left rest : List ℕ) → (more : List A) → all ≡ items ++ more → left ≡ flat_map text more ++ rest → length items ≡ length all → (items ≡ all) × (left ≡ rest)
nothing_more text all items left rest [] a e len = (sym (a ∙ append-nil items), e)
nothing_more text all items left rest (y ∷ more) a e len = absurd (omega (arith, ap length a, length-append items (y ∷ more)))

-- all items
pub all_read : {A : Type 0} {text : A → List ℕ} {key : A → ℕ} {fits : A → Bool} {first count : ℕ} {bytes : List ℕ} {least : ℕ} {items : List A} {left : List ℕ}
    → ((x : A) → IsTrue (fits x) → first ≤ key x) → SoFar text key fits first count bytes least items left → length items ≡ count
    → FindsWhere (flat_map text) (list_fits key fits count) bytes (Some items) left
all_read {text = text} {key = key} {fits = fits} {first = first} {count = count} {least = least} {items = items} {left = left} low s len = record {
  read =
      let whole : IsTrue (rises key fits first items) = subst (λ zs. IsTrue (rises key fits first zs)) (append-nil items) (s.rising [] refl) in
      let parts = rises_to key fits first items whole in
      (s.read, and_from _ _ (and_from _ _ (eq-eqb (length items) count len) parts.0) parts.1);
  each = λ all rest h e.
      let parts = list_parts key fits count all h in
      let r = s.each all rest parts.0 (rises_from key fits first all (first_least key fits first all low parts.1) parts.1 parts.2) e in
      let same = nothing_more text all items left rest r.more r.all-is r.left-is (omega (arith, parts.0, len)) in
      (ap (λ zs. Some zs) same.0, same.1);
}
