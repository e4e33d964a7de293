-- Lists of records, read from the front.
use Rattle.std.proofs.Common.{◌≡◌, ℕ, ◌<◌, ◌≤◌, Bool, true, ◌&&◌, nat_eq, List, [], ◌∷◌, ◌++◌, length, Some, None, refl, sym, ap, subst, ◌∙◌, append_assoc, arith, IsTrue, length-append}
use Rattle.std.specs.Prelude.{OnErr, Result, Ok, Err}
use Rattle.std.specs.List.{flat_map, list_all}
use Rattle.std.proofs.lemmas.Bool.{and_parts, and_from, eqb-true, eq-eqb}
use Rattle.std.proofs.lemmas.List.{append-nil}
use Rattle.std.proofs.lemmas.List.Concat.{flat_map-append}
use Rattle.std.proofs.lemmas.List.Folds.{list_all-append}
use Rattle.fw_op.specs.declared.start.Start.{Start}
use Rattle.fw_record.specs.Records.{start_bytes, start_fits}
use Rattle.fw_wire.specs.Reading.{FindsWhere}
use Rattle.fw_record.specs.Reading.{BeginsWithStart}

-- so many items that fit
abbrev pub all_fit : {A : Type 0} → (A → Bool) → ℕ → List A → Bool
all_fit fits count items = nat_eq (length items) count && list_all fits items

-- what is left of a list, and of its bytes
pub record Rest {A : Type 0} (text : A → List ℕ) (fits : A → Bool) (all items : List A) (left rest : List ℕ) : Type 0 where
  pub more : List A
  pub all-is : all ≡ items ++ more
  pub fitting : IsTrue (list_all fits more)
  pub left-is : left ≡ flat_map text more ++ rest

-- how far a list has been read: each list that the bytes begin with goes on so
pub record SoFar {A : Type 0} (text : A → List ℕ) (fits : A → Bool) (bytes : List ℕ) (items : List A) (left : List ℕ) : Type 0 where
  pub read : bytes ≡ flat_map text items ++ left
  pub fitting : IsTrue (list_all fits items)
  pub each : (all : List A) (rest : List ℕ) → length items ≤ length all → IsTrue (list_all fits all) → bytes ≡ flat_map text all ++ rest → Rest text fits all items left rest

regroup : {A : Type 0} (items : List A) (x : A) (more : List A) → (items ++ x ∷ []) ++ more ≡ items ++ x ∷ more
regroup items x more = append_assoc items (x ∷ []) more

goes_on : {A : Type 0} (text : A → List ℕ) (fits : A → Bool) (all items : List A) (left left' rest : List ℕ) (x : A)
    → (more : List A) → all ≡ items ++ more → IsTrue (list_all fits more) → left ≡ flat_map text more ++ rest
    → length items < length all → FindsWhere text fits left (Some x) left' → Rest text fits all (items ++ x ∷ []) left' rest
goes_on text fits all items left left' rest x [] a r e lt p = absurd (omega (arith, ap length a, length-append items []))
goes_on text fits all items left left' rest x (y ∷ more) a r e lt p =
    let parts = and_parts (fits y) (list_all fits more) r in
    let next = p.each y (flat_map text more ++ rest) parts.0 (e ∙ append_assoc (text y) (flat_map text more) rest) in
    let same : x ≡ y = cc in
    record {
      more = more;
      all-is = a ∙ sym (ap (λ z. (items ++ z ∷ []) ++ more) same ∙ regroup items y more);
      fitting = parts.1;
      left-is = next.1;
    }

stops : {A : Type 0} (text : A → List ℕ) (fits : A → Bool) (all items : List A) (left left' rest : List ℕ)
    → (more : List A) → all ≡ items ++ more → IsTrue (list_all fits more) → left ≡ flat_map text more ++ rest
    → length items < length all → FindsWhere text fits left None left' → ⊥
stops text fits all items left left' rest [] a r e lt p = omega (arith, ap length a, length-append items [])
stops text fits all items left left' rest (y ∷ more) a r e lt p =
    let parts = and_parts (fits y) (list_all fits more) r in
    let next = p.each y (flat_map text more ++ rest) parts.0 (e ∙ append_assoc (text y) (flat_map text more) rest) in
    cc

-- one more item
pub one_more : {A : Type 0} {text : A → List ℕ} {fits : A → Bool} {bytes : List ℕ} {items : List A} {left left' : List ℕ} {x : A}
    → SoFar text fits bytes items left → FindsWhere text fits left (Some x) left' → SoFar text fits bytes (items ++ x ∷ []) left'
one_more {text = text} {fits = fits} {bytes = bytes} {items = items} {left = left} {left' = left'} {x = x} s p = record {
  read = s.read ∙ (ap (λ (m : List ℕ). flat_map text items ++ m) p.read.0 ∙ (sym (append_assoc (flat_map text items) (text x) left')
      ∙ ap (λ (m : List ℕ). m ++ left') (sym (flat_map-append text items (x ∷ []) ∙ ap (λ (m : List ℕ). flat_map text items ++ m) (append-nil (text x))))));
  fitting = list_all-append fits items (x ∷ []) ∙ and_from (list_all fits items) (list_all fits (x ∷ [])) s.fitting (and_from (fits x) true p.read.1 refl);
  each = λ all rest len h e.
      let size = length-append items (x ∷ []) in
      let r = s.each all rest (omega (arith, len, size)) h e in
      goes_on text fits all items left left' rest x r.more r.all-is r.fitting r.left-is (omega (arith, len, size)) p;
}

-- no next item: no list
pub no_item : {A : Type 0} {text : A → List ℕ} {fits : A → Bool} {count : ℕ} {bytes : List ℕ} {items : List A} {left left' new : List ℕ}
    → SoFar text fits bytes items left → length items < count → FindsWhere text fits left None left' → FindsWhere (flat_map text) (all_fit fits count) bytes None new
no_item {text = text} {fits = fits} {count = count} {items = items} {left = left} {left' = left'} s lt p = record {
  read = tt;
  each = λ all rest h e.
      let parts = and_parts (nat_eq (length all) count) (list_all fits all) h in
      let size : length all ≡ count = eqb-true _ _ parts.0 in
      let r = s.each all rest (omega (arith, size, lt)) parts.1 e in
      absurd (stops text fits all items left left' rest r.more r.all-is r.fitting r.left-is (omega (arith, size, lt)) p);
}

nothing_more : {A : Type 0} (text : A → List ℕ) (all items : List A) (left rest : List ℕ) → (more : List A) → all ≡ items ++ more → left ≡ flat_map text more ++ rest → length items ≡ length all → (items ≡ all) × (left ≡ rest)
nothing_more text all items left rest [] a e len = (sym (a ∙ append-nil items), e)
nothing_more text all items left rest (y ∷ more) a e len = absurd (omega (arith, ap length a, length-append items (y ∷ more)))

-- all items
pub all_read : {A : Type 0} {text : A → List ℕ} {fits : A → Bool} {count : ℕ} {bytes : List ℕ} {items : List A} {left : List ℕ}
    → SoFar text fits bytes items left → length items ≡ count → FindsWhere (flat_map text) (all_fit fits count) bytes (Some items) left
all_read {text = text} {fits = fits} {count = count} {items = items} {left = left} s len = record {
  read = (s.read, and_from _ _ (eq-eqb (length items) count len) s.fitting);
  each = λ all rest h e.
      let parts = and_parts (nat_eq (length all) count) (list_all fits all) h in
      let size : length all ≡ count = eqb-true _ _ parts.0 in
      let r = s.each all rest (omega (arith, size, len)) parts.1 e in
      let same = nothing_more text all items left rest r.more r.all-is r.left-is (omega (arith, size, len)) in
      (ap (λ zs. Some zs) same.0, same.1);
}

-- ---- where memory is needed

first_of : (clients : ℕ) (bytes left : List ℕ) (items : List Start) → bytes ≡ flat_map start_bytes items ++ left → IsTrue (list_all (start_fits clients) items) → BeginsWithStart clients left → BeginsWithStart clients bytes
first_of clients bytes left [] e h b = subst (BeginsWithStart clients) (sym e) b
first_of clients bytes left (x ∷ items) e h b = record {
  start = x;
  rest = flat_map start_bytes items ++ left;
  is = e ∙ append_assoc (start_bytes x) (flat_map start_bytes items) left;
  fitting = (and_parts (start_fits clients x) (list_all (start_fits clients) items) h).0;
}

-- a record was found behind those that were read
pub begins : {clients : ℕ} {bytes : List ℕ} {items : List Start} {left next : List ℕ} {x : Start}
    → SoFar start_bytes (start_fits clients) bytes items left → FindsWhere start_bytes (start_fits clients) left (Some x) next → BeginsWithStart clients bytes
begins {clients = clients} {bytes = bytes} {items = items} {left = left} {next = next} {x = x} s p =
    first_of clients bytes left items s.read s.fitting (record { start = x; rest = next; is = p.read.0; fitting = p.read.1 })

-- where the answer is want of memory, this holds
pub on_err : {A E : Type 0} {P : Type 0} (r : Result A E) → P → OnErr r P
on_err (Ok a) p = tt
on_err (Err e) p = p
