-- Lists whose items belong to known keys, read from the front.
use Rattle.std.proofs.Common.{◌≡◌, ℕ, ◌+◌, ◌<◌, length, get_or, drop, drop-cons, add-one, List, [], ◌∷◌, ◌++◌, map, Some, None, sym, ap, subst, ◌∙◌, append_assoc}
use Rattle.std.specs.Prelude.{flat_map}
use Rattle.std.specs.List.{All}
use Rattle.std.proofs.lemmas.List.{append-nil, map_push}
use Rattle.std.proofs.lemmas.List.Concat.{flat_map-append}
use Rattle.std.proofs.lemmas.List.Elements.{All-head, All-tail, All-push}
use Rattle.fw_wire.specs.Reading.{Finds}
use Rattle.fw_hand.specs.Reading.{AreOf}

-- an item of a key
abbrev pub IsAt : {A K : Type 0} → (A → K) → (A → Type 0) → K → A → Type 0
IsAt key F k x = (key x ≡ k) × F x

-- what is left of a list, and of its bytes
pub record Rest {A K : Type 0} (text : A → List ℕ) (key : A → K) (F : A → Type 0) (keys : List K) (all items : List A) (left rest : List ℕ) : Type 0 where
  pub more : List A
  pub all-is : all ≡ items ++ more
  pub keyed : map key more ≡ keys
  pub fitting : All F more
  pub left-is : left ≡ flat_map text more ++ rest

-- how far a list of these keys has been read: each list that the bytes begin with goes on so
pub record SoFar {A K : Type 0} (text : A → List ℕ) (key : A → K) (F : A → Type 0) (keys ahead : List K) (bytes : List ℕ) (items : List A) (left : List ℕ) : Type 0 where
  pub read : bytes ≡ flat_map text items ++ left
  pub keyed : map key items ++ ahead ≡ keys
  pub fitting : All F items
  pub each : (all : List A) (rest : List ℕ) → map key all ≡ keys → All F all → bytes ≡ flat_map text all ++ rest → Rest text key F ahead all items left rest

regroup : {A : Type 0} (items : List A) (x : A) (more : List A) → (items ++ x ∷ []) ++ more ≡ items ++ x ∷ more
regroup items x more = append_assoc items (x ∷ []) more

goes_on : {A K : Type 0} (text : A → List ℕ) (key : A → K) (F : A → Type 0) (k : K) (ahead : List K) (all items : List A) (left left' rest : List ℕ) (x : A)
    → (more : List A) → all ≡ items ++ more → map key more ≡ k ∷ ahead → All F more → left ≡ flat_map text more ++ rest
    → Finds text (IsAt key F k) left (Some x) left' → Rest text key F ahead all (items ++ x ∷ []) left' rest
goes_on text key F k ahead all items left left' rest x [] a m f e p = absurd (let no : ⊥ = cc in no)
goes_on text key F k ahead all items left left' rest x (y ∷ more) a m f e p =
    let at : key y ≡ k = cc in
    let keys : map key more ≡ ahead = cc in
    let next = p.each y (flat_map text more ++ rest) (at, All-head F y more f) (e ∙ append_assoc (text y) (flat_map text more) rest) in
    let same : x ≡ y = cc in
    record {
      more = more;
      all-is = a ∙ sym (ap (λ z. (items ++ z ∷ []) ++ more) same ∙ regroup items y more);
      keyed = keys;
      fitting = All-tail F y more f;
      left-is = next.1;
    }

stops : {A K : Type 0} (text : A → List ℕ) (key : A → K) (F : A → Type 0) (k : K) (ahead : List K) (left left' rest : List ℕ)
    → (more : List A) → map key more ≡ k ∷ ahead → All F more → left ≡ flat_map text more ++ rest → Finds text (IsAt key F k) left None left' → ⊥
stops text key F k ahead left left' rest [] m f e p = cc
stops text key F k ahead left left' rest (y ∷ more) m f e p =
    let at : key y ≡ k = cc in
    let next = p.each y (flat_map text more ++ rest) (at, All-head F y more f) (e ∙ append_assoc (text y) (flat_map text more) rest) in
    cc

-- one more item
pub one_more : {A K : Type 0} {text : A → List ℕ} {key : A → K} {F : A → Type 0} {keys : List K} (k : K) {ahead : List K} {bytes : List ℕ} {items : List A} {left left' : List ℕ} {x : A}
    → SoFar text key F keys (k ∷ ahead) bytes items left → Finds text (IsAt key F k) left (Some x) left' → SoFar text key F keys ahead bytes (items ++ x ∷ []) left'
one_more {text = text} {key = key} {F = F} k {ahead = ahead} {items = items} {left = left} {left' = left'} {x = x} s p = record {
  read = s.read ∙ (ap (λ (m : List ℕ). flat_map text items ++ m) p.read.0 ∙ (sym (append_assoc (flat_map text items) (text x) left')
      ∙ ap (λ (m : List ℕ). m ++ left') (sym (flat_map-append text items (x ∷ []) ∙ ap (λ (m : List ℕ). flat_map text items ++ m) (append-nil (text x))))));
  keyed = ap (λ ks. ks ++ ahead) (map_push key items x) ∙ append_assoc (map key items) (key x ∷ []) ahead ∙ ap (λ z. map key items ++ z ∷ ahead) p.read.1.0 ∙ s.keyed;
  fitting = All-push F items x s.fitting p.read.1.1;
  each = λ all rest is fit e.
      let r = s.each all rest is fit e in
      goes_on text key F k ahead all items left left' rest x r.more r.all-is r.keyed r.fitting r.left-is p;
}

-- no next item: no list
pub no_item : {A K : Type 0} {text : A → List ℕ} {key : A → K} {F : A → Type 0} {keys : List K} (k : K) {ahead : List K} {bytes : List ℕ} {items : List A} {left left' new : List ℕ}
    → SoFar text key F keys (k ∷ ahead) bytes items left → Finds text (IsAt key F k) left None left' → Finds (flat_map text) (AreOf key F keys) bytes None new
no_item {text = text} {key = key} {F = F} k {ahead = ahead} {left = left} {left' = left'} s p = record {
  read = tt;
  each = λ all rest fits e.
      let r = s.each all rest fits.0 fits.1 e in
      absurd (stops text key F k ahead left left' rest r.more r.keyed r.fitting r.left-is p);
}

-- the key at a place, and those behind it
ahead_at : {K : Type 0} (ks : List K) (i : ℕ) (d : K) → i < length ks → drop i ks ≡ get_or ks i d ∷ drop (i + 1) ks
ahead_at ks i d inside = rw add-one (drop-cons ks i d inside)

pub one_more_at : {A K : Type 0} {text : A → List ℕ} {key : A → K} {F : A → Type 0} {keys : List K} {bytes : List ℕ} {items : List A} {left left' : List ℕ} {x : A}
    (ks : List K) (i : ℕ) (d : K) → i < length ks → SoFar text key F keys (drop i ks) bytes items left → Finds text (IsAt key F (get_or ks i d)) left (Some x) left'
    → SoFar text key F keys (drop (i + 1) ks) bytes (items ++ x ∷ []) left'
one_more_at {text = text} {key = key} {F = F} {keys = keys} {bytes = bytes} {items = items} {left = left} ks i d inside s p =
    one_more (get_or ks i d) (subst (λ a. SoFar text key F keys a bytes items left) (ahead_at ks i d inside) s) p

pub no_item_at : {A K : Type 0} {text : A → List ℕ} {key : A → K} {F : A → Type 0} {keys : List K} {bytes : List ℕ} {items : List A} {left left' new : List ℕ}
    (ks : List K) (i : ℕ) (d : K) → i < length ks → SoFar text key F keys (drop i ks) bytes items left → Finds text (IsAt key F (get_or ks i d)) left None left'
    → Finds (flat_map text) (AreOf key F keys) bytes None new
no_item_at {text = text} {key = key} {F = F} {keys = keys} {bytes = bytes} {items = items} {left = left} ks i d inside s p =
    no_item (get_or ks i d) (subst (λ a. SoFar text key F keys a bytes items left) (ahead_at ks i d inside) s) p
