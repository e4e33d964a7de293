-- Lists that are read item by item: one item more, and that there is one such list, or one place where it stops.
use Rattle.std.proofs.Common.{◌≡◌, ℕ, ◌+◌, ◌<◌, ◌≤◌, zero, suc, List, [], ◌∷◌, ◌++◌, length, take, get_or, Some, option_map, Result, Ok, Err, slice_get, inl, inr, refl, sym, ap, ap₂, ◌∙◌, subst, arith, append_assoc}
use Rattle.std.proofs.lemmas.Bool.{cases_order}
use Rattle.std.proofs.lemmas.List.{append-nil, map-append, take-map, take-take, take_more, take_all, length-take, length-map}
use Rattle.std.proofs.lemmas.Option.{slice_get-map, slice_get_read}
use Rattle.toml.specs.declared.value.Value.{Value}
use Rattle.fw_sched.specs.Reading.{Rule, Reads, StopsAt}
use Rattle.fw_sched.specs.Stages.{text_in, texts_in, Found}

-- a rule gives at most one item for a text behind given items
abbrev pub IsOne : {A : Type 0} → Rule A → Type 0
IsOne {A = A} Is = (before : List A) (text : List ℕ) (x y : A) → Is before text x → Is before text y → x ≡ y

reads_more : {A : Type 0} (Is : Rule A) (before : List A) (texts : List (List ℕ)) (xs : List A) (text : List ℕ) (x : A) → Reads Is before texts xs → Is (before ++ xs) text x → Reads Is before (texts ++ text ∷ []) (xs ++ x ∷ [])
reads_more Is before [] [] text x reads is = (subst (λ b. Is b text x) (append-nil before) is, tt)
reads_more Is before [] (y ∷ ys) text x reads is = absurd reads
reads_more Is before (t ∷ ts) [] text x reads is = absurd reads
reads_more Is before (t ∷ ts) (y ∷ ys) text x reads is =
    (reads.0, reads_more Is (before ++ y ∷ []) ts ys text x reads.1 (subst (λ b. Is b text x) (sym (append_assoc before (y ∷ []) ys)) is))

pub reads_length : {A : Type 0} (Is : Rule A) (before : List A) (texts : List (List ℕ)) (xs : List A) → Reads Is before texts xs → length texts ≡ length xs
reads_length Is before [] [] reads = refl
reads_length Is before [] (x ∷ xs) reads = absurd reads
reads_length Is before (t ∷ ts) [] reads = absurd reads
reads_length Is before (t ∷ ts) (x ∷ xs) reads = let rest = reads_length Is (before ++ x ∷ []) ts xs reads.1 in omega (arith, rest)

reads_one : {A : Type 0} (Is : Rule A) → IsOne Is → (before : List A) (texts : List (List ℕ)) (xs ys : List A) → Reads Is before texts xs → Reads Is before texts ys → xs ≡ ys
reads_one Is one before [] [] [] r s = refl
reads_one Is one before [] [] (y ∷ ys) r s = absurd s
reads_one Is one before [] (x ∷ xs) ys r s = absurd r
reads_one Is one before (t ∷ ts) [] ys r s = absurd r
reads_one Is one before (t ∷ ts) (x ∷ xs) [] r s = absurd s
reads_one {A = A} Is one before (t ∷ ts) (x ∷ xs) (y ∷ ys) r s =
    let same : x ≡ y = one before t x y r.0 s.0 in
    let later : Reads Is (before ++ x ∷ []) ts ys = subst (λ (z : A). Reads Is (before ++ z ∷ []) ts ys) (sym same) s.1 in
    ap₂ (λ (z : A) (zs : List A). z ∷ zs) same (reads_one Is one (before ++ x ∷ []) ts xs ys r.1 later)

-- the item at a place of texts that are items
record At {A : Type 0} (Is : Rule A) (before : List A) (texts : List (List ℕ)) (place : ℕ) (text : List ℕ) : Type 0 where
  front : List A
  reads : Reads Is before (take place texts) front
  item : A
  is : Is (before ++ front) text item

reads_at : {A : Type 0} (Is : Rule A) (before : List A) (texts : List (List ℕ)) (xs : List A) (place : ℕ) (text : List ℕ) → Reads Is before texts xs → slice_get texts place ≡ Some text → At Is before texts place text
reads_at Is before [] xs place text r e = absurd (cc)
reads_at Is before (t ∷ ts) [] place text r e = absurd r
reads_at Is before (t ∷ ts) (x ∷ xs) zero text r e =
    let same : t ≡ text = cc in
    record { front = []; reads = tt; item = x; is = subst (λ b. Is b text x) (sym (append-nil before)) (subst (λ w. Is before w x) same r.0) }
reads_at Is before (t ∷ ts) (x ∷ xs) (suc place) text r e =
    let later = reads_at Is (before ++ x ∷ []) ts xs place text r.1 e in
    record { front = x ∷ later.front; reads = (r.0, later.reads); item = later.item; is = subst (λ b. Is b text later.item) (append_assoc before (x ∷ []) later.front) later.is }

-- texts that are items stop nowhere
stops_nowhere : {A : Type 0} (Is : Rule A) → IsOne Is → (texts : List (List ℕ)) (xs : List A) (place : ℕ) → Reads Is [] texts xs → StopsAt Is texts place → ⊥
stops_nowhere Is one texts xs place reads stops =
    let at = reads_at Is [] texts xs place stops.text reads stops.here in
    let same = reads_one Is one [] (take place texts) at.front stops.before at.reads stops.read in
    stops.none at.item (subst (λ b. Is b stops.text at.item) same at.is)

get_take : {A : Type 0} (xs : List A) (i j : ℕ) → i < j → slice_get (take j xs) i ≡ slice_get xs i
get_take [] i zero below = refl
get_take [] i (suc j) below = refl
get_take (x ∷ xs) i zero below = absurd (omega arith)
get_take (x ∷ xs) zero (suc j) below = refl
get_take (x ∷ xs) (suc i) (suc j) below = get_take xs i j (omega arith)

no_earlier : {A : Type 0} (Is : Rule A) → IsOne Is → (texts : List (List ℕ)) (i j : ℕ) → StopsAt Is texts i → StopsAt Is texts j → i < j → ⊥
no_earlier Is one texts i j first second below =
    stops_nowhere Is one (take j texts) second.before i second.read (record {
      before = first.before;
      read = subst (λ ts. Reads Is [] ts first.before) (sym (take-take i j texts (omega arith))) first.read;
      text = first.text;
      here = get_take texts i j below ∙ first.here;
      none = first.none;
    })

stops_once : {A : Type 0} (Is : Rule A) → IsOne Is → (texts : List (List ℕ)) (i j : ℕ) → StopsAt Is texts i → StopsAt Is texts j → i ≡ j
stops_once Is one texts i j first second =
    elim (cases_order i j) [
      | inl same ↦ same
      | inr differ ↦
          elim differ [
            | inl below ↦ absurd (no_earlier Is one texts i j first second below)
            | inr above ↦ absurd (no_earlier Is one texts j i second first above)
          ]
    ]

-- what is found of texts is found once
pub found_once : {A : Type 0} (Is : Rule A) → IsOne Is → (texts : List (List ℕ)) (r s : Result (List A) ℕ) → Found Is texts r → Found Is texts s → r ≡ s
found_once Is one texts (Ok xs) (Ok ys) r s = ap Ok (reads_one Is one [] texts xs ys r s)
found_once Is one texts (Ok xs) (Err j) r s = absurd (stops_nowhere Is one texts xs j r s)
found_once Is one texts (Err i) (Ok ys) r s = absurd (stops_nowhere Is one texts ys i s r)
found_once Is one texts (Err i) (Err j) r s = ap Err (stops_once Is one texts i j r s)

-- ---- the loops over values

-- one value more is read
pub one_more : {A : Type 0} (Is : Rule A) (values : List Value) (i : ℕ) (v : Value) (xs : List A) (x : A) → i < length values → v ≡ get_or values i v → Reads Is [] (texts_in (take i values)) xs → Is xs (text_in v) x
    → Reads Is [] (texts_in (take (i + 1) values)) (xs ++ x ∷ [])
one_more {A = A} Is values i v xs x inside at reads is =
    let split : texts_in (take (i + 1) values) ≡ texts_in (take i values) ++ text_in v ∷ [] =
    ap texts_in (take_more values i v inside) ∙ map-append text_in (take i values) (get_or values i v ∷ []) ∙ ap (λ (w : Value). texts_in (take i values) ++ text_in w ∷ []) (sym at) in
    subst (λ ts. Reads Is [] ts (xs ++ x ∷ [])) (sym split) (reads_more Is [] (texts_in (take i values)) xs (text_in v) x reads is)

-- so many values are read
pub read_so_far : {A : Type 0} (Is : Rule A) (values : List Value) (i : ℕ) (xs : List A) → i ≤ length values → Reads Is [] (texts_in (take i values)) xs → length xs ≡ i
read_so_far Is values i xs inside reads =
    let size = reads_length Is [] (texts_in (take i values)) xs reads in
    let same : length (texts_in (take i values)) ≡ i = simp (length-map, length-take) (omega arith) in
    omega (arith, size, same)

-- the next value is none
pub stops_here : {A : Type 0} (Is : Rule A) (values : List Value) (i : ℕ) (v : Value) (xs : List A) → i < length values → v ≡ get_or values i v → Reads Is [] (texts_in (take i values)) xs → ((x : A) → ¬ Is xs (text_in v) x)
    → StopsAt Is (texts_in values) (length xs)
stops_here Is values i v xs inside at reads none =
    subst (λ (k : ℕ). StopsAt Is (texts_in values) k) (sym (read_so_far Is values i xs (omega arith) reads)) (record {
      before = xs;
      read = subst (λ ts. Reads Is [] ts xs) (sym (take-map text_in i values)) reads;
      text = text_in v;
      here = slice_get-map text_in values i ∙ ap (option_map text_in) (slice_get_read values (length values) i v refl inside at);
      none = none;
    })

-- all values are read
pub all_read : {A : Type 0} (Is : Rule A) (values : List Value) (i : ℕ) (xs : List A) → length values ≤ i → Reads Is [] (texts_in (take i values)) xs → Reads Is [] (texts_in values) xs
all_read Is values i xs done reads = subst (λ (vs : List Value). Reads Is [] (texts_in vs) xs) (take_all i values done) reads
