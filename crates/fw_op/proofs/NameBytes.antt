-- Names in bytes, one after another.
use Rattle.std.proofs.Common.{◌≡◌, ◌≢◌, ℕ, ◌+◌, ◌-◌, ◌<◌, true, ◌&&◌, List, [], ◌∷◌, ◌++◌, length, length-append, refl, sym, ap, ap₂, ◌∙◌, arith, append_assoc}
use Rattle.std.proofs.lemmas.Bool.{and_parts, and_from}
use Rattle.std.proofs.lemmas.List.{append-nil}
use Rattle.std.proofs.lemmas.List.Folds.{list_all-append}
use Rattle.std.specs.List.{list_all, flat_map}
use Rattle.fw_op.specs.declared.reply.Name.{Name}
use Rattle.fw_op.specs.Replies.{name_bytes, name_fits, AreNames}
use Rattle.fw_wire.proofs.Fronts.{same_front}

-- names that begin bytes are one
same_name : (a b : Name) (r s : List ℕ) → name_bytes a ++ r ≡ name_bytes b ++ s → (a ≡ b) × (r ≡ s)
same_name a b r s e =
    let owner : a.owner ≡ b.owner = cc in
    let size : length a.key ≡ length b.key = cc in
    let left : a.key ++ r ≡ b.key ++ s = cc in
    let both = same_front a.key b.key r s size left in
    let whole : a ≡ b = ap₂ (λ (n : ℕ) (k : List ℕ). record { owner = n; key = k }) owner both.0 in
    (whole, both.1)

-- after the first names, what is left is the others
pub left_names : (xs ys : List Name) (left rest : List ℕ) (n : ℕ) → length ys ≡ length xs + n → flat_map name_bytes xs ++ left ≡ flat_map name_bytes ys ++ rest
    → (more : List Name) × (length more ≡ n) × (ys ≡ xs ++ more) × (left ≡ flat_map name_bytes more ++ rest)
left_names [] ys left rest n size e = (ys, omega arith, refl, e)
left_names (x ∷ xs) [] left rest n size e = absurd (omega arith)
left_names (x ∷ xs) (y ∷ ys) left rest n size e =
    let split : name_bytes x ++ (flat_map name_bytes xs ++ left) ≡ name_bytes y ++ (flat_map name_bytes ys ++ rest) =
    sym (append_assoc (name_bytes x) (flat_map name_bytes xs) left) ∙ e ∙ append_assoc (name_bytes y) (flat_map name_bytes ys) rest in
    let first = same_name x y (flat_map name_bytes xs ++ left) (flat_map name_bytes ys ++ rest) split in
    let later = left_names xs ys left rest n (omega arith) first.1 in
    (later.0, later.1, ap₂ (λ (n : Name) (ns : List Name). n ∷ ns) (sym first.0) later.2, later.3)

-- so many names, of which the next one can't be read
pub no_names : (whole left rest : List ℕ) (xs ys : List Name) → whole ≡ flat_map name_bytes xs ++ left → length xs < length ys
    → ((a : Name) (r : List ℕ) → name_fits 8 a ≡ true → left ≢ name_bytes a ++ r) → list_all (name_fits 8) ys ≡ true → whole ≢ flat_map name_bytes ys ++ rest
no_names whole left rest xs ys is fewer none all e =
    let others = left_names xs ys left rest (length ys - length xs) (omega arith) (sym is ∙ e) in
    let split : (list_all (name_fits 8) xs && list_all (name_fits 8) others.0) ≡ true = sym (list_all-append (name_fits 8) xs others.0) ∙ sym (ap (list_all (name_fits 8)) others.2) ∙ all in
    starts others.0 (omega (arith, others.1)) (and_parts (list_all (name_fits 8) xs) (list_all (name_fits 8) others.0) split).1 others.3
  where
    starts : (more : List Name) → 0 < length more → list_all (name_fits 8) more ≡ true → left ≡ flat_map name_bytes more ++ rest → ⊥
    starts [] some fits is = omega (arith, some)
    starts (a ∷ more) some fits is =
        none a (flat_map name_bytes more ++ rest) (and_parts (name_fits 8 a) (list_all (name_fits 8) more) fits).0 (is ∙ append_assoc (name_bytes a) (flat_map name_bytes more) rest)

ended : (more : List Name) → length more ≡ 0 → more ≡ []
ended [] none = refl
ended (a ∷ more) none = absurd (omega (arith, none))

-- as many names that begin the same bytes are the same
pub same_names : (left rest : List ℕ) (xs ys : List Name) → length xs ≡ length ys → flat_map name_bytes xs ++ left ≡ flat_map name_bytes ys ++ rest → (xs ≡ ys) × (left ≡ rest)
same_names left rest xs ys size e =
    let others = left_names xs ys left rest 0 (omega arith) e in
    let none : others.0 ≡ [] = ended others.0 others.1 in
    (sym (others.2 ∙ ap (λ more. xs ++ more) none ∙ append-nil xs), others.3 ∙ ap (λ more. flat_map name_bytes more ++ rest) none)

-- a count and the names after it, as they were taken
pub counted : (old left : List ℕ) (n : ℕ) (names : List Name) → old ≡ n ∷ left → old ≡ length names ∷ flat_map name_bytes names → (length names ≡ n) × (left ≡ flat_map name_bytes names ++ [])
counted old left n names taken is =
    let size : length names ≡ n = cc in
    let after : left ≡ flat_map name_bytes names = cc in
    (size, after ∙ sym (append-nil (flat_map name_bytes names)))

-- the bytes begin with so many names, and the rest is left
abbrev pub BeginsWith : List ℕ → List ℕ → ℕ → Type 0
BeginsWith whole left count = (names : List Name) × (whole ≡ flat_map name_bytes names ++ left) × (length names ≡ count) × (list_all (name_fits 8) names ≡ true)

flat : (xs : List Name) (n : Name) → flat_map name_bytes (xs ++ n ∷ []) ≡ flat_map name_bytes xs ++ name_bytes n
flat [] n = append-nil (name_bytes n)
flat (x ∷ xs) n = ap (λ rest. name_bytes x ++ rest) (flat xs n) ∙ sym (append_assoc (name_bytes x) (flat_map name_bytes xs) (name_bytes n))

-- and with one name more
pub one_more : (whole left next : List ℕ) (count : ℕ) (n : Name) → BeginsWith whole left count → left ≡ name_bytes n ++ next → name_fits 8 n ≡ true → BeginsWith whole next (count + 1)
one_more whole left next count n begun is fits =
    let names = begun.0 in
    let read : whole ≡ flat_map name_bytes (names ++ n ∷ []) ++ next =
    begun.1 ∙ ap (λ rest. flat_map name_bytes names ++ rest) is ∙ sym (append_assoc (flat_map name_bytes names) (name_bytes n) next) ∙ sym (ap (λ front. front ++ next) (flat names n)) in
    let all : list_all (name_fits 8) (names ++ n ∷ []) ≡ true =
    list_all-append (name_fits 8) names (n ∷ []) ∙ and_from (list_all (name_fits 8) names) (list_all (name_fits 8) (n ∷ [])) begun.3 (and_from (name_fits 8 n) true fits refl) in
    (names ++ n ∷ [], read, omega (arith, length-append names (n ∷ []), begun.2), all)

-- where no name comes next, these aren't more names
pub not_names : (whole left : List ℕ) (done count : ℕ) → BeginsWith whole left done → done < count → ((a : Name) (r : List ℕ) → name_fits 8 a ≡ true → left ≢ name_bytes a ++ r) → AreNames count whole → ⊥
not_names whole left done count begun fewer none are =
    no_names whole left [] begun.0 are.0 begun.1 (omega (arith, begun.2, are.2)) none are.3 (are.1 ∙ sym (append-nil (flat_map name_bytes are.0)))

-- where as many were looked at, these are names if nothing is left
pub are_all : (whole left : List ℕ) (done count : ℕ) → BeginsWith whole left done → done ≡ count → left ≡ [] → AreNames count whole
are_all whole left done count begun same ended =
    (begun.0, begun.1 ∙ ap (λ rest. flat_map name_bytes begun.0 ++ rest) ended ∙ append-nil (flat_map name_bytes begun.0), begun.2 ∙ same, begun.3)

pub are_no_more : (whole left : List ℕ) (done count : ℕ) → BeginsWith whole left done → done ≡ count → AreNames count whole → left ≡ []
are_no_more whole left done count begun same are =
    (same_names left [] begun.0 are.0 (begun.2 ∙ same ∙ sym are.2) (sym begun.1 ∙ are.1 ∙ sym (append-nil (flat_map name_bytes are.0)))).1
