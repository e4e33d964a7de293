-- Places of a list, and what is found from there on.
use Rattle.std.proofs.Common.{◌≡◌, ℕ, zero, suc, ◌+◌, ◌<◌, ◌≤◌, List, [], ◌∷◌, ◌++◌, Bool, true, false, ◌||◌, ◌&&◌, not, length, drop, get_or, Some, None, slice_get, refl, sym, ap, ap₂, ◌∙◌, arith, add-one, drop-cons, inl, inr}
use Rattle.std.proofs.lemmas.List.{drop_all}
use Rattle.std.proofs.lemmas.Option.{slice_get_within, get_or_from_slice_get, slice_get_cases, slice_get_read}
use Rattle.fw_base.specs.declared.seat.Seat.{Seat}
use Rattle.fw_op.specs.declared.op.Op.{Op}
use Rattle.fw_trace.specs.declared.Sent.{Sent}
use Rattle.fw_trace.specs.Trace.{Rules, was_delivered, next_frame, rests_from}
use Rattle.fw_pool.specs.Notes.{Frames, Log}
use Rattle.fw_pool.specs.Due.{is_marked, is_due, is_settled, due_of, due_at}

-- the list from a place on, where an item stands there
pub drop_at : {A : Type 0} (xs : List A) (k : ℕ) (x : A) → slice_get xs k ≡ Some x → drop k xs ≡ x ∷ drop (k + 1) xs
drop_at xs k x found =
    let inside : k < length xs = slice_get_within xs k x found in
    drop-cons xs k x inside ∙ ap₂ (λ y n. y ∷ drop n xs) (get_or_from_slice_get xs k x x found) (sym (add-one k))

-- the same, where the item was read there
pub drop_read : {A : Type 0} (xs : List A) (k : ℕ) (x : A) → k < length xs → x ≡ get_or xs k x → drop k xs ≡ x ∷ drop (k + 1) xs
drop_read xs k x inside read = drop_at xs k x (slice_get_read xs _ k x refl inside read)

pub slice_get_grown : {A : Type 0} (xs ys : List A) (k : ℕ) → k < length xs → slice_get (xs ++ ys) k ≡ slice_get xs k
slice_get_grown [] ys k inside = absurd (omega arith)
slice_get_grown (x ∷ xs) ys zero inside = refl
slice_get_grown (x ∷ xs) ys (suc k) inside = slice_get_grown xs ys k (omega arith)

-- a mark more, which doesn't stand
pub marked_more : (marks : List Bool) (k : ℕ) → is_marked (marks ++ false ∷ []) k ≡ is_marked marks k
marked_more [] zero = refl
marked_more [] (suc k) = refl
marked_more (m ∷ marks) zero = refl
marked_more (m ∷ marks) (suc k) = marked_more marks k

-- ---- what is due

on_true : {A : Type 0} (b : Bool) (x y : A) → b ≡ true → elim b [ true ↦ x | false ↦ y ] ≡ x
on_true b x y e = rw e refl

on_false : {A : Type 0} (b : Bool) (x y : A) → b ≡ false → elim b [ true ↦ x | false ↦ y ] ≡ y
on_false b x y e = rw e refl

-- the marks say what was delivered
abbrev pub AreMarks : List Bool → Log → Type 0
AreMarks marks log = (k : ℕ) → is_marked marks k ≡ was_delivered log k

-- the place of a frame that was read is due as the frame is
pub due_read : (correct : Seat → Bool) (marks : List Bool) (frames : Frames) (k : ℕ) (s : Sent (List ℕ)) → slice_get frames k ≡ Some s → due_at correct marks frames k ≡ is_due correct (is_marked marks k) s
due_read correct marks frames k s found = ap (due_of correct (is_marked marks k)) found

-- no frame before a place is due
pub next_from : (r : Rules (List ℕ) Op) (marks : List Bool) (log : Log) (frames : Frames) (k : ℕ) → AreMarks marks log → k ≤ length frames
    → ((j : ℕ) → j < k → due_at r.correct marks frames j ≡ false) → next_frame r log 0 frames ≡ next_frame r log k (drop k frames)
next_from r marks log frames zero same within none = refl
next_from r marks log frames (suc k) same within none =
    elim ((slice_get_cases frames k).1) [
      | inl some ↦
          let s = some.0 in
          let found : slice_get frames k ≡ Some s = some.2 in
          let more : suc k ≡ k + 1 = omega arith in
          let passed : (r.correct s.to && not (was_delivered log k)) ≡ false =
          ap (λ d. r.correct s.to && not d) (sym (same k)) ∙ sym (due_read r.correct marks frames k s found) ∙ none k (omega arith) in
          next_from r marks log frames k same (omega arith) (λ j below. none j (omega arith))
          ∙ ap (next_frame r log k) (drop_at frames k s found)
          ∙ on_false (r.correct s.to && not (was_delivered log k)) (Some k) (next_frame r log (k + 1) (drop (k + 1) frames)) passed
          ∙ ap (λ n. next_frame r log n (drop n frames)) (sym more)
      | inr past ↦ absurd (let beyond : length frames ≤ k = past.0 in omega arith)
    ]

-- no frame is due
pub next_none : (r : Rules (List ℕ) Op) (marks : List Bool) (log : Log) (frames : Frames) (k : ℕ) → AreMarks marks log → k ≡ length frames
    → ((j : ℕ) → j < k → due_at r.correct marks frames j ≡ false) → next_frame r log 0 frames ≡ None
next_none r marks log frames k same end none =
    next_from r marks log frames k same (omega arith) none ∙ ap (next_frame r log k) (drop_all k frames (omega arith))

-- the frame at a place is the first that is due
pub next_some : (r : Rules (List ℕ) Op) (marks : List Bool) (log : Log) (frames : Frames) (k : ℕ) → AreMarks marks log → k < length frames
    → ((j : ℕ) → j < k → due_at r.correct marks frames j ≡ false) → due_at r.correct marks frames k ≡ true → next_frame r log 0 frames ≡ Some k
next_some r marks log frames k same within none due =
    elim ((slice_get_cases frames k).1) [
      | inl some ↦
          let s = some.0 in
          let found : slice_get frames k ≡ Some s = some.2 in
          let is : (r.correct s.to && not (was_delivered log k)) ≡ true =
          ap (λ d. r.correct s.to && not d) (sym (same k)) ∙ sym (due_read r.correct marks frames k s found) ∙ due in
          next_from r marks log frames k same (omega arith) none
          ∙ ap (next_frame r log k) (drop_at frames k s found)
          ∙ on_true (r.correct s.to && not (was_delivered log k)) (Some k) (next_frame r log (k + 1) (drop (k + 1) frames)) is
      | inr past ↦ absurd (let beyond : length frames ≤ k = past.0 in omega arith)
    ]

-- one frame more of those that rest
pub rests_more : (r : Rules (List ℕ) Op) (marks : List Bool) (log : Log) (frames : Frames) (k : ℕ) (s : Sent (List ℕ)) (d b : Bool) → AreMarks marks log → k < length frames → s ≡ get_or frames k s
    → is_marked marks k ≡ d → is_settled r.correct d s ≡ b → rests_from r log k (drop k frames) ≡ (b && rests_from r log (k + 1) (drop (k + 1) frames))
rests_more r marks log frames k s d b same inside read mark test =
    let settled : (not (r.correct s.from && r.correct s.to) || was_delivered log k) ≡ b = ap (λ x. not (r.correct s.from && r.correct s.to) || x) (sym (same k) ∙ mark) ∙ test in
    ap (rests_from r log k) (drop_read frames k s inside read) ∙ ap (λ t. t && rests_from r log (k + 1) (drop (k + 1) frames)) settled
