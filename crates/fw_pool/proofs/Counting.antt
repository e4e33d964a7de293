-- One input more of a log is counted.
use Rattle.std.proofs.Common.{◌≡◌, ℕ, zero, suc, ◌+◌, ◌<◌, Bool, cond, List, [], ◌∷◌, length, drop, Some, None, slice_get, sym, ap, ◌∙◌, arith}
use Rattle.fw_base.specs.declared.seat.Seat.{Seat}
use Rattle.fw_pool.specs.declared.note.Note.{Note}
use Rattle.fw_pool.specs.Notes.{Frames, logged, log_of}
use Rattle.fw_pool.specs.Counts.{is_submission, submissions}
use Rattle.fw_pool.proofs.Places.{drop_at}

-- a place inside a list isn't empty
pub none_inside : {A : Type 0} (xs : List A) (k : ℕ) → k < length xs → None ≡ slice_get xs k → ⊥
none_inside [] k inside none = absurd (omega arith)
none_inside (x ∷ xs) zero inside none = absurd (cc)
none_inside (x ∷ xs) (suc k) inside none = none_inside xs k (omega arith) none

pub submissions_more : (correct : Seat → Bool) (frames : Frames) (log : List Note) (k : ℕ) (note : Note) (b : Bool) → slice_get log k ≡ Some note → is_submission correct (logged frames note).seat (logged frames note).input ≡ b
    → cond b (submissions correct (log_of frames (drop (k + 1) log)) + 1) (submissions correct (log_of frames (drop (k + 1) log))) ≡ submissions correct (log_of frames (drop k log))
submissions_more correct frames log k note b found test =
    let rest = submissions correct (log_of frames (drop (k + 1) log)) in
    sym (ap (λ l. submissions correct (log_of frames l)) (drop_at log k note found) ∙ ap (λ (t : Bool). cond t (rest + 1) rest) test)
