-- A log over more frames, and what a pool keeps after one more input.
use Rattle.std.proofs.Common.{◌≡◌, ℕ, suc, ◌+◌, ◌≤◌, List, [], ◌∷◌, ◌++◌, Bool, true, false, ◌||◌, ◌&&◌, not, length, map, All, Option, Some, None, slice_get, refl, sym, ap, ap₂, ◌∙◌, arith}
use Rattle.std.proofs.lemmas.List.{length-append}
use Rattle.std.proofs.lemmas.List.Elements.{All-nil, All-cons, All-head, All-tail}
use Rattle.fw_base.specs.declared.params.Params.{Params}
use Rattle.fw_base.specs.declared.seat.Seat.{Seat}
use Rattle.fw_step.specs.Fitting.{is_correct}
use Rattle.fw_trace.specs.declared.Sent.{Sent}
use Rattle.fw_trace.specs.Trace.{was_delivered, is_frame, from_seat}
use Rattle.fw_node.specs.declared.outbox.Sent as sending
use Rattle.fw_node.specs.Histories.{out_of}
use Rattle.fw_rules.specs.World.{bytes_of}
use Rattle.fw_rules.specs.declared.limits.TheConstants.{MOST_FRAMES, MOST_BYTES}
use Rattle.fw_pool.specs.declared.note.Note.{Note}
use Rattle.fw_pool.specs.declared.note.Note.TheVariants as notes
use Rattle.fw_pool.specs.Notes.{Frames, Log, IsWithin, logged, log_of, delivery, place_of}
use Rattle.fw_pool.specs.Due.{is_marked, due_of}
use Rattle.fw_pool.specs.Pooled.{Holds}
use Rattle.fw_pool.proofs.Places.{slice_get_grown}

within_grown : (n m : ℕ) → n ≤ m → (note : Note) → IsWithin n note → IsWithin m note
within_grown n m le (notes.Delivery k) within = omega arith
within_grown n m le (notes.Tick seat) within = tt
within_grown n m le (notes.Submission seat op) within = tt

all_grown : (n m : ℕ) → n ≤ m → (log : List Note) → All (IsWithin n) log → All (IsWithin m) log
all_grown n m le [] within = All-nil _
all_grown n m le (note ∷ log) within =
    All-cons (IsWithin m) note log (within_grown n m le note (All-head (IsWithin n) note log within)) (all_grown n m le log (All-tail (IsWithin n) note log within))

logged_grown : (frames more : Frames) (note : Note) → IsWithin (length frames) note → logged (frames ++ more) note ≡ logged frames note
logged_grown frames more (notes.Delivery k) within = ap (delivery k) (slice_get_grown frames more k within)
logged_grown frames more (notes.Tick seat) within = refl
logged_grown frames more (notes.Submission seat op) within = refl

-- the log stands for the same over more frames
pub log_grown : (frames more : Frames) (log : List Note) → All (IsWithin (length frames)) log → log_of (frames ++ more) log ≡ log_of frames log
log_grown frames more [] within = refl
log_grown frames more (note ∷ log) within =
    ap₂ (λ (l : _) (ls : Log). l ∷ ls) (logged_grown frames more note (All-head (IsWithin (length frames)) note log within))
    (log_grown frames more log (All-tail (IsWithin (length frames)) note log within))

-- each frame that is sent is pooled
sent_count : (seat : Seat) (out : List sending.Sent) → length (from_seat seat (map out_of out)) ≡ length out
sent_count seat [] = refl
sent_count seat (o ∷ out) = ap suc (sent_count seat out)

pub count_after : (seat : Seat) (frames : Frames) (out : List sending.Sent) → length (frames ++ from_seat seat (map out_of out)) ≡ length frames + length out
count_after seat frames out = length-append frames (from_seat seat (map out_of out)) ∙ ap (λ n. length frames + n) (sent_count seat out)

delivery_frame : (k : ℕ) (o : Option (Sent (List ℕ))) → (delivery k o).frame ≡ Some k
delivery_frame k (Some s) = refl
delivery_frame k None = refl

-- the place that is logged
logged_place : (frames : Frames) (note : Note) → (logged frames note).frame ≡ place_of note
logged_place frames (notes.Delivery k) = delivery_frame k (slice_get frames k)
logged_place frames (notes.Tick seat) = refl
logged_place frames (notes.Submission seat op) = refl

-- a mark more that stands makes nothing due
due_less : (correct : Seat → Bool) (o : Option (Sent (List ℕ))) (a b : Bool) → due_of correct b o ≡ false → due_of correct (a || b) o ≡ false
due_less correct None a b none = refl
due_less correct (Some s) a b none = by (correct s.to) a b none
  where
    by : (fit a b : Bool) → (fit && not b) ≡ false → (fit && not (a || b)) ≡ false
    by false a b none = refl
    by true true b none = refl
    by true false b none = none

-- what a pool keeps after a note more, and more frames
pub holds_more : (p : Params) (faulty : List Seat) (frames more all : Frames) (marks new : List Bool) (log logs : List Note) (note : Note) (due bytes sum : ℕ) → Holds p faulty frames marks log due bytes → IsWithin (length frames) note
    → all ≡ frames ++ more → logs ≡ note ∷ log → length new ≡ length all → ((k : ℕ) → is_marked new k ≡ (is_frame k (place_of note) || is_marked marks k))
    → sum ≡ bytes_of (frames ++ more) → length (frames ++ more) ≤ MOST_FRAMES → sum ≤ MOST_BYTES → Holds p faulty all new logs due sum
holds_more p faulty frames more all marks new log logs note due bytes sum holds within grown noted count marked total few small =
    let le : length frames ≤ length all = (let l = length-append frames more in rw grown (omega arith)) in
    record {
      sizes = holds.sizes;
      within = rw noted (All-cons (IsWithin (length all)) note log (within_grown (length frames) (length all) le note within) (all_grown (length frames) (length all) le log holds.within));
      count = count;
      marked = λ k.
          marked k
          ∙ ap₂ (λ (a b : Bool). a || b) (ap (is_frame k) (sym (logged_place all note)))
          (holds.marked k ∙ ap (λ (l : Log). was_delivered l k) (sym (log_grown frames more log holds.within) ∙ ap (λ (f : Frames). log_of f log) (sym grown)))
          ∙ ap (λ (l : List Note). was_delivered (log_of all l) k) (sym noted);
      cursor = omega arith;
      passed = λ k before.
          ap₂ (λ (m : Bool) (o : Option (Sent (List ℕ))). due_of (is_correct p faulty) m o) (marked k) (ap (λ (f : Frames). slice_get f k) grown ∙ slice_get_grown frames more k (let c = holds.cursor in omega arith))
          ∙ due_less (is_correct p faulty) (slice_get frames k) (is_frame k (place_of note)) (is_marked marks k) (holds.passed k before);
      sum = total ∙ ap bytes_of (sym grown);
      few = rw grown few;
      small = small;
    }

-- what is seen of the log after it
pub log_more : (frames more all : Frames) (log logs : List Note) (note : Note) → All (IsWithin (length frames)) log → IsWithin (length frames) note → all ≡ frames ++ more → logs ≡ note ∷ log
    → log_of all logs ≡ logged frames note ∷ log_of frames log
log_more frames more all log logs note within one grown noted =
    ap₂ log_of grown noted ∙ log_grown frames more (note ∷ log) (All-cons (IsWithin (length frames)) note log one within)
