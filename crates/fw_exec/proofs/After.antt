-- What an executor keeps and sends after one more input of a history.
use Rattle.std.proofs.Common.{◌≡◌, ℕ, List, Option, ◌∷◌, ◌++◌, ap, subst, ◌∙◌}
use Rattle.std.specs.Prelude.{Result, OnOk}
use Rattle.fw_base.specs.declared.seat.Seat.{Seat}
use Rattle.fw_frame.specs.View.{Entry}
use Rattle.fw_trace.specs.declared.Input.TheVariants.{Heard}
use Rattle.fw_trace.specs.Executor as executors
use Rattle.fw_trace.specs.Role.{kept, sends}
use Rattle.fw_node.specs.Histories.{Taken, History, Out}
use Rattle.fw_exec.specs.Kept.{Keeps, Speech, next}

pub stands_more : (sp : Speech) (old new : Keeps) (h : History) (i : Taken) → new ≡ (next sp old i).0 → old ≡ kept (executors.executor_role sp) h → new ≡ kept (executors.executor_role sp) (i ∷ h)
stands_more sp old new h i step stands = step ∙ ap (λ x. (next sp x i).0) stands

pub sent_more : (sp : Speech) (old : Keeps) (out new : Out) (h : History) (i : Taken) → new ≡ out ++ (next sp old i).1 → old ≡ kept (executors.executor_role sp) h → new ≡ out ++ sends (executors.executor_role sp) (i ∷ h)
sent_more sp old out new h i sent stands = sent ∙ ap (λ x. out ++ (next sp x i).1) stands

-- ---- with Ok

-- one input is another
pub keeps_of : {T E : Type 0} (r : Result T E) (sp : Speech) (x new : Keeps) (i j : Taken) → i ≡ j → OnOk r (new ≡ (next sp x i).0) → OnOk r (new ≡ (next sp x j).0)
keeps_of r sp x new i j same keeps = subst (λ (k : Taken). OnOk r (new ≡ (next sp x k).0)) same keeps

pub sends_of : {T E : Type 0} (r : Result T E) (sp : Speech) (x : Keeps) (out new : Out) (i j : Taken) → i ≡ j → OnOk r (new ≡ out ++ (next sp x i).1) → OnOk r (new ≡ out ++ (next sp x j).1)
sends_of r sp x out new i j same sent = subst (λ (k : Taken). OnOk r (new ≡ out ++ (next sp x k).1)) same sent

-- what a frame means
pub heard_sends : {T E : Type 0} (r : Result T E) (sp : Speech) (x : Keeps) (out new : Out) (from : Seat) (bytes : List ℕ) (a : Option (ℕ × Entry)) (w : Option ℕ) → a ≡ sp.agreed from bytes → w ≡ sp.wanted from bytes
    → OnOk r (new ≡ out ++ ((executors.hear_agreed sp x from bytes a).1 ++ executors.hear_want x from w)) → OnOk r (new ≡ out ++ (next sp x (Heard from bytes)).1)
heard_sends r sp x out new from bytes a w agrees wants sent =
    subst (λ (v : Option ℕ). OnOk r (new ≡ out ++ ((executors.hear_agreed sp x from bytes (sp.agreed from bytes)).1 ++ executors.hear_want x from v))) wants
    (subst (λ (b : Option (ℕ × Entry)). OnOk r (new ≡ out ++ ((executors.hear_agreed sp x from bytes b).1 ++ executors.hear_want x from w))) agrees sent)
