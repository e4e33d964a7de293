-- What a change of one record makes of all.
use Rattle.std.proofs.Common.{◌≡◌, ℕ, List, Some, None, get_or, set, Bool, refl, sym, ap, ◌∙◌}
use Rattle.std.specs.Prelude.{Option, insert, bytes_eq, if◌then◌else◌}
use Rattle.fw_op.specs.declared.reply.Name.{Name}
use Rattle.fw_op.specs.declared.reply.Reply.{Reply}
use Rattle.fw_op.specs.declared.start.Start.{Start}
use Rattle.fw_store.specs.Store.{name_of, record_of, changed, added, own, swapped}
use Rattle.fw_store.specs.Places.{StandsAt, IsMissingAt}

own-present : (o : Option Start) (r : Start) (a d : Reply × List Start) → o ≡ Some r → own o a d ≡ d
own-present None r a d e = cc
own-present (Some q) r a d e = refl

own-absent : (o : Option Start) (a d : Reply × List Start) → o ≡ None → own o a d ≡ a
own-absent None a d e = refl
own-absent (Some q) a d e = cc

-- the record that stands here was changed
pub own-changed : (n : Name) (rs : List Start) (k : ℕ) (d : Start) (how : Start → Start) (a : Reply × List Start) (reply : Reply) (after : List Start) → StandsAt n rs k → after ≡ set rs k (how (get_or rs k d)) → after ≡ (own (record_of n rs) a (reply, changed how n rs)).1
own-changed n rs k d how a reply after at done =
    done ∙ sym (at.changes how d) ∙ sym (ap (λ (o : Reply × List Start). o.1) (own-present (record_of n rs) (get_or rs k d) a (reply, changed how n rs) (at.finds d)))

-- a record was added in its place
pub own-added : (n : Name) (rs : List Start) (k : ℕ) (new : Start) (d : Reply × List Start) (reply : Reply) (after : List Start) → IsMissingAt n rs k → name_of new ≡ n → after ≡ insert rs k new → after ≡ (own (record_of n rs) (reply, added new rs) d).1
own-added n rs k new d reply after at named done =
    done ∙ sym (at.adds new named) ∙ sym (ap (λ (o : Reply × List Start). o.1) (own-absent (record_of n rs) (reply, added new rs) d at.none))

pub own-replied : (n : Name) (rs : List Start) (k : ℕ) (d : Start) (a : Reply × List Start) (reply : Reply) (after : List Start) → StandsAt n rs k → reply ≡ (own (record_of n rs) a (reply, after)).0
own-replied n rs k d a reply after at = sym (ap (λ (o : Reply × List Start). o.0) (own-present (record_of n rs) (get_or rs k d) a (reply, after) (at.finds d)))

swapped-found : (o : Option Start) (r : Start) (old : List ℕ) (a e d : Reply × List Start) (t : Bool) → o ≡ Some r → bytes_eq r.value old ≡ t → swapped o old a e d ≡ (if t then d else e)
swapped-found None r old a e d t found same = cc
swapped-found (Some q) r old a e d t found same = let here : q ≡ r = cc in rw (ap (λ (s : Start). bytes_eq s.value old) here ∙ same) refl

-- what cas makes of a record that stands here
pub swapped-here : (n : Name) (rs : List Start) (k : ℕ) (r : Start) (old : List ℕ) (a e d : Reply × List Start) (t : Bool) → StandsAt n rs k → t ≡ bytes_eq (get_or rs k r).value old → swapped (record_of n rs) old a e d ≡ (if t then d else e)
swapped-here n rs k r old a e d t at same = swapped-found (record_of n rs) (get_or rs k r) old a e d t (at.finds r) (sym same)
