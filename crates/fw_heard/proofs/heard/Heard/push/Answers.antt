-- The change that was added is counted.
use Rattle.std.proofs.Common.{◌≡◌, ◌<◌, ℕ, List, [], ◌∷◌, ◌++◌, get_or, length, ap, sym, subst, ◌∙◌}
use Rattle.std.specs.Prelude.{All}
use Rattle.fw_base.specs.declared.params.Params.{Params}
use Rattle.fw_view.specs.Counted.{frame_of, frame_with}
use Rattle.fw_owned.specs.declared.owned.OwnedChange.{OwnedChange}
use Rattle.fw_heard.specs.Changed.{HeardChanges, AreCounted}
use Rattle.fw_heard.proofs.Counting.{more_counted, all_more, last_of, if_ok, frame_for}
use Rattle.fw_heard.proofs.heard.Heard.push.Goals as goal

pub invariant_of-self-else-is_err : goal.invariant_of-self-else-is_err
invariant_of-self-else-is_err c =
    let old = c.self.inside.counted in
    let new = c.count-counted.new.counted in
    let changes = c.self.inside.changes.items in
    let change = c.args.change in
    let found = c.index.result.now in
    let one : (v i : ℕ) → frame_of new v i ≡ frame_with old found.view found.agree (frame_for found) v i = if_ok c.count-counted.result _ (sym c.is_err.ensures.value ∙ c.if-is_err.false) c.count-counted.ensures.counted in
    let len : length c.as_slice-len.result.now ≡ length changes = ap length c.as_slice-len.ensures.value in
    let same : found ≡ change = c.index.ensures ∙ ap (λ (l : List OwnedChange). get_or l (length c.as_slice-len.result.now) found) c.in_ok-push.ensures.items ∙ ap (λ k. get_or (changes ++ change ∷ []) k found) len ∙ last_of changes change found in
    let counted : AreCounted new (changes ++ change ∷ []) = more_counted old new changes change c.self.invariant.0 (λ v i. one v i ∙ ap (λ (x : OwnedChange). frame_with old x.view x.agree (frame_for x) v i) same) in
    let view : change.view < old.params.views = subst (λ (h : HeardChanges). change.view < h.params.views) (sym c.self.view_is) c.requires in
    let below : All (λ k. k.view < new.params.views) (changes ++ change ∷ []) = subst (λ (p : Params). All (λ k. k.view < p.views) (changes ++ change ∷ [])) (sym c.count-counted.ensures.params) (all_more old.params changes change c.self.invariant.1 view) in
    subst (λ (l : List OwnedChange). AreCounted new l × All (λ k. k.view < new.params.views) l) (sym c.in_ok-push.ensures.items) (counted, below)
