-- The count has the view that the rule joins.
use Rattle.std.proofs.Common.{map, ap, sym, ◌∙◌}
use Rattle.std.specs.Option.{option_map}
use Rattle.fw_view.specs.Counted.{join}
use Rattle.fw_rules.specs.Views.{Start}
use Rattle.fw_owned.specs.Pieces.{change_of}
use Rattle.fw_heard.specs.Changed.{HeardChanges}
use Rattle.fw_heard.proofs.Counting.{same_join}
use Rattle.fw_heard.proofs.heard.Heard.join.Goals as goal

pub returns : goal.returns
returns c = λ me x sizes own view heard.
    let h = c.self.inside in
    ap (option_map Start) (c.join.ensures ∙ ap (λ v. join h.counted v c.args.own) (sym view) ∙ ap (λ o. join h.counted x.own.view o) (sym own))
    ∙ same_join h.counted h.changes.items c.self.invariant.0 c.self.invariant.1 me x
    (sizes ∙ ap (λ (v : HeardChanges). v.params) (sym c.self.view_is))
    (heard ∙ ap (λ (v : HeardChanges). map change_of v.changes) (sym c.self.view_is))
