-- The frame of the one that was found.
use Rattle.std.proofs.Common.{List, ℕ, map, Some, ap, sym, ◌∙◌}
use Rattle.std.specs.Option.{option_map}
use Rattle.fw_view.specs.declared.changes.KeptChange.{KeptChange}
use Rattle.fw_view.specs.Counted.{frame_among, added_of}
use Rattle.fw_view.proofs.Frames.{found}
use Rattle.fw_view.proofs.changes.Changes.frame.Goals as goal

pub returns-in-Some : goal.returns-in-Some
returns-in-Some c =
    rw (sym c.self.view_is)
    (ap (λ (f : List ℕ). Some f) c.items-in-Some.ensures
    ∙ ap (option_map (λ (k : KeptChange). k.frame)) c.in-Some.ensures
    ∙ found c.items.result.now c.args.view c.args.agree
    ∙ ap (λ l. frame_among (map added_of l) c.args.view c.args.agree) c.items.ensures)

pub returns-in-None : goal.returns-in-None
returns-in-None c =
    rw (sym c.self.view_is)
    (ap (option_map (λ (k : KeptChange). k.frame)) c.in-None.ensures
    ∙ found c.items.result.now c.args.view c.args.agree
    ∙ ap (λ l. frame_among (map added_of l) c.args.view c.args.agree) c.items.ensures)
