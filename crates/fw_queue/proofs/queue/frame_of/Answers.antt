-- The frame of the one that was found.
use Rattle.std.proofs.Common.{◌≡◌, List, ℕ, Option, Some, None, ap, ◌∙◌}
use Rattle.std.specs.Option.{option_map}
use Rattle.fw_queue.specs.declared.queue.KeptFrame.{KeptFrame}
use Rattle.fw_queue.proofs.Frames.{found}
use Rattle.fw_queue.proofs.queue.frame_of.Goals as goal

pub returns-in-Some : goal.returns-in-Some
returns-in-Some c =
    ap (λ (f : List ℕ). Some f) c.items.ensures
    ∙ ap (option_map (λ (k : KeptFrame). k.frame)) c.in-Some.ensures
    ∙ found c.args.kept.now c.args.number

pub returns-in-None : goal.returns-in-None
returns-in-None c =
    ap (option_map (λ (k : KeptFrame). k.frame)) c.in-None.ensures
    ∙ found c.args.kept.now c.args.number
