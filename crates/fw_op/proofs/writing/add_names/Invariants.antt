-- The invariant of the loop of `add_names`.
use Rattle.std.proofs.Common.{◌≡◌, ◌∷◌, ◌++◌, take}
use Rattle.std.specs.List.{flat_map}
use Rattle.fw_op.specs.Replies.{name_word}
use Rattle.fw_op.proofs.writing.add_names.Given as goal

abbrev pub invariant-loop-name : goal.invariant-loop-name
invariant-loop-name l = l.text ≡ l.fn.text ++ flat_map (λ name. 32 ∷ name_word name) (take l.name-index l.names)
