-- What the bytes of a frame show, and which hashed texts a run keeps of them. Bytes that are no frame show and keep nothing.
use Rattle.std.specs.Prelude.{ℕ, List, [], ◌∷◌, ◌++◌, map, flat_map, Option, None, Some}
use Rattle.fw_text.specs.Texts.{hash, Value}
use Rattle.fw_frame.specs.Frames.{PlainFrame}
use Rattle.fw_frame.specs.Parts.{carried, texts, with_digest}
use Rattle.fw_frame.specs.Undoing.{frame_in}
use Rattle.fw_frame.specs.declared.shown.Shown.{Shown}
use Rattle.fw_frame.specs.declared.shown.Text.{Text}
use Rattle.fw_secret.specs.Dealt.{Origin, dealt}
use Rattle.fw_directory.specs.Directories.{PlainDirectory}
use Rattle.fw_valid.specs.Validity.{shown}

-- what a frame has, where there is one
abbrev pub of_frame : {Item : Type 0} → (PlainFrame → List Item) → Option PlainFrame → List Item
of_frame items None = []
of_frame items (Some frame) = items frame

-- ---- shown

-- the values that a frame shows, each with its place, in its order
abbrev pub shown_by : PlainDirectory → PlainFrame → List Shown
shown_by d frame = shown d (carried d.params hash frame)

abbrev pub shown_in : PlainDirectory → List ℕ → List Shown
shown_in d bytes = of_frame (shown_by d) (frame_in d.params bytes)

-- ---- kept

-- the hashed texts of a shown value: that of the value that was dealt for its place, and its own
abbrev pub value_texts : Origin → Shown → List Text
value_texts o pair = with_digest hash (Value pair.place (dealt o pair.place)) ∷ with_digest hash (Value pair.place pair.value) ∷ []

-- those of the values that a frame shows, and then its texts
abbrev pub kept_by : Origin → PlainDirectory → PlainFrame → List Text
kept_by o d frame = flat_map (value_texts o) (shown_by d frame) ++ map (with_digest hash) (texts d.params hash frame)

abbrev pub kept_in : Origin → PlainDirectory → List ℕ → List Text
kept_in o d bytes = of_frame (kept_by o d) (frame_in d.params bytes)
